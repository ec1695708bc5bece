-- Which addresses the ranges of a scope have, and which scopes are there.
-- Plan: instructions follow one another, so an address is in one of them at most. A scope that an instruction is in is among the scopes by their first use,
-- which has none twice.
use Rattle.std.proofs.Common.{◌≡◌, ◌⊎◌, ◌↔◌, ℕ, zero, suc, ◌+◌, ◌<◌, ◌≤◌, Bool, true, false, ◌||◌, List, [], ◌∷◌, ◌++◌, map, reverse, Some, None}
use Rattle.std.proofs.Common.{refl, sym, ◌∙◌, ap, subst, arith, slice_get, inl, inr, true≢false, Contains, option_map}
use Rattle.std.specs.List.{AllZip, list_any, flat_map, position_or_len}
use Rattle.std.proofs.lemmas.Option.{slice_get-map}
use Rattle.std.proofs.lemmas.List.Folds.{list_any-append}
use Rattle.std.proofs.lemmas.List.Sorted.{list_any-IsPermutation, IsPermutation-reverse}
use Rattle.read_metadata.specs.Maps.{Maps}
use Rattle.mir_func.specs.declared.block.Block.{Block}
use Rattle.mir_func.specs.Positions.{position_of}
use Rattle.dwarf_line_table.specs.emit_code.declared.code.EncodedInstruction.{EncodedInstruction}
use Rattle.dwarf_line_table.specs.declared.source_and_code.SourceAndCode.{SourceAndCode}
use Rattle.dwarf_line_table.specs.Files.{with_new, first_uses}
use Rattle.dwarf_line_table.specs.Program.{function_end}
use Rattle.dwarf_line_table.specs.SourcePosition.{loc_of}
use Rattle.dwarf_line_table.proofs.FirstUses.{joined, lengthened}
use Rattle.scope_ways.specs.declared.scope.LexicalScope.{LexicalScope}
use Rattle.scope_ways.specs.declared.scope.Outer.TheVariants as outer
use Rattle.scope_ways.specs.Ways.{is_same, scopes_on}
use Rattle.scope_ways.proofs.Ways.{one_way}
use Rattle.scope_ranges.specs.declared.scope.Scope.{Scope}
use Rattle.scope_ranges.specs.Words.{ScopedWord, IsScoped, scope_of_loc, scopes_in}
use Rattle.scope_ranges.specs.Laws.{IsInScope, RangesAreOfScopedCode, EachScopeIsThere}
use Rattle.scope_ranges.proofs.Distinct.{has, AreDistinct, distinct_new, same_self, at_position}
use Rattle.scope_ranges.proofs.Entering.{in_tail, in_cases}
use Rattle.scope_ranges.proofs.Walked.{BeginAt, InWords, words_begin}

none_is_some : {A : Type 0} (a : A) → None ≡ Some a → ⊥
none_is_some a e = cc

some_is_some : {A : Type 0} (a b : A) → Some a ≡ Some b → a ≡ b
some_is_some a b e = cc

nothing_in : {A : Type 0} (x : A) → Contains [] x → ⊥
nothing_in x (k, below, e) = absurd (omega (arith, below))

-- ---- the word of an instruction

word_later : (v : ScopedWord) (ws : List ScopedWord) (a : ℕ) → BeginAt a ws → Contains ws v → a ≤ v.lo
word_later v [] a begin on = absurd (nothing_in v on)
word_later v (w ∷ ws) a begin on = elim (in_cases w ws v on) [
  | inl same ↦
      let at : v.lo ≡ w.lo = ap (λ (u : ScopedWord). u.lo) same in
      let first : a ≡ w.lo = begin.0 in
      omega (arith, at, first)
  | inr rest ↦
      let past : w.hi ≤ v.lo = word_later v ws w.hi begin.2 rest in
      let first : a ≡ w.lo = begin.0 in
      let long : w.lo < w.hi = begin.1 in
      omega (arith, past, first, long)
]

module _ (meta : Maps) (is_file : ℕ → Bool) (blocks : List Block) where
  entry_later : (es : List EncodedInstruction) (ws : List ScopedWord) (a : ℕ) (e : EncodedInstruction) → BeginAt a ws
      → AllZip (IsScoped meta is_file blocks) es ws → Contains es e → a ≤ e.address
  entry_later [] ws a e begin are on = absurd (nothing_in e on)
  entry_later (h ∷ es) [] a e begin are on = absurd are
  entry_later (h ∷ es) (w ∷ ws) a e begin are on = elim (in_cases h es e on) [
    | inl same ↦
        let at : w.lo ≡ e.address = are.0.lo ∙ ap (λ (d : EncodedInstruction). d.address) (sym same) in
        let first : a ≡ w.lo = begin.0 in
        omega (arith, at, first)
    | inr rest ↦
        let past : w.hi ≤ e.address = entry_later es ws w.hi e begin.2 are.1 rest in
        let first : a ≡ w.lo = begin.0 in
        let long : w.lo < w.hi = begin.1 in
        omega (arith, past, first, long)
  ]

  record WordOf (q : LexicalScope) (x : ℕ) (e : EncodedInstruction) (ws : List ScopedWord) : Type 0 where
    word : ScopedWord
    there : Contains ws word
    scoped : IsScoped meta is_file blocks e word
    through : InWords ws q x → Contains word.scopes q

  word_of : (q : LexicalScope) (x : ℕ) (es : List EncodedInstruction) (ws : List ScopedWord) (a : ℕ) (e : EncodedInstruction) → BeginAt a ws
      → AllZip (IsScoped meta is_file blocks) es ws → Contains es e → e.address ≤ x → x < e.address + e.size → WordOf q x e ws
  word_of q x [] ws a e begin are on from to = absurd (nothing_in e on)
  word_of q x (h ∷ es) [] a e begin are on from to = absurd are
  word_of q x (h ∷ es) (w ∷ ws) a e begin are on from to = by (in_cases h es e on) (word_of q x es ws w.hi e begin.2 are.1)
    where
      by : (e ≡ h) ⊎ Contains es e → (Contains es e → e.address ≤ x → x < e.address + e.size → WordOf q x e ws) → WordOf q x e (w ∷ ws)
      by (inl same) later = record {
        word = w;
        there = (zero, omega arith, refl);
        scoped = own;
        through = through;
      }
        where
          own : IsScoped meta is_file blocks e w
          own = subst (λ (d : EncodedInstruction). IsScoped meta is_file blocks d w) (sym same) are.0

          through : InWords (w ∷ ws) q x → Contains w.scopes q
          through (v, among, at) = elim (in_cases w ws v among) [
            | inl here ↦ subst (λ (u : ScopedWord). Contains u.scopes q) here at.0
            | inr rest ↦
                let past : w.hi ≤ v.lo = word_later v ws w.hi begin.2 rest in
                let end : w.hi ≡ e.address + e.size = own.hi in
                let lo : v.lo ≤ x = at.1 in
                absurd (omega (arith, past, end, lo, to))
          ]
      by (inr rest) later = record {
        word = found.word;
        there = in_tail w ws found.word found.there;
        scoped = found.scoped;
        through = through;
      }
        where
          found : WordOf q x e ws
          found = later rest from to

          through : InWords (w ∷ ws) q x → Contains found.word.scopes q
          through (v, among, at) = elim (in_cases w ws v among) [
            | inl here ↦
                let past : w.hi ≤ e.address = entry_later es ws w.hi e begin.2 are.1 rest in
                let end : v.hi ≡ w.hi = ap (λ (u : ScopedWord). u.hi) here in
                let hi : x < v.hi = at.2 in
                absurd (omega (arith, past, end, hi, from))
            | inr other ↦ found.through (v, other, at)
          ]

-- ---- the scopes of an instruction

module _ (meta : Maps) (is_file : ℕ → Bool) (f : SourceAndCode) (e : EncodedInstruction) (w : ScopedWord) (q : LexicalScope)
    (is : IsScoped meta is_file f.source.now.blocks e w) where
  scope_from : Contains w.scopes q → IsInScope meta is_file f e q
  scope_from on = elim is.leads [
    | inl leads ↦ record { way = is.way; leads = leads; among = subst (λ (ss : List LexicalScope). Contains ss q) is.scopes on }
    | inr none ↦
        absurd
        (nothing_in q
        (subst (λ (ss : List LexicalScope). Contains ss q) (is.scopes ∙ ap (scopes_on meta is_file) none.1) on))
  ]

  scope_to : IsInScope meta is_file f e q → Contains w.scopes q
  scope_to in_it = elim is.leads [
    | inl leads ↦
        subst (λ (ss : List LexicalScope). Contains ss q) (sym is.scopes)
        (subst (λ (way : List LexicalScope). Contains (scopes_on meta is_file way) q)
        (one_way meta (outer.Scope (scope_of_loc meta (loc_of f.source.now.blocks (position_of e.origin)))) in_it.way is.way in_it.leads leads) in_it.among)
    | inr none ↦ absurd (none.0 in_it.way in_it.leads)
  ]

word_there : (meta : Maps) (is_file : ℕ → Bool) (blocks : List Block) (e : EncodedInstruction) (es : List EncodedInstruction) (ws : List ScopedWord)
    → AllZip (IsScoped meta is_file blocks) es ws → Contains es e → (w : ScopedWord) × Contains ws w × IsScoped meta is_file blocks e w
word_there meta is_file blocks e [] ws are on = absurd (nothing_in e on)
word_there meta is_file blocks e (h ∷ es) [] are on = absurd are
word_there meta is_file blocks e (h ∷ es) (w ∷ ws) are on = elim (in_cases h es e on) [
  | inl same ↦ (w, (zero, omega arith, refl), subst (λ (d : EncodedInstruction). IsScoped meta is_file blocks d w) (sym same) are.0)
  | inr rest ↦
      let found = word_there meta is_file blocks e es ws are.1 rest in
      (found.0, in_tail w ws found.0 found.1, found.2)
]

pub of_scoped_code : RangesAreOfScopedCode
of_scoped_code meta is_file f scopes is stand e address among from to k s at =
    let blocks = f.source.now.blocks in
    let begin : BeginAt f.code.now.base is.words =
    words_begin meta is_file blocks f.code.now.entries is.words f.code.now.base (function_end f) stand is.instructions in
    let found = word_of meta is_file blocks s.place address f.code.now.entries is.words f.code.now.base e begin is.instructions among from to in
    let lo : found.word.lo ≤ address = omega (arith, found.scoped.lo, from) in
    let hi : address < found.word.hi = omega (arith, found.scoped.hi, to) in (
      λ covered. scope_from meta is_file f e found.word s.place found.scoped (found.through (((is.ranges k s at).cover address).0 covered)),
      λ in_it.
          ((is.ranges k s at).cover address).1
          (found.word, found.there, (scope_to meta is_file f e found.word s.place found.scoped in_it, lo, hi)),
    )

-- ---- which scopes are there

or_true : (z : Bool) → (z || true) ≡ true
or_true true = refl
or_true false = refl

contains_has : (q : LexicalScope) (known : List LexicalScope) → Contains known q → has q known ≡ true
contains_has q [] on = absurd (nothing_in q on)
contains_has q (s ∷ known) on = elim (in_cases s known q on) [
  | inl same ↦ ap (λ (z : Bool). z || has q known) (ap (is_same q) (sym same) ∙ same_self q)
  | inr rest ↦ ap (λ (z : Bool). is_same q s || z) (contains_has q known rest) ∙ or_true (is_same q s)
]

reverse_has : (q : LexicalScope) (known : List LexicalScope) → has q (reverse known) ≡ has q known
reverse_has q known = sym (list_any-IsPermutation (is_same q) known (reverse known) (IsPermutation-reverse known))

words_have : (q : LexicalScope) (words : List ScopedWord) (w : ScopedWord) → Contains words w → Contains w.scopes q
    → has q (flat_map (λ v. reverse v.scopes) words) ≡ true
words_have q [] w on own = absurd (nothing_in w on)
words_have q (v ∷ words) w on own =
    list_any-append (is_same q) (reverse v.scopes) (flat_map (λ (u : ScopedWord). reverse u.scopes) words)
    ∙ by (in_cases v words w on) (λ rest. words_have q words w rest own)
  where
    rest_has : Bool
    rest_has = has q (flat_map (λ (u : ScopedWord). reverse u.scopes) words)

    by : (w ≡ v) ⊎ Contains words w → (Contains words w → has q (flat_map (λ (u : ScopedWord). reverse u.scopes) words) ≡ true)
        → (has q (reverse v.scopes) || rest_has) ≡ true
    by (inl same) later =
        ap (λ (z : Bool). z || rest_has)
        (reverse_has q v.scopes ∙ contains_has q v.scopes (subst (λ (u : ScopedWord). Contains u.scopes q) same own))
    by (inr rest) later = ap (λ (z : Bool). has q (reverse v.scopes) || z) (later rest) ∙ or_true (has q (reverse v.scopes))

kept_has : (q : LexicalScope) (known xs : List LexicalScope) → has q known ≡ true → has q (first_uses is_same known xs) ≡ true
kept_has q known xs on =
    let more = lengthened is_same known xs in
    ap (has q) more.1 ∙ list_any-append (is_same q) known more.0 ∙ ap (λ (z : Bool). z || has q more.0) on

uses_have : (q : LexicalScope) (known xs : List LexicalScope) → Contains xs q → has q (first_uses is_same known xs) ≡ true
uses_have q known [] on = absurd (nothing_in q on)
uses_have q known (x ∷ xs) on = elim (in_cases x xs q on) [
  | inl same ↦
      kept_has q (with_new is_same known x) xs
      (ap (λ (s : LexicalScope). has s (with_new is_same known x)) same ∙ joined is_same same_self known x)
  | inr rest ↦ uses_have q (with_new is_same known x) xs rest
]

distinct_uses : (known xs : List LexicalScope) → AreDistinct known → AreDistinct (first_uses is_same known xs)
distinct_uses known [] each = each
distinct_uses known (x ∷ xs) each = distinct_uses (with_new is_same known x) xs (distinct_new known x each)

at_has : (known : List LexicalScope) (k : ℕ) (q : LexicalScope) → slice_get known k ≡ Some q → has q known ≡ true
at_has [] k q e = absurd (none_is_some q e)
at_has (s ∷ known) zero q e = ap (λ (z : Bool). z || has q known) (ap (is_same q) (some_is_some s q e) ∙ same_self q)
at_has (s ∷ known) (suc k) q e = ap (λ (z : Bool). is_same q s || z) (at_has known k q e) ∙ or_true (is_same q s)

one_place : (known : List LexicalScope) (j k : ℕ) (q : LexicalScope) → AreDistinct known → slice_get known j ≡ Some q → slice_get known k ≡ Some q → j ≡ k
one_place [] j k q each at also = absurd (none_is_some q at)
one_place (s ∷ known) zero zero q each at also = refl
one_place (s ∷ known) zero (suc k) q each at also =
    absurd
    (true≢false
    (sym (at_has known k q also) ∙ ap (λ (t : LexicalScope). has t known) (sym (some_is_some s q at)) ∙ each.0))
one_place (s ∷ known) (suc j) zero q each at also =
    absurd
    (true≢false
    (sym (at_has known j q at) ∙ ap (λ (t : LexicalScope). has t known) (sym (some_is_some s q also)) ∙ each.0))
one_place (s ∷ known) (suc j) (suc k) q each at also = ap suc (one_place known j k q each.1 at also)

scope_at : (scopes : List Scope) (k : ℕ) (q : LexicalScope) → slice_get (map (λ s. s.place) scopes) k ≡ Some q
    → (s : Scope) × (slice_get scopes k ≡ Some s) × (s.place ≡ q)
scope_at [] k q e = absurd (none_is_some q e)
scope_at (s ∷ scopes) zero q e = (s, refl, some_is_some s.place q e)
scope_at (s ∷ scopes) (suc k) q e = scope_at scopes k q e

place_at : (scopes : List Scope) (k : ℕ) (s : Scope) → slice_get scopes k ≡ Some s → slice_get (map (λ t. t.place) scopes) k ≡ Some s.place
place_at scopes k s e = slice_get-map (λ (t : Scope). t.place) scopes k ∙ ap (option_map (λ (t : Scope). t.place)) e

pub each_is_there : EachScopeIsThere
each_is_there meta is_file f scopes is e place among in_it =
    let known = scopes_in is.words in
    let word = word_there meta is_file f.source.now.blocks e f.code.now.entries is.words is.instructions among in
    let own : Contains word.0.scopes place = scope_to meta is_file f e word.0 place word.2 in_it in
    let used : has place known ≡ true = found_in place (words_have place is.words word.0 word.1 own) in
    let at = at_position known place used in
    let k = position_or_len (is_same place) known in
    let one = scope_at scopes k place (ap (λ (qs : List LexicalScope). slice_get qs k) is.places ∙ at.0) in (
      k,
      (one.0, one.1, one.2),
      λ j t stands same.
          one_place known j k place (distinct_uses [] (flat_map (λ (w : ScopedWord). reverse w.scopes) is.words) tt)
          (ap (λ (qs : List LexicalScope). slice_get qs j) (sym is.places) ∙ place_at scopes j t stands ∙ ap Some same) at.0,
    )
  where
    in_contains : (q : LexicalScope) (xs : List LexicalScope) → has q xs ≡ true → Contains xs q
    in_contains q xs on =
        let at = at_position xs q on in
        contains_at xs (position_or_len (is_same q) xs) at.0
      where
        contains_at : (ys : List LexicalScope) (k : ℕ) → slice_get ys k ≡ Some q → Contains ys q
        contains_at [] k e = absurd (none_is_some q e)
        contains_at (y ∷ ys) zero e = (zero, omega arith, some_is_some y q e)
        contains_at (y ∷ ys) (suc k) e = in_tail y ys q (contains_at ys k e)

    found_in : (q : LexicalScope) → has q (flat_map (λ (w : ScopedWord). reverse w.scopes) is.words) ≡ true → has q (scopes_in is.words) ≡ true
    found_in q on =
        uses_have q [] (flat_map (λ (w : ScopedWord). reverse w.scopes) is.words)
        (in_contains q (flat_map (λ (w : ScopedWord). reverse w.scopes) is.words) on)

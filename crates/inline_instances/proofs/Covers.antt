-- Which addresses the ranges of an instance have: those of the instructions that were inlined through its call.
-- Plan: instructions follow one another, so an address is in one of them at most; an instruction that joins the ranges behind it adds its own addresses alone.
use Rattle.std.proofs.Common.{◌≡◌, ◌↔◌, ℕ, zero, suc, ◌+◌, ◌<◌, ◌≤◌, ◌⊎◌, Bool, true, false, cond, ◌||◌, List, [], ◌∷◌, map, length, Option, Some}
use Rattle.std.proofs.Common.{refl, sym, ◌∙◌, ap}
use Rattle.std.proofs.Common.{subst, arith, inl, inr, nat_eq, eqb, eqb-true, true≢false, slice_get, slice_index_or, option_map, Contains, All, get_or}
use Rattle.std.proofs.lemmas.Bool.{cases_lt, eqb-false}
use Rattle.std.proofs.lemmas.Option.{slice_get-map}
use Rattle.std.proofs.lemmas.List.Elements.{All-from_get_or}
use Rattle.std.proofs.lemmas.List.{get_or-map, length-map}
use Rattle.std.specs.List.{list_any, AllZip}
use Rattle.read_metadata.specs.Maps.{Maps}
use Rattle.read_item.specs.Debug.{inlined_at}
use Rattle.mir_func.specs.declared.block.Block.{Block}
use Rattle.mir_func.specs.Positions.{position_of}
use Rattle.dwarf_line_table.specs.emit_code.declared.code.EncodedInstruction.{EncodedInstruction}
use Rattle.dwarf_line_table.specs.emit_code.Laid.{StandFrom}
use Rattle.dwarf_line_table.specs.declared.source_and_code.SourceAndCode.{SourceAndCode}
use Rattle.dwarf_line_table.specs.Program.{function_end}
use Rattle.dwarf_line_table.specs.SourcePosition.{loc_of}
use Rattle.dwarf_rnglists.specs.declared.range.AddressRange.{AddressRange}
use Rattle.dwarf_rnglists.specs.Ranges.{Ascend, Cover}
use Rattle.inline_instances.specs.declared.instance.Instance.{Instance}
use Rattle.inline_instances.specs.declared.instance.InlinedCode.{InlinedCode}
use Rattle.inline_instances.specs.Calls.{AreCalls, AreCallsFrom, call_at}
use Rattle.inline_instances.specs.Words.{InlinedWord, IsInlined, AreInlined, has_call, calls_of, extended, ranges_of}
use Rattle.inline_instances.specs.Instances.{AreInstances}
use Rattle.inline_instances.specs.Laws.{IsInlinedThrough, RangesAreOfInlinedCode, RangesAscend, EachCallHasAnInstance}
use Rattle.inline_instances.specs.steps.Marks.{IsIn}
use Rattle.inline_instances.specs.steps.Open.{BeginAt}
use Rattle.inline_instances.proofs.Ways.{one_list, some_is_some}
use Rattle.inline_instances.proofs.Members.{or_true, at_in, contains_in, in_contains}
use Rattle.inline_instances.proofs.Tables.{call_at_index, instance_at}
use Rattle.inline_instances.proofs.Uses.{calls_any}
use Rattle.inline_instances.proofs.RangeLemmas.{range, Begin, ranges_begin}
use Rattle.inline_instances.proofs.Walked.{long_entry}

-- ---- addresses in ranges, range by range

abbrev Covers : List AddressRange → ℕ → Type 0
Covers [] x = ⊥
Covers (r ∷ rs) x = ((r.lo ≤ x) × (x < r.hi)) ⊎ Covers rs x

covers_from : (rs : List AddressRange) (x : ℕ) → Cover rs x → Covers rs x
covers_from [] x (r, (k, below, e), inside) = absurd (omega arith)
covers_from (s ∷ rs) x (r, (zero, below, e), inside) = inl (subst (λ (q : AddressRange). (q.lo ≤ x) × (x < q.hi)) (sym e) inside)
covers_from (s ∷ rs) x (r, (suc k, below, e), inside) = inr (covers_from rs x (r, (k, omega arith, e), inside))

cover_from : (rs : List AddressRange) (x : ℕ) → Covers rs x → Cover rs x
cover_from [] x h = absurd h
cover_from (s ∷ rs) x (inl inside) = (s, (zero, omega arith, refl), inside)
cover_from (s ∷ rs) x (inr h) = later (cover_from rs x h)
  where
    later : Cover rs x → Cover (s ∷ rs) x
    later (r, (k, below, e), inside) = (r, (suc k, omega arith, e), inside)

-- the first range is nonempty
abbrev IsNonempty : List AddressRange → Type 0
IsNonempty [] = Unit {0}
IsNonempty (r ∷ rs) = r.lo < r.hi

module _ (lo hi x : ℕ) (long : lo < hi) where
  covers_extended : (rs : List AddressRange) → IsNonempty rs → Covers (extended lo hi rs) x → ((lo ≤ x) × (x < hi)) ⊎ Covers rs x
  covers_extended [] some h = h
  covers_extended (r ∷ rs) some h = by (nat_eq hi r.lo) refl h
    where
      by : (z : Bool) → nat_eq hi r.lo ≡ z → Covers (cond z (range lo r.hi ∷ rs) (range lo hi ∷ r ∷ rs)) x → ((lo ≤ x) × (x < hi)) ⊎ Covers (r ∷ rs) x
      by true e (inl inside) = elim (cases_lt x hi) [
        | inl below ↦ inl (inside.0, below)
        | inr past ↦ let same : hi ≡ r.lo = eqb-true hi r.lo e in inr (inl (omega (arith, past, same), inside.1))
      ]
      by true e (inr later) = inr (inr later)
      by false e h = h

  extended_covers : (rs : List AddressRange) → IsNonempty rs → ((lo ≤ x) × (x < hi)) ⊎ Covers rs x → Covers (extended lo hi rs) x
  extended_covers [] some h = h
  extended_covers (r ∷ rs) some h = by (nat_eq hi r.lo) refl h
    where
      by : (z : Bool) → nat_eq hi r.lo ≡ z → ((lo ≤ x) × (x < hi)) ⊎ Covers (r ∷ rs) x → Covers (cond z (range lo r.hi ∷ rs) (range lo hi ∷ r ∷ rs)) x
      by true e (inl inside) = let same : hi ≡ r.lo = eqb-true hi r.lo e in inl (inside.0, omega (arith, same, some, inside.1))
      by true e (inr (inl inside)) = let same : hi ≡ r.lo = eqb-true hi r.lo e in inl (omega (arith, same, long, inside.0), inside.1)
      by true e (inr (inr later)) = inr later
      by false e h = h

  nonempty_extended : (rs : List AddressRange) → IsNonempty rs → IsNonempty (extended lo hi rs)
  nonempty_extended [] some = long
  nonempty_extended (r ∷ rs) some = by (nat_eq hi r.lo) refl
    where
      by : (z : Bool) → nat_eq hi r.lo ≡ z → IsNonempty (cond z (range lo r.hi ∷ rs) (range lo hi ∷ r ∷ rs))
      by true e = let same : hi ≡ r.lo = eqb-true hi r.lo e in omega (arith, same, some, long)
      by false e = long

-- ---- addresses in the instructions that have a call

abbrev InWords : (n x : ℕ) → List InlinedWord → Type 0
InWords n x [] = ⊥
InWords n x (w ∷ ws) = ((has_call n w ≡ true) × ((w.lo ≤ x) × (x < w.hi))) ⊎ InWords n x ws

nonempty : (n a : ℕ) (ws : List InlinedWord) → BeginAt a ws → IsNonempty (ranges_of n ws)
nonempty n a [] follow = tt
nonempty n a (w ∷ ws) follow = by (has_call n w) (nonempty n w.hi ws follow.2)
  where
    by : (z : Bool) → IsNonempty (ranges_of n ws) → IsNonempty (cond z (extended w.lo w.hi (ranges_of n ws)) (ranges_of n ws))
    by true later = nonempty_extended w.lo w.hi 0 follow.1 (ranges_of n ws) later
    by false later = later

words_from : (n x a : ℕ) (ws : List InlinedWord) → BeginAt a ws → Covers (ranges_of n ws) x → InWords n x ws
words_from n x a [] follow h = h
words_from n x a (w ∷ ws) follow h = by (has_call n w) refl h (words_from n x w.hi ws follow.2)
  where
    by : (z : Bool) → has_call n w ≡ z → Covers (cond z (extended w.lo w.hi (ranges_of n ws)) (ranges_of n ws)) x
        → (Covers (ranges_of n ws) x → InWords n x ws) → InWords n x (w ∷ ws)
    by true e h behind = elim (covers_extended w.lo w.hi x follow.1 (ranges_of n ws) (nonempty n w.hi ws follow.2) h) [
      | inl inside ↦ inl (e, inside)
      | inr later ↦ inr (behind later)
    ]
    by false e h behind = inr (behind h)

words_to : (n x a : ℕ) (ws : List InlinedWord) → BeginAt a ws → InWords n x ws → Covers (ranges_of n ws) x
words_to n x a [] follow h = h
words_to n x a (w ∷ ws) follow h = by (has_call n w) refl h (words_to n x w.hi ws follow.2)
  where
    by : (z : Bool) → has_call n w ≡ z → InWords n x (w ∷ ws) → (InWords n x ws → Covers (ranges_of n ws) x)
        → Covers (cond z (extended w.lo w.hi (ranges_of n ws)) (ranges_of n ws)) x
    by true e (inl own) behind = extended_covers w.lo w.hi x follow.1 (ranges_of n ws) (nonempty n w.hi ws follow.2) (inl own.1)
    by true e (inr later) behind =
        extended_covers w.lo w.hi x follow.1 (ranges_of n ws) (nonempty n w.hi ws follow.2) (inr (behind later))
    by false e (inl own) behind = absurd (true≢false (sym own.0 ∙ e))
    by false e (inr later) behind = behind later

in_later : (n x a : ℕ) (ws : List InlinedWord) → BeginAt a ws → InWords n x ws → a ≤ x
in_later n x a [] follow h = absurd h
in_later n x a (w ∷ ws) follow (inl own) = let lo = own.1.0 in omega (arith, follow.0, lo)
in_later n x a (w ∷ ws) follow (inr later) = let past : w.hi ≤ x = in_later n x w.hi ws follow.2 later in omega (arith, follow.0, follow.1, past)

-- ---- the word of an instruction

module _ (meta : Maps) (blocks : List Block) where
  words_begin : (es : List EncodedInstruction) (ws : List InlinedWord) (a end : ℕ) → StandFrom a es end → AllZip (IsInlined meta blocks) es ws → BeginAt a ws
  words_begin [] [] a end stand are = tt
  words_begin [] (w ∷ ws) a end stand are = absurd are
  words_begin (e ∷ es) [] a end stand are = absurd are
  words_begin (e ∷ es) (w ∷ ws) a end stand are =
      let long : 0 < e.size = long_entry e stand.1 in
      let next : a + e.size ≡ w.hi = ap (λ (n : ℕ). n + e.size) (sym stand.0) ∙ sym are.0.hi in (
        sym (are.0.lo ∙ stand.0),
        omega (arith, long, are.0.lo, are.0.hi),
        subst (λ (n : ℕ). BeginAt n ws) next (words_begin es ws (a + e.size) end stand.2 are.1),
      )

  entry_later : (es : List EncodedInstruction) (ws : List InlinedWord) (a : ℕ) (e : EncodedInstruction) → BeginAt a ws → AllZip (IsInlined meta blocks) es ws
      → Contains es e → a ≤ e.address
  entry_later [] ws a e follow are (k, below, is) = absurd (omega arith)
  entry_later (h ∷ es) [] a e follow are found = absurd are
  entry_later (h ∷ es) (w ∷ ws) a e follow are (zero, below, is) =
      let at : w.lo ≡ e.address = are.0.lo ∙ ap (λ (d : EncodedInstruction). d.address) is in
      omega (arith, at, follow.0)
  entry_later (h ∷ es) (w ∷ ws) a e follow are (suc k, below, is) =
      let past : w.hi ≤ e.address = entry_later es ws w.hi e follow.2 are.1 (k, omega arith, is) in
      omega (arith, past, follow.0, follow.1)

  record WordOf (n x : ℕ) (e : EncodedInstruction) (ws : List InlinedWord) : Type 0 where
    word : InlinedWord
    is : IsInlined meta blocks e word
    through : InWords n x ws → has_call n word ≡ true
    within : has_call n word ≡ true → InWords n x ws

  word_of : (n x : ℕ) (es : List EncodedInstruction) (ws : List InlinedWord) (a : ℕ) (e : EncodedInstruction) → BeginAt a ws
      → AllZip (IsInlined meta blocks) es ws → Contains es e → e.address ≤ x → x < e.address + e.size → WordOf n x e ws
  word_of n x [] ws a e follow are (k, below, is) from to = absurd (omega arith)
  word_of n x (h ∷ es) [] a e follow are found from to = absurd are
  word_of n x (h ∷ es) (w ∷ ws) a e follow are (zero, below, same) from to =
      let own : IsInlined meta blocks e w = subst (λ (d : EncodedInstruction). IsInlined meta blocks d w) same are.0 in
      record {
        word = w;
        is = own;
        through = through;
        within = λ has. inl (has, (omega (arith, own.lo, from), omega (arith, own.hi, to)));
      }
    where
      through : InWords n x (w ∷ ws) → has_call n w ≡ true
      through (inl first) = first.0
      through (inr later) =
          let past : w.hi ≤ x = in_later n x w.hi ws follow.2 later in
          let end : w.hi ≡ e.address + e.size = are.0.hi ∙ ap (λ (d : EncodedInstruction). d.address + d.size) same in
          absurd (omega (arith, past, end, to))
  word_of n x (h ∷ es) (w ∷ ws) a e follow are (suc k, below, same) from to =
      let rest = word_of n x es ws w.hi e follow.2 are.1 (k, omega arith, same) from to in
      record {
        word = rest.word;
        is = rest.is;
        through = λ on. rest.through (behind on);
        within = λ has. inr (rest.within has);
      }
    where
      behind : InWords n x (w ∷ ws) → InWords n x ws
      behind (inl first) =
          let past : w.hi ≤ e.address = entry_later es ws w.hi e follow.2 are.1 (k, omega arith, same) in
          let inside : x < w.hi = first.1.1 in
          absurd (omega (arith, past, from, inside))
      behind (inr later) = later

-- ---- the calls of an instruction

module _ (meta : Maps) (f : SourceAndCode) (e : EncodedInstruction) (w : InlinedWord) (n : ℕ) (is : IsInlined meta f.source.now.blocks e w) where
  inlined_from : has_call n w ≡ true → IsInlinedThrough meta f e n
  inlined_from on = elim is.calls [
    | inl are ↦ record { calls = w.calls; are = are; among = in_contains w.calls n on }
    | inr none ↦ absurd (true≢false (sym on ∙ ap (list_any (nat_eq n)) none.1))
  ]

  inlined_to : IsInlinedThrough meta f e n → has_call n w ≡ true
  inlined_to through = elim is.calls [
    | inl are ↦
        subst (IsIn n)
        (one_list meta (call_at meta (inlined_at meta (loc_of f.source.now.blocks (position_of e.origin)))) through.calls w.calls through.are are)
        (contains_in through.calls n through.among)
    | inr none ↦ absurd (none.0 through.calls through.are)
  ]

-- a call through which an instruction was inlined is that of a word
word_known : (meta : Maps) (f : SourceAndCode) (n : ℕ) (e : EncodedInstruction) (es : List EncodedInstruction) (ws : List InlinedWord)
    → AllZip (IsInlined meta f.source.now.blocks) es ws → Contains es e → IsInlinedThrough meta f e n → list_any (has_call n) ws ≡ true
word_known meta f n e [] ws are (k, below, same) through = absurd (omega arith)
word_known meta f n e (h ∷ es) [] are found through = absurd are
word_known meta f n e (h ∷ es) (w ∷ ws) are (zero, below, same) through =
    ap (λ (z : Bool). z || list_any (has_call n) ws)
    (inlined_to meta f e w n (subst (λ (d : EncodedInstruction). IsInlined meta f.source.now.blocks d w) same are.0) through)
word_known meta f n e (h ∷ es) (w ∷ ws) are (suc k, below, same) through =
    ap (λ (z : Bool). has_call n w || z) (word_known meta f n e es ws are.1 (k, omega arith, same) through) ∙ or_true (has_call n w)

-- ---- the laws

ranges_at : (meta : Maps) (f : SourceAndCode) (inlined : InlinedCode) (is : AreInstances meta f inlined) (k : ℕ) (i : Instance) (ranges : List AddressRange)
    → slice_get inlined.instances k ≡ Some i → slice_get inlined.ranges k ≡ Some ranges → ranges ≡ ranges_of i.call is.words
ranges_at meta f inlined is k i ranges at own =
    let call : slice_get (calls_of is.words) k ≡ Some i.call = ap (λ (ns : List ℕ). slice_get ns k) (sym is.calls) ∙ call_at_index inlined.instances k i at in
    some_is_some ranges (ranges_of i.call is.words)
    (sym own ∙ ap (λ (rs : List (List AddressRange)). slice_get rs k) is.ranges
    ∙ slice_get-map (λ (n : ℕ). ranges_of n is.words) (calls_of is.words) k
    ∙ ap (option_map (λ (n : ℕ). ranges_of n is.words)) call)

pub of_inlined_code : RangesAreOfInlinedCode
of_inlined_code meta f inlined is stand e address among from to k i ranges at own =
    let begin : BeginAt f.code.now.base is.words =
    words_begin meta f.source.now.blocks f.code.now.entries is.words f.code.now.base (function_end f) stand is.instructions in
    let found = word_of meta f.source.now.blocks i.call address f.code.now.entries is.words f.code.now.base e begin is.instructions among from to in
    let same : ranges ≡ ranges_of i.call is.words = ranges_at meta f inlined is k i ranges at own in (
      λ covered.
          inlined_from meta f e found.word i.call found.is
          (found.through
          (words_from i.call address f.code.now.base is.words begin
          (covers_from (ranges_of i.call is.words) address (subst (λ (rs : List AddressRange). Cover rs address) same covered)))),
      λ through.
          subst (λ (rs : List AddressRange). Cover rs address) (sym same)
          (cover_from (ranges_of i.call is.words) address
          (words_to i.call address f.code.now.base is.words begin (found.within (inlined_to meta f e found.word i.call found.is through)))),
    )

pub each_has_an_instance : EachCallHasAnInstance
each_has_an_instance meta f inlined is e n among through =
    let known : IsIn n (calls_of is.words) =
    calls_any n is.words ∙ word_known meta f n e f.code.now.entries is.words is.instructions among through in
    let found = at_in (calls_of is.words) n known in
    let one = instance_at inlined.instances found.0 n (ap (λ (ns : List ℕ). slice_get ns found.0) is.calls ∙ found.1) in
    (found.0, one.0, one.1, one.2)

-- ---- ranges ascend

ascend_extended : (lo hi : ℕ) (rs : List AddressRange) → lo < hi → Begin hi rs → Ascend rs → Ascend (extended lo hi rs)
ascend_extended lo hi [] long begin up = long
ascend_extended lo hi (r ∷ []) long begin up = by (nat_eq hi r.lo) refl
  where
    by : (z : Bool) → nat_eq hi r.lo ≡ z → Ascend (cond z (range lo r.hi ∷ []) (range lo hi ∷ r ∷ []))
    by true e = omega (arith, long, begin, up)
    by false e = let other : (hi ≡ r.lo) → ⊥ = eqb-false hi r.lo e in (long, below other, up)
      where
        below : ((hi ≡ r.lo) → ⊥) → hi < r.lo
        below other = omega (arith, begin, other)
ascend_extended lo hi (r ∷ s ∷ rs) long begin up = by (nat_eq hi r.lo) refl
  where
    by : (z : Bool) → nat_eq hi r.lo ≡ z → Ascend (cond z (range lo r.hi ∷ s ∷ rs) (range lo hi ∷ r ∷ s ∷ rs))
    by true e = (omega (arith, long, begin, up.0), up.1, up.2)
    by false e = let other : (hi ≡ r.lo) → ⊥ = eqb-false hi r.lo e in (long, below other, up)
      where
        below : ((hi ≡ r.lo) → ⊥) → hi < r.lo
        below other = omega (arith, begin, other)

ascend : (n a : ℕ) (ws : List InlinedWord) → BeginAt a ws → Ascend (ranges_of n ws)
ascend n a [] follow = tt
ascend n a (w ∷ ws) follow = by (has_call n w) (ascend n w.hi ws follow.2)
  where
    by : (z : Bool) → Ascend (ranges_of n ws) → Ascend (cond z (extended w.lo w.hi (ranges_of n ws)) (ranges_of n ws))
    by true later = ascend_extended w.lo w.hi (ranges_of n ws) follow.1 (ranges_begin n w.hi ws follow.2) later
    by false later = later

pub ranges_do_ascend : RangesAscend
ranges_do_ascend meta f inlined is stand =
    let begin : BeginAt f.code.now.base is.words =
    words_begin meta f.source.now.blocks f.code.now.entries is.words f.code.now.base (function_end f) stand is.instructions in
    subst (All Ascend) (sym is.ranges)
    (All-from_get_or Ascend (map (λ (n : ℕ). ranges_of n is.words) (calls_of is.words)) []
    (λ k below.
    subst Ascend
    (sym (get_or-map (λ (n : ℕ). ranges_of n is.words) (calls_of is.words) k 0 []
    (omega (arith, below, length-map (calls_of is.words) (λ (n : ℕ). ranges_of n is.words)))))
    (ascend (get_or (calls_of is.words) k 0) f.code.now.base is.words begin)))

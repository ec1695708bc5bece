-- The instructions up to an index of a function's, and what is left of them.
-- Plan: instructions follow one another, so what was entered of a scope ends before the next one begins.
use Rattle.std.proofs.Common.{◌≡◌, ◌⊎◌, ◌↔◌, ℕ, zero, suc, ◌+◌, ◌<◌, ◌≤◌, Bool, true, false, cond, List, [], ◌∷◌, ◌++◌, length, take, drop, reverse}
use Rattle.std.proofs.Common.{Some, None, refl, sym, ◌∙◌, ap, subst, arith, slice_get, get_or, inl, inr, Contains}
use Rattle.std.specs.List.{AllZip, flat_map}
use Rattle.std.proofs.lemmas.List.{take_more, take_all}
use Rattle.read_metadata.specs.Maps.{Maps}
use Rattle.mir_func.specs.declared.block.Block.{Block}
use Rattle.mir_func.specs.declared.location.Loc.{Loc}
use Rattle.mir_func.specs.Positions.{position_of}
use Rattle.dwarf_line_table.specs.emit_code.declared.code.EncodedInstruction.{EncodedInstruction}
use Rattle.dwarf_line_table.specs.emit_code.Laid.{StandFrom}
use Rattle.dwarf_line_table.specs.SourcePosition.{loc_of}
use Rattle.dwarf_line_table.specs.Files.{first_uses}
use Rattle.dwarf_line_table.specs.declared.source_and_code.SourceAndCode.{SourceAndCode}
use Rattle.dwarf_line_table.proofs.FirstUses.{uses_append}
use Rattle.dwarf_line_table.proofs.Split.{split_at}
use Rattle.scope_ways.specs.declared.scope.LexicalScope.{LexicalScope}
use Rattle.scope_ways.specs.declared.scope.Outer.TheVariants as outer
use Rattle.scope_ways.specs.Ways.{IsWayOf, is_same, scopes_on}
use Rattle.scope_ranges.specs.declared.scope.Scope.{Scope}
use Rattle.scope_ranges.specs.Words.{ScopedWord, IsScoped, AreScoped, IsAt, scope_of_loc}
use Rattle.scope_ranges.specs.Scopes.{AreScopes, AreRangesOf, HasParent}
use Rattle.scope_ranges.specs.steps.Entered.{places, entered, with_words}
use Rattle.scope_ranges.proofs.Ranges.{cover_to, cover_from}
use Rattle.scope_ranges.proofs.Tables.{HaveCode, IsTable, table_of}
use Rattle.scope_ranges.proofs.Entering.{AreNested, nested, table_entered, places_entered, HaveParents, parents_entered, in_tail, in_cases}

-- ---- instructions that follow one another

pub long_entry : (e : EncodedInstruction) → e.size ≡ cond e.call 8 4 → 0 < e.size
long_entry e size = by e.call size
  where
    by : (z : Bool) → e.size ≡ cond z 8 4 → 0 < e.size
    by true is = omega (arith, is)
    by false is = omega (arith, is)

pub stand_up_to : (a end : ℕ) (es : List EncodedInstruction) → StandFrom a es end → a ≤ end
stand_up_to a end [] stand = omega (arith, stand)
stand_up_to a end (e ∷ es) stand = let rest : a + e.size ≤ end = stand_up_to (a + e.size) end es stand.2 in omega (arith, rest)

-- words that begin at an address, each where the one before it ends
abbrev pub BeginAt : ℕ → List ScopedWord → Type 0
BeginAt a [] = Unit {0}
BeginAt a (w ∷ ws) = (a ≡ w.lo) × (w.lo < w.hi) × BeginAt w.hi ws

-- the scopes of each word are those of a way
abbrev pub AllNested : Maps → (is_file : ℕ → Bool) → List ScopedWord → Type 0
AllNested meta is_file [] = Unit {0}
AllNested meta is_file (w ∷ ws) = AreNested meta is_file w.scopes × AllNested meta is_file ws

module _ (meta : Maps) (is_file : ℕ → Bool) (blocks : List Block) where
  pub words_begin : (es : List EncodedInstruction) (ws : List ScopedWord) (a end : ℕ) → StandFrom a es end → AllZip (IsScoped meta is_file blocks) es ws
      → BeginAt a ws
  words_begin [] [] a end stand are = tt
  words_begin [] (w ∷ ws) a end stand are = absurd are
  words_begin (e ∷ es) [] a end stand are = absurd are
  words_begin (e ∷ es) (w ∷ ws) a end stand are =
      let long : 0 < e.size = long_entry e stand.1 in
      let next : a + e.size ≡ w.hi = ap (λ (n : ℕ). n + e.size) (sym stand.0) ∙ sym are.0.hi in (
        sym (are.0.lo ∙ stand.0),
        omega (arith, long, are.0.lo, are.0.hi),
        subst (λ (n : ℕ). BeginAt n ws) next (words_begin es ws (a + e.size) end stand.2 are.1),
      )

  word_nested : (e : EncodedInstruction) (w : ScopedWord) → IsScoped meta is_file blocks e w → AreNested meta is_file w.scopes
  word_nested e w is = subst (AreNested meta is_file) (sym is.scopes) (by is.leads)
    where
      from : LexicalScope
      from = scope_of_loc meta (loc_of blocks (position_of e.origin))

      by : IsWayOf meta from is.way → AreNested meta is_file (scopes_on meta is_file is.way)
      by (inl leads) = nested meta is_file (outer.Scope from) is.way leads
      by (inr none) = subst (λ (way : List LexicalScope). AreNested meta is_file (scopes_on meta is_file way)) (sym none.1) tt

  pub all_nested : (es : List EncodedInstruction) (ws : List ScopedWord) → AllZip (IsScoped meta is_file blocks) es ws → AllNested meta is_file ws
  all_nested [] [] are = tt
  all_nested [] (w ∷ ws) are = absurd are
  all_nested (e ∷ es) [] are = absurd are
  all_nested (e ∷ es) (w ∷ ws) are = (word_nested e w are.0, all_nested es ws are.1)

-- ---- the table of all words

abbrev pub InWords : List ScopedWord → LexicalScope → ℕ → Type 0
InWords words q x = (w : ScopedWord) × Contains words w × IsAt q x w

module _ (meta : Maps) (is_file : ℕ → Bool) where
  pub table_words : (C : LexicalScope → ℕ → Type 0) (a : ℕ) (words : List ScopedWord) (scopes : List Scope)
      → ((q : LexicalScope) (x : ℕ) → C q x → x < a) → BeginAt a words → AllNested meta is_file words → IsTable C scopes
      → IsTable (λ q x. C q x ⊎ InWords words q x) (with_words scopes words)
  table_words C a [] scopes below begin nest table = table_of C (λ q x. C q x ⊎ InWords [] q x) (λ q x. (λ h. inl h, λ h. was q x h)) scopes table
    where
      was : (q : LexicalScope) (x : ℕ) → C q x ⊎ InWords [] q x → C q x
      was q x (inl h) = h
      was q x (inr (w, (k, less, e), at)) = absurd (omega (arith, less))
  table_words C a (w ∷ words) scopes below begin nest table =
      table_of (λ q x. Own q x ⊎ InWords words q x) (λ q x. C q x ⊎ InWords (w ∷ words) q x) (λ q x. (to q x, from q x))
      (with_words (entered scopes w.scopes w.lo w.hi) words)
      (table_words Own w.hi words (entered scopes w.scopes w.lo w.hi) ends begin.2 nest.1
      (table_entered meta is_file C w.lo w.hi begin.1 (λ q x h. starts q x h) scopes table w.scopes nest.0))
    where
      Own : LexicalScope → ℕ → Type 0
      Own q x = C q x ⊎ IsAt q x w

      starts : (q : LexicalScope) (x : ℕ) → C q x → x < w.lo
      starts q x h = let less : x < a = below q x h in let at : a ≡ w.lo = begin.0 in omega (arith, less, at)

      ends : (q : LexicalScope) (x : ℕ) → Own q x → x < w.hi
      ends q x (inl h) = let less : x < w.lo = starts q x h in let long : w.lo < w.hi = begin.1 in omega (arith, less, long)
      ends q x (inr own) = own.2

      to : (q : LexicalScope) (x : ℕ) → Own q x ⊎ InWords words q x → C q x ⊎ InWords (w ∷ words) q x
      to q x (inl (inl h)) = inl h
      to q x (inl (inr own)) = inr (w, (zero, omega arith, refl), own)
      to q x (inr (v, on, at)) = inr (v, in_tail w words v on, at)

      from : (q : LexicalScope) (x : ℕ) → C q x ⊎ InWords (w ∷ words) q x → Own q x ⊎ InWords words q x
      from q x (inl h) = inl (inl h)
      from q x (inr (v, on, at)) = elim (in_cases w words v on) [
        | inl same ↦ inl (inr (subst (IsAt q x) same at))
        | inr rest ↦ inr (v, rest, at)
      ]

  pub parents_words : (words : List ScopedWord) (scopes : List Scope) → AllNested meta is_file words → HaveParents meta is_file scopes
      → HaveParents meta is_file (with_words scopes words)
  parents_words [] scopes nest parents = parents
  parents_words (w ∷ words) scopes nest parents =
      parents_words words (entered scopes w.scopes w.lo w.hi) nest.1 (parents_entered meta is_file scopes w.lo w.hi parents w.scopes nest.0)

pub places_words : (words : List ScopedWord) (scopes : List Scope)
    → places (with_words scopes words) ≡ first_uses is_same (places scopes) (flat_map (λ w. reverse w.scopes) words)
places_words [] scopes = refl
places_words (w ∷ words) scopes =
    places_words words (entered scopes w.scopes w.lo w.hi)
    ∙ ap (λ (known : List LexicalScope). first_uses is_same known (flat_map (λ (v : ScopedWord). reverse v.scopes) words))
    (places_entered scopes w.scopes w.lo w.hi)
    ∙ sym (uses_append is_same (places scopes) (reverse w.scopes) (flat_map (λ (v : ScopedWord). reverse v.scopes) words))

pub words_more : (scopes : List Scope) (words : List ScopedWord) (w : ScopedWord)
    → with_words scopes (words ++ w ∷ []) ≡ entered (with_words scopes words) w.scopes w.lo w.hi
words_more scopes [] w = refl
words_more scopes (v ∷ words) w = words_more (entered scopes v.scopes v.lo v.hi) words w

-- ---- the scopes of a function

code_at : (C : LexicalScope → ℕ → Type 0) (scopes : List Scope) (k : ℕ) (s : Scope) → HaveCode C scopes → slice_get scopes k ≡ Some s
    → HaveCode C (s ∷ [])
code_at C [] k s each e = absurd (none_is_some s e)
  where
    none_is_some : (t : Scope) → None ≡ Some t → ⊥
    none_is_some t e = cc
code_at C (t ∷ ss) zero s each e = subst (λ (u : Scope). HaveCode C (u ∷ [])) (some_is_some t s e) (each.0, tt)
  where
    some_is_some : (u v : Scope) → Some u ≡ Some v → u ≡ v
    some_is_some u v e = cc
code_at C (t ∷ ss) (suc k) s each e = code_at C ss k s each.1 e

abbrev no_code : LexicalScope → ℕ → Type 0
no_code q x = ⊥

module _ (meta : Maps) (is_file : ℕ → Bool) (f : SourceAndCode) (end : ℕ) (words : List ScopedWord) (are : AreScoped meta is_file f words)
    (stand : StandFrom f.code.now.base f.code.now.entries end) where
  abbrev all_scopes : List Scope
  all_scopes = with_words [] words

  begin : BeginAt f.code.now.base words
  begin = words_begin meta is_file f.source.now.blocks f.code.now.entries words f.code.now.base end stand are

  nest : AllNested meta is_file words
  nest = all_nested meta is_file f.source.now.blocks f.code.now.entries words are

  table : IsTable (λ q x. no_code q x ⊎ InWords words q x) all_scopes
  table =
      table_words meta is_file no_code f.code.now.base words [] (λ q x h. absurd h) begin nest
      (record { distinct = tt; each = tt; absent = λ q none x h. h })

  ranges_at : (k : ℕ) (s : Scope) → slice_get all_scopes k ≡ Some s → AreRangesOf words s.place s.ranges
  ranges_at k s at =
      let own = code_at (λ q x. no_code q x ⊎ InWords words q x) all_scopes k s table.each at in
      record {
        ascend = own.0.0;
        cover = λ x. (
          λ h. some x ((own.0.1 x).0 (cover_to s.ranges x h)),
          λ h. cover_from s.ranges x ((own.0.1 x).1 (inr h)),
        );
      }
    where
      some : (x : ℕ) → no_code s.place x ⊎ InWords words s.place x → InWords words s.place x
      some x (inl h) = absurd h
      some x (inr h) = h

  pub are_scopes : AreScopes meta is_file f all_scopes
  are_scopes = record {
    words = words;
    instructions = are;
    places = places_words words [];
    parents = λ k s at.
        subst (λ (known : List LexicalScope). HasParent meta is_file known k s) (places_words words [])
        (parents_words meta is_file words [] nest (λ j t e. absurd (none_is_some t e)) k s at);
    ranges = ranges_at;
  }
    where
      none_is_some : (t : Scope) → None ≡ Some t → ⊥
      none_is_some t e = cc

-- ---- the walk

-- the instructions before an index are walked, and the others stand from an address up to the function's end
pub record IsWalked (meta : Maps) (is_file : ℕ → Bool) (blocks : List Block) (entries : List EncodedInstruction) (end index : ℕ) (scopes : List Scope)
    : Type 0 where
  pub at : ℕ
  pub words : List ScopedWord
  pub instructions : AllZip (IsScoped meta is_file blocks) (take index entries) words
  pub made : scopes ≡ with_words [] words
  pub rest : StandFrom at (drop index entries) end

zip_more : {A B : Type 0} (R : A → B → Type 0) (xs : List A) (ys : List B) (x : A) (y : B) → AllZip R xs ys → R x y → AllZip R (xs ++ x ∷ []) (ys ++ y ∷ [])
zip_more R [] [] x y are is = (is, tt)
zip_more R [] (b ∷ ys) x y are is = absurd are
zip_more R (a ∷ xs) [] x y are is = absurd are
zip_more R (a ∷ xs) (b ∷ ys) x y are is = (are.0, zip_more R xs ys x y are.1 is)

module _ (meta : Maps) (is_file : ℕ → Bool) (blocks : List Block) (entries : List EncodedInstruction) (end : ℕ) where
  pub walked_none : (base : ℕ) (scopes : List Scope) → StandFrom base entries end → scopes ≡ [] → IsWalked meta is_file blocks entries end 0 scopes
  walked_none base scopes stand none = record { at = base; words = []; instructions = tt; made = none; rest = stand }

  module _ (index : ℕ) (scopes : List Scope) (w : IsWalked meta is_file blocks entries end index scopes) (e : EncodedInstruction)
      (below : index < length entries) (is : e ≡ get_or entries index e) where
    own : StandFrom w.at (e ∷ drop (index + 1) entries) end
    own = subst (λ (es : List EncodedInstruction). StandFrom w.at es end) (split_at entries index e below is) w.rest

    -- the instruction ends at the function's end or before it
    pub walked_within : e.address + e.size ≤ end
    walked_within =
        let past : w.at + e.size ≤ end = stand_up_to (w.at + e.size) end (drop (index + 1) entries) own.2 in
        let here : e.address ≡ w.at = own.0 in
        omega (arith, past, here)

    pub walked_more : (next : List Scope) (way : List LexicalScope) (loc : Loc) → loc ≡ loc_of blocks (position_of e.origin)
        → IsWayOf meta (scope_of_loc meta loc) way → next ≡ entered scopes (scopes_on meta is_file way) e.address (e.address + e.size)
        → IsWalked meta is_file blocks entries end (index + 1) next
    walked_more next way loc here leads made =
        let word : ScopedWord = record { lo = e.address; hi = e.address + e.size; scopes = scopes_on meta is_file way } in
        let scoped : IsScoped meta is_file blocks e word =
        record {
          lo = refl;
          hi = refl;
          way = way;
          leads = subst (λ (l : Loc). IsWayOf meta (scope_of_loc meta l) way) here leads;
          scopes = refl;
        } in
        let front : take index entries ++ e ∷ [] ≡ take (index + 1) entries =
        ap (λ (d : EncodedInstruction). take index entries ++ d ∷ []) is ∙ sym (take_more entries index e below) in
        record {
          at = w.at + e.size;
          words = w.words ++ word ∷ [];
          instructions =
              subst (λ (es : List EncodedInstruction). AllZip (IsScoped meta is_file blocks) es (w.words ++ word ∷ [])) front
              (zip_more (IsScoped meta is_file blocks) (take index entries) w.words e word w.instructions scoped);
          made =
              made
              ∙ ap (λ (ss : List Scope). entered ss (scopes_on meta is_file way) e.address (e.address + e.size)) w.made
              ∙ sym (words_more [] w.words word);
          rest = own.2;
        }

pub walked_all : (meta : Maps) (is_file : ℕ → Bool) (f : SourceAndCode) (end index : ℕ) (scopes : List Scope)
    → IsWalked meta is_file f.source.now.blocks f.code.now.entries end index scopes → length f.code.now.entries ≤ index
    → StandFrom f.code.now.base f.code.now.entries end → AreScopes meta is_file f scopes
walked_all meta is_file f end index scopes w past stand =
    subst (AreScopes meta is_file f) (sym w.made)
    (are_scopes meta is_file f end w.words
    (subst (λ (es : List EncodedInstruction). AllZip (IsScoped meta is_file f.source.now.blocks) es w.words) (take_all index f.code.now.entries past)
    w.instructions)
    stand)

-- What stands at the front of an expression, by its first byte.
use Rattle.std.specs.Prelude.{ℤ, pos}
use Rattle.std.proofs.Common.{◌≡◌, ℕ, ◌+◌, ◌-◌, ◌%◌, ◌<◌, ◌≤◌, List, [], ◌∷◌, ◌++◌, length, arith, ap, sym, ◌∙◌, refl, append_assoc, inl, inr}
use Rattle.std.specs.Prelude.{All, Some, None, slice_get}
use Rattle.dwarf_loclists.specs.declared.range.Location.{Location}
use Rattle.dwarf_loclists.specs.declared.range.Location.TheVariants.{Whole, Parts}
use Rattle.std.specs.Bool.{OnTrue}
use Rattle.std.proofs.lemmas.Bool.Decides.{nat_tests}
use Rattle.std.proofs.Common.{Bool, true, false, ◌==◌, zero, suc, drop, subst, append-nil, length-append}
use Rattle.std.proofs.lemmas.List.Elements.{All-cons, All-rest, All-head, All-nil}
use Rattle.std.proofs.lemmas.Bool.{cases_lt}
use Rattle.rv64_instr.specs.declared.place.Place.{Place}
use Rattle.rv64_instr.specs.declared.place.Place.TheVariants.{Register, Slot, Const}
use Rattle.dwarf_base.specs.Leb.{uleb_of, sleb_of}
use Rattle.dwarf_loclists.specs.declared.range.Part.{Part}
use Rattle.dwarf_loclists.specs.Ranges.{IsListed, IsPiece, ArePieces, HasWord, nth_piece, whole_place}
use Rattle.dwarf_loclists.specs.Spelling.{simple_location, gap, piece, composite_location, Spells}
use Rattle.dwarf_loclists.specs.steps.Pieces.{BeginsNoPiece, SpellsPieces}
use Rattle.dwarf_loclists.proofs.OneLocation.{uleb_one, sleb_one, heads_one, tails_one, gap_some, gap_none, no_gap, after_gap, place_one, piece-gap}
use Rattle.dwarf_loclists.proofs.OneLocation.{piece-no_gap, piece_one, some_piece, some_end}

-- behind a constant's operation stand its number and the end of its location
pub constant_front : (v : ℤ) (bytes after : List ℕ) (p : Place) (rest : List ℕ) → bytes ≡ sleb_of v ++ after → IsListed p → 17 ∷ bytes
    ≡ simple_location p ++ rest
    → after ≡ 159 ∷ rest
constant_front v bytes after (Register r) rest is ok e = absurd (omega (arith, heads_one 17 (80 + r) _ _ e))
constant_front v bytes after (Slot o) rest is ok e = absurd (omega (arith, heads_one 17 114 _ _ e))
constant_front v bytes after (Const c) rest is ok e =
    (sleb_one v c after (159 ∷ rest) (sym is ∙ tails_one 17 17 _ _ e ∙ append_assoc (sleb_of c) (159 ∷ []) rest)).1

-- behind a slot's operation stands its offset
pub slot_front : (v : ℤ) (bytes after : List ℕ) (p : Place) (rest : List ℕ) → bytes ≡ sleb_of v ++ after → IsListed p → 114 ∷ bytes ≡ simple_location p ++ rest
    → (offset : ℕ) × (v ≡ pos offset) × (offset % 8 ≡ 0) × (offset ≤ 2024)
slot_front v bytes after (Register r) rest is ok e = absurd (omega (arith, ok.1, heads_one 114 (80 + r) _ _ e))
slot_front v bytes after (Slot o) rest is ok e = (o, (sleb_one v (pos o) after rest (sym is ∙ tails_one 114 114 _ _ e)).0, ok.0, ok.1)
slot_front v bytes after (Const c) rest is ok e = absurd (omega (arith, heads_one 114 17 _ _ e))

-- any other operation is a register's
pub register_front : (operation : ℕ) (bytes : List ℕ) (p : Place) (rest : List ℕ) → IsListed p → operation ∷ bytes ≡ simple_location p ++ rest
    → (operation ≡ 17 → ⊥) → (operation ≡ 114 → ⊥) → (r : ℕ) × (1 ≤ r) × (r ≤ 31) × (r ≡ 2 → ⊥) × (operation ≡ 80 + r)
register_front operation bytes (Register r) rest ok e no_constant no_slot = (r, ok.0, ok.1, ok.2, heads_one operation (80 + r) _ _ e)
register_front operation bytes (Slot o) rest ok e no_constant no_slot = absurd (no_slot (heads_one operation 114 _ _ e))
register_front operation bytes (Const c) rest ok e no_constant no_slot = absurd (no_constant (heads_one operation 17 _ _ e))

-- the gap at the front, where what follows it begins no piece
pub gap_front : (from size offset : ℕ) (bytes after left rest : List ℕ) → bytes ≡ 147 ∷ after → after ≡ uleb_of size ++ left → from ≤ offset
    → BeginsNoPiece rest
    → bytes ≡ gap from offset ++ rest → (from < offset) × (offset ≡ from + size) × (rest ≡ left)
gap_front from size offset bytes after left rest first is onward plain e =
    elim (cases_lt from offset) [
      | inl below ↦
          let spelled : 147 ∷ after ≡ 147 ∷ (uleb_of (offset - from) ++ rest) = sym first ∙ e ∙ ap (λ (xs : List ℕ). xs ++ rest) (gap_some from offset below) in
          let found = uleb_one size (offset - from) left rest (sym is ∙ tails_one 147 147 _ _ spelled) in
          (below, omega (arith, found.0), sym found.1)
      | inr none ↦ absurd (plain.other after (sym (ap (λ (xs : List ℕ). xs ++ rest) (gap_none from offset none)) ∙ sym e ∙ first))
    ]

-- no gap is at the front
pub front_without_gap : (from offset : ℕ) (bytes rest : List ℕ) → BeginsNoPiece bytes → from ≤ offset → bytes ≡ gap from offset ++ rest
    → (offset ≡ from) × (rest ≡ bytes)
front_without_gap from offset bytes rest plain onward e =
    elim (cases_lt from offset) [
      | inl below ↦ absurd (plain.other _ (e ∙ ap (λ (xs : List ℕ). xs ++ rest) (gap_some from offset below)))
      | inr none ↦ (omega arith, sym (e ∙ ap (λ (xs : List ℕ). xs ++ rest) (gap_none from offset none)))
    ]

pub plain_first : (operation : ℕ) (bytes after : List ℕ) → bytes ≡ operation ∷ after → (operation ≡ 147 → ⊥) → BeginsNoPiece bytes
plain_first operation bytes after first other = record { other = λ rest e. other (heads_one operation 147 after rest (sym first ∙ e)) }

pub plain_empty : (bytes : List ℕ) → length bytes ≡ 0 → BeginsNoPiece bytes
plain_empty [] none = record { other = λ rest e. cc }
plain_empty (b ∷ bytes) none = absurd (omega arith)

pub plain_after_gap : (p : Part) (x : List ℕ) → IsListed p.place → BeginsNoPiece (after_gap p x)
plain_after_gap p x ok = record { other = λ rest e. no_gap p.place _ rest ok e }

-- a piece is the gap before it, and the rest of it
pub piece_split : (from : ℕ) (p : Part) (x : List ℕ) → piece from p ++ x ≡ gap from p.offset ++ after_gap p x
piece_split from p x = simp append_assoc

-- what stands behind the gap and the place of the piece at the front
pub behind_place : (from offset : ℕ) (place : Place) (bytes after behind : List ℕ) (p : Part) (rest : List ℕ)
    → ((o : ℕ) (xs : List ℕ) → from ≤ o → BeginsNoPiece xs → bytes ≡ gap from o ++ xs → (o ≡ offset) × (xs ≡ after))
    → after ≡ simple_location place ++ behind → IsListed place → IsPiece from p → bytes ≡ piece from p ++ rest
    → (p.offset ≡ offset) × (p.place ≡ place) × (behind ≡ 147 ∷ (uleb_of p.length ++ rest))
behind_place from offset place bytes after behind p rest only is listed ok e =
    let gapped = only p.offset (after_gap p rest) ok.0 (plain_after_gap p rest ok.4) (e ∙ piece_split from p rest) in
    let found = place_one p.place place (147 ∷ (uleb_of p.length ++ rest)) behind ok.4 listed (gapped.1 ∙ is) in
    (gapped.0, found.0, sym found.1)

-- a simple location begins with no piece
pub whole_no_piece : (p : Place) (q : Part) (after : List ℕ) → IsListed p → IsListed q.place → simple_location p ≡ piece 0 q ++ after → ⊥
whole_no_piece p q after ok_p ok_q e =
    elim (cases_lt 0 q.offset) [
      | inl gapped ↦ no_gap p [] _ ok_p (append-nil (simple_location p) ∙ e ∙ piece-gap 0 q after gapped)
      | inr first ↦ some_end [] _ 147 (sym (place_one p q.place [] _ ok_p ok_q (append-nil (simple_location p) ∙ e ∙ piece-no_gap 0 q after first)).1)
    ]

-- with a piece more, what is left is pieces as it was before
pub pieces_on : (from : ℕ) (p : Part) (rest after : List ℕ) → rest ≡ piece from p ++ after → IsPiece from p → HasWord p.place
    → SpellsPieces (p.offset + p.length) after → SpellsPieces from rest
pieces_on from p rest after e is wide s = record {
  parts = p ∷ s.parts;
  are = (is, s.are);
  wide = All-cons (λ (q : Part). HasWord q.place) p s.parts wide s.wide;
  spelled = e ∙ ap (λ (xs : List ℕ). piece from p ++ xs) s.spelled;
}

pub pieces_back : (from : ℕ) (p : Part) (rest after : List ℕ) → rest ≡ piece from p ++ after → IsPiece from p
    → SpellsPieces from rest → SpellsPieces (p.offset + p.length) after
pieces_back from p rest after e is s = go s.parts s.are s.wide s.spelled
  where
    go : (parts : List Part) → ArePieces from parts → All (λ (q : Part). HasWord q.place) parts → rest ≡ composite_location from parts
        → SpellsPieces (p.offset + p.length) after
    go [] are wide spelled = absurd (some_piece from p after (sym e ∙ spelled))
    go (q ∷ parts) are wide spelled =
        let found = piece_one from p q after _ is are.0 (sym e ∙ spelled) in
        subst (λ (r : Part). SpellsPieces (r.offset + r.length) after) (sym found.0)
        (record { parts = parts; are = are.1; wide = All-rest (λ (r : Part). HasWord r.place) q parts (q ∷ parts) refl wide; spelled = found.1 })

pub no_pieces : (from : ℕ) (rest : List ℕ) → ((p : Part) (after : List ℕ) → IsPiece from p → HasWord p.place → rest ≡ piece from p ++ after → ⊥)
    → SpellsPieces from rest → rest ≡ []
no_pieces from rest none s = go s.parts s.are s.wide s.spelled
  where
    go : (parts : List Part) → ArePieces from parts → All (λ (q : Part). HasWord q.place) parts → rest ≡ composite_location from parts → rest ≡ []
    go [] are wide spelled = spelled
    go (q ∷ parts) are wide spelled = absurd (none q _ are.0 (All-head (λ (r : Part). HasWord r.place) q parts wide) spelled)

pub pieces_end : (from : ℕ) (rest : List ℕ) → length rest ≡ 0 → SpellsPieces from rest
pieces_end from [] none = record { parts = []; are = tt; wide = All-nil (λ (q : Part). HasWord q.place); spelled = refl }
pieces_end from (b ∷ rest) none = absurd (omega arith)

pub piece_shorter : (from : ℕ) (p : Part) (rest after : List ℕ) → rest ≡ piece from p ++ after → length after < length rest
piece_shorter from p rest after e =
    let some : 1 ≤ length (piece from p) = longer (piece from p) (λ none. some_piece from p [] (append-nil (piece from p) ∙ none)) in
    omega (arith, ap length e, length-append (piece from p) after)
  where
    longer : (xs : List ℕ) → (xs ≡ [] → ⊥) → 1 ≤ length xs
    longer [] apart = absurd (apart refl)
    longer (x ∷ xs) apart = omega arith

-- the pieces that are left of a location's expression after the first i of them
abbrev pub Left : Location → (i from : ℕ) → List ℕ → Type 0
Left (Whole p) i from rest = (i ≡ 0) × (from ≡ 0) × (rest ≡ simple_location p) × IsListed p
Left (Parts parts) i from rest = ArePieces from (drop i parts) × All (λ q. HasWord q.place) (drop i parts) × (rest ≡ composite_location from (drop i parts))

pub all_left : (bytes : List ℕ) (l : Location) → Spells bytes l → Left l 0 0 bytes
all_left bytes (Whole p) s = (refl, refl, s.spelled, s.located)
all_left bytes (Parts []) s = absurd s.located
all_left bytes (Parts (p ∷ parts)) s = (s.located, s.wide, s.spelled)

drop_more : (i : ℕ) (parts : List Part) (q : Part) (others : List Part) → drop i parts ≡ q ∷ others
    → (drop (i + 1) parts ≡ others) × (slice_get parts i ≡ Some q)
drop_more zero [] q others e = absurd cc
drop_more zero (p ∷ parts) q others e = (cc, cc)
drop_more (suc i) [] q others e = absurd cc
drop_more (suc i) (p ∷ parts) q others e =
    let next : suc i + 1 ≡ suc (i + 1) = omega arith in
    rw next (drop_more i parts q others e)

drop_past : (i j : ℕ) (parts : List Part) → drop i parts ≡ [] → i ≤ j → slice_get parts j ≡ None
drop_past i j [] e from = refl
drop_past zero j (p ∷ parts) e from = absurd cc
drop_past (suc i) zero (p ∷ parts) e from = absurd (omega arith)
drop_past (suc i) (suc j) (p ∷ parts) e from = drop_past i j parts e (omega arith)

-- with a piece more, one fewer is left, and that piece is the next one
pub left_on : (l : Location) (i from : ℕ) (rest : List ℕ) (p : Part) (after : List ℕ) → Left l i from rest → rest ≡ piece from p ++ after → IsPiece from p
    → Left l (i + 1) (p.offset + p.length) after × (nth_piece (Some l) i ≡ Some p)
left_on (Whole w) i from rest p after left e is =
    absurd (whole_no_piece w p after left.3 is.4 (sym left.2 ∙ e ∙ ap (λ (n : ℕ). piece n p ++ after) left.1))
left_on (Parts parts) i from rest p after left e is = go (drop i parts) refl left.0 left.1 left.2
  where
    go : (others : List Part) → drop i parts ≡ others → ArePieces from others → All (λ (q : Part). HasWord q.place) others → rest
        ≡ composite_location from others
        → Left (Parts parts) (i + 1) (p.offset + p.length) after × (nth_piece (Some (Parts parts)) i ≡ Some p)
    go [] dropped are wide spelled = absurd (some_piece from p after (sym e ∙ spelled))
    go (q ∷ others) dropped are wide spelled =
        let found = piece_one from p q after _ is are.0 (sym e ∙ spelled) in
        let more = drop_more i parts q others dropped in
        let same : q.offset + q.length ≡ p.offset + p.length = ap (λ (r : Part). r.offset + r.length) (sym found.0) in (
          (
            subst (λ (n : ℕ). ArePieces n (drop (i + 1) parts)) same (subst (ArePieces (q.offset + q.length)) (sym more.0) are.1),
            subst (λ (ps : List Part). All (λ (r : Part). HasWord r.place) ps) (sym more.0)
                (All-rest (λ (r : Part). HasWord r.place) q others (q ∷ others) refl wide),
            found.1 ∙ ap (λ (n : ℕ). composite_location n others) same ∙ ap (composite_location (p.offset + p.length)) (sym more.0),
          ),
          more.1 ∙ ap Some (sym found.0),
        )

-- without a piece there is none from here on
pub left_none : (l : Location) (i j from : ℕ) (rest : List ℕ) → Left l i from rest → i ≤ j
    → ((p : Part) (after : List ℕ) → IsPiece from p → HasWord p.place → rest ≡ piece from p ++ after → ⊥) → nth_piece (Some l) j ≡ None
left_none (Whole w) i j from rest left within none = refl
left_none (Parts parts) i j from rest left within none = go (drop i parts) refl left.0 left.1 left.2
  where
    go : (others : List Part) → drop i parts ≡ others → ArePieces from others → All (λ (q : Part). HasWord q.place) others → rest
        ≡ composite_location from others
        → slice_get parts j ≡ None
    go [] dropped are wide spelled = drop_past i j parts dropped within
    go (q ∷ others) dropped are wide spelled = absurd (none q _ are.0 (All-head (λ (r : Part). HasWord r.place) q others wide) spelled)

-- an expression of pieces has no place at its front with nothing behind it, and one of a place has
pub whole_front : (bytes : List ℕ) (l : Location) (p : Place) (rest : List ℕ) → Spells bytes l → bytes ≡ simple_location p ++ rest → IsListed p
    → (rest ≡ [] → whole_place (Some l) ≡ Some p) × ((rest ≡ [] → ⊥) → whole_place (Some l) ≡ None)
whole_front bytes (Whole q) p rest s e ok =
    let found = place_one q p [] rest s.located ok (append-nil (simple_location q) ∙ sym s.spelled ∙ e) in
    ((λ none. ap Some found.0), λ some. absurd (some (sym found.1)))
whole_front bytes (Parts []) p rest s e ok = absurd s.located
whole_front bytes (Parts (q ∷ parts)) p rest s e ok = (
  (λ none. absurd (whole_no_piece p q _ ok s.located.0.4 (sym (append-nil (simple_location p)) ∙ ap (λ (xs : List ℕ). simple_location p ++ xs) (sym none) ∙
      sym e ∙ s.spelled))),
  λ some. refl,
)

pub no_front : (bytes : List ℕ) (l : Location) → Spells bytes l → ((p : Place) (rest : List ℕ) → IsListed p → HasWord p → bytes ≡ simple_location p ++ rest → ⊥)
    → whole_place (Some l) ≡ None
no_front bytes (Whole q) s none = absurd (none q [] s.located s.wide (s.spelled ∙ sym (append-nil (simple_location q))))
no_front bytes (Parts parts) s none = refl

-- pieces of a variable, at least one, are a location, and a location without a whole place is pieces
pub location_of_pieces : (bytes : List ℕ) → SpellsPieces 0 bytes → (bytes ≡ [] → ⊥) → (l : Location) × Spells bytes l
location_of_pieces bytes s some = go s.parts s.are s.wide s.spelled
  where
    go : (parts : List Part) → ArePieces 0 parts → All (λ (q : Part). HasWord q.place) parts → bytes ≡ composite_location 0 parts
        → (l : Location) × Spells bytes l
    go [] are wide spelled = absurd (some spelled)
    go (p ∷ parts) are wide spelled = (Parts (p ∷ parts), record { located = are; wide = wide; spelled = spelled })

pub pieces_of_location : (bytes : List ℕ) (l : Location) → Spells bytes l → whole_place (Some l) ≡ None → SpellsPieces 0 bytes × (length bytes ≡ 0 → ⊥)
pieces_of_location bytes (Whole p) s none = absurd cc
pieces_of_location bytes (Parts []) s none = absurd s.located
pieces_of_location bytes (Parts (p ∷ parts)) s none = (
  record { parts = p ∷ parts; are = s.located; wide = s.wide; spelled = s.spelled },
  λ empty. let shorter = piece_shorter 0 p bytes _ s.spelled in omega arith,
)

pub not_empty : (xs : List ℕ) (b : Bool) → b ≡ (length xs == 0) → b ≡ false → xs ≡ [] → ⊥
not_empty [] b is no_more e = absurd cc
not_empty (x ∷ xs) b is no_more e = cc

pub is_empty : (xs : List ℕ) (b : Bool) → b ≡ (length xs == 0) → b ≡ true → xs ≡ []
is_empty [] b is none = refl
is_empty (x ∷ xs) b is none = absurd (grind (arith, nat_tests))

pub on_true : (b : Bool) (X : Type 0) → (b ≡ true → X) → OnTrue b X
on_true true X h = h refl
on_true false X h = tt

pub at_true : (b : Bool) (X : Type 0) → b ≡ true → OnTrue b X → X
at_true true X is h = h
at_true false X is h = absurd cc

-- One location is wanted for a variable at a position.
use Rattle.std.proofs.Common.{◌≡◌, ℕ, zero, suc, ◌+◌, ◌≤◌, List, [], ◌∷◌, Option, Some, None, refl, sym, ap, ◌∙◌, subst, arith}
use Rattle.std.specs.Prelude.{slice_get}
use Rattle.rv64_instr.specs.declared.place.Place.{Place}
use Rattle.mir_func.specs.declared.position.Pos.{Pos}
use Rattle.mir_func.specs.declared.variable.VarId.{VarId}
use Rattle.mir_func.specs.Graph.{Program}
use Rattle.mir_func.specs.Parts.{Bytes}
use Rattle.dwarf_loclists.specs.declared.range.Part.{Part}
use Rattle.dwarf_loclists.specs.declared.range.Location.{Location}
use Rattle.dwarf_loclists.specs.declared.range.Location.TheVariants.{Whole, Parts}
use Rattle.dwarf_loclists.specs.Ranges.{ArePieces}
use Rattle.location_of_variable.specs.VariableLocation.{bytes_of, IsWantedLocation}
use Rattle.location_of_variable.specs.Gives.{GivesPart}
use Rattle.location_of_variable.proofs.Giving.{wanted_locations_give_parts}

-- each piece of the first list is in the second
abbrev AreAmong : List Part → List Part → Type 0
AreAmong xs ys = (n : ℕ) (x : Part) → slice_get xs n ≡ Some x → (m : ℕ) × (slice_get ys m ≡ Some x)

-- a piece begins behind those before it, and isn't empty
behind : (from : ℕ) (xs : List Part) → ArePieces from xs → (n : ℕ) (x : Part) → slice_get xs n ≡ Some x → (from ≤ x.offset) × (1 ≤ x.length)
behind from [] h n x e = absurd cc
behind from (y ∷ ys) h zero x e =
    let same : y ≡ x = cc in
    subst (λ (z : Part). (from ≤ z.offset) × (1 ≤ z.length)) same (h.0.0, h.0.1)
behind from (y ∷ ys) h (suc n) x e =
    let k = behind (y.offset + y.length) ys h.1 n x e in
    let least = h.0.0 in
    (omega (arith, least, k.0), k.1)

one_first : (x y : Part) (xs ys : List Part) → ArePieces (x.offset + x.length) xs → ArePieces (y.offset + y.length) ys → 1 ≤ x.length → 1 ≤ y.length →
    ((m : ℕ) × (slice_get (y ∷ ys) m ≡ Some x)) → ((m : ℕ) × (slice_get (x ∷ xs) m ≡ Some y)) → x ≡ y
one_first x y xs ys a b some other (zero, e) there = let same : x ≡ y = cc in same
one_first x y xs ys a b some other (suc m, e) (zero, f) = let same : x ≡ y = cc in same
one_first x y xs ys a b some other (suc m, e) (suc n, f) =
    let later = behind (y.offset + y.length) ys b m x e in
    let sooner = behind (x.offset + x.length) xs a n y f in
    absurd (omega (arith, later.0, sooner.0, some, other))

among_rest : (x y : Part) (xs ys : List Part) → x ≡ y → 1 ≤ x.length → ArePieces (x.offset + x.length) xs → AreAmong (x ∷ xs) (y ∷ ys) → AreAmong xs ys
among_rest x y xs ys same some a to n z e = by_place (to (suc n) z e) where
  by_place : ((m : ℕ) × (slice_get (y ∷ ys) m ≡ Some z)) → (m : ℕ) × (slice_get ys m ≡ Some z)
  by_place (zero, f) =
      let first : y ≡ z = cc in
      let later = behind (x.offset + x.length) xs a n z e in
      let o : x.offset ≡ z.offset = ap (λ (q : Part). q.offset) same ∙ ap (λ (q : Part). q.offset) first in
      absurd (omega (arith, later.0, some, o))
  by_place (suc m, f) = (m, f)

same_pieces : (from : ℕ) (xs ys : List Part) → ArePieces from xs → ArePieces from ys → AreAmong xs ys → AreAmong ys xs → xs ≡ ys
same_pieces from [] [] a b to back = refl
same_pieces from [] (y ∷ ys) a b to back = let e = (back zero y refl).1 in absurd cc
same_pieces from (x ∷ xs) [] a b to back = let e = (to zero x refl).1 in absurd cc
same_pieces from (x ∷ xs) (y ∷ ys) a b to back =
    let same = one_first x y xs ys a.1 b.1 a.0.1 b.0.1 (to zero x refl) (back zero y refl) in
    let rest = same_pieces (x.offset + x.length) xs ys a.1 (subst (λ (z : Part). ArePieces (z.offset + z.length) ys) (sym same) b.1)
    (among_rest x y xs ys same a.0.1 a.1 to) (among_rest y x ys xs (sym same) b.0.1 b.1 back) in
    λ i. same i ∷ rest i

module _ (g : Program) (start : Pos) (v : VarId) (p : Pos) where
  gives_both : (a b : Option Location) → IsWantedLocation g start v p a → IsWantedLocation g start v p b → (c : Option Bytes) (place : Place) →
      GivesPart a c place → GivesPart b c place
  gives_both a b one other c place gives =
      let there = (wanted_locations_give_parts g start v p b other c).gives place in
      let here = (wanted_locations_give_parts g start v p a one c).gives place in
      there.1 (here.0 gives)

  among : (x y : Part) (xs ys : List Part) → IsWantedLocation g start v p (Some (Parts (x ∷ xs))) → IsWantedLocation g start v p (Some (Parts (y ∷ ys))) →
      AreAmong (x ∷ xs) (y ∷ ys)
  among x y xs ys one other n z e = gives_both (Some (Parts (x ∷ xs))) (Some (Parts (y ∷ ys))) one other (Some (bytes_of z)) z.place (n, e)

  pub one_location : (a b : Option Location) → IsWantedLocation g start v p a → IsWantedLocation g start v p b → a ≡ b
  one_location None None one other = refl
  one_location None (Some (Whole q)) one other = let e = gives_both (Some (Whole q)) None other one None q refl in cc
  one_location None (Some (Parts [])) one other = absurd other
  one_location None (Some (Parts (y ∷ ys))) one other =
      let e = (gives_both (Some (Parts (y ∷ ys))) None other one (Some (bytes_of y)) y.place (zero, refl)).1 in
      cc
  one_location (Some (Whole q)) None one other = let e = gives_both (Some (Whole q)) None one other None q refl in cc
  one_location (Some (Whole q)) (Some (Whole r)) one other =
      let e = gives_both (Some (Whole q)) (Some (Whole r)) one other None q refl in
      let same : q ≡ r = cc in
      ap (λ (z : Place). Some (Whole z)) same
  one_location (Some (Whole q)) (Some (Parts [])) one other = absurd other
  one_location (Some (Whole q)) (Some (Parts (y ∷ ys))) one other =
      let e = gives_both (Some (Whole q)) (Some (Parts (y ∷ ys))) one other None q refl in
      cc
  one_location (Some (Parts [])) b one other = absurd one
  one_location (Some (Parts (x ∷ xs))) None one other =
      let e = (gives_both (Some (Parts (x ∷ xs))) None one other (Some (bytes_of x)) x.place (zero, refl)).1 in
      cc
  one_location (Some (Parts (x ∷ xs))) (Some (Whole r)) one other =
      let e = gives_both (Some (Whole r)) (Some (Parts (x ∷ xs))) other one None r refl in
      cc
  one_location (Some (Parts (x ∷ xs))) (Some (Parts [])) one other = absurd other
  one_location (Some (Parts (x ∷ xs))) (Some (Parts (y ∷ ys))) one other =
      ap (λ (zs : List Part). Some (Parts zs))
      (same_pieces 0 (x ∷ xs) (y ∷ ys) one.1.ascend other.1.ascend (among x y xs ys one other) (among y x ys xs other one))

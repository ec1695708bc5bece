-- How the loops over the parts of a variable go on.
use Rattle.std.proofs.Common.{◌≡◌, ℕ, suc, ◌+◌, ◌≤◌, ◌<◌, List, [], ◌∷◌, ◌++◌, length, drop, get_or, ap, sym, subst, ◌∙◌, drop-cons, add-one, append_assoc}
use Rattle.std.proofs.lemmas.List.{drop_all}
use Rattle.dwarf_loclists.specs.declared.range.Part.{Part}
use Rattle.dwarf_loclists.specs.Ranges.{IsPiece, ArePieces}
use Rattle.dwarf_loclists.specs.Spelling.{piece, composite_location}

-- the first of the parts that are left
pub record FirstPart (from : ℕ) (p : Part) (parts rest : List Part) : Type 0 where
  pub is : IsPiece from p
  pub others : ArePieces (p.offset + p.length) rest
  pub bytes : composite_location from parts ≡ piece from p ++ composite_location (p.offset + p.length) rest

first_of_all : (from : ℕ) (p : Part) (parts rest : List Part) → parts ≡ p ∷ rest → ArePieces from parts → FirstPart from p parts rest
first_of_all from p parts rest e are =
    let pieces : ArePieces from (p ∷ rest) = subst (ArePieces from) e are in
    record { is = pieces.0; others = pieces.1; bytes = ap (composite_location from) e }

pub first_part : (from i : ℕ) (parts : List Part) (p : Part) → i < length parts → p ≡ get_or parts i p → ArePieces from (drop i parts)
    → FirstPart from p (drop i parts) (drop (i + 1) parts)
first_part from i parts p inside at are =
    let split : drop i parts ≡ p ∷ drop (i + 1) parts = rw (add-one, drop-cons parts i p) (ap (λ (q : Part). q ∷ drop (suc i) parts) (sym at)) in
    first_of_all from p (drop i parts) (drop (i + 1) parts) split are

pub no_part : (from i : ℕ) (parts : List Part) → length parts ≤ i → composite_location from (drop i parts) ≡ []
no_part from i parts end = ap (composite_location from) (drop_all i parts end)

-- what is written of a whole, with one more part of it
pub appended : (out one rest : List ℕ) {new left whole : List ℕ} → new ≡ out ++ one → left ≡ one ++ rest → out ++ left ≡ whole → new ++ rest ≡ whole
appended out one rest e split so_far =
    ap (λ (xs : List ℕ). xs ++ rest) e ∙ append_assoc out one rest ∙ ap (λ (xs : List ℕ). out ++ xs) (sym split) ∙ so_far

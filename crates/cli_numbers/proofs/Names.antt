-- Names of registers.
use Rattle.std.proofs.Common.{◌≡◌, ◌≢◌, ℕ, ◌<◌, ◌^◌, List, [], ◌∷◌, ◌++◌, length, get_or, take, drop, nat_eq, false, refl, sym, ap, ◌∙◌, subst, arith, rules}
use Rattle.std.specs.List.{All, AllPairs, Contains}
use Rattle.std.proofs.lemmas.List.{get_or_default, get_or-take, length-take}
use Rattle.std.proofs.lemmas.List.Quantifiers.{all_pairs_push}
use Rattle.std.specs.Fmt.{decimal}
use Rattle.std.proofs.lemmas.List.Elements.{All-from_recursion, All-cons, All-contains}
use Rattle.cli_numbers.proofs.Pieces.{IsSpelling}
use Rattle.cli_numbers.proofs.Decimals.{decimals}
use Rattle.rv64_instr.specs.Reserve.{RESERVABLE}
use Rattle.cli_numbers.specs.Reserve.{register_name}

all_below : All (λ r. r < 28) RESERVABLE
all_below = All-from_recursion (λ r. r < 28) RESERVABLE (search rules)

-- a register that may be in a reserve is one of the first 28
pub below : (r : ℕ) → Contains RESERVABLE r → r < 28
below r in_it = All-contains (λ r. r < 28) RESERVABLE r all_below in_it

small : (r : ℕ) → Contains RESERVABLE r → r < 2 ^ 64
small r in_it = let lt = below r in_it in omega (arith, lt)

pub names : IsSpelling register_name (Contains RESERVABLE)
names = record {
  no_comma = λ r in_it. All-cons (λ x. nat_eq x 44 ≡ false) 120 (decimal r) refl (decimals.no_comma r (small r in_it));
  one = λ r s hr hs e. decimals.one r s (small r hr) (small s hs) (ap (drop 1) e);
}

-- ---- each once

-- one more, which isn't there yet
pub once_more : (registers : List ℕ) (r : ℕ) → AllPairs (λ s t. s ≢ t) registers → (Contains registers r → ⊥) → AllPairs (λ s t. s ≢ t) (registers ++ r ∷ [])
once_more registers r once other =
    all_pairs_push (λ s t. s ≢ t) registers r once (λ k d lt e. other (k, lt, get_or_default registers k r d lt ∙ e))

-- none stands before its place
pub not_before : (registers front : List ℕ) (i : ℕ) → take i registers ≡ front → i < length registers → AllPairs (λ s t. s ≢ t) registers →
    Contains front (get_or registers i 0) → ⊥
not_before registers front i same inside once h =
    at (get_or registers i 0) refl (subst (λ (rs : List ℕ). Contains rs (get_or registers i 0)) (sym same) h) where
      at : (r : ℕ) → r ≡ get_or registers i 0 → Contains (take i registers) r → ⊥
      at r is (k, lt, e) =
          let few = length-take i registers in
          let before : k < i = omega (arith, lt, few) in
          once k i r before inside (sym (get_or-take i registers k r before) ∙ (e ∙ (is ∙ get_or_default registers i 0 r inside)))

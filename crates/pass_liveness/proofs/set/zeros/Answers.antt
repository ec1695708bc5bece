use Rattle.std.proofs.Common.{◌≡◌, ℕ, zero, suc, List, [], ◌∷◌, get_or, refl, rules}
use Rattle.pass_liveness.proofs.set.zeros.Goals as goal

abbrev Zeros : List ℕ → Type 0
Zeros [] = Unit {0}
Zeros (zero ∷ xs) = Zeros xs
Zeros (suc x ∷ xs) = ⊥

all_zero : (xs : List ℕ) → Zeros xs → (k : ℕ) → get_or xs k 0 ≡ 0
all_zero [] z k = refl
all_zero (zero ∷ xs) z zero = refl
all_zero (zero ∷ xs) z (suc k) = all_zero xs z k
all_zero (suc x ∷ xs) z k = absurd z

pub returns : goal.returns
returns c = λ k. search (rules, all_zero)

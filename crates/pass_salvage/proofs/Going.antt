-- The indices of what is removed.
use Rattle.std.proofs.Common.{◌≡◌, ℕ, zero, suc, ◌+◌, ◌<◌, List, [], ◌∷◌, get_or, Bool, true, false, refl, ap, ◌∙◌, arith}
use Rattle.std.specs.Prelude.{nat_eq, ◌||◌}
use Rattle.std.specs.List.{list_any}
use Rattle.std.proofs.lemmas.Bool.{eq-eqb, ne_eqb}
use Rattle.pass_salvage.specs.SalvageAction.{going_from}

pub none_below : (k n : ℕ) (rs : List Bool) → k < n → list_any (nat_eq k) (going_from n rs) ≡ false
none_below k n [] lt = refl
none_below k n (true ∷ rs) lt =
    let a : nat_eq k n ≡ false = ne_eqb k n (λ e. omega (arith, e, lt)) in
    let b = none_below k (suc n) rs (omega (arith, lt)) in
    λ i. a i || b i
none_below k n (false ∷ rs) lt = none_below k (suc n) rs (omega (arith, lt))

-- an index is among them if and only if its flag is set
pub removed_at : (rs : List Bool) (n d k : ℕ) → k ≡ n + d → list_any (nat_eq k) (going_from n rs) ≡ get_or rs d false
removed_at [] n d k e = refl
removed_at (true ∷ rs) n zero k e =
    ap (λ (z : Bool). z || list_any (nat_eq k) (going_from (suc n) rs)) (eq-eqb k n (omega (arith, e)))
removed_at (true ∷ rs) n (suc d) k e =
    ap (λ (z : Bool). z || list_any (nat_eq k) (going_from (suc n) rs)) (ne_eqb k n (λ f. omega (arith, e, f))) ∙
    removed_at rs (suc n) d k (omega (arith, e))
removed_at (false ∷ rs) n zero k e = none_below k (suc n) rs (omega (arith, e))
removed_at (false ∷ rs) n (suc d) k e = removed_at rs (suc n) d k (omega (arith, e))

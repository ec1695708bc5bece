-- The registers of the allocation order.
use Rattle.std.proofs.Common.{◌≡◌, ℕ, zero, suc, ◌<◌, List, [], ◌∷◌, All, Contains, Bool, true, not, ◌&&◌, nat_lt, refl, sym, subst, arith}
use Rattle.std.specs.List.{list_all}
use Rattle.std.proofs.lemmas.Bool.{and_parts, ltb-true}
use Rattle.std.proofs.lemmas.List.Elements.{All-nil, All-cons}
use Rattle.spill_select.proofs.spill_rule.Scratch.{kept_by}
use Rattle.spill_select.specs.Incoming.{is_among}
use Rattle.scan_allocation.specs.Walk.{ORDER, order_without}

pub all_by : (test : ℕ → Bool) (xs : List ℕ) (x : ℕ) → list_all test xs ≡ true → Contains xs x → test x ≡ true
all_by test [] x e (k, lt, at) = absurd (omega (arith, lt))
all_by test (y ∷ ys) x e (zero, lt, at) = subst (λ (z : ℕ). test z ≡ true) at (and_parts (test y) (list_all test ys) e).0
all_by test (y ∷ ys) x e (suc k, lt, at) = all_by test ys x (and_parts (test y) (list_all test ys) e).1 (k, omega (arith, lt), at)

-- they are physical, and none of x0 to x4
pub order_real : (reserve scratch : List ℕ) (q : ℕ) → Contains (order_without reserve scratch) q → (4 < q) × (q < 32)
order_real reserve scratch q c =
    let kept = kept_by (λ r. not (is_among reserve r) && not (is_among scratch r)) ORDER q c in
    let passes : (nat_lt 4 q && nat_lt q 32) ≡ true = all_by (λ r. nat_lt 4 r && nat_lt r 32) ORDER q refl kept.0 in
    let parts = and_parts (nat_lt 4 q) (nat_lt q 32) passes in
    (ltb-true 4 q parts.0, ltb-true q 32 parts.1)

contained_all : (P : ℕ → Type 0) (xs : List ℕ) → ((x : ℕ) → Contains xs x → P x) → All P xs
contained_all P [] h = All-nil P
contained_all P (x ∷ xs) h =
    All-cons P x xs (h x (0, omega arith, refl)) (contained_all P xs (λ y c. h y (suc c.0, (let lt = c.1 in omega (arith, lt)), c.2)))

pub order_physical : (reserve scratch : List ℕ) → All (λ r. r < 32) (order_without reserve scratch)
order_physical reserve scratch = contained_all (λ r. r < 32) (order_without reserve scratch) (λ q c. (order_real reserve scratch q c).1)

pub is_physical : (reserve scratch order : List ℕ) → order ≡ order_without reserve scratch → All (λ r. r < 32) order
is_physical reserve scratch order is = subst (All (λ (r : ℕ). r < 32)) (sym is) (order_physical reserve scratch)

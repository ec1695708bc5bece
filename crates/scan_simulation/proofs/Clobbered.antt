-- The registers that a call may name as set: those that it sets, x0 and x2.
use Rattle.std.proofs.Common.{◌≡◌, ◌⊎◌, inl, inr, ℕ, zero, suc, ◌<◌, List, [], ◌∷◌, Contains, Bool, true, false, not, ◌||◌, nat_eq}
use Rattle.std.proofs.Common.{eqb-true, refl, sym, arith}
use Rattle.std.specs.List.{list_any}
use Rattle.std.proofs.lemmas.Bool.{cases_eq}
use Rattle.rv64_instr.specs.DefsAndUses.{caller_saved}
use Rattle.rv64_instr.specs.Form.{is_clobbered}
use Rattle.scan_rule.proofs.scan_allocation.Named.{clobbered_small}
use Rattle.scan_rule.proofs.scan_allocation.AllocationOrder.{all_by}

abbrev upto : ℕ → List ℕ
upto zero = []
upto (suc n) = n ∷ upto n

in_upto : (n r : ℕ) → r < n → Contains (upto n) r
in_upto zero r lt = absurd (omega (arith, lt))
in_upto (suc n) r lt =
    elim (cases_eq n r) as (λ _. Contains (upto (suc n)) r) [
      | inl e ↦ (0, omega arith, e)
      | inr ne ↦ (let w = in_upto n r (omega (arith, lt, ne)) in (suc w.0, (let within = w.1 in omega (arith, within)), w.2))
    ]

from_any : (r : ℕ) (xs : List ℕ) → list_any (nat_eq r) xs ≡ true → Contains xs r
from_any r [] e = cc
from_any r (x ∷ xs) e = by_test (nat_eq r x) refl e (λ h. from_any r xs h) where
  by_test : (z : Bool) → nat_eq r x ≡ z → (z || list_any (nat_eq r) xs) ≡ true → (list_any (nat_eq r) xs ≡ true → Contains xs r) → Contains (x ∷ xs) r
  by_test true t e more = (0, omega arith, sym (eqb-true r x t))
  by_test false t e more = let w = more e in (suc w.0, (let within = w.1 in omega (arith, within)), w.2)

abbrev SMALL : List ℕ
SMALL = 0 ∷ 2 ∷ caller_saved

not_left : (a b : Bool) → (not a || b) ≡ true → a ≡ true → b ≡ true
not_left true b e h = e
not_left false b e h = cc

pub clobbered : (r : ℕ) → is_clobbered r ≡ true → (r ≡ 0) ⊎ ((r ≡ 2) ⊎ Contains caller_saved r)
clobbered r e =
    let all : (not (is_clobbered r) || list_any (nat_eq r) SMALL) ≡ true =
    all_by (λ q. not (is_clobbered q) || list_any (nat_eq q) SMALL) (upto 32) r refl (in_upto 32 r (clobbered_small r e)) in
    by_place (from_any r SMALL (not_left (is_clobbered r) (list_any (nat_eq r) SMALL) all e)) where
      by_place : Contains SMALL r → (r ≡ 0) ⊎ ((r ≡ 2) ⊎ Contains caller_saved r)
      by_place (zero, lt, at) = inl (sym at)
      by_place (suc zero, lt, at) = inr (inl (sym at))
      by_place (suc (suc k), lt, at) = inr (inr (k, omega (arith, lt), at))

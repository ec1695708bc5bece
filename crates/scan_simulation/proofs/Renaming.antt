-- The new names of registers: x0 and x2 keep theirs, and nothing else gets them.
use Rattle.std.proofs.Common.{◌≡◌, ℕ, suc, ◌<◌, Option, Some, None, refl, ap, arith}
use Rattle.mir_func.specs.Graph.{Program}
use Rattle.scan_rule.proofs.spill_simulation.Acting.{SetsZero}
use Rattle.scan_rule.proofs.spill_simulation.Rows.{KeepsZero}
use Rattle.scan_rule.specs.scan_allocation.Coloring.{now_by, now, IsColoring}

pub now_plain : (given : ℕ → Option ℕ) (r : ℕ) → given r ≡ None → now given r ≡ r
now_plain given r e = ap (now_by r) e

pub now_given : (given : ℕ → Option ℕ) (r q : ℕ) → given r ≡ Some q → now given r ≡ q
now_given given r q e = ap (now_by r) e

module _ (f : Program) (given : ℕ → Option ℕ) (col : IsColoring f given) where
  -- a physical register keeps its name
  pub physical : (r : ℕ) → r < 32 → given r ≡ None
  physical r lt = by_given (given r) refl where
    by_given : (x : Option ℕ) → given r ≡ x → x ≡ None
    by_given None e = refl
    by_given (Some q) e = let le = (col.real r q e).0 in absurd (omega (arith, lt, le))

  -- a small number is the new name of itself alone
  small_now : (n r : ℕ) → n < 3 → now given r ≡ n → r ≡ n
  small_now n r lt e = by_given (given r) refl e where
    by_given : (x : Option ℕ) → given r ≡ x → now_by r x ≡ n → r ≡ n
    by_given None h e = e
    by_given (Some q) h e = let is : q ≡ n = e in let above = (col.real r q h).1 in absurd (omega (arith, lt, is, above))

  pub now_pointer : (r : ℕ) → now given r ≡ 2 → r ≡ 2
  now_pointer r e = small_now 2 r (omega arith) e

  pub sets_zero : SetsZero (now given)
  sets_zero = record { zero_stays = now_plain given 0 (physical 0 (omega arith)); no_other = λ r e. small_now 0 r (omega arith) e }

  pub keeps_zero : KeepsZero (now given) (now given)
  keeps_zero = record {
    zero_stays = now_plain given 0 (physical 0 (omega arith));
    no_other = λ r e. (let bad = small_now 0 (suc r) (omega arith) e in omega (arith, bad));
  }

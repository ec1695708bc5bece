use Rattle.std.proofs.Common.{◌≡◌, ℕ, nat_eq, take}
use Rattle.std.specs.List.{list_any}
use Rattle.mir_pool.specs.Pool.{constant_ids}
use Rattle.read_body.specs.FirstUseOrder.{is_met}
use Rattle.read_program.proofs.pool.set_of.Given as goal

abbrev pub invariant-loop-constant : goal.invariant-loop-constant
invariant-loop-constant l = (n : ℕ) → is_met n l.set ≡ list_any (nat_eq n) (constant_ids (take l.constant-index l.constants))

use Rattle.std.proofs.Common.{◌≡◌, ℕ, None, cond, nat_eq, take}
use Rattle.std.specs.List.{list_any}
use Rattle.std.specs.Map.{lookup}
use Rattle.rv64_instr.specs.LocationEffects.{is_outgoing}
use Rattle.sem_interpreter.proofs.slots.Slots.clear_passed.Given as goal

abbrev pub invariant-loop-operand : goal.invariant-loop-operand
invariant-loop-operand l = (n : ℕ) → lookup (nat_eq n) l.self
    ≡ cond (list_any (is_outgoing n) (take l.operand-index l.operands)) None (lookup (nat_eq n) l.initial.self)

use Rattle.std.proofs.Common.{◌≡◌, drop}
use Rattle.std.specs.Prelude.{is_some, nat_eq}
use Rattle.std.specs.List.{list_all}
use Rattle.std.specs.Map.{lookup}
use Rattle.rv64_instr.specs.Row.{outgoing_words}
use Rattle.sem_interpreter.proofs.slots.Slots.are_passed.Given as goal

abbrev pub invariant-loop-operand : goal.invariant-loop-operand
invariant-loop-operand l = list_all (λ n. is_some (lookup (nat_eq n) l.self)) (outgoing_words (drop l.operand-index l.operands))
    ≡ list_all (λ n. is_some (lookup (nat_eq n) l.self)) (outgoing_words l.operands)

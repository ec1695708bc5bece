use Rattle.std.proofs.Common.{◌≡◌, ◌++◌, take, filter}
use Rattle.rv64_instr.specs.Form.{is_implicit}
use Rattle.remat_pass.proofs.constant.push_implicit.Given as goal

abbrev pub invariant-loop-operand : goal.invariant-loop-operand
invariant-loop-operand l = l.list ≡ l.initial.list ++ filter is_implicit (take l.operand-index l.operands)

use Rattle.std.proofs.Common.{◌≡◌, drop}
use Rattle.read_item.specs.Code.{placed, append_to}
use Rattle.read_item.proofs.operand.placed.Given as goal

-- what is read and what is left make the whole
abbrev pub invariant-loop-form : goal.invariant-loop-form
invariant-loop-form l = append_to l.operands (placed l.rest (drop l.form-index l.forms)) ≡ append_to l.fn.first (placed l.fn.places l.forms)

use Rattle.std.proofs.Common.{◌≡◌, drop}
use Rattle.read_program.specs.Closing.{fixed_behind}
use Rattle.read_program.proofs.closing.meet_fixed.Given as goal

abbrev pub invariant-loop-entry : goal.invariant-loop-entry
invariant-loop-entry l = fixed_behind l.ids (drop l.entry-index l.fixed) ≡ fixed_behind l.initial.ids l.fixed

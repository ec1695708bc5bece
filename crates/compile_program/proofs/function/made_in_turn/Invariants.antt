use Rattle.std.proofs.Common.{drop}
use Rattle.compile_program.proofs.Behind.{SoFar}
use Rattle.compile_program.proofs.function.made_in_turn.Given as goal

abbrev pub invariant-loop-source : goal.invariant-loop-source
invariant-loop-source l = SoFar l.meta l.reserve l.passes l.functions (drop l.source-index l.functions) l.made

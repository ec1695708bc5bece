use Rattle.std.specs.Prelude.{All}
use Rattle.std.proofs.Common.{take}
use Rattle.compile_program.specs.Program.{GetsRegisters}
use Rattle.compile_program.proofs.function.have_registers.Given as goal

abbrev pub invariant-loop-source : goal.invariant-loop-source
invariant-loop-source l = All (GetsRegisters l.reserve) (take l.source-index l.functions)

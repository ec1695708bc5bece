-- A self-test of the first function of a compiled program.
use Rattle.std.specs.Prelude.{◌≡◌, ℕ, List, Some, slice_get}
use Rattle.selftest_proof.specs.selftest_count.Runs.{GoApart}
use Rattle.selftest_proof.specs.selftest_count.Text.{MAX_STEPS, IsSelfTest}
use Rattle.mir_func.specs.Resolve.{resolve}
use Rattle.gen_program.specs.read_program.declared.closing.Parsed.{Parsed}
use Rattle.gen_program.specs.read_program.declared.program.Program.{Program}
use Rattle.run_command.specs.Program.{CompiledFunction}
use Rattle.run_command.specs.Runs.{Compilation}
use Rattle.run_command.specs.dwarf_unit.Variables.{variables_of_function}

-- the first function of a program, and what is made of it
pub record IsFirst (p : Program) (c : Compilation) (source : Parsed) (function : CompiledFunction) : Type 0 where
  pub read : slice_get p.functions 0 ≡ Some source
  pub compiled : slice_get c.functions 0 ≡ Some function

-- the text is that of a self-test of the first function
pub record TestsFirst (p : Program) (c : Compilation) (text : List ℕ) : Type 0 where
  pub source : Parsed
  pub function : CompiledFunction
  pub first : IsFirst p c source function
  pub tests : IsSelfTest source.func (resolve source.subs) function.code function.lists (variables_of_function source.func.blocks) text

-- the runs of the first function and of its machine code diverge
pub record FirstGoesApart (p : Program) (c : Compilation) : Type 0 where
  pub source : Parsed
  pub function : CompiledFunction
  pub first : IsFirst p c source function
  pub apart : GoApart source.func (resolve source.subs) function.code function.lists (variables_of_function source.func.blocks) MAX_STEPS

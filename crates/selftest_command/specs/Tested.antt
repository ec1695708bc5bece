-- The self-test of a generated function.
use Rattle.std.specs.Prelude.{◌≡◌, ℕ, ◌*◌, ◌≤◌, List, [], ◌∷◌, length}
use Rattle.listing_text.specs.declared.output.ListedFunction.{ListedFunction}
use Rattle.selftest_proof.specs.selftest_count.Text.{IsSelfTest}
use Rattle.gen_program.specs.Program.{generated_program}
use Rattle.mir_func.specs.Resolve.{resolve}
use Rattle.gen_function.specs.Generator.{generated}
use Rattle.pass_list.specs.declared.kind.PassKind.{PassKind}
use Rattle.run_command.specs.Program.{CompiledFunction, IsCompilationOf, IsOutputOf, steps_of}
use Rattle.run_command.specs.Runs.{Compilation}
use Rattle.selftest_proof.specs.sim_machine.Shown.{ShowsCode}
use Rattle.run_command.specs.listing_meaning.Program.{image_of}
use Rattle.run_command.specs.dwarf_unit.Variables.{variables_of_function}

-- The text is that of a self-test of the generated function: it is compiled with passes, with `reserve` as the registers that may be spilled, and its
-- machine code, which is that of the output, runs in lockstep with it for at most 10,000 steps. The text has the number of items of the function, the
-- number of its words of `.text`, the number of machine steps, the number of values in its location lists before these steps, and the number of its
-- variables whose newest assignment has a value there. The number of values in the lists is at most that of the variables.
pub record IsSelfTestOf (reserve : List ℕ) (passes : List PassKind) (number blocks : ℕ) (text : List ℕ) : Type 0 where
  pub compilation : Compilation
  pub output : IsOutputOf (steps_of reserve passes) (generated_program number blocks) compilation.output
  pub compiled : IsCompilationOf reserve passes (generated_program number blocks) compilation
  pub function : CompiledFunction
  pub functions : compilation.functions ≡ function ∷ []
  pub listed : ListedFunction
  pub listings : compilation.output.functions ≡ listed ∷ []
  pub shows : ShowsCode function.code (image_of compilation.output listed)
  pub words : length compilation.output.text ≡ 4 * length function.code.words
  pub tests : IsSelfTest (generated number blocks) (resolve []) function.code function.lists (variables_of_function (generated number blocks).blocks) text
  pub known : tests.counts.reads ≤ tests.counts.known

-- The state of compilation after some functions, and after one more.
use Rattle.std.specs.Prelude.{◌≡◌, ◌*◌, ◌<◌, ◌≤◌, ℕ, List, length}
use Rattle.emit_code.specs.Counts.{MAX_WORDS}
use Rattle.compile_function.specs.pass_trait.declared.loss.Loss.{Loss}
use Rattle.frame_rule.specs.Rule.{reach_of}
use Rattle.compile_function.specs.declared.emit.EmittedFunctions.{EmittedFunctions}
use Rattle.compile_function.specs.Emitted.{names_of, text_of, IsPushed}
use Rattle.compile_function.specs.Passed.{ExposedSteps, source_of, IsMadeBy, IsMadeLosing, IsCompilable}
use Rattle.read_metadata.specs.Maps.{Maps}
use Rattle.mir_func.specs.Limits.{MAX_FRAME}
use Rattle.compile_function.specs.read_program.declared.closing.Parsed.{Parsed}
use Rattle.compile_function.specs.compile_theorem.Source.{PassedFunction, IsPassedFunction}
use Rattle.pass_list.specs.declared.kind.PassKind.{PassKind}
use Rattle.compile_program.specs.Program.{ArePassed, AreCompiledAs}

-- One more function is run through the passes, and compiled after the previous ones.
pub record IsSourcePushed (meta : Maps) (reserve : List ℕ) (passes : List PassKind) (q : Parsed) (before after : EmittedFunctions) : Type 0 where
  pub passed : PassedFunction
  pub losses : List Loss
  pub source : passed.source ≡ source_of q
  pub compilable : IsCompilable meta passed
  pub lost : IsMadeLosing reserve passes passed losses
  pub pushed : IsPushed meta passed losses before after

-- The function, after the steps of passes, refines its source, and has a frame above the limit.
pub record IsTooLarge (steps : ExposedSteps) (q : Parsed) : Type 0 where
  pub passed : PassedFunction
  pub source : passed.source ≡ source_of q
  pub keeps : IsPassedFunction passed
  pub made : IsMadeBy steps passed
  pub large : MAX_FRAME < reach_of passed.function

-- The functions are run through the passes and compiled from address 0 on.
pub record AreMade (meta : Maps) (reserve : List ℕ) (passes : List PassKind) (functions : List Parsed) (m : EmittedFunctions) : Type 0 where
  pub passed : List PassedFunction
  pub are : ArePassed meta functions passed
  pub compiled : AreCompiledAs (names_of meta) reserve passes 0 0 passed m.listings m.functions
  pub text : m.text ≡ text_of m.functions
  pub few_bytes : length m.text ≤ length functions * (4 * MAX_WORDS)

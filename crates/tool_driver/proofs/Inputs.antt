-- What is known of an input by what was read from it.
use Rattle.std.proofs.Common.{◌≡◌, ◌≢◌, ℕ, Bool, ◌+◌, List, [], Result, Ok, Err, sym, subst}
use Rattle.base_io.specs.Told.{TakesCount}
use Rattle.read_refusal.specs.declared.first.Refusal.{Refusal}
use Rattle.read_program.specs.declared.program.Program.{Program}
use Rattle.read_program.specs.declared.error.ParseError.{ParseError}
use Rattle.read_program.specs.declared.error.ParseError.TheVariants as errors
use Rattle.read_input.specs.Input.{IsReadWhole}
use Rattle.cli.specs.declared.fault.Fault.{Fault}
use Rattle.cli.specs.declared.fault.Fault.TheVariants.{Usage, Read, TooLong, Refused, NoFunction, UnknownFunction}
use Rattle.cli.specs.declared.fault.Fault.TheVariants.{NoRegister, FrameTooLarge, SymbolName, SectionTooLarge, Write, Memory}
use Rattle.tool_driver.specs.Limits.{INPUT_LIMIT}
use Rattle.tool_driver.specs.Refusals.{IsTooLong}
use Rattle.tool_driver.specs.Run.{HasRead, HasReadProgram}
use Rattle.tool_driver.specs.steps.Ends.{HasReadNone, RefusesInput, RefusesText}
use Rattle.tool_driver.specs.Stream.{Change, IsSteady}

module _ (linked : Bool) (input : Change) (steady : IsSteady input) where
  has_read : {answer : Result Program ParseError} → (read : IsReadWhole linked input.before.bytes input.after.bytes INPUT_LIMIT answer) →
      HasRead input read.text
  has_read read = record {
    whole = record { takes = read.takes; ended = read.ended; steady = steady };
    within = read.within;
    bytes = read.bytes;
  }

  -- a program with a function
  pub reads_program : (program : Program) → IsReadWhole linked input.before.bytes input.after.bytes INPUT_LIMIT (Ok program) → program.functions ≢ [] →
      HasReadProgram linked input program
  reads_program program read some = record { text = read.text; read = has_read read; has = record { reads = read.reads; some = some } }

  -- a program without functions
  pub reads_none : (program : Program) → IsReadWhole linked input.before.bytes input.after.bytes INPUT_LIMIT (Ok program) → program.functions ≡ [] →
      RefusesInput linked input NoFunction
  reads_none program read none =
      record { text = read.text; read = has_read read; refused = record { program = program; reads = read.reads; no_one = none } }

  -- a refusal
  pub reads_refusal : (r : Refusal) → IsReadWhole linked input.before.bytes input.after.bytes INPUT_LIMIT (Err (errors.Refused r)) →
      RefusesInput linked input (Refused r)
  reads_refusal r read = record { text = read.text; read = has_read read; refused = read.reads }

  -- a text that is too long
  pub reads_too_long : TakesCount input.before.bytes input.after.bytes (INPUT_LIMIT + 1) → IsTooLong input
  reads_too_long takes = record { takes = takes; steady = steady }

-- ---- a text that was read whole

-- why it is no program with a function
pub refuses_input : (linked : Bool) (input : Change) (text : List ℕ) → HasRead input text → (fault : Fault) → RefusesText linked text fault →
    HasReadNone linked input fault
refuses_input linked input text read (Refused r) refused = record { text = text; read = read; refused = refused }
refuses_input linked input text read Memory refused = tt
refuses_input linked input text read NoFunction refused = record { text = text; read = read; refused = refused }
refuses_input linked input text read UnknownFunction refused = refused
refuses_input linked input text read NoRegister refused = refused
refuses_input linked input text read FrameTooLarge refused = refused
refuses_input linked input text read SymbolName refused = refused
refuses_input linked input text read SectionTooLarge refused = refused
refuses_input linked input text read Usage refused = refused
refuses_input linked input text read Read refused = absurd refused
refuses_input linked input text read TooLong refused = absurd refused
refuses_input linked input text read Write refused = refused

-- where nothing but memory is wanting
pub only_memory : (linked : Bool) (text : List ℕ) (fault : Fault) → fault ≡ Memory → RefusesText linked text fault
only_memory linked text fault same = subst (λ (f : Fault). RefusesText linked text f) (sym same) tt

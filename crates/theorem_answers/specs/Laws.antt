-- The statements of the theorems on what is answered.
use Rattle.std.specs.Prelude.{◌≡◌, ℕ, ◌≤◌, false, List, [], length, Some, Ok}
use Rattle.mir_func_printer.specs.FuncText.{func_text}
use Rattle.read_program.specs.Program.{ReadsText}
use Rattle.cli.specs.declared.command.Command.{Command}
use Rattle.cli.specs.declared.command.Command.TheVariants.{Compile, Strip}
use Rattle.cli.specs.declared.command.PassPipeline.{PassPipeline}
use Rattle.gen_function.specs.Generator.{generated}
use Rattle.gen_text.specs.GeneratedText.{generated_text}
use Rattle.gen_program.specs.Program.{generated_program}
use Rattle.tool_driver.specs.Limits.{INPUT_LIMIT}
use Rattle.tool_driver.specs.Refusals.{IsAnswered, IsAnswerable}

-- `compile` by these passes, without `.debug_frame` and inlined functions
abbrev pub compile_by : PassPipeline → Command
compile_by plan = Compile (record { plan = plan; frame = false; inline = false })

-- Nothing refuses the program of a generated function, whatever passes it is compiled by, without `.debug_frame` and inlined functions.
abbrev pub GeneratedProgramsAreAnswered : Type 0
GeneratedProgramsAreAnswered = (number count : ℕ) (plan : PassPipeline) → 1 ≤ count → count ≤ 512 →
    IsAnswered (compile_by plan) (generated_program number count)

-- A text within the limit that is read as the program of a generated function, in the language that the plan reads, can be answered.
abbrev pub GeneratedTextsAreAnswerable : Type 0
GeneratedTextsAreAnswerable = (number count : ℕ) (plan : PassPipeline) (text : List ℕ) → 1 ≤ count → count ≤ 512 → length text ≤ INPUT_LIMIT →
    ReadsText plan.linked text (Ok (generated_program number count)) → IsAnswerable (compile_by plan) (Some text)

-- The document of a generated function can be compiled, by any passes, where the linked language isn't read.
abbrev pub GeneratedDocumentsAreAnswerable : Type 0
GeneratedDocumentsAreAnswerable = (number count : ℕ) (plan : PassPipeline) → plan.linked ≡ false → 1 ≤ count → count ≤ 512 →
    IsAnswerable (compile_by plan) (Some (func_text (generated number count) []))

-- What `gen` writes can be stripped.
abbrev pub GeneratedTextsAreStripped : Type 0
GeneratedTextsAreStripped = (number count : ℕ) → 1 ≤ count → count ≤ 512 → IsAnswerable (Strip false) (Some (generated_text number count))

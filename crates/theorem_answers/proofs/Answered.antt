-- Nothing refuses the program of a generated function: its frame and its sections are within their limits, and `compile` asks for no more
-- without `.debug_frame`.
use Rattle.std.proofs.Common.{◌≢◌, ℕ, ◌≤◌, Bool, false, List, [], Ok, length, refl, ap, sym, subst, arith}
use Rattle.cli.specs.declared.command.PassPipeline.{PassPipeline}
use Rattle.cli.specs.declared.command.Command.TheVariants.{Strip}
use Rattle.cli.specs.declared.fault.Fault.{Fault}
use Rattle.mir_func_printer.specs.FuncText.{func_text}
use Rattle.tool_driver.specs.Answer.{Line, block_lines}
use Rattle.read_program.specs.declared.program.Program.{Program}
use Rattle.read_program.specs.Program.{ReadsText}
use Rattle.gen_function.specs.Generator.{generated}
use Rattle.gen_text.specs.GeneratedText.{generated_text}
use Rattle.gen_program.specs.Program.{generated_program}
use Rattle.tool_driver.proofs.Frames.{generated_frames_are_small}
use Rattle.tool_driver.proofs.Registers.{generated_have_registers}
use Rattle.tool_driver.proofs.Sections.{generated_sections_are_small}
use Rattle.tool_driver.specs.Refusals.{RefusesProgram, unknown_function, no_register, frame_too_large, section_too_large}
use Rattle.tool_driver.specs.Refusals.{frame_section_too_large, inlined_section_too_large, object_too_large, no_symbol_name, RefusesLines, linkable_too_large}
use Rattle.tool_driver.specs.Refusals.{answers}
use Rattle.tool_driver.specs.Limits.{INPUT_LIMIT}
use Rattle.theorem_gen_text.specs.Laws.{program_of_text}
use Rattle.theorem_gen_text.proofs.Texts.{generated_documents_are_read, generated_texts_are_read}
use Rattle.theorem_gen_text.proofs.Sizes.{generated_texts_are_short}
use Rattle.theorem_answers.specs.Laws.{compile_by, GeneratedProgramsAreAnswered, GeneratedTextsAreAnswerable, GeneratedDocumentsAreAnswerable}
use Rattle.theorem_answers.specs.Laws.{GeneratedTextsAreStripped}

no_cause : {fault : Fault} (number count : ℕ) (plan : PassPipeline) → 1 ≤ count → count ≤ 512 →
    RefusesProgram (compile_by plan) (generated_program number count) fault → ⊥
no_cause number count plan some few (unknown_function run same unknown) = absurd cc
no_cause number count plan some few (no_register other same named virtual) =
    generated_have_registers number count other.reserve few virtual
no_cause number count plan some few (frame_too_large other same named registers large) =
    generated_frames_are_small number count other.reserve other.passes large
no_cause number count plan some few (section_too_large other same named large) =
    generated_sections_are_small number count other.reserve other.passes some few large
no_cause number count plan some few (frame_section_too_large asked same framed large) = absurd cc
no_cause number count plan some few (inlined_section_too_large asked same inlined large) = absurd cc
no_cause number count plan some few (object_too_large other same plain large) = absurd cc
no_cause number count plan some few (no_symbol_name other same invalid) = absurd cc

no_lines : {fault : Fault} (lines : List Line) (program : Program) (plan : PassPipeline) → RefusesLines (compile_by plan) lines program fault → ⊥
no_lines lines program plan (linkable_too_large asked form same is large) = absurd cc

pub programs_are_answered : GeneratedProgramsAreAnswered
programs_are_answered number count plan some few fault refused = no_cause number count plan some few refused

has_function : (number count : ℕ) → (generated_program number count).functions ≢ []
has_function number count none = let long = ap length none in absurd (omega (arith, long))

pub texts_are_answerable : GeneratedTextsAreAnswerable
texts_are_answerable number count plan text some few within reads =
    answers (generated_program number count) tt
    (record { text = text; told = refl; within = within; has = record { reads = reads; some = has_function number count } })
    (programs_are_answered number count plan some few) (λ fault refused. no_lines (block_lines plan.linked text) (generated_program number count) plan refused)

-- ---- the texts

limited : (n : ℕ) → n ≤ 2097152 → n ≤ INPUT_LIMIT
limited n short = omega (arith, short)

pub documents_are_answerable : GeneratedDocumentsAreAnswerable
documents_are_answerable number count plan plain some few =
    let text = func_text (generated number count) [] in
    texts_are_answerable number count plan text some few (limited (length text) (generated_texts_are_short number count few).document)
    (subst (λ (linked : Bool). ReadsText linked text (Ok (generated_program number count))) (sym plain) (generated_documents_are_read number count some few))

-- nothing refuses a program that is stripped
none_stripped : {fault : Fault} (program : Program) → RefusesProgram (Strip false) program fault → ⊥
none_stripped program (unknown_function run same unknown) = absurd cc
none_stripped program (no_register plan same named virtual) = absurd cc
none_stripped program (frame_too_large plan same named registers large) = absurd cc
none_stripped program (section_too_large plan same named large) = absurd cc
none_stripped program (frame_section_too_large asked same framed large) = absurd cc
none_stripped program (inlined_section_too_large asked same inlined large) = absurd cc
none_stripped program (object_too_large plan same plain large) = absurd cc
none_stripped program (no_symbol_name plan same invalid) = absurd cc

no_lines_stripped : {fault : Fault} (lines : List Line) (program : Program) → RefusesLines (Strip false) lines program fault → ⊥
no_lines_stripped lines program (linkable_too_large asked form same is large) = absurd cc

text_has_function : (number count : ℕ) → (program_of_text number count).functions ≢ []
text_has_function number count none = let long = ap length none in absurd (omega (arith, long))

pub texts_are_stripped : GeneratedTextsAreStripped
texts_are_stripped number count some few =
    let text = generated_text number count in
    answers (program_of_text number count) tt
    (record {
      text = text;
      told = refl;
      within = limited (length text) (generated_texts_are_short number count few).text;
      has = record { reads = generated_texts_are_read number count some few; some = text_has_function number count };
    })
    (λ fault refused. none_stripped (program_of_text number count) refused)
    (λ fault refused. no_lines_stripped (block_lines false text) (program_of_text number count) refused)

-- What the location lists of a compiled program that are true in every frame guarantee of its suspended functions.
use Rattle.std.specs.Prelude.{◌≡◌, ◌⊎◌, ℕ, true, List, [], ◌∷◌, ◌++◌, Option, Some}
use Rattle.mir_func.specs.declared.debug_substitution.OperandPair.{OperandPair}
use Rattle.mir_func.specs.declared.variable.VarId.{VarId}
use Rattle.mir_func.specs.Function.{Function}
use Rattle.mir_func.specs.Graph.{Program as Graph, program_of, framed_program}
use Rattle.mir_func.specs.Resolve.{resolve}
use Rattle.sem_mir.specs.Align.{Since}
use Rattle.sem_mir.specs.State.{State}
use Rattle.sem_machine.specs.Headline.{StartsAt, AlignsWith, FailsBeforeLine, MachineAlong}
use Rattle.sem_machine.specs.Image.{CodeLine, Image, line_at}
use Rattle.sem_machine.specs.Machine.{Machine, machine_start}
use Rattle.emit_code.specs.declared.code.EncodedInstruction.{EncodedInstruction}
use Rattle.dwarf_loclists.specs.declared.range.Range.{Range}
use Rattle.frame_theorem.specs.Suspended.{KeepsCaller}
use Rattle.kept_theorem.specs.Backtrace.{PassesAt, HoldSuspended}
use Rattle.kept_lists.specs.Kept.{AllKept}
use Rattle.listing_text.specs.declared.output.ListedFunction.{ListedFunction}
use Rattle.listing_text.specs.declared.output.Output.{Output}
use Rattle.pass_list.specs.declared.kind.PassKind.{PassKind}
use Rattle.compile_program.specs.listing_meaning.Program.{image_of}
use Rattle.compile_program.specs.compile_theorem.Source.{SourceFunction}
use Rattle.compile_program.specs.read_program.declared.program.Program.{Program}
use Rattle.compile_program.specs.declared.compile.Compilation.{Compilation}
use Rattle.compile_program.specs.Program.{CompiledFunction, IsCompilationOf, sources_of}

-- From every start: where the machine on a function's image comes to code from which control goes to a callee, a debugger that reads the places that the lists
-- give there for a suspended frame, in registers and memory k that agree with the machine's in what the callee has to keep, finds the source's values, unless
-- the source stops on a frame fault before.
abbrev pub HoldWhereSuspended : (source : Function) → (OperandPair → Option OperandPair) → Graph → List EncodedInstruction → List VarId →
    List (List Range) → Image → Type 0
HoldWhereSuspended source resolved g entries variables lists image = (s0 : State) → StartsAt source s0 → (m : Machine) (s : State) (since : Since)
    (l : CodeLine) → MachineAlong (program_of true source.blocks resolved) image (machine_start image s0) s0 m s since →
    line_at image.lines m.counter ≡ Some l → (passed : List ℕ) → PassesAt g entries m.counter passed → (k : Machine) → KeepsCaller passed m k →
    ((s' : State) × AlignsWith (program_of true source.blocks resolved) l since s s' × HoldSuspended entries variables lists m k s')
    ⊎ FailsBeforeLine (program_of true source.blocks resolved) l since s

-- the lists of a function of an output, with its code
abbrev pub HoldFor : Output → SourceFunction → CompiledFunction → ListedFunction → List (List Range) → Type 0
HoldFor o s c f lists =
    HoldWhereSuspended s.function (resolve s.substitutions) (framed_program c.code.framed.blocks (resolve f.substitutions)) c.code.entries c.variables lists
    (image_of o f)

-- the lists of functions, one after the other
abbrev pub AllHold : Output → List SourceFunction → List CompiledFunction → List ListedFunction → List (List Range) → Type 0
AllHold o [] [] [] lists = lists ≡ []
AllHold o [] [] (f ∷ fs) lists = ⊥
AllHold o [] (c ∷ cs) fs lists = ⊥
AllHold o (s ∷ ss) [] fs lists = ⊥
AllHold o (s ∷ ss) (c ∷ cs) [] lists = ⊥
AllHold o (s ∷ ss) (c ∷ cs) (f ∷ fs) lists =
    (own : List (List Range)) × (rest : List (List Range)) × HoldFor o s c f own × (lists ≡ own ++ rest) × AllHold o ss cs fs rest

-- So it is of the lists of each compiled program that are true in every frame.
abbrev pub SuspendedProgramsHold : Type 0
SuspendedProgramsHold = (reserve : List ℕ) (passes : List PassKind) (p : Program) (c : Compilation) → IsCompilationOf reserve passes p c →
    (lists : List (List Range)) → AllKept c.functions c.output.functions lists →
    AllHold c.output (sources_of p.functions) c.functions c.output.functions lists

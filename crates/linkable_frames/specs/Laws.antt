-- What the call frame information of an object that a linker places guarantees: its CIE undefines the registers that a function doesn't give back, so that a
-- debugger doesn't show what a callee left there as a value of its caller (DWARF 5 section 6.4.2.3, DW_CFA_undefined).
use Rattle.std.specs.Prelude.{ℕ, ◌<◌, ◌^◌, List, length, map, All, Option, IfSome}
use Rattle.std.specs.List.{AllZip}
use Rattle.dwarf_frame.specs.declared.table.FrameDescription.{FrameDescription}
use Rattle.dwarf_frame.specs.Spelling.{spelling}
use Rattle.dwarf_frame.specs.Table.{IsDescription}
use Rattle.frame_table.specs.Table.{Describes}
use Rattle.emit_code.specs.Laid.{LaidCode}
use Rattle.listing_text.specs.declared.output.Output.{Output}
use Rattle.frame_theorem.specs.compile_theorem.Laws.{AreCompiledTo}
use Rattle.frame_theorem.specs.compile_theorem.Source.{SourceFunction, PassedFunction, sources_among}
use Rattle.frame_theorem.specs.compile_theorem.Compiled.{AreCoded}
use Rattle.frame_theorem.specs.dwarf_sections.Frame.{IsFrameSection}
use Rattle.frame_theorem.specs.Laws.{SparesKept}
use Rattle.frame_theorem.specs.Unwinding.{AllUnwind}
use Rattle.linkable_command.specs.Linkable.{LOST}

-- no register that a function gives back is undefined
abbrev pub LostAreSpared : Type 0
LostAreSpared = SparesKept LOST

-- the section with these registers undefined unwinds to the start at each line that the machine comes to, unless the source stops on a frame fault before
abbrev pub LinkableUnwinds : Type 0
LinkableUnwinds = (names : ℕ → List ℕ) (functions : List PassedFunction) (o : Output) → AreCompiledTo names functions o → (codes : List LaidCode) →
    AreCoded 0 (map (λ p. p.function) functions) codes → (section : List ℕ) → IsFrameSection LOST codes section →
    AllUnwind LOST section (sources_among functions) o

-- the call frame information of functions, if there is some, in the section with these registers undefined, unwinds in each function
abbrev pub TablesUnwind : List SourceFunction → Output → Option (List FrameDescription) → Type 0
TablesUnwind sources o frames = IfSome frames (λ table. AllUnwind LOST (spelling LOST table) sources o)

-- So does that of the functions' machine code, if the section isn't too large.
abbrev pub DescriptionsUnwind : Type 0
DescriptionsUnwind = (names : ℕ → List ℕ) (functions : List PassedFunction) (o : Output) → AreCompiledTo names functions o → (codes : List LaidCode) →
    AreCoded 0 (map (λ p. p.function) functions) codes → (table : List FrameDescription) → AllZip Describes codes table → All IsDescription table →
    length (spelling LOST table) < 2 ^ 31 → AllUnwind LOST (spelling LOST table) (sources_among functions) o

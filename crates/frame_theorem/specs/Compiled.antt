-- The section of a compiled output unwinds.
use Rattle.std.specs.Prelude.{ℕ, List, map}
use Rattle.emit_code.specs.Laid.{LaidCode}
use Rattle.dwarf_sections.specs.Frame.{IsFrameSection}
use Rattle.listing_text.specs.declared.output.Output.{Output}
use Rattle.compile_theorem.specs.Laws.{AreCompiledTo}
use Rattle.compile_theorem.specs.Source.{PassedFunction, sources_among}
use Rattle.compile_theorem.specs.Compiled.{AreCoded}
use Rattle.frame_theorem.specs.Laws.{SparesKept}
use Rattle.frame_theorem.specs.Unwinding.{AllUnwind}

-- The section that encodes the call frame information of the functions' machine code unwinds to the start at each line that the machine comes to,
-- in each function, unless its source stops on a frame fault before the line.
abbrev pub CompiledUnwinds : Type 0
CompiledUnwinds = (names : ℕ → List ℕ) (functions : List PassedFunction) (o : Output) → AreCompiledTo names functions o → (codes : List LaidCode) →
    AreCoded 0 (map (λ p. p.function) functions) codes → (undefined section : List ℕ) → SparesKept undefined → IsFrameSection undefined codes section →
    AllUnwind undefined section (sources_among functions) o

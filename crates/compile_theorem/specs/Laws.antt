-- The statements of the correctness theorems for every output of the compiler.
use Rattle.std.specs.Prelude.{◌≡◌, ℕ, ◌<◌, ◌≤◌, List, All}
use Rattle.std.specs.List.{flat_map}
use Rattle.std.specs.Int.{w32, to_le_bytes}
use Rattle.mir_func.specs.Graph.{block_start, framed_program}
use Rattle.mir_func.specs.Limits.{MAX_FRAME}
use Rattle.mir_func.specs.Resolve.{resolve}
use Rattle.emit_code.specs.Counts.{MAX_WORDS, MAX_BASE, count_of}
use Rattle.emit_code.specs.Laid.{LaidCode, IsCodeOf}
use Rattle.frame_rule.specs.Rule.{reach_of, framed_of}
use Rattle.dwarf_loclists.specs.declared.range.Range.{Range}
use Rattle.location_ranges.specs.Lists.{AreListsOf}
use Rattle.dwarf_unit.specs.Variables.{variables_of_function}
use Rattle.listing_text.specs.declared.output.ListedFunction.{ListedFunction}
use Rattle.listing_meaning.specs.Listing.{listing_of}
use Rattle.listing_text.specs.declared.output.Output.{Output}
use Rattle.compile_theorem.specs.Compiled.{bytes_of, IsCompiledFunction, IsCompiledProgram}
use Rattle.compile_theorem.specs.OutputProperties.{variable_lines, Promises, IsExact, AreLaidOut, ListsPassed}
use Rattle.compile_theorem.specs.Source.{SourceFunction, IsSourceFunction, PassedFunction, unpassed, sources_among, IsPassedFunction}
use Rattle.compile_theorem.specs.Words.{HaveWords}

-- The functions are as passes make them of sources, and the output is compiled of them.
pub record AreCompiledTo (names : ℕ → List ℕ) (functions : List PassedFunction) (o : Output) : Type 0 where
  pub passed : All IsPassedFunction functions
  pub compiled : IsCompiledProgram names functions o

-- Every source that was read refines itself, so it is as passes make it, with no passes.
abbrev pub SourcesFollowThemselves : Type 0
SourcesFollowThemselves = (source : SourceFunction) → IsSourceFunction source → IsPassedFunction (unpassed source)

-- The headline holds for each source: the machine code refines it, and each place in the location lists holds the value of the newest assignment.
abbrev pub CompiledPromises : Type 0
CompiledPromises = (names : ℕ → List ℕ) (functions : List PassedFunction) (o : Output) → AreCompiledTo names functions o →
    Promises (sources_among functions) o

-- The location lists of the output are exact.
abbrev pub CompiledIsExact : Type 0
CompiledIsExact = (names : ℕ → List ℕ) (functions : List PassedFunction) (o : Output) → AreCompiledTo names functions o → IsExact o

-- The output is laid out: its functions fill `.text` in order, and the lines of each fill its addresses.
abbrev pub CompiledIsLaidOut : Type 0
CompiledIsLaidOut = (names : ℕ → List ℕ) (functions : List PassedFunction) (o : Output) → AreCompiledTo names functions o →
    AreLaidOut names (sources_among functions) o

-- The listing shows the passed functions with their frames.
abbrev pub CompiledListsPassed : Type 0
CompiledListsPassed = (names : ℕ → List ℕ) (functions : List PassedFunction) (o : Output) → AreCompiledTo names functions o → ListsPassed functions o

-- At the address of each listed instruction, `.text` has its encoding.
abbrev pub CompiledHasWords : Type 0
CompiledHasWords = (names : ℕ → List ℕ) (functions : List PassedFunction) (o : Output) → AreCompiledTo names functions o → HaveWords o

-- If a passed function with its frame has this machine code at this address, within the limits, and the lists are those of its source's variables
-- over the code's entries, and the listing is that of the code's layout, then the function is compiled there, with the code's words as bytes and
-- these lists.
abbrev pub CodesAreCompiled : Type 0
CodesAreCompiled = (names : ℕ → List ℕ) (p : PassedFunction) (base first : ℕ) (f : ListedFunction) (code : LaidCode) (lists : List (List Range)) →
    (is : IsCodeOf (framed_of p.function) base code) → base < MAX_BASE → count_of (framed_of p.function).blocks < MAX_WORDS →
    reach_of p.function ≤ MAX_FRAME →
    AreListsOf (framed_program (framed_of p.function).blocks (resolve p.substitutions)) (block_start 0) code.entries
    (variables_of_function p.source.function.blocks) lists →
    f ≡ listing_of is.layout (variable_lines names first (variables_of_function p.source.function.blocks)) p.substitutions →
    (c : IsCompiledFunction names p base first f) × (bytes_of c.layout ≡ flat_map (to_le_bytes w32) code.words) × (c.lists ≡ lists)

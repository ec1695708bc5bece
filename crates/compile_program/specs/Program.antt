-- The output of compiling a program.
use Rattle.std.specs.Prelude.{◌≡◌, ℕ, ◌+◌, ◌*◌, ◌<◌, ◌≤◌, ◌⊎◌, List, [], ◌∷◌, length, map, All, Contains, Option, None, Some, IfSome}
use Rattle.emit_code.specs.Laid.{IsCodeOf}
use Rattle.emit_code.specs.Rule.{words_of}
use Rattle.listing_text.specs.declared.output.ListedFunction.{ListedFunction}
use Rattle.listing_text.specs.declared.output.Output.{Output}
use Rattle.dwarf_base.specs.Limits.{SECTION_LIMIT}
use Rattle.dwarf_info.specs.Entries.{spelling as entries_spelling}
use Rattle.dwarf_info.specs.Kinds.{abbreviations, inlined_abbreviations}
use Rattle.dwarf_line.specs.Spelling.{spelling as rows_spelling}
use Rattle.dwarf_loclists.specs.declared.range.Range.{Range}
use Rattle.dwarf_loclists.specs.Grammar.{IsSection}
use Rattle.dwarf_loclists.specs.Spelling.{spelling as lists_spelling}
use Rattle.frame_rule.specs.Rule.{reach_of, framed_of}
pub use Rattle.compile_function.specs.Emitted.{names_of, text_of, lists_of, AreWritable}
pub use Rattle.compile_function.specs.declared.compiled_function.CompiledFunction.{CompiledFunction}
pub use Rattle.compile_function.specs.declared.error.CompileError.{CompileError}
pub use Rattle.compile_function.specs.declared.error.CompileError.TheVariants.{NoRegister, FrameTooLarge, SectionTooLarge}
pub use Rattle.compile_function.specs.Passed.{ExposedSteps, source_of, GetsRegisters, LeavesVirtual, IsMadeBy, IsMadeLosing, IsCompilable, steps_of, passes_of}
use Rattle.read_metadata.specs.Maps.{Maps}
use Rattle.mir_func.specs.Function.{Function}
use Rattle.mir_func.specs.Limits.{MAX_FRAME}
use Rattle.compile_function.specs.read_program.declared.closing.Parsed.{Parsed}
use Rattle.compile_function.specs.read_program.declared.program.Program.{Program}
pub use Rattle.compile_function.specs.compile_theorem.Compiled.{AreCoded}
use Rattle.compile_function.specs.compile_theorem.Compiled.{IsCompiledFunction, AreCompiled, IsCompiledProgram}
use Rattle.compile_function.specs.compile_theorem.Source.{SourceFunction, PassedFunction, IsPassedFunction}
use Rattle.pass_list.specs.declared.kind.PassKind.{PassKind}
pub use Rattle.compile_program.specs.declared.compile.Compilation.{Compilation}
use Rattle.compile_function.specs.dwarf_line_table.declared.source_and_code.SourceAndCode.{SourceAndCode}
use Rattle.compile_function.specs.dwarf_line_table.Program.{table_of}
use Rattle.compile_function.specs.dwarf_sections.Frame.{IsFrameSection, IsLargeFrameSection}
use Rattle.compile_function.specs.dwarf_sections.Inlined.{AreInlinedSections, IsLargeInlined}
use Rattle.compile_function.specs.dwarf_unit.Unit.{unit_of}
use Rattle.compile_function.specs.dwarf_unit.Variables.{variables_of_function}

-- ---- sources

-- the functions of a program as source functions
abbrev pub sources_of : List Parsed → List SourceFunction
sources_of functions = map source_of functions

-- ---- passes

-- The n-th passed function is of the n-th function that was read, and can be compiled.
abbrev pub ArePassed : (meta : Maps) → List Parsed → List PassedFunction → Type 0
ArePassed meta [] [] = Unit {0}
ArePassed meta [] (p ∷ ps) = ⊥
ArePassed meta (f ∷ fs) [] = ⊥
ArePassed meta (f ∷ fs) (p ∷ ps) = (p.source ≡ source_of f) × IsCompilable meta p × ArePassed meta fs ps

-- ---- machine code

-- The functions that were read, each with the machine code of its passed function. The code begins at address 0.
pub record HaveCode (functions : List PassedFunction) (compiled : List SourceAndCode) : Type 0 where
  pub sources : map (λ c. c.source.now) compiled ≡ map (λ p. p.source.function) functions
  pub coded : AreCoded 0 (map (λ p. p.function) functions) (map (λ c. c.code.now) compiled)

-- ---- functions

-- The function, which these passes made of its source, is compiled at address `base` with location lists numbered from `first`. What is made of it is
-- its machine code, the variables of its source, their location lists, which can be encoded, and the losses of the passes.
pub record IsCompiledAs (names : ℕ → List ℕ) (reserve : List ℕ) (passes : List PassKind) (p : PassedFunction) (base first : ℕ) (f : ListedFunction)
    (c : CompiledFunction) : Type 0 where
  pub compiled : IsCompiledFunction names p base first f
  pub code : IsCodeOf (framed_of p.function) base c.code
  pub words : c.code.words ≡ words_of compiled.layout
  pub variables : c.variables ≡ variables_of_function p.source.function.blocks
  pub lists : c.lists ≡ compiled.lists
  pub writable : AreWritable c.lists
  pub lost : IsMadeLosing reserve passes p c.losses

-- Functions are compiled so one after the other.
abbrev pub AreCompiledAs : (names : ℕ → List ℕ) → (reserve : List ℕ) → List PassKind → (base first : ℕ) → List PassedFunction → List ListedFunction →
    List CompiledFunction → Type 0
AreCompiledAs names reserve passes base first [] [] [] = Unit {0}
AreCompiledAs names reserve passes base first [] [] (c ∷ cs) = ⊥
AreCompiledAs names reserve passes base first [] (f ∷ fs) cs = ⊥
AreCompiledAs names reserve passes base first (p ∷ ps) [] cs = ⊥
AreCompiledAs names reserve passes base first (p ∷ ps) (f ∷ fs) [] = ⊥
AreCompiledAs names reserve passes base first (p ∷ ps) (f ∷ fs) (c ∷ cs) =
    IsCompiledAs names reserve passes p base first f c × AreCompiledAs names reserve passes f.high (first + length c.lists) ps fs cs

-- ---- sections

-- `.debug_abbrev`, `.debug_info` and `.debug_line` encode the abbreviations, the unit and the line number table of the program. If there is `.debug_rnglists`,
-- they are those of its inlined functions too, and it encodes these functions' ranges.
abbrev pub Describe : Maps → (text_len : ℕ) → List SourceAndCode → (abbreviated info rows : List ℕ) → (ranges : Option (List ℕ)) → Type 0
Describe meta text_len compiled abbreviated info rows None =
    (abbreviated ≡ abbreviations) × (info ≡ entries_spelling (unit_of meta text_len compiled)) × (rows ≡ rows_spelling (table_of meta compiled))
Describe meta text_len compiled abbreviated info rows (Some ranges) =
    (abbreviated ≡ inlined_abbreviations) × AreInlinedSections meta text_len compiled info rows ranges

-- The sections describe the program. `.debug_frame`, if there is one, encodes the call frame information of the functions' machine code. All but the
-- abbreviations are below the size limit.
pub record HasSections (meta : Maps) (functions : List PassedFunction) (o : Output) : Type 0 where
  pub compiled : List SourceAndCode
  pub coded : HaveCode functions compiled
  pub described : Describe meta (length o.text) compiled o.abbreviations o.info o.rows o.ranges
  pub text_small : length o.text < SECTION_LIMIT
  pub info_small : length o.info < SECTION_LIMIT
  pub rows_small : length o.rows < SECTION_LIMIT
  pub loclists_small : length o.loclists < SECTION_LIMIT
  pub frame : IfSome o.frame (IsFrameSection [] (map (λ c. c.code.now) compiled))
  pub frame_small : IfSome o.frame (λ bytes. length bytes < SECTION_LIMIT)
  pub ranges_small : IfSome o.ranges (λ bytes. length bytes < SECTION_LIMIT)

-- ---- outputs

-- The output is compiled of what steps of passes made of the program's functions, with all its sections.
pub record IsOutputOf (steps : ExposedSteps) (p : Program) (o : Output) : Type 0 where
  pub functions : List PassedFunction
  pub passed : ArePassed p.meta p.functions functions
  pub made : All (IsMadeBy steps) functions
  pub compiled : IsCompiledProgram (names_of p.meta) functions o
  pub sections : HasSections p.meta functions o

-- The result of compiling a program: the output, and what is made of each function.
pub record IsCompilationOf (reserve : List ℕ) (passes : List PassKind) (p : Program) (c : Compilation) : Type 0 where
  pub functions : List PassedFunction
  pub passed : ArePassed p.meta p.functions functions
  pub compiled : AreCompiledAs (names_of p.meta) reserve passes 0 0 functions c.output.functions c.functions
  pub text : c.output.text ≡ text_of c.functions
  pub section : IsSection c.output.loclists (lists_of c.functions)
  pub small : length c.output.text < SECTION_LIMIT

-- ---- programs that have no output

-- linear scan leaves no virtual register in any function
abbrev pub HaveRegisters : (reserve : List ℕ) → List Parsed → Type 0
HaveRegisters reserve functions = All (GetsRegisters reserve) functions

-- Linear scan leaves a virtual register in some function.
pub record HasVirtualRegister (reserve : List ℕ) (functions : List Parsed) : Type 0 where
  pub function : Parsed
  pub among : Contains functions function
  pub virtual : LeavesVirtual reserve function

-- Some function, after the steps of passes, refines its source, and has a frame above the limit.
pub record HasLargeFrame (steps : ExposedSteps) (functions : List Parsed) : Type 0 where
  pub function : Parsed
  pub among : Contains functions function
  pub passed : PassedFunction
  pub source : passed.source ≡ source_of function
  pub keeps : IsPassedFunction passed
  pub made : IsMadeBy steps passed
  pub large : MAX_FRAME < reach_of passed.function

-- A section of the location lists, of the unit or of the line number table would be too large.
abbrev pub IsLarge : (meta : Maps) → (text_len : ℕ) → List (List Range) → List SourceAndCode → Type 0
IsLarge meta text_len lists compiled = (SECTION_LIMIT ≤ length (lists_spelling lists)) ⊎
    ((SECTION_LIMIT ≤ length (entries_spelling (unit_of meta text_len compiled))) ⊎ (SECTION_LIMIT ≤ length (rows_spelling (table_of meta compiled))))

-- A section of the program, compiled after the steps of passes, would be too large.
pub record HasLargeSection (steps : ExposedSteps) (p : Program) : Type 0 where
  pub functions : List PassedFunction
  pub passed : ArePassed p.meta p.functions functions
  pub made : All (IsMadeBy steps) functions
  pub text : List ℕ
  pub lists : List (List Range)
  pub listed : List ListedFunction
  pub compiled : List SourceAndCode
  pub laid : AreCompiled (names_of p.meta) 0 0 text lists functions listed
  pub coded : HaveCode functions compiled
  pub large : IsLarge p.meta (length text) lists compiled

-- The call frame information of the program, compiled after the steps of passes, would be too large.
pub record HasLargeFrameSection (steps : ExposedSteps) (p : Program) : Type 0 where
  pub functions : List PassedFunction
  pub passed : ArePassed p.meta p.functions functions
  pub made : All (IsMadeBy steps) functions
  pub compiled : List SourceAndCode
  pub coded : HaveCode functions compiled
  pub large : IsLargeFrameSection [] (map (λ c. c.code.now) compiled)

-- A section of the program with inlined functions, compiled after the steps of passes, would be too large.
pub record HasLargeInlinedSection (steps : ExposedSteps) (p : Program) : Type 0 where
  pub functions : List PassedFunction
  pub passed : ArePassed p.meta p.functions functions
  pub made : All (IsMadeBy steps) functions
  pub text : List ℕ
  pub lists : List (List Range)
  pub listed : List ListedFunction
  pub compiled : List SourceAndCode
  pub laid : AreCompiled (names_of p.meta) 0 0 text lists functions listed
  pub coded : HaveCode functions compiled
  pub large : IsLargeInlined p.meta (length text) compiled

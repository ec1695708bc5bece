-- A function that is compiled after others.
use Rattle.std.specs.Prelude.{◌≡◌, ℕ, ◌+◌, ◌<◌, ◌≤◌, List, [], ◌∷◌, ◌++◌, length, All}
use Rattle.std.specs.List.{flat_map}
use Rattle.std.specs.Int.{w32, to_le_bytes}
use Rattle.emit_code.specs.Counts.{MAX_WORDS, count_of}
use Rattle.emit_code.specs.Laid.{IsCodeOf}
use Rattle.emit_code.specs.Rule.{words_of}
use Rattle.dwarf_sections.specs.listing_text.declared.output.ListedFunction.{ListedFunction}
use Rattle.dwarf_loclists.specs.declared.range.Range.{Range}
use Rattle.dwarf_loclists.specs.Ranges.{Ascend, ArePlaces}
use Rattle.pass_trait.specs.declared.loss.Loss.{Loss}
use Rattle.frame_rule.specs.Rule.{framed_of, reach_of}
use Rattle.compile_function.specs.declared.compiled_function.CompiledFunction.{CompiledFunction}
use Rattle.compile_function.specs.declared.emit.EmittedFunctions.{EmittedFunctions}
use Rattle.compile_passes.specs.listing_function.Variables.{name_of}
use Rattle.read_metadata.specs.Maps.{Maps}
use Rattle.read_metadata.specs.Metadata.{variable_at}
use Rattle.compile_passes.specs.read_body.Limits.{MAX_ITEMS}
use Rattle.mir_func.specs.Graph.{block_start, framed_program}
use Rattle.mir_func.specs.Limits.{MAX_FRAME}
use Rattle.mir_func.specs.Resolve.{resolve}
use Rattle.compile_passes.specs.compile_theorem.Compiled.{IsCompiledFunction}
use Rattle.compile_passes.specs.compile_theorem.Source.{PassedFunction}
use Rattle.compile_passes.specs.location_ranges.Lists.{AreListsOf}
use Rattle.dwarf_sections.specs.dwarf_unit.Variables.{variables_of_function}

-- the name of the variable that a metadata node describes
abbrev pub names_of : Maps → (node : ℕ) → List ℕ
names_of meta node = name_of (variable_at meta node)

-- location lists that can be encoded: their ranges ascend, and their places can be listed
pub record AreWritable (lists : List (List Range)) : Type 0 where
  pub ascend : All Ascend lists
  pub places : All ArePlaces lists

-- the bytes of machine code of functions, one after the other, in little-endian order
abbrev pub text_of : List CompiledFunction → List ℕ
text_of functions = flat_map (λ c. flat_map (to_le_bytes w32) c.code.words) functions

-- the location lists of functions, one after the other
abbrev pub lists_of : List CompiledFunction → List (List Range)
lists_of functions = flat_map (λ c. c.lists) functions

-- the passed function, of which passes lost this, is compiled from an address on
pub record IsOneCompiled (p : PassedFunction) (lost : List Loss) (base : ℕ) (c : CompiledFunction) : Type 0 where
  pub code : IsCodeOf (framed_of p.function) base c.code
  pub fits : reach_of p.function ≤ MAX_FRAME
  pub few : count_of (framed_of p.function).blocks < MAX_WORDS
  pub variables : c.variables ≡ variables_of_function p.source.function.blocks
  pub lists : AreListsOf (framed_program (framed_of p.function).blocks (resolve p.substitutions)) (block_start 0) c.code.entries c.variables c.lists
  pub losses : c.losses ≡ lost
  pub ascend : All Ascend c.lists

-- One more function is compiled and appended.
pub record IsPushed (meta : Maps) (p : PassedFunction) (lost : List Loss) (before after : EmittedFunctions) : Type 0 where
  pub listed : ListedFunction
  pub compiled : IsCompiledFunction (names_of meta) p (length before.text) before.list_count listed
  pub made : CompiledFunction
  pub code : IsCodeOf (framed_of p.function) (length before.text) made.code
  pub words : made.code.words ≡ words_of compiled.layout
  pub few_words : length made.code.words < MAX_WORDS
  pub variables : made.variables ≡ variables_of_function p.source.function.blocks
  pub lists : made.lists ≡ compiled.lists
  pub few_lists : length made.lists ≤ MAX_ITEMS
  pub writable : AreWritable made.lists
  pub losses : made.losses ≡ lost
  pub text : after.text ≡ before.text ++ flat_map (to_le_bytes w32) made.code.words
  pub list_count : after.list_count ≡ before.list_count + length made.lists
  pub listings : after.listings ≡ before.listings ++ listed ∷ []
  pub functions : after.functions ≡ before.functions ++ made ∷ []

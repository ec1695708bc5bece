-- The output of compiling passed functions: each is laid out with its frame from the end of the previous one, and has a listing and the location
-- lists of its source's variables.
use Rattle.std.specs.Prelude.{◌≡◌, ℕ, ◌+◌, ◌*◌, ◌<◌, ◌≤◌, List, [], ◌∷◌, ◌++◌, length}
use Rattle.std.specs.List.{flat_map}
use Rattle.std.specs.Int.{w32, to_le_bytes}
use Rattle.mir_func.specs.Function.{Function}
use Rattle.mir_func.specs.Graph.{block_start, framed_program}
use Rattle.mir_func.specs.Limits.{MAX_FRAME}
use Rattle.mir_func.specs.Resolve.{resolve}
use Rattle.emit_code.specs.Counts.{MAX_WORDS, MAX_BASE, count_of}
use Rattle.emit_code.specs.Laid.{LaidCode, IsCodeOf, IsWorded}
use Rattle.emit_code.specs.BranchRelaxation.{IsSettled}
use Rattle.emit_code.specs.Rule.{Layout, entries_of, words_of}
use Rattle.frame_rule.specs.Rule.{reach_of, framed_of}
use Rattle.dwarf_loclists.specs.declared.range.Range.{Range}
use Rattle.dwarf_loclists.specs.Grammar.{IsSection}
use Rattle.location_ranges.specs.Lists.{AreListsOf}
use Rattle.listing_text.specs.declared.output.ListedFunction.{ListedFunction}
use Rattle.listing_text.specs.declared.output.Output.{Output}
use Rattle.listing_meaning.specs.Listing.{listing_of}
use Rattle.compile_theorem.specs.OutputProperties.{variable_lines}
use Rattle.compile_theorem.specs.Source.{PassedFunction}
use Rattle.dwarf_unit.specs.Variables.{variables_of_function}

-- ---- machine code

-- machine code of functions with their frames, one after the other from an address on
abbrev pub AreCoded : (base : ℕ) → List Function → List LaidCode → Type 0
AreCoded base [] [] = Unit {0}
AreCoded base [] (c ∷ cs) = ⊥
AreCoded base (f ∷ fs) [] = ⊥
AreCoded base (f ∷ fs) (c ∷ cs) = IsCodeOf (framed_of f) base c × AreCoded (base + 4 * length c.words) fs cs

-- ---- functions

-- The layout of a function at an address: the function with its frame and the least set of long branches. Each word encodes an operation. The
-- address, the number of words and the frame size are within limits.
pub record IsLayoutOf (function : Function) (base : ℕ) (l : Layout) : Type 0 where
  pub framed : l.framed ≡ framed_of function
  pub from : l.base ≡ base
  pub settled : IsSettled l
  pub worded : IsWorded l
  pub low : l.base < MAX_BASE
  pub few : count_of l.framed.blocks < MAX_WORDS
  pub small : reach_of function ≤ MAX_FRAME

-- the bytes of a layout in `.text`: its words in little-endian order
abbrev pub bytes_of : Layout → List ℕ
bytes_of l = flat_map (to_le_bytes w32) (words_of l)

-- A listed function is compiled at address `base`, with location lists numbered from `first`: it is the listing of a layout of the passed function,
-- with the passed substitutions and the source's variables. The lists are those of the source's variables over the layout's entries.
pub record IsCompiledFunction (names : ℕ → List ℕ) (p : PassedFunction) (base first : ℕ) (f : ListedFunction) : Type 0 where
  pub layout : Layout
  pub laid : IsLayoutOf p.function base layout
  pub listed : f ≡ listing_of layout (variable_lines names first (variables_of_function p.source.function.blocks)) p.substitutions
  pub lists : List (List Range)
  pub located : AreListsOf (framed_program layout.framed.blocks (resolve p.substitutions)) (block_start 0) (entries_of layout)
      (variables_of_function p.source.function.blocks) lists

-- Functions are compiled one after the other from address `base` and list number `first`. `text` is the bytes from there on, `lists` the location
-- lists from there on.
abbrev pub AreCompiled : (names : ℕ → List ℕ) → (base first : ℕ) → (text : List ℕ) → (lists : List (List Range)) → List PassedFunction →
    List ListedFunction → Type 0
AreCompiled names base first text lists [] [] = (text ≡ []) × (lists ≡ [])
AreCompiled names base first text lists [] (f ∷ fs) = ⊥
AreCompiled names base first text lists (p ∷ ps) [] = ⊥
AreCompiled names base first text lists (p ∷ ps) (f ∷ fs) =
    (c : IsCompiledFunction names p base first f) × (more : List ℕ) × (rest : List (List Range)) × (text ≡ bytes_of c.layout ++ more)
    × (lists ≡ c.lists ++ rest) × AreCompiled names f.high (first + length c.lists) more rest ps fs

-- The output is compiled of passed functions: `.text` is the bytes of all functions, `.debug_loclists` encodes the lists of all variables. `names`
-- maps a variable's metadata node to its name.
pub record IsCompiledProgram (names : ℕ → List ℕ) (ps : List PassedFunction) (o : Output) : Type 0 where
  pub lists : List (List Range)
  pub section : IsSection o.loclists lists
  pub functions : AreCompiled names 0 0 o.text lists ps o.functions

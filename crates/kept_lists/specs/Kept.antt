-- The location lists of compiled functions that are true in every frame.
use Rattle.std.specs.Prelude.{◌≡◌, List, [], ◌∷◌, ◌++◌}
use Rattle.mir_func.specs.Graph.{block_start, framed_program}
use Rattle.mir_func.specs.Resolve.{resolve}
use Rattle.dwarf_loclists.specs.declared.range.Range.{Range}
use Rattle.listing_text.specs.declared.output.ListedFunction.{ListedFunction}
use Rattle.compile_function.specs.declared.compiled_function.CompiledFunction.{CompiledFunction}
use Rattle.compile_function.specs.Emitted.{AreWritable}
use Rattle.kept_ranges.specs.Lists.{AreKeptListsOf}

-- the lists of the variables of a compiled function, whose listing shows its substitutions
abbrev pub AreKeptListsFor : CompiledFunction → ListedFunction → List (List Range) → Type 0
AreKeptListsFor c f lists =
    AreKeptListsOf (framed_program c.code.framed.blocks (resolve f.substitutions)) (block_start 0) c.code.entries c.variables lists

-- the lists of a function are appended, which can be written
pub record IsAppended (c : CompiledFunction) (f : ListedFunction) (before after : List (List Range)) : Type 0 where
  pub own : List (List Range)
  pub are : AreKeptListsFor c f own
  pub writable : AreWritable own
  pub appended : after ≡ before ++ own

-- the lists of functions, one after the other
abbrev pub AllKept : List CompiledFunction → List ListedFunction → List (List Range) → Type 0
AllKept [] fs lists = lists ≡ []
AllKept (c ∷ cs) [] lists = ⊥
AllKept (c ∷ cs) (f ∷ fs) lists = (own : List (List Range)) × (rest : List (List Range)) × AreKeptListsFor c f own × (lists ≡ own ++ rest) × AllKept cs fs rest

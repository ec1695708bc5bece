-- How the items above a copy are searched.
use Rattle.std.specs.Prelude.{List}
use Rattle.mir_func.specs.declared.debug_substitution.DebugSubstitution.{DebugSubstitution}
use Rattle.mir_func.specs.declared.item.Item.{Item}
use Rattle.pass_salvage.specs.declared.lookup.Lookup.{Lookup}
use Rattle.pass_salvage.specs.declared.lookup.Lookup.TheVariants.{Index, Walk}
use Rattle.pass_salvage.specs.Above.{IsIndexOf}

-- the lookup finds what is in these items: an index is the index of them, and a walk needs nothing
abbrev pub IsLookupOf : Lookup → List DebugSubstitution → (above : List Item) → Type 0
IsLookupOf (Index index) subs above = IsIndexOf index subs above
IsLookupOf Walk subs above = Unit {0}

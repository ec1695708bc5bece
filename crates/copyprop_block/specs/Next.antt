-- One step over an item of a block, in a list whose front is the result for the items before it.
use Rattle.std.specs.Prelude.{◌≡◌, ℕ, ◌≤◌, ◌<◌, ◌^◌, List, take, drop, length}
use Rattle.mir_func.specs.declared.debug_substitution.DebugSubstitution.{DebugSubstitution}
use Rattle.mir_func.specs.declared.item.Item.{Item}
use Rattle.copyprop_block.specs.declared.roots.Root.{Root}
use Rattle.pass_salvage.specs.declared.lookup.Lookup.{Lookup}
use Rattle.pass_salvage.specs.Lookup.{IsLookupOf}
use Rattle.copyprop_block.specs.Copied.{SoFar}

-- the invariant along a block: numbers are left, and the lookup is that of the items so far
pub record IsCarried (lookup : Lookup) (subs : List DebugSubstitution) (fresh : ℕ) (done : List Item) : Type 0 where
  pub left : fresh < 2 ^ 31
  pub found : IsLookupOf lookup subs done

-- the state is `a`: the first `kept` items of the list are its result, and from index `at` on the list is the old one
pub record Stands (a : SoFar) (kept at : ℕ) (items old : List Item) (roots : List Root) (subs : List DebugSubstitution) (fresh : ℕ) : Type 0 where
  pub done : take kept items ≡ a.done
  pub behind : drop at items ≡ drop at old
  pub size : length items ≡ length old
  pub within : kept ≤ at
  pub known : roots ≡ a.roots
  pub entries : subs ≡ a.subs
  pub counted : fresh ≡ a.fresh

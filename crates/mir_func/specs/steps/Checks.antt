-- What the checks of a function's parts decide.
use Rattle.std.specs.Prelude.{◌≡◌, ℕ, List, Contains, All, map, option_map}
use Rattle.std.specs.Ordering.{nat_cmp}
use Rattle.std.specs.BTreeMap.{BTreeMap, get}
use Rattle.mir_func.specs.declared.block.Block.{Block}
use Rattle.mir_func.specs.declared.item.Item.{Item}
use Rattle.mir_func.specs.declared.item.ItemKind.{ItemKind}
use Rattle.mir_func.specs.declared.item.ItemKind.TheVariants.{Code, Mark, Phi}
use Rattle.mir_func.specs.declared.object.Object.{Object}
use Rattle.mir_func.specs.declared.sound.Declared.{Declared}
use Rattle.mir_func.specs.Objects.{object_of, AreLaid}
use Rattle.mir_func.specs.Sound.{AreApart, TargetsIn, SlotsIn, KindPassesFirst, ObjectsIn, LeavesPointer, OriginIn, EndsWell, LastCloses, IsSoundObject}

-- the map has the size of the object with each number
abbrev pub AreSizes : List Object → BTreeMap ℕ ℕ → Type 0
AreSizes objects sizes = (n : ℕ) → get nat_cmp sizes n ≡ option_map (λ o. o.size) (object_of objects n)

-- the number of a phi is none of these
abbrev pub PhiIsApart : List ℕ → ItemKind → Type 0
PhiIsApart numbers (Phi p k) = Contains numbers k → ⊥
PhiIsApart numbers (Code i k) = Unit {0}
PhiIsApart numbers (Mark v m) = Unit {0}

-- the invariant of an item of a block, by what the function declares
pub record IsSoundItem (d : Declared) (b : Block) (i : Item) : Type 0 where
  pub target : TargetsIn d.blocks i.kind
  pub slot : SlotsIn d.slots i.kind
  pub passed : KindPassesFirst d.slots i.kind
  pub object : ObjectsIn d.objects i.kind
  pub pointer : LeavesPointer i.kind
  pub phi : PhiIsApart d.codes i.kind
  pub origin : OriginIn b i.origin

-- the invariant of a block
pub record IsSoundBlock (d : Declared) (b : Block) : Type 0 where
  pub each : All (IsSoundItem d b) b.items
  pub ends : EndsWell b.items

-- the invariant of a function apart from its counts and its objects
pub record AreSoundParts (d : Declared) (blocks : List Block) : Type 0 where
  pub ids_apart : AreApart d.blocks
  pub slots_apart : AreApart d.slots
  pub codes_apart : AreApart d.codes
  pub each : All (IsSoundBlock d) blocks
  pub last : LastCloses blocks

-- the invariant of a function's stack objects
pub record AreSoundObjects (objects : List Object) : Type 0 where
  pub apart : AreApart (map (λ o. o.id) objects)
  pub each : All IsSoundObject objects
  pub laid : AreLaid objects

-- What passes keep of the parts of a listing that aren't code: the name, the variables and locations of debug values, and the locations
-- of DBG_PHIs.
use Rattle.std.specs.Prelude.{◌≡◌, ◌⊎◌, ℕ, ◌<◌, Some, Contains}
use Rattle.rv64_instr.specs.declared.place.Place.{Place}
use Rattle.rv64_instr.specs.declared.place.Place.TheVariants.{Register, Slot, Const}
use Rattle.mir_func.specs.declared.item.Item.{Item}
use Rattle.mir_func.specs.declared.item.ItemKind.TheVariants.{Mark, Phi}
use Rattle.mir_func.specs.declared.location.Loc.{Loc}
use Rattle.mir_func.specs.declared.variable.MarkValue.{MarkValue}
use Rattle.mir_func.specs.declared.variable.VarId.{VarId}
use Rattle.mir_func.specs.Function.{Function}
use Rattle.mir_func.specs.Sound.{items_of}

-- the item is a debug value of this variable fragment, with this debug location
abbrev pub IsMarkOf : VarId → Loc → Item → Type 0
IsMarkOf v l i = (m : MarkValue) × (i.kind ≡ Mark v m) × (i.loc ≡ l)

-- the item is a DBG_PHI of this location
abbrev pub IsPhiOf : Place → Item → Type 0
IsPhiOf p i = (k : ℕ) × (i.kind ≡ Phi (Some p) k)

-- some item of the function is a debug value of this variable fragment, with this debug location
abbrev pub HasMark : Function → VarId → Loc → Type 0
HasMark f v l = (i : Item) × Contains (items_of f.blocks) i × IsMarkOf v l i

-- some item of the function is a DBG_PHI of this location
abbrev pub HasPhi : Function → Place → Type 0
HasPhi f p = (i : Item) × Contains (items_of f.blocks) i × IsPhiOf p i

-- a location that a pass may add to a DBG_PHI: a slot, or a register other than x0
abbrev pub IsGiven : Place → Type 0
IsGiven (Register r) = 0 < r
IsGiven (Slot n) = Unit {0}
IsGiven (Const c) = ⊥

-- the function has the name of the one before, debug values only of variable fragments and debug locations that the one before had, and
-- DBG_PHIs only of locations that the one before had or that a pass may add
pub record KeepsShown (f g : Function) : Type 0 where
  pub name : g.name ≡ f.name
  pub marks : (v : VarId) (l : Loc) → HasMark g v l → HasMark f v l
  pub places : (p : Place) → HasPhi g p → HasPhi f p ⊎ IsGiven p

-- Values of debug values whose location keeps them.
use Rattle.std.specs.Prelude.{◌≡◌, ℕ, false, Some}
use Rattle.rv64_instr.specs.declared.place.Place.{Place}
use Rattle.rv64_instr.specs.declared.place.Place.TheVariants.{Register, Slot, Const}
use Rattle.rv64_instr.specs.LocationEffects.{defines_of}
use Rattle.rv64_instr.specs.Row.{Row, row_of}
use Rattle.mir_func.specs.declared.position.Pos.{Pos}
use Rattle.mir_func.specs.declared.variable.VarId.{VarId}
use Rattle.mir_func.specs.declared.variable.MarkValue.{MarkValue}
use Rattle.mir_func.specs.declared.item.Item.{Item}
use Rattle.mir_func.specs.declared.item.ItemKind.{ItemKind}
use Rattle.mir_func.specs.declared.item.ItemKind.TheVariants.{Code, Mark, Phi}
use Rattle.mir_func.specs.Graph.{Program, Here, Edge, below, block_start}
use Rattle.mir_func.specs.Variables.{is_same, overlaps}
use Rattle.sem_mir.specs.ValueId.{Sits, mark_token, place_token, sets_pointer}
use Rattle.sem_mir.specs.PreferredLocation.{IsPlace, SitsIn, NoneIsPreferred}

-- an instruction preserves a place: it doesn't set it, nor x2 if it is a frame slot. A constant is always preserved
abbrev pub LeavesPlace : Row → Place → Type 0
LeavesPlace row (Register r) = defines_of row (Register r) ≡ false
LeavesPlace row (Slot n) = (defines_of row (Slot n) ≡ false) × (sets_pointer row ≡ false)
LeavesPlace row (Const c) = Unit {0}

-- an item preserves a part of a variable and a place: it isn't a debug value of the part or of an overlapping part, and preserves
-- the place
abbrev pub LeavesAlone : VarId → Place → ItemKind → Type 0
LeavesAlone v place (Code i k) = LeavesPlace (row_of i) place
LeavesAlone v place (Mark w m) = (is_same v w ≡ false) × (overlaps v w ≡ false)
LeavesAlone v place (Phi p k) = Unit {0}

-- straight-line control from p down to q, in which each item preserves the part and the place
pub data IsKept (g : Program) (v : VarId) (place : Place) (q : Pos) : Pos → Type 0 where
  here : IsKept g v place q q
  down : {p : Pos} (item : Item) → g.fetch p ≡ Here item → Edge g p (below p) → LeavesAlone v place item.kind → IsKept g v place q (below p) →
      IsKept g v place q p

-- at p a debug value assigns the part a value that is in the place on every path, and the items from below p to q preserve both
pub record IsToldAndKept (g : Program) (start : ℕ) (v : VarId) (place : Place) (p q : Pos) : Type 0 where
  pub value : MarkValue
  pub mark : Item
  pub marks : mark.kind ≡ Mark v value
  pub stands : g.fetch p ≡ Here mark
  pub sits : Sits g (block_start start) (mark_token g.resolve value) (place_token (Some place)) p
  pub edge : Edge g p (below p)
  pub kept : IsKept g v place q (below p)

-- While a place keeps the value assigned by a debug value, it holds the value of the part on every path.
abbrev pub KeptValuesSit : Type 0
KeptValuesSit = (g : Program) (start : ℕ) (v : VarId) (place : Place) (p q : Pos) → IsToldAndKept g start v place p q → SitsIn g (block_start start) v place q

-- So some location is required for the part there: it can't be that none is.
abbrev pub KeptValuesAreWanted : Type 0
KeptValuesAreWanted = (g : Program) (start : ℕ) (v : VarId) (place : Place) (p q : Pos) → IsPlace place → IsToldAndKept g start v place p q →
    NoneIsPreferred g (block_start start) v q → ⊥

-- The place that is required for a variable: the preferred one of those that have its value.
use Rattle.std.specs.Prelude.{◌≡◌, pos, negsuc, ◌<◌, Some}
use Rattle.mir_func.specs.rv64_instr.declared.place.Place.{Place}
use Rattle.mir_func.specs.rv64_instr.declared.place.Place.TheVariants.{Register, Slot, Const}
use Rattle.mir_func.specs.declared.position.Pos.{Pos}
use Rattle.mir_func.specs.declared.variable.VarId.{VarId}
use Rattle.mir_func.specs.Graph.{Program}
use Rattle.sem_mir.specs.ValueId.{Sits, place_token, variable_token}

-- the locations that a location list may name: registers but x0 and x2, frame slots, and 64-bit constants
abbrev pub IsPlace : Place → Type 0
IsPlace (Register r) = (r < 32) × (r ≡ 0 → ⊥) × (r ≡ 2 → ⊥)
IsPlace (Slot n) = Unit {0}
IsPlace (Const (pos n)) = n < 9223372036854775808
IsPlace (Const (negsuc n)) = n < 9223372036854775808

-- the order of preference: a constant, then the lowest register, then the lowest slot
abbrev pub IsPreferredTo : Place → Place → Type 0
IsPreferredTo (Const a) (Register r) = Unit {0}
IsPreferredTo (Const a) (Slot n) = Unit {0}
IsPreferredTo (Register q) (Register r) = q < r
IsPreferredTo (Register q) (Slot n) = Unit {0}
IsPreferredTo (Slot m) (Slot n) = m < n
IsPreferredTo _ _ = ⊥

-- the location has the value of a part of a variable at a position, on every path to it
abbrev pub SitsIn : Program → Pos → VarId → Place → Pos → Type 0
SitsIn g start v place p = Sits g start (variable_token v) (place_token (Some place)) p

-- the location that a location list must name for a part of a variable at a position: the first one that has its value
pub record IsPreferredLocation (g : Program) (start : Pos) (v : VarId) (p : Pos) (place : Place) : Type 0 where
  pub named : IsPlace place
  pub sits : SitsIn g start v place p
  pub first : (other : Place) → IsPlace other → IsPreferredTo other place → SitsIn g start v other p → ⊥

-- no location that a list may name has the part's value at the position
abbrev pub NoneIsPreferred : Program → Pos → VarId → Pos → Type 0
NoneIsPreferred g start v p = (place : Place) → IsPlace place → SitsIn g start v place p → ⊥

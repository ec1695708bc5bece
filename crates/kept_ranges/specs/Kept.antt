-- The place required for a variable in a suspended frame: the preferred one of those that its callee leaves as they are.
use Rattle.std.specs.Prelude.{◌≡◌, ◌↔◌, ℕ, Bool, true, not, nat_eq, List, Option}
use Rattle.std.specs.List.{list_any}
use Rattle.rv64_instr.specs.declared.place.Place.{Place}
use Rattle.rv64_instr.specs.declared.place.Place.TheVariants.{Register, Slot, Const}
use Rattle.rv64_instr.specs.DefsAndUses.{caller_saved}
use Rattle.mir_func.specs.declared.position.Pos.{Pos}
use Rattle.mir_func.specs.declared.variable.VarId.{VarId}
use Rattle.mir_func.specs.Graph.{Program}
use Rattle.mir_func.specs.Parts.{Bytes}
use Rattle.sem_mir.specs.PreferredLocation.{IsPlace, IsPreferredTo, SitsIn}
use Rattle.dwarf_loclists.specs.declared.range.Location.{Location}
use Rattle.location_of_variable.specs.Groups.{part_of}
use Rattle.location_of_variable.specs.Gives.{GivesPart}

-- a callee that is passed these slots leaves the place as it is: a register that isn't caller-saved, a slot that isn't passed, or a constant (RISC-V ELF
-- psABI, "Integer Calling Convention")
abbrev pub is_kept : (passed : List ℕ) → Place → Bool
is_kept passed (Register r) = not (list_any (nat_eq r) caller_saved)
is_kept passed (Slot n) = not (list_any (nat_eq n) passed)
is_kept passed (Const c) = true

-- the place that is required for a part of a variable in a frame that is suspended at a position: the first kept one that has its value
pub record IsKeptLocation (g : Program) (start : Pos) (passed : List ℕ) (v : VarId) (p : Pos) (place : Place) : Type 0 where
  pub named : IsPlace place
  pub kept : is_kept passed place ≡ true
  pub sits : SitsIn g start v place p
  pub first : (other : Place) → IsPlace other → is_kept passed other ≡ true → IsPreferredTo other place → SitsIn g start v other p → ⊥

-- no kept place has the part's value at the position
abbrev pub NoneIsKept : Program → Pos → (passed : List ℕ) → VarId → Pos → Type 0
NoneIsKept g start passed v p = (place : Place) → IsPlace place → is_kept passed place ≡ true → SitsIn g start v place p → ⊥

-- the place of a part by the location is the one required for it in a suspended frame, and there is none if and only if none is required
pub record GivesKept (g : Program) (start : Pos) (passed : List ℕ) (v : VarId) (p : Pos) (o : Option Location) (b : Option Bytes) : Type 0 where
  pub gives : (place : Place) → GivesPart o b place ↔ IsKeptLocation g start passed (part_of v b) p place
  pub gives_none : ((place : Place) → GivesPart o b place → ⊥) ↔ NoneIsKept g start passed (part_of v b) p

-- Exact location lists: they name the wanted location, and none exactly if none is wanted.
use Rattle.std.specs.Prelude.{◌↔◌, ℕ}
use Rattle.rv64_instr.specs.declared.place.Place.{Place}
use Rattle.sem_mir.specs.mir_func.declared.position.Pos.{Pos}
use Rattle.sem_mir.specs.mir_func.declared.variable.VarId.{VarId}
use Rattle.sem_mir.specs.mir_func.Graph.{Program}
use Rattle.sem_mir.specs.PreferredLocation.{IsPreferredLocation, NoneIsPreferred}

-- location lists are exact for a function, of which `points` relates the address of each byte of code to that code's position: at
-- the address they name a location for a part of a variable exactly if that location is wanted at the position, and name none
-- exactly if none is wanted. At an address without a position they name none
pub record AreExact (g : Program) (start : Pos) (points : (address : ℕ) → Pos → Type 0) (lists : VarId → (address : ℕ) → Place → Type 0) : Type 0 where
  pub gives : (v : VarId) (a : ℕ) (p : Pos) → points a p → (place : Place) → lists v a place ↔ IsPreferredLocation g start v p place
  pub gives_none : (v : VarId) (a : ℕ) (p : Pos) → points a p → ((place : Place) → lists v a place → ⊥) ↔ NoneIsPreferred g start v p
  pub outside : (v : VarId) (a : ℕ) → ((p : Pos) → points a p → ⊥) → (place : Place) → lists v a place → ⊥

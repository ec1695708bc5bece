-- The places of a variable's parts by its location.
use Rattle.std.specs.Prelude.{◌≡◌, ◌↔◌, ℕ, Option, Some, None}
use Rattle.rv64_instr.specs.declared.place.Place.{Place}
use Rattle.mir_func.specs.declared.position.Pos.{Pos}
use Rattle.mir_func.specs.declared.variable.VarId.{VarId}
use Rattle.mir_func.specs.Graph.{Program}
use Rattle.mir_func.specs.Parts.{Bytes}
use Rattle.sem_mir.specs.PreferredLocation.{IsPreferredLocation, NoneIsPreferred}
use Rattle.dwarf_loclists.specs.declared.range.Location.{Location}
use Rattle.dwarf_loclists.specs.Ranges.{whole_place, nth_piece}
use Rattle.location_of_variable.specs.Groups.{part_of}
use Rattle.location_of_variable.specs.VariableLocation.{IsWantedLocation}

-- the place of a part by a location: that of the whole variable, or that of the piece with exactly the fragment's bytes
abbrev pub GivesPart : Option Location → Option Bytes → Place → Type 0
GivesPart o None place = whole_place o ≡ Some place
GivesPart o (Some b) place = (n : ℕ) × (nth_piece o n ≡ Some (record { offset = b.offset; length = b.length; place = place }))

-- the place of a part by the location is the one required for it, and there is none if and only if none is required
pub record GivesWanted (g : Program) (start : Pos) (v : VarId) (p : Pos) (o : Option Location) (b : Option Bytes) : Type 0 where
  pub gives : (place : Place) → GivesPart o b place ↔ IsPreferredLocation g start (part_of v b) p place
  pub gives_none : ((place : Place) → GivesPart o b place → ⊥) ↔ NoneIsPreferred g start (part_of v b) p

-- The location required for a variable has for each of its parts the place required for the part.
abbrev pub WantedLocationsGiveParts : Type 0
WantedLocationsGiveParts = (g : Program) (start : Pos) (v : VarId) (p : Pos) (o : Option Location) → IsWantedLocation g start v p o →
    (b : Option Bytes) → GivesWanted g start v p o b

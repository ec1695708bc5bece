-- The location required for a variable: one place, or pieces.
use Rattle.std.specs.Prelude.{◌≡◌, ℕ, List, [], ◌∷◌, map, All, Contains, Option, Some, None, slice_get, slice_index_or}
use Rattle.rv64_instr.specs.declared.place.Place.{Place}
use Rattle.mir_func.specs.declared.position.Pos.{Pos}
use Rattle.mir_func.specs.declared.variable.VarId.{VarId}
use Rattle.mir_func.specs.Graph.{Program}
use Rattle.mir_func.specs.Parts.{Bytes, IsPart}
use Rattle.sem_mir.specs.PreferredLocation.{IsPreferredLocation, NoneIsPreferred}
use Rattle.dwarf_loclists.specs.declared.range.Part.{Part}
use Rattle.dwarf_loclists.specs.declared.range.Location.{Location}
use Rattle.dwarf_loclists.specs.declared.range.Location.TheVariants.{Whole, Parts}
use Rattle.dwarf_loclists.specs.Ranges.{ArePieces, IsListed, IsLocated}
use Rattle.location_of_variable.specs.Groups.{part_of, IsGroupOf}
use Rattle.location_of_variable.specs.declared.group.Group.{Group}
use Rattle.location_of_variable.specs.steps.Telling.{place_at, whole_place, location_told}

-- the place required for a part of a variable at a position, or None if none is
abbrev pub IsWantedPlace : (g : Program) (start : Pos) → VarId → Pos → Option Place → Type 0
IsWantedPlace g start v p None = NoneIsPreferred g start v p
IsWantedPlace g start v p (Some place) = IsPreferredLocation g start v p place

-- the bytes of a variable that a piece describes
abbrev pub bytes_of : Part → Bytes
bytes_of x = record { offset = x.offset; length = x.length }

-- the pieces required for a variable at a position: each is at the place required for its bytes and begins at or after the end of
-- the one before. For other bytes no place is required
pub record AreWantedPieces (g : Program) (start : Pos) (v : VarId) (p : Pos) (pieces : List Part) : Type 0 where
  pub each : All (λ x. IsPreferredLocation g start (part_of v (Some (bytes_of x))) p x.place) pieces
  pub others : (b : Bytes) → (Contains (map bytes_of pieces) b → ⊥) → NoneIsPreferred g start (part_of v (Some b)) p
  pub ascend : ArePieces 0 pieces

-- the location required for a variable: the place of the whole, if one is required for it; else the pieces for which places are
-- required, if there are any; else None
abbrev pub IsWantedLocation : (g : Program) (start : Pos) → VarId → Pos → Option Location → Type 0
IsWantedLocation g start v p None = (b : Option Bytes) → NoneIsPreferred g start (part_of v b) p
IsWantedLocation g start v p (Some (Whole place)) = IsPreferredLocation g start (part_of v None) p place
IsWantedLocation g start v p (Some (Parts [])) = ⊥
IsWantedLocation g start v p (Some (Parts (x ∷ pieces))) = NoneIsPreferred g start (part_of v None) p × AreWantedPieces g start v p (x ∷ pieces)

-- the location can be written in a location list, or is None
abbrev pub MayBeListed : Option Location → Type 0
MayBeListed None = Unit {0}
MayBeListed (Some l) = IsLocated l

-- the places required for these parts at a position, in the same order. Each can be written in a list, and no place is required
-- for any other part
pub record AreWantedPlaces (g : Program) (start p : Pos) (parts : List VarId) (places : List (Option Place)) : Type 0 where
  pub each : (j : ℕ) (w : VarId) → slice_get parts j ≡ Some w → IsWantedPlace g start w p (slice_index_or places j None)
  pub listed : (j : ℕ) (place : Place) → slice_index_or places j None ≡ Some place → IsListed place
  pub others : (w : VarId) → (Contains parts w → ⊥) → NoneIsPreferred g start w p

-- the location required for the variable of a group wherever these places are those required for the parts
pub record IsLocationBy (group : Group) (places : List (Option Place)) (o : Option Location) : Type 0 where
  pub wanted : (g : Program) (start p : Pos) (parts : List VarId) (v : VarId) → AreWantedPlaces g start p parts places → IsGroupOf parts v group →
      IsWantedLocation g start v p o
  pub listed : (g : Program) (start p : Pos) (parts : List VarId) (v : VarId) → AreWantedPlaces g start p parts places → IsGroupOf parts v group →
      MayBeListed o
  -- it is told by the places, whatever they are
  pub told : o ≡ location_told group places
  pub bounds : whole_place (place_at places) group.whole ≡ None → All (λ x. IsPart x.bytes) group.pieces.items

-- each part of a group has the same place in both
pub record HaveSamePlaces (group : Group) (places others : List (Option Place)) : Type 0 where
  pub whole : (j : ℕ) → group.whole ≡ Some j → slice_index_or places j None ≡ slice_index_or others j None
  pub pieces : All (λ x. slice_index_or places x.index None ≡ slice_index_or others x.index None) group.pieces.items

-- the location by these places, and by all others in which the group's parts have the same
abbrev pub IsLocationFor : Group → List (Option Place) → Option Location → Type 0
IsLocationFor group places o = (others : List (Option Place)) → HaveSamePlaces group places others → IsLocationBy group others o

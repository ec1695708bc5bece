-- The grammar of a section: the bytes are the encoding of some lists.
use Rattle.std.specs.Prelude.{◌≡◌, ℕ, ◌+◌, ◌<◌, List, length, All, Option, Some, slice_get}
use Rattle.rv64_instr.specs.declared.place.Place.{Place}
use Rattle.dwarf_base.specs.Standard.{LENGTH_LIMIT}
use Rattle.dwarf_loclists.specs.declared.range.Part.{Part}
use Rattle.dwarf_loclists.specs.declared.range.Location.{Location}
use Rattle.dwarf_loclists.specs.declared.range.Range.{Range}
use Rattle.dwarf_loclists.specs.Ranges.{ArePlaces, Are64Bit, Ascend, location_in, whole_place, nth_piece}
use Rattle.dwarf_loclists.specs.Spelling.{spelling}

-- the bytes are the section of these lists. Its length fits in the 32-bit format
pub record IsSection (bytes : List ℕ) (lists : List (List Range)) : Type 0 where
  pub spelled : bytes ≡ spelling lists
  pub size : length bytes < 4 + LENGTH_LIMIT
  pub ascend : All Ascend lists
  pub places : All ArePlaces lists
  pub wide : All Are64Bit lists

-- the location at an address by list k of a section, and None if no entry's range contains the address
pub record LocationAt (bytes : List ℕ) (k address : ℕ) (location : Option Location) : Type 0 where
  pub lists : List (List Range)
  pub ranges : List Range
  pub section : IsSection bytes lists
  pub list : slice_get lists k ≡ Some ranges
  pub found : location ≡ location_in ranges address

-- the place of the whole variable at an address by list k
pub record PlaceAt (bytes : List ℕ) (k address : ℕ) (place : Option Place) : Type 0 where
  pub location : Option Location
  pub located : LocationAt bytes k address location
  pub whole : place ≡ whole_place location

-- the n-th piece at an address by list k, counted from 0
pub record PieceAt (bytes : List ℕ) (k address n : ℕ) (piece : Option Part) : Type 0 where
  pub location : Option Location
  pub located : LocationAt bytes k address location
  pub nth : piece ≡ nth_piece location n

-- The grammar of a section: the bytes are the encoding of some lists.
use Rattle.std.specs.Prelude.{◌≡◌, ℕ, ◌+◌, ◌<◌, List, length, All, Some, slice_get}
use Rattle.dwarf_base.specs.Standard.{LENGTH_LIMIT}
use Rattle.dwarf_rnglists.specs.declared.range.AddressRange.{AddressRange}
use Rattle.dwarf_rnglists.specs.Ranges.{Are64Bit, Ascend, Cover}
use Rattle.dwarf_rnglists.specs.Spelling.{spelling}

-- the bytes are the section of these lists. Its length fits in the 32-bit format
pub record IsSection (bytes : List ℕ) (lists : List (List AddressRange)) : Type 0 where
  pub spelled : bytes ≡ spelling lists
  pub size : length bytes < 4 + LENGTH_LIMIT
  pub ascend : All Ascend lists
  pub wide : All Are64Bit lists

-- an address is in a range of list k of a section
pub record IsInRange (bytes : List ℕ) (k address : ℕ) : Type 0 where
  pub lists : List (List AddressRange)
  pub ranges : List AddressRange
  pub section : IsSection bytes lists
  pub list : slice_get lists k ≡ Some ranges
  pub covered : Cover ranges address

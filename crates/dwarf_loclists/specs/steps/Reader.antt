-- The state of a section's reader: the next field, and what it has read.
use Rattle.std.specs.Prelude.{◌≡◌, ◌≢◌, ℕ, ◌+◌, ◌*◌, ◌<◌, ◌≤◌, List, [], ◌∷◌, ◌++◌, length, All, Option, Some, None, slice_get}
use Rattle.std.specs.Option.{option_map}
use Rattle.std.specs.Prelude.{drop}
use Rattle.dwarf_loclists.specs.declared.range.Location.{Location}
use Rattle.dwarf_loclists.specs.declared.range.Range.{Range}
use Rattle.dwarf_loclists.specs.Ranges.{Ascend, IsLocated, location_in}
use Rattle.dwarf_loclists.specs.Spelling.{expression, Spells}
use Rattle.dwarf_loclists.specs.Fault.{LocationListField, ListOffset, EntryKind, Nothing, Reaches, first_byte, after}

-- the reader is at a field, and these bytes are left
pub record StandsAt (bytes : List ℕ) (field : LocationListField) (rest : List ℕ) : Type 0 where
  pub reached : Reaches bytes field
  pub here : drop (first_byte field) bytes ≡ rest
  pub within : first_byte field + length rest ≡ length bytes

-- the field is not the end of a section
abbrev pub Goes : LocationListField → Type 0
Goes field = (done : List (List Range)) → field ≢ Nothing done

-- the reader is before the next list. `table` is what is left from the next list's offset on, `rest` from the list's own bytes on
pub record AtLists (bytes : List ℕ) (n : ℕ) (done : List (List Range)) (table rest : List ℕ) : Type 0 where
  pub reached : Reaches bytes (ListOffset n done)
  pub offset : drop (12 + 4 * length done) bytes ≡ table
  pub lists : drop (after n done []) bytes ≡ rest
  pub count : length done ≤ n
  pub before : 12 + 4 * length done + length table ≡ length bytes
  pub within : after n done [] + length rest ≡ length bytes

-- the last range ends at an address and has an expression: another range can follow if and only if it begins there or later, and
-- with another expression if it begins there
pub record Last (ranges : List Range) (end : ℕ) (last : List ℕ) : Type 0 where
  pub begins : (lo : ℕ) → end ≤ lo → All (λ r. r.hi ≤ lo) ranges
  pub ends : (lo : ℕ) → All (λ r. r.hi ≤ lo) ranges → end ≤ lo
  pub apart : (r : Range) → IsLocated r.location → end ≤ r.lo → r.lo < r.hi → (r.lo ≡ end → expression r.location ≢ last) → Ascend (ranges ++ r ∷ [])
  pub same : (r : Range) → IsLocated r.location → Ascend (ranges ++ r ∷ []) → r.lo ≡ end → expression r.location ≢ last

-- an entry was read: its range is appended, at the location with this expression
pub record EntryRead (bytes : List ℕ) (n : ℕ) (done : List (List Range)) (ranges : List Range) (lo hi : ℕ) (here rest : List ℕ) : Type 0 where
  pub location : Location
  pub spells : Spells here location
  pub stands : StandsAt bytes (EntryKind n done (ranges ++ record { lo = lo; hi = hi; location = location } ∷ [])) rest
  pub last : Last (ranges ++ record { lo = lo; hi = hi; location = location } ∷ []) hi here
  pub order : lo < hi
  pub before : All (λ r. r.hi ≤ lo) ranges

-- some ranges of a list were read. `found` is the expression at the address, if one of them has it
pub record RangesRead (bytes : List ℕ) (n : ℕ) (done : List (List Range)) (address end : ℕ) (before : List ℕ) (found : Option (List ℕ)) (rest : List ℕ) : Type
    0 where
  pub ranges : List Range
  pub stands : StandsAt bytes (EntryKind n done ranges) rest
  pub last : Last ranges end before
  pub is : found ≡ option_map expression (location_in ranges address)

-- a list was read. `found` is the expression of its location at the address
pub record ListRead (bytes : List ℕ) (n : ℕ) (done : List (List Range)) (address : ℕ) (found : Option (List ℕ)) (rest : List ℕ) : Type 0 where
  pub ranges : List Range
  pub reached : Reaches bytes (ListOffset n (done ++ ranges ∷ []))
  pub lists : drop (after n (done ++ ranges ∷ []) []) bytes ≡ rest
  pub within : after n (done ++ ranges ∷ []) [] + length rest ≡ length bytes
  pub is : found ≡ option_map expression (location_in ranges address)

-- the location at an address by list k, and None if there is no such list
abbrev pub location_of : List (List Range) → (k address : ℕ) → Option Location
location_of lists k address = elim (slice_get lists k) as (λ _. Option Location) [ None ↦ None | Some ranges ↦ location_in ranges address ]

-- this number of lists was read. `found` is the expression at the address by list k, if it is one of them
pub record ListsRead (bytes : List ℕ) (n number k address : ℕ) (found : Option (List ℕ)) (table rest : List ℕ) : Type 0 where
  pub done : List (List Range)
  pub at : AtLists bytes n done table rest
  pub count : length done ≡ number
  pub is : found ≡ option_map expression (location_of done k address)

-- all lists were read. `found` is the expression at the address by list k
pub record AllRead (bytes : List ℕ) (n k address : ℕ) (found : Option (List ℕ)) : Type 0 where
  pub lists : List (List Range)
  pub reached : Reaches bytes (Nothing lists)
  pub all : length lists ≡ n
  pub is : found ≡ option_map expression (location_of lists k address)

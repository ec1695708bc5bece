-- The numbers of location lists and range lists, in the order of entries.
use Rattle.std.specs.Prelude.{ℕ, ◌+◌, List, [], ◌∷◌, Option, Some, None, slice_get}
use Rattle.dwarf_rnglists.specs.declared.range.AddressRange.{AddressRange}
use Rattle.scope_ranges.specs.declared.scope.Scope.{Scope}
use Rattle.scope_entries.specs.declared.item.ScopeItem.{ScopeItem}
use Rattle.scope_entries.specs.declared.item.ScopeItem.TheVariants.{Variable, Open, End}
use Rattle.scope_numbers.specs.declared.item.FunctionList.{FunctionList}
use Rattle.scope_numbers.specs.declared.item.NumberedItem.{NumberedItem}
use Rattle.scope_numbers.specs.declared.item.NumberedItem.TheVariants as numbered_as

-- the number of a list, if there is one
abbrev pub number_of : (number : ℕ) → (list : Option ℕ) → Option ℕ
number_of n None = None
number_of n (Some list) = Some n

-- an item with the next number of a location list, or of a range list
abbrev pub numbered_item : (lists ranges : ℕ) → ScopeItem → NumberedItem
numbered_item m n (Variable v) = numbered_as.Variable (record { node = v.node; list = number_of m v.list })
numbered_item m n (Open k) = numbered_as.Open (record { index = k; list = n })
numbered_item m n End = numbered_as.End

-- how many lists there are
abbrev pub count : Option ℕ → ℕ
count None = 0
count (Some list) = 1

-- how many location lists an item has
abbrev pub list_count : ScopeItem → ℕ
list_count (Variable v) = count v.list
list_count (Open k) = 0
list_count End = 0

-- how many range lists
abbrev pub range_count : ScopeItem → ℕ
range_count (Variable v) = 0
range_count (Open k) = 1
range_count End = 0

-- items with the numbers of their lists, from these numbers on
abbrev pub numbered : (lists ranges : ℕ) → List ScopeItem → List NumberedItem
numbered m n [] = []
numbered m n (i ∷ is) = numbered_item m n i ∷ numbered (m + list_count i) (n + range_count i) is

-- a list of a function
abbrev pub list_of : (function : ℕ) → (list : Option ℕ) → List FunctionList
list_of f None = []
list_of f (Some k) = record { function = f; list = k } ∷ []

-- the location list of an item
abbrev pub lists_of_item : (function : ℕ) → ScopeItem → List FunctionList
lists_of_item f (Variable v) = list_of f v.list
lists_of_item f (Open k) = []
lists_of_item f End = []

abbrev pub ranges_at : Option Scope → List AddressRange
ranges_at None = []
ranges_at (Some s) = s.ranges

-- the range list of an item
abbrev pub ranges_of_item : List Scope → ScopeItem → List (List AddressRange)
ranges_of_item scopes (Variable v) = []
ranges_of_item scopes (Open k) = ranges_at (slice_get scopes k) ∷ []
ranges_of_item scopes End = []

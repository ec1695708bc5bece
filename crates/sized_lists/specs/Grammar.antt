-- The grammar of a section: the bytes are the encoding of some lists.
use Rattle.std.specs.Prelude.{◌≡◌, ℕ, ◌<◌, List, length, All}
use Rattle.dwarf_base.specs.Limits.{SECTION_LIMIT}
use Rattle.dwarf_loclists.specs.Ranges.{ArePlaces, Ascend}
use Rattle.sized_lists.specs.declared.list.SizedList.{SizedList}
use Rattle.sized_lists.specs.Spelling.{spelling}

-- the bytes are the section of these lists
pub record IsSizedSection (bytes : List ℕ) (lists : List SizedList) : Type 0 where
  pub spelled : bytes ≡ spelling lists
  pub size : length bytes < SECTION_LIMIT
  pub ascend : All (λ l. Ascend l.ranges) lists
  pub places : All (λ l. ArePlaces l.ranges) lists

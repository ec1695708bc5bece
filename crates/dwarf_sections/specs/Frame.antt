-- The section `.debug_frame` of functions.
use Rattle.std.specs.Prelude.{ℕ, ◌≤◌, List, length}
use Rattle.std.specs.List.{AllZip}
use Rattle.frame_table.specs.emit_code.Laid.{LaidCode, IsCodeOf}
use Rattle.dwarf_base.specs.Limits.{SECTION_LIMIT}
use Rattle.dwarf_frame.specs.declared.table.FrameDescription.{FrameDescription}
use Rattle.dwarf_frame.specs.FirstFault.{IsSection}
use Rattle.dwarf_frame.specs.Spelling.{spelling}
use Rattle.frame_table.specs.Table.{Describes}

-- the code is that of its function
abbrev pub IsOfFunction : LaidCode → Type 0
IsOfFunction c = (base : ℕ) × IsCodeOf c.framed base c

-- the section encodes the call frame information of each of these functions' code, with the registers whose values functions may lose
pub record IsFrameSection (undefined : List ℕ) (codes : List LaidCode) (bytes : List ℕ) : Type 0 where
  pub table : List FrameDescription
  pub described : AllZip Describes codes table
  pub section : IsSection undefined bytes table

-- such a section would be too large
pub record IsLargeFrameSection (undefined : List ℕ) (codes : List LaidCode) : Type 0 where
  pub table : List FrameDescription
  pub described : AllZip Describes codes table
  pub large : SECTION_LIMIT ≤ length (spelling undefined table)

-- The size limit of a section.
use Rattle.std.specs.Prelude.{ℕ, ◌^◌}

-- the limit on a section's bytes, exclusive: half the range of a length in the 32-bit format of DWARF
abbrev pub SECTION_LIMIT : ℕ
SECTION_LIMIT = 2 ^ 31

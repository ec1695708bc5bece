-- The limits of functions.
use Rattle.std.specs.Prelude.{ℕ}

-- how many blocks a function may have
abbrev pub MAX_BLOCKS : ℕ
MAX_BLOCKS = 1024

-- how many frame slots and stack objects it may have together
abbrev pub MAX_SLOTS : ℕ
MAX_SLOTS = 224

-- the greatest frame, in bytes: a multiple of 16 that one `ADDI` can subtract from x2 and add to it
abbrev pub MAX_FRAME : ℕ
MAX_FRAME = 2032

-- how many bytes below the stack pointer at entry are kept for frames
abbrev pub FRAME_ROOM : ℕ
FRAME_ROOM = 2048

-- the longest part of a variable, in bytes
abbrev pub MAX_PART : ℕ
MAX_PART = 8

-- the greatest end of a part, in bytes from the variable's start
abbrev pub MAX_PART_END : ℕ
MAX_PART_END = 8192

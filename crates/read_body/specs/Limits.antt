-- The limits of a function's body.
use Rattle.std.specs.Prelude.{ℕ}

-- the greatest number of items
abbrev pub MAX_ITEMS : ℕ
MAX_ITEMS = 8192

-- the greatest number of variables and fragments of variables that have debug values
abbrev pub MAX_VARIABLES : ℕ
MAX_VARIABLES = 1024

-- the greatest number of different debug instruction numbers
abbrev pub MAX_NUMBERS : ℕ
MAX_NUMBERS = 4096

-- the greatest number of different constants, of instructions that set a register to one and of debug values
abbrev pub MAX_CONSTANTS : ℕ
MAX_CONSTANTS = 256

-- The machine code of a function in its section, and the lines of its listing.
use Rattle.std.specs.Prelude.{ℕ, List, [], ◌∷◌, length, take, drop, Option, Some, None, cond, nat_eq}
use Rattle.std.specs.Int.{w32, from_le_bytes}
use Rattle.rv64_instr.specs.Instruction.{Instruction}
use Rattle.sem_mir.specs.mir_func.declared.position.Origin.{Origin}
use Rattle.sem_mir.specs.mir_func.declared.item.ItemKind.{ItemKind}
use Rattle.sem_mir.specs.mir_func.declared.item.ItemKind.TheVariants.{Code, Mark, Phi}

-- a line of the listing with code: the address of its first byte, its origin, and its instruction
pub record CodeLine : Type 0 where
  pub address : ℕ
  pub origin : Origin
  pub instruction : Instruction

-- the bytes of `.text`, from address 0 on; the address at which the function begins; the bytes that its stack objects take
-- together right below the stack pointer at entry; and its lines with code
pub record Image : Type 0 where
  pub text : List ℕ
  pub low : ℕ
  pub area : ℕ
  pub lines : List CodeLine

-- the line of an item that is listed at an address: none for a debug item, and none without an address
abbrev pub line_of : (address : Option ℕ) → Origin → ItemKind → List CodeLine
line_of None o kind = []
line_of (Some a) o (Code c k) = record { address = a; origin = o; instruction = c } ∷ []
line_of (Some a) o (Mark v m) = []
line_of (Some a) o (Phi p k) = []

-- the first line at an address
abbrev pub line_at : List CodeLine → (address : ℕ) → Option CodeLine
line_at [] a = None
line_at (l ∷ lines) a = cond (nat_eq l.address a) (Some l) (line_at lines a)

-- four bytes as a word, the lowest first (RISC-V Unprivileged ISA, "Base Instruction-Length Encoding")
abbrev pub word_of_bytes : List ℕ → Option ℕ
word_of_bytes bytes = cond (nat_eq (length bytes) 4) (Some (from_le_bytes w32 bytes)) None

-- the word at an address, if `.text` has four bytes there
abbrev pub word_at : (text : List ℕ) → (address : ℕ) → Option ℕ
word_at text a = word_of_bytes (take 4 (drop a text))

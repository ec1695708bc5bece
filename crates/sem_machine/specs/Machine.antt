-- The state of the machine that runs an image, and the contents of its registers, memory and locations.
use Rattle.std.specs.Prelude.{ℕ, zero, suc, ◌+◌, ◌%◌, ◌^◌, List, [], ◌∷◌}
use Rattle.rv64_instr.specs.declared.place.Place.{Place}
use Rattle.rv64_instr.specs.declared.place.Place.TheVariants.{Register, Slot, Const}
use Rattle.rv64_instr.specs.Arithmetic.{word}
use Rattle.rv64_instr.specs.Linked.{linked_value}
use Rattle.rv64_instr.specs.Row.{Input, Content, Number, PartOf}
use Rattle.rv64_instr.specs.declared.symbol.Symbol.{Symbol}
use Rattle.sem_mir.specs.State.{Event, Reply, State, updated, spelled}
use Rattle.sem_mir.specs.Step.{read}
use Rattle.sem_machine.specs.Image.{Image}

-- the content of x2 at entry, the bytes right below it that stack objects take together, the address of each symbol, the program counter, 32 registers, the
-- bytes of memory, the replies to calls that are left, and the events so far, the newest first
pub record Machine : Type 0 where
  pub entry : ℕ
  pub area : ℕ
  pub symbols : Symbol → ℕ
  pub counter : ℕ
  pub regs : ℕ → ℕ
  pub memory : ℕ → ℕ
  pub script : List Reply
  pub events : List Event

-- the content of a register: x0 reads 0 (RISC-V Unprivileged ISA, "Programmers' Model for Base Integer ISA")
abbrev pub register_in : (ℕ → ℕ) → ℕ → ℕ
register_in regs zero = 0
register_in regs (suc r) = regs (suc r)

-- the content of a register of the machine
abbrev pub register : Machine → ℕ → ℕ
register s r = register_in s.regs r

-- the second operand of arithmetic: the content of a register, a number, or the value of a half of an address, which no word has
abbrev pub input : Machine → Input → ℕ
input s (Content r) = register s r
input s (Number n) = n
input s (PartOf half y) = linked_value s.symbols half y

-- a register set: x0 drops writes
abbrev pub set_in : (r v : ℕ) → (ℕ → ℕ) → ℕ → ℕ
set_in zero v regs = regs
set_in (suc r) v regs = updated (suc r) v regs

-- several registers set, in order, to 0 if no content is left
abbrev pub set_all_in : (rs vs : List ℕ) → (ℕ → ℕ) → ℕ → ℕ
set_all_in [] vs regs = regs
set_all_in (r ∷ rs) [] regs = set_all_in rs [] (set_in r 0 regs)
set_all_in (r ∷ rs) (v ∷ vs) regs = set_all_in rs vs (set_in r v regs)

-- the address at an offset from a register's content. Addresses wrap at 64 bits
abbrev pub address_of : Machine → (base offset : ℕ) → ℕ
address_of s base offset = (register s base + offset) % 2 ^ 64

-- the value of a location: the content of a register, the eight bytes at an offset from x2, or a number modulo 2^64 (DWARF 5,
-- section 2.6)
abbrev pub place_content : Place → Machine → ℕ
place_content (Register r) s = register s r
place_content (Slot n) s = spelled s.memory (address_of s 2 n) 8
place_content (Const c) s = word c

-- the machine's start state for a start state of the source: the same symbols, registers, memory and script
abbrev pub machine_start : Image → State → Machine
machine_start image s =
    record {
      entry = s.core.entry;
      area = image.area;
      symbols = s.core.symbols;
      counter = image.low;
      regs = read s.core;
      memory = s.core.memory;
      script = s.core.script;
      events = [];
    }

-- Which registers an instruction reads and sets, by its row.
use Rattle.std.specs.Prelude.{ℕ, List, [], ◌∷◌, ◌++◌}
use Rattle.rv64_instr.specs.Row.{Input, Content, Number, PartOf, Base, PointedBy, ObjectAt, BesidePart}
use Rattle.rv64_instr.specs.Row.{Callee, Named, Held, Way, Back, Tail, Never}
use Rattle.rv64_instr.specs.Row.{Row, Fixes, Moves, Sets, Addresses, Loads, Stores, LoadsSlot, StoresSlot, Branches, Jumps, Calls, Returns, Unfit}
use Rattle.rv64_instr.specs.View.{Write, SetsNothing, SetsRegister, SetsSlot, Clobbers, write_of}

-- the registers that a call sets (RISC-V ELF psABI, "Integer Register Convention": ra, t0 to t6, a0 to a7)
abbrev pub caller_saved : List ℕ
caller_saved = 1 ∷ 5 ∷ 6 ∷ 7 ∷ 10 ∷ 11 ∷ 12 ∷ 13 ∷ 14 ∷ 15 ∷ 16 ∷ 17 ∷ 28 ∷ 29 ∷ 30 ∷ 31 ∷ []

-- the registers that an operation's second input reads: none if it is a number or a half of an address
abbrev pub input_reads : Input → List ℕ
input_reads (Content r) = r ∷ []
input_reads (Number n) = []
input_reads (PartOf half y) = []

-- the registers that an address's base reads: none if it is a stack object
abbrev pub base_reads : Base → List ℕ
base_reads (PointedBy r) = r ∷ []
base_reads (ObjectAt n) = []
base_reads (BesidePart r y) = r ∷ []

-- the registers that naming a callee reads
abbrev pub callee_reads : Callee → List ℕ
callee_reads (Named name) = []
callee_reads (Held r) = r ∷ []

-- the registers that leaving on a way reads
abbrev pub way_reads : Way Callee → List ℕ
way_reads Back = []
way_reads (Tail callee) = callee_reads callee
way_reads (Never callee) = callee_reads callee

-- the registers that it reads
abbrev pub reads : Row → List ℕ
reads (Fixes rd n) = []
reads (Moves rd rs) = rs ∷ []
reads (Sets rd op a b) = a ∷ input_reads b
reads (Addresses rd n offset) = []
reads (Loads rd op base offset) = base_reads base
reads (Stores op rs base offset) = rs ∷ base_reads base
reads (LoadsSlot rd n) = []
reads (StoresSlot rs n) = rs ∷ []
reads (Branches op a b target) = a ∷ b ∷ []
reads (Jumps target) = []
reads (Calls call) = callee_reads call.callee ++ call.args
reads (Returns ending) = way_reads ending.way ++ ending.values
reads Unfit = []

-- the registers that a write sets. A write to x0 is dropped
abbrev pub registers_set : Write → List ℕ
registers_set SetsNothing = []
registers_set (SetsRegister rd value) = rd ∷ []
registers_set (SetsSlot n rs) = []
registers_set (Clobbers outgoing) = caller_saved

-- the registers that it sets
abbrev pub sets : Row → List ℕ
sets row = registers_set (write_of row)

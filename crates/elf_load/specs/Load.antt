-- Machine code in memory, with its calls relocated (RISC-V ELF psABI, "Relocations", R_RISCV_CALL_PLT).
use Rattle.std.specs.Prelude.{◌≡◌, ◌≢◌, ℕ, ◌+◌, ◌-◌, ◌*◌, ◌/◌, ◌^◌, ◌<◌, ◌≤◌, ◌⊎◌, List, [], ◌∷◌, Some, length, take, drop, slice_index, slice_get, All}
use Rattle.std.specs.Prelude.{if◌then◌else◌, ◌==◌}
use Rattle.elf_object.specs.declared.symbols.Symbol.{Symbol}
use Rattle.elf_object.specs.declared.relocations.Relocation.{Relocation}
use Rattle.elf_object.specs.Standard.{SHN_UNDEF, R_RISCV_CALL_PLT}
use Rattle.sem_machine.specs.Machine.{Machine, register}
use Rattle.sem_machine.specs.MachineStep.{Continues}
use Rattle.elf_load.specs.Auipc.{step_in}

-- ---- addresses

-- the addresses of symbols, for a text that lies from an address on: of a function of the text its offset from there, and of the
-- undefined ones, in order, those that are given
abbrev pub addresses : (base : ℕ) (undefined : List ℕ) → List Symbol → List ℕ
addresses base undefined [] = []
addresses base undefined (s ∷ rest) =
    if s.section == SHN_UNDEF then slice_index undefined 0 ∷ addresses base (drop 1 undefined) rest
    else (base + s.value) ∷ addresses base undefined rest

-- the address of a relocation's symbol. Symbols count from 1
abbrev pub target_of : (addresses : List ℕ) → Relocation → ℕ
target_of addresses r = slice_index addresses (r.symbol - 1)

-- ---- what can be loaded

-- a function of the text has an address
abbrev pub IsPlaced : (base : ℕ) → Symbol → Type 0
IsPlaced base s = s.section ≢ SHN_UNDEF → base + s.value < 2 ^ 64

-- the relocation of a call site: of two words of the text, to a symbol
pub record IsCallSite (text symbols : ℕ) (r : Relocation) : Type 0 where
  pub relocation_type : r.relocation_type ≡ R_RISCV_CALL_PLT
  pub addend : r.addend ≡ 0
  pub some : 0 < r.symbol
  pub symbol : r.symbol ≤ symbols
  pub within : r.offset + 8 ≤ text

-- two call sites share no byte
abbrev pub IsApart : Relocation → Relocation → Type 0
IsApart r q = (r.offset + 8 ≤ q.offset) ⊎ (q.offset + 8 ≤ r.offset)

-- each is apart from those after it
abbrev pub AreApart : List Relocation → Type 0
AreApart [] = Unit {0}
AreApart (r ∷ rest) = All (IsApart r) rest × AreApart rest

-- the text fits from an address on, its functions have addresses, and its relocations are those of call sites
pub record IsLoadable (text : List ℕ) (symbols : List Symbol) (relocations : List Relocation) (base : ℕ) : Type 0 where
  pub fits : base + length text < 2 ^ 64
  pub placed : All (IsPlaced base) symbols
  pub sites : All (IsCallSite (length text) (length symbols)) relocations
  pub apart : AreApart relocations

-- ---- reach

-- a target is in reach of a call at an address: AUIPC adds -2^31 to 2^31 - 2^12, and JALR -2^11 to 2^11 - 1
pub record IsInReach (place target : ℕ) : Type 0 where
  pub above : place ≤ target + 2 ^ 31 + 2 ^ 11
  pub below : target + 2 ^ 31 + 2 ^ 11 < place + 2 ^ 32

-- the symbol of a relocation is in reach of its call site
abbrev pub IsReached : (base : ℕ) (addresses : List ℕ) → Relocation → Type 0
IsReached base addresses r = IsInReach (base + r.offset) (target_of addresses r)

-- the relocation of this index is the first whose symbol isn't
pub record IsFirstOutOfReach (relocations : List Relocation) (base : ℕ) (addresses : List ℕ) (index : ℕ) : Type 0 where
  pub here : (r : Relocation) × (slice_get relocations index ≡ Some r) × (IsReached base addresses r → ⊥)
  pub before : All (IsReached base addresses) (take index relocations)

-- ---- what is loaded

-- From the first word of a call site on the machine makes two steps. Then it is at the target, with bit 0 cleared, x1 has the
-- address behind the call site, and nothing else has changed.
pub record HasCalled (bytes : List ℕ) (base place target : ℕ) (s : Machine) : Type 0 where
  pub between : Machine
  pub after : Machine
  pub upper : step_in bytes base s ≡ Continues between
  pub jump : step_in bytes base between ≡ Continues after
  pub counter : after.counter ≡ target / 2 * 2
  pub link : register after 1 ≡ place + 8
  pub registers : (r : ℕ) → r ≢ 1 → register after r ≡ register s r
  pub memory : after.memory ≡ s.memory
  pub entry : after.entry ≡ s.entry
  pub area : after.area ≡ s.area
  pub script : after.script ≡ s.script
  pub events : after.events ≡ s.events

-- the two words of a call site call this target
abbrev pub Calls : (bytes : List ℕ) (base place target : ℕ) → Type 0
Calls bytes base place target = (s : Machine) → s.counter ≡ place → HasCalled bytes base place target s

-- a byte is outside of a call site
abbrev pub IsOutside : (k : ℕ) → Relocation → Type 0
IsOutside k r = (k < r.offset) ⊎ (r.offset + 8 ≤ k)

-- the bytes are the text from an address on. Outside of call sites they are the text's, and each call site calls its symbol
pub record IsLoaded (text : List ℕ) (relocations : List Relocation) (base : ℕ) (addresses : List ℕ) (bytes : List ℕ) : Type 0 where
  pub size : length bytes ≡ length text
  pub kept : (k : ℕ) → All (IsOutside k) relocations → slice_index bytes k ≡ slice_index text k
  pub reach : All (IsReached base addresses) relocations
  pub calls : All (λ r. Calls bytes base (base + r.offset) (target_of addresses r)) relocations

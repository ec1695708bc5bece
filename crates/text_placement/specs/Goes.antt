-- Where the two words go by which control goes to a function by its name, AUIPC and JALR, when the program is linked (RISC-V ELF psABI, "Procedure Calls").
use Rattle.std.specs.Prelude.{◌≡◌, ◌≢◌, ℕ, ◌+◌, ◌*◌, ◌/◌, List}
use Rattle.sem_machine.specs.Machine.{Machine, register}
use Rattle.sem_machine.specs.MachineStep.{Continues}
use Rattle.elf_object.specs.declared.relocations.Relocation.{Relocation}
use Rattle.elf_object.specs.Standard.{R_RISCV_32}
use Rattle.elf_load.specs.Auipc.{step_in}

-- From the first word on the machine makes two steps. Then it is at the target, with bit 0 cleared; the link register, if it isn't x0, has the address
-- behind the two words; and but for the register that AUIPC sets nothing else has changed.
pub record HasGone (bytes : List ℕ) (base place target scratch link : ℕ) (s : Machine) : Type 0 where
  pub between : Machine
  pub after : Machine
  pub upper : step_in bytes base s ≡ Continues between
  pub jump : step_in bytes base between ≡ Continues after
  pub counter : after.counter ≡ target / 2 * 2
  pub linked : link ≢ 0 → register after link ≡ place + 8
  pub registers : (r : ℕ) → r ≢ scratch → r ≢ link → register after r ≡ register s r
  pub memory : after.memory ≡ s.memory
  pub entry : after.entry ≡ s.entry
  pub area : after.area ≡ s.area
  pub symbols : after.symbols ≡ s.symbols
  pub script : after.script ≡ s.script
  pub events : after.events ≡ s.events

-- the two words at a place go to a target, by these registers
abbrev pub Goes : (bytes : List ℕ) (base place target scratch link : ℕ) → Type 0
Goes bytes base place target scratch link = (s : Machine) → s.counter ≡ place → HasGone bytes base place target scratch link s

-- AUIPC and JALR of a call, x1 by x1, and of a call in tail position, x0 by x6, as they are written
abbrev pub CALL_UPPER : ℕ
CALL_UPPER = 0x00000097

abbrev pub CALL_JUMP : ℕ
CALL_JUMP = 0x000080e7

abbrev pub TAIL_UPPER : ℕ
TAIL_UPPER = 0x00000317

abbrev pub TAIL_JUMP : ℕ
TAIL_JUMP = 0x00030067

-- four bytes at an offset, as a field is
abbrev pub word_field : (at : ℕ) → Relocation
word_field at = record { offset = at; symbol = 0; relocation_type = R_RISCV_32; addend = 0 }

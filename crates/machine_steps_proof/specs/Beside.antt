-- The matching relation of the machine and a function with its frame: the same registers, and the same memory except the frame's
-- bytes, which have the written slots.
use Rattle.std.specs.Prelude.{◌≡◌, ℕ, ◌+◌, ◌-◌, ◌^◌, ◌<◌, ◌≤◌, Some, false, IsSome}
use Rattle.mir_func.specs.Function.{FramedFunction}
use Rattle.mir_func.specs.Limits.{FRAME_ROOM}
use Rattle.mir_func.specs.Objects.{area_of, offset_of}
use Rattle.mir_func.specs.SoundFrame.{IsSlotOffset}
use Rattle.sem_mir.specs.State.{Core, content, spelled, in_frame}
use Rattle.sem_mir.specs.Step.{read}
use Rattle.sem_machine.specs.Machine.{Machine, register}

-- the lowest address of the frame
abbrev pub frame_low : FramedFunction → Core → ℕ
frame_low f c = c.entry - f.size

-- the machine matches a core of the function with its frame. Each written slot has its content in the frame's bytes
pub record Beside (f : FramedFunction) (c : Core) (m : Machine) : Type 0 where
  pub room : FRAME_ROOM ≤ c.entry
  pub top : c.entry < 2 ^ 64
  pub area : c.area ≡ area_of f.objects
  pub objects : (n : ℕ) → c.objects n ≡ offset_of f.objects n
  pub written : (r : ℕ) → r < 32 → IsSome (content c.regs r)
  pub same_entry : m.entry ≡ c.entry
  pub same_area : m.area ≡ c.area
  pub same_symbols : m.symbols ≡ c.symbols
  pub regs : (r : ℕ) → register m r ≡ read c r
  pub memory : (a : ℕ) → in_frame c.entry c.area a ≡ false → m.memory a ≡ c.memory a
  pub bytes : (a : ℕ) → m.memory a < 256
  pub slots : (o v : ℕ) → IsSlotOffset f o → c.slots o ≡ Some v → v ≡ spelled m.memory (frame_low f c + o) 8
  pub script : m.script ≡ c.script
  pub events : m.events ≡ c.events

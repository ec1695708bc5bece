-- The frame's state at each position (DWARF 5, 6.4 "Call Frame Information": how far the stack pointer is below its value at
-- entry, and where which registers are saved), and that machine states agree with it.
use Rattle.std.specs.Prelude.{◌≡◌, ℕ, ◌-◌, ◌<◌, ◌≤◌, ◌^◌, ◌∷◌, drop, All, Contains, Option, Some, Bool, true, false, cond, not, ◌&&◌, ◌||◌, nat_eq}
use Rattle.mir_func.specs.declared.debug_substitution.OperandPair.{OperandPair}
use Rattle.mir_func.specs.declared.framed.SavedRegister.{SavedRegister}
use Rattle.mir_func.specs.declared.position.Pos.{Pos}
use Rattle.mir_func.specs.Function.{Function, FramedFunction}
use Rattle.mir_func.specs.Graph.{block_start, fetch_in, framed_program, is_return}
use Rattle.mir_func.specs.Limits.{MAX_FRAME, FRAME_ROOM}
use Rattle.mir_func.specs.Sound.{IsSound}
use Rattle.mir_func.specs.SoundFrame.{SAVED}
use Rattle.sem_mir.specs.State.{Core, State, content, RunResult}
use Rattle.sem_mir.specs.Step.{Went, Returned, read, step, run}
use Rattle.frame_rule.specs.Rule.{framed_of, size_of}
use Rattle.rv64_instr.specs.Row.{way_leads_back}

-- the frame's state: by how many bytes x2 is lowered, and whether registers are saved
pub record FrameState : Type 0 where
  pub lowered : ℕ
  pub saved : Bool

-- all is as at entry: if the frame is empty, before the prologue, and at a return
abbrev pub is_as_found : FramedFunction → Pos → Bool
is_as_found f p = nat_eq f.size 0 || ((nat_eq p.block 0 && nat_eq p.item 0) || is_return (fetch_in (drop p.block f.blocks) p.item))

-- in the prologue, which is block 0, registers aren't saved yet; its first item allocates the frame
abbrev pub frame_state : FramedFunction → Pos → FrameState
frame_state f p = cond (is_as_found f p) (record { lowered = 0; saved = false }) (record { lowered = f.size; saved = not (nat_eq p.block 0) })

-- the register has a save slot
abbrev pub IsSaved : FramedFunction → ℕ → Type 0
IsSaved f r = (s : SavedRegister) × Contains f.saved s × (s.register ≡ r)

-- the core state d at position p agrees with the frame's state there; e is the core state at entry
pub record FrameStands (f : FramedFunction) (e : Core) (p : Pos) (d : Core) : Type 0 where
  -- x2 is its value at entry, less the lowering
  pub pointer : content d.regs 2 ≡ Some (e.entry - (frame_state f p).lowered)
  -- if registers aren't saved yet, each callee-saved register (and ra) is as at entry
  pub kept : (frame_state f p).saved ≡ false → (r : ℕ) → Contains SAVED r → content d.regs r ≡ content e.regs r
  -- if they are, their save slots have their values at entry
  pub in_places : (frame_state f p).saved ≡ true → (s : SavedRegister) → Contains f.saved s → d.slots s.offset ≡ content e.regs s.register
  -- and those without a save slot are as at entry
  pub others : (frame_state f p).saved ≡ true → (r : ℕ) → Contains SAVED r → (IsSaved f r → ⊥) → content d.regs r ≡ content e.regs r

-- a core state at entry: x2 has room for a frame below it
pub record IsEntered (e : Core) : Type 0 where
  pub pointer : content e.regs 2 ≡ Some e.entry
  pub room : FRAME_ROOM ≤ e.entry
  pub top : e.entry < 2 ^ 64

-- each state of each run of a function with its frame agrees with the frame's state, whatever its slots are at first
abbrev pub FrameAlwaysStands : Type 0
FrameAlwaysStands = (f : Function) (resolve : OperandPair → Option OperandPair) → IsSound f → size_of f ≤ MAX_FRAME → (e : Core) → IsEntered e →
    (n : ℕ) (t : State) → run (framed_program (framed_of f).blocks resolve) n (record { pos = block_start 0; core = e }) ≡ Went t →
    FrameStands (framed_of f) e t.pos t.core

-- so where control leaves back to the caller the stack pointer, the return address and the callee-saved registers are as at entry (RISC-V ELF psABI, "Integer
-- Register Convention")
abbrev pub FrameGivesBack : Type 0
FrameGivesBack = (f : Function) (resolve : OperandPair → Option OperandPair) → IsSound f → size_of f ≤ MAX_FRAME → (e : Core) → IsEntered e →
    (n : ℕ) (t : State) (result : RunResult) →
    run (framed_program (framed_of f).blocks resolve) n (record { pos = block_start 0; core = e }) ≡ Went t →
    step (framed_program (framed_of f).blocks resolve) t ≡ Returned result → way_leads_back result.way ≡ true → All (λ r. read t.core r ≡ read e r) (2 ∷ SAVED)

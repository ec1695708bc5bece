-- What the locations of an instruction say of each of its runs: those that it defines, uses and
-- moves, and the constant that it sets.
use Rattle.std.specs.Prelude.{◌≡◌, ◌⊎◌, ℕ, ℤ, Option, Some, true, false}
use Rattle.mir_func.specs.rv64_instr.declared.place.Place.{Place}
use Rattle.mir_func.specs.rv64_instr.declared.place.Place.TheVariants.{Register, Slot, Const}
use Rattle.mir_func.specs.rv64_instr.Instruction.{Instruction}
use Rattle.mir_func.specs.rv64_instr.Arithmetic.{word}
use Rattle.mir_func.specs.rv64_instr.Row.{row_of}
use Rattle.mir_func.specs.rv64_instr.LocationEffects.{set_by, moved_by, constant_of, is_pure, is_call, uses_of, defines_of}
use Rattle.sem_mir.specs.State.{Core, content}
use Rattle.sem_mir.specs.Step.{Outcome, Falls, Goes, Gives, Traps, Asks, Breaks, act}

-- the content of a location, if it is written
abbrev pub held_in : Place → Core → Option ℕ
held_in (Register r) c = content c.regs r
held_in (Slot n) c = c.slots n
held_in (Const z) c = Some (word z)

-- the core after the outcome satisfies P, if the run goes on
abbrev pub OnCore : (Core → Type 0) → Outcome → Type 0
OnCore P (Falls c) = P c
OnCore P (Goes n c) = P c
OnCore P _ = Unit {0}

-- two outcomes are the same; if the run goes on, it does so at the same target, and the cores are
-- related by R
abbrev pub EndAlike : (Core → Core → Type 0) → Outcome → Outcome → Type 0
EndAlike R (Falls c) (Falls d) = R c d
EndAlike R (Goes m c) (Goes n d) = (m ≡ n) × R c d
EndAlike R (Gives v) (Gives w) = v ≡ w
EndAlike R Traps Traps = Unit {0}
EndAlike R Asks Asks = Unit {0}
EndAlike R Breaks Breaks = Unit {0}
EndAlike R _ _ = ⊥

-- two cores that agree on all but registers, slots, pairs and debug values
pub record SameWorld (c d : Core) : Type 0 where
  pub entry : c.entry ≡ d.entry
  pub area : c.area ≡ d.area
  pub objects : c.objects ≡ d.objects
  pub symbols : c.symbols ≡ d.symbols
  pub memory : c.memory ≡ d.memory
  pub script : c.script ≡ d.script
  pub events : c.events ≡ d.events

-- the outcome falls through with a core that satisfies P, stops on a frame fault, or is that of an
-- invalid instruction
abbrev pub FallsInto : (Core → Type 0) → Outcome → Type 0
FallsInto P (Falls c) = P c
FallsInto P Traps = Unit {0}
FallsInto P Breaks = Unit {0}
FallsInto P _ = ⊥

-- after the instruction the cores agree on each location that it defines or on which they agreed
-- before, and on all but registers, slots, pairs and debug values
abbrev pub AreHeldAlike : Instruction → (c d c' d' : Core) → Type 0
AreHeldAlike i c d c' d' = SameWorld c' d' × ((x : Place) → (defines_of (row_of i) x ≡ true) ⊎ (held_in x c ≡ held_in x d) → held_in x c' ≡ held_in x d')

-- dataflow facts of each instruction, whatever state it runs from
pub record EffectsHold : Type 0 where
  -- a location that it doesn't define keeps its content
  pub defines : (i : Instruction) (x : Place) (c : Core) → defines_of (row_of i) x ≡ false → OnCore (λ d. held_in x d ≡ held_in x c) (act (row_of i) c)
  -- from cores with the same memory, replies and events that agree on the locations that it uses
  -- its outcome is the same, and so is each location that it defines or on which the cores agreed
  pub uses : (i : Instruction) (c d : Core) → SameWorld c d → ((x : Place) → uses_of i x ≡ true → held_in x c ≡ held_in x d) →
      EndAlike (AreHeldAlike i c d) (act (row_of i) c) (act (row_of i) d)
  -- except for calls, a location that it defines is x0 or the one location that it sets
  pub sets : (i : Instruction) (x : Place) → is_call (row_of i) ≡ false → defines_of (row_of i) x ≡ true → (x ≡ Register 0) ⊎ (set_by (row_of i) ≡ Some x)
  -- the location that it sets gets the content of the location that it moves, or the constant that
  -- it sets
  pub moves : (i : Instruction) (from to : Place) (c : Core) → moved_by (row_of i) ≡ Some from → set_by (row_of i) ≡ Some to →
      OnCore (λ d. held_in to d ≡ held_in from c) (act (row_of i) c)
  pub fixes : (i : Instruction) (z : ℤ) (to : Place) (c : Core) → constant_of (row_of i) ≡ Some z → set_by (row_of i) ≡ Some to →
      OnCore (λ d. held_in to d ≡ Some (word z)) (act (row_of i) c)
  -- a pure instruction changes no memory and no events, and falls through unless it faults or is
  -- invalid
  pub pure : (i : Instruction) (c : Core) → is_pure (row_of i) ≡ true → FallsInto (SameWorld c) (act (row_of i) c)

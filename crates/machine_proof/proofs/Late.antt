-- Where the function with its frame stops on a slot that isn't written, the machine goes on: over code that was added before a position.
use Rattle.std.proofs.Common.{◌≡◌, ℕ, ◌+◌, ◌<◌, ◌^◌, Option, Some, None, Bool, true, false, cond, nat_eq, IsSome, refl, sym, ap, ◌∙◌}
use Rattle.std.proofs.Common.{subst}
use Rattle.std.proofs.lemmas.List.Elements.{All-contains}
use Rattle.rv64_instr.specs.Instruction.{Instruction}
use Rattle.rv64_instr.specs.Row.{Row, Fixes, Moves, Sets, Addresses, LoadsSlot, StoresSlot, row_of}
use Rattle.rv64_instr.specs.LocationEffects.{is_call}
use Rattle.mir_func.specs.declared.debug_substitution.OperandPair.{OperandPair}
use Rattle.mir_func.specs.declared.item.Item.{Item}
use Rattle.mir_func.specs.declared.item.ItemKind.{ItemKind}
use Rattle.mir_func.specs.declared.item.ItemKind.TheVariants.{Code}
use Rattle.mir_func.specs.Function.{FramedFunction}
use Rattle.mir_func.specs.Graph.{Here, below}
use Rattle.mir_func.specs.Sound.{SlotIn, SlotsIn}
use Rattle.mir_func.specs.SoundFrame.{HasPhysical, slot_offsets, IsSlotOffset, IsFramed}
use Rattle.sem_mir.specs.State.{Core, State, IsInRange, updated, spelled}
use Rattle.sem_mir.specs.Step.{Falls, Went, does, read, numbered, with_core, do_item, step, slot_loaded, set_register}
use Rattle.sem_mir.proofs.InRange.{spelled_below}
use Rattle.sem_mir.proofs.Outcomes.{step_item}
use Rattle.sem_simulation.specs.Words.{SameCode}
use Rattle.sem_machine.specs.Image.{Image}
use Rattle.sem_machine.specs.Machine.{Machine}
use Rattle.machine_steps_proof.specs.Beside.{frame_low}
use Rattle.machine_steps_proof.specs.Laid.{fetched, IsLaidAt}
use Rattle.machine_steps_proof.specs.Steps.{framed_run, Level}
use Rattle.machine_steps_proof.proofs.Rows.{acts}
use Rattle.machine_steps_proof.proofs.Registers.{reads_physical}
use Rattle.machine_steps_proof.proofs.Points.{of_item}
use Rattle.machine_steps_proof.proofs.Pointers.{numbered_code}
use Rattle.machine_proof.specs.Runs.{IsHarmless}

-- every slot of the frame is written
abbrev pub IsFilled : FramedFunction → Core → Type 0
IsFilled f c = (o : ℕ) → IsSlotOffset f o → IsSome (c.slots o)

-- a core as the frame's bytes have it: with each slot's content as it is in memory. It tells what another one, e, tells
abbrev pub filled : FramedFunction → (c e : Core) → Machine → Core
filled f c e m = record c { slots = λ o. Some (spelled m.memory (frame_low f c + o) 8); pairs = e.pairs; marks = e.marks }

module _ (f : FramedFunction) (framed : IsFramed f) (resolve : OperandPair → Option OperandPair) (image : Image) (laid : IsLaidAt f image) where
  some_one : (a b : ℕ) → Some a ≡ Some b → b ≡ a
  some_one a b e = cc

  -- the machine is level with it too
  pub level_filled : (t : State) (e : Core) (m : Machine) → Level f resolve image laid t m → IsInRange e →
      Level f resolve image laid (record { pos = t.pos; core = filled f t.core e m }) m
  level_filled t e m level in_range = record {
    beside = record {
      room = level.beside.room;
      top = level.beside.top;
      area = level.beside.area;
      objects = level.beside.objects;
      written = level.beside.written;
      same_entry = level.beside.same_entry;
      same_area = level.beside.same_area;
      same_symbols = level.beside.same_symbols;
      regs = level.beside.regs;
      memory = level.beside.memory;
      bytes = level.beside.bytes;
      slots = λ o v is h. some_one (spelled m.memory (frame_low f t.core + o) 8) v h;
      script = level.beside.script;
      events = level.beside.events;
    };
    range = record {
      regs = level.range.regs;
      slots = λ o v h. (let q = some_one (spelled m.memory (frame_low f t.core + o) 8) v h in
          subst (λ (x : ℕ). x < 2 ^ 64) (sym q) (spelled_below m.memory level.beside.bytes 8 (frame_low f t.core + o)));
      memory = level.range.memory;
      script = level.range.script;
      pairs = in_range.pairs;
      marks = in_range.marks;
    };
    pointer = level.pointer;
    counter = level.counter;
  }

  pub is_filled : (c e : Core) (m : Machine) → IsFilled f (filled f c e m)
  is_filled c e m o is = refl

  -- such code falls through, shows nothing, and leaves slots written
  record GoesQuietly (r : Row) (c : Core) : Type 0 where
    next : Core
    falls : does r c ≡ Falls next
    events : next.events ≡ c.events
    slots : IsFilled f next

  loads_quietly : (rd : ℕ) (c : Core) (x : Option ℕ) → IsSome x → IsFilled f c →
      (d : Core) × (slot_loaded rd c x ≡ Falls d) × (d.events ≡ c.events) × IsFilled f d
  loads_quietly rd c None h full = cc
  loads_quietly rd c (Some v) h full = (set_register rd v c, refl, refl, full)

  stores_filled : (n v : ℕ) (slots : ℕ → Option ℕ) → ((o : ℕ) → IsSlotOffset f o → IsSome (slots o)) → (o : ℕ) → IsSlotOffset f o →
      IsSome (updated n (Some v) slots o)
  stores_filled n v slots h o is = by_test (nat_eq o n) where
    by_test : (b : Bool) → IsSome (cond b (Some v) (slots o))
    by_test true = refl
    by_test false = h o is

  harmless_goes : (r : Row) → IsHarmless r → SlotIn (slot_offsets f) r → (c : Core) → IsFilled f c → GoesQuietly r c
  unfolding does
  harmless_goes (Fixes rd n) h s c full = record { next = set_register rd n c; falls = refl; events = refl; slots = full }
  harmless_goes (Moves rd rs) h s c full = record { next = set_register rd _ c; falls = refl; events = refl; slots = full }
  harmless_goes (Sets rd op a b) h s c full = record { next = set_register rd _ c; falls = refl; events = refl; slots = full }
  harmless_goes (Addresses rd n o) h s c full = record { next = set_register rd _ c; falls = refl; events = refl; slots = full }
  harmless_goes (LoadsSlot rd n) h s c full =
      let is = All-contains (IsSlotOffset f) (slot_offsets f) n framed.offsets s in
      let x = loads_quietly rd c (c.slots n) (full n is) full in
      record { next = x.0; falls = x.1; events = x.2; slots = x.3 }
  harmless_goes (StoresSlot rs n) h s c full = record {
    next = record c { slots = updated n (Some (read c rs)) c.slots };
    falls = refl;
    events = refl;
    slots = stores_filled n (read c rs) c.slots full;
  }
  harmless_goes _ h s c full = absurd h

  -- its step
  pub record StepsQuietly (t : State) : Type 0 where
    pub next : State
    pub went : step (framed_run f resolve image laid) t ≡ Went next
    pub at : next.pos ≡ below t.pos
    pub events : next.core.events ≡ t.core.events
    pub slots : IsFilled f next.core

  pub steps_quietly : (t : State) (m : Machine) → Level f resolve image laid t m → (i : Item) → fetched f t.pos ≡ Here i → (c : Instruction) (k : Option ℕ) →
      i.kind ≡ Code c k → IsHarmless (row_of c) → IsFilled f t.core → StepsQuietly t
  steps_quietly t m level i here c k kind harmless full =
      let slots = subst (SlotsIn (slot_offsets f)) kind (of_item f (λ (j : Item). SlotsIn (slot_offsets f) j.kind) framed.slots t.pos i here) in
      let physical = reads_physical c (subst HasPhysical kind (of_item f (λ (j : Item). HasPhysical j.kind) framed.physical t.pos i here)) in
      let q = harmless_goes (row_of c) harmless slots.0 t.core full in
      let d : Core = numbered false (is_call (row_of c)) k c.operands q.next in
      let code : SameCode d q.next = numbered_code false (is_call (row_of c)) k c.operands q.next in
      let u : State = record { pos = below t.pos; core = d } in
      record {
        next = u;
        went = step_item (framed_run f resolve image laid) t i (Falls d) here
            (ap (λ (x : ItemKind). do_item (framed_run f resolve image laid) x t.core) kind
            ∙ ap (with_core (numbered false (is_call (row_of c)) k c.operands)) (acts (row_of c) t.core level.beside.written physical ∙ q.falls));
        at = refl;
        events = code.events ∙ q.events;
        slots = λ o is. subst (λ (slots : ℕ → Option ℕ). IsSome (slots o)) (sym code.slots) (q.slots o is);
      }

-- Debug items and ends of blocks beside the machine, which stays; and the start.
use Rattle.std.proofs.Common.{◌≡◌, ℕ, zero, suc, ◌-◌, List, ◌∷◌, Option, Some, None, true, false, is_some, refl, sym, ap, ◌∙◌, arith}
use Rattle.mir_func.specs.declared.debug_substitution.OperandPair.{OperandPair}
use Rattle.mir_func.specs.declared.position.Pos.{Pos}
use Rattle.mir_func.specs.declared.item.Item.{Item}
use Rattle.mir_func.specs.declared.item.ItemKind.{ItemKind}
use Rattle.mir_func.specs.declared.item.ItemKind.TheVariants.{Code, Mark, Phi}
use Rattle.mir_func.specs.declared.variable.VarId.{VarId}
use Rattle.mir_func.specs.Exits.{exit_of}
use Rattle.mir_func.specs.Function.{FramedFunction}
use Rattle.mir_func.specs.Graph.{Here, EndOfBlock, below, block_start, index_of}
use Rattle.mir_func.specs.SoundFrame.{body_of, IsFramed}
use Rattle.sem_mir.specs.Align.{is_code}
use Rattle.sem_mir.specs.State.{Core, State, updated, content}
use Rattle.sem_mir.specs.Step.{Falls, Went, part_of, mark_value, place_value, do_item, step, read}
use Rattle.sem_mir.proofs.InRange.{step_in_range, start_in_range}
use Rattle.sem_mir.proofs.Outcomes.{step_item, step_end}
use Rattle.sem_simulation.specs.Words.{SameCode}
use Rattle.sem_simulation.proofs.Turns.{same_code}
use Rattle.sem_machine.specs.Image.{Image}
use Rattle.sem_machine.specs.Machine.{Machine, machine_start, register}
use Rattle.machine_steps_proof.specs.Beside.{Beside}
use Rattle.machine_steps_proof.specs.Laid.{fetched, IsLaidAt}
use Rattle.machine_steps_proof.specs.Pointer.{lowered_by}
use Rattle.machine_steps_proof.specs.Steps.{framed_run, Level, AtCode, StaysLevel, StepsBeside, StaysBeside, StartsBeside}
use Rattle.machine_steps_proof.proofs.Points.{PointerMotion, keeps, lowers, raises, leaves, pointer_motion, start_down, end_down}
use Rattle.machine_steps_proof.proofs.Lands.{next_index}
use Rattle.machine_steps_proof.proofs.Sites.{at_code}

module _ (f : FramedFunction) (framed : IsFramed f) (resolve : OperandPair →
    Option OperandPair) (image : Image) (laid : IsLaidAt f image) (t : State) (m : Machine)
    (level : Level f resolve image laid t m) where
  h : Beside f t.core m
  h = level.beside

  with_marks : (marks : List (VarId × Option ℕ)) → Beside f (record t.core { marks = marks }) m
  with_marks marks = record {
    room = h.room;
    top = h.top;
    area = h.area;
    objects = h.objects;
    written = h.written;
    same_entry = h.same_entry;
    same_area = h.same_area;
    same_symbols = h.same_symbols;
    regs = h.regs;
    memory = h.memory;
    bytes = h.bytes;
    slots = h.slots;
    script = h.script;
    events = h.events;
  }

  with_pairs : (pairs : ℕ → ℕ → Option ℕ) → Beside f (record t.core { pairs = pairs }) m
  with_pairs pairs = record {
    room = h.room;
    top = h.top;
    area = h.area;
    objects = h.objects;
    written = h.written;
    same_entry = h.same_entry;
    same_area = h.same_area;
    same_symbols = h.same_symbols;
    regs = h.regs;
    memory = h.memory;
    bytes = h.bytes;
    slots = h.slots;
    script = h.script;
    events = h.events;
  }

  -- a debug item is no code that sets x2, nor a return
  debug_down : (i : Item) → fetched f t.pos ≡ Here i → is_code i.kind ≡ false → lowered_by f (below t.pos) ≡ lowered_by f t.pos
  debug_down i here plain = by_motion (pointer_motion f framed t.pos i here) where
    not_code : (k : ItemKind) (c : Rattle.rv64_instr.specs.Instruction.Instruction) → is_code k ≡ false → k ≡ Code c None → ⊥
    not_code (Code d n) c e q = cc
    not_code (Mark v x) c e q = cc
    not_code (Phi p n) c e q = cc

    not_return : (k : ItemKind) → is_code k ≡ false → exit_of k ≡ Rattle.mir_func.specs.declared.exit.Exit.TheVariants.Final → ⊥
    not_return (Code d n) e q = cc
    not_return (Mark v x) e q = cc
    not_return (Phi p n) e q = cc

    by_motion : PointerMotion f t.pos i.kind → lowered_by f (below t.pos) ≡ lowered_by f t.pos
    by_motion (keeps leave down next on) = next ∙ sym down
    by_motion (lowers e ne down next) = absurd (not_code i.kind _ plain e)
    by_motion (raises e ne down next) = absurd (not_code i.kind _ plain e)
    by_motion (leaves e) = absurd (not_return i.kind plain e)

  -- an item that falls through with equal places
  passes : (i : Item) → fetched f t.pos ≡ Here i → is_code i.kind ≡ false → (d : Core) → do_item (framed_run f resolve image laid) i.kind t.core ≡ Falls d →
      SameCode d t.core → Beside f d m → StaysLevel f resolve image laid t m (below t.pos)
  passes i here plain d done code b =
      let u : State = record { pos = below t.pos; core = d } in
      let went : step (framed_run f resolve image laid) t ≡ Went u = step_item (framed_run f resolve image laid) t i (Falls d) here done in
      record {
        next = u;
        went = went;
        at = refl;
        code = code;
        level = record {
          beside = b;
          range = step_in_range (framed_run f resolve image laid) t u level.range went;
          pointer = ap (λ (regs : ℕ → Option ℕ). Rattle.sem_mir.specs.Step.or_zero (content regs 2)) code.regs ∙ level.pointer
              ∙ ap (λ (x : ℕ). t.core.entry - x) (sym (debug_down i here plain)) ∙ ap (λ (x : ℕ). x - lowered_by f (below t.pos)) (sym code.entry);
          counter = level.counter ∙ sym (laid.debug t.pos i here plain);
        };
      }

  pub past_debug : (i : Item) → fetched f t.pos ≡ Here i → is_code i.kind ≡ false → StaysLevel f resolve image laid t m (below t.pos)
  past_debug i here plain = by_kind i.kind refl plain where
    by_kind : (k : ItemKind) → i.kind ≡ k → is_code k ≡ false → StaysLevel f resolve image laid t m (below t.pos)
    by_kind (Code c n) e q = cc
    by_kind (Mark v x) e q =
        let marks = (v, part_of v (mark_value (framed_run f resolve image laid) x t.core)) ∷ t.core.marks in
        let d : Core = record t.core { marks = marks } in
        passes i here plain d (ap (λ (k : ItemKind). do_item (framed_run f resolve image laid) k t.core) e)
        (record {
          entry = refl;
          area = refl;
          objects = refl;
          symbols = refl;
          regs = refl;
          slots = refl;
          memory = refl;
          script = refl;
          events = refl;
        }) (with_marks marks)
    by_kind (Phi p n) e q =
        let pairs = updated n (updated 0 (place_value p t.core) (t.core.pairs n)) t.core.pairs in
        let d : Core = record t.core { pairs = pairs } in
        passes i here plain d (ap (λ (k : ItemKind). do_item (framed_run f resolve image laid) k t.core) e)
        (record {
          entry = refl;
          area = refl;
          objects = refl;
          symbols = refl;
          regs = refl;
          slots = refl;
          memory = refl;
          script = refl;
          events = refl;
        }) (with_pairs pairs)

  pub past_end : (k n : ℕ) → fetched f t.pos ≡ EndOfBlock k n → StaysLevel f resolve image laid t m (block_start (suc t.pos.block))
  past_end k n e =
      let to : Pos = block_start (suc t.pos.block) in
      let u : State = record { pos = to; core = t.core } in
      let v : State = record { pos = block_start (suc (index_of (body_of f.blocks) n)); core = t.core } in
      let went : step (framed_run f resolve image laid) t ≡ Went u =
      step_end (framed_run f resolve image laid) t k n e
      ∙ ap (λ (x : ℕ). Went (record { pos = block_start (suc x); core = t.core })) (next_index f framed t.pos k n e) in
      record {
        next = u;
        went = went;
        at = refl;
        code = same_code t.core;
        level = record {
          beside = h;
          range = level.range;
          pointer = level.pointer ∙ ap (λ (x : ℕ). t.core.entry - x) (end_down f framed t.pos k n e ∙ sym (start_down f framed t.pos.block));
          counter = level.counter ∙ sym (laid.ends t.pos k n e);
        };
      }

pub stays_beside : StaysBeside
stays_beside f framed resolve image laid t m level = (past_debug f framed resolve image laid t m level, past_end f framed resolve image laid t m level)

pub steps_beside : StepsBeside
steps_beside f framed resolve image laid t m level i here code = by_kind i.kind refl code where
  by_kind : (k : ItemKind) → i.kind ≡ k → is_code k ≡ true → AtCode f resolve image laid t m i
  by_kind (Code c n) e q = at_code f framed resolve image laid t m level i here c n e
  by_kind (Mark v x) e q = cc
  by_kind (Phi p n) e q = cc

pub starts_beside : StartsBeside
starts_beside f framed resolve image laid first s start = record {
  beside = record {
    room = start.room;
    top = (let w = start.regs 2 (omega arith) in let e : Some w.0 ≡ Some s.core.entry = sym w.1 ∙ start.pointer in let q : w.0 ≡ s.core.entry = cc in
        let k = w.2 in omega (arith, q, k));
    area = start.area;
    objects = start.objects;
    written = λ r lt. (let w = start.regs r lt in ap is_some w.1);
    same_entry = refl;
    same_area = laid.area ∙ sym start.area;
    same_symbols = refl;
    regs = read_start;
    memory = λ a e. refl;
    bytes = start.memory;
    slots = λ o v is e. (let bad : None ≡ Some v = sym (start.slots o) ∙ e in cc);
    script = refl;
    events = sym start.events;
  };
  range = start_in_range f.objects first s start;
  pointer = ap Rattle.sem_mir.specs.Step.or_zero start.pointer ∙ (let q : s.core.entry ≡ s.core.entry - 0 = omega arith in q);
  counter = sym laid.low;
} where
  read_start : (r : ℕ) → register (machine_start image s) r ≡ read s.core r
  read_start zero = refl
  read_start (suc r) = refl

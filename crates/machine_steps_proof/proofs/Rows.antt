-- One word beside the code that it was made from, row by row.
use Rattle.std.proofs.Common.{◌≡◌, ℕ, zero, suc, ◌+◌, ◌-◌, ◌/◌, ◌%◌, ◌^◌, ◌<◌, ◌≤◌, List, [], ◌∷◌, length, All, Contains, Option, Some, None, Bool, true, false}
use Rattle.std.proofs.Common.{cond, eqb, nat_eq, ◌&&◌, IsSome, is_some, refl, sym, ap, ◌∙◌, subst, inl, inr, ◌⊎◌, eq-eqb, ne_eqb, pos, arith}
use Rattle.std.proofs.lemmas.List.Elements.{All-head, All-tail}
use Rattle.std.proofs.lemmas.Bool.{cases_eq}
use Rattle.rv64_instr.specs.declared.op.LoadOp.{LoadOp}
use Rattle.rv64_instr.specs.declared.op.RegisterOp.{RegisterOp}
use Rattle.rv64_instr.specs.declared.op.RegisterOp.TheVariants.{Add}
use Rattle.rv64_instr.specs.declared.symbol.Symbol.{Symbol}
use Rattle.rv64_instr.specs.declared.symbol.LinkedAddress.{LinkedAddress}
use Rattle.rv64_instr.specs.declared.symbol.Half.{Half}
use Rattle.rv64_instr.specs.declared.symbol.Half.TheVariants.{Upper, Lower}
use Rattle.rv64_instr.specs.Linked.{immediate_value, linked_immediate, linked_value}
use Rattle.rv64_instr.proofs.Halves.{AddsPart}
use Rattle.rv64_word.specs.Linked.{immediate_of}
use Rattle.rv64_instr.specs.Arithmetic.{word, computed, taken, load_width, store_width, extended}
use Rattle.rv64_instr.specs.Row.{Row, Fixes, Moves, Sets, Addresses, Loads, Stores, LoadsSlot, StoresSlot, Branches, Jumps, Calls, Returns, Unfit, add_row}
use Rattle.rv64_instr.specs.Row.{Content, Number, PartOf}
use Rattle.rv64_instr.specs.Row.{PointedBy, ObjectAt, BesidePart}
use Rattle.rv64_instr.specs.DefsAndUses.{reads}
use Rattle.rv64_word.specs.MachineRow.{Does, placed, from_object, from_part}
use Rattle.mir_func.specs.Function.{FramedFunction}
use Rattle.mir_func.specs.Objects.{area_of, offset_of}
use Rattle.mir_func.specs.SoundFrame.{own_size, slot_offsets, IsSlotOffset, IsFramed}
use Rattle.mir_func.specs.Sound.{HasBytes, SlotIn, ObjectIn}
use Rattle.std.proofs.lemmas.List.Elements.{All-contains}
use Rattle.rv64_instr.specs.LocationEffects.{object_named}
use Rattle.sem_mir.proofs.InRange.{RowInRange}
use Rattle.sem_mir.proofs.Range.{linked_in_range}
use Rattle.sem_mir.specs.State.{Core, content, put, put_all, spelled, low_bytes, stored, written, in_frame, touches_frame, IsInRange}
use Rattle.sem_mir.specs.Step.{Outcome, Falls, Goes, Gives, Traps, Asks, Breaks, act, does, read, or_zero, are_written}
use Rattle.sem_mir.specs.Step.{slot_loaded, saved, address_at}
use Rattle.sem_mir.specs.Step as source
use Rattle.sem_machine.specs.Machine.{Machine, register, register_in, set_in, set_all_in, address_of}
use Rattle.sem_machine.specs.MachineStep.{Stepped, Continues, past, at, set_register, store, shown_store, does_row}
use Rattle.sem_machine.specs.MachineStep as machine
use Rattle.sem_machine.proofs.Plain.{set_alike, falls_if}
use Rattle.machine_steps_proof.specs.Beside.{frame_low, Beside}
use Rattle.mir_func.proofs.Ends.{bytes_within}
use Rattle.machine_steps_proof.proofs.Memory.{spelled_alike, length_low, stored_spelled, stored_elsewhere, untouched, not_touched, is_in_frame}
use Rattle.machine_steps_proof.proofs.Memory.{touched, beyond_area}
use Rattle.sem_mir.proofs.Places.{stored_other}
use Rattle.emit_code.specs.Rule.{object_offset}

-- a row that a word may have
abbrev pub IsWordRow : Row → Type 0
IsWordRow (Calls call) = ⊥
IsWordRow (Returns ending) = ⊥
IsWordRow Unfit = ⊥
IsWordRow _ = Unit {0}

is_there : (o : Option ℕ) → IsSome o → is_some o ≡ true
is_there None h = cc
is_there (Some n) h = refl

both : (a b : Bool) → a ≡ true → b ≡ true → (a && b) ≡ true
both true b e f = f
both false b e f = cc

pub all_written : (c : Core) → ((r : ℕ) → r < 32 → IsSome (content c.regs r)) → (rs : List ℕ) → All (λ r. r < 32) rs → are_written c rs ≡ true
all_written c h [] a = refl
all_written c h (r ∷ rs) a = both _ _ (is_there (content c.regs r) (h r (All-head (λ (q : ℕ). q < 32) r rs a)))
    (all_written c h rs (All-tail (λ (q : ℕ). q < 32) r rs a))

-- where what it reads is written
pub acts : (r : Row) (c : Core) → ((r : ℕ) → r < 32 → IsSome (content c.regs r)) → All (λ r. r < 32) (reads r) → act r c ≡ does r c
unfolding act
acts r c h a = falls_if _ _ (all_written c h (reads r) a)

pub set_written : (rd v : ℕ) (g : ℕ → Option ℕ) → ((r : ℕ) → r < 32 → IsSome (content g r)) → (r : ℕ) → r < 32 → IsSome (content (put rd v g) r)
set_written zero v g h r lt = h r lt
set_written (suc rd) v g h zero lt = h zero lt
set_written (suc rd) v g h (suc r) lt = elim (eqb (suc r) (suc rd)) as (λ b. IsSome (cond b (Some v) (g (suc r)))) [ true ↦ (refl) | false ↦ h (suc r) lt ]

pub set_all_alike : (rs vs : List ℕ) (f : ℕ → ℕ) (g : ℕ → Option ℕ) → ((r : ℕ) → register_in f r ≡ or_zero (content g r)) → (r : ℕ) →
    register_in (set_all_in rs vs f) r ≡ or_zero (content (put_all rs vs g) r)
set_all_alike [] vs f g h r = h r
set_all_alike (q ∷ rs) [] f g h r = set_all_alike rs [] (set_in q 0 f) (put q 0 g) (set_alike q 0 f g h) r
set_all_alike (q ∷ rs) (v ∷ vs) f g h r = set_all_alike rs vs (set_in q v f) (put q v g) (set_alike q v f g h) r

pub set_all_written : (rs vs : List ℕ) (g : ℕ → Option ℕ) → ((r : ℕ) → r < 32 → IsSome (content g r)) → (r : ℕ) → r < 32 → IsSome (content (put_all rs vs g) r)
set_all_written [] vs g h r lt = h r lt
set_all_written (q ∷ rs) [] g h r lt = set_all_written rs [] (put q 0 g) (set_written q 0 g h) r lt
set_all_written (q ∷ rs) (v ∷ vs) g h r lt = set_all_written rs vs (put q v g) (set_written q v g h) r lt

-- what a word's step is to what the code does, the code's target at an address
abbrev pub FollowsRow : FramedFunction → (target : ℕ) → Machine → Outcome → Stepped → Type 0
FollowsRow f target m (Falls d) st = (n : Machine) × (st ≡ Continues n) × (n.counter ≡ m.counter + 4) × Beside f d n
FollowsRow f target m (Goes b d) st = (st ≡ Continues (at target m)) × Beside f d (at target m)
FollowsRow f target m Traps st = Unit {0}
FollowsRow f target m (Gives v) st = ⊥
FollowsRow f target m Asks st = ⊥
FollowsRow f target m Breaks st = ⊥

-- what is found by x2 in the frame
abbrev pub NeedsFrame : Row → Type 0
NeedsFrame (Addresses rd n offset) = Unit {0}
NeedsFrame (Loads rd op (ObjectAt n) offset) = Unit {0}
NeedsFrame (Stores op rs (ObjectAt n) offset) = Unit {0}
NeedsFrame (LoadsSlot rd n) = Unit {0}
NeedsFrame (StoresSlot rs n) = Unit {0}
NeedsFrame (Calls call) = Unit {0}
NeedsFrame _ = ⊥

module _ (f : FramedFunction) (framed : IsFramed f) (c : Core) (m : Machine) (h : Beside f c m) where
  -- the counter alone is another
  pub beside_at : (k : ℕ) → Beside f c (record m { counter = k })
  beside_at k = record {
    room = h.room;
    top = h.top;
    area = h.area;
    objects = h.objects;
    written = h.written;
    same_entry = h.same_entry;
    same_area = h.same_area;
    same_symbols = h.same_symbols;
    regs = h.regs;
    memory = h.memory;
    bytes = h.bytes;
    slots = h.slots;
    script = h.script;
    events = h.events;
  }

  beside_set : (rd v : ℕ) → Beside f (source.set_register rd v c) (past 4 (set_register rd v m))
  beside_set rd v = record {
    room = h.room;
    top = h.top;
    area = h.area;
    objects = h.objects;
    written = set_written rd v c.regs h.written;
    same_entry = h.same_entry;
    same_area = h.same_area;
    same_symbols = h.same_symbols;
    regs = set_alike rd v m.regs c.regs h.regs;
    memory = h.memory;
    bytes = h.bytes;
    slots = h.slots;
    script = h.script;
    events = h.events;
  }

  -- a register is set to one number by both
  sets_to : (target rd v w : ℕ) → w ≡ v → FollowsRow f target m (Falls (source.set_register rd v c)) (Continues (past 4 (set_register rd w m)))
  sets_to target rd v w e = (past 4 (set_register rd v m), ap (λ (x : ℕ). Continues (past 4 (set_register rd x m))) e, refl, beside_set rd v)

  -- the immediate that stands for a half of an address has the half's value
  part_is : (half : Half) (y : LinkedAddress) → immediate_value half (linked_immediate m.symbols half y) ≡ linked_value c.symbols half y
  unfolding linked_value
  part_is half y = ap (λ (z : Symbol → ℕ). immediate_value half (linked_immediate z half y)) h.same_symbols

  -- ---- memory

  own_aligned : (f.size - area_of f.objects) % 8 ≡ 0
  own_aligned = let a = framed.aligned in let b = framed.room in omega (arith, a, b)

  -- a slot's bytes lie in the frame, below the stack objects
  pub slot_room : (o : ℕ) → IsSlotOffset f o → (frame_low f c + o) + 8 ≤ c.entry - area_of f.objects
  slot_room o is =
      let a = own_aligned in
      let x = is.0 in
      let y = is.1 in
      let s = framed.small in
      let b = framed.room in
      let r = h.room in
      omega (arith, a, b, x, y, s, r)

  pub slot_byte : (o j : ℕ) → IsSlotOffset f o → j < 8 → in_frame c.entry c.area (((frame_low f c + o) + j) % 2 ^ 64) ≡ true
  slot_byte o j is lt =
      let k = slot_room o is in
      let s = framed.small in
      let b = framed.room in
      let r = h.room in
      let t = h.top in
      let e = h.area in
      is_in_frame c.entry c.area (((frame_low f c + o) + j) % 2 ^ 64) (omega (arith, k, s, b, r, t, lt)) (omega (arith, k, s, b, r, t, lt, e))

  pub not_both : (b : Bool) → b ≡ true → b ≡ false → ⊥
  not_both true e n = cc
  not_both false e n = cc

  -- a load outside the frame
  loads_alike : (a n : ℕ) → touches_frame c.entry c.area a n ≡ false → spelled m.memory a n ≡ spelled c.memory a n
  loads_alike a n e = spelled_alike m.memory c.memory n a (λ j lt. h.memory ((a + j) % 2 ^ 64) (untouched c.entry c.area n a e j lt))

  stored_alike : (bytes : List ℕ) (x y : ℕ → ℕ) (a b : ℕ) → x b ≡ y b → stored x a bytes b ≡ stored y a bytes b
  stored_alike [] x y a b e = e
  stored_alike (v ∷ bytes) x y a b e = stored_alike bytes (λ q. cond (nat_eq q (a % 2 ^ 64)) v (x q)) (λ q. cond (nat_eq q (a % 2 ^ 64)) v (y q)) (a + 1) b
      (ap (λ (z : ℕ). cond (nat_eq b (a % 2 ^ 64)) v z) e)

  low_byte : (n v a b : ℕ) (x : ℕ → ℕ) → x b < 256 → stored x a (low_bytes n v) b < 256
  low_byte zero v a b x lt = lt
  low_byte (suc n) v a b x lt = low_byte n (v / 256) (a + 1) b (λ q. cond (nat_eq q (a % 2 ^ 64)) (v % 256) (x q)) (by_test (nat_eq b (a % 2 ^ 64))) where
    by_test : (z : Bool) → cond z (v % 256) (x b) < 256
    by_test true = omega arith
    by_test false = lt

  shown_outside : (a n v : ℕ) → touches_frame c.entry c.area a n ≡ false →
      shown_store a (low_bytes n v) m ≡ Rattle.sem_mir.specs.State.Wrote a (low_bytes n v) ∷ c.events
  shown_outside a n v e =
      let bs = low_bytes n v in
      let t : touches_frame m.entry m.area a (length bs) ≡ false =
      ap (λ (z : ℕ). touches_frame z m.area a (length bs)) h.same_entry ∙ ap (λ (z : ℕ). touches_frame c.entry z a (length bs)) h.same_area
      ∙ ap (touches_frame c.entry c.area a) (length_low n v) ∙ e in
      ap (λ (z : Bool). cond z m.events (Rattle.sem_mir.specs.State.Wrote a bs ∷ m.events)) t
      ∙ ap (λ (es : List Rattle.sem_mir.specs.State.Event). Rattle.sem_mir.specs.State.Wrote a bs ∷ es) h.events

  -- a store outside the frame
  beside_stored : (a n v : ℕ) → touches_frame c.entry c.area a n ≡ false →
      Beside f (saved a (low_bytes n v) c) (past 4 (store a (low_bytes n v) m))
  beside_stored a n v e = record {
    room = h.room;
    top = h.top;
    area = h.area;
    objects = h.objects;
    written = h.written;
    same_entry = h.same_entry;
    same_area = h.same_area;
    same_symbols = h.same_symbols;
    regs = h.regs;
    memory = λ b out. stored_alike (low_bytes n v) m.memory c.memory a b (h.memory b out);
    bytes = λ b. low_byte n v a b m.memory (h.bytes b);
    slots = λ o x is s. h.slots o x is s ∙ sym (stored_elsewhere m.memory (low_bytes n v) a 8 (frame_low f c + o)
        (λ i j il jl q.
        let l = length_low n v in
        let jn : j < n = rw l at jl in
        not_both (in_frame c.entry c.area ((a + j) % 2 ^ 64)) (ap (in_frame c.entry c.area) (sym q) ∙ slot_byte o i is il)
        (untouched c.entry c.area n a e j jn)));
    script = h.script;
    events = shown_outside a n v e;
  }

  store_by : (target a n v b w : ℕ) (fault : Bool) → (fault ≡ false → touches_frame c.entry c.area a n ≡ false) → b ≡ a → w ≡ v →
      FollowsRow f target m (cond fault Traps (Falls (saved a (low_bytes n v) c))) (Continues (past 4 (store b (low_bytes n w) m)))
  store_by target a n v b w true t e q = tt
  store_by target a n v b w false t e q = (
    past 4 (store a (low_bytes n v) m),
    ap (λ (x : ℕ). Continues (past 4 (store x (low_bytes n w) m))) e ∙ ap (λ (x : ℕ). Continues (past 4 (store a (low_bytes n x) m))) q,
    refl,
    beside_stored a n v (t refl),
  )

  load_by : (target rd : ℕ) (op : LoadOp) (a b n : ℕ) (fault : Bool) → (fault ≡ false → touches_frame c.entry c.area a n ≡ false) → b ≡ a →
      FollowsRow f target m (cond fault Traps (Falls (source.set_register rd (extended op (spelled c.memory a n)) c)))
      (Continues (past 4 (set_register rd (extended op (spelled m.memory b n)) m)))
  load_by target rd op a b n true t e = tt
  load_by target rd op a b n false t e =
      sets_to target rd (extended op (spelled c.memory a n)) (extended op (spelled m.memory b n))
      (ap (λ (x : ℕ). extended op (spelled m.memory x n)) e ∙ ap (extended op) (loads_alike a n (t refl)))

  -- ---- what is found by x2

  module _ (pointer : read c 2 ≡ frame_low f c) where
    pointed : register m 2 ≡ frame_low f c
    pointed = h.regs 2 ∙ pointer

    -- a stack object's address plus a number
    object_pointed : (n offset : ℕ) → (address_of m 2 (from_object (own_size f + offset_of f.objects n) offset)) ≡ address_at c (ObjectAt n) offset
    object_pointed n offset =
        let p = pointed in
        let e = h.objects n in
        let a = h.area in
        let b = framed.room in
        let s = framed.small in
        let r = h.room in
        let x = offset_of f.objects n in
        let k : (register m 2 + ((f.size - area_of f.objects + x) + offset) % 2 ^ 64) % 2 ^ 64 ≡ ((c.entry + (2 ^ 64 - c.area) + c.objects n) % 2 ^ 64 +
        offset) % 2 ^ 64 =
        omega (arith, p, e, a, b, s, r) in k

    object_bytes : (n offset w : ℕ) → HasBytes f.objects n (offset + w) → touches_frame c.entry c.area (address_at c (ObjectAt n) offset) w ≡ false
    object_bytes n offset w bytes =
        let low : offset_of f.objects n + (offset + w) ≤ 2032 = (let within = bytes_within f.objects n (offset + w) bytes in
        let reach = framed.reach in omega (arith, within, reach)) in
        let area : c.area ≤ 2032 = (let a = h.area in let b = framed.room in let s = framed.small in omega (arith, a, b, s)) in
        not_touched c.entry c.area w (address_at c (ObjectAt n) offset) (λ j lt.
        beyond_area c.entry c.area (c.objects n) offset j h.room h.top area
        (let e = h.objects n in omega (arith, low, e, lt)))

    slot_address : (o : ℕ) → IsSlotOffset f o → address_of m 2 (word (pos o)) ≡ frame_low f c + o
    slot_address o is =
        let p = pointed in
        let k = slot_room o is in
        let r = h.room in
        let t = h.top in
        let q : (register m 2 + o % 2 ^ 64) % 2 ^ 64 ≡ frame_low f c + o = omega (arith, p, k, r, t) in q

    -- a slot that is stored: its bytes spell it, and those of another slot stay
    slot_stored : (n v : ℕ) → IsSlotOffset f n → v < 2 ^ 64 →
        Beside f (record c { slots = Rattle.sem_mir.specs.State.updated n (Some v) c.slots })
        (past 4 (store (frame_low f c + n) (low_bytes 8 v) m))
    slot_stored n v is small = record {
      room = h.room;
      top = h.top;
      area = h.area;
      objects = h.objects;
      written = h.written;
      same_entry = h.same_entry;
      same_area = h.same_area;
      same_symbols = h.same_symbols;
      regs = h.regs;
      memory = λ b out. stored_other (low_bytes 8 v) m.memory a b (λ j jl q.
          let l = length_low 8 v in
          let jn : j < 8 = rw l at jl in
          not_both (in_frame c.entry c.area b) (ap (in_frame c.entry c.area) q ∙ slot_byte n j is jn) out)
          ∙ h.memory b out;
      bytes = λ b. low_byte 8 v a b m.memory (h.bytes b);
      slots = λ o x ix s. by_slot o x ix (cases_eq o n) s;
      script = h.script;
      events = ap (λ (z : Bool). cond z m.events (Rattle.sem_mir.specs.State.Wrote a (low_bytes 8 v) ∷ m.events)) touches_it ∙ h.events;
    } where
      a : ℕ
      a = frame_low f c + n

      touches_it : touches_frame m.entry m.area a (length (low_bytes 8 v)) ≡ true
      touches_it =
          let z : a + 0 ≡ a = omega arith in
          ap (λ (e : ℕ). touches_frame e m.area a (length (low_bytes 8 v))) h.same_entry
          ∙ ap (λ (e : ℕ). touches_frame c.entry e a (length (low_bytes 8 v))) h.same_area
          ∙ ap (touches_frame c.entry c.area a) (length_low 8 v)
          ∙ touched c.entry c.area 7 a (ap (λ (e : ℕ). in_frame c.entry c.area (e % 2 ^ 64)) (sym z) ∙ slot_byte n 0 is (omega arith))

      ends : a + 8 ≤ 2 ^ 64
      ends = let k = slot_room n is in let t = h.top in omega (arith, k, t)

      by_slot : (o x : ℕ) → IsSlotOffset f o → (o ≡ n) ⊎ (o ≡ n → ⊥) → cond (nat_eq o n) (Some v) (c.slots o) ≡ Some x →
          x ≡ spelled (stored m.memory a (low_bytes 8 v)) (frame_low f c + o) 8
      by_slot o x ix (inl e) s =
          let t : nat_eq o n ≡ true = eq-eqb o n e in
          let got : Some v ≡ Some x = sym (ap (λ (z : Bool). cond z (Some v) (c.slots o)) t) ∙ s in
          let same : v ≡ x = cc in
          sym same ∙ sym (stored_spelled m.memory 8 a v ends small) ∙ ap (λ (k : ℕ). spelled (stored m.memory a (low_bytes 8 v)) (frame_low f c + k) 8) (sym e)
      by_slot o x ix (inr ne) s =
          let t : nat_eq o n ≡ false = ne_eqb o n ne in
          let got : c.slots o ≡ Some x = sym (ap (λ (z : Bool). cond z (Some v) (c.slots o)) t) ∙ s in
          let mine = slot_room n is in
          let other = slot_room o ix in
          let top = h.top in
          let m8 = is.0 in
          let o8 = ix.0 in
          h.slots o x ix got ∙ sym (stored_elsewhere m.memory (low_bytes 8 v) a 8 (frame_low f c + o) (λ i j il jl q.
          let l = length_low 8 v in
          let jn : j < 8 = rw l at jl in
          absurd (ne (omega (arith, mine, other, top, m8, o8, il, jn, q)))))

  pub below : (x : Option ℕ) → ((v : ℕ) → x ≡ Some v → v < 2 ^ 64) → or_zero x < 2 ^ 64
  below None k = omega arith
  below (Some v) k = k v refl

  pub read_below : IsInRange c → (r : ℕ) → read c r < 2 ^ 64
  read_below range r = below (content c.regs r) (range.regs r)

  -- `ADDI rd, rs, k`
  adds_from : (target rd a k v : ℕ) → register m a < 2 ^ 64 → k < 2 ^ 64 → (register m a + k) % 2 ^ 64 ≡ v →
      FollowsRow f target m (Falls (source.set_register rd v c)) (machine.does (Does (add_row rd a k)) m)
  unfolding does_row computed
  adds_from target rd zero k v low small e = sets_to target rd v k (omega (arith, small, e))
  adds_from target rd (suc a) zero v low small e = sets_to target rd v (register m (suc a)) (omega (arith, low, e))
  adds_from target rd (suc a) (suc k) v low small e = sets_to target rd v ((register m (suc a) + suc k) % 2 ^ 64) e

  -- the upper half of an address, added to 0
  upper_by : (target rd a : ℕ) (op : RegisterOp) (y : LinkedAddress) → (op ≡ Add) × (a ≡ 0) →
      FollowsRow f target m (Falls (source.set_register rd (computed op (read c a) (linked_value c.symbols Upper y)) c))
      (Continues (past 4 (set_register rd (immediate_value Upper (linked_immediate m.symbols Upper y)) m)))
  unfolding computed
  upper_by target rd a op y (add, none) =
      let v = linked_value c.symbols Upper y in
      let low : v < 2 ^ 64 = linked_in_range c.symbols Upper y in
      let sum : v ≡ (0 + v) % 2 ^ 64 = omega (arith, low) in
      sets_to target rd (computed op (read c a) v) (immediate_value Upper (linked_immediate m.symbols Upper y))
      (part_is Upper y ∙ sum ∙ (λ i. computed (sym add i) (read c (sym none i)) v))

  -- the lower half of an address, added to a register's content
  lower_by : IsInRange c → (target rd a : ℕ) (op : RegisterOp) (y : LinkedAddress) → op ≡ Add →
      FollowsRow f target m (Falls (source.set_register rd (computed op (read c a) (linked_value c.symbols Lower y)) c))
      (machine.does (Does (add_row rd a (immediate_value Lower (linked_immediate m.symbols Lower y)))) m)
  unfolding computed
  lower_by range target rd a op y add =
      let k = immediate_value Lower (linked_immediate m.symbols Lower y) in
      let same : k ≡ linked_value c.symbols Lower y = part_is Lower y in
      let wide : linked_value c.symbols Lower y < 2 ^ 64 = linked_in_range c.symbols Lower y in
      let here = h.regs a in
      let low = read_below range a in
      adds_from target rd a k (computed op (read c a) (linked_value c.symbols Lower y)) (omega (arith, here, low)) (omega (arith, same, wide))
      ((λ i. (here i + same i) % 2 ^ 64) ∙ (λ i. computed (sym add i) (read c a) (linked_value c.symbols Lower y)))

  -- an address beside the lower half of an address
  beside_by : (r offset : ℕ) (y : LinkedAddress) →
      address_of m r (from_part (linked_immediate m.symbols Lower y) offset) ≡ address_at c (BesidePart r y) offset
  beside_by r offset y =
      let here = h.regs r in
      let same = part_is Lower y in
      let k : (register m r + (immediate_value Lower (linked_immediate m.symbols Lower y) + offset) % 2 ^ 64) % 2 ^ 64
      ≡ ((read c r + linked_value c.symbols Lower y) % 2 ^ 64 + offset) % 2 ^ 64 = omega (arith, here, same) in k

  slot_by : (target rd a : ℕ) (x : Option ℕ) → ((v : ℕ) → x ≡ Some v → v ≡ spelled m.memory a 8) →
      FollowsRow f target m (slot_loaded rd c x) (Continues (past 4 (set_register rd (spelled m.memory a 8) m)))
  slot_by target rd a None e = tt
  slot_by target rd a (Some v) e = sets_to target rd v (spelled m.memory a 8) (sym (e v refl))

  branch_by : (target : ℕ) (b b' : Bool) (n : ℕ) → b ≡ b' → FollowsRow f target m (cond b (Goes n c) (Falls c)) (Continues (cond b' (at target m) (past 4 m)))
  branch_by target true true n e = (refl, beside_at target)
  branch_by target false false n e = (past 4 m, refl, refl, beside_at (m.counter + 4))
  branch_by target true false n e = cc
  branch_by target false true n e = cc

  offset_of_slot : (o : ℕ) → Contains (slot_offsets f) o → IsSlotOffset f o
  offset_of_slot o k = All-contains (IsSlotOffset f) (slot_offsets f) o framed.offsets k

  -- what a word does is what its code does
  pub rows : (target : ℕ) (r : Row) → IsWordRow r → AddsPart r → RowInRange r → IsInRange c → (NeedsFrame r → read c 2 ≡ frame_low f c) →
      SlotIn (slot_offsets f) r → ObjectIn f.objects r →
      FollowsRow f target m (does r c) (machine.does (placed target (object_offset f (object_named r)) (immediate_of m.symbols r) r) m)
  unfolding does does_row computed extended
  rows target (Fixes rd n) w q k range p s o = sets_to target rd n n refl
  rows target (Moves rd rs) w q k range p s o = sets_to target rd (read c rs) (register m rs) (h.regs rs)
  rows target (Sets rd op a (Content b)) w q k range p s o =
      sets_to target rd (computed op (read c a) (read c b)) (computed op (register m a) (register m b))
      (ap (λ (x : ℕ). computed op x (register m b)) (h.regs a) ∙ ap (computed op (read c a)) (h.regs b))
  rows target (Sets rd op a (Number n)) w q k range p s o =
      sets_to target rd (computed op (read c a) n) (computed op (register m a) n) (ap (λ (x : ℕ). computed op x n) (h.regs a))
  rows target (Sets rd op a (PartOf Upper y)) w q k range p s o = upper_by target rd a op y q
  rows target (Sets rd op a (PartOf Lower y)) w q k range p s o = lower_by range target rd a op y q
  rows target (Addresses rd n offset) w q k range p s o =
      let z = p tt in
      adds_from target rd 2 (from_object (own_size f + offset_of f.objects n) offset) (address_at c (ObjectAt n) offset)
      (let e = pointed z in let t = h.top in omega (arith, e, t)) (omega arith) (object_pointed z n offset)
  rows target (Loads rd op (PointedBy r) offset) w q k range p s o =
      load_by target rd op (address_at c (PointedBy r) offset) (address_of m r offset) (load_width op)
      (touches_frame c.entry c.area (address_at c (PointedBy r) offset) (load_width op)) (λ e. e) (ap (λ (x : ℕ). (x + offset) % 2 ^ 64) (h.regs r))
  rows target (Loads rd op (ObjectAt n) offset) w q k range p s o =
      let z = p tt in
      load_by target rd op (address_at c (ObjectAt n) offset) (address_of m 2 (from_object (own_size f + offset_of f.objects n) offset)) (load_width op) false
      (λ e. object_bytes z n offset (load_width op) o) (object_pointed z n offset)
  rows target (Loads rd op (BesidePart r y) offset) w q k range p s o =
      load_by target rd op (address_at c (BesidePart r y) offset) (address_of m r (from_part (linked_immediate m.symbols Lower y) offset)) (load_width op)
      (touches_frame c.entry c.area (address_at c (BesidePart r y) offset) (load_width op)) (λ e. e) (beside_by r offset y)
  rows target (Stores op rs (PointedBy r) offset) w q k range p s o =
      store_by target (address_at c (PointedBy r) offset) (store_width op) (read c rs) (address_of m r offset) (register m rs)
      (touches_frame c.entry c.area (address_at c (PointedBy r) offset) (store_width op)) (λ e. e) (ap (λ (x : ℕ). (x + offset) % 2 ^ 64) (h.regs r)) (h.regs
      rs)
  rows target (Stores op rs (ObjectAt n) offset) w q k range p s o =
      let z = p tt in
      store_by target (address_at c (ObjectAt n) offset) (store_width op) (read c rs)
      (address_of m 2 (from_object (own_size f + offset_of f.objects n) offset)) (register m rs) false
      (λ e. object_bytes z n offset (store_width op) o) (object_pointed z n offset) (h.regs rs)
  rows target (Stores op rs (BesidePart r y) offset) w q k range p s o =
      store_by target (address_at c (BesidePart r y) offset) (store_width op) (read c rs)
      (address_of m r (from_part (linked_immediate m.symbols Lower y) offset))
      (register m rs) (touches_frame c.entry c.area (address_at c (BesidePart r y) offset) (store_width op)) (λ e. e) (beside_by r offset y) (h.regs rs)
  rows target (LoadsSlot rd n) w q k range p s o =
      let z = p tt in
      let is = offset_of_slot n s in
      subst (λ (a : ℕ). FollowsRow f target m (slot_loaded rd c (c.slots n)) (Continues (past 4 (set_register rd (spelled m.memory a 8) m))))
      (sym (slot_address z n is)) (slot_by target rd (frame_low f c + n) (c.slots n) (λ v e. h.slots n v is e))
  rows target (StoresSlot rs n) w q k range p s o =
      let z = p tt in
      let is = offset_of_slot n s in (
        past 4 (store (frame_low f c + n) (low_bytes 8 (read c rs)) m),
        ap (λ (a : ℕ). Continues (past 4 (store a (low_bytes 8 (register m rs)) m))) (slot_address z n is)
            ∙ ap (λ (v : ℕ). Continues (past 4 (store (frame_low f c + n) (low_bytes 8 v) m))) (h.regs rs),
        refl,
        slot_stored z n (read c rs) is (read_below range rs),
      )
  rows target (Branches op a b n) w q k range p s o =
      branch_by target (taken op (read c a) (read c b)) (taken op (register m a) (register m b)) n
      (ap (λ (x : ℕ). taken op x (read c b)) (sym (h.regs a)) ∙ ap (taken op (register m a)) (sym (h.regs b)))
  rows target (Jumps n) w q k range p s o = (refl, beside_at target)
  rows target _ w q k range p s o = absurd w

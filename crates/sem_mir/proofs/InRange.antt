-- A run keeps its registers, slots and values below 2^64, and bytes in memory.
use Rattle.std.proofs.Common.{◌≡◌, ℕ, zero, suc, ◌+◌, ◌*◌, ◌/◌, ◌%◌, ◌^◌, ◌<◌, List, [], ◌∷◌, All, slice_get, Option, Some, None, Bool, true, false}
use Rattle.std.proofs.Common.{cond, nat_eq, refl, sym, ap, ◌∙◌, subst, inl, inr, pow-suc, arith}
use Rattle.std.proofs.lemmas.Bool.{cases_lt}
use Rattle.std.proofs.lemmas.List.Elements.{All-head, All-tail}
use Rattle.mir_func.specs.rv64_instr.declared.op.Op.{Op}
use Rattle.mir_func.specs.rv64_instr.declared.op.Op.TheVariants.{Registers, Immediate, Lui, Branch, Load, Store, Copy}
use Rattle.mir_func.specs.rv64_instr.declared.op.Op.TheVariants.{PseudoBr, PseudoCall, PseudoRet, PseudoCallIndirect}
use Rattle.mir_func.specs.rv64_instr.declared.op.Op.TheVariants.{PseudoTail, PseudoTailIndirect, NoReturnCall, NoReturnCallIndirect}
use Rattle.mir_func.specs.rv64_instr.declared.op.ImmediateOp.{ImmediateOp}
use Rattle.mir_func.specs.rv64_instr.declared.op.ImmediateOp.TheVariants.{Addi}
use Rattle.mir_func.specs.rv64_instr.declared.op.LoadOp.{LoadOp}
use Rattle.mir_func.specs.rv64_instr.declared.op.LoadOp.TheVariants.{Lb, Lh, Lw, Ld, Lbu, Lhu, Lwu}
use Rattle.mir_func.specs.rv64_instr.declared.operand.Operand.{Operand}
use Rattle.mir_func.specs.rv64_instr.declared.operand.Operand.TheVariants.{Def, Use, Imm, Slot as SlotOperand, Object, Part, Block, Symbol}
use Rattle.mir_func.specs.rv64_instr.declared.place.Place.{Place}
use Rattle.mir_func.specs.rv64_instr.declared.place.Place.TheVariants.{Register, Slot, Const}
use Rattle.mir_func.specs.rv64_instr.Instruction.{Instruction}
use Rattle.mir_func.specs.rv64_instr.Arithmetic.{word, computed, extended, load_width, store_width, taken}
use Rattle.mir_func.specs.rv64_instr.Row.{Row, Fixes, Moves, Sets, Addresses, Loads, Stores, LoadsSlot, StoresSlot, Branches, Jumps, Calls, Returns, Unfit, row_of}
use Rattle.mir_func.specs.rv64_instr.Row.{row_by, move_row, immediate_row, object_row}
use Rattle.mir_func.specs.rv64_instr.Row.{Input, Content, Number, PartOf}
use Rattle.mir_func.specs.rv64_instr.Row.{ObjectAt, held_tail, held_gone, implicit_uses}
use Rattle.mir_func.specs.rv64_instr.DefsAndUses.{caller_saved, reads}
use Rattle.mir_func.specs.declared.debug_substitution.OperandPair.{OperandPair}
use Rattle.mir_func.specs.declared.object.Object.{Object as StackObject}
use Rattle.mir_func.specs.declared.position.Pos.{Pos}
use Rattle.mir_func.specs.declared.variable.VarId.{VarId}
use Rattle.mir_func.specs.declared.variable.MarkValue.{MarkValue}
use Rattle.mir_func.specs.declared.variable.MarkValue.TheVariants.{Nothing, Constant, At, Pair}
use Rattle.mir_func.specs.declared.item.ItemKind.{ItemKind}
use Rattle.mir_func.specs.declared.item.ItemKind.TheVariants.{Code, Mark, Phi}
use Rattle.sem_mir.specs.State.{Reply, Core, State, updated, content, put, put_all, spelled, low_bytes, stored, written, assigned}
use Rattle.sem_mir.specs.State.{IsReply, IsInRange}
use Rattle.mir_func.specs.Variables.{is_same, overlaps, part_value}
use Rattle.sem_mir.specs.Step.{Next, Went, Returned, Faulted, Waits, Lost, Outcome, Falls, Goes, Gives, Traps, Asks, Breaks, or_zero, read, input_value}
use Rattle.sem_mir.specs.Step.{base_value, address_at, is_fault, part_of, set_register, exec_external_call}
use Rattle.sem_mir.specs.Step.{slot_loaded, saved, does, are_written, act, seen, called_at, passed, call_faults}
use Rattle.sem_mir.specs.Step.{defined, given, numbered, with_core, place_value, pair_value, mark_value, do_item, do_fetch, moved, step, after, run}
use Rattle.mir_func.specs.rv64_instr.LocationEffects.{is_call}
use Rattle.mir_func.specs.rv64_instr.declared.start.CallTarget.{CallTarget}
use Rattle.mir_func.specs.Graph.{Program, Fetch, Here, EndOfBlock, Outside, below, block_start}
use Rattle.sem_mir.specs.InitialState.{IsInitialState}
use Rattle.sem_mir.specs.Effects.{OnCore}
use Rattle.sem_mir.proofs.Outcomes.{after_reply, on_either}
use Rattle.sem_mir.proofs.Places.{without_some}
use Rattle.sem_mir.proofs.Assignments.{part_below}
use Rattle.sem_mir.proofs.Range.{IsWord, reduced, word_in_range, extend32_in_range, computed_in_range, extended_in_range, linked_in_range}

-- the numbers of a row are below 2^64
abbrev pub InputInRange : Input → Type 0
InputInRange (Content r) = Unit {0}
InputInRange (Number n) = IsWord n
InputInRange (PartOf half y) = Unit {0}

abbrev pub RowInRange : Row → Type 0
RowInRange (Fixes rd n) = IsWord n
RowInRange (Sets rd op a b) = InputInRange b
RowInRange (Addresses rd n offset) = IsWord offset
RowInRange (Loads rd op base offset) = IsWord offset
RowInRange (Stores op rs base offset) = IsWord offset
RowInRange _ = Unit {0}

immediate_in_range : (op : ImmediateOp) (rd a n : ℕ) → IsWord n → RowInRange (immediate_row op rd a n)
immediate_in_range Addi rd zero n h = h
immediate_in_range Addi rd (suc r) zero h = tt
immediate_in_range Addi rd (suc r) (suc n) h = h
immediate_in_range _ rd a n h = h

object_in_range : (op : ImmediateOp) (rd n offset : ℕ) → IsWord offset → RowInRange (object_row op rd n offset)
object_in_range Addi rd n offset h = h
object_in_range _ rd n offset h = tt

move_in_range : (rd rs : ℕ) → RowInRange (move_row rd rs)
move_in_range rd zero = omega arith
move_in_range rd (suc r) = tt

held_tail_in_range : (xs : List ℕ) → RowInRange (held_tail xs)
held_tail_in_range [] = tt
held_tail_in_range (r ∷ xs) = tt

held_gone_in_range : (xs : List ℕ) → RowInRange (held_gone xs)
held_gone_in_range [] = tt
held_gone_in_range (r ∷ xs) = tt

by_op : (op : Op) (operands : List Operand) → RowInRange (row_by op operands)
by_op (Registers op) (Def rd ∷ Use a ∷ Use b ∷ rest) = tt
by_op (Immediate op) (Def rd ∷ Use a ∷ Imm i ∷ rest) = immediate_in_range op rd a (word i) (word_in_range i)
by_op (Immediate op) (Def rd ∷ Object n ∷ Imm i ∷ rest) = object_in_range op rd n (word i) (word_in_range i)
by_op (Immediate op) (Def rd ∷ Use a ∷ Part half y ∷ rest) = tt
by_op Lui (Def rd ∷ Imm i ∷ rest) = extend32_in_range _
by_op Lui (Def rd ∷ Part half y ∷ rest) = tt
by_op (Branch op) (Use a ∷ Use b ∷ Block target ∷ rest) = tt
by_op (Load op) (Def rd ∷ Use base ∷ Imm i ∷ rest) = word_in_range i
by_op (Load op) (Def rd ∷ SlotOperand n ∷ rest) = tt
by_op (Load op) (Def rd ∷ Object n ∷ Imm i ∷ rest) = word_in_range i
by_op (Load op) (Def rd ∷ Use base ∷ Part half y ∷ rest) = omega arith
by_op (Store op) (Use rs ∷ Use base ∷ Imm i ∷ rest) = word_in_range i
by_op (Store op) (Use rs ∷ SlotOperand n ∷ rest) = tt
by_op (Store op) (Use rs ∷ Object n ∷ Imm i ∷ rest) = word_in_range i
by_op (Store op) (Use rs ∷ Use base ∷ Part half y ∷ rest) = omega arith
by_op Copy (Def rd ∷ Use rs ∷ rest) = move_in_range rd rs
by_op PseudoBr (Block target ∷ rest) = tt
by_op PseudoCall (Symbol name ∷ rest) = tt
by_op PseudoRet rest = tt
by_op PseudoCallIndirect (Use r ∷ rest) = tt
by_op PseudoTail (Symbol name ∷ rest) = tt
by_op PseudoTailIndirect rest = held_tail_in_range (implicit_uses rest)
by_op NoReturnCall (Symbol name ∷ rest) = tt
by_op NoReturnCallIndirect rest = held_gone_in_range (implicit_uses rest)
by_op _ _ = tt

-- whatever the instruction
pub row_in_range : (i : Instruction) → RowInRange (row_of i)
row_in_range i = by_op i.op i.operands

-- registers, memory and tables of values
abbrev RegsInRange : (ℕ → Option ℕ) → Type 0
RegsInRange regs = (r v : ℕ) → content regs r ≡ Some v → IsWord v

abbrev HasBytes : (ℕ → ℕ) → Type 0
HasBytes m = (a : ℕ) → m a < 256

abbrev MaybeWord : Option ℕ → Type 0
MaybeWord x = (v : ℕ) → x ≡ Some v → IsWord v

read_in_range : (c : Core) → RegsInRange c.regs → (r : ℕ) → IsWord (read c r)
read_in_range c h r = by_content (content c.regs r) (h r) where
  by_content : (x : Option ℕ) → MaybeWord x → IsWord (or_zero x)
  by_content None k = omega arith
  by_content (Some v) k = k v refl

updated_in_range : (k : ℕ) (x : Option ℕ) (f : ℕ → Option ℕ) → MaybeWord x → ((q : ℕ) → MaybeWord (f q)) → (q : ℕ) → MaybeWord (updated k x f q)
updated_in_range k x f h hs q = by_test (nat_eq q k) where
  by_test : (z : Bool) → MaybeWord (cond z x (f q))
  by_test true = h
  by_test false = hs q

some_word : (v : ℕ) → IsWord v → MaybeWord (Some v)
some_word v h w e = let k : v ≡ w = cc in subst IsWord k h

put_in_range : (r v : ℕ) (regs : ℕ → Option ℕ) → IsWord v → RegsInRange regs → RegsInRange (put r v regs)
put_in_range zero v regs h hs = hs
put_in_range (suc r) v regs h hs = by_register where
  by_test : (q w : ℕ) (z : Bool) → cond z (Some v) (regs (suc q)) ≡ Some w → IsWord w
  by_test q w true e = some_word v h w e
  by_test q w false e = hs (suc q) w e

  by_register : RegsInRange (put (suc r) v regs)
  by_register zero w e = hs zero w e
  by_register (suc q) w e = by_test q w (nat_eq (suc q) (suc r)) e

put_all_in_range : (rs vs : List ℕ) (regs : ℕ → Option ℕ) → All IsWord vs → RegsInRange regs → RegsInRange (put_all rs vs regs)
put_all_in_range [] vs regs h hs = hs
put_all_in_range (r ∷ rs) [] regs h hs = put_all_in_range rs [] (put r 0 regs) h (put_in_range r 0 regs (omega arith) hs)
put_all_in_range (r ∷ rs) (v ∷ vs) regs h hs = put_all_in_range rs vs (put r v regs) (All-tail IsWord v vs h)
    (put_in_range r v regs (All-head IsWord v vs h) hs)

-- bytes spell a number below the power
pub spelled_below : (m : ℕ → ℕ) → ((a : ℕ) → m a < 256) → (n a : ℕ) → spelled m a n < 256 ^ n
spelled_below m h zero a = omega arith
spelled_below m h (suc n) a =
    let x = h (a % 2 ^ 64) in
    let y = spelled_below m h n (a + 1) in
    let e : 256 ^ suc n ≡ 256 ^ n * 256 = pow-suc 256 n in
    rw e (omega (arith, x, y))

spelled_in_range : (m : ℕ → ℕ) → HasBytes m → (op : LoadOp) (a : ℕ) → IsWord (spelled m a (load_width op))
spelled_in_range m h op a = by_op op where
  one : IsWord (spelled m a 1)
  one = let k = spelled_below m h 1 a in omega (arith, k)

  two : IsWord (spelled m a 2)
  two = let k = spelled_below m h 2 a in omega (arith, k)

  four : IsWord (spelled m a 4)
  four = let k = spelled_below m h 4 a in omega (arith, k)

  by_op : (op : LoadOp) → IsWord (spelled m a (load_width op))
  by_op Lb = one
  by_op Lbu = one
  by_op Lh = two
  by_op Lhu = two
  by_op Lw = four
  by_op Lwu = four
  by_op Ld = spelled_below m h 8 a

bytes_updated : (k b : ℕ) (m : ℕ → ℕ) → b < 256 → HasBytes m → HasBytes (updated k b m)
bytes_updated k b m h hs a = by_test (nat_eq a k) where
  by_test : (z : Bool) → cond z b (m a) < 256
  by_test true = h
  by_test false = hs a

stored_bytes : (n v a : ℕ) (m : ℕ → ℕ) → HasBytes m → HasBytes (stored m a (low_bytes n v))
stored_bytes zero v a m h = h
stored_bytes (suc n) v a m h = stored_bytes n (v / 256) (a + 1) (updated (a % 2 ^ 64) (v % 256) m) (bytes_updated (a % 2 ^ 64) (v % 256) m (omega arith) h)

written_bytes : (ws : List (ℕ × ℕ)) (m : ℕ → ℕ) → All (λ (w : ℕ × ℕ). (w.0 < 2 ^ 64) × (w.1 < 256)) ws → HasBytes m → HasBytes (written m ws)
written_bytes [] m h hs = hs
written_bytes (w ∷ ws) m h hs =
    let here = All-head (λ (w : ℕ × ℕ). (w.0 < 2 ^ 64) × (w.1 < 256)) w ws h in
    written_bytes ws (updated w.0 w.1 m) (All-tail (λ (w : ℕ × ℕ). (w.0 < 2 ^ 64) × (w.1 < 256)) w ws h) (bytes_updated w.0 w.1 m here.1 hs)

-- one field at a time
with_regs : (c : Core) (regs : ℕ → Option ℕ) → IsInRange c → RegsInRange regs → IsInRange (record c { regs = regs })
with_regs c regs h k = record { regs = k; slots = h.slots; memory = h.memory; script = h.script; pairs = h.pairs; marks = h.marks }

with_pairs : (c : Core) (pairs : ℕ → ℕ → Option ℕ) → IsInRange c → ((n o : ℕ) → MaybeWord (pairs n o)) → IsInRange (record c { pairs = pairs })
with_pairs c pairs h k = record { regs = h.regs; slots = h.slots; memory = h.memory; script = h.script; pairs = k; marks = h.marks }

set_in_range : (c : Core) (rd v : ℕ) → IsInRange c → IsWord v → IsInRange (set_register rd v c)
set_in_range c rd v h k = with_regs c (put rd v c.regs) h (put_in_range rd v c.regs k h.regs)

module _ (c : Core) (h : IsInRange c) where
  input_in_range : (b : Input) → InputInRange b → IsWord (input_value c b)
  input_in_range (Content r) k = read_in_range c h.regs r
  input_in_range (Number n) k = k
  input_in_range (PartOf half y) k = linked_in_range c.symbols half y

  does_in_range : (r : Row) → RowInRange r → OnCore IsInRange (does r c)
  unfolding does
  does_in_range (Fixes rd n) k = set_in_range c rd n h k
  does_in_range (Moves rd rs) k = set_in_range c rd (read c rs) h (read_in_range c h.regs rs)
  does_in_range (Sets rd op a b) k = set_in_range c rd (computed op (read c a) (input_value c b)) h (computed_in_range op (read c a) (input_value c b)
      (read_in_range c h.regs a) (input_in_range b k))
  does_in_range (Addresses rd n o) k = set_in_range c rd (address_at c (ObjectAt n) o) h (reduced (base_value c (ObjectAt n) + o))
  does_in_range (Loads rd op b o) k =
      let a = address_at c b o in
      let n = spelled c.memory a (load_width op) in
      on_either IsInRange (is_fault b c a (load_width op)) Traps (Falls (set_register rd (extended op n) c)) tt
      (set_in_range c rd (extended op n) h (extended_in_range op n (spelled_in_range c.memory h.memory op a)))
  does_in_range (Stores op rs b o) k =
      let a = address_at c b o in
      let w = store_width op in
      on_either IsInRange (is_fault b c a w) Traps (Falls (saved a (low_bytes w (read c rs)) c)) tt
      (record { regs = h.regs; slots = h.slots; memory = stored_bytes w (read c rs) a c.memory h.memory; script = h.script; pairs = h.pairs; marks = h.marks })
  does_in_range (LoadsSlot rd n) k = by_slot (c.slots n) (h.slots n) where
    by_slot : (x : Option ℕ) → MaybeWord x → OnCore IsInRange (slot_loaded rd c x)
    by_slot None k = tt
    by_slot (Some v) k = set_in_range c rd v h (k v refl)
  does_in_range (StoresSlot rs n) k = record {
    regs = h.regs;
    slots = updated_in_range n (Some (read c rs)) c.slots
        (some_word (read c rs) (read_in_range c h.regs rs)) h.slots;
    memory = h.memory;
    script = h.script;
    pairs = h.pairs;
    marks = h.marks;
  }
  does_in_range (Branches op a b t) k = on_either IsInRange (taken op (read c a) (read c b)) (Goes t c) (Falls c) h h
  does_in_range (Jumps t) k = h
  does_in_range (Calls call) k = by_script (called_at c call.callee) (passed c call) call.outgoing c.script h.script where
    by_script : (t : CallTarget) (vs os : List ℕ) (rs : List Reply) → All IsReply rs → OnCore IsInRange (exec_external_call t vs os c rs)
    by_script t vs os [] k = tt
    by_script t vs os (r ∷ rs) k =
        let is = All-head IsReply r rs k in
        on_either IsInRange (call_faults c os r) Traps (Falls (after_reply t vs os c r rs)) tt
        (record {
          regs = put_all_in_range caller_saved r.regs c.regs is.regs h.regs;
          slots = λ n v e. h.slots n v (without_some os n v c.slots e);
          memory = written_bytes r.writes c.memory is.writes h.memory;
          script = All-tail IsReply r rs k;
          pairs = h.pairs;
          marks = h.marks;
        })
  does_in_range (Returns v) k = tt
  does_in_range Unfit k = tt

  pub act_in_range : (r : Row) → RowInRange r → OnCore IsInRange (act r c)
  unfolding act
  act_in_range r k = on_either IsInRange (are_written c (reads r)) (does r c) Traps (does_in_range r k) tt

  seen_in_range : (sp : Bool) (r : ℕ) → MaybeWord (seen sp r c)
  seen_in_range true r v e = h.regs r v e
  seen_in_range false r v e = by_test (nat_eq r 2) v e where
    by_test : (z : Bool) → MaybeWord (cond z None (content c.regs r))
    by_test true v e = cc
    by_test false v e = h.regs r v e

  given_in_range : (sp : Bool) (r : Option ℕ) (old : Option ℕ) → MaybeWord old → MaybeWord (given sp r old c)
  given_in_range sp None old k = k
  given_in_range sp (Some r) old k = seen_in_range sp r

  place_in_range : (p : Option Place) → MaybeWord (place_value p c)
  place_in_range None v e = cc
  place_in_range (Some (Register r)) v e = seen_in_range false r v e
  place_in_range (Some (Slot n)) v e = h.slots n v e
  place_in_range (Some (Const z)) v e = some_word (word z) (word_in_range z) v e

  pair_in_range : (q : Option OperandPair) → MaybeWord (pair_value q c)
  pair_in_range None v e = cc
  pair_in_range (Some q) v e = h.pairs q.number q.operand v e

  mark_in_range : (g : Program) (m : MarkValue) → MaybeWord (mark_value g m c)
  mark_in_range g Nothing v e = cc
  mark_in_range g (Constant z) v e = some_word (word z) (word_in_range z) v e
  mark_in_range g (At r) v e = seen_in_range g.sees_pointer r v e
  mark_in_range g (Pair q) v e = pair_in_range (g.resolve q) v e

  row_updated : (k : ℕ) (x : ℕ → Option ℕ) → ((o : ℕ) → MaybeWord (x o)) → (n o : ℕ) → MaybeWord (updated k x c.pairs n o)
  row_updated k x hx n o = by_test (nat_eq n k) where
    by_test : (z : Bool) → MaybeWord (cond z x (c.pairs n) o)
    by_test true = hx o
    by_test false = h.pairs n o

part_in_range : (v : VarId) (x : Option ℕ) → MaybeWord x → MaybeWord (part_of v x)
part_in_range v None h n e = cc
part_in_range v (Some x) h n e = some_word (part_value v x) (part_below v x (2 ^ 64) (h x refl)) n e

numbered_in_range : (sp call : Bool) (n : Option ℕ) (os : List Operand) (c : Core) → IsInRange c → IsInRange (numbered sp call n os c)
numbered_in_range sp call None os c h = h
numbered_in_range sp call (Some k) os c h =
    with_pairs c _ h (row_updated c h k (λ o. given sp (defined call (slice_get os o)) (c.pairs k o) c)
    (λ o. given_in_range c h sp (defined call (slice_get os o)) (c.pairs k o) (h.pairs k o)))

with_in_range : (k : Core → Core) → ((c : Core) → IsInRange c → IsInRange (k c)) → (x : Outcome) → OnCore IsInRange x → OnCore IsInRange (with_core k x)
with_in_range k f (Falls c) h = f c h
with_in_range k f (Goes n c) h = f c h
with_in_range k f (Gives v) h = tt
with_in_range k f Traps h = tt
with_in_range k f Asks h = tt
with_in_range k f Breaks h = tt

pub item_in_range : (g : Program) (k : ItemKind) (c : Core) → IsInRange c → OnCore IsInRange (do_item g k c)
item_in_range g (Code i n) c h =
    with_in_range (numbered g.sees_pointer (is_call (row_of i)) n i.operands) (numbered_in_range g.sees_pointer (is_call (row_of i)) n i.operands)
    (act (row_of i) c) (act_in_range c h (row_of i) (row_in_range i))
item_in_range g (Mark v m) c h = record {
  regs = h.regs;
  slots = h.slots;
  memory = h.memory;
  script = h.script;
  pairs = h.pairs;
  marks =
      λ w. by_test w (is_same w v) (overlaps w v);
} where
  by_test : (w : VarId) (same over : Bool) → MaybeWord (cond same (part_of v (mark_value g m c)) (cond over None (assigned w c.marks)))
  by_test w true over x e = part_in_range v (mark_value g m c) (mark_in_range c h g m) x e
  by_test w false true x e = cc
  by_test w false false x e = h.marks w x e
item_in_range g (Phi p n) c h = with_pairs c _ h (row_updated c h n (updated 0 (place_value p c) (c.pairs n))
    (updated_in_range 0 (place_value p c) (c.pairs n) (place_in_range c h p) (h.pairs n)))

fetched_in_range : (g : Program) (x : Fetch) (c : Core) → IsInRange c → OnCore IsInRange (do_fetch g x c)
fetched_in_range g (Here i) c h = item_in_range g i.kind c h
fetched_in_range g (EndOfBlock k n) c h = h
fetched_in_range g Outside c h = tt

moved_in_range : (enter : ℕ → ℕ) (p : Pos) (x : Outcome) (t : State) → OnCore IsInRange x → moved enter p x ≡ Went t → IsInRange t.core
moved_in_range enter p (Falls c) t h e = let made : State = record { pos = below p; core = c } in let w : made ≡ t = cc in
    subst (λ (z : State). IsInRange z.core) w h
moved_in_range enter p (Goes n c) t h e = let made : State = record { pos = block_start (enter n); core = c } in let w : made ≡ t = cc in
    subst (λ (z : State). IsInRange z.core) w h
moved_in_range enter p (Gives v) t h e = cc
moved_in_range enter p Traps t h e = cc
moved_in_range enter p Asks t h e = cc
moved_in_range enter p Breaks t h e = cc

pub step_in_range : (g : Program) (s t : State) → IsInRange s.core → step g s ≡ Went t → IsInRange t.core
step_in_range g s t h e = moved_in_range g.enter s.pos (do_fetch g (g.fetch s.pos) s.core) t (fetched_in_range g (g.fetch s.pos) s.core h) e

pub run_in_range : (g : Program) (n : ℕ) (s t : State) → IsInRange s.core → run g n s ≡ Went t → IsInRange t.core
run_in_range g zero s t h e = let w : s ≡ t = cc in subst (λ (z : State). IsInRange z.core) w h
run_in_range g (suc n) s t h e = by_step (step g s) refl e (λ u go. run_in_range g n u t (step_in_range g s u h go)) where
  by_step : (x : Next) → step g s ≡ x → after x (run g n) ≡ Went t → ((u : State) → step g s ≡ Went u → run g n u ≡ Went t → IsInRange t.core) →
      IsInRange t.core
  by_step (Went u) go e ih = ih u go e
  by_step (Returned v) go e ih = cc
  by_step Faulted go e ih = cc
  by_step Waits go e ih = cc
  by_step Lost go e ih = cc

-- a start is in range
pub start_in_range : (stack : List StackObject) (first : ℕ) (s : State) → IsInitialState stack first s → IsInRange s.core
start_in_range stack first s st = record {
  regs = λ r v e. elim (cases_lt r 32) as (λ z. IsWord v) [
    | inl lt ↦ (let k = st.regs r lt in let w : Some k.0 ≡ Some v = sym k.1 ∙ e in let x : k.0 ≡ v = cc in subst IsWord x k.2)
    | inr ge ↦ (let bad : None ≡ Some v = sym (st.virtual r ge) ∙ e in cc)
  ];
  slots = λ n v e. (let bad : None ≡ Some v = sym (st.slots n) ∙ e in cc);
  memory = st.memory;
  script = st.script;
  pairs = λ k o v e. (let bad : None ≡ Some v = sym (st.pairs k o) ∙ e in cc);
  marks = λ v x e. (let bad : None ≡ Some x = ap (assigned v) (sym st.marks) ∙ e in cc);
}

-- The frame of a sound function stands at each state of each run, and what it has to give back it gives back.
use Rattle.std.proofs.Common.{◌≡◌, ℕ, zero, suc, ◌-◌, List, [], ◌∷◌, All, Contains, Option, Some, None, Bool, true, false, cond, nat_eq, ◌&&◌, ◌||◌}
use Rattle.std.proofs.Common.{not, refl, sym, ap, ◌∙◌, subst, get_or, arith}
use Rattle.std.specs.List.{list_any}
use Rattle.std.proofs.lemmas.Bool.{ne_eqb}
use Rattle.std.proofs.lemmas.List.Elements.{All-nil, All-cons, All-head, All-contains, All-contains_itself, All-weaker, Contains-get_or}
use Rattle.rv64_instr.specs.declared.op.Op.{Op}
use Rattle.rv64_instr.specs.declared.op.Op.TheVariants.{Registers, Immediate, Lui, Branch, Load, Store, Copy}
use Rattle.rv64_instr.specs.declared.op.Op.TheVariants.{PseudoBr, PseudoCall, PseudoRet, PseudoCallIndirect}
use Rattle.rv64_instr.specs.declared.op.Op.TheVariants.{PseudoTail, PseudoTailIndirect, NoReturnCall, NoReturnCallIndirect}
use Rattle.rv64_instr.specs.declared.op.ImmediateOp.{ImmediateOp}
use Rattle.rv64_instr.specs.declared.op.ImmediateOp.TheVariants.{Addi}
use Rattle.rv64_instr.specs.declared.operand.Operand.{Operand}
use Rattle.rv64_instr.specs.declared.operand.Operand.TheVariants.{Def, Use, Imm, Slot, Object, Part, Block as ToBlock, Symbol}
use Rattle.rv64_instr.specs.Arithmetic.{word, taken, load_width, store_width}
use Rattle.rv64_instr.specs.Row.{Row, Loads, Stores, LoadsSlot, Branches, Calls, Returns, row_of, CallSite}
use Rattle.rv64_instr.specs.Row.{row_by, move_row, immediate_row, object_row, way_leads_back, Way, Callee}
use Rattle.rv64_instr.specs.Row.{Back, Tail, Never, implicit_uses, held_tail, held_gone}
use Rattle.rv64_instr.specs.DefsAndUses.{reads, sets}
use Rattle.rv64_instr.specs.declared.start.CallTarget.{CallTarget}
use Rattle.mir_func.specs.declared.block.Block.{Block}
use Rattle.mir_func.specs.declared.debug_substitution.OperandPair.{OperandPair}
use Rattle.mir_func.specs.declared.item.Item.{Item}
use Rattle.mir_func.specs.declared.item.ItemKind.{ItemKind}
use Rattle.mir_func.specs.declared.item.ItemKind.TheVariants.{Code, Mark, Phi}
use Rattle.mir_func.specs.declared.position.Pos.{Pos}
use Rattle.mir_func.specs.declared.framed.SavedRegister.{SavedRegister}
use Rattle.mir_func.specs.Exits.{row_leads_back, leads_back}
use Rattle.mir_func.specs.Function.{Function}
use Rattle.mir_func.specs.Graph.{Program, Fetch, Here, EndOfBlock, Outside, block_start, from_block, framed_program, is_return, rest_in, rest_of}
use Rattle.mir_func.specs.Sound.{IsNotPointer, LeavesPointer, SlotsIn, LastCloses, IsSound}
use Rattle.mir_func.specs.SoundFrame.{SAVED}
use Rattle.sem_mir.specs.State.{Core, State, Reply, content, RunResult}
use Rattle.sem_mir.specs.Step.{Outcome, Falls, Goes, Gives, Traps, Asks, Breaks, Returned, act, does, read, or_zero, are_written, with_core, moved, called_at}
use Rattle.sem_mir.specs.Step.{address_at, is_fault, slot_loaded, passed, call_faults, exec_external_call, do_item, do_fetch, step, way_at}
use Rattle.sem_mir.proofs.Reading.{found_in}
use Rattle.frame_rule.specs.Rule.{never_returns, sets_register, saved_of, framed_of}
use Rattle.frame_proof.specs.Stands.{is_as_found, frame_state, FrameState, FrameStands, FrameAlwaysStands, FrameGivesBack}
use Rattle.frame_rule.proofs.Saved.{all_given, set_is_saved}
use Rattle.frame_proof.proofs.Blocks.{drop_zero}
use Rattle.frame_proof.proofs.Standing.{IsTame, part_after, part_start}
use Rattle.frame_proof.proofs.Positions.{stands_by, or_true}

-- ---- x2 isn't set where no explicit operand is x2

abbrev SetsNo : Row → Type 0
SetsNo r = list_any (nat_eq 2) (sets r) ≡ false

one : (rd : ℕ) → (rd ≡ 2 → ⊥) → (nat_eq 2 rd || false) ≡ false
one rd ne = let w = ne_eqb 2 rd (λ e. ne (sym e)) in λ i. w i || false

defines : (rd : ℕ) (rest : List Operand) → All IsNotPointer (Def rd ∷ rest) → (nat_eq 2 rd || false) ≡ false
defines rd rest h = one rd (All-head IsNotPointer (Def rd) rest h)

immediate_sets : (op : ImmediateOp) (rd a n : ℕ) → (nat_eq 2 rd || false) ≡ false → SetsNo (immediate_row op rd a n)
immediate_sets Addi rd zero n h = h
immediate_sets Addi rd (suc r) zero h = h
immediate_sets Addi rd (suc r) (suc n) h = h
immediate_sets _ rd a n h = h

object_sets : (op : ImmediateOp) (rd n o : ℕ) → (nat_eq 2 rd || false) ≡ false → SetsNo (object_row op rd n o)
object_sets Addi rd n o h = h
object_sets _ rd n o h = refl

move_sets : (rd rs : ℕ) → (nat_eq 2 rd || false) ≡ false → SetsNo (move_row rd rs)
move_sets rd zero h = h
move_sets rd (suc r) h = h

held_tail_sets : (xs : List ℕ) → SetsNo (held_tail xs)
held_tail_sets [] = refl
held_tail_sets (r ∷ xs) = refl

held_gone_sets : (xs : List ℕ) → SetsNo (held_gone xs)
held_gone_sets [] = refl
held_gone_sets (r ∷ xs) = refl

sets_by : (op : Op) (os : List Operand) → All IsNotPointer os → SetsNo (row_by op os)
sets_by (Registers op) (Def rd ∷ Use a ∷ Use b ∷ rest) h = defines rd (Use a ∷ Use b ∷ rest) h
sets_by (Immediate op) (Def rd ∷ Use a ∷ Imm i ∷ rest) h = immediate_sets op rd a (word i) (defines rd (Use a ∷ Imm i ∷ rest) h)
sets_by (Immediate op) (Def rd ∷ Object n ∷ Imm i ∷ rest) h = object_sets op rd n (word i) (defines rd (Object n ∷ Imm i ∷ rest) h)
sets_by (Immediate op) (Def rd ∷ Use a ∷ Part half y ∷ rest) h = defines rd (Use a ∷ Part half y ∷ rest) h
sets_by Lui (Def rd ∷ Imm i ∷ rest) h = defines rd (Imm i ∷ rest) h
sets_by Lui (Def rd ∷ Part half y ∷ rest) h = defines rd (Part half y ∷ rest) h
sets_by (Branch op) (Use a ∷ Use b ∷ ToBlock target ∷ rest) h = refl
sets_by (Load op) (Def rd ∷ Use base ∷ Imm i ∷ rest) h = defines rd (Use base ∷ Imm i ∷ rest) h
sets_by (Load op) (Def rd ∷ Slot n ∷ rest) h = defines rd (Slot n ∷ rest) h
sets_by (Load op) (Def rd ∷ Object n ∷ Imm i ∷ rest) h = defines rd (Object n ∷ Imm i ∷ rest) h
sets_by (Load op) (Def rd ∷ Use base ∷ Part half y ∷ rest) h = defines rd (Use base ∷ Part half y ∷ rest) h
sets_by (Store op) (Use rs ∷ Use base ∷ Imm i ∷ rest) h = refl
sets_by (Store op) (Use rs ∷ Slot n ∷ rest) h = refl
sets_by (Store op) (Use rs ∷ Object n ∷ Imm i ∷ rest) h = refl
sets_by Copy (Def rd ∷ Use rs ∷ rest) h = move_sets rd rs (defines rd (Use rs ∷ rest) h)
sets_by PseudoBr (ToBlock target ∷ rest) h = refl
sets_by PseudoCall (Symbol name ∷ rest) h = refl
sets_by PseudoRet os h = refl
sets_by PseudoCallIndirect (Use r ∷ rest) h = refl
sets_by PseudoTail (Symbol name ∷ rest) h = refl
sets_by PseudoTailIndirect os h = held_tail_sets (implicit_uses os)
sets_by NoReturnCall (Symbol name ∷ rest) h = refl
sets_by NoReturnCallIndirect os h = held_gone_sets (implicit_uses os)
sets_by _ _ h = refl

kind_sets : (k : ItemKind) → LeavesPointer k → sets_register 2 k ≡ false
kind_sets (Code i n) h = ap (λ (z : Bool). z || (nat_eq 2 1 && never_returns (row_of i))) (sets_by i.op i.operands h)
kind_sets (Mark v m) h = refl
kind_sets (Phi p n) h = refl

-- ---- what some code sets

any_from : {A : Type 0} (p : A → Bool) (xs : List A) (x : A) → Contains xs x → p x ≡ true → list_any p xs ≡ true
any_from p [] x (k, lt, w) e = absurd (omega (arith, lt))
any_from p (y ∷ ys) x (zero, lt, w) e = let z : p y ≡ true = ap p w ∙ e in λ i. z i || list_any p ys
any_from p (y ∷ ys) x (suc k, lt, w) e = or_true (p y) (list_any p ys) (any_from p ys x (k, omega (arith, lt), w) e)

-- ---- where a run leads back to the caller, so does the item

abbrev GivesBy : Row → Outcome → Type 0
GivesBy r (Gives v) = row_leads_back r ≡ way_leads_back v.way
GivesBy r _ = Unit {0}

either_gives : (r : Row) (b : Bool) (x y : Outcome) → GivesBy r x → GivesBy r y → GivesBy r (cond b x y)
either_gives r true x y a b = a
either_gives r false x y a b = b

slot_gives : (rd n : ℕ) (c : Core) (x : Option ℕ) → GivesBy (LoadsSlot rd n) (slot_loaded rd c x)
slot_gives rd n c None = tt
slot_gives rd n c (Some v) = tt

call_gives : (call : CallSite) (t : CallTarget) (vs outgoing : List ℕ) (c : Core) (rs : List Reply) →
    GivesBy (Calls call) (exec_external_call t vs outgoing c rs)
call_gives call t vs outgoing c [] = tt
call_gives call t vs outgoing c (x ∷ rs) = either_gives (Calls call) (call_faults c outgoing x) Traps _ tt tt

way_same : (c : Core) (w : Way Callee) → way_leads_back w ≡ way_leads_back (way_at c w)
way_same c Back = refl
way_same c (Tail callee) = refl
way_same c (Never callee) = refl

does_gives : (r : Row) (c : Core) → GivesBy r (does r c)
unfolding does
does_gives (Loads rd op b o) c = either_gives (Loads rd op b o) (is_fault b c (address_at c b o) (load_width op)) Traps _ tt tt
does_gives (Stores op rs b o) c = either_gives (Stores op rs b o) (is_fault b c (address_at c b o) (store_width op)) Traps _ tt tt
does_gives (LoadsSlot rd n) c = slot_gives rd n c (c.slots n)
does_gives (Branches op a b t) c = either_gives (Branches op a b t) (taken op (read c a) (read c b)) (Goes t c) (Falls c) tt tt
does_gives (Calls call) c = call_gives call (called_at c call.callee) (passed c call) call.outgoing c c.script
does_gives (Returns ending) c = way_same c ending.way
does_gives _ c = tt

act_gives : (r : Row) (c : Core) → GivesBy r (act r c)
unfolding act
act_gives r c = either_gives r (are_written c (reads r)) (does r c) Traps (does_gives r c) tt

gives_final : (r : Row) (j : Core → Core) (enter : ℕ → ℕ) (p : Pos) (x : Outcome) (v : RunResult) → GivesBy r x →
    moved enter p (with_core j x) ≡ Returned v → row_leads_back r ≡ way_leads_back v.way
gives_final r j enter p (Gives w) v h go = let same : w ≡ v = cc in h ∙ ap (λ (z : RunResult). way_leads_back z.way) same
gives_final r j enter p (Falls c) v h go = cc
gives_final r j enter p (Goes n c) v h go = cc
gives_final r j enter p Traps v h go = cc
gives_final r j enter p Asks v h go = cc
gives_final r j enter p Breaks v h go = cc

return_stands : (g : Program) (t : State) (v : RunResult) → step g t ≡ Returned v → way_leads_back v.way ≡ true → is_return (g.fetch t.pos) ≡ true
return_stands g t v go leads = by_fetch (g.fetch t.pos) go where
  by_kind : (k : ItemKind) → moved g.enter t.pos (do_item g k t.core) ≡ Returned v → leads_back k ≡ true
  by_kind (Code i n) w = gives_final (row_of i) _ g.enter t.pos (act (row_of i) t.core) v (act_gives (row_of i) t.core) w ∙ leads
  by_kind (Mark x m) w = cc
  by_kind (Phi p n) w = cc

  by_fetch : (x : Fetch) → moved g.enter t.pos (do_fetch g x t.core) ≡ Returned v → is_return x ≡ true
  by_fetch (Here i) w = by_kind i.kind w
  by_fetch (EndOfBlock k n) w = cc
  by_fetch Outside w = cc

-- ---- the laws

module _ (f : Function) (resolve : OperandPair → Option OperandPair) (sound : IsSound f) (e : Core) where
  tame_in : (b : Block) → Contains f.blocks b → All (IsTame f resolve e) b.items
  tame_in b member = λ k d lt. record {
    pointer = kind_sets (get_or b.items k d).kind (All-contains (λ (c : Block). All (λ (i : Item). LeavesPointer i.kind) c.items) f.blocks b sound.pointer
        member k d lt);
    slots = All-contains (λ (c : Block). All (λ (i : Item). SlotsIn f.slots i.kind) c.items) f.blocks b sound.slots member k d lt;
    saves = λ r c none. by_test r c none (get_or b.items k d) (Contains-get_or b.items k d lt) (sets_register r (get_or b.items k d).kind) refl;
  } where
    by_test : (r : ℕ) → Contains SAVED r → ((s : SavedRegister) × Contains (saved_of f) s × (s.register ≡ r) → ⊥) →
        (x : Item) → Contains b.items x → (z : Bool) → sets_register r x.kind ≡ z → sets_register r x.kind ≡ false
    by_test r c none x inside false w = w
    by_test r c none x inside true w =
        absurd (none (set_is_saved f r c (any_from (λ (q : Block). list_any (λ (i : Item). sets_register r i.kind) q.items) f.blocks b member
        (any_from (λ (i : Item). sets_register r i.kind) b.items x inside w))))

  pub tame : (n : ℕ) → All (IsTame f resolve e) (rest_of f.blocks (block_start n))
  tame n = by_found (from_block f.blocks n) refl where
    by_found : (bs : List Block) → from_block f.blocks n ≡ bs → All (IsTame f resolve e) (rest_in bs 0)
    by_found [] w = All-nil (IsTame f resolve e)
    by_found (b ∷ rest) w = subst (All (IsTame f resolve e)) (sym (drop_zero b.items)) (tame_in b (found_in f.blocks n b rest w).0)

pub frame_stands : FrameAlwaysStands
frame_stands f resolve sound small e entered n t go = by_blocks f.blocks refl sound.last where
  by_blocks : (bs : List Block) → f.blocks ≡ bs → LastCloses bs → FrameStands (framed_of f) e t.pos t.core
  by_blocks [] w closes = absurd closes
  by_blocks (b ∷ more) w closes =
      stands_by f resolve e t.pos t.core (part_after f resolve e entered small (tame f resolve sound e) b more w all_given n
      (record { pos = block_start 0; core = e }) t (part_start f resolve e entered small (tame f resolve sound e) b more w all_given) go)

pub frame_gives_back : FrameGivesBack
frame_gives_back f resolve sound small e entered n t results go returns leads =
    let stands = frame_stands f resolve sound small e entered n t go in
    let here : is_return ((framed_program (framed_of f).blocks resolve).fetch t.pos) ≡ true = return_stands (framed_program (framed_of f).blocks resolve) t
    results returns leads in
    let found : is_as_found (framed_of f) t.pos ≡ true =
    or_true (nat_eq (framed_of f).size 0) _ (or_true (nat_eq t.pos.block 0 && nat_eq t.pos.item 0) _ here) in
    let state : frame_state (framed_of f) t.pos ≡ record { lowered = 0; saved = false } =
    ap (λ (b : Bool). cond b (record { lowered = 0; saved = false }) (record { lowered = (framed_of f).size; saved = not (nat_eq t.pos.block 0) })) found in
    let none : e.entry - 0 ≡ e.entry = omega arith in
    let pointer : content t.core.regs 2 ≡ content e.regs 2 =
    stands.pointer ∙ ap (λ (z : FrameState). Some (e.entry - z.lowered)) state ∙ ap Some none ∙ sym entered.pointer in
    let kept = stands.kept (ap (λ (z : FrameState). z.saved) state) in
    All-cons (λ (r : ℕ). read t.core r ≡ read e r) 2 SAVED (ap or_zero pointer)
    (All-weaker (Contains SAVED) (λ (r : ℕ). read t.core r ≡ read e r) (λ r k. ap or_zero (kept r k)) SAVED (All-contains_itself SAVED))

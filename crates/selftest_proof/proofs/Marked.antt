-- The parts that a source was told of are those that it marks.
use Rattle.std.proofs.Common.{◌≡◌, ℕ, List, [], ◌∷◌, drop, All, Contains, Option, Some, None, Bool, true, false, cond, nat_eq, refl, sym, subst}
use Rattle.std.proofs.Common.{inl, inr}
use Rattle.std.proofs.lemmas.List.Elements.{All-nil, All-cons, All-head, All-tail, All-drop}
use Rattle.rv64_instr.specs.Row.{Row, Loads, Stores, LoadsSlot, Branches, Calls, Returns, Unfit, row_of}
use Rattle.rv64_instr.specs.Arithmetic.{taken, load_width, store_width}
use Rattle.rv64_instr.specs.DefsAndUses.{reads}
use Rattle.rv64_instr.specs.LocationEffects.{is_call}
use Rattle.rv64_instr.specs.declared.operand.Operand.{Operand}
use Rattle.rv64_instr.specs.declared.start.CallTarget.{CallTarget}
use Rattle.mir_func.specs.declared.block.Block.{Block}
use Rattle.mir_func.specs.declared.debug_substitution.OperandPair.{OperandPair}
use Rattle.mir_func.specs.declared.item.Item.{Item}
use Rattle.mir_func.specs.declared.item.ItemKind.{ItemKind}
use Rattle.mir_func.specs.declared.item.ItemKind.TheVariants.{Code, Mark, Phi}
use Rattle.mir_func.specs.declared.position.Pos.{Pos}
use Rattle.mir_func.specs.declared.variable.VarId.{VarId}
use Rattle.mir_func.specs.Graph.{Fetch, Here, EndOfBlock, Outside, Program, end_of, front, fetch_in, from_block, program_of}
use Rattle.mir_func.specs.Sound.{AllItems}
use Rattle.mir_func.specs.Variables.{is_same, overlaps}
use Rattle.sem_mir.specs.Align.{Arrives, here, onward, First, MatchesNext, Since, Start, Same, After}
use Rattle.sem_mir.specs.Effects.{OnCore}
use Rattle.sem_mir.specs.State.{Core, Reply, State, assigned}
use Rattle.sem_mir.specs.Step.{Went, Outcome, Falls, Goes, Gives, Traps, Asks, Breaks, moved, read, address_at, is_fault, exec_external_call, slot_loaded, does}
use Rattle.sem_mir.specs.Step.{call_faults, passed, are_written, act, with_core, numbered, do_item, do_fetch, step, called_at}
use Rattle.sem_mir.proofs.Assignments.{same_is}
use Rattle.sem_mir.proofs.Outcomes.{on_either}
use Rattle.selftest_proof.specs.Known.{MarksPartOf}

-- the marks so far are of these parts
abbrev MarksAmong : List VarId → Core → Type 0
MarksAmong parts c = All (λ (m : VarId × Option ℕ). Contains parts m.0) c.marks

abbrev pub AreAmong : List VarId → State → Type 0
AreAmong parts s = MarksAmong parts s.core

pub none_marked : (parts : List VarId) (s : State) → s.core.marks ≡ [] → AreAmong parts s
none_marked parts s e =
    let P : VarId × Option ℕ → Type 0 = λ m. Contains parts m.0 in
    subst (All P) (sym e) (All-nil P)

-- what has a value is one of them
pub assigned_among : (parts : List VarId) (v : VarId) (x : ℕ) (ms : List (VarId × Option ℕ)) → assigned v ms ≡ Some x →
    All (λ (m : VarId × Option ℕ). Contains parts m.0) ms → Contains parts v
assigned_among parts v x [] e h = absurd cc
assigned_among parts v x (m ∷ ms) e h =
    let P : VarId × Option ℕ → Type 0 = λ n. Contains parts n.0 in
    by_tests (is_same v m.0) refl (overlaps v m.0) e (λ later. assigned_among parts v x ms later (All-tail P m ms h)) (All-head P m ms h) where
      by_tests : (a : Bool) → is_same v m.0 ≡ a → (b : Bool) → cond a m.1 (cond b None (assigned v ms)) ≡ Some x →
          (assigned v ms ≡ Some x → Contains parts v) → Contains parts m.0 → Contains parts v
      by_tests true s b f later first = subst (Contains parts) (sym (same_is v m.0 s)) first
      by_tests false s true f later first = absurd cc
      by_tests false s false f later first = later f

-- ---- code changes no marks

module _ (parts : List VarId) where
  abbrev P : Core → Type 0
  P c = MarksAmong parts c

  does_keeps : (r : Row) (c : Core) → P c → OnCore P (does r c)
  unfolding does
  does_keeps (Loads rd op b o) c h = on_either P (is_fault b c (address_at c b o) (load_width op)) Traps _ tt h
  does_keeps (Stores op rs b o) c h = on_either P (is_fault b c (address_at c b o) (store_width op)) Traps _ tt h
  does_keeps (LoadsSlot rd n) c h = by_slot (c.slots n) where
    by_slot : (v : Option ℕ) → OnCore P (slot_loaded rd c v)
    by_slot None = tt
    by_slot (Some v) = h
  does_keeps (Branches op a b t) c h = on_either P (taken op (read c a) (read c b)) _ _ h h
  does_keeps (Calls call) c h = by_script (called_at c call.callee) (passed c call) call.outgoing c.script where
    by_script : (t : CallTarget) (vs outgoing : List ℕ) (rs : List Reply) → OnCore P (exec_external_call t vs outgoing c rs)
    by_script t vs outgoing [] = tt
    by_script t vs outgoing (q ∷ rs) = on_either P (call_faults c outgoing q) _ _ tt h
  does_keeps (Returns v) c h = tt
  does_keeps Unfit c h = tt
  does_keeps _ c h = h

  act_keeps : (r : Row) (c : Core) → P c → OnCore P (act r c)
  unfolding act
  act_keeps r c h = on_either P (are_written c (reads r)) (does r c) Traps (does_keeps r c h) tt

  numbered_keeps : (sp call : Bool) (k : Option ℕ) (operands : List Operand) (x : Outcome) → OnCore P x → OnCore P (with_core (numbered sp call k operands) x)
  numbered_keeps sp call None operands (Falls c) h = h
  numbered_keeps sp call (Some k) operands (Falls c) h = h
  numbered_keeps sp call None operands (Goes n c) h = h
  numbered_keeps sp call (Some k) operands (Goes n c) h = h
  numbered_keeps sp call k operands (Gives v) h = tt
  numbered_keeps sp call k operands Traps h = tt
  numbered_keeps sp call k operands Asks h = tt
  numbered_keeps sp call k operands Breaks h = tt

  item_keeps : (g : Program) (kind : ItemKind) (c : Core) → MarksPartOf parts kind → P c → OnCore P (do_item g kind c)
  item_keeps g (Code i k) c m h = numbered_keeps g.sees_pointer (is_call (row_of i)) k i.operands (act (row_of i) c) (act_keeps (row_of i) c h)
  item_keeps g (Mark v x) c m h = All-cons (λ (n : VarId × Option ℕ). Contains parts n.0) _ c.marks m h
  item_keeps g (Phi p k) c m h = h

  went_keeps : (enter : ℕ → ℕ) (p : Pos) (x : Outcome) (t : State) → OnCore P x → moved enter p x ≡ Went t → P t.core
  went_keeps enter p (Falls c) t h e = let same : c ≡ t.core = cc in subst P same h
  went_keeps enter p (Goes n c) t h e = let same : c ≡ t.core = cc in subst P same h
  went_keeps enter p (Gives v) t h e = absurd cc
  went_keeps enter p Traps t h e = absurd cc
  went_keeps enter p Asks t h e = absurd cc
  went_keeps enter p Breaks t h e = absurd cc

-- ---- what stands at positions

from_block-all : (Q : Block → Type 0) (bs : List Block) (n : ℕ) → All Q bs → All Q (from_block bs n)
from_block-all Q [] n h = h
from_block-all Q (b ∷ bs) n h = by_test (nat_eq b.id n) (from_block-all Q bs n (All-tail Q b bs h)) where
  by_test : (t : Bool) → All Q (from_block bs n) → All Q (cond t (b ∷ bs) (from_block bs n))
  by_test true more = h
  by_test false more = more

end_is_no_item : (k : ℕ) (bs : List Block) (i : Item) → end_of k bs ≡ Here i → ⊥
end_is_no_item k [] i e = cc
end_is_no_item k (b ∷ bs) i e = cc

front_item : (Q : Item → Type 0) (items : List Item) (k : ℕ) (bs : List Block) (i : Item) → front items k bs ≡ Here i → All Q items → Q i
front_item Q [] k bs i e h = absurd (end_is_no_item k bs i e)
front_item Q (x ∷ items) k bs i e h = let same : x ≡ i = cc in subst Q same (All-head Q x items h)

item_in : (Q : Item → Type 0) (bs : List Block) (n : ℕ) (i : Item) → fetch_in bs n ≡ Here i → AllItems Q bs → Q i
item_in Q [] n i e h = absurd cc
item_in Q (b ∷ bs) n i e h =
    front_item Q (drop n b.items) b.source_end bs i e (All-drop Q n b.items (All-head (λ (x : Block). All Q x.items) b bs h))

-- what holds of all items holds of the one at a position
pub fetched : (Q : Item → Type 0) (bs : List Block) (b n : ℕ) (i : Item) → fetch_in (from_block bs b) n ≡ Here i → AllItems Q bs → Q i
fetched Q bs b n i e h = item_in Q (from_block bs b) n i e (from_block-all (λ (x : Block). All Q x.items) bs b h)

-- ---- runs

module _ (blocks : List Block) (resolve : OperandPair → Option OperandPair) (parts : List VarId)
    (marked : AllItems (λ i. MarksPartOf parts i.kind) blocks) where
  abbrev src : Program
  src = program_of true blocks resolve

  fetch_keeps : (p : Pos) (x : Fetch) (c : Core) → src.fetch p ≡ x → MarksAmong parts c → OnCore (MarksAmong parts) (do_fetch src x c)
  fetch_keeps p (Here i) c e h = item_keeps parts src i.kind c (fetched (λ j. MarksPartOf parts j.kind) blocks p.block p.item i e marked) h
  fetch_keeps p (EndOfBlock k n) c e h = h
  fetch_keeps p Outside c e h = tt

  step_among : (s t : State) → step src s ≡ Went t → AreAmong parts s → AreAmong parts t
  step_among s t e h =
      went_keeps parts src.enter s.pos (do_fetch src (src.fetch s.pos) s.core) t (fetch_keeps s.pos (src.fetch s.pos) s.core refl h) e

  arrives_among : (A : Pos → Type 0) (p : Pos) {s t : State} → Arrives src A p s t → AreAmong parts s → AreAmong parts t
  arrives_among A p (here e) h = h
  arrives_among A p (onward {s = s} {u = u} ne go rest) h = arrives_among A p rest (step_among s u go h)

  pub aligns_among : (p : Pos) (since : Since) (s t : State) → MatchesNext src (First p) p since s t → AreAmong parts s → AreAmong parts t
  aligns_among p Start s t a h = arrives_among (First p) p a h
  aligns_among p Same s t (inl a) h = subst (AreAmong parts) a.1 h
  aligns_among p Same s t (inr (ne, (u, go, rest))) h = arrives_among (First p) p rest (step_among s u go h)
  aligns_among p After s t (u, go, rest) h = arrives_among (First p) p rest (step_among s u go h)

-- Steps of the source where no answer is left.
use Rattle.std.proofs.lemmas.Bool.{and_parts, and_from}
use Rattle.std.proofs.Common.{nat_eq, ◌&&◌, eq-eqb, eqb-true, ◌⊎◌}
use Rattle.std.proofs.Common.{◌≡◌, ℕ, suc, ◌+◌, ◌-◌, ◌<◌, arith, List, [], Option, Some, None, Bool, true, false, refl, sym, ap, ◌∙◌, subst, inl}
use Rattle.std.proofs.Common.{inr}
use Rattle.rv64_instr.specs.Row.{Row, Loads, Stores, LoadsSlot, Branches, Calls, Returns, Unfit, row_of}
use Rattle.rv64_instr.specs.Arithmetic.{taken, load_width, store_width, extended}
use Rattle.rv64_instr.specs.DefsAndUses.{reads}
use Rattle.rv64_instr.specs.LocationEffects.{is_call}
use Rattle.rv64_instr.specs.declared.operand.Operand.{Operand}
use Rattle.mir_func.specs.declared.item.ItemKind.{ItemKind}
use Rattle.mir_func.specs.declared.item.ItemKind.TheVariants.{Code, Mark, Phi}
use Rattle.mir_func.specs.declared.position.Pos.{Pos}
use Rattle.mir_func.specs.Graph.{Fetch, Here, EndOfBlock, Outside, Program, below, block_start}
use Rattle.sem_mir.specs.Align.{Arrives, here, onward, First, MatchesNext, Since, Start, Same, After}
use Rattle.sem_mir.specs.Effects.{OnCore}
use Rattle.sem_mir.specs.State.{Core, Reply, State, spelled, low_bytes}
use Rattle.sem_mir.specs.Step.{Outcome, Falls, Goes, Gives, Traps, Asks, Breaks}
use Rattle.sem_mir.specs.Step.{read, address_at, is_fault, set_register, exec_external_call, passed, slot_loaded, saved}
use Rattle.sem_mir.specs.Step.{does, are_written, act, with_core, numbered, do_item, do_fetch, Went, moved, step, called_at}
use Rattle.sem_mir.proofs.Outcomes.{on_either}
use Rattle.sem_interpreter.specs.Acts.{IsAnswered}
use Rattle.sem_interpreter.specs.StandsFor.{Concrete, IsStepAnswered, IsItemAnswered}
use Rattle.sem_interpreter.specs.Steps.{Steps}
use Rattle.sem_interpreter.specs.declared.state.SourceStep.TheVariants.{Went as StepWent}
use Rattle.sem_interpreter.specs.declared.state.SourceStep.{SourceStep}
use Rattle.sem_interpreter.specs.declared.state.SourceStep.TheVariants.{Returned as StepReturned, Faulted as StepFaulted, Waits as StepWaits}
use Rattle.selftest_count.specs.Apart.{MAX_SOURCE_STEPS, Halts, Misses, makes_all, halts, goes_on, MissesNext}
use Rattle.selftest_count.specs.steps.Beside.{IsAt, ArrivesSo, AlignsSo, MissesSo, MissesNextSo}

-- no answer is left
abbrev NoneLeft : Core → Type 0
NoneLeft c = c.script ≡ []

does_leaves : (r : Row) (c : Core) → NoneLeft c → OnCore NoneLeft (does r c)
unfolding does
does_leaves (Loads rd op b o) c e =
    let a = address_at c b o in
    on_either NoneLeft (is_fault b c a (load_width op)) Traps (Falls (set_register rd (extended op (spelled c.memory a (load_width op))) c)) tt e
does_leaves (Stores op rs b o) c e =
    let a = address_at c b o in
    on_either NoneLeft (is_fault b c a (store_width op)) Traps (Falls (saved a (low_bytes (store_width op) (read c rs)) c)) tt e
does_leaves (LoadsSlot rd n) c e = by_slot (c.slots n) where
  by_slot : (v : Option ℕ) → OnCore NoneLeft (slot_loaded rd c v)
  by_slot None = tt
  by_slot (Some v) = e
does_leaves (Branches op a b t) c e = on_either NoneLeft (taken op (read c a) (read c b)) (Goes t c) (Falls c) e e
does_leaves (Calls call) c e =
    subst (λ (rs : List Reply). OnCore NoneLeft (exec_external_call (called_at c call.callee) (passed c call) call.outgoing c rs)) (sym e) tt
does_leaves (Returns v) c e = tt
does_leaves Unfit c e = tt
does_leaves _ c e = e

act_leaves : (r : Row) (c : Core) → NoneLeft c → OnCore NoneLeft (act r c)
unfolding act
act_leaves r c e = on_either NoneLeft (are_written c (reads r)) (does r c) Traps (does_leaves r c e) tt

numbered_leaves : (sp call : Bool) (k : Option ℕ) (operands : List Operand) (c : Core) → NoneLeft c → NoneLeft (numbered sp call k operands c)
numbered_leaves sp call None operands c e = e
numbered_leaves sp call (Some k) operands c e = e

with_leaves : (f : Core → Core) → ((c : Core) → NoneLeft c → NoneLeft (f c)) → (x : Outcome) → OnCore NoneLeft x → OnCore NoneLeft (with_core f x)
with_leaves f g (Falls c) h = g c h
with_leaves f g (Goes n c) h = g c h
with_leaves f g (Gives v) h = tt
with_leaves f g Traps h = tt
with_leaves f g Asks h = tt
with_leaves f g Breaks h = tt

item_leaves : (g : Program) (kind : ItemKind) (c : Core) → NoneLeft c → OnCore NoneLeft (do_item g kind c)
item_leaves g (Code i k) c e =
    with_leaves (numbered g.sees_pointer (is_call (row_of i)) k i.operands) (numbered_leaves g.sees_pointer (is_call (row_of i)) k i.operands)
    (act (row_of i) c) (act_leaves (row_of i) c e)
item_leaves g (Mark v m) c e = e
item_leaves g (Phi p k) c e = e

fetch_leaves : (g : Program) (f : Fetch) (c : Core) → NoneLeft c → OnCore NoneLeft (do_fetch g f c)
fetch_leaves g (Here i) c e = item_leaves g i.kind c e
fetch_leaves g (EndOfBlock k n) c e = e
fetch_leaves g Outside c e = tt

went_leaves : (enter : ℕ → ℕ) (p : Pos) (x : Outcome) (t : State) → OnCore NoneLeft x → moved enter p x ≡ Went t → NoneLeft t.core
went_leaves enter p (Falls c) t h e =
    let made : State = record { pos = below p; core = c } in
    let w : made ≡ t = cc in
    subst (λ (z : State). NoneLeft z.core) w h
went_leaves enter p (Goes n c) t h e =
    let made : State = record { pos = block_start (enter n); core = c } in
    let w : made ≡ t = cc in
    subst (λ (z : State). NoneLeft z.core) w h
went_leaves enter p (Gives v) t h e = absurd cc
went_leaves enter p Traps t h e = absurd cc
went_leaves enter p Asks t h e = absurd cc
went_leaves enter p Breaks t h e = absurd cc

step_leaves : (g : Program) (s t : State) → NoneLeft s.core → step g s ≡ Went t → NoneLeft t.core
step_leaves g s t e go = went_leaves g.enter s.pos (do_fetch g (g.fetch s.pos) s.core) t (fetch_leaves g (g.fetch s.pos) s.core e) go

-- no answer is given, and none is left
row_answered : (r : Row) (script : List Reply) → script ≡ [] → IsAnswered r None script
row_answered (Calls call) script e = e
row_answered _ script e = tt

item_answered : (kind : ItemKind) (script : List Reply) → script ≡ [] → IsItemAnswered kind None script
item_answered (Code i k) script e = row_answered (row_of i) script e
item_answered (Mark v m) script e = tt
item_answered (Phi p k) script e = tt

step_answered : (f : Fetch) (script : List Reply) → script ≡ [] → IsStepAnswered f None script
step_answered (Here i) script e = item_answered i.kind script e
step_answered (EndOfBlock k n) script e = tt
step_answered Outside script e = tt

-- a step that goes on
pub steps_on : (src : Program) (old new : Concrete) → Steps src None StepWent old new → (s : State) → IsAt old s →
    (t : State) × (step src s ≡ Went t) × IsAt new t
steps_on src old new steps s at =
    let h = steps s at.stands (step_answered (src.fetch s.pos) s.core.script at.script) in
    (h.0, h.1, record { stands = h.2; script = step_leaves src s h.0 at.script h.1 })

-- a step that doesn't go on
pub halts_so : (src : Program) (r : SourceStep) (old new : Concrete) → (r ≡ StepWent → ⊥) → Steps src None r old new → (s : State) → IsAt old s → Halts src s
halts_so src StepWent old new ne steps s at t e = absurd (ne refl)
halts_so src StepReturned old new ne steps s at t e =
    let h = steps s at.stands (step_answered (src.fetch s.pos) s.core.script at.script) in let q = h.1 in absurd cc
halts_so src StepFaulted old new ne steps s at t e =
    let h = steps s at.stands (step_answered (src.fetch s.pos) s.core.script at.script) in absurd cc
halts_so src StepWaits old new ne steps s at t e =
    let h = steps s at.stands (step_answered (src.fetch s.pos) s.core.script at.script) in absurd cc

-- by so many steps from each state at first the source came to one of now, and where it arrives from there, it arrives from the first; where it
-- misses from there, it misses from the first
pub record IsOnTheWay (src : Program) (p : Pos) (made : ℕ) (now : Concrete) (s : State) : Type 0 where
  pub to : State
  pub at : IsAt now to
  pub arrives : (u : State) → Arrives src (First p) p to u → Arrives src (First p) p s u
  pub misses : (n : ℕ) → Misses src p n to → Misses src p (made + n) s

abbrev pub OnTheWay : Program → Pos → (made : ℕ) → (first now : Concrete) → Type 0
OnTheWay src p made first now = (s : State) → IsAt first s → IsOnTheWay src p made now s

pub starts_way : (src : Program) (p : Pos) (k : Concrete) → OnTheWay src p 0 k k
starts_way src p k = λ s at. record {
  to = s;
  at = at;
  arrives = λ u a. a;
  misses = λ n m. subst (λ (x : ℕ). Misses src p x s) (zero_plus n) m;
} where
  zero_plus : (n : ℕ) → n ≡ 0 + n
  zero_plus n = omega arith

pub goes_further : (src : Program) (p : Pos) (made : ℕ) (first k now : Concrete) → OnTheWay src p made first k → (k.pos ≡ p → ⊥) →
    Steps src None StepWent k now → OnTheWay src p (made + 1) first now
goes_further src p made first k now way ne steps = λ s at.
    let w = way s at in
    let g = steps_on src k now steps w.to w.at in
    let apart : w.to.pos ≡ p → ⊥ = λ e. ne (sym w.at.stands.pos ∙ e) in
    record {
      to = g.0;
      at = g.2;
      arrives = λ u a. w.arrives u (onward apart g.1 a);
      misses = λ n m. subst (λ (x : ℕ). Misses src p x s) (one_more n) (w.misses (suc n) (goes_on apart g.1 m));
    } where
      one_more : (n : ℕ) → made + suc n ≡ (made + 1) + n
      one_more n = omega arith

pub arrives : (src : Program) (p : Pos) (made : ℕ) (first k : Concrete) → OnTheWay src p made first k → k.pos ≡ p → ArrivesSo src p first k
arrives src p made first k way e = λ s at.
    let w = way s at in
    (w.to, w.arrives w.to (here (w.at.stands.pos ∙ e)), w.at)

pub all_made : (src : Program) (p : Pos) (made : ℕ) (first k : Concrete) → OnTheWay src p made first k → made ≡ MAX_SOURCE_STEPS → MissesSo src p first
all_made src p made first k way e = λ s at.
    let w = way s at in
    subst (λ (x : ℕ). Misses src p x s) (plus_zero ∙ e) (w.misses 0 makes_all) where
      plus_zero : made + 0 ≡ made
      plus_zero = omega arith

pub halts_there : (src : Program) (p : Pos) (made : ℕ) (first k now : Concrete) (r : SourceStep) → OnTheWay src p made first k → made < MAX_SOURCE_STEPS →
    (k.pos ≡ p → ⊥) → (r ≡ StepWent → ⊥) → Steps src None r k now → MissesSo src p first
halts_there src p made first k now r way below ne stops steps = λ s at.
    let w = way s at in
    let left : ℕ = MAX_SOURCE_STEPS - made in
    subst (λ (x : ℕ). Misses src p x s) whole
    (w.misses left (halts (λ e. ne (sym w.at.stands.pos ∙ e)) (halts_so src r k now stops steps w.to w.at))) where
      whole : made + (MAX_SOURCE_STEPS - made) ≡ MAX_SOURCE_STEPS
      whole = omega (arith, below)

-- what arrives is aligned
since_then : (src : Program) (p : Pos) (since : Since) {s t : State} → (since ≡ After → ⊥) → Arrives src (First p) p s t → MatchesNext src (First p) p since s t
since_then src p Start ne a = a
since_then src p Same ne (here e) = inl (e, refl)
since_then src p Same ne (onward {u = u} free go rest) = inr (free, (u, go, rest))
since_then src p After ne a = absurd (ne refl)

pub aligns_here : (src : Program) (p : Pos) (old new : Concrete) → ArrivesSo src p old new → AlignsSo src false p old new
aligns_here src p old new arrive = λ s since at ne.
    let a = arrive s at in
    (a.0, since_then src p since ne a.1, a.2)

pub aligns_after : (src : Program) (p : Pos) (old k new : Concrete) → Steps src None StepWent old k → ArrivesSo src p k new → AlignsSo src true p old new
aligns_after src p old k new steps arrive = λ s since at is.
    let g = steps_on src old k steps s at in
    let a = arrive g.0 g.2 in
    (a.0, subst (λ (w : Since). MatchesNext src (First p) p w s a.0) (sym is) (g.0, g.1, a.1), a.2)

-- what misses is missed by the next alignment
misses_since : (src : Program) (p : Pos) (since : Since) (s : State) → (since ≡ After → ⊥) → Misses src p MAX_SOURCE_STEPS s → MissesNext src p since s
misses_since src p Start s ne m = m
misses_since src p Same s ne m = m
misses_since src p After s ne m = absurd (ne refl)

pub misses_here : (src : Program) (p : Pos) (old : Concrete) → MissesSo src p old → MissesNextSo src false p old
misses_here src p old missed = λ s since at ne. misses_since src p since s ne (missed s at)

pub misses_after : (src : Program) (p : Pos) (old k : Concrete) → Steps src None StepWent old k → MissesSo src p k → MissesNextSo src true p old
misses_after src p old k steps missed = λ s since at is.
    let g = steps_on src old k steps s at in
    subst (λ (w : Since). MissesNext src p w s) (sym is) (inr (g.0, g.1, missed g.0 g.2))

pub halts_before : (src : Program) (p : Pos) (old new : Concrete) (r : SourceStep) → (r ≡ StepWent → ⊥) → Steps src None r old new →
    MissesNextSo src true p old
halts_before src p old new r stops steps = λ s since at is.
    subst (λ (w : Since). MissesNext src p w s) (sym is) (inl (halts_so src r old new stops steps s at))

-- ---- what is tested

abbrev IsHere : Pos → Pos → Bool
IsHere q p = nat_eq q.block p.block && nat_eq q.item p.item

pub is_here : (k q p : Pos) (b : Bool) → q ≡ k → b ≡ IsHere q p → b ≡ true → k ≡ p
is_here k q p b same test found =
    let both = and_parts (nat_eq q.block p.block) (nat_eq q.item p.item) (sym test ∙ found) in
    let block : q.block ≡ p.block = eqb-true q.block p.block both.0 in
    let item : q.item ≡ p.item = eqb-true q.item p.item both.1 in
    sym same ∙ (λ i. record { block = block i; item = item i })

pub is_elsewhere : (k q p : Pos) (b : Bool) → q ≡ k → b ≡ IsHere q p → b ≡ false → k ≡ p → ⊥
is_elsewhere k q p b same test other at =
    let e : q ≡ p = same ∙ at in
    let here : IsHere q p ≡ true =
    and_from (nat_eq q.block p.block) (nat_eq q.item p.item) (eq-eqb q.block p.block (ap (λ (x : Pos). x.block) e))
    (eq-eqb q.item p.item (ap (λ (x : Pos). x.item) e)) in
    let both : false ≡ true = sym other ∙ test ∙ here in
    absurd cc

pub not_went : (r : SourceStep) → (r ≡ StepReturned) ⊎ ((r ≡ StepFaulted) ⊎ (r ≡ StepWaits)) → r ≡ StepWent → ⊥
not_went r (inl e) went = let both : StepReturned ≡ StepWent = sym e ∙ went in cc
not_went r (inr (inl e)) went = let both : StepFaulted ≡ StepWent = sym e ∙ went in cc
not_went r (inr (inr e)) went = let both : StepWaits ≡ StepWent = sym e ∙ went in cc

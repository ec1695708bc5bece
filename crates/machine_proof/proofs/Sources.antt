-- Steps from equal places, and physical registers that stay written.
use Rattle.std.proofs.Common.{◌≡◌, ℕ, suc, ◌<◌, List, [], ◌∷◌, Option, Some, None, Bool, IsSome, refl, sym, ap, ◌∙◌, subst, inl}
use Rattle.std.proofs.Common.{inr}
use Rattle.rv64_instr.specs.declared.operand.Operand.{Operand}
use Rattle.rv64_instr.specs.declared.place.Place.{Place}
use Rattle.rv64_instr.specs.declared.place.Place.TheVariants.{Register, Slot, Const}
use Rattle.rv64_instr.specs.Arithmetic.{taken, load_width, store_width}
use Rattle.rv64_instr.specs.Instruction.{Instruction}
use Rattle.rv64_instr.specs.LocationEffects.{is_call}
use Rattle.rv64_instr.specs.Row.{Row, Fixes, Moves, Sets, Addresses, Loads, Stores, LoadsSlot, StoresSlot, Branches, Jumps, Calls, Returns, Unfit, row_of}
use Rattle.rv64_instr.specs.DefsAndUses.{caller_saved, reads}
use Rattle.rv64_instr.specs.declared.start.CallTarget.{CallTarget}
use Rattle.mir_func.specs.declared.position.Pos.{Pos}
use Rattle.mir_func.specs.declared.item.Item.{Item}
use Rattle.mir_func.specs.declared.item.ItemKind.{ItemKind}
use Rattle.mir_func.specs.declared.item.ItemKind.TheVariants.{Code, Mark, Phi}
use Rattle.mir_func.specs.Graph.{Fetch, Here, EndOfBlock, Outside, Program, below, block_start}
use Rattle.sem_mir.specs.State.{Core, State, Reply, content, RunResult}
use Rattle.sem_mir.specs.Step.{Went, Returned, Faulted, Outcome, Falls, Goes, Gives, Traps, Asks, Breaks, act, does, are_written, is_fault, address_at}
use Rattle.sem_mir.specs.Step.{exec_external_call, call_faults, passed, called_at}
use Rattle.sem_mir.specs.Step.{slot_loaded, numbered, with_core, do_item, do_fetch, moved, step, read, run}
use Rattle.sem_mir.specs.Align.{Arrives, here, onward, Since, Start, Same, After, MatchesNext, MatchedUpTo, begin, other, met, SyncPoint}
use Rattle.sem_mir.specs.Effects.{SameWorld, EndAlike, AreHeldAlike, OnCore, held_in}
use Rattle.sem_mir.proofs.Outcomes.{on_either, alike_with, alike_returns, alike_faults}
use Rattle.sem_mir.proofs.Parts.{effects_hold}
use Rattle.sem_mir.proofs.Runs.{run_step_last}
use Rattle.sem_simulation.specs.Words.{SameCode}
use Rattle.machine_steps_proof.proofs.Rows.{set_written, set_all_written}

-- ---- from equal places

same_world : (c d : Core) → SameCode d c → SameWorld c d
same_world c d h = record {
  entry = sym h.entry;
  area = sym h.area;
  objects = sym h.objects;
  symbols = sym h.symbols;
  memory = sym h.memory;
  script = sym h.script;
  events = sym h.events;
}

held_alike : (c d : Core) → SameCode d c → (x : Place) → held_in x c ≡ held_in x d
held_alike c d h (Register r) = ap (λ (regs : ℕ → Option ℕ). content regs r) (sym h.regs)
held_alike c d h (Slot n) = ap (λ (slots : ℕ → Option ℕ). slots n) (sym h.slots)
held_alike c d h (Const z) = refl

module _ (g : Program) (s t : State) (i : Instruction) (k : Option ℕ) (x : Item) (kind : x.kind ≡ Code i k) (at : g.fetch t.pos ≡ Here x) (place : s.pos ≡
    t.pos)
    (same : SameCode t.core s.core) where
  abbrev by : Core → Outcome
  by c = with_core (numbered g.sees_pointer (is_call (row_of i)) k i.operands) (act (row_of i) c)

  alike : EndAlike (λ c d. Unit {0}) (by s.core) (by t.core)
  alike = alike_with (AreHeldAlike i s.core t.core) (λ c d. Unit {0}) (numbered g.sees_pointer (is_call (row_of i)) k i.operands)
      (numbered g.sees_pointer (is_call (row_of i)) k i.operands) (λ c d h. tt) (act (row_of i) s.core) (act (row_of i) t.core)
      (effects_hold.uses i s.core t.core (same_world s.core t.core same) (λ p u. held_alike s.core t.core same p))

  step_t : step g t ≡ moved g.enter t.pos (by t.core)
  step_t = ap (λ (z : Fetch). moved g.enter t.pos (do_fetch g z t.core)) at ∙ ap (λ (z : ItemKind). moved g.enter t.pos (do_item g z t.core)) kind

  step_s : step g s ≡ moved g.enter t.pos (by s.core)
  step_s = ap (λ (p : Pos). moved g.enter p (do_fetch g (g.fetch p) s.core)) place
      ∙ ap (λ (z : Fetch). moved g.enter t.pos (do_fetch g z s.core)) at ∙ ap (λ (z : ItemKind). moved g.enter t.pos (do_item g z s.core)) kind

  -- a return and a fault are the same
  pub returns_alike : (v : RunResult) → step g t ≡ Returned v → step g s ≡ Returned v
  returns_alike v e = step_s ∙ alike_returns (λ c d. Unit {0}) g.enter t.pos (by s.core) (by t.core) alike v (sym step_t ∙ e)

  pub faults_alike : step g t ≡ Faulted → step g s ≡ Faulted
  faults_alike e = step_s ∙ alike_faults (λ c d. Unit {0}) g.enter t.pos (by s.core) (by t.core) alike (sym step_t ∙ e)

-- ---- physical registers are written

abbrev pub IsWritten : Core → Type 0
IsWritten c = (r : ℕ) → r < 32 → IsSome (content c.regs r)

module _ (c : Core) (h : IsWritten c) where
  answer_written : (t : CallTarget) (args outgoing : List ℕ) (rs : List Reply) → OnCore IsWritten (exec_external_call t args outgoing c rs)
  answer_written t args outgoing [] = tt
  answer_written t args outgoing (r ∷ rs) = on_either IsWritten (call_faults c outgoing r) Traps _ tt (set_all_written caller_saved r.regs c.regs h)

  slot_written : (rd : ℕ) (x : Option ℕ) → OnCore IsWritten (slot_loaded rd c x)
  slot_written rd None = tt
  slot_written rd (Some v) = set_written rd v c.regs h

  does_written : (r : Row) → OnCore IsWritten (does r c)
  unfolding does
  does_written (Fixes rd n) = set_written rd _ c.regs h
  does_written (Moves rd rs) = set_written rd _ c.regs h
  does_written (Sets rd op a b) = set_written rd _ c.regs h
  does_written (Addresses rd n o) = set_written rd _ c.regs h
  does_written (Loads rd op b o) = on_either IsWritten (is_fault b c (address_at c b o) (load_width op)) Traps _ tt (set_written rd _ c.regs h)
  does_written (Stores op rs b o) = on_either IsWritten (is_fault b c (address_at c b o) (store_width op)) Traps _ tt h
  does_written (LoadsSlot rd n) = slot_written rd (c.slots n)
  does_written (StoresSlot rs n) = h
  does_written (Branches op a b t) = on_either IsWritten (taken op (read c a) (read c b)) (Goes t c) (Falls c) h h
  does_written (Jumps t) = h
  does_written (Calls call) = answer_written (called_at c call.callee) (passed c call) call.outgoing c.script
  does_written (Returns v) = tt
  does_written Unfit = tt

  act_written : (r : Row) → OnCore IsWritten (act r c)
  unfolding act
  act_written r = on_either IsWritten (are_written c (reads r)) (does r c) Traps (does_written r) tt

numbered_written : (sp call : Bool) (k : Option ℕ) (os : List Operand) (c : Core) → IsWritten c → IsWritten (numbered sp call k os c)
numbered_written sp call None os c h = h
numbered_written sp call (Some k) os c h = h

with_written : (j : Core → Core) → ((c : Core) → IsWritten c → IsWritten (j c)) → (x : Outcome) → OnCore IsWritten x → OnCore IsWritten (with_core j x)
with_written j w (Falls c) h = w c h
with_written j w (Goes n c) h = w c h
with_written j w (Gives v) h = tt
with_written j w Traps h = tt
with_written j w Asks h = tt
with_written j w Breaks h = tt

item_written : (g : Program) (k : ItemKind) (c : Core) → IsWritten c → OnCore IsWritten (do_item g k c)
item_written g (Code i n) c h = with_written (numbered g.sees_pointer (is_call (row_of i)) n i.operands)
    (numbered_written g.sees_pointer (is_call (row_of i)) n i.operands) (act (row_of i) c) (act_written c h (row_of i))
item_written g (Mark v m) c h = h
item_written g (Phi p n) c h = h

fetch_written : (g : Program) (x : Fetch) (c : Core) → IsWritten c → OnCore IsWritten (do_fetch g x c)
fetch_written g (Here i) c h = item_written g i.kind c h
fetch_written g (EndOfBlock k n) c h = h
fetch_written g Outside c h = tt

moved_written : (enter : ℕ → ℕ) (p : Pos) (x : Outcome) (t : State) → OnCore IsWritten x → moved enter p x ≡ Went t → IsWritten t.core
moved_written enter p (Falls c) t h e = let made : State = record { pos = below p; core = c } in let w : made ≡ t = cc in
    subst (λ (z : State). IsWritten z.core) w h
moved_written enter p (Goes n c) t h e = let made : State = record { pos = block_start (enter n); core = c } in let w : made ≡ t = cc in
    subst (λ (z : State). IsWritten z.core) w h
moved_written enter p (Gives v) t h e = cc
moved_written enter p Traps t h e = cc
moved_written enter p Asks t h e = cc
moved_written enter p Breaks t h e = cc

step_written : (g : Program) (s t : State) → IsWritten s.core → step g s ≡ Went t → IsWritten t.core
step_written g s t h e = moved_written g.enter s.pos (do_fetch g (g.fetch s.pos) s.core) t (fetch_written g (g.fetch s.pos) s.core h) e

module _ (src : Program) (Stops : Pos → Type 0) (p : Pos) where
  arrives_written : {s t : State} → Arrives src Stops p s t → IsWritten s.core → IsWritten t.core
  arrives_written (here e) h = h
  arrives_written (onward {s = s} {u = u} ne go rest) h = arrives_written rest (step_written src s u h go)

  -- so where the source is aligned they are
  pub aligns_written : (m : Since) (s t : State) → MatchesNext src Stops p m s t → IsWritten s.core → IsWritten t.core
  aligns_written Start s t a h = arrives_written a h
  aligns_written Same s t (inl a) h = subst (λ (z : State). IsWritten z.core) a.1 h
  aligns_written Same s t (inr (ne, (u, go, rest))) h = arrives_written rest (step_written src s u h go)
  aligns_written After s t (u, go, rest) h = arrives_written rest (step_written src s u h go)

-- ---- runs

-- a state that is met along is one of the run
pub along_run : (src f : Program) (sync_points : Pos → Option SyncPoint) (Stops : Pos → Pos → Type 0) (s0 f0 : State) {t s : State} {m : Since} →
    MatchedUpTo src f sync_points Stops s0 f0 t s m → (n : ℕ) × (run f n f0 ≡ Went t)
along_run src f sync_points Stops s0 f0 begin = (0, refl)
along_run src f sync_points Stops s0 f0 (other {t = t} {t' = t'} a none go) =
    let r = along_run src f sync_points Stops s0 f0 a in (suc r.0, run_step_last f r.0 f0 t r.1 ∙ go)
along_run src f sync_points Stops s0 f0 (met {t = t} {t' = t'} i a at al go) =
    let r = along_run src f sync_points Stops s0 f0 a in (suc r.0, run_step_last f r.0 f0 t r.1 ∙ go)

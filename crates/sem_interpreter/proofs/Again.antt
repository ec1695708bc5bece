-- What is kept stands for a state, and a return is one again.
use Rattle.std.proofs.Common.{◌≡◌, ℕ, zero, suc, subst, List, [], ◌∷◌, Option, Some, None, Bool, true, false, cond, nat_eq, refl, sym}
use Rattle.std.specs.Prelude.{slice_index_or}
use Rattle.std.specs.Map.{lookup}
use Rattle.rv64_instr.specs.Linked.{addresses_in}
use Rattle.rv64_instr.specs.Row.{Row, Calls, row_of, CallSite}
use Rattle.rv64_instr.specs.DefsAndUses.{caller_saved, reads}
use Rattle.rv64_instr.specs.declared.start.CallResult.{CallResult}
use Rattle.rv64_instr.specs.declared.start.CallTarget.{CallTarget}
use Rattle.mir_func.specs.declared.position.Pos.{Pos}
use Rattle.mir_func.specs.declared.item.ItemKind.{ItemKind}
use Rattle.mir_func.specs.declared.item.ItemKind.TheVariants.{Code, Mark, Phi}
use Rattle.sem_mir.specs.State.{Called, Core, Event, Reply, content, put_all, without, written, RunResult}
use Rattle.sem_mir.specs.Step as step
use Rattle.sem_mir.specs.Step.{moved, with_core, are_written, act, does, passed, call_faults, exec_external_call, do_item, do_fetch, called_at}
use Rattle.mir_func.specs.Graph.{Fetch, Here, EndOfBlock, Outside, Program}
use Rattle.mir_substitution.specs.Index.{is_key}
use Rattle.sem_interpreter.specs.declared.state.SourceStep.{SourceStep}
use Rattle.sem_interpreter.specs.declared.state.SourceStep.TheVariants.{Went, Returned, Faulted, Waits}
use Rattle.sem_interpreter.specs.Acts.{IsNext, IsAnswered, reply_of}
use Rattle.sem_interpreter.specs.Memory.{number_in}
use Rattle.sem_interpreter.proofs.Marking.{marks_of, marks_hold}
use Rattle.sem_interpreter.specs.StandsFor.{Concrete, flat, IsItemAnswered, IsStepAnswered}
use Rattle.sem_interpreter.specs.Steps.{IsStep, IsState, ReturnsAgain}

-- ---- a state for what is kept

-- a register's content goes by its number, and that of x0 is 0
holds_all : (xs : List (Option ℕ)) → slice_index_or xs 0 None ≡ Some 0 → (r : ℕ) → content (λ q. slice_index_or xs q None) r ≡ slice_index_or xs r None
holds_all xs z zero = sym z
holds_all xs z (suc r) = refl

pub a_state : (c : Concrete) → slice_index_or c.machine.registers 0 None ≡ Some 0 → (script : List Reply) (events : List Event) → IsState c script events
a_state c z script events = record {
  state = record {
    pos = c.pos;
    core = record {
      entry = c.machine.entry;
      area = c.machine.area;
      objects = λ n. number_in c.machine.objects n;
      symbols = addresses_in c.machine.symbols;
      regs = λ r. slice_index_or c.machine.registers r None;
      slots = λ n. lookup (nat_eq n) c.machine.slots;
      memory = λ a. number_in c.machine.memory a;
      script = script;
      events = events;
      pairs = λ k o. flat (lookup (is_key (k, o)) c.pairs);
      marks = marks_of c.assigned;
    };
  };
  stands = record {
    pos = refl;
    core = record {
      machine = record {
        entry = refl;
        area = refl;
        symbols = refl;
        objects = λ n. refl;
        registers = holds_all c.machine.registers z;
        slots =
            λ n. refl;
        memory = λ a. refl;
      };
      pairs = λ k o. refl;
      marks = marks_hold c.assigned;
    };
  };
  same_script = refl;
  same_events = refl;
}

-- ---- a return

-- a script that agrees with an answer
abbrev script_for : Option CallResult → List Reply
script_for None = []
script_for (Some a) = reply_of a ∷ []

next_for : (answer : Option CallResult) → IsNext answer (script_for answer)
next_for None = refl
next_for (Some a) = ([], refl)

row_for : (r : Row) (answer : Option CallResult) → IsAnswered r answer (script_for answer)
row_for (Calls call) answer = next_for answer
row_for _ answer = tt

step_for : (x : Fetch) (answer : Option CallResult) → IsStepAnswered x answer (script_for answer)
step_for (Here i) answer = by_kind i.kind where
  by_kind : (k : ItemKind) → IsItemAnswered k answer (script_for answer)
  by_kind (Code c n) = row_for (row_of c) answer
  by_kind (Mark v m) = tt
  by_kind (Phi p n) = tt
step_for (EndOfBlock k n) answer = tt
step_for Outside answer = tt

-- a call returns from no run
call_goes_on : (enter : ℕ → ℕ) (p : Pos) (f : Core → Core) (call : CallSite) (s : Core) (results : RunResult) (other : Option CallResult) →
    moved enter p (with_core f (act (Calls call) s)) ≡ step.Returned results → IsAnswered (Calls call) other s.script
unfolding act does
call_goes_on enter p f call s results other e = by_test (are_written s (reads (Calls call))) e where
  by_frame : (z : Bool) (c : Core) → moved enter p (with_core f (cond z step.Traps (step.Falls c))) ≡ step.Returned results →
      IsAnswered (Calls call) other s.script
  by_frame true c e = cc
  by_frame false c e = cc

  by_script : (t : CallTarget) (vs ns : List ℕ) (rs : List Reply) →
      moved enter p (with_core f (exec_external_call t vs ns s rs)) ≡ step.Returned results →
      IsAnswered (Calls call) other s.script
  by_script t vs ns [] e = cc
  by_script t vs ns (r ∷ rs) e = by_frame (call_faults s ns r)
      (record s {
        regs = put_all caller_saved r.regs s.regs;
        slots = without ns s.slots;
        memory = written s.memory r.writes;
        script = rs;
        events = Called t vs ∷ s.events;
      }) e

  by_test : (z : Bool) →
      moved enter p (with_core f (cond z (exec_external_call (called_at s call.callee) (passed s call) call.outgoing s s.script) step.Traps)) ≡ step.Returned
      results →
      IsAnswered (Calls call) other s.script
  by_test true e = by_script (called_at s call.callee) (passed s call) call.outgoing s.script e
  by_test false e = cc

row_again : (enter : ℕ → ℕ) (p : Pos) (f : Core → Core) (r : Row) (s : Core) (results : RunResult) (other : Option CallResult) →
    moved enter p (with_core f (act r s)) ≡ step.Returned results → IsAnswered r other s.script
row_again enter p f (Calls call) s results other e = call_goes_on enter p f call s results other e
row_again enter p f _ s results other e = tt

kind_again : (g : Program) (p : Pos) (k : ItemKind) (s : Core) (results : RunResult) (other : Option CallResult) →
    moved g.enter p (do_item g k s) ≡ step.Returned results → IsItemAnswered k other s.script
kind_again g p (Code c n) s results other e = row_again g.enter p _ (row_of c) s results other e
kind_again g p (Mark v m) s results other e = tt
kind_again g p (Phi q n) s results other e = tt

fetch_again : (g : Program) (p : Pos) (x : Fetch) (s : Core) (results : RunResult) (other : Option CallResult) →
    moved g.enter p (do_fetch g x s) ≡ step.Returned results → IsStepAnswered x other s.script
fetch_again g p (Here i) s results other e = kind_again g p i.kind s results other e
fetch_again g p (EndOfBlock k n) s results other e = tt
fetch_again g p Outside s results other e = tt

only_returned : (r : SourceStep) (new : Concrete) (n : step.Next) (result : RunResult) → n ≡ step.Returned result → IsStep r new n → r ≡ Returned
only_returned Returned new n results e h = refl
only_returned Went new n results e (t, w, h) = cc
only_returned Faulted new n results e h = cc
only_returned Waits new n results e h = cc

pub returns_again : ReturnsAgain
returns_again g answer other r kept new states first second =
    let at = states (script_for answer) [] in
    let s = at.state in
    let agrees : IsStepAnswered (g.fetch s.pos) answer s.core.script = subst (λ (rs : List Reply). IsStepAnswered (g.fetch s.pos) answer rs)
    (sym at.same_script) (step_for (g.fetch s.pos) answer) in
    let h = first s at.stands agrees in
    only_returned r new (step.step g s) h.0 h.1 (second s at.stands (fetch_again g s.pos (g.fetch s.pos) s.core h.0 other h.1))

-- Calls and endings, as the interpreter makes them.
use Rattle.std.proofs.Common.{◌≡◌, ℕ, List, ◌∷◌, ◌++◌, Option, Some, None, Bool, true, false, cond, refl, sym, ap, ◌∙◌, subst}
use Rattle.std.specs.Prelude.{◌+◌, ◌||◌, not, is_some, nat_eq, Result, Ok, Err, IfOk}
use Rattle.std.specs.List.{list_all, list_any}
use Rattle.std.specs.Map.{lookup}
use Rattle.rv64_instr.specs.DefsAndUses.{reads, way_reads, caller_saved}
use Rattle.rv64_instr.specs.Decoded.{ShowsCallee}
use Rattle.rv64_instr.specs.declared.decoded.Callee as decoded
use Rattle.rv64_instr.specs.LocationEffects.{is_outgoing}
use Rattle.rv64_instr.specs.declared.start.CallResult.{CallResult}
use Rattle.rv64_instr.specs.declared.start.CallTarget.{CallTarget}
use Rattle.rv64_instr.specs.Row.{Row, Calls, Returns, row_of}
use Rattle.rv64_instr.specs.Row.{implicit_uses, outgoing_words, CallSite, Callee, Ending}
use Rattle.rv64_instr.specs.Instruction.{Instruction}
use Rattle.rv64_instr.specs.declared.operand.Operand.{Operand}
use Rattle.std.specs.declared.alloc.AllocError.{AllocError}
use Rattle.rv64_instr.proofs.Passed.{outgoing_are, passes_any}
use Rattle.sem_mir.proofs.Implicit.{AreImplicit, implicit}
use Rattle.sem_interpreter.specs.declared.machine.Outcome.{Outcome}
use Rattle.sem_mir.specs.State.{Core, Reply, Called, put_all, without, written, writes_frame}
use Rattle.sem_mir.specs.Step as step
use Rattle.sem_mir.specs.Step.{act, does, are_written, called_at, passed, are_passed, call_faults, exec_external_call}
use Rattle.sem_interpreter.specs.declared.machine.InterpreterState.{InterpreterState}
use Rattle.sem_interpreter.specs.declared.machine.Outcome.TheVariants.{Falls, Returns as Ended, Faults, Waits}
use Rattle.sem_interpreter.specs.Memory.{MemoryHolds, some_writes}
use Rattle.sem_interpreter.specs.Places.{RegistersHold, SlotsHold}
use Rattle.sem_interpreter.specs.Acts.{MachineHolds, EndsSo, Acts, Takes, reply_of}
-- code whose registers are written does what its row says
use Rattle.sem_interpreter.proofs.Rows.{act_written, act_unwritten, leads_below, at_row}

-- that what code of this row reads is written, as the interpreter tells
abbrev pub AreWritten : InterpreterState → Bool → Row → Type 0
AreWritten m b r = (s : Core) → MachineHolds m s → b ≡ are_written s (reads r)

pub returns_so : (m : InterpreterState) (ending : Ending Callee) → AreWritten m true (Returns ending) → (answer : Option CallResult) →
    Acts (Returns ending) answer Ended m m
unfolding does
returns_so m ending h answer = record { ends = λ s holds script. (_, act_written (Returns ending) s (sym (h s holds))); stays = refl; leads = tt }

pub returns_faults : (m : InterpreterState) (ending : Ending Callee) → AreWritten m false (Returns ending) → (s : Core) → MachineHolds m s →
    act (Returns ending) s ≡ step.Traps
returns_faults m ending h s holds = act_unwritten (Returns ending) s (sym (h s holds))

pub calls_faults : (m : InterpreterState) (call : CallSite) → AreWritten m false (Calls call) → (s : Core) → MachineHolds m s →
    act (Calls call) s ≡ step.Traps
calls_faults m call h s holds = act_unwritten (Calls call) s (sym (h s holds))

pub calls_waits : (m : InterpreterState) (call : CallSite) → AreWritten m true (Calls call) → Acts (Calls call) None Waits m m
unfolding does
calls_waits m call h = record {
  ends = λ s holds script. act_written (Calls call) s (sym (h s holds))
      ∙ ap (exec_external_call (called_at s call.callee) (passed s call) call.outgoing s) script;
  stays = refl;
  leads = tt;
}

-- ---- an answer
-- the slots that a call passes are written, as the interpreter tells
abbrev pub AllPassed : InterpreterState → (outgoing : List ℕ) → Bool → Type 0
AllPassed m outgoing b = b ≡ list_all (λ n. is_some (lookup (nat_eq n) m.slots)) outgoing

slots_passed : (m : InterpreterState) (outgoing : List ℕ) (b : Bool) → AllPassed m outgoing b → (s : Core) → MachineHolds m s → are_passed s outgoing ≡ b
slots_passed m outgoing b e s holds = (λ i. list_all (λ n. is_some (holds.slots n i)) outgoing) ∙ sym e

frame_written : (m : InterpreterState) (a : CallResult) (b : Bool) → b ≡ writes_frame m.entry m.area (some_writes a.writes) → (s : Core) → MachineHolds m s →
    writes_frame s.entry s.area (some_writes a.writes) ≡ b
frame_written m a b e s holds = (λ i. writes_frame (holds.entry i) (holds.area i) (some_writes a.writes)) ∙ sym e

-- a call's fault, by whether the slots that it passes are written and whether its answer writes to the frame
faults_by : (m : InterpreterState) (outgoing : List ℕ) (a : CallResult) (p w : Bool) → AllPassed m outgoing p →
    w ≡ writes_frame m.entry m.area (some_writes a.writes) → (s : Core) → MachineHolds m s → call_faults s outgoing (reply_of a) ≡ (not p || w)
faults_by m outgoing a p w e f s holds =
    ap (λ (b : Bool). not b || writes_frame s.entry s.area (some_writes a.writes)) (slots_passed m outgoing p e s holds)
    ∙ ap (λ (b : Bool). not p || b) (frame_written m a w f s holds)

taken_core : (target : CallTarget) (args outgoing : List ℕ) (s : Core) (a : CallResult) (rest : List Reply) → Core
taken_core target args outgoing s a rest = record s {
  regs = put_all caller_saved a.regs s.regs;
  slots = without outgoing s.slots;
  memory = written s.memory
      (some_writes a.writes);
  script = rest;
  events = Called target args ∷ s.events;
}

answered_by : (target : CallTarget) (args outgoing : List ℕ) (s : Core) (a : CallResult) (rest : List Reply) (b : Bool) →
    call_faults s outgoing (reply_of a) ≡ b →
    exec_external_call target args outgoing s (reply_of a ∷ rest) ≡ cond b step.Traps (step.Falls (taken_core target args outgoing s a rest))
unfolding taken_core
answered_by target args outgoing s a rest b h = ap (λ (x : Bool). cond x step.Traps (step.Falls (taken_core target args outgoing s a rest))) h

pub takes_unpassed : (m : InterpreterState) (outgoing : List ℕ) (a : CallResult) → AllPassed m outgoing false → Takes outgoing a Faults m m
takes_unpassed m outgoing a e = record {
  ends = λ target args rest s holds.
      answered_by target args outgoing s a rest true (faults_by m outgoing a false (writes_frame m.entry m.area (some_writes a.writes)) e refl s holds);
  stays = refl;
  leads = tt;
}

pub takes_faults : (m : InterpreterState) (outgoing : List ℕ) (a : CallResult) → AllPassed m outgoing true →
    true ≡ writes_frame m.entry m.area (some_writes a.writes) → Takes outgoing a Faults m m
takes_faults m outgoing a e f = record {
  ends = λ target args rest s holds. answered_by target args outgoing s a rest true (faults_by m outgoing a true true e f s holds);
  stays = refl;
  leads = tt;
}

-- slots that operands pass, cleared
cleared : (old new : List (ℕ × ℕ)) (operands : List Operand) →
    ((n : ℕ) → lookup (nat_eq n) new ≡ cond (list_any (is_outgoing n) operands) None (lookup (nat_eq n) old)) →
    (f : ℕ → Option ℕ) → SlotsHold old f → SlotsHold new (without (outgoing_words operands) f)
cleared old new operands h f holds n =
    ap (λ (b : Bool). cond b None (f n)) (sym (passes_any n operands))
    ∙ ap (λ (o : Option ℕ). cond (list_any (is_outgoing n) operands) None o) (holds n) ∙ sym (h n)

pub takes_falls : (old : InterpreterState) (regs : List (Option ℕ)) (slots bytes : List (ℕ × ℕ)) (operands : List Operand) (a : CallResult) →
    AllPassed old (outgoing_words operands) true → false ≡ writes_frame old.entry old.area (some_writes a.writes) →
    ((f : ℕ → Option ℕ) → RegistersHold old.registers f → RegistersHold regs (put_all caller_saved a.regs f)) →
    ((n : ℕ) → lookup (nat_eq n) slots ≡ cond (list_any (is_outgoing n) operands) None (lookup (nat_eq n) old.slots)) →
    ((f : ℕ → ℕ) → MemoryHolds old.memory f → MemoryHolds bytes (written f (some_writes a.writes))) →
    Takes (outgoing_words operands) a Falls old (record old { registers = regs; slots = slots; memory = bytes })
unfolding taken_core
takes_falls old regs slots bytes operands a e g registers clears memory = record {
  ends = λ target args rest s holds. (
    taken_core target args (outgoing_words operands) s a rest,
    answered_by target args (outgoing_words operands) s a rest false (faults_by old (outgoing_words operands) a true false e g s holds),
    record {
      machine = record {
        entry = holds.entry;
        area = holds.area;
        symbols = holds.symbols;
        objects = holds.objects;
        registers = registers s.regs holds.registers;
        slots = cleared old.slots slots operands clears s.slots holds.slots;
        memory = memory s.memory holds.memory;
      };
      pairs = refl;
      marks = refl;
    },
  );
  stays = tt;
  leads = tt;
}

pub calls_takes : (m new : InterpreterState) (o : Outcome) (call : CallSite) (a : CallResult) → AreWritten m true (Calls call) →
    Takes call.outgoing a o m new → Acts (Calls call) (Some a) o m new
unfolding does
calls_takes m new o call a h took = record {
  ends = λ s holds script.
      let target = called_at s call.callee in
      let values = passed s call in
      let same = act_written (Calls call) s (sym (h s holds)) ∙ ap (exec_external_call target values call.outgoing s) script.1 in
      subst (λ (x : step.Outcome). EndsSo o new s x) (sym same) (took.ends target values script.0 s holds);
  stays = took.stays;
  leads = leads_below (Calls call) o (λ p. refl) took.leads;
}

pub calls_ok : (m new : InterpreterState) (callee : decoded.Callee) (operands : List Operand) (outgoing : List ℕ) (a : CallResult) →
    ((call : CallSite) → ShowsCallee callee call.callee → call.args ≡ implicit_uses operands → AreWritten m true (Calls call)) →
    (r : Result Outcome AllocError) → IfOk r (λ o. Takes outgoing a o m new) →
    IfOk r (λ o. (call : CallSite) → ShowsCallee callee call.callee → call.args ≡ implicit_uses operands → call.outgoing ≡ outgoing →
    Acts (Calls call) (Some a) o m new)
calls_ok m new callee operands outgoing a h (Ok o) took = λ call shows same passes.
    calls_takes m new o call a (h call shows same) (subst (λ (ns : List ℕ). Takes ns a o m new) (sym passes) took)
calls_ok m new callee operands outgoing a h (Err x) took = took

-- what a call passes is what its operands use implicitly, and so is what an ending reads. A call passes the slots that its operands name
pub at_call_ok : (i : Instruction) (callee : decoded.Callee) (operands : List Operand) (call : CallSite) (answer : Option CallResult)
    (m new : InterpreterState) → operands ≡ i.operands → row_of i ≡ Calls call → ShowsCallee callee call.callee → (x : Result Outcome AllocError) →
    IfOk x (λ o. (k : CallSite) → ShowsCallee callee k.callee → k.args ≡ implicit_uses operands → k.outgoing ≡ outgoing_words operands →
    Acts (Calls k) answer o m new) →
    IfOk x (λ o. Acts (row_of i) answer o m new)
at_call_ok i callee operands call answer m new w e shows (Ok o) h =
    let same : call.args ≡ implicit_uses operands = subst (λ (r : Row). AreImplicit i.operands r) e (implicit i) ∙ sym (ap implicit_uses w) in
    at_row (row_of i) (Calls call) answer o m new e (h call shows same (outgoing_are i call e ∙ sym (ap outgoing_words w)))
at_call_ok i callee operands call answer m new w e shows (Err x) h = h

pub at_return : (i : Instruction) (operands : List Operand) (ending : Ending Callee) (answer : Option CallResult) (o : Outcome) (m new : InterpreterState) →
    operands ≡ i.operands → row_of i ≡ Returns ending →
    ((k : Ending Callee) → way_reads k.way ++ k.values ≡ implicit_uses operands → Acts (Returns k) answer o m new) → Acts (row_of i) answer o m new
at_return i operands ending answer o m new w e h =
    let same : way_reads ending.way ++ ending.values ≡ implicit_uses operands =
    subst (λ (r : Row). AreImplicit i.operands r) e (implicit i) ∙ sym (ap implicit_uses w) in
    at_row (row_of i) (Returns ending) answer o m new e (h ending same)

-- What a step does to the script and to the count of calls: a call takes one answer, and nothing else takes any.
use Rattle.std.proofs.Common.{◌≡◌, ℕ, suc, ◌+◌, ◌/◌, ◌*◌, ◌%◌, ◌^◌, List, [], ◌∷◌, length}
use Rattle.std.proofs.Common.{Option, Some, None, Bool, true, false, cond, nat_eq, map, refl, ap, subst}
use Rattle.rv64_instr.specs.Row.{Back, Callee, CallSite, Ending}
use Rattle.rv64_instr.specs.Arithmetic.{taken, store_width}
use Rattle.rv64_instr.specs.Row.{PointedBy, ObjectAt, BesidePart}
use Rattle.rv64_instr.specs.Row.{Row, Fixes, Moves, Sets, Loads, Stores, Branches, Jumps}
use Rattle.rv64_instr.specs.Row.{implicit_uses}
use Rattle.rv64_instr.specs.declared.start.CallTarget.{CallTarget}
use Rattle.rv64_word.specs.declared.machine_op.MachineOp.{MachineOp}
use Rattle.rv64_word.specs.Decoded.{decoded}
use Rattle.rv64_word.specs.MachineRow.{MachineRow, Does, Links, LinksTo, machine_row}
use Rattle.sem_mir.specs.State.{Reply, low_bytes, touches_frame, RunResult}
use Rattle.sem_machine.specs.Image.{CodeLine, Image, word_at}
use Rattle.sem_machine.specs.Machine.{Machine, register, address_of}
use Rattle.sim_machine.specs.Kept.{calls_in}
use Rattle.sim_machine.proofs.Rows.{calls_stay}
use Rattle.sem_machine.specs.MachineStep.{Continues, Ends, past, at, set_register, store, does_row}
use Rattle.sem_machine.specs.MachineStep.{BadWord, does, does_operation, does_word, does_left, does_call, goes_to, leaves_by, linked_at, result_at, step_call}
use Rattle.sem_machine.specs.MachineStep.{called_at, passed, callee_size, return_word}

-- the script and the count of calls are the same
pub record Keeps (s u : Machine) : Type 0 where
  pub script : u.script ≡ s.script
  pub calls : calls_in u.events ≡ calls_in s.events

-- what goes on goes on to one state
same_state : (t u : Machine) → Continues t ≡ Continues u → t ≡ u
same_state t u e = cc

one_state : (s t u : Machine) → Continues t ≡ Continues u → Keeps s t → Keeps s u
one_state s t u e k = subst (Keeps s) (same_state t u e) k

kept : (s t u : Machine) → Continues t ≡ Continues u → t.script ≡ s.script → t.events ≡ s.events → Keeps s u
kept s t u e script events = one_state s t u e (record { script = script; calls = ap calls_in events })

no_end : (result : RunResult) (u : Machine) → Ends result ≡ Continues u → ⊥
no_end results u e = cc

stored_keeps : (a : ℕ) (bytes : List ℕ) (s u : Machine) → Continues (past 4 (store a bytes s)) ≡ Continues u → Keeps s u
stored_keeps a bytes s u e =
    one_state s (past 4 (store a bytes s)) u e (record { script = refl; calls = calls_stay (touches_frame s.entry s.area a (length bytes)) a bytes s.events })

row_keeps : (r : Row) (s u : Machine) → does_row r s ≡ Continues u → Keeps s u
unfolding does_row
row_keeps (Fixes rd n) s u e = kept s _ u e refl refl
row_keeps (Moves rd rs) s u e = kept s _ u e refl refl
row_keeps (Sets rd op a b) s u e = kept s _ u e refl refl
row_keeps (Loads rd op (PointedBy r) offset) s u e = kept s _ u e refl refl
row_keeps (Loads rd op (ObjectAt n) offset) s u e = absurd cc
row_keeps (Loads rd op (BesidePart r y) offset) s u e = absurd cc
row_keeps (Stores op rs (PointedBy r) offset) s u e = stored_keeps (address_of s r offset) (low_bytes (store_width op) (register s rs)) s u e
row_keeps (Stores op rs (ObjectAt n) offset) s u e = absurd cc
row_keeps (Stores op rs (BesidePart r y) offset) s u e = absurd cc
row_keeps (Branches op a b target) s u e = by_test (taken op (register s a) (register s b)) e where
  by_test : (t : Bool) → Continues (cond t (at target s) (past 4 s)) ≡ Continues u → Keeps s u
  by_test true q = kept s (at target s) u q refl refl
  by_test false q = kept s (past 4 s) u q refl refl
row_keeps (Jumps target) s u e = kept s _ u e refl refl
row_keeps _ s u e = absurd cc

machine_keeps : (r : MachineRow) (s u : Machine) → does r s ≡ Continues u → Keeps s u
machine_keeps (Does row) s u e = row_keeps row s u e
machine_keeps (Links rd target) s u e = kept s (at target (set_register rd ((s.counter + 4) % 2 ^ 64) s)) u e refl refl
machine_keeps (LinksTo rd base offset) s u e =
    kept s (at (address_of s base offset / 2 * 2) (set_register rd ((s.counter + 4) % 2 ^ 64) s)) u e refl refl

operation_keeps : (o : Option MachineOp) (s u : Machine) → does_operation o s ≡ Continues u → Keeps s u
operation_keeps None s u e = absurd cc
operation_keeps (Some m) s u e = machine_keeps (machine_row s.counter m) s u e

pub word_keeps : (l : CodeLine) (o : Option ℕ) (s u : Machine) → does_word l o s ≡ Continues u → Keeps s u
word_keeps l None s u e = absurd cc
word_keeps l (Some w) s u e = by_test (nat_eq w return_word) e where
  by_test : (t : Bool) → cond t (Ends (record { way = Back; values = map (register s) (implicit_uses l.instruction.operands) }))
      (does_operation (decoded w) s) ≡ Continues u →
      Keeps s u
  by_test true q = absurd (no_end _ u q)
  by_test false q = operation_keeps (decoded w) s u q

-- where control leaves the function for a callee, nothing goes on
pub left_keeps : (image : Image) (l : CodeLine) (left : Option (Ending Callee)) (s u : Machine) → does_left image l left s ≡ Continues u → Keeps s u
left_keeps image l None s u e = word_keeps l (linked_at image l s) s u e
left_keeps image l (Some ending) s u e = by_word (leaves_by ending.way s.counter (word_at image.text s.counter)) e where
  by_word : (t : Bool) → cond t (Ends (result_at s ending)) BadWord ≡ Continues u → Keeps s u
  by_word true q = absurd (no_end (result_at s ending) u q)
  by_word false q = absurd cc

-- a call takes one answer and counts
pub record Takes (rest : List Reply) (s u : Machine) : Type 0 where
  pub script : u.script ≡ rest
  pub calls : calls_in u.events ≡ suc (calls_in s.events)

answer_takes : (size : ℕ) (target : CallTarget) (args outgoing : List ℕ) (s u : Machine) (r : Reply) (rest script : List Reply) → script ≡ r ∷ rest →
    step_call size target args outgoing s script ≡ Continues u →
    Takes rest s u
answer_takes size target args outgoing s u r rest [] q e = absurd cc
answer_takes size target args outgoing s u r rest (x ∷ more) q e =
    let same : more ≡ rest = cc in
    subst (λ (t : Machine). Takes rest s t) (same_state _ u e) (record { script = same; calls = refl })

-- a call whose word doesn't go to its callee doesn't go on
pub call_takes : (call : CallSite) (w : Option ℕ) (s u : Machine) (r : Reply) (rest : List Reply) → s.script ≡ r ∷ rest →
    does_call call w s ≡ Continues u → Takes rest s u
call_takes call w s u r rest q e = by_word (goes_to 1 call.callee s.counter w) e where
  by_word : (t : Bool) →
      cond t (step_call (callee_size call.callee) (called_at s call.callee) (passed s call) call.outgoing s s.script) BadWord ≡ Continues u → Takes rest s u
  by_word true f = answer_takes (callee_size call.callee) (called_at s call.callee) (passed s call) call.outgoing s u r rest s.script q f
  by_word false f = absurd cc

-- What rows do, in the form in which they are done.
use Rattle.std.proofs.Common.{◌≡◌, ℕ, zero, suc, ◌+◌, ◌%◌, ◌^◌, ◌<◌, List, ◌∷◌, length, Bool, true, false, cond, refl, sym, ap, ◌∙◌, subst, arith}
use Rattle.std.specs.Prelude.{slice_index}
use Rattle.rv64_instr.specs.Linked.{addresses_in}
use Rattle.rv64_instr.specs.Arithmetic.{computed}
use Rattle.rv64_instr.specs.declared.op.ImmediateOp.{ImmediateOp}
use Rattle.rv64_instr.specs.declared.op.ImmediateOp.TheVariants.{Addi}
use Rattle.rv64_instr.specs.declared.op.RegisterOp.TheVariants.{Add}
use Rattle.rv64_instr.specs.Row as row
use Rattle.sem_machine.specs.Machine.{Machine, register}
use Rattle.rv64_word.specs.MachineRow.{link_row}
use Rattle.sem_mir.specs.State.{Event, Wrote, stored, touches_frame}
use Rattle.sem_machine.specs.MachineStep.{Stepped, Continues, does, does_row, past, at, set_register, store}
use Rattle.sem_interpreter.specs.Memory.{MemoryHolds}
use Rattle.sim_machine.specs.Kept.{StandsFor, Goes, calls_in}
use Rattle.sim_machine.specs.steps.Immediates.{on_registers}
use Rattle.sim_machine.specs.declared.hart.Hart.{Hart}

add_number : (rd a n : ℕ) (s : Machine) → n < 2 ^ 64 → register s a < 2 ^ 64 →
    does_row (row.add_row rd a n) s ≡ Continues (past 4 (set_register rd (computed Add (register s a) n) s))
unfolding does_row computed
add_number rd zero n s k l =
    let e : n ≡ (0 + n) % 2 ^ 64 = omega arith in ap (λ (v : ℕ). Continues (past 4 (set_register rd v s))) e
add_number rd (suc r) zero s k l =
    let e : s.regs (suc r) ≡ (s.regs (suc r) + 0) % 2 ^ 64 = omega arith in ap (λ (v : ℕ). Continues (past 4 (set_register rd v s))) e
add_number rd (suc r) (suc n) s k l = refl

-- an operation with a number is the one on registers
pub with_number : (op : ImmediateOp) (rd a n : ℕ) (s : Machine) → n < 2 ^ 64 → register s a < 2 ^ 64 →
    does_row (row.immediate_row op rd a n) s ≡ Continues (past 4 (set_register rd (computed (on_registers op) (register s a) n) s))
unfolding does_row
with_number Addi rd a n s k l = add_number rd a n s k l
with_number _ rd a n s k l = refl

-- a step that sets a register and goes past its word
pub sets : (now : Hart) (step : Stepped) (rd v w : ℕ) (s : Machine) → step ≡ Continues (past 4 (set_register rd v s)) → w ≡ v →
    StandsFor now (past 4 (set_register rd w s)) → Goes step now
sets now step rd v w s e same h =
    record { to = past 4 (set_register rd v s); goes = e; stands = subst (λ (x : ℕ). StandsFor now (past 4 (set_register rd x s))) same h }

-- a branch goes to its target where it is taken, and past its word otherwise
pub branches : (now : Hart) (t : Bool) (target u : ℕ) (s : Machine) → t ≡ true → u ≡ target → StandsFor now (at u s) →
    Goes (Continues (cond t (at target s) (past 4 s))) now
branches now t target u s e same h = record {
  to = at target s;
  goes = ap (λ (b : Bool). Continues (cond b (at target s) (past 4 s))) e;
  stands = subst (λ (x : ℕ). StandsFor now (at x s)) same h;
}

pub passes : (now : Hart) (t : Bool) (target : ℕ) (s : Machine) → t ≡ false → StandsFor now (past 4 s) →
    Goes (Continues (cond t (at target s) (past 4 s))) now
passes now t target s e h =
    record { to = past 4 s; goes = ap (λ (b : Bool). Continues (cond b (at target s) (past 4 s))) e; stands = h }

-- a jump that sets a register, x0 or another
pub links : (now : Hart) (rd target u link v : ℕ) (s : Machine) → u ≡ target → v ≡ link → link ≡ (s.counter + 4) % 2 ^ 64 →
    StandsFor now (at u (set_register rd v s)) → Goes (does (link_row rd target) s) now
unfolding does_row
links now zero target u link v s e f g h =
    record { to = at target s; goes = refl; stands = subst (λ (x : ℕ). StandsFor now (at x s)) e h }
links now (suc rd) target u link v s e f g h = record {
  to = at target (set_register (suc rd) ((s.counter + 4) % 2 ^ 64) s);
  goes = refl;
  stands = subst (λ (x : ℕ). StandsFor now (at target (set_register (suc rd) x s))) (f ∙ g)
      (subst (λ (x : ℕ). StandsFor now (at x (set_register (suc rd) v s))) e h);
}

pub links_to : (now : Hart) (rd target u v : ℕ) (s : Machine) → u ≡ target → v ≡ (s.counter + 4) % 2 ^ 64 → StandsFor now (at u (set_register rd v s)) →
    Goes (Continues (at target (set_register rd ((s.counter + 4) % 2 ^ 64) s))) now
links_to now rd target u v s e f h = record {
  to = at target (set_register rd ((s.counter + 4) % 2 ^ 64) s);
  goes = refl;
  stands = subst (λ (x : ℕ). StandsFor now (at target (set_register rd x s))) f (subst (λ (x : ℕ). StandsFor now (at x (set_register rd v s))) e h);
}

pub calls_stay : (t : Bool) (a : ℕ) (bytes : List ℕ) (events : List Event) → calls_in (cond t events (Wrote a bytes ∷ events)) ≡ calls_in events
calls_stay true a bytes events = refl
calls_stay false a bytes events = refl

-- a store
pub stores : (old : Hart) (now : Hart) (s : Machine) (a : ℕ) (bytes : List ℕ) → StandsFor old s → now.entry ≡ old.entry → now.area ≡ old.area →
    now.symbols ≡ old.symbols →
    now.counter ≡ old.counter + 4 → now.regs ≡ old.regs → now.calls ≡ old.calls → MemoryHolds now.memory (stored s.memory a bytes) →
    StandsFor now (past 4 (store a bytes s))
stores old now s a bytes h e z y c r k m = record {
  entry = h.entry ∙ sym e;
  area = h.area ∙ sym z;
  symbols = h.symbols ∙ ap addresses_in (sym y);
  counter = ap (λ (n : ℕ). n + 4) h.counter ∙ sym c;
  regs = λ q l. h.regs q l ∙ sym (ap (λ (xs : List ℕ). slice_index xs q) r);
  memory = m;
  calls = ap (λ (n : ℕ). n % 2 ^ 64) (calls_stay (touches_frame s.entry s.area a (length bytes)) a bytes s.events) ∙ (h.calls ∙ sym k);
}

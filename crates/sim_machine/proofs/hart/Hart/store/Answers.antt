use Rattle.std.proofs.Common.{◌≡◌, ℕ, ◌+◌, ◌%◌, ◌^◌, refl, ap, subst}
use Rattle.rv64_instr.specs.Arithmetic.{store_width}
use Rattle.sem_mir.specs.State.{low_bytes, stored}
use Rattle.sem_machine.specs.Machine.{register, address_of}
use Rattle.sem_machine.specs.MachineStep.{does_row, past, store}
use Rattle.sem_interpreter.specs.Memory.{MemoryHolds}
use Rattle.sim_machine.proofs.Rows.{stores}
use Rattle.sim_machine.proofs.hart.Hart.store.Goals as goal

pub returns-clause-ok : goal.returns-clause-ok
unfolding does_row
returns-clause-ok c = λ s h.
    let width = store_width c.args.op in
    let address = address_of s c.args.base c.args.offset in
    let value = register s c.args.rs in
    let at : (c.read.result + c.args.offset) % 2 ^ 64 ≡ address = ap (λ (x : ℕ). (x + c.args.offset) % 2 ^ 64) (c.read.ensures s h) in
    let held = c.in_ok-store.ensures.ok s.memory h.memory in
    let m = subst (λ (x : ℕ). MemoryHolds c.store.new.self (stored s.memory address (low_bytes width x))) (c.read-number.ensures s h)
    (subst (λ (x : ℕ). MemoryHolds c.store.new.self (stored s.memory address (low_bytes x c.read-number.result))) c.store_width.ensures
    (subst (λ (x : ℕ). MemoryHolds c.store.new.self (stored s.memory x (low_bytes c.store_width.result c.read-number.result))) at held)) in
    record {
      to = past 4 (store address (low_bytes width value) s);
      goes = refl;
      stands = stores c.args.self.now _ s address (low_bytes width value) h refl refl refl refl refl refl m;
    }

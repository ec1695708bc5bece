use Rattle.std.proofs.Common.{ℕ, ap, subst, ◌∙◌}
use Rattle.sem_mir.specs.State.{stored, low_bytes}
use Rattle.sem_mir.specs.Step.{is_fault}
use Rattle.sem_interpreter.specs.Memory.{MemoryHolds}
use Rattle.sem_interpreter.proofs.Rows.{put_falls, put_faults}
use Rattle.sem_interpreter.proofs.machine.InterpreterState.store_to.Goals as goal

pub returns-clause-ok : goal.returns-clause-ok
returns-clause-ok c = λ x is.
    let width = c.store_width-count.ensures in
    put_falls c.args.self.now c.store.new.self c.args.value c.args.address c.args.op x
    (λ s holds. c.if-is_fault.ensures x is s holds ∙ ap (is_fault x s c.args.address) width)
    (λ f h. subst (λ (n : ℕ). MemoryHolds c.store.new.self (stored f c.args.address (low_bytes n c.args.value))) width (c.in_ok-store.ensures.ok f h))

pub returns-then-is_fault-clause-ok : goal.returns-then-is_fault-clause-ok
returns-then-is_fault-clause-ok c = λ x is.
    put_faults c.args.self.now c.args.value c.args.address c.args.op x
    (λ s holds. c.if-is_fault.ensures x is s holds ∙ ap (is_fault x s c.args.address) c.store_width-count.ensures)

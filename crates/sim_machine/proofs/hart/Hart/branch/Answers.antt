use Rattle.std.proofs.Common.{ℕ, ◌+◌, ◌%◌, ◌^◌, ◌∙◌, ap, sym}
use Rattle.rv64_instr.specs.Arithmetic.{taken}
use Rattle.sem_machine.specs.Machine.{register}
use Rattle.sem_machine.specs.MachineStep.{does_row}
use Rattle.sim_machine.proofs.Rows.{branches, passes}
use Rattle.sim_machine.proofs.hart.Hart.branch.Goals as goal

pub returns-then-is_taken-clause-stands : goal.returns-then-is_taken-clause-stands
unfolding does_row
returns-then-is_taken-clause-stands c = λ s h.
    let e = ap (λ (x : ℕ). taken c.args.op x c.read-2.result) (c.read.ensures s h) ∙ ap (λ (y : ℕ). taken c.args.op (register s c.args.a) y)
    (c.read-2.ensures s h) in
    branches _ _ _ _ s (sym (c.if-is_taken.ensures ∙ e)) (ap (λ (n : ℕ). (n + c.args.offset) % 2 ^ 64) (sym h.counter)) (c.jump.ensures.stands s h)

pub returns-else-is_taken-clause-stands : goal.returns-else-is_taken-clause-stands
unfolding does_row
returns-else-is_taken-clause-stands c = λ s h.
    let e = ap (λ (x : ℕ). taken c.args.op x c.read-2.result) (c.read.ensures s h) ∙ ap (λ (y : ℕ). taken c.args.op (register s c.args.a) y)
    (c.read-2.ensures s h) in
    passes _ _ ((s.counter + c.args.offset) % 2 ^ 64) s (sym (c.if-is_taken.ensures ∙ e)) (c.pass.ensures.stands s h)

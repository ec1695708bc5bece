use Rattle.std.proofs.Common.{◌≡◌, ◌∙◌, ap, arith}
use Rattle.std.proofs.Common.{◌<◌, ◌^◌}
use Rattle.rv64_instr.specs.Arithmetic.{computed}
use Rattle.rv64_instr.specs.declared.op.RegisterOp.{RegisterOp}
use Rattle.rv64_instr.specs.Row as row
use Rattle.sem_machine.specs.Machine.{register}
use Rattle.sem_machine.specs.MachineStep.{does_row}
use Rattle.sim_machine.specs.steps.Immediates.{on_registers}
use Rattle.sim_machine.proofs.Rows.{with_number, sets}
use Rattle.sim_machine.proofs.hart.Hart.compute_number.Goals as goal

pub returns-clause-stands : goal.returns-clause-stands
returns-clause-stands c = λ s h.
    let op = c.args.op in
    let n = c.args.n in
    let x : c.read-x.result ≡ register s c.args.a = c.read-x.ensures s h in
    let low : register s c.args.a < 2 ^ 64 = omega (arith, x, c.read-x.type_inv) in
    let v = c.compute.ensures ∙ (ap (λ (o : RegisterOp). computed o c.read-x.result n) c.on_registers.ensures ∙ ap (λ (y : _). computed (on_registers op) y n)
    x) in
    sets c.set.new.self (does_row (row.immediate_row op c.args.rd c.args.a n) s) c.args.rd _ c.compute.result s
    (with_number op c.args.rd c.args.a n s (omega (arith, c.ranges.n.fits)) low) v (c.set.ensures.stands s h)

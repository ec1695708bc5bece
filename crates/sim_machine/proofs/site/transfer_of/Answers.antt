use Rattle.std.proofs.Common.{sym, ap, subst}
use Rattle.rv64_instr.specs.declared.decoded.Decoded.{Decoded}
use Rattle.rv64_instr.specs.Decoded.{Shows}
use Rattle.rv64_instr.specs.Row.{Row}
use Rattle.sem_machine.specs.MachineStep.{call_of, left_by}
use Rattle.sim_machine.specs.steps.Sites.{TransfersSo}
use Rattle.sim_machine.proofs.site.transfer_of.Goals as goal

pub returns-in-Calls : goal.returns-in-Calls
returns-in-Calls c = λ row shows.
    let shown = subst (λ (d : Decoded). Shows d row) c.in-Calls.is shows in
    (shown.0, ap call_of shown.1, shown.2)

pub returns-in-Returns : goal.returns-in-Returns
returns-in-Returns c = λ row shows.
    let shown = subst (λ (d : Decoded). Shows d row) c.in-Returns.is shows in
    subst (λ (r : Row). TransfersSo c.transfer_by.result (call_of r) (left_by r)) (sym shown.1) (c.transfer_by.ensures shown.0 shown.2)

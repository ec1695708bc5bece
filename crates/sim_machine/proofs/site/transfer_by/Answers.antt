use Rattle.std.proofs.Common.{None, sym, subst}
use Rattle.rv64_instr.specs.declared.decoded.Way.{Way}
use Rattle.rv64_instr.specs.Decoded.{ShowsWay}
use Rattle.rv64_instr.specs.Row.{Returns}
use Rattle.sem_machine.specs.MachineStep.{left_by}
use Rattle.sim_machine.specs.declared.site.Transfer.TheVariants.{Departure}
use Rattle.sim_machine.specs.steps.Sites.{TransfersSo}
use Rattle.sim_machine.proofs.Sites.{transfer_back, transfer_tail, transfer_never}
use Rattle.sim_machine.proofs.site.transfer_by.Goals as goal

pub returns-in-Back : goal.returns-in-Back
returns-in-Back c = λ ending shows. transfer_back ending (subst (λ (w : Way). ShowsWay w ending.way) c.in-Back.is shows)

pub returns-in-Tail : goal.returns-in-Tail
returns-in-Tail c = λ ending shows.
    subst (λ (w : Way). ShowsWay w ending.way → TransfersSo (Departure w) None (left_by (Returns ending))) (sym c.in-Tail.is) (transfer_tail _ ending)
    shows

pub returns-in-Never : goal.returns-in-Never
returns-in-Never c = λ ending shows.
    subst (λ (w : Way). ShowsWay w ending.way → TransfersSo (Departure w) None (left_by (Returns ending))) (sym c.in-Never.is) (transfer_never _ ending)
    shows

use Rattle.std.proofs.Common.{sym, ap}
use Rattle.sim_machine.specs.Departures.{found_left}
use Rattle.sim_machine.proofs.Departures.{nothing_told, told_so}
use Rattle.sim_machine.proofs.departure.leaves_for.Goals as goal

pub returns-in-Some : goal.returns-in-Some
returns-in-Some c =
    told_so c.args.hart.now _ _ (ap (found_left c.args.code.now.framed) c.in-Some.ensures.found) c.entry_leaves_for.result c.entry_leaves_for.ensures

pub returns-in-None : goal.returns-in-None
returns-in-None c = nothing_told c.args.hart.now _ (sym (ap (found_left c.args.code.now.framed) c.in-None.ensures.found))

use Rattle.std.proofs.Common.{length}
use Rattle.value_solver.proofs.Settling.{turned_visit}
use Rattle.value_solver.proofs.solve.EquationsAnalysis.visit.Goals as goal

pub returns : goal.returns
returns c =
    turned_visit (length c.args.self.now.start.now.classes) c.args.self.now.start.now c.args.self.now.flows.now c.args.self.now.preds.now _ _ c.args.block _
    c.requires.valid c.in_ok-changed.ensures

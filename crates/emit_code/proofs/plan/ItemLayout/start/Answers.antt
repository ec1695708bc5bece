use Rattle.std.proofs.Common.{◌∙◌}
use Rattle.emit_code.proofs.Planned.{starts_at}
use Rattle.emit_code.proofs.plan.ItemLayout.start.Goals as goal

pub returns-clause-value : goal.returns-clause-value
returns-clause-value c = λ l p. c.address.ensures.value ∙ starts_at l c.args.self.now c.args.block c.first_of.result p (c.first_of.ensures l.framed.blocks
    p.table)

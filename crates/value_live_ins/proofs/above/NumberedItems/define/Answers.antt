use Rattle.std.proofs.Common.{sym, ◌∙◌}
use Rattle.value_live_ins.proofs.Defining.{defined_above}
use Rattle.value_live_ins.proofs.above.NumberedItems.define.Goals as goal

pub returns-in-Some : goal.returns-in-Some
returns-in-Some c = λ on.
    defined_above c.args.self.now c.args.items.now c.in-Some.i c.args.number c.args.operand (sym c.index_of.ensures ∙ c.in-Some.is) (c.defines_at.ensures on)

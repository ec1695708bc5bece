use Rattle.std.proofs.Common.{ℕ, List, ap, ◌∙◌, subst}
use Rattle.inline_instances.specs.steps.Table.{scope_behind, IsEntering}
use Rattle.inline_instances.proofs.Tables.{entered_more}
use Rattle.inline_instances.proofs.table.InstanceTable.enter.Goals as goal

pub loop-call-preserved : goal.loop-call-preserved
loop-call-preserved c = λ from calls old is.
    let meta = c.args.meta.now in
    let scope = c.args.scope in
    let before = c.loop-call.self in
    entered_more meta from scope calls old c.pop.new.self.items c.in-Some.call c.loop-call.outer c.scope_in_way-inner.result before c.add.new.self
    c.in_ok-add.field-0
    (subst (λ (ns : List ℕ). IsEntering meta from scope calls old ns c.loop-call.outer before) c.in-Some.ensures.items
    (c.loop-call.invariant from calls old is))
    c.in_ok-add.ensures.instances c.in_ok-add.ensures.marks (c.scope_in_way-inner.ensures ∙ ap (scope_behind meta scope) c.as_slice.ensures.value)

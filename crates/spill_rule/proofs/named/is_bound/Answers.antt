use Rattle.std.proofs.Common.{ap, ◌∙◌}
use Rattle.mir_func.specs.Function.{Function}
use Rattle.spill_rule.specs.Choice.{binds}
use Rattle.spill_rule.specs.steps.Any.{any_item}
use Rattle.spill_rule.proofs.Flat.{any_flat}
use Rattle.spill_rule.proofs.named.is_bound.Goals as goal

pub returns : goal.returns
returns c =
    let r = c.args.r in
    c.binds_any.ensures ∙ ap (any_item (binds r)) (c.as_slice.ensures ∙ ap (λ (g : Function). g.blocks) c.f.view_is) ∙
    any_flat (binds r) c.args.f.now.blocks

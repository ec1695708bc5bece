use Rattle.std.proofs.Common.{ℕ, ap, sym, ◌∙◌}
use Rattle.mir_func.specs.declared.item.Item.{Item}
use Rattle.pass_trait.specs.sem_mir.InitialState.{first_of}
use Rattle.spill_rule.specs.Choice.{goes}
use Rattle.spill_rule.specs.steps.Any.{any_item}
use Rattle.spill_rule.proofs.named.goes_to_first.Goals as goal

pub returns-in-Some : goal.returns-in-Some
returns-in-Some c =
    let blocks = c.args.blocks.now in
    c.has_branch_to.ensures ∙
    ap (λ (n : ℕ). any_item (λ (i : Item). goes n i.kind) blocks) (sym (ap first_of c.in-Some.ensures.cases.0))

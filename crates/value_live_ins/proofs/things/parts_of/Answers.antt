use Rattle.std.proofs.Common.{List, map, sym, ap, ◌∙◌, subst}
use Rattle.mir_func.specs.declared.item.Item.{Item}
use Rattle.mir_func.specs.declared.variable.VarId.{VarId}
use Rattle.mir_func.specs.Sound.{AllItems}
use Rattle.value_solver.specs.declared.tracked.Tracked.TheVariants.{Part}
use Rattle.value_live_ins.specs.Gathering.{HasPart}
use Rattle.value_live_ins.proofs.things.parts_of.Goals as goal

pub returns-clause-parts : goal.returns-clause-parts
returns-clause-parts c = c.in_ok-variables.ensures.parts ∙ ap (map Part) (sym (c.in_ok-parts.ensures ∙ c.into_vec.ensures))

pub returns-clause-has : goal.returns-clause-has
returns-clause-has c =
    subst (λ (vs : List VarId). AllItems (λ (i : Item). HasPart vs i.kind) c.args.blocks.now) (sym (c.in_ok-parts.ensures ∙ c.into_vec.ensures))
    c.in_ok-variables.ensures.has

use Rattle.std.proofs.Common.{set, sym, ap, ◌∙◌}
use Rattle.pass_salvage.proofs.pass_trait.InPlaceMap.{map_turn}
use Rattle.copyprop_block.specs.Roots.{renamed_operand}
use Rattle.copyprop_block.proofs.roots.rename_all.Goals as goal

pub loop-o-preserved : goal.loop-o-preserved
loop-o-preserved c =
    let p = renamed_operand c.args.roots.now in
    let made = c.rename_operand.ensures ∙ ap p (sym c.o-item.is) in
    ap (set c.loop-o.o-items c.loop-o.o-index) made ∙
    map_turn p c.deref_mut-o-items.result.now c.loop-o.o-items c.loop-o.o-index c.o-item.result c.loop-o-test.true c.loop-o.invariant c.o-item.is

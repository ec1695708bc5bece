use Rattle.std.proofs.Common.{subst, arith, ◌∙◌}
use Rattle.std.proofs.lemmas.Grind.{common_steps}
use Rattle.std.proofs.lemmas.List.Elements.{All-more}
use Rattle.dwarf_rnglists.specs.Ranges.{Are64Bit}
use Rattle.dwarf_rnglists.proofs.section.push_lists.Goals as goal

pub loop-list-preserved : goal.loop-list-preserved
loop-list-preserved c = record {
  written = grind (arith, common_steps);
  wide =
      All-more Are64Bit c.args.lists.now c.loop-list.list-index c.list-item.result c.loop-list-test.true c.loop-list.invariant.wide
      (subst Are64Bit (c.as_slice.ensures ∙ c.list-item.is) c.in_ok-push_list.ensures.wide);
}

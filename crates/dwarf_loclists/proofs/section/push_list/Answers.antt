use Rattle.std.specs.Prelude.{◌^◌, ◌<◌}
use Rattle.std.proofs.Common.{subst}
use Rattle.std.proofs.lemmas.Grind.{common_steps}
use Rattle.std.proofs.Common.{arith}
use Rattle.std.proofs.lemmas.List.Elements.{All-more}
use Rattle.dwarf_loclists.specs.declared.range.Range.{Range}
use Rattle.dwarf_loclists.specs.Ranges.{HasWords}
use Rattle.dwarf_loclists.proofs.section.push_list.Goals as goal

pub loop-range-preserved : goal.loop-range-preserved
loop-range-preserved c = record {
  written = grind (arith, common_steps);
  wide =
      All-more (λ (r : Range). (r.lo < 2 ^ 64) × (r.hi < 2 ^ 64) × HasWords r.location) c.args.ranges.now c.loop-range.range-index c.range-item.result
      c.loop-range-test.true c.loop-range.invariant.wide
      (subst (λ (r : Range). (r.lo < 2 ^ 64) × (r.hi < 2 ^ 64) × HasWords r.location) c.range-item.is
      (c.in_ok-push_entry.ensures.low, c.in_ok-push_entry.ensures.high, c.in_ok-push_entry.ensures.wide));
}

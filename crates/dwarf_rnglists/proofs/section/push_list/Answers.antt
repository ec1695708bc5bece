use Rattle.std.specs.Prelude.{◌^◌, ◌<◌}
use Rattle.std.proofs.Common.{arith}
use Rattle.std.proofs.lemmas.Grind.{common_steps}
use Rattle.std.proofs.lemmas.List.Elements.{All-more}
use Rattle.dwarf_rnglists.specs.declared.range.AddressRange.{AddressRange}
use Rattle.dwarf_rnglists.proofs.section.push_list.Goals as goal

pub loop-range-preserved : goal.loop-range-preserved
loop-range-preserved c = record {
  written = grind (arith, common_steps);
  wide =
      All-more (λ (r : AddressRange). (r.lo < 2 ^ 64) × (r.hi < 2 ^ 64)) c.args.ranges.now c.loop-range.range-index _
      c.loop-range-test.true c.loop-range.invariant.wide (c.in_ok-push_entry.ensures.low, c.in_ok-push_entry.ensures.high);
}

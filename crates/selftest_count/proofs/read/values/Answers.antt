use Rattle.std.proofs.Common.{List, sym, ap, ◌∙◌}
use Rattle.dwarf_loclists.specs.declared.range.Range.{Range}
use Rattle.dwarf_loclists.specs.Ranges.{location_in}
use Rattle.sim_machine.proofs.Listed.{located}
use Rattle.selftest_count.proofs.read.values.Goals as goal

pub places-requires : goal.places-requires
places-requires c =
    located c.args.ranges.now c.args.address c.in-Some.location.now c.requires.1
    (ap (λ (ranges : List Range). location_in ranges c.args.address) (sym c.as_slice.ensures) ∙ c.in-Some.ensures)

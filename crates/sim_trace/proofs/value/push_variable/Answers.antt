use Rattle.std.proofs.Common.{List, sym, ap, ◌∙◌}
use Rattle.dwarf_loclists.specs.declared.range.Range.{Range}
use Rattle.dwarf_loclists.specs.Ranges.{location_in}
use Rattle.sim_machine.proofs.Listed.{located}
use Rattle.sim_trace.proofs.value.push_variable.Goals as goal

pub push_location-requires : goal.push_location-requires
push_location-requires c =
    located c.args.variable.now.ranges c.args.hart.now.counter c.in-Some.location.now c.requires.1
    (ap (λ (ranges : List Range). location_in ranges c.args.hart.now.counter) (sym c.as_slice.ensures) ∙ c.in-Some.ensures)

use Rattle.std.proofs.Common.{◌≤◌, ◌^◌, length, subst, arith}
use Rattle.dwarf_loclists.specs.declared.range.Location.TheVariants.{Parts}
use Rattle.dwarf_loclists.specs.Ranges.{IsLocated}
use Rattle.selftest_count.proofs.Few.{few_places}
use Rattle.selftest_count.proofs.read.places.Goals as goal

pub returns-in-Parts-clause-bounded : goal.returns-in-Parts-clause-bounded
returns-in-Parts-clause-bounded c =
    let fit : length c.in-Parts.parts ≤ 2 ^ 32 = few_places (Parts c.in-Parts.parts) (subst IsLocated c.in-Parts.is c.requires) in
    omega (arith, fit, c.len.ensures)

use Rattle.std.proofs.Common.{◌≡◌, ◌+◌, ◌≤◌, drop}
use Rattle.std.specs.Prelude.{sum_by}
use Rattle.dwarf_loclists.specs.Ranges.{Ascend}
use Rattle.report_function.specs.Report.{words_in}
use Rattle.report_function.proofs.Before.{room}
use Rattle.report_function.proofs.covers.covered.Given as goal

abbrev pub invariant-loop-range : goal.invariant-loop-range
invariant-loop-range l = record {
  ascend : Ascend (drop l.range-index l.ranges);
  room : l.total ≤ room l.base l.count (drop l.range-index l.ranges);
  sum : l.total + sum_by (words_in l.base l.count) (drop l.range-index l.ranges) ≡ sum_by (words_in l.base l.count) l.ranges;
}

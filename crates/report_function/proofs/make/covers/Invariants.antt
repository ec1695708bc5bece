use Rattle.std.proofs.Common.{◌≡◌, ◌++◌, drop}
use Rattle.report_function.specs.Report.{covers_of}
use Rattle.report_function.proofs.make.covers.Given as goal

abbrev pub invariant-loop-i : goal.invariant-loop-i
invariant-loop-i l = l.covers ++ covers_of l.code (drop l.i l.names) (drop l.i l.lists) ≡ covers_of l.code l.names l.lists

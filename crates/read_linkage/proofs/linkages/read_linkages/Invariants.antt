use Rattle.std.proofs.Common.{◌≡◌, drop}
use Rattle.read_linkage.specs.Lines.{linkages_from, linkages_of}
use Rattle.read_linkage.proofs.linkages.read_linkages.Given as goal

abbrev pub invariant-loop-line : goal.invariant-loop-line
invariant-loop-line l = linkages_from l.linkages (drop l.line-index l.lines) ≡ linkages_of l.lines

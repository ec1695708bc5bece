use Rattle.std.proofs.Common.{◌≡◌, drop}
use Rattle.read_linkage.specs.Lines.{linkage_named}
use Rattle.read_linkage.proofs.linkages.linkage_named.Given as goal

abbrev pub invariant-loop-linked : goal.invariant-loop-linked
invariant-loop-linked l = linkage_named (drop l.linked-index l.linkages) l.name ≡ linkage_named l.linkages l.name

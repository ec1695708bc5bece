use Rattle.std.proofs.Common.{sym}
use Rattle.std.proofs.lemmas.Bool.{le-leb, lt-leb}
use Rattle.base_ids.specs.Limits.{FIXED}
use Rattle.mir_printer.proofs.operand.push_object.Goals as goal

pub returns-then-n-ge-FIXED-clause-ok : goal.returns-then-n-ge-FIXED-clause-ok
returns-then-n-ge-FIXED-clause-ok c = rw (sym c.number-n.ensures, le-leb FIXED c.number-n.result c.if-n-ge-FIXED.true) c.push_numbered.ensures.ok

pub returns-else-n-ge-FIXED-clause-ok : goal.returns-else-n-ge-FIXED-clause-ok
returns-else-n-ge-FIXED-clause-ok c =
    rw (sym c.number-n.ensures, lt-leb FIXED c.number-n.result c.if-n-ge-FIXED.false) c.push_numbered-else-n-ge-FIXED.ensures.ok

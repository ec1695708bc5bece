use Rattle.std.proofs.Common.{sym}
use Rattle.std.proofs.lemmas.List.{append-nil}
use Rattle.mir_printer.proofs.Addends.{negative_text, positive_text, no_text}
use Rattle.mir_printer.proofs.operand.push_addend.Goals as goal

pub returns-then-addend-lt0-clause-ok : goal.returns-then-addend-lt0-clause-ok
returns-then-addend-lt0-clause-ok c =
    rw (negative_text c.args.addend c.unsigned_abs.result c.ranges.addend c.if-addend-lt0.true c.unsigned_abs.ensures.value) c.push_numbered.ensures.ok

pub returns-then-addend-gt0-clause-ok : goal.returns-then-addend-gt0-clause-ok
returns-then-addend-gt0-clause-ok c =
    rw (positive_text c.args.addend c.unsigned_abs-then-addend-gt0.result c.ranges.addend c.if-addend-gt0.true c.unsigned_abs-then-addend-gt0.ensures.value)
    c.push_numbered-then-addend-gt0.ensures.ok

pub returns-else-addend-gt0-clause-ok : goal.returns-else-addend-gt0-clause-ok
returns-else-addend-gt0-clause-ok c = rw (no_text c.args.addend c.ranges.addend c.if-addend-lt0.false c.if-addend-gt0.false) (sym (append-nil _))

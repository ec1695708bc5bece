use Rattle.std.proofs.Common.{sym}
use Rattle.read_line.proofs.body.begins.Goals as goal

pub returns-then-differ : goal.returns-then-differ
returns-then-differ c = sym (c.differ.ensures c.if-differ.true)

use Rattle.std.proofs.Common.{sym}
use Rattle.read_metadata.specs.Definition.{is_symbol}
use Rattle.read_metadata.proofs.Firsts.{found_here, goes_on, nowhere}
use Rattle.read_linkage.proofs.line.from_symbol.Goals as goal

pub returns-then-is_outside : goal.returns-then-is_outside
returns-then-is_outside c =
    found_here is_symbol c.args.line.now c.loop-at.quoted c.loop-at.at c.loop-at-test.true (sym c.if-is_outside.ensures) c.loop-at.invariant

pub loop-at-preserved : goal.loop-at-preserved
loop-at-preserved c =
    rw c.quoted_behind-quoted.ensures
    (goes_on is_symbol c.args.line.now c.loop-at.quoted c.loop-at.at c.loop-at-test.true (sym c.if-is_outside.ensures) c.loop-at.invariant)

pub returns : goal.returns
returns c = nowhere is_symbol c.args.line.now c.loop-at.quoted c.loop-at.at c.loop-at-test.false c.loop-at.invariant

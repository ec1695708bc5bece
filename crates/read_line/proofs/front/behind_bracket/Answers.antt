use Rattle.std.proofs.Common.{arith}
use Rattle.read_line.proofs.Closing.{goes_on, closed, never_closed}
use Rattle.read_line.proofs.front.behind_bracket.Goals as goal

pub returns-in-None : goal.returns-in-None
returns-in-None c =
    closed c.args.lexemes.now c.loop-at.at c.loop-at.inner c.index-lexemes-at.result c.index-lexemes-at.result c.loop-at-test.true c.index-lexemes-at.is
    c.in-None.ensures.value c.loop-at.invariant.read

pub loop-at-preserved : goal.loop-at-preserved
loop-at-preserved c = record {
  shallow = omega (arith, c.in-Some.ensures.bound, c.loop-at.invariant.shallow);
  read = goes_on c.args.lexemes.now c.loop-at.at c.loop-at.inner c.in-Some.more c.index-lexemes-at.result c.index-lexemes-at.result
      c.loop-at-test.true c.index-lexemes-at.is
      c.in-Some.ensures.value c.loop-at.invariant.read;
}

pub returns : goal.returns
returns c = never_closed c.args.lexemes.now c.loop-at.at c.loop-at.inner c.loop-at-test.false c.loop-at.invariant.read

use Rattle.std.proofs.Common.{[]}
use Rattle.read_declarations.specs.Constants.{stray, pool_behind}
use Rattle.read_declarations.proofs.PoolEntries.{line_more, lines_all}
use Rattle.read_declarations.proofs.constants.entries.Goals as goal

pub loop-index-preserved : goal.loop-index-preserved
loop-index-preserved c = record {
  read = line_more c.args.lines.now c.loop-index.index c.index-lines-index.result c.from_line.result.now c.loop-index.read c.take_line.new.read
      (pool_behind (record { constants = []; refused = stray c.args.lines.now }) c.args.lines.now) c.loop-index-test.true c.index-lines-index.is c.from_line.ensures
      c.loop-index.invariant.read c.in_ok-take_line.ensures.read;
  known = c.in_ok-take_line.ensures.known;
}

pub returns : goal.returns
returns c =
    lines_all c.args.lines.now c.loop-index.index c.loop-index.read (pool_behind (record { constants = []; refused = stray c.args.lines.now }) c.args.lines.now)
    c.loop-index-test.false c.loop-index.invariant.read

use Rattle.std.specs.Prelude.{All}
use Rattle.std.proofs.Common.{◌<◌, ◌^◌, arith}
use Rattle.dwarf_line.specs.Table.{IsRow}
use Rattle.dwarf_line.proofs.WriteLoops.{ascend_more, rows_more, each_all, on_ok}
use Rattle.std.proofs.lemmas.List.Elements.{All-more}
use Rattle.dwarf_line.proofs.write.push_sequence.Goals as goal

pub loop-row-preserved : goal.loop-row-preserved
loop-row-preserved c = record {
  ascend = ascend_more _ _ _ _ _ c.loop-row-test.true c.loop-row.invariant.ascend;
  written = rows_more _ _ _ _ _ _ _ _ c.loop-row-test.true c.loop-row.invariant.written c.in_ok-push_row.ensures.bytes;
  ranges = All-more IsRow _ _ _ c.loop-row-test.true c.loop-row.invariant.ranges c.in_ok-push_row.ensures.ranges;
}

pub returns-clause-ranges : goal.returns-clause-ranges
returns-clause-ranges c =
    let all : All IsRow c.args.rows.now × (c.args.end < 2 ^ 64) = (
      each_all IsRow _ _ c.loop-row-test.false c.loop-row.invariant.ranges,
      omega arith,
    ) in on_ok _ _ all

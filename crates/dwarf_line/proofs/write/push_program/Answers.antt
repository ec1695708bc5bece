use Rattle.dwarf_line.specs.Table.{HasRange}
use Rattle.dwarf_line.proofs.WriteLoops.{sequence_more, each_more, range_of}
use Rattle.dwarf_line.proofs.write.push_program.Goals as goal

pub loop-sequence-preserved : goal.loop-sequence-preserved
loop-sequence-preserved c = record {
  written =
      sequence_more _ _ _ _ _ _ _ c.loop-sequence-test.true c.sequence-item.is c.loop-sequence.invariant.written c.as_slice.ensures
      c.in_ok-push_sequence.ensures.bytes;
  ranges =
      each_more HasRange _ _ _ c.loop-sequence-test.true c.sequence-item.is c.loop-sequence.invariant.ranges
      (range_of c.sequence-item.result _ c.as_slice.ensures c.in_ok-push_sequence.ensures.ranges);
}

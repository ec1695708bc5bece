use Rattle.dwarf_line.specs.Table.{IsNumbered}
use Rattle.dwarf_line.specs.Spelling.{file}
use Rattle.dwarf_line.proofs.WriteLoops.{part_more, each_more}
use Rattle.dwarf_line.proofs.write.push_files.Goals as goal

pub loop-file-preserved : goal.loop-file-preserved
loop-file-preserved c = record {
  written = part_more file _ _ _ _ _ _ c.loop-file-test.true c.file-item.is c.loop-file.invariant.written c.in_ok-push_source.ensures.bytes;
  numbers = each_more IsNumbered _ _ _ c.loop-file-test.true c.file-item.is c.loop-file.invariant.numbers c.in_ok-push_source.ensures.number;
}

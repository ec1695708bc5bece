use Rattle.std.proofs.Common.{◌∙◌}
use Rattle.dwarf_line.proofs.WriteLoops.{part_more}
use Rattle.dwarf_frame.specs.Spelling.{common_entry, description}
use Rattle.dwarf_frame.specs.FirstFault.{HasSize}
use Rattle.dwarf_frame.proofs.WriteLoops.{at_item, sizes_fit, section_written}
use Rattle.dwarf_frame.proofs.write.write_frame.Goals as goal

pub push_description-requires-clause-size : goal.push_description-requires-clause-size
push_description-requires-clause-size c = at_item HasSize _ _ _ c.loop-function-test.true c.function-item.is (sizes_fit _ _ c.requires.size)

pub loop-function-preserved : goal.loop-function-preserved
loop-function-preserved c =
    part_more description (common_entry c.args.undefined.now) _ _ _ _ _ c.loop-function-test.true c.function-item.is c.loop-function.invariant
    c.in_ok-push_description.ensures

pub returns-clause-bytes : goal.returns-clause-bytes
returns-clause-bytes c = c.from.ensures ∙ section_written _ _ _ _ c.loop-function-test.false c.loop-function.invariant

pub returns-clause-section : goal.returns-clause-section
returns-clause-section c = record {
  lost = c.requires.undefined;
  spelled = returns-clause-bytes c;
  sizes = sizes_fit _ _ c.requires.size;
  are = c.requires.functions;
}

use Rattle.std.proofs.Common.{List, [], subst}
use Rattle.dwarf_frame.specs.FirstFault.{IsSection}
use Rattle.dwarf_frame.specs.declared.table.FrameDescription.{FrameDescription}
use Rattle.dwarf_sections.proofs.sections.frame.Goals as goal

pub returns-clause-section : goal.returns-clause-section
returns-clause-section c = record {
  table = c.in_ok-table.table;
  described = c.in_ok-table.ensures.describe;
  section =
      subst (λ (table : List FrameDescription). IsSection [] c.in_ok-write_frame.field-0 table) c.as_slice-2.ensures c.in_ok-write_frame.ensures.section;
}

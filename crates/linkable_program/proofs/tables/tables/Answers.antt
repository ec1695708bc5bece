use Rattle.std.proofs.Common.{ap, ◌∙◌, subst}
use Rattle.read_debug_nodes.specs.Maps.{DebugMaps}
use Rattle.linkable_command.specs.read_linkage.Lines.{linkages_of}
use Rattle.program_rows.specs.Program.{IsTableOf}
use Rattle.read_types.specs.Types.{types_of}
use Rattle.program_entries.specs.Program.{program_unit}
use Rattle.program_entries.proofs.Tags.{type_tags}
use Rattle.typed_unit.proofs.Typed.{have_types}
use Rattle.linkable_program.specs.Program.{IsTreeOf}
use Rattle.linkable_program.proofs.tables.tables.Goals as goal

pub returns-clause-tables : goal.returns-clause-tables
returns-clause-tables c = record {
  entries =
      subst (λ (debug : DebugMaps). IsTreeOf debug c.args.meta.now c.args.text_len c.args.with_frame c.args.functions.now c.in_ok-entries.entries)
      c.in_ok-debug.ensures c.in_ok-entries.ensures.tree;
  typed =
      have_types (types_of c.in_ok-debug.debug)
      (program_unit c.in_ok-debug.debug c.args.meta.now c.args.text_len c.args.with_frame c.args.functions.now) c.in_ok-entries.entries
      c.in_ok-entries.ensures.tree (type_tags c.in_ok-debug.debug);
  rows =
      subst (λ (debug : DebugMaps). IsTableOf debug c.args.meta.now c.args.functions.now c.in_ok-rows.rows) c.in_ok-debug.ensures
      c.in_ok-rows.ensures.table;
  present = c.in_ok-frames.ensures.present;
  frames = c.in_ok-frames.ensures.describe;
  ranges = c.in_ok-ranges.ensures.section;
  linkages = c.in_ok-linkages.ensures ∙ ap linkages_of c.as_slice.ensures;
  writable = record {
    references = c.in_ok-entries.ensures.references;
    info = c.in_ok-entries.ensures.small;
    names = c.in_ok-rows.ensures.names;
    sequences = c.in_ok-rows.ensures.sequences;
    rows = c.in_ok-rows.ensures.small;
    frames = c.in_ok-frames.ensures.each;
    frame = c.in_ok-frames.ensures.small;
  };
}

use Rattle.std.proofs.Common.{ℕ, List, ap, ◌∙◌}
use Rattle.read_types.specs.Types.{type_nodes}
use Rattle.dwarf_info.specs.declared.unit.Unit.{Unit as CompilationUnit}
use Rattle.dwarf_line_table.specs.declared.file.SourceFile.{SourceFile}
use Rattle.dwarf_line_table.specs.Program.{program_file}
use Rattle.prologue_rows.specs.Files.{table_file}
use Rattle.program_entries.specs.Functions.{typed_unit}
use Rattle.program_entries.proofs.program.program_unit.Goals as goal

pub returns-clause-content : goal.returns-clause-content
returns-clause-content c =
    let d = c.args.debug.now in
    let m = c.args.meta.now in
    let fs = c.args.functions.now in
    let b = c.args.frame_base in
    c.in_ok-content.ensures
    ∙ ap (λ (ns : List ℕ). typed_unit d ns m c.in_ok-file.file fs c.in_ok-entries.entries b) c.in_ok-types.ensures.nodes
    ∙ ap (λ (f : SourceFile). typed_unit d (type_nodes d) m f fs c.in_ok-entries.entries b) (c.in_ok-file.ensures ∙ ap table_file c.in_ok-unit.ensures)
    ∙ ap (λ (u : CompilationUnit). typed_unit d (type_nodes d) m (table_file (program_file m fs)) fs u b) c.in_ok-entries.ensures.unit

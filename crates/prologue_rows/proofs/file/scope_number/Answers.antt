use Rattle.std.proofs.Common.{◌≡◌, ◌++◌, Option, ap, ◌∙◌}
use Rattle.std.proofs.lemmas.Result.{IfOk-weaker}
use Rattle.dwarf_info.specs.Entries.{named}
use Rattle.read_metadata.specs.declared.node.FileNode.{FileNode}
use Rattle.dwarf_line_table.specs.declared.file.SourceFile.{SourceFile}
use Rattle.dwarf_line_table.specs.Files.{file_or}
use Rattle.dwarf_line_table.specs.SourcePosition.{scope_file}
use Rattle.prologue_rows.specs.Files.{table_file, number_of}
use Rattle.prologue_rows.proofs.file.scope_number.Goals as goal

pub returns-in-Some-clause-number : goal.returns-in-Some-clause-number
returns-in-Some-clause-number c = λ more.
    let same : record { name = c.text_of.result.now; dir = c.text_of-in-Some.result.now } ≡ scope_file c.args.meta.now c.args.unit.now c.args.scope =
    (λ i. record {
      name = (c.text_of.ensures ∙ ap named c.as_slice.ensures) i;
      dir = (c.text_of-in-Some.ensures ∙ ap named c.as_slice-in-Some.ensures) i;
    })
    ∙ ap (λ (o : Option FileNode). file_or o c.args.unit.now) c.in-Some.ensures in
    IfOk-weaker c.file_number.result _ _ (λ n e. e ∙ ap (λ (f : SourceFile). number_of (c.file_number.new.files ++ more) (table_file f)) same)
    (c.file_number.ensures.number more)

pub returns-in-None-clause-number : goal.returns-in-None-clause-number
returns-in-None-clause-number c = λ more.
    let same : record { name = c.as_slice-in-None.result.now; dir = c.as_slice-in-None-2.result.now }
    ≡ scope_file c.args.meta.now c.args.unit.now c.args.scope =
    (λ i. record { name = c.as_slice-in-None.ensures i; dir = c.as_slice-in-None-2.ensures i })
    ∙ ap (λ (o : Option FileNode). file_or o c.args.unit.now) c.in-None.ensures in
    IfOk-weaker c.file_number-in-None.result _ _
    (λ n e. e ∙ ap (λ (f : SourceFile). number_of (c.file_number-in-None.new.files ++ more) (table_file f)) same)
    (c.file_number-in-None.ensures.number more)

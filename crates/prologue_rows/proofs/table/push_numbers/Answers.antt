use Rattle.std.proofs.Common.{◌≡◌, ◌++◌, arith, refl, ap, ◌∙◌}
use Rattle.std.proofs.lemmas.List.{drop_all}
use Rattle.dwarf_line_table.proofs.Split.{split_at}
use Rattle.dwarf_line_table.specs.declared.file.SourceFile.{SourceFile}
use Rattle.dwarf_line_table.specs.Files.{with_new, is_file}
use Rattle.prologue_rows.specs.Files.{table_file, number_of}
use Rattle.prologue_rows.proofs.Numbered.{starts, next, done}
use Rattle.prologue_rows.proofs.table.push_numbers.Goals as goal

pub loop-file-init : goal.loop-file-init
loop-file-init c = starts table_file (λ n d. n) c.args.files.now c.args.declared.now c.args.numbers.now c.args.numbers.now refl

pub file_number-requires : goal.file_number-requires
file_number-requires c = omega (arith, c.loop-file.invariant.few, c.requires, c.loop-file-test.true)

pub loop-file-preserved : goal.loop-file-preserved
loop-file-preserved c =
    let file : record { name = c.as_slice.result.now; dir = c.as_slice-in-loop-file.result.now } ≡ c.file-item.result =
    λ i. record { name = c.as_slice.ensures i; dir = c.as_slice-in-loop-file.ensures i } in
    next table_file (λ n d. n) _ _ _ _ _ _ c.file-item.result _ _ _ _ _ c.loop-file.invariant
    (split_at c.args.declared.now c.loop-file.file-index c.file-item.result c.loop-file-test.true c.file-item.is)
    (c.in_ok-file_number.ensures.known ∙ ap (λ (f : SourceFile). with_new is_file c.loop-file.files (table_file f)) file)
    (λ more. c.in_ok-file_number.ensures.number more ∙ ap (λ (f : SourceFile). number_of (c.file_number.new.files ++ more) (table_file f)) file)
    c.in_ok-file_number.ensures.few refl c.in_ok-push.ensures.ok

pub returns : goal.returns
returns c =
    let all = done table_file (λ n d. n) _ _ _ _ _ _ c.loop-file.invariant
    (drop_all c.loop-file.file-index c.args.declared.now c.loop-file-test.false) in
    record { known = all.known; numbers = all.listed; few = all.few }

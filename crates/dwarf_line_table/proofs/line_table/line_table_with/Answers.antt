use Rattle.std.proofs.Common.{List, [], subst, sym, ◌++◌, arith}
use Rattle.std.specs.Prelude.{All}
use Rattle.std.proofs.lemmas.List.{drop_all}
use Rattle.std.proofs.lemmas.List.Elements.{All-append}
use Rattle.dwarf_line.specs.declared.table.Sequence.{Sequence}
use Rattle.dwarf_line.specs.Table.{HasNames, IsSequence}
use Rattle.dwarf_line_table.specs.declared.source_and_code.SourceAndCode.{SourceAndCode}
use Rattle.dwarf_line_table.specs.Files.{unit_in}
use Rattle.dwarf_line_table.proofs.Ascending.{sequence_is}
use Rattle.dwarf_line_table.proofs.Clean.{table_names}
use Rattle.dwarf_line_table.proofs.Split.{split_at}
use Rattle.dwarf_line_table.proofs.SourceTables.{TableSoFar, table_next, table_done_with, numbers_done}
use Rattle.dwarf_line_table.proofs.line_table.line_table_with.Goals as goal

pub loop-function-preserved : goal.loop-function-preserved
loop-function-preserved c =
    let P : List SourceAndCode → Type 0 = λ rest. TableSoFar c.args.meta.now c.in_ok-unit.unit c.args.functions.now rest c.loop-function.files
    c.loop-function.sequences in
    let so = subst P (split_at c.args.functions.now c.loop-function.function-index c.function-item.result c.loop-function-test.true c.function-item.is)
    c.loop-function.invariant.so in
    let Q : List Sequence → Type 0 = λ sequences. All IsSequence sequences in
    record {
      so = table_next _ _ _ _ _ _ _ _ _ so c.in_ok-push_sequence.ensures.known c.in_ok-push_sequence.ensures.listed c.in_ok-push_sequence.ensures.few;
      are =
          subst Q (sym (c.in_ok-push_sequence.ensures.listed []))
          (All-append IsSequence c.loop-function.sequences _ c.loop-function.invariant.are (sequence_is (c.push_sequence.new.files ++ []) c.args.meta.now
          (unit_in c.loop-function.files) c.function-item.result.source.now.blocks _ _ _ c.in_ok-push_sequence.ensures.stands));
    }

pub further_numbers-requires-clause-unit : goal.further_numbers-requires-clause-unit
further_numbers-requires-clause-unit c = c.loop-function.invariant.so.some

pub further_numbers-requires-clause-room : goal.further_numbers-requires-clause-room
further_numbers-requires-clause-room c = omega (arith, c.loop-function.invariant.so.few, c.requires.functions, c.requires.further)

pub returns : goal.returns
returns c =
    let P : List SourceAndCode → Type 0 = λ rest. TableSoFar c.args.meta.now c.in_ok-unit.unit c.args.functions.now rest c.loop-function.files
    c.loop-function.sequences in
    let so = subst P (drop_all c.loop-function.function-index c.args.functions.now c.loop-function-test.false) c.loop-function.invariant.so in
    let is = table_done_with _ _ _ _ _ _ _ _ _ c.in_ok-unit.ensures so c.in_ok-numbers.ensures.known c.in_ok-dirs.ensures.dirs c.in_ok-dirs.ensures.files in
    record {
      table = is;
      numbers = numbers_done _ _ _ _ _ _ _ _ c.in_ok-unit.ensures so c.in_ok-numbers.ensures.known c.in_ok-numbers.ensures.numbers;
      names = subst HasNames (sym is) (table_names c.args.meta.now c.args.functions.now c.args.further.now);
      sequences = c.loop-function.invariant.are;
    }

use Rattle.std.proofs.Common.{arith, subst, sym}
use Rattle.std.proofs.lemmas.List.{drop_all}
use Rattle.dwarf_line.specs.Table.{HasNames}
use Rattle.dwarf_line_table.proofs.Split.{split_at}
use Rattle.prologue_rows.proofs.Names.{table_names}
use Rattle.prologue_rows.proofs.Tables.{table_next, table_done, room_left, files_few}
use Rattle.prologue_rows.proofs.table.line_table.Goals as goal

pub sequence-requires : goal.sequence-requires
sequence-requires c =
    let room = room_left _ _ _ _ _ c.function-item.result _ _ _ c.loop-function.invariant
    (split_at c.args.functions.now c.loop-function.function-index c.function-item.result c.loop-function-test.true c.function-item.is)
    c.requires.functions c.requires.declared in
    omega (arith, room)

pub push_numbers-requires : goal.push_numbers-requires
push_numbers-requires c =
    let room = room_left _ _ _ _ _ c.function-item.result _ _ _ c.loop-function.invariant
    (split_at c.args.functions.now c.loop-function.function-index c.function-item.result c.loop-function-test.true c.function-item.is)
    c.requires.functions c.requires.declared in
    omega (arith, room, c.in_ok-sequence.ensures.few)

pub entries-requires : goal.entries-requires
entries-requires c = files_few _ _ _ _ _ _ _ c.loop-function.invariant c.requires.functions c.requires.declared

pub loop-function-preserved : goal.loop-function-preserved
loop-function-preserved c =
    table_next _ _ _ _ _ c.function-item.result _ _ _ _ _ _ _ _ c.loop-function.invariant
    (split_at c.args.functions.now c.loop-function.function-index c.function-item.result c.loop-function-test.true c.function-item.is)
    c.in_ok-sequence.ensures.known c.in_ok-sequence.ensures.sequence c.in_ok-sequence.ensures.few c.in_ok-sequence.ensures.is
    c.in_ok-push_numbers.ensures.known c.in_ok-push_numbers.ensures.numbers c.in_ok-push_numbers.ensures.few c.in_ok-push.ensures.ok

pub returns : goal.returns
returns c =
    let all = table_done c.args.meta.now c.args.unit.now c.args.functions.now _ _ _ _ _ _ _ c.loop-function.invariant
    (drop_all c.loop-function.function-index c.args.functions.now c.loop-function-test.false) c.in_ok-dirs.ensures.dirs c.in_ok-dirs.ensures.files
    c.behind_first.ensures in
    record {
      table = all.0;
      numbers = all.1;
      names = subst HasNames (sym all.0) (table_names c.args.meta.now c.args.unit.now c.args.functions.now);
      sequences = c.loop-function.invariant.are;
    }

use Rattle.std.proofs.Common.{◌+◌, ◌++◌, ℕ, [], List, length, subst, sym, ap, arith}
use Rattle.std.proofs.lemmas.List.{drop_all}
use Rattle.dwarf_line_table.specs.declared.source_and_code.SourceAndCode.{SourceAndCode}
use Rattle.dwarf_line_table.proofs.Split.{split_at}
use Rattle.dwarf_unit.proofs.Entries.{FunctionsSoFar, functions_next, functions_room, unit_done, entry_length}
use Rattle.std.specs.Prelude.{All}
use Rattle.dwarf_info.specs.declared.unit.Unit.{Unit as CompilationUnit}
use Rattle.dwarf_info.specs.Entries.{HasTypes}
use Rattle.dwarf_unit.proofs.Typed.{unit_typed}
use Rattle.dwarf_unit.proofs.unit.make_unit.Goals as goal

pub function_entry-requires-clause-room : goal.function_entry-requires-clause-room
function_entry-requires-clause-room c =
    let P : List SourceAndCode → Type 0 = λ rest. FunctionsSoFar c.args.meta.now c.loop-function.types c.loop-function.list c.args.functions.now rest
    c.loop-function.entries in
    let so = subst P (split_at c.args.functions.now c.loop-function.function-index c.function-item.result c.loop-function-test.true c.function-item.is)
    c.loop-function.invariant in
    let room = functions_room _ _ _ _ _ _ _ so in
    let first = room.0 in
    omega (arith, first, c.requires)

pub function_entry-requires-clause-lists : goal.function_entry-requires-clause-lists
function_entry-requires-clause-lists c =
    let P : List SourceAndCode → Type 0 = λ rest. FunctionsSoFar c.args.meta.now c.loop-function.types c.loop-function.list c.args.functions.now rest
    c.loop-function.entries in
    let so = subst P (split_at c.args.functions.now c.loop-function.function-index c.function-item.result c.loop-function-test.true c.function-item.is)
    c.loop-function.invariant in
    let room = functions_room _ _ _ _ _ _ _ so in
    let second = room.1 in
    omega (arith, second, c.requires)

pub overflow_cast-list : goal.overflow_cast-list
overflow_cast-list c =
    let P : List SourceAndCode → Type 0 = λ rest. FunctionsSoFar c.args.meta.now c.loop-function.types c.loop-function.list c.args.functions.now rest
    c.loop-function.entries in
    let so = subst P (split_at c.args.functions.now c.loop-function.function-index c.function-item.result c.loop-function-test.true c.function-item.is)
    c.loop-function.invariant in
    let room = functions_room _ _ _ _ _ _ _ so in
    let second = room.1 in
    let many = entry_length c.args.meta.now (c.function_entry.new.types ++ []) c.loop-function.list c.function-item.result c.in_ok-entry.entry _ c.len.ensures
    (c.in_ok-entry.ensures.entry []) in
    omega (arith, second, many, c.requires)

pub overflow_add-list : goal.overflow_add-list
overflow_add-list c =
    let P : List SourceAndCode → Type 0 = λ rest. FunctionsSoFar c.args.meta.now c.loop-function.types c.loop-function.list c.args.functions.now rest
    c.loop-function.entries in
    let so = subst P (split_at c.args.functions.now c.loop-function.function-index c.function-item.result c.loop-function-test.true c.function-item.is)
    c.loop-function.invariant in
    let room = functions_room _ _ _ _ _ _ _ so in
    let second = room.1 in
    let many = entry_length c.args.meta.now (c.function_entry.new.types ++ []) c.loop-function.list c.function-item.result c.in_ok-entry.entry _ c.len.ensures
    (c.in_ok-entry.ensures.entry []) in
    omega (arith, second, many, c.requires)

pub loop-function-preserved : goal.loop-function-preserved
loop-function-preserved c =
    let P : List SourceAndCode → Type 0 = λ rest. FunctionsSoFar c.args.meta.now c.loop-function.types c.loop-function.list c.args.functions.now rest
    c.loop-function.entries in
    let so = subst P (split_at c.args.functions.now c.loop-function.function-index c.function-item.result c.loop-function-test.true c.function-item.is)
    c.loop-function.invariant in
    let many = entry_length c.args.meta.now (c.function_entry.new.types ++ []) c.loop-function.list c.function-item.result c.in_ok-entry.entry _ c.len.ensures
    (c.in_ok-entry.ensures.entry []) in
    functions_next _ _ _ _ _ _ _ _ _ _ _ so c.in_ok-entry.ensures.known c.in_ok-entry.ensures.entry c.in_ok-entry.ensures.few
    (ap (λ (n : ℕ). c.loop-function.list + n) many) c.in_ok-push.ensures.ok

pub returns : goal.returns
returns c =
    let P : List SourceAndCode → Type 0 = λ rest. FunctionsSoFar c.args.meta.now c.loop-function.types c.loop-function.list c.args.functions.now rest
    c.loop-function.entries in
    let so = subst P (drop_all c.loop-function.function-index c.args.functions.now c.loop-function-test.false) c.loop-function.invariant in
    let is = unit_done _ _ _ _ _ _ _ _ c.in_ok-file.ensures so c.in_ok-entries.ensures in
    let T : CompilationUnit → Type 0 = λ u. All (HasTypes (length u.types)) u.functions in
    record { unit = is; types = subst T (sym is) (unit_typed c.args.meta.now c.args.text_len c.args.functions.now) }

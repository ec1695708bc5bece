use Rattle.std.proofs.Common.{arith, sym, ◌∙◌}
use Rattle.elf_object.proofs.FaultLemmas.{file_right}
use Rattle.elf_object.proofs.fault.first_fault.Goals as goal

pub u64_at-table-requires : goal.u64_at-table-requires
u64_at-table-requires c =
    let file = file_right c.args.bytes.now (sym c.file_fault.ensures ∙ c.in_default.is) in
    omega (arith, file.table, file.behind, file.few)

pub u16_at-count-requires : goal.u16_at-count-requires
u16_at-count-requires c =
    let file = file_right c.args.bytes.now (sym c.file_fault.ensures ∙ c.in_default.is) in
    omega (arith, file.table, file.behind, file.few)

pub null_fault-requires-clause-within : goal.null_fault-requires-clause-within
null_fault-requires-clause-within c =
    let file = file_right c.args.bytes.now (sym c.file_fault.ensures ∙ c.in_default.is) in
    omega (arith, file.table, c.u64_at-table.ensures)

pub overflow_sub-count : goal.overflow_sub-count
overflow_sub-count c =
    let file = file_right c.args.bytes.now (sym c.file_fault.ensures ∙ c.in_default.is) in
    omega (arith, file.few, c.u16_at-count.ensures)

pub overflow_add-table : goal.overflow_add-table
overflow_add-table c =
    let file = file_right c.args.bytes.now (sym c.file_fault.ensures ∙ c.in_default.is) in
    omega (arith, file.table, file.few, c.u64_at-table.ensures, c.u16_at-count.ensures)

pub section_bytes-names-requires : goal.section_bytes-names-requires
section_bytes-names-requires c =
    let file = file_right c.args.bytes.now (sym c.file_fault.ensures ∙ c.in_default.is) in
    omega (arith, file.table, file.few, c.u64_at-table.ensures, c.u16_at-count.ensures)

pub sections_fault-requires-clause-few : goal.sections_fault-requires-clause-few
sections_fault-requires-clause-few c =
    let file = file_right c.args.bytes.now (sym c.file_fault.ensures ∙ c.in_default.is) in
    omega (arith, file.few, c.u16_at-count.ensures)

pub sections_fault-requires-clause-behind : goal.sections_fault-requires-clause-behind
sections_fault-requires-clause-behind c =
    let file = file_right c.args.bytes.now (sym c.file_fault.ensures ∙ c.in_default.is) in
    omega (arith, file.behind, c.u64_at-table.ensures)

pub sections_fault-requires-clause-size : goal.sections_fault-requires-clause-size
sections_fault-requires-clause-size c =
    let file = file_right c.args.bytes.now (sym c.file_fault.ensures ∙ c.in_default.is) in
    omega (arith, file.table, c.u64_at-table.ensures, c.u16_at-count.ensures)

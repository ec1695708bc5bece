use Rattle.std.proofs.Common.{arith}
use Rattle.elf_object.proofs.FaultLemmas.{file_right}
use Rattle.elf_object.proofs.read.object.Goals as goal

pub u64_at-table-requires : goal.u64_at-table-requires
u64_at-table-requires c =
    let file = file_right c.args.bytes.now c.requires.before.file in
    omega (arith, file.table, file.behind, file.few)

pub u16_at-count-requires : goal.u16_at-count-requires
u16_at-count-requires c =
    let file = file_right c.args.bytes.now c.requires.before.file in
    omega (arith, file.table, file.behind, file.few)

pub overflow_sub-count : goal.overflow_sub-count
overflow_sub-count c =
    let file = file_right c.args.bytes.now c.requires.before.file in
    omega (arith, file.few, c.u16_at-count.ensures)

pub overflow_add-table : goal.overflow_add-table
overflow_add-table c =
    let file = file_right c.args.bytes.now c.requires.before.file in
    omega (arith, file.table, file.few, c.u64_at-table.ensures, c.u16_at-count.ensures)

pub section_bytes-names-requires : goal.section_bytes-names-requires
section_bytes-names-requires c =
    let file = file_right c.args.bytes.now c.requires.before.file in
    omega (arith, file.table, file.few, c.u64_at-table.ensures, c.u16_at-count.ensures)

pub sections-requires-clause-few : goal.sections-requires-clause-few
sections-requires-clause-few c =
    let file = file_right c.args.bytes.now c.requires.before.file in
    omega (arith, file.few, c.u16_at-count.ensures)

pub sections-requires-clause-within : goal.sections-requires-clause-within
sections-requires-clause-within c =
    let file = file_right c.args.bytes.now c.requires.before.file in
    omega (arith, file.table, c.u64_at-table.ensures, c.u16_at-count.ensures)

pub u32_at-requires : goal.u32_at-requires
u32_at-requires c =
    let file = file_right c.args.bytes.now c.requires.before.file in
    omega (arith, file.table, file.behind, file.few)

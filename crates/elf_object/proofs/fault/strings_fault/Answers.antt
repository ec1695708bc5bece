use Rattle.std.proofs.Common.{arith}
use Rattle.elf_object.proofs.FaultLoops.{names_size}
use Rattle.elf_object.proofs.fault.strings_fault.Goals as goal

pub bytes_end-end-requires-clause-within : goal.bytes_end-end-requires-clause-within
bytes_end-end-requires-clause-within c = (names_size c.args.table c.args.header c.args.bytes.now c.requires.size).within

pub start_fault-requires : goal.start_fault-requires
start_fault-requires c =
    let is = names_size c.args.table c.args.header c.args.bytes.now c.requires.size in
    omega (arith, is.within, c.u64_at-offset.ensures, c.requires.table)

pub overflow_add-offset : goal.overflow_add-offset
overflow_add-offset c =
    let is = names_size c.args.table c.args.header c.args.bytes.now c.requires.size in
    omega (arith, is.within, is.size, c.u64_at-offset.ensures, c.requires.name, c.ranges.table.fits)

pub own_fault-requires : goal.own_fault-requires
own_fault-requires c =
    let is = names_size c.args.table c.args.header c.args.bytes.now c.requires.size in
    omega (arith, is.within, is.size, c.u64_at-offset.ensures, c.requires.name, c.requires.table)

pub zeros-requires : goal.zeros-requires
zeros-requires c =
    let is = names_size c.args.table c.args.header c.args.bytes.now c.requires.size in
    omega (arith, is.within, c.bytes_end-end.ensures, c.requires.table)

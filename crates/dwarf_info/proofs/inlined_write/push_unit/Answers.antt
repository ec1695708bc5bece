use Rattle.std.proofs.lemmas.Result.{IfOk-equal}
use Rattle.dwarf_info.proofs.EntryLemmas.{unit_with_ranges_written}
use Rattle.dwarf_info.proofs.inlined_write.push_unit.Goals as goal

pub returns : goal.returns
returns c =
    IfOk-equal _ _ _ _ c.push_u32-4.ensures
    (unit_with_ranges_written c.args.u.now _ _ _ _ _ _ _ _ _ _ _ c.in_ok-push_code.ensures c.in_ok-push_u16.ensures c.in_ok-push_text.ensures
    c.as_slice.ensures c.in_ok-push_text-2.ensures c.as_slice-2.ensures c.in_ok-push_u32.ensures c.in_ok-push_u64.ensures c.in_ok-push_u32-2.ensures
    c.in_ok-push_u32-3.ensures)

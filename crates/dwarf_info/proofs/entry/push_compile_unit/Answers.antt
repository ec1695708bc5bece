use Rattle.std.proofs.lemmas.Result.{IfOk-equal}
use Rattle.dwarf_info.proofs.EntryLemmas.{compile_unit_written}
use Rattle.dwarf_info.proofs.entry.push_compile_unit.Goals as goal

pub returns : goal.returns
returns c =
    IfOk-equal _ _ _ _ c.push_u32-3.ensures
    (compile_unit_written c.args.u.now _ _ _ _ _ _ _ _ _ _ c.in_ok-push_code.ensures c.in_ok-push_u16.ensures c.in_ok-push_text.ensures c.as_slice.ensures
    c.in_ok-push_text-2.ensures c.as_slice-2.ensures c.in_ok-push_u32.ensures c.in_ok-push_u64.ensures c.in_ok-push_u32-2.ensures)

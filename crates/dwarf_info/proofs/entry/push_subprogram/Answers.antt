use Rattle.std.proofs.lemmas.Result.{IfOk-equal}
use Rattle.dwarf_info.proofs.EntryLemmas.{subprogram_written}
use Rattle.dwarf_info.proofs.entry.push_subprogram.Goals as goal

pub returns : goal.returns
returns c =
    IfOk-equal _ _ _ _ c.push_u32.ensures
    (subprogram_written c.args.f.now _ _ _ _ _ c.in_ok-push_code.ensures c.in_ok-push_text.ensures c.as_slice.ensures c.in_ok-push_u64.ensures)

use Rattle.std.proofs.Common.{ap, ◌∙◌}
use Rattle.std.proofs.lemmas.Result.{IfOk-equal}
use Rattle.dwarf_base.specs.Leb.{uleb_of}
use Rattle.dwarf_line.proofs.SpellingLemmas.{tables_written}
use Rattle.dwarf_line.proofs.write.push_tables.Goals as goal

pub returns-clause-bytes : goal.returns-clause-bytes
returns-clause-bytes c =
    IfOk-equal _ _ _ _ c.push_files.ensures.bytes
    (tables_written c.args.t.now _ _ _ _ _ _ _ _ _ _ _
    c.in_ok-extend_from_slice.ensures.items c.in_ok-extend_from_slice-2.ensures.items c.in_ok-push_leb.ensures c.in_ok-push_dirs.ensures
    c.in_ok-extend_from_slice-3.ensures.items c.in_ok-push_leb-2.ensures
    (c.uleb.ensures.bytes ∙ ap uleb_of c.len.ensures) c.as_slice.ensures (c.uleb-2.ensures.bytes ∙ ap uleb_of c.len-2.ensures) c.as_slice-2.ensures)

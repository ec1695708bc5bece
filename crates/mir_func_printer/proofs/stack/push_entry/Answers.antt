use Rattle.std.proofs.Common.{◌++◌, codes}
use Rattle.std.specs.Fmt.{decimal}
use Rattle.mir_printer.proofs.Appends.{ended, joined}
use Rattle.mir_func_printer.specs.FuncText.{pair_text, entry_line}
use Rattle.mir_func_printer.proofs.Pieces.{two_more}
use Rattle.mir_func_printer.proofs.stack.push_entry.Goals as goal

pub returns : goal.returns
unfolding entry_line
returns c =
    let e = c.args.entry.now in
    let old = c.args.text.now in
    let src = pair_text (codes "  - { srcinst: ") (codes ", srcop: ") e.src in
    let dst = pair_text (codes ", dstinst: ") (codes ", dstop: ") e.dst in
    let label = codes ", subreg: " in
    let second = joined old c.push_pair.new.text c.push_pair-2.new.text src dst c.in_ok-push_pair.ensures c.in_ok-push_pair-2.ensures in
    let third = joined old c.push_pair-2.new.text c.push_numbered.new.text (src ++ dst) (label ++ decimal e.subreg) second
    c.in_ok-push_numbered.ensures.ok in
    ended c.push_str.result old c.push_numbered.new.text c.push_str.new.text ((src ++ dst) ++ (label ++ decimal e.subreg)) _ (entry_line e) third
    c.push_str.ensures.ok (two_more src dst label (decimal e.subreg) _)

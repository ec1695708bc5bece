use Rattle.std.proofs.Common.{◌++◌, codes}
use Rattle.std.specs.Fmt.{decimal}
use Rattle.mir_printer.proofs.Appends.{ended, joined, numbered}
use Rattle.mir_func_printer.specs.FuncText.{object_numbers}
use Rattle.mir_func_printer.proofs.Pieces.{three_labelled}
use Rattle.mir_func_printer.proofs.stack.push_numbers.Goals as goal

pub returns : goal.returns
returns c =
    let o = c.args.object.now in
    let old = c.args.text.now in
    let id = codes "  - { id: " in
    let size = codes ", size: " in
    let align = codes ", alignment: " in
    let first = numbered old c.push_numbered.new.text id c.number.result o.id c.in_ok-push_numbered.ensures.ok c.number.ensures in
    let second = joined old c.push_numbered.new.text c.push_numbered-2.new.text (id ++ decimal o.id) (size ++ decimal o.size) first
    c.in_ok-push_numbered-2.ensures.ok in
    ended c.push_numbered-3.result old c.push_numbered-2.new.text c.push_numbered-3.new.text ((id ++ decimal o.id) ++ (size ++ decimal o.size))
    (align ++ decimal o.align) (object_numbers o) second c.push_numbered-3.ensures.ok
    (three_labelled id (decimal o.id) size (decimal o.size) align (decimal o.align))

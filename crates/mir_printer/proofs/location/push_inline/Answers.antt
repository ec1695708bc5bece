use Rattle.std.proofs.Common.{◌++◌, codes}
use Rattle.std.specs.Fmt.{decimal}
use Rattle.mir_func.specs.declared.location.Loc.TheVariants.{Inline}
use Rattle.mir_printer.specs.Spelling.{location_text, inlined_at_text}
use Rattle.mir_printer.proofs.Appends.{joined, ended, numbered, labelled_more}
use Rattle.mir_printer.proofs.location.push_inline.Goals as goal

pub returns-clause-ok : goal.returns-clause-ok
returns-clause-ok c =
    let line = codes ", debug-location !DILocation(line: " ++ decimal c.args.inline.now.line in
    let column = codes ", column: " ++ decimal c.args.inline.now.column in
    let scope = codes ", scope: !" ++ decimal c.args.inline.now.scope in
    let inlined_at = inlined_at_text c.args.inline.now.inlined_at in
    ended c.push_str.result c.args.text.now c.push_inlined_at.new.text c.push_str.new.text (((line ++ column) ++ scope) ++ inlined_at) (codes ")")
    (location_text (Inline c.args.inline.now))
    (joined c.args.text.now c.push_numbered-3.new.text c.push_inlined_at.new.text ((line ++ column) ++ scope) inlined_at
    (joined c.args.text.now c.push_numbered-2.new.text c.push_numbered-3.new.text (line ++ column) scope
    (joined c.args.text.now c.push_numbered.new.text c.push_numbered-2.new.text line column c.in_ok-push_numbered.ensures.ok c.in_ok-push_numbered-2.ensures.ok)
    (numbered c.push_numbered-2.new.text c.push_numbered-3.new.text
    (codes ", scope: !") c.number.result c.args.inline.now.scope c.in_ok-push_numbered-3.ensures.ok c.number.ensures))
    c.in_ok-push_inlined_at.ensures.ok)
    c.push_str.ensures.ok (labelled_more (codes ", debug-location !DILocation(line: ") (decimal c.args.inline.now.line) (codes ", column: ")
    (decimal c.args.inline.now.column) (codes ", scope: !") (decimal c.args.inline.now.scope) inlined_at (codes ")"))

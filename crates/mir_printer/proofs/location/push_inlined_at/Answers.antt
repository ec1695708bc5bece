use Rattle.std.proofs.Common.{ℕ, ◌++◌, ◌∙◌, ap, sym, codes}
use Rattle.std.specs.Fmt.{decimal}
use Rattle.mir_printer.specs.Spelling.{inlined_at_text}
use Rattle.mir_printer.proofs.Appends.{alone}
use Rattle.mir_printer.proofs.location.push_inlined_at.Goals as goal

pub returns-in-Some-clause-ok : goal.returns-in-Some-clause-ok
returns-in-Some-clause-ok c =
    let label = codes ", inlinedAt: !" in
    alone c.push_numbered.result c.args.text.now c.push_numbered.new.text (label ++ decimal c.number.result)
    (inlined_at_text c.args.inlined_at.now) c.push_numbered.ensures.ok
    (ap (λ (n : ℕ). label ++ decimal n) c.number.ensures ∙ ap inlined_at_text (sym c.in-Some.is))

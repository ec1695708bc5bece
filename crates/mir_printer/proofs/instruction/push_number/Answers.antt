use Rattle.std.proofs.Common.{ℕ, ◌++◌, ◌∙◌, ap, sym, codes}
use Rattle.std.specs.Fmt.{decimal}
use Rattle.mir_printer.specs.Spelling.{number_text}
use Rattle.mir_printer.proofs.Appends.{alone}
use Rattle.mir_printer.proofs.instruction.push_number.Goals as goal

pub returns-in-Some-clause-ok : goal.returns-in-Some-clause-ok
returns-in-Some-clause-ok c =
    let label = codes ", debug-instr-number " in
    alone c.push_numbered.result c.args.text.now c.push_numbered.new.text (label ++ decimal c.number.result)
    (number_text c.args.number.now) c.push_numbered.ensures.ok
    (ap (λ (k : ℕ). label ++ decimal k) c.number.ensures ∙ ap number_text (sym c.in-Some.is))

use Rattle.std.proofs.Common.{ℕ, ◌++◌, ◌∙◌, ap, sym, codes}
use Rattle.std.specs.Fmt.{decimal}
use Rattle.mir_printer.specs.Spelling.{location_text}
use Rattle.mir_printer.proofs.Appends.{alone}
use Rattle.mir_printer.proofs.location.push_location.Goals as goal

pub returns-in-Node-clause-ok : goal.returns-in-Node-clause-ok
returns-in-Node-clause-ok c =
    let label = codes ", debug-location !" in
    alone c.push_numbered.result c.args.text.now c.push_numbered.new.text (label ++ decimal c.number.result)
    (location_text c.args.loc.now) c.push_numbered.ensures.ok
    (ap (λ (n : ℕ). label ++ decimal n) c.number.ensures ∙ ap location_text (sym c.in-Node.is))

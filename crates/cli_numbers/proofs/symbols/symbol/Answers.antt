use Rattle.std.proofs.Common.{◌≡◌, ℕ, List, ◌++◌, codes, sym, ap, ◌∙◌}
use Rattle.cli_numbers.proofs.SymbolTexts.{constant_named, globals}
use Rattle.cli_numbers.proofs.symbols.symbol.Goals as goal

pub returns-in-Some : goal.returns-in-Some
returns-in-Some c = λ y.
    let s = c.in-Some.ensures.cases in
    let named : c.args.name.now ≡ codes "%const." ++ c.in-Some.digits.now = s.1.1 ∙ ap (λ (t : List ℕ). codes "%const." ++ t) (sym s.2) in
    constant_named c.args.name.now c.in-Some.digits.now named c.constant.result y (c.constant.ensures y)

pub returns-in-None : goal.returns-in-None
returns-in-None c = globals c.args.name.now (λ rest e. c.in-None.ensures.cases rest e) c.global.result c.global.ensures

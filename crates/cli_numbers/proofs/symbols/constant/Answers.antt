use Rattle.std.proofs.Common.{◌≤◌, sym, ◌∙◌, arith}
use Rattle.cli_numbers.proofs.SymbolTexts.{no_number, constant_is, constant_is_none}
use Rattle.cli_numbers.proofs.symbols.constant.Goals as goal

pub overflow_cast-result : goal.overflow_cast-result
overflow_cast-result c = let few : c.in-Some.n ≤ 4294967295 = ((c.number.ensures c.in-Some.n).0 c.in-Some.is).1 in omega (arith, few)

pub returns-in-Some : goal.returns-in-Some
returns-in-Some c =
    let is = (c.number.ensures c.in-Some.n).0 c.in-Some.is in
    constant_is c.args.digits.now c.in-Some.n is.0 (omega (arith, is.1))

pub returns-in-None : goal.returns-in-None
returns-in-None c =
    constant_is_none c.args.digits.now
    (λ n is small. no_number n (sym c.in-None.is ∙ (c.number.ensures n).1 (is, omega (arith, small))))

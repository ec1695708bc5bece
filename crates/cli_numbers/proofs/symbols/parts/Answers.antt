use Rattle.std.proofs.Common.{◌<◌, ◌^◌, sym, ◌∙◌, arith}
use Rattle.cli_numbers.proofs.SymbolTexts.{no_pair, no_number, with_digits}
use Rattle.cli_numbers.proofs.symbols.parts.Goals as goal

pub returns-in-Some : goal.returns-in-Some
returns-in-Some c =
    let is = (c.number.ensures c.in-Some.address).0 c.in-Some.is in
    with_digits c.args.name.now c.args.digits.now c.in-Some.address is.0 (omega (arith, is.1)) c.with_address.result c.with_address.ensures

pub returns-in-None : goal.returns-in-None
returns-in-None c = λ p. (
  λ e. absurd (no_pair p e),
  λ q. (
      let small : p.1 < 2 ^ 64 = q.2.small in
      absurd (no_number p.1 (sym c.in-None.is ∙ (c.number.ensures p.1).1 (q.1, omega (arith, small))))),
)

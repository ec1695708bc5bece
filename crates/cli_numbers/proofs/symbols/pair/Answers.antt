use Rattle.std.proofs.Common.{Some, None, arith}
use Rattle.std.specs.Fmt.{decimal}
use Rattle.std.proofs.lemmas.Str.Pattern.{split_parts, split_after}
use Rattle.cli_numbers.specs.Symbols.{symbol_name}
use Rattle.cli_numbers.proofs.SymbolTexts.{no_pair, no_sign_in, joined_halves}
use Rattle.cli_numbers.proofs.symbols.pair.Goals as goal

pub returns-in-Some : goal.returns-in-Some
returns-in-Some c =
    let text = c.args.text.now in
    let name = c.in-Some.name in
    let digits = c.in-Some.digits in
    let whole = split_parts 61 text (Some (name, digits)) c.in-Some.ensures.cases (omega arith) in
    joined_halves text name.now digits.now whole.0
    (λ p is given. split_after 61 text (symbol_name p.0) (decimal p.1) (Some (name, digits)) c.in-Some.ensures.cases (omega arith) is
    (no_sign_in p.0 given.named))
    c.parts.result c.parts.ensures

pub returns-in-None : goal.returns-in-None
returns-in-None c = λ p. (
  λ e. absurd (no_pair p e),
  λ q. absurd (split_after 61 c.args.text.now (symbol_name p.0) (decimal p.1) None c.in-None.ensures.cases (omega arith) q.0 (no_sign_in p.0 q.1.named)),
)

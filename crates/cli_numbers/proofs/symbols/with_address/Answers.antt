use Rattle.std.proofs.Common.{◌≡◌, ℕ, sym, ap, ◌∙◌, subst}
use Rattle.rv64_instr.specs.declared.symbol.Symbol.{Symbol}
use Rattle.cli_numbers.specs.Symbols.{symbol_name, CanBeNamed}
use Rattle.cli_numbers.proofs.SymbolTexts.{no_symbol, no_pair, one_symbol, one_pair, some_pair}
use Rattle.cli_numbers.proofs.symbols.with_address.Goals as goal

pub returns-in-Some : goal.returns-in-Some
returns-in-Some c = λ p. (
  λ e. (
      let same = one_pair (c.in-Some.found, c.args.address) p e in
      let is = (c.in_ok-found.ensures c.in-Some.found).0 c.in-Some.is in
      (is.0 ∙ ap (λ (x : Symbol × ℕ). symbol_name x.0) same, subst (λ (x : Symbol × ℕ). CanBeNamed x.0) same is.1, ap (λ (x : Symbol × ℕ). x.1) same)),
  λ q. (
      let one : c.in-Some.found ≡ p.0 = one_symbol c.in-Some.found p.0 (sym c.in-Some.is ∙ (c.in_ok-found.ensures p.0).1 (q.0, q.1)) in
      some_pair c.in-Some.found c.args.address p one q.2),
)

pub returns-in-None : goal.returns-in-None
returns-in-None c = λ p. (
  λ e. absurd (no_pair p e),
  λ q. absurd (no_symbol p.0 (sym c.in-None.is ∙ (c.in_ok-found.ensures p.0).1 (q.0, q.1))),
)

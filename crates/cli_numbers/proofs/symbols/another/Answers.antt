use Rattle.std.proofs.Common.{◌≡◌, ℕ, sym, ◌∙◌, subst}
use Rattle.std.specs.List.{All}
use Rattle.rv64_instr.specs.declared.symbol.Symbol.{Symbol}
use Rattle.cli_numbers.specs.Symbols.{AreOthers, IsAnotherPair}
use Rattle.cli_numbers.proofs.SymbolTexts.{no_pair, one_pair}
use Rattle.cli_numbers.proofs.symbols.another.Goals as goal

pub returns-in-Some : goal.returns-in-Some
returns-in-Some c = λ p. (
  λ e. (
      let new = (c.if_new.ensures p).0 e in
      let is = (c.in_ok-found.ensures c.in-Some.found).0 c.in-Some.is in
      subst (IsAnotherPair c.args.pairs.now c.args.text.now) new.0 (record { spelled = is.0; given = is.1; other = new.1 })),
  λ h. (
      let same : c.in-Some.found ≡ p = one_pair c.in-Some.found p (sym c.in-Some.is ∙ (c.in_ok-found.ensures p).1 (h.spelled, h.given)) in
      (c.if_new.ensures p).1 (same, subst (λ (x : Symbol × ℕ). All (λ q. AreOthers q x) c.args.pairs.now) (sym same) h.other)),
)

pub returns-in-None : goal.returns-in-None
returns-in-None c = λ p. (
  λ e. absurd (no_pair p e),
  λ h. absurd (no_pair p (sym c.in-None.is ∙ (c.in_ok-found.ensures p).1 (h.spelled, h.given))),
)

use Rattle.std.proofs.Common.{ℕ, Some, sym, ap, ◌∙◌}
use Rattle.std.proofs.lemmas.Bool.{false≢true}
use Rattle.rv64_instr.specs.declared.symbol.Symbol.{Symbol}
use Rattle.cli_numbers.proofs.SymbolTexts.{no_pair, one_pair}
use Rattle.cli_numbers.proofs.symbols.if_new.Goals as goal

pub returns-then-is_new : goal.returns-then-is_new
returns-then-is_new c = λ p. (
  λ e. (one_pair c.args.found p e, c.is_new.ensures.0 c.if-is_new.true),
  λ h. ap (λ (x : Symbol × ℕ). Some x) h.0,
)

pub returns-else-is_new : goal.returns-else-is_new
returns-else-is_new c = λ p. (
  λ e. absurd (no_pair p e),
  λ h. absurd (false≢true (sym c.if-is_new.false ∙ c.is_new.ensures.1 h.1)),
)

use Rattle.std.proofs.Common.{ℕ, min, ap, ◌∙◌}
use Rattle.read_token.proofs.Numbers.{limits, all_beyond}
use Rattle.read_token.proofs.number.limited.Goals as goal

pub returns-in-Some-clause-value : goal.returns-in-Some-clause-value
returns-in-Some-clause-value c =
    c.min.ensures ∙ ap (λ (k : ℕ). min c.in-Some.value k) c.from.ensures ∙ limits c.args.digits.now c.in-Some.value c.in-Some.ensures

pub returns-in-None-clause-value : goal.returns-in-None-clause-value
returns-in-None-clause-value c = all_beyond c.args.digits.now c.in-None.ensures

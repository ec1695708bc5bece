use Rattle.std.proofs.Common.{not, rules}
use Rattle.std.proofs.lemmas.Fn.{filter_same}
use Rattle.spill_rule.specs.pass_trait.Causes.{is_named}
use Rattle.spill_select.proofs.scratch.keep_free.Goals as goal

pub returns : goal.returns
returns c = filter_same _ (λ r. not (is_named c.args.f.now r)) _ (λ x b q h. (search rules, search rules)) _ _ c.retain.ensures.filtered

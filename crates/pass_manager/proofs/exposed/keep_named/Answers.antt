use Rattle.std.proofs.Common.{rules}
use Rattle.std.proofs.lemmas.Fn.{filter_same}
use Rattle.pass_trait.specs.Causes.{is_named}
use Rattle.pass_manager.proofs.exposed.keep_named.Goals as goal

pub returns : goal.returns
returns c = filter_same _ (is_named c.args.f.now) _ (λ x b q h. (search rules, search rules)) _ _ c.retain.ensures.filtered

use Rattle.std.proofs.Common.{false, rules}
use Rattle.std.proofs.lemmas.List.Elements.{filter_from_retain}
use Rattle.pass_trait.specs.Nops.{stays}
use Rattle.pass_trait.proofs.nops.take_out_of.Goals as goal

pub returns : goal.returns
returns c = filter_from_retain _ (stays false) (λ p x b q h. search rules) _ _ _ c.retain.ensures.filtered

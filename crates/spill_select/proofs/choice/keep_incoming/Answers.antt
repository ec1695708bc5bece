use Rattle.std.proofs.Common.{rules}
use Rattle.std.proofs.lemmas.Fn.{filter_same}
use Rattle.spill_select.specs.Incoming.{is_among}
use Rattle.spill_select.proofs.choice.keep_incoming.Goals as goal

pub returns : goal.returns
returns c =
    filter_same _ (λ h. is_among c.args.incoming.now h.register) _ (λ x b q h. (search rules, search rules)) _ _ c.retain.ensures.filtered

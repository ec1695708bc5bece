use Rattle.std.proofs.Common.{rules}
use Rattle.std.proofs.lemmas.Fn.{filter_same}
use Rattle.spill_proof.specs.spill_select.Incoming.{is_among}
use Rattle.spill_pass.proofs.reserve.keep_among.Goals as goal

pub returns : goal.returns
returns c = filter_same _ (is_among c.args.registers.now) _ (λ x b q h. (search rules, search rules)) _ _ c.retain.ensures.filtered

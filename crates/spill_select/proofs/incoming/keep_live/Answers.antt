use Rattle.std.proofs.Common.{rules}
use Rattle.std.proofs.lemmas.Fn.{filter_same}
use Rattle.pass_liveness.specs.rv64_instr.declared.place.Place.TheVariants.{Register}
use Rattle.pass_liveness.specs.Sets.{has}
use Rattle.spill_select.proofs.incoming.keep_live.Goals as goal

pub returns : goal.returns
returns c =
    filter_same _ (λ r. has c.args.live.now.slots c.args.set.now (Register r)) _ (λ x b q h. (search rules, search rules)) _ _ c.retain.ensures.filtered

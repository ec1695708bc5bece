use Rattle.std.proofs.Common.{◌&&◌, not, rules}
use Rattle.std.proofs.lemmas.Fn.{filter_same}
use Rattle.spill_select.specs.Incoming.{is_among}
use Rattle.scan_allocation.proofs.order.keep_others.Goals as goal

pub returns : goal.returns
returns c =
    filter_same _ (λ r. not (is_among c.args.reserve.now r) && not (is_among c.args.scratch.now r)) _ (λ x b q h. (search rules, search rules)) _ _
    c.retain.ensures.filtered

use Rattle.std.proofs.Common.{◌≡◌, suc, ◌+◌, ap, ◌∙◌, arith}
use Rattle.std.specs.Prelude.{slice_get}
use Rattle.mir_func.specs.Sound.{ids_of}
use Rattle.value_live_ins.proofs.flows.next_of.Goals as goal

pub returns : goal.returns
returns c =
    let next : c.args.b + 1 ≡ suc c.args.b = omega arith in
    c.id_at.ensures ∙ ap (slice_get (ids_of c.args.blocks.now)) next

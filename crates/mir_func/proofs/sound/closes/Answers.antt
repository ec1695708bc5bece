use Rattle.std.proofs.Common.{sym}
use Rattle.mir_func.proofs.Checks.{closes_by}
use Rattle.mir_func.proofs.sound.closes.Goals as goal

pub returns-in-Some : goal.returns-in-Some
returns-in-Some c =
    let shown = closes_by c.args.items.now c.in-Some.i.now (sym c.in-Some.ensures.value) in
    let left = rw c.exit.ensures at c.leaves.ensures in
    (λ t. shown.0 (left.0 t), λ h. left.1 (shown.1 h))

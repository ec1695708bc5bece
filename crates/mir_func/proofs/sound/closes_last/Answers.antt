use Rattle.std.proofs.Common.{sym}
use Rattle.mir_func.proofs.Checks.{last_by}
use Rattle.mir_func.proofs.sound.closes_last.Goals as goal

pub returns-in-Some : goal.returns-in-Some
returns-in-Some c =
    let shown = last_by c.args.blocks.now c.in-Some.b.now (sym c.in-Some.ensures.value) in
    let closed = rw c.as_slice.ensures at c.closes.ensures in
    (λ t. shown.0 (closed.0 t), λ h. closed.1 (shown.1 h))

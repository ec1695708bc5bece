use Rattle.std.proofs.Common.{arith}
use Rattle.mir_func.proofs.Ends.{object_within}
use Rattle.emit_code.proofs.objects.ObjectOffsets.new.Goals as goal

pub offsets-requires-clause-objects : goal.offsets-requires-clause-objects
offsets-requires-clause-objects c = rw c.as_slice-objects.ensures (λ k d lt.
    let objects = c.framed.inside.objects in
    let within = object_within objects k d lt in
    let reach = c.framed.invariant.reach in
    omega (arith, within, reach))

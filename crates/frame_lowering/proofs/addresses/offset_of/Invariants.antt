use Rattle.std.proofs.Common.{◌≡◌, drop}
use Rattle.mir_func.specs.Objects.{object_of}
use Rattle.frame_lowering.proofs.addresses.offset_of.Given as goal

abbrev pub invariant-loop-object : goal.invariant-loop-object
invariant-loop-object l = object_of (drop l.object-index l.objects) l.n ≡ object_of l.objects l.n

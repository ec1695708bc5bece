use Rattle.std.proofs.Common.{inl, inr}
use Rattle.pass_liveness.specs.Sets.{has_bit}
use Rattle.scan_liveness.proofs.Walked.{both_parts}
use Rattle.scan_liveness.proofs.walk.is_quiet.Goals as goal

pub returns-then-still : goal.returns-then-still
returns-then-still c e = inl c.if-still.true

pub returns-then-is_part : goal.returns-then-is_part
returns-then-is_part c e =
    inr (λ i. both_parts (has_bit c.args.pending.now i) (has_bit c.args.set.now i) (c.is_part.ensures c.if-is_part.true i)
    (c.is_part-then-is_part.ensures e i))

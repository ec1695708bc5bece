use Rattle.std.proofs.Common.{ℕ, Bool, ◌||◌, ◌&&◌, nat_eq, sym, ap, ◌∙◌}
use Rattle.scan_intervals.specs.Blocked.{has_register}
use Rattle.scan_liveness.proofs.Touched.{bit_set}
use Rattle.scan_liveness.proofs.masks.with_bit.Goals as goal

pub returns-then-set : goal.returns-then-set
returns-then-set c q =
    bit_set c.args.mask c.args.r c.requires q ∙
    sym (ap (λ (z : Bool). (z && nat_eq c.args.r q) || has_register q c.args.mask) c.if-set.true)

pub returns-else-set : goal.returns-else-set
returns-else-set c q = sym (ap (λ (z : Bool). (z && nat_eq c.args.r q) || has_register q c.args.mask) c.if-set.false)

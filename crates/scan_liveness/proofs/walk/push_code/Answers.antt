use Rattle.std.proofs.Common.{◌≡◌, ℕ, ◌+◌, List, None, length, slice_index_or, ap, ◌∙◌, subst, arith}
use Rattle.scan_intervals.specs.Points.{CodePoint}
use Rattle.scan_liveness.specs.Described.{is_in, point_of, stepped_at}
use Rattle.scan_liveness.proofs.Walked.{point_described}
use Rattle.scan_liveness.proofs.walk.push_code.Goals as goal

pub returns-clause-described : goal.returns-clause-described
returns-clause-described c points d =
    let slots : List ℕ = c.args.numbers.now.slots in
    let p : CodePoint = point_of slots c.args.before.now c.args.after.now c.args.i.now in
    let len = c.len-at.ensures in
    let at : c.len-at.result ≡ length c.args.masks.now.items = omega (arith, len) in
    point_described p points c.args.masks.now.items c.push.new.self.items c.mask_of.result (is_in slots c.args.pending.now) c.args.extents.now.items
    c.touch.new.extents.items c.in_ok-push.ensures.items c.mask_of.ensures c.touch.ensures.long
    (λ k lt. c.touch.ensures.each k lt ∙
    ap (λ (n : ℕ). stepped_at (is_in slots c.args.pending.now) p n (k + 32) (slice_index_or c.args.extents.now.items k None)) at) d

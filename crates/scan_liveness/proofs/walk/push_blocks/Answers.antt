use Rattle.std.proofs.Common.{◌≡◌, ℕ, List, length, ◌∙◌, arith}
use Rattle.rv64_instr.specs.declared.place.Place.TheVariants.{Register}
use Rattle.pass_liveness.specs.Liveness.{has_at_start}
use Rattle.pass_liveness.proofs.Places.{has_none}
use Rattle.scan_intervals.specs.Points.{points_of}
use Rattle.scan_liveness.specs.Described.{is_in}
use Rattle.scan_liveness.proofs.Walked.{pending_begins, pending_ends}
use Rattle.scan_liveness.proofs.walk.push_blocks.Goals as goal

pub close-requires : goal.close-requires
close-requires c = let long = c.in_ok-push_pending.ensures.long in let few = c.requires.few in omega (arith, long, few)

pub returns-clause-long : goal.returns-clause-long
returns-clause-long c = c.close.ensures.long ∙ c.in_ok-push_pending.ensures.long

pub returns-clause-described : goal.returns-clause-described
returns-clause-described c d =
    let slots : List ℕ = c.args.numbers.now.slots in
    let len = c.len.ensures in
    let count : c.len.result ≡ length c.push_pending.new.masks.items = omega (arith, len) in
    pending_ends (points_of (has_at_start slots c.args.numbers.now.blocks c.args.starts.now) c.args.blocks.now) c.push_pending.new.masks.items
    (is_in slots c.push_pending.new.pending) c.push_pending.new.extents.items c.close.new.extents.items c.len.result count c.close.ensures.long
    c.close.ensures.wide
    (c.in_ok-push_pending.ensures.described
    (pending_begins c.args.masks.now.items c.args.extents.now.items (is_in slots c.new-pending.result)
    (λ r. has_none slots c.new-pending.result c.new-pending.ensures (Register r)) d))

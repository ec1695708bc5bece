use Rattle.std.proofs.Common.{ℕ, ◌+◌, List, None, Bool, cond, not, ◌&&◌, ◌||◌, slice_index_or, sym, ap, ◌∙◌}
use Rattle.scan_liveness.specs.Described.{is_in, point_of, stepped_at}
use Rattle.scan_liveness.proofs.extents.step_unless.Goals as goal

pub returns-then-quiet-clause-each : goal.returns-then-quiet-clause-each
returns-then-quiet-clause-each c k lt =
    let slots : List ℕ = c.args.numbers.now.slots in
    let s : ℕ → Bool = is_in slots c.args.pending.now in
    let b : ℕ → Bool = is_in slots c.args.before.now in
    let a : ℕ → Bool = is_in slots c.args.after.now in
    sym (ap (λ (z : Bool). cond (not z && (s (k + 32) || (b (k + 32) || a (k + 32))))
    (stepped_at s (point_of slots c.args.before.now c.args.after.now c.args.i.now) c.args.at (k + 32) (slice_index_or c.args.extents.now.items k None))
    (slice_index_or c.args.extents.now.items k None)) c.if-quiet.true)

pub returns-clause-each : goal.returns-clause-each
returns-clause-each c k lt =
    let slots : List ℕ = c.args.numbers.now.slots in
    let s : ℕ → Bool = is_in slots c.args.pending.now in
    let b : ℕ → Bool = is_in slots c.args.before.now in
    let a : ℕ → Bool = is_in slots c.args.after.now in
    c.step_live.ensures.each k lt ∙
    sym (ap (λ (z : Bool). cond (not z && (s (k + 32) || (b (k + 32) || a (k + 32))))
    (stepped_at s (point_of slots c.args.before.now c.args.after.now c.args.i.now) c.args.at (k + 32) (slice_index_or c.args.extents.now.items k None))
    (slice_index_or c.args.extents.now.items k None)) c.if-quiet.false)

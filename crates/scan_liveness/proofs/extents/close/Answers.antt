use Rattle.std.proofs.Common.{◌≡◌, ℕ, ◌+◌, ◌-◌, ◌<◌, ◌≤◌, List, Option, None, Bool, length, slice_index_or, slice_set, ap, ◌∙◌, arith}
use Rattle.scan_liveness.specs.declared.extents.Extent.{Extent}
use Rattle.scan_liveness.specs.Described.{is_in}
use Rattle.scan_liveness.specs.Extents.{widened}
use Rattle.scan_liveness.proofs.Touched.{updated_begins, updated_goes_on, updated_ends}
use Rattle.scan_liveness.proofs.extents.close.Goals as goal

pub loop-k-init : goal.loop-k-init
loop-k-init c = updated_begins _ c.args.extents.now.items

pub loop-k-preserved : goal.loop-k-preserved
loop-k-preserved c =
    let now : List (Option Extent) = c.loop-k.extents.items in
    let k : ℕ = c.loop-k.k in
    let is : c.has-is_pending.result ≡ is_in c.args.numbers.now.slots c.args.pending.now (k + 32) =
    c.has-is_pending.ensures ∙ ap (is_in c.args.numbers.now.slots c.args.pending.now) c.virtual_register.ensures in
    let last : c.saturating_sub-last.result ≡ c.args.count - 1 = c.saturating_sub-last.ensures in
    updated_goes_on c.loop-k.invariant (omega arith) _
    (c.widen.ensures ∙ (λ t. slice_set now k (widened (is t) (last t) (slice_index_or now k None))))

pub returns-clause-long : goal.returns-clause-long
returns-clause-long c = c.loop-k.invariant.long

pub returns-clause-wide : goal.returns-clause-wide
returns-clause-wide c k lt = updated_ends c.loop-k.invariant (omega arith) k lt

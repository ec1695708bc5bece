use Rattle.std.proofs.Common.{◌≡◌, ℕ, ◌+◌, List, Option, None, Bool, true, false, cond, ◌||◌, slice_index_or, slice_set, sym, ap, ◌∙◌}
use Rattle.std.proofs.lemmas.List.{set-get_or}
use Rattle.scan_liveness.specs.declared.extents.Extent.{Extent}
use Rattle.scan_liveness.specs.Described.{is_in, point_of, stepped_at}
use Rattle.scan_liveness.proofs.extents.step_near.Goals as goal

pub returns-then-is_near : goal.returns-then-is_near
returns-then-is_near c =
    let slots : List ℕ = c.args.numbers.now.slots in
    let s : ℕ → Bool = is_in slots c.args.pending.now in
    let b : ℕ → Bool = is_in slots c.args.before.now in
    let a : ℕ → Bool = is_in slots c.args.after.now in
    let old : List (Option Extent) = c.args.extents.now.items in
    let k : ℕ = c.args.k in
    let near : (s (k + 32) || (b (k + 32) || a (k + 32))) ≡ true =
    sym (c.is_near.ensures ∙ ap (λ (r : ℕ). s r || (b r || a r)) c.virtual_register.ensures) ∙ c.if-is_near.true in
    c.step.ensures ∙
    sym (ap (λ (z : Bool). slice_set old k (cond z
    (stepped_at s (point_of slots c.args.before.now c.args.after.now c.args.i.now) c.args.at (k + 32) (slice_index_or old k None))
    (slice_index_or old k None))) near)

pub returns-else-is_near : goal.returns-else-is_near
returns-else-is_near c =
    let slots : List ℕ = c.args.numbers.now.slots in
    let s : ℕ → Bool = is_in slots c.args.pending.now in
    let b : ℕ → Bool = is_in slots c.args.before.now in
    let a : ℕ → Bool = is_in slots c.args.after.now in
    let old : List (Option Extent) = c.args.extents.now.items in
    let k : ℕ = c.args.k in
    let far : (s (k + 32) || (b (k + 32) || a (k + 32))) ≡ false =
    sym (c.is_near.ensures ∙ ap (λ (r : ℕ). s r || (b r || a r)) c.virtual_register.ensures) ∙ c.if-is_near.false in
    sym (ap (λ (z : Bool). slice_set old k (cond z
    (stepped_at s (point_of slots c.args.before.now c.args.after.now c.args.i.now) c.args.at (k + 32) (slice_index_or old k None))
    (slice_index_or old k None))) far ∙ set-get_or old k None)

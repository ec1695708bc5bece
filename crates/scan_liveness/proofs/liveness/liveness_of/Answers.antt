use Rattle.std.proofs.Common.{◌≡◌, ℕ, ◌+◌, ◌<◌, ◌≤◌, List, [], All, length, reverse, Option, sym, ap, ◌∙◌, subst, arith}
use Rattle.std.specs.List.Sorted.{IsPermutation}
use Rattle.mir_func.specs.declared.block.Block.{Block}
use Rattle.mir_func.specs.Function.{Function}
use Rattle.mir_func.specs.Sound.{AllItems, HasForm, SlotsIn}
use Rattle.pass_liveness.specs.Liveness.{has_at_start}
use Rattle.scan_intervals.specs.Points.{points_of}
use Rattle.scan_liveness.specs.declared.extents.Extent.{Extent}
use Rattle.scan_liveness.specs.Described.{Describes}
use Rattle.scan_liveness.specs.Extents.{IsWithin, intervals_from}
use Rattle.scan_liveness.specs.Registers.{greatest_register}
use Rattle.scan_liveness.proofs.Made.{in_range, all_within, is_liveness}
use Rattle.scan_liveness.proofs.liveness.liveness_of.Goals as goal

same_blocks : (f g : Function) (bs : List Block) → g ≡ f → bs ≡ g.blocks → bs ≡ f.blocks
same_blocks f g bs e is = is ∙ ap (λ (h : Function). h.blocks) e

pub push_blocks-requires-clause-slots : goal.push_blocks-requires-clause-slots
push_blocks-requires-clause-slots c =
    subst (λ (bs : List Block). AllItems (λ i. SlotsIn c.in_ok-names.names.slots i.kind) bs)
    (sym (same_blocks _ _ _ c.f.view_is c.as_slice-4.ensures)) c.in_ok-starts.ensures.known

pub push_blocks-requires-clause-few : goal.push_blocks-requires-clause-few
push_blocks-requires-clause-few c =
    let long = c.in_ok-extents.ensures.long in let few = c.extent_count.ensures.few in omega (arith, long, few)

-- what was walked over is the function
walked_over : (slots ids : List ℕ) (starts starts' : List (List ℕ)) (blocks blocks' : List Block) (old masks : List ℕ)
    (old_extents extents : List (Option Extent)) →
    starts ≡ starts' → blocks ≡ blocks' → old ≡ [] → Describes [] [] old_extents →
    (Describes [] old old_extents → Describes (points_of (has_at_start slots ids starts) blocks) masks extents) →
    Describes (points_of (has_at_start slots ids starts') blocks') masks extents
walked_over slots ids starts starts' blocks blocks' old masks old_extents extents es eb none begun walked =
    subst (λ (ss : List (List ℕ)). Describes (points_of (has_at_start slots ids ss) blocks') masks extents) es
    (subst (λ (bs : List Block). Describes (points_of (has_at_start slots ids starts) bs) masks extents) eb
    (walked (subst (λ (ms : List ℕ). Describes [] ms old_extents) (sym none) begun)))

pub intervals_of-requires-clause-few : goal.intervals_of-requires-clause-few
intervals_of-requires-clause-few c =
    subst (λ (os : List (Option Extent)). length os ≤ 4096) (sym c.as_slice-5.ensures.value)
    (let long = c.in_ok-extents.ensures.long in
    let same = c.in_ok-push_blocks.ensures.long in let few = c.extent_count.ensures.few in omega (arith, long, same, few))

pub intervals_of-requires-clause-count : goal.intervals_of-requires-clause-count
intervals_of-requires-clause-count c =
    let f : Function = c.args.f.now in
    let forms : AllItems (λ i. HasForm i.kind) f.blocks =
    subst (λ (bs : List Block). AllItems (λ i. HasForm i.kind) bs) (same_blocks _ _ _ c.f.view_is c.as_slice.ensures) c.know_forms.ensures in
    let walked = walked_over c.in_ok-names.names.slots c.in_ok-names.names.blocks _ c.in_ok-starts.starts.items _ f.blocks _ c.push_blocks.new.masks.items _
    c.push_blocks.new.extents.items c.as_slice-3.ensures.value (same_blocks _ _ _ c.f.view_is c.as_slice-4.ensures) c.new-masks.ensures.items
    c.in_ok-extents.ensures.none c.in_ok-push_blocks.ensures.described in
    let small = in_range f forms c.in_ok-names.names.slots c.in_ok-names.names.blocks c.in_ok-starts.starts.items c.in_ok-starts.ensures.live
    c.push_blocks.new.masks.items c.push_blocks.new.extents.items walked c.requires in
    let count = c.len.ensures in
    omega (arith, small, count)

pub intervals_of-requires-clause-within : goal.intervals_of-requires-clause-within
intervals_of-requires-clause-within c =
    let f : Function = c.args.f.now in
    let forms : AllItems (λ i. HasForm i.kind) f.blocks =
    subst (λ (bs : List Block). AllItems (λ i. HasForm i.kind) bs) (same_blocks _ _ _ c.f.view_is c.as_slice.ensures) c.know_forms.ensures in
    let walked = walked_over c.in_ok-names.names.slots c.in_ok-names.names.blocks _ c.in_ok-starts.starts.items _ f.blocks _ c.push_blocks.new.masks.items _
    c.push_blocks.new.extents.items c.as_slice-3.ensures.value (same_blocks _ _ _ c.f.view_is c.as_slice-4.ensures) c.new-masks.ensures.items
    c.in_ok-extents.ensures.none c.in_ok-push_blocks.ensures.described in
    let each = all_within f forms c.in_ok-names.names.slots c.in_ok-names.names.blocks c.in_ok-starts.starts.items c.in_ok-starts.ensures.live
    c.push_blocks.new.masks.items c.push_blocks.new.extents.items walked in
    let len = c.len.ensures in
    let count : c.len.result ≡ length c.push_blocks.new.masks.items = omega (arith, len) in
    subst (λ (n : ℕ). All (IsWithin n) c.as_slice-5.result.now) (sym count)
    (subst (λ (os : List (Option Extent)). All (IsWithin (length c.push_blocks.new.masks.items)) os) (sym c.as_slice-5.ensures.value) each)

pub returns : goal.returns
returns c =
    let f : Function = c.args.f.now in
    let forms : AllItems (λ i. HasForm i.kind) f.blocks =
    subst (λ (bs : List Block). AllItems (λ i. HasForm i.kind) bs) (same_blocks _ _ _ c.f.view_is c.as_slice.ensures) c.know_forms.ensures in
    let walked = walked_over c.in_ok-names.names.slots c.in_ok-names.names.blocks _ c.in_ok-starts.starts.items _ f.blocks _ c.push_blocks.new.masks.items _
    c.push_blocks.new.extents.items c.as_slice-3.ensures.value (same_blocks _ _ _ c.f.view_is c.as_slice-4.ensures) c.new-masks.ensures.items
    c.in_ok-extents.ensures.none c.in_ok-push_blocks.ensures.described in
    let most : c.greatest_register-most.result ≡ greatest_register f.blocks =
    c.greatest_register-most.ensures.greatest ∙ ap greatest_register (same_blocks _ _ _ c.f.view_is c.as_slice-2.ensures) in
    let len = c.len.ensures in
    let count : c.len.result ≡ length c.push_blocks.new.masks.items = omega (arith, len) in
    let long = c.in_ok-push_blocks.ensures.long in
    let begun = c.in_ok-extents.ensures.long in
    let few = c.extent_count.ensures.few in
    let all = c.extent_count.ensures.all in
    is_liveness f forms c.in_ok-names.names.slots c.in_ok-names.names.blocks c.in_ok-starts.starts.items c.in_ok-starts.ensures.live
    c.push_blocks.new.masks.items c.push_blocks.new.extents.items walked (omega (arith, most, long, begun, all)) (omega (arith, long, begun, few))
    c.in_ok-intervals.intervals _
    (subst (λ (n : ℕ). IsPermutation (intervals_from n 32 c.push_blocks.new.extents.items) c.in_ok-intervals.intervals) count
    (subst (λ (os : List (Option Extent)). IsPermutation (intervals_from c.len.result 32 os) c.in_ok-intervals.intervals) c.as_slice-5.ensures.value
    c.in_ok-intervals.ensures.same))
    c.in_ok-intervals.ensures.ordered c.turn.ensures

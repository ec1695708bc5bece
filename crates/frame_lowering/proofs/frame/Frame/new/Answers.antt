use Rattle.std.proofs.Common.{◌≡◌, ℕ, ◌+◌, ◌*◌, ◌≤◌, List, length, ap, subst, ◌∙◌, arith}
use Rattle.mir_func.specs.Function.{Function}
use Rattle.mir_func.specs.Limits.{MAX_FRAME}
use Rattle.mir_func.specs.Objects.{up_to, area_of, extent_of}
use Rattle.frame_rule.specs.Rule.{saved_registers, saved_places, own_size_of, reach_of}
use Rattle.frame_rule.proofs.Reach.{above_blocks}
use Rattle.frame_lowering.proofs.Kept.{few_saved}
use Rattle.frame_lowering.proofs.Ends.{begin_low, reach_found}
use Rattle.frame_lowering.proofs.frame.Frame.new.Goals as goal

pub reach-end-requires-clause-count : goal.reach-end-requires-clause-count
reach-end-requires-clause-count c =
    let slots = ap length c.as_slice-slots.ensures in
    let few = c.f.invariant.few_slots in
    let saved = few_saved c.as_slice.result.now in
    let registers = ap length c.in_ok-registers.ensures in
    let count = c.len.ensures in
    omega (arith, slots, few, saved, registers, count)

pub reach-end-requires-clause-each : goal.reach-end-requires-clause-each
reach-end-requires-clause-each c = rw c.as_slice-objects.ensures c.f.invariant.each_object

pub size-size-requires-clause-count : goal.size-size-requires-clause-count
size-size-requires-clause-count c =
    let slots = ap length c.as_slice-slots.ensures in
    let few = c.f.invariant.few_slots in
    let saved = few_saved c.as_slice.result.now in
    let registers = ap length c.in_ok-registers.ensures in
    let count = c.len.ensures in
    omega (arith, slots, few, saved, registers, count)

pub size-size-requires-clause-each : goal.size-size-requires-clause-each
size-size-requires-clause-each c = rw c.as_slice-objects.ensures c.f.invariant.each_object

pub saved_places-requires-clause-few : goal.saved_places-requires-clause-few
saved_places-requires-clause-few c =
    let saved = few_saved c.as_slice.result.now in
    let registers = ap length c.in_ok-registers.ensures in
    let listed = ap length c.as_slice-3.ensures in
    omega (arith, saved, registers, listed)

pub blocks_end-reach-requires-clause-low : goal.blocks_end-reach-requires-clause-low
blocks_end-reach-requires-clause-low c =
    let sound = c.f.invariant in
    rw c.as_slice-objects.ensures (begin_low _ (omega (arith, sound.few_slots)) sound.each_object sound.objects_laid)

pub own_size-requires : goal.own_size-requires
own_size-requires c =
    let slots = ap length c.as_slice-slots.ensures in
    let few = c.f.invariant.few_slots in
    let saved = few_saved c.as_slice.result.now in
    let registers = ap length c.in_ok-registers.ensures in
    let count = c.len.ensures in
    omega (arith, slots, few, saved, registers, count)

-- the frame itself ends no higher than how far it reaches
pub overflow_cast-result : goal.overflow_cast-result
overflow_cast-result c =
    let higher = above_blocks c.own_size.result c.as_slice-objects.result.now c.reach-end.result c.as_slice-2.result.now in
    omega (arith, higher, c.blocks_end-reach.ensures, c.reach-end.ensures.frame, c.size-size.ensures, c.if-reach-gt-MAX_FRAME.false)

pub returns-clause-made : goal.returns-clause-made
returns-clause-made c =
    let f = c.args.f.now in
    let slots = c.as_slice-slots.ensures ∙ ap (λ (g : Function). g.slots) c.f.view_is in
    let objects : c.as_slice-objects.result.now ≡ f.objects = c.as_slice-objects.ensures ∙ ap (λ (g : Function). g.objects) c.f.view_is in
    let blocks : c.as_slice-2.result.now ≡ f.blocks = c.as_slice-2.ensures ∙ ap (λ (g : Function). g.blocks) c.f.view_is in
    let registers = c.in_ok-registers.ensures ∙ ap saved_registers (c.as_slice.ensures ∙ ap (λ (g : Function). g.blocks) c.f.view_is) in
    let count : length c.as_slice-slots.result.now + c.len.result ≡ length f.slots + length (saved_registers f.blocks) =
    omega (arith, ap length slots, c.len.ensures, ap length registers) in
    let own : up_to 16 (8 * (length c.as_slice-slots.result.now + c.len.result)) ≡ own_size_of f = ap (λ (n : ℕ). up_to 16 (8 * n)) count in
    let extent : extent_of c.as_slice-objects.result.now ≡ extent_of f.objects = ap extent_of objects in
    let area : area_of c.as_slice-objects.result.now ≡ area_of f.objects = ap area_of objects in
    let end : c.reach-end.result ≡ own_size_of f + extent_of f.objects = omega (arith, c.reach-end.ensures.value, own, extent) in
    let reach = reach_found f c.own_size.result c.reach-end.result c.blocks_end-reach.result c.as_slice-objects.result.now c.as_slice-2.result.now
    (c.own_size.ensures.value ∙ own) objects blocks end c.blocks_end-reach.ensures in
    let higher = above_blocks c.own_size.result c.as_slice-objects.result.now c.reach-end.result c.as_slice-2.result.now in
    let low : c.blocks_end-reach.result ≤ MAX_FRAME = c.if-reach-gt-MAX_FRAME.false in
    record {
      slots = c.in_ok-new.ensures ∙ slots;
      saved = c.in_ok-saved_places.ensures ∙ ap (λ (n : ℕ). saved_places n c.as_slice-3.result.now) (ap (λ (s : List ℕ). 8 * length s) slots)
          ∙ ap (saved_places (8 * length f.slots)) (c.as_slice-3.ensures ∙ registers);
      size = omega (arith, c.size-size.ensures, own, area);
      small = omega (arith, higher, c.blocks_end-reach.ensures, c.reach-end.ensures.frame, c.size-size.ensures, low);
      reach = subst (λ (n : ℕ). n ≤ MAX_FRAME) reach low;
    }

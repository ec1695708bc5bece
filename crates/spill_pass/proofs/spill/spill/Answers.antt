use Rattle.std.proofs.Common.{◌≡◌, ℕ, ◌+◌, ◌<◌, ◌^◌, List, ◌++◌, map, All, Bool, refl, sym, ap, ◌∙◌, subst}
use Rattle.mir_func.specs.declared.block.Block.{Block}
use Rattle.mir_func.specs.Function.{Function}
use Rattle.mir_func.specs.Sound.{AllItems, IsSound, HasForm}
use Rattle.spill_proof.specs.pass_trait.declared.loss.Loss.{Loss}
use Rattle.spill_proof.specs.pass_trait.Sizes.{greatest_number}
use Rattle.spill_code.specs.declared.spilling.SlotAssignment.{SlotAssignment}
use Rattle.spill_code.specs.declared.spilling.Spilling.{Spilling}
use Rattle.spill_code.specs.Rewrite.{spilled_blocks}
use Rattle.spill_code.specs.Room.{HaveRoom}
use Rattle.spill_proof.specs.spill_debug.RewrittenDebugItems.{number_beyond, blocks_asked}
use Rattle.spill_proof.specs.spill_debug.Lost.{AreScratchLosses}
use Rattle.spill_proof.specs.spill_select.Incoming.{is_among}
use Rattle.spill_proof.specs.spill_rule.Choice.{entry_of}
use Rattle.spill_proof.specs.Whole.{spilled_by}
use Rattle.spill_proof.specs.Kept.{IsSpilledWithLosses}
use Rattle.spill_pass.specs.declared.plan.SpillPlan.{SpillPlan}
use Rattle.spill_pass.specs.Plan.{IsPlan, AreAllLosses}
use Rattle.spill_pass.proofs.Made.{some_spilled, sound_spilled, room, fresh_enough}
use Rattle.spill_pass.proofs.Results.{not_empty, same_blocks, same_slots}
use Rattle.spill_pass.proofs.spill.spill.Goals as goal

pub blocks_in_slots-requires-clause-fresh : goal.blocks_in_slots-requires-clause-fresh
blocks_in_slots-requires-clause-fresh c =
    let f : Function = c.args.f.now in
    let s : Spilling = c.in_ok-plan.plan.spilling in
    let blocks : c.as_slice-4.result.now ≡ f.blocks = c.as_slice-4.ensures ∙ same_blocks _ _ c.f.view_is in
    let first : c.fresh_number-fresh.result ≡ greatest_number f c.args.subs.now + 1 = c.fresh_number-fresh.ensures in
    subst (λ (bs : List Block). number_beyond s.homes c.fresh_number-fresh.result bs < 2 ^ 32) (sym blocks)
    (subst (λ (k : ℕ). number_beyond s.homes k f.blocks < 2 ^ 32) (sym first) (fresh_enough s f c.args.subs.now c.requires.numbers))

pub blocks_in_slots-requires-clause-room : goal.blocks_in_slots-requires-clause-room
blocks_in_slots-requires-clause-room c =
    let f : Function = c.args.f.now in
    let plan : SpillPlan = c.in_ok-plan.plan in
    let p : IsPlan c.args.reserve.now f plan = c.in_ok-plan.ensures in
    let s : Spilling = plan.spilling in
    let live : ℕ → Bool = is_among plan.incoming in
    let blocks : c.as_slice-4.result.now ≡ f.blocks = c.as_slice-4.ensures ∙ same_blocks _ _ c.f.view_is in
    let sound : IsSound f = subst IsSound c.f.view_is c.f.invariant in
    let forms : AllItems (λ i. HasForm i.kind) f.blocks =
    subst (λ (bs : List Block). AllItems (λ i. HasForm i.kind) bs) (c.as_slice.ensures ∙ same_blocks _ _ c.f.view_is) c.know_forms.ensures in
    let small : All (λ (b : Block). b.source_end < 2 ^ 32) f.blocks =
    subst (λ (bs : List Block). All (λ (b : Block). b.source_end < 2 ^ 32) bs) (c.as_slice-2.ensures ∙ same_blocks _ _ c.f.view_is)
    c.know_silent.ensures in
    let first : c.fresh_number-fresh.result ≡ greatest_number f c.args.subs.now + 1 = c.fresh_number-fresh.ensures in
    subst (λ (bs : List Block). HaveRoom s (blocks_asked s c.fresh_number-fresh.result bs)) (sym blocks)
    (subst (λ (k : ℕ). HaveRoom s (blocks_asked s k f.blocks)) (sym first)
    (room c.args.reserve.now live f c.args.subs.now p.decides s p.spilling (not_empty s.homes c.is_empty.result c.is_empty.ensures c.if-is_empty.false)
    c.requires.reserve sound forms (entry_of live s.homes) refl small))

-- the parts that were made are those of the spilled function
same : (c : goal.After-drop-plan-4) → record {
  name = c.f.inside.name;
  slots = c.in_ok-slots.slots;
  objects = c.f.inside.objects;
  blocks = c.in_ok-blocks.blocks;
} ≡ spilled_by c.in_ok-plan.plan.spilling (entry_of (is_among c.in_ok-plan.plan.incoming) c.in_ok-plan.plan.spilling.homes)
    (greatest_number c.args.f.now c.args.subs.now + 1) c.args.f.now
same c =
    let f : Function = c.args.f.now in
    let s : Spilling = c.in_ok-plan.plan.spilling in
    let entry : List SlotAssignment = entry_of (is_among c.in_ok-plan.plan.incoming) s.homes in
    let old_slots : c.as_slice-5.result.now ≡ f.slots = c.as_slice-5.ensures ∙ same_slots _ _ c.f.view_is in
    let old_blocks : c.as_slice-4.result.now ≡ f.blocks = c.as_slice-4.ensures ∙ same_blocks _ _ c.f.view_is in
    let homes : c.as_slice-6.result.now ≡ s.homes = c.as_slice-6.ensures in
    let first : c.fresh_number-fresh.result ≡ greatest_number f c.args.subs.now + 1 = c.fresh_number-fresh.ensures in
    let slots : c.in_ok-slots.slots ≡ f.slots ++ map (λ (h : SlotAssignment). h.slot) s.homes =
    c.in_ok-slots.ensures ∙ (λ i. old_slots i ++ map (λ (h : SlotAssignment). h.slot) (homes i)) in
    let blocks : c.in_ok-blocks.blocks ≡ spilled_blocks s entry (blocks_asked s (greatest_number f c.args.subs.now + 1) f.blocks) =
    c.in_ok-blocks.ensures ∙ (λ i. spilled_blocks s entry (blocks_asked s (first i) (old_blocks i))) in
    λ i. record { name = (c.f.view_is i).name; slots = slots i; objects = (c.f.view_is i).objects; blocks = blocks i }

pub invariant_of-f : goal.invariant_of-f
invariant_of-f c =
    let f : Function = c.args.f.now in
    let plan : SpillPlan = c.in_ok-plan.plan in
    let p : IsPlan c.args.reserve.now f plan = c.in_ok-plan.ensures in
    let s : Spilling = plan.spilling in
    let live : ℕ → Bool = is_among plan.incoming in
    let sound : IsSound f = subst IsSound c.f.view_is c.f.invariant in
    let forms : AllItems (λ i. HasForm i.kind) f.blocks =
    subst (λ (bs : List Block). AllItems (λ i. HasForm i.kind) bs) (c.as_slice.ensures ∙ same_blocks _ _ c.f.view_is) c.know_forms.ensures in
    subst IsSound (sym (same c))
    (sound_spilled c.args.reserve.now live f c.args.subs.now p.decides s p.spilling
    (not_empty s.homes c.is_empty.result c.is_empty.ensures c.if-is_empty.false) c.requires.reserve sound forms (entry_of live s.homes) refl)

pub returns-clause-spilled : goal.returns-clause-spilled
returns-clause-spilled c =
    let f : Function = c.args.f.now in
    let plan : SpillPlan = c.in_ok-plan.plan in
    let p : IsPlan c.args.reserve.now f plan = c.in_ok-plan.ensures in
    let s : Spilling = plan.spilling in
    let live : ℕ → Bool = is_among plan.incoming in
    let losses : List Loss = c.in_ok-losses.losses in
    let h : AreAllLosses s c.as_slice-3.result.now plan.left losses = c.in_ok-losses.ensures in
    let each : AreScratchLosses s f.blocks h.scratch =
    subst (λ (bs : List Block). AreScratchLosses s bs h.scratch) (c.as_slice-3.ensures ∙ same_blocks _ _ c.f.view_is) h.each in
    subst (λ (g : Function). IsSpilledWithLosses c.args.reserve.now f c.args.subs.now g losses) (sym (same c))
    (some_spilled c.args.reserve.now live f c.args.subs.now p.decides s p.spilling
    (not_empty s.homes c.is_empty.result c.is_empty.ensures c.if-is_empty.false) (entry_of live s.homes) h.scratch losses refl h.ordered each
    (h.are ∙ ap (λ (ls : List Loss). h.scratch ++ ls) p.left))

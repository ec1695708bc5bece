use Rattle.std.proofs.Common.{subst, ap, ◌∙◌}
use Rattle.mir_func.specs.Function.{Function}
use Rattle.mir_func.specs.Sound.{IsSound}
use Rattle.frame_rule.specs.Rule.{slot_places}
use Rattle.frame_lowering.specs.steps.Framing.{framed_blocks_in}
use Rattle.frame_lowering.proofs.Made.{blocks_made, blocks_few, function_made, made_is_framed}
use Rattle.frame_lowering.proofs.lower.lower.Goals as goal

pub invariant_of-result : goal.invariant_of-result
invariant_of-result c =
    let f = c.args.f.now in
    let frame = c.in_ok-frame.frame in
    let name = c.in_ok-copy.ensures ∙ ap (λ (g : Function). g.name) c.f.view_is in
    let objects = c.in_ok-copy-2.ensures ∙ ap (λ (g : Function). g.objects) c.f.view_is in
    let offsets = c.in_ok-slot_places.ensures ∙ ap (slot_places 0) (c.as_slice.ensures ∙ ap (λ (g : Function). g.slots) c.f.view_is) in
    let blocks = c.in_ok-framed_blocks.ensures ∙ ap (framed_blocks_in frame) (c.as_slice-2.ensures ∙ ap (λ (g : Function). g.blocks) c.f.view_is) in
    let sound = subst IsSound c.f.view_is c.f.invariant in
    made_is_framed f frame _ c.in_ok-frame.ensures.made sound c.requires.physical
    (function_made f frame c.in_ok-frame.ensures.made c.in_ok-copy.field-0 c.in_ok-slot_places.field-0 c.in_ok-copy-2.field-0
    c.in_ok-framed_blocks.field-0 name offsets objects blocks)

pub returns-clause-framed : goal.returns-clause-framed
returns-clause-framed c =
    let f = c.args.f.now in
    let frame = c.in_ok-frame.frame in
    let name = c.in_ok-copy.ensures ∙ ap (λ (g : Function). g.name) c.f.view_is in
    let objects = c.in_ok-copy-2.ensures ∙ ap (λ (g : Function). g.objects) c.f.view_is in
    let offsets = c.in_ok-slot_places.ensures ∙ ap (slot_places 0) (c.as_slice.ensures ∙ ap (λ (g : Function). g.slots) c.f.view_is) in
    let blocks = c.in_ok-framed_blocks.ensures ∙ ap (framed_blocks_in frame) (c.as_slice-2.ensures ∙ ap (λ (g : Function). g.blocks) c.f.view_is) in
    function_made f frame c.in_ok-frame.ensures.made c.in_ok-copy.field-0 c.in_ok-slot_places.field-0 c.in_ok-copy-2.field-0
    c.in_ok-framed_blocks.field-0 name offsets objects blocks

pub returns-clause-few : goal.returns-clause-few
returns-clause-few c =
    let f = c.args.f.now in
    let frame = c.in_ok-frame.frame in
    let blocks = c.in_ok-framed_blocks.ensures ∙ ap (framed_blocks_in frame) (c.as_slice-2.ensures ∙ ap (λ (g : Function). g.blocks) c.f.view_is) in
    let sound = subst IsSound c.f.view_is c.f.invariant in
    blocks_few f c.in_ok-framed_blocks.field-0 (blocks ∙ blocks_made f frame c.in_ok-frame.ensures.made f.blocks) sound.few_blocks

use Rattle.std.proofs.Common.{◌≡◌, ◌<◌, ◌≤◌, ◌↔◌, ◌++◌, ◌+◌, [], ◌∷◌, ℕ, List, true, false, None, length, take, get_or, sym, ap, ◌∙◌, subst}
use Rattle.std.proofs.lemmas.List.{take_all, take_more}
use Rattle.mir_func.specs.declared.block.Block.{Block}
use Rattle.mir_func.specs.declared.item.Item.{Item}
use Rattle.mir_func.specs.Function.{Function}
use Rattle.mir_func.specs.Sound.{ids_of, AreApart}
use Rattle.pass_liveness.specs.Sets.{has}
use Rattle.pass_liveness.proofs.Blocks.{get_at, id_is}
use Rattle.dce_rule.specs.Dead.{LiveAtEnd}
use Rattle.dce_analysis.specs.Judge.{verdicts}
use Rattle.dce_analysis.proofs.Blocks.{JudgedBlock, JudgedBlocks, none, one_more, all_judged}
use Rattle.dce_analysis.proofs.judge.judge.Goals as goal

pub loop-block-init : goal.loop-block-init
loop-block-init c = subst (JudgedBlocks c.args.f.now []) (sym c.new-dead.ensures) none

pub loop-block-preserved : goal.loop-block-preserved
loop-block-preserved c =
    let f : Function = c.args.f.now in
    let i : ℕ = c.loop-block.block in
    let b : Block = c.index-as_slice-block.result in
    let blocks : f.blocks ≡ c.as_slice.result.now = ap (λ (g : Function). g.blocks) (sym c.f.view_is) ∙ sym c.as_slice.ensures in
    let within : i < length f.blocks =
    subst (λ (n : ℕ). i < n) (c.len-block-end.ensures ∙ ap (λ (g : Function). length g.blocks) c.f.view_is) c.loop-block-test.true in
    let is : b ≡ get_or f.blocks i b = c.index-as_slice-block.is ∙ ap (λ (bs : List Block). get_or bs i b) (sym blocks) in
    let at = get_at f.blocks i b within is in
    let id = id_is f.blocks i b at in
    let judged : JudgedBlock f b c.in_ok-judge_items.field-0 = record {
      needed = has c.args.live.now.slots c.past_block-needed.result;
      live = λ x. subst (λ (n : ℕ). (has c.args.live.now.slots c.past_block-needed.result x ≡ true) ↔ LiveAtEnd f n x) id
          (c.past_block-needed.ensures x false (λ q. None));
      is = c.in_ok-judge_items.ensures ∙
          ap (λ (is : List Item). verdicts is (has c.args.live.now.slots c.past_block-needed.result)) c.as_slice-in-loop-block.ensures ∙
          ap (λ (z : Block). verdicts z.items (has c.args.live.now.slots c.past_block-needed.result)) (sym c.index-as_slice-block.is);
    } in
    let more : JudgedBlocks f (take i f.blocks ++ b ∷ []) (c.loop-block.dead ++ c.in_ok-judge_items.field-0 ∷ []) =
    one_more c.loop-block.invariant b c.in_ok-judge_items.field-0 judged in
    let next : take i f.blocks ++ b ∷ [] ≡ take (i + 1) f.blocks = ap (λ (z : Block). take i f.blocks ++ z ∷ []) is ∙ sym (take_more f.blocks i b within) in
    subst (JudgedBlocks f (take (i + 1) f.blocks)) (sym c.in_ok-push.ensures.ok)
    (subst (λ (bs : List Block). JudgedBlocks f bs (c.loop-block.dead ++ c.in_ok-judge_items.field-0 ∷ [])) next more)

pub returns : goal.returns
returns c =
    let f : Function = c.args.f.now in
    let apart : AreApart (ids_of f.blocks) = subst (λ (g : Function). AreApart (ids_of g.blocks)) c.f.view_is c.f.invariant.blocks_apart in
    all_judged f c.loop-block.dead (subst (λ (bs : List Block). JudgedBlocks f bs c.loop-block.dead)
    (take_all c.loop-block.block f.blocks (subst (λ (n : ℕ). n ≤ c.loop-block.block)
    (c.len-block-end.ensures ∙ ap (λ (g : Function). length g.blocks) c.f.view_is)
    c.loop-block-test.false)) c.loop-block.invariant) apart

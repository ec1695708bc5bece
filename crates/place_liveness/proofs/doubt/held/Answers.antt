use Rattle.std.proofs.Common.{◌≡◌, ◌<◌, ℕ, List, [], length, sym, ap, ◌∙◌, subst, arith}
use Rattle.std.specs.Prelude.{slice_index_or}
use Rattle.std.proofs.lemmas.List.{get_or_default}
use Rattle.place_liveness.specs.Renewal.{is_held, AreHeld}
use Rattle.place_liveness.proofs.Those.{those_none, those_more, those_other}
use Rattle.place_liveness.proofs.doubt.held.Goals as goal
use Rattle.place_liveness.proofs.doubt.held.Goals.{then-is_held+in_ok-push, else-is_held}

pub loop-block-init : goal.loop-block-init
loop-block-init c =
    those_none (length c.args.blocks.now)
    (λ b. is_held c.args.blocks.now c.args.place.now c.args.before.now c.args.doubted.now b (slice_index_or c.args.down.now b [])) c.new-held.result.items
    c.new-held.ensures.items

pub loop-block-preserved : goal.loop-block-preserved
loop-block-preserved c =
    let test = λ (b : ℕ). is_held c.args.blocks.now c.args.place.now c.args.before.now c.args.doubted.now b (slice_index_or c.args.down.now b []) in
    let count = c.loop-block.block in
    let inside : count < length c.args.blocks.now = omega (arith, c.loop-block-test.true) in
    let listed : c.as_slice-successors.result.now ≡ slice_index_or c.args.down.now count [] =
    c.as_slice-successors.ensures ∙ (c.index-down-block.is
    ∙ sym (get_or_default c.args.down.now count [] c.index-down-block.result (omega (arith, inside, c.requires.long)))) in
    let told = c.is_held.ensures
    ∙ ap (λ (ms : List ℕ). is_held c.args.blocks.now c.args.place.now c.args.before.now c.args.doubted.now count ms) listed in
    elim c.if-is_held.branch [
      | then-is_held+in_ok-push w ↦ rw w.held-is (those_more (length c.args.blocks.now) test count c.loop-block.held.items _ inside
          (sym told ∙ w.if-is_held.true) w.in_ok-push.ensures.items c.loop-block.invariant)
      | else-is_held w ↦ rw w.held-is (those_other (length c.args.blocks.now) test count c.loop-block.held.items (sym told ∙ w.if-is_held.false)
          c.loop-block.invariant)
    ]

pub returns : goal.returns
returns c =
    let all : c.loop-block.block ≡ length c.args.blocks.now = omega arith in
    subst (λ (n : ℕ). AreHeld c.args.blocks.now c.args.place.now c.args.before.now c.args.doubted.now c.args.down.now n c.loop-block.held.items) all
    c.loop-block.invariant

use Rattle.std.proofs.Common.{◌≡◌, ap, ◌∙◌, arith}
use Rattle.std.proofs.lemmas.Int.{ints}
use Rattle.std.specs.Prelude.{pos, ◌-ℤ◌}
use mir.Val.{to_z, of_z}
use mir.Syntax.{w64}
use Rattle.mir_func.specs.declared.position.Origin.TheVariants.{Before}
use Rattle.mir_func.specs.Graph.{block_start}
use Rattle.mir_func.specs.SoundFrame.{adds_to_pointer}
use Rattle.frame_rule.specs.Rule.{added}
use Rattle.frame_lowering.proofs.Made.{prologue_pushed}
use Rattle.frame_lowering.proofs.added.prologue.Goals as goal

pub returns : goal.returns
returns c =
    let size = c.from.ensures in
    let n : to_z w64 (of_z w64 (pos 0 -ℤ to_z w64 (of_z w64 c.from.result))) ≡ pos 0 -ℤ pos c.args.frame.now.size = omega (arith, ints, size) in
    let code = c.in_ok-adds_to_pointer.ensures ∙ ap adds_to_pointer n in
    let lowers = c.added.ensures ∙ ap (added (Before (block_start c.args.first))) code in
    prologue_pushed c.args.frame.now c.args.first c.as_slice.result.now c.new-items.result c.push.new.self c.push_saves.new.items c.added.result
    c.if-frame-eq0.false c.as_slice.ensures c.new-items.ensures lowers c.in_ok-push.ensures.ok c.in_ok-push_saves.ensures

use Rattle.std.proofs.Common.{◌≡◌, ap, ◌∙◌, arith}
use Rattle.std.proofs.lemmas.Int.{ints}
use mir.Val.{to_z, of_z}
use mir.Syntax.{w64}
use Rattle.mir_func.specs.declared.position.Origin.TheVariants.{Before}
use Rattle.mir_func.specs.SoundFrame.{adds_to_pointer}
use Rattle.std.specs.Prelude.{pos}
use Rattle.frame_rule.specs.Rule.{added}
use Rattle.frame_lowering.proofs.Made.{epilogue_pushed}
use Rattle.frame_lowering.proofs.added.push_epilogue.Goals as goal

pub returns : goal.returns
returns c =
    let size = c.from.ensures in
    let n : to_z w64 (of_z w64 c.from.result) ≡ pos c.args.frame.now.size = omega (arith, ints, size) in
    let code = c.in_ok-adds_to_pointer.ensures ∙ ap adds_to_pointer n in
    let raises = c.added.ensures ∙ ap (added (Before c.position_of.result)) code in
    epilogue_pushed c.args.frame.now c.args.origin c.position_of.result c.as_slice.result.now c.args.items.now c.push_restores.new.items c.push.new.self
    c.added.result c.if-frame-eq0.false c.position_of.ensures c.as_slice.ensures c.in_ok-push_restores.ensures raises c.in_ok-push.ensures.ok

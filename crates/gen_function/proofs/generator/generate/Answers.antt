use Rattle.gen_function.proofs.Sound.{parts_are_sound}
use Rattle.gen_function.proofs.generator.generate.Goals as goal

pub invariant_of-result : goal.invariant_of-result
invariant_of-result c =
    parts_are_sound c.args.number c.args.blocks _ _ _ _ c.in_ok-from_slice.ensures c.in_ok-from_slice-2.ensures c.new.ensures c.in_ok-make_blocks.ensures
    c.requires.some c.requires.few

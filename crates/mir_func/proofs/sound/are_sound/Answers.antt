use Rattle.std.proofs.Common.{◌≡◌, ◌∙◌, arith}
use Rattle.mir_func.specs.Sound.{ids_of, items_of}
use Rattle.mir_func.specs.declared.sound.Declared.{Declared}
use Rattle.mir_func.proofs.Once.{codes_of}
use Rattle.mir_func.proofs.Checks.{declared_of, sound_by_parts}
use Rattle.mir_func.proofs.sound.are_sound.Goals as goal

pub returns : goal.returns
returns c =
    let blocks = c.args.blocks.now in
    let d : Declared = record { blocks = c.in_ok-new.field-0; slots = c.in_ok-new-2.field-0; objects = c.in_ok-new-3.field-0; codes = c.in_ok-new-4.field-0 } in
    let ids : c.in_ok-new.field-0 ≡ ids_of blocks = c.in_ok-new.ensures ∙ c.in_ok-block_numbers.ensures in
    let slots : c.in_ok-new-2.field-0 ≡ c.args.slots.now = c.in_ok-new-2.ensures ∙ c.in_ok-slot_numbers.ensures in
    let codes : c.in_ok-new-4.field-0 ≡ codes_of (items_of blocks) = c.in_ok-new-4.ensures ∙ c.in_ok-code_numbers.ensures in
    let same : d ≡ declared_of c.args.slots.now c.args.objects.now blocks = λ i. record {
      blocks = ids i;
      slots = slots i;
      objects = c.in_ok-new-3.ensures i;
      codes = codes i;
    } in
    sound_by_parts d c.args.slots.now c.args.objects.now blocks c.are_parts_sound.result (omega arith) (omega arith)
    (c.in_ok-are_objects_sound.ensures.0 c.if-not-branch.false) same c.are_parts_sound.ensures

use Rattle.debug_content.proofs.Parts.{seven_pieces}
use Rattle.debug_content.proofs.entries.push_front.Goals as goal

pub returns : goal.returns
returns c =
    seven_pieces c.args.pieces.now c.push.new.self c.push-2.new.self c.push-3.new.self c.push-4.new.self c.push-5.new.self c.push-6.new.self
    c.push-7.new.self _ _ _ _ _ _ _ _ _ _ _ _ _ _ c.in_ok-push.ensures.ok c.in_ok-push-2.ensures.ok c.in_ok-push-3.ensures.ok c.in_ok-push-4.ensures.ok
    c.in_ok-push-5.ensures.ok c.in_ok-push-6.ensures.ok c.in_ok-push-7.ensures.ok c.in_ok-header_piece.ensures c.in_ok-offset_field.ensures
    c.in_ok-unit_piece.ensures c.in_ok-offset_field-2.ensures c.in_ok-address_field.ensures c.in_ok-size_piece.ensures c.in_ok-offset_field-3.ensures

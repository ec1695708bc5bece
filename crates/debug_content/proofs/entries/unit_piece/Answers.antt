use Rattle.std.proofs.Common.{List, ℕ, ap, ◌∙◌}
use Rattle.elf_content.specs.declared.piece.Piece.TheVariants.{Fixed}
use Rattle.debug_content.proofs.Parts.{four_appends}
use Rattle.debug_content.proofs.entries.unit_piece.Goals as goal

pub returns : goal.returns
returns c =
    ap (λ (bs : List ℕ). Fixed bs) (c.from.ensures
    ∙ four_appends _ _ _ _ _ _ _ _ _ c.new-front.ensures.items c.in_ok-push_code.ensures c.in_ok-push_u16.ensures c.in_ok-push_text.ensures
    c.in_ok-push_text-2.ensures)

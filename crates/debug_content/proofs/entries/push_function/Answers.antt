use Rattle.std.proofs.Common.{List, ℕ, [], ◌∷◌, ◌++◌, ap, ◌∙◌}
use Rattle.dwarf_base.specs.Leb.{uleb_of}
use Rattle.dwarf_info.specs.declared.kind.DieKind.TheVariants.{Subprogram}
use Rattle.dwarf_info.specs.Entries.{named}
use Rattle.dwarf_info.specs.Kinds.{code}
use Rattle.elf_content.specs.declared.piece.Piece.TheVariants.{Fixed}
use Rattle.debug_content.proofs.Parts.{three_pieces}
use Rattle.debug_content.proofs.entries.push_function.Goals as goal

pub returns : goal.returns
returns c =
    three_pieces c.args.pieces.now c.push.new.self c.push-2.new.self c.push-3.new.self _ _ _ _ _ _ c.in_ok-push.ensures.ok c.in_ok-push-2.ensures.ok
    c.in_ok-push-3.ensures.ok
    (c.in_ok-front_piece.ensures ∙ ap (λ (n : List ℕ). Fixed (uleb_of (code Subprogram) ++ (named n ++ 0 ∷ []))) c.as_slice.ensures)
    c.in_ok-address_field.ensures c.in_ok-children_piece.ensures

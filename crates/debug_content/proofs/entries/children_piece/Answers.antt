use Rattle.std.specs.Int.{w32, to_le_bytes}
use Rattle.std.specs.List.{flat_map}
use Rattle.std.proofs.Common.{List, ℕ, [], ◌∷◌, ◌++◌, ap, ◌∙◌}
use Rattle.dwarf_info.specs.declared.unit.VariableEntry.{VariableEntry}
use Rattle.dwarf_info.specs.Entries.{entry, variable}
use Rattle.dwarf_info.specs.steps.Parts.{in_table}
use Rattle.elf_content.specs.declared.piece.Piece.TheVariants.{Fixed}
use Rattle.debug_content.proofs.Parts.{three_appends}
use Rattle.debug_content.proofs.entries.children_piece.Goals as goal

pub returns : goal.returns
returns c =
    ap (λ (bs : List ℕ). Fixed bs) (c.from.ensures
    ∙ three_appends _ _ _ _ _ _ _ c.new-rest.ensures.items c.in_ok-push_u32.ensures c.in_ok-push_variables.ensures c.in_ok-push.ensures.items
    ∙ ap (λ (vs : List VariableEntry). to_le_bytes w32 c.args.f.now.len ++ (flat_map (λ v. entry (variable (in_table c.args.offsets.now) v)) vs ++ 0 ∷ []))
    c.as_slice.ensures)

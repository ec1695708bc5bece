use Rattle.std.proofs.Common.{◌≡◌, List, ℕ, ◌++◌, take, length, arith, ap, ◌∙◌}
use Rattle.dwarf_info.specs.Entries.{header}
use Rattle.elf_content.specs.declared.piece.Piece.TheVariants.{Fixed}
use Rattle.debug_content.proofs.entries.header_piece.Goals as goal

pub fixed_front-requires : goal.fixed_front-requires
fixed_front-requires c =
    let whole : c.push_header.new.out.items ≡ header c.args.after =
    c.in_ok-push_header.ensures ∙ ap (λ (bs : List ℕ). bs ++ header c.args.after) c.new-header.ensures.items in
    let long = ap (λ (bs : List ℕ). length bs) (c.as_slice.ensures.value ∙ whole) in
    omega (arith, long)

pub returns : goal.returns
returns c =
    let whole : c.push_header.new.out.items ≡ header c.args.after =
    c.in_ok-push_header.ensures ∙ ap (λ (bs : List ℕ). bs ++ header c.args.after) c.new-header.ensures.items in
    c.in_ok-fixed_front.ensures ∙ ap (λ (bs : List ℕ). Fixed (take 8 bs)) (c.as_slice.ensures.value ∙ whole)

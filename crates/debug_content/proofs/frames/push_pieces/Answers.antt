use Rattle.std.proofs.Common.{◌≡◌, List, ℕ, ◌++◌, take, drop, length, arith, ap, ◌∙◌}
use Rattle.dwarf_frame.specs.Spelling.{description}
use Rattle.elf_content.specs.declared.piece.Piece.TheVariants.{Fixed}
use Rattle.debug_content.proofs.Parts.{four_pieces, description_long}
use Rattle.debug_content.proofs.frames.push_pieces.Goals as goal

pub fixed_front-requires : goal.fixed_front-requires
fixed_front-requires c =
    let whole : c.push_description.new.out.items ≡ description c.args.function.now =
    c.in_ok-push_description.ensures ∙ ap (λ (bs : List ℕ). bs ++ description c.args.function.now) c.new-bytes.ensures.items in
    let long = ap (λ (bs : List ℕ). length bs) (c.as_slice.ensures.value ∙ whole) in
    omega (arith, long, description_long c.args.function.now)

pub fixed_rest-requires : goal.fixed_rest-requires
fixed_rest-requires c =
    let whole : c.push_description.new.out.items ≡ description c.args.function.now =
    c.in_ok-push_description.ensures ∙ ap (λ (bs : List ℕ). bs ++ description c.args.function.now) c.new-bytes.ensures.items in
    let long = ap (λ (bs : List ℕ). length bs) (c.as_slice-2.ensures.value ∙ whole) in
    omega (arith, long, description_long c.args.function.now)

pub returns : goal.returns
returns c =
    let whole : c.push_description.new.out.items ≡ description c.args.function.now =
    c.in_ok-push_description.ensures ∙ ap (λ (bs : List ℕ). bs ++ description c.args.function.now) c.new-bytes.ensures.items in
    four_pieces c.args.pieces.now c.push.new.self c.push-2.new.self c.push-3.new.self c.push-4.new.self _ _ _ _ _ _ _ _ c.in_ok-push.ensures.ok
    c.in_ok-push-2.ensures.ok c.in_ok-push-3.ensures.ok c.in_ok-push-4.ensures.ok
    (c.in_ok-fixed_front.ensures ∙ ap (λ (bs : List ℕ). Fixed (take 4 bs)) (c.as_slice.ensures.value ∙ whole)) c.in_ok-offset_field.ensures
    c.in_ok-address_field.ensures
    (c.in_ok-fixed_rest.ensures ∙ ap (λ (bs : List ℕ). Fixed (drop 16 bs)) (c.as_slice-2.ensures.value ∙ whole))

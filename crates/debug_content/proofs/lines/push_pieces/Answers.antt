use Rattle.std.proofs.Common.{◌≡◌, List, ℕ, ◌++◌, take, drop, length, arith, ap, ◌∙◌}
use Rattle.dwarf_line.specs.Spelling.{sequence}
use Rattle.elf_content.specs.declared.piece.Piece.TheVariants.{Fixed}
use Rattle.debug_placement.specs.Fields.{address_field}
use Rattle.debug_content.proofs.Parts.{three_pieces, sequence_long}
use Rattle.debug_content.proofs.lines.push_pieces.Goals as goal

pub fixed_front-requires : goal.fixed_front-requires
fixed_front-requires c =
    let whole : c.push_sequence.new.out.items ≡ sequence (record { rows = c.args.rows.now; end = c.args.end }) =
    c.in_ok-push_sequence.ensures.bytes
    ∙ ap (λ (bs : List ℕ). bs ++ sequence (record { rows = c.args.rows.now; end = c.args.end })) c.new-bytes.ensures.items in
    let long = ap (λ (bs : List ℕ). length bs) (c.as_slice.ensures.value ∙ whole) in
    omega (arith, long, sequence_long c.args.rows.now c.args.end)

pub fixed_rest-requires : goal.fixed_rest-requires
fixed_rest-requires c =
    let whole : c.push_sequence.new.out.items ≡ sequence (record { rows = c.args.rows.now; end = c.args.end }) =
    c.in_ok-push_sequence.ensures.bytes
    ∙ ap (λ (bs : List ℕ). bs ++ sequence (record { rows = c.args.rows.now; end = c.args.end })) c.new-bytes.ensures.items in
    let long = ap (λ (bs : List ℕ). length bs) (c.as_slice-2.ensures.value ∙ whole) in
    omega (arith, long, sequence_long c.args.rows.now c.args.end)

pub returns : goal.returns
returns c =
    let whole : c.push_sequence.new.out.items ≡ sequence (record { rows = c.args.rows.now; end = c.args.end }) =
    c.in_ok-push_sequence.ensures.bytes
    ∙ ap (λ (bs : List ℕ). bs ++ sequence (record { rows = c.args.rows.now; end = c.args.end })) c.new-bytes.ensures.items in
    three_pieces c.args.pieces.now c.push.new.self c.push-2.new.self c.push-3.new.self _ _ _ _ _ _ c.in_ok-push.ensures.ok c.in_ok-push-2.ensures.ok
    c.in_ok-push-3.ensures.ok
    (c.in_ok-fixed_front.ensures ∙ ap (λ (bs : List ℕ). Fixed (take 3 bs)) (c.as_slice.ensures.value ∙ whole))
    (c.in_ok-address_field.ensures ∙ ap (λ (a : ℕ). address_field c.args.text a) c.first_address.ensures)
    (c.in_ok-fixed_rest.ensures ∙ ap (λ (bs : List ℕ). Fixed (drop 11 bs)) (c.as_slice-2.ensures.value ∙ whole))

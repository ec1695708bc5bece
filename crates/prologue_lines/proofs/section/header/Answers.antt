use Rattle.std.proofs.Common.{arith, ap, length, ◌∙◌}
use Rattle.std.proofs.lemmas.Result.{IfOk-weaker}
use Rattle.elf_content.specs.declared.piece.Piece.TheVariants.{Fixed}
use Rattle.prologue_lines.specs.steps.Ends.{ends_in}
use Rattle.prologue_lines.proofs.Sizes.{section_ends, plain_header, header_within, bytes_within, length_after, header_made}
use Rattle.prologue_lines.proofs.section.header.Goals as goal

pub write_line-requires-clause-size : goal.write_line-requires-clause-size
write_line-requires-clause-size c = omega (arith, section_ends c.args.t.now, c.requires.size)

pub overflow_sub-length_after : goal.overflow_sub-length_after
overflow_sub-length_after c =
    let bytes = ap length c.in_ok-section.ensures.bytes in omega (arith, bytes, c.len.ensures, plain_header c.args.t.now)

pub overflow_cast-length_after : goal.overflow_cast-length_after
overflow_cast-length_after c =
    let bytes = ap length c.in_ok-section.ensures.bytes in
    let ends = c.prologue_ends.ensures ∙ ap ends_in c.as_slice.ensures in
    omega (arith, bytes, ends, c.len.ensures, section_ends c.args.t.now, c.requires.size)

pub overflow_add-count : goal.overflow_add-count
overflow_add-count c = omega (arith, header_within c.args.t.now _ c.tables_len-count.ensures c.requires.size, section_ends c.args.t.now, c.requires.size)

pub with_length-requires : goal.with_length-requires
with_length-requires c =
    let bytes = ap length (c.as_slice-2.ensures ∙ c.in_ok-section.ensures.bytes) in omega (arith, bytes, plain_header c.args.t.now)

pub fixed_front-requires : goal.fixed_front-requires
fixed_front-requires c =
    bytes_within c.args.t.now c.tables_len-count.result _ _ _ c.tables_len-count.ensures c.requires.size (c.as_slice-2.ensures ∙ c.in_ok-section.ensures.bytes)
    (c.as_slice-3.ensures.value ∙ c.in_ok-bytes.ensures)

pub returns : goal.returns
returns c =
    let t = c.args.t.now in
    let long = c.len.ensures ∙ ap length c.in_ok-section.ensures.bytes in
    let ends = c.prologue_ends.ensures ∙ ap ends_in c.as_slice.ensures in
    IfOk-weaker c.fixed_front.result _ _
    (λ made e.
    e
    ∙ ap Fixed (header_made t c.tables_len-count.result _ _ _ c.tables_len-count.ensures c.requires.size (length_after t _ _ long ends)
    (c.as_slice-2.ensures ∙ c.in_ok-section.ensures.bytes) (c.as_slice-3.ensures.value ∙ c.in_ok-bytes.ensures)))
    c.fixed_front.ensures

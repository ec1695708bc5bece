use Rattle.std.proofs.Common.{◌≡◌, List, ℕ, ◌++◌, ap, ◌∙◌}
use Rattle.std.proofs.lemmas.Result.{IfOk-weaker}
use Rattle.dwarf_line.specs.Spelling.{sequence as plain_sequence}
use Rattle.prologue_lines.proofs.Opcodes.{marked_at, within_at, plain_alone}
use Rattle.prologue_lines.proofs.section.sequence_bytes.Goals as goal

pub returns-then-rows-lt2 : goal.returns-then-rows-lt2
returns-then-rows-lt2 c =
    let plain : c.push_sequence.new.out.items ≡ plain_sequence (record { rows = c.args.rows.now; end = c.args.end }) =
    c.in_ok-push_sequence.ensures.bytes
    ∙ ap (λ (bs : List ℕ). bs ++ plain_sequence (record { rows = c.args.rows.now; end = c.args.end })) c.new-plain.ensures.items in
    plain_alone c.args.rows.now c.args.end _ c.if-rows-lt2.true plain

pub with_prologue_end-requires : goal.with_prologue_end-requires
with_prologue_end-requires c =
    let plain : c.push_sequence.new.out.items ≡ plain_sequence (record { rows = c.args.rows.now; end = c.args.end }) =
    c.in_ok-push_sequence.ensures.bytes
    ∙ ap (λ (bs : List ℕ). bs ++ plain_sequence (record { rows = c.args.rows.now; end = c.args.end })) c.new-plain.ensures.items in
    within_at c.args.rows.now c.args.end c.in_ok-at.at _ _ _ c.if-rows-lt2.false (c.as_slice.ensures.value ∙ plain) c.in_ok-at.ensures

pub returns : goal.returns
returns c =
    let plain : c.push_sequence.new.out.items ≡ plain_sequence (record { rows = c.args.rows.now; end = c.args.end }) =
    c.in_ok-push_sequence.ensures.bytes
    ∙ ap (λ (bs : List ℕ). bs ++ plain_sequence (record { rows = c.args.rows.now; end = c.args.end })) c.new-plain.ensures.items in
    IfOk-weaker c.with_prologue_end.result _ _
    (λ made e.
    marked_at c.args.rows.now c.args.end c.in_ok-at.at _ _ _ made.items c.if-rows-lt2.false (c.as_slice.ensures.value ∙ plain) c.in_ok-at.ensures e)
    c.with_prologue_end.ensures

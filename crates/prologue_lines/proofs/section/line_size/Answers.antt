use Rattle.std.proofs.Common.{arith, ap, ◌∙◌}
use Rattle.prologue_lines.specs.steps.Ends.{ends_in}
use Rattle.prologue_lines.proofs.Sizes.{section_ends}
use Rattle.prologue_lines.proofs.section.line_size.Goals as goal

pub returns-then-size-lt-SECTION_LIMIT-clause-none : goal.returns-then-size-lt-SECTION_LIMIT-clause-none
returns-then-size-lt-SECTION_LIMIT-clause-none c =
    let ends = c.prologue_ends.ensures ∙ ap ends_in c.as_slice.ensures in (
      λ no. absurd cc,
      λ large. absurd (omega (
        arith,
        large,
        ends,
        section_ends c.args.t.now,
        c.section_len.ensures,
        c.saturating_add-size.ensures,
        c.if-size-lt-SECTION_LIMIT.true,
      )),
    )

pub returns-then-size-lt-SECTION_LIMIT-clause-size : goal.returns-then-size-lt-SECTION_LIMIT-clause-size
returns-then-size-lt-SECTION_LIMIT-clause-size c =
    let ends = c.prologue_ends.ensures ∙ ap ends_in c.as_slice.ensures in
    omega (arith, ends, section_ends c.args.t.now, c.section_len.ensures, c.saturating_add-size.ensures, c.if-size-lt-SECTION_LIMIT.true)

pub returns-else-size-lt-SECTION_LIMIT-clause-none : goal.returns-else-size-lt-SECTION_LIMIT-clause-none
returns-else-size-lt-SECTION_LIMIT-clause-none c =
    let ends = c.prologue_ends.ensures ∙ ap ends_in c.as_slice.ensures in (
      λ _. omega (arith, ends, section_ends c.args.t.now, c.section_len.ensures, c.saturating_add-size.ensures, c.if-size-lt-SECTION_LIMIT.false),
      λ _. cc,
    )

-- Inlined functions are among the sections exactly if they are asked for.
use Rattle.std.proofs.Common.{◌≡◌, Bool, IfOk, is_some, sym, subst}
use Rattle.std.specs.Prelude.{IsErrOf}
use Rattle.compile_function.specs.dwarf_sections.declared.sections.SectionError.TheVariants.{TooLarge}
use Rattle.compile_program.specs.declared.compile.Description.{Description}
use Rattle.compile_program.specs.steps.Described.{IsLargeDescription}
use Rattle.compile_program.proofs.compile.describe.Goals as goal

pub returns-then-with_inline-clause-present : goal.returns-then-with_inline-clause-present
returns-then-with_inline-clause-present c =
    subst (λ (b : Bool). IfOk c.describe_inlined.result (λ (d : Description). is_some d.ranges ≡ b)) (sym c.if-with_inline.true)
    c.describe_inlined.ensures.present

pub returns-then-with_inline-clause-large : goal.returns-then-with_inline-clause-large
returns-then-with_inline-clause-large c =
    subst (λ (b : Bool). IsErrOf c.describe_inlined.result TooLarge → IsLargeDescription b c.args.meta.now c.args.text_len c.args.functions.now)
    (sym c.if-with_inline.true) c.describe_inlined.ensures.large

pub returns-clause-present : goal.returns-clause-present
returns-clause-present c =
    subst (λ (b : Bool). IfOk c.describe_plain.result (λ (d : Description). is_some d.ranges ≡ b)) (sym c.if-with_inline.false)
    c.describe_plain.ensures.present

pub returns-clause-large : goal.returns-clause-large
returns-clause-large c =
    subst (λ (b : Bool). IsErrOf c.describe_plain.result TooLarge → IsLargeDescription b c.args.meta.now c.args.text_len c.args.functions.now)
    (sym c.if-with_inline.false) c.describe_plain.ensures.large

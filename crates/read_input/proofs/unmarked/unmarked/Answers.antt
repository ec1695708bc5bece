use Rattle.std.proofs.Common.{sym, ◌∙◌}
use Rattle.read_input.proofs.AnyMetadata.{body_of-unmarked}
use Rattle.read_input.proofs.unmarked.unmarked.Goals as goal

pub returns-then-is_empty : goal.returns-then-is_empty
returns-then-is_empty c = λ meta.
    body_of-unmarked c.args.linked c.in_ok-none.none meta c.args.lines.now c.in-Ok.body (sym c.in_ok-body.ensures ∙
    c.in-Ok.is) (c.is_empty.ensures.0 c.if-is_empty.true)

use Rattle.std.proofs.Common.{ap, subst, ◌∙◌}
use Rattle.dwarf_line.specs.Fields.{constants_at}
use Rattle.dwarf_frame.specs.steps.Gives.{Gives}
use Rattle.dwarf_frame.proofs.ReadLoops.{padding_of}
use Rattle.dwarf_frame.proofs.read.after_padding.Goals as goal

pub returns-then-bytes-lt8 : goal.returns-then-bytes-lt8
returns-then-bytes-lt8 c =
    subst (Gives (λ x. x.now) c.constants.result)
    (ap (λ x. constants_at x c.args.bytes.now) c.split_at.ensures.front ∙ padding_of c.args.bytes.now c.if-bytes-lt8.true) c.constants.ensures

use Rattle.std.proofs.Common.{sym, subst}
use Rattle.std.proofs.lemmas.Result.{IfOk-weaker, IfErr-weaker}
use Rattle.tool_driver.specs.Run.{HasReadProgram}
use Rattle.tool_driver.specs.steps.Ends.{HasReadNone}
use Rattle.tool_driver.specs.Stream.{change}
use Rattle.tool_driver.proofs.Inputs.{reads_program, reads_none, reads_refusal, reads_too_long}
use Rattle.tool_driver.proofs.driver.read.Goals as goal

pub returns-in-Ok-clause-ok : goal.returns-in-Ok-clause-ok
returns-in-Ok-clause-ok g c =
    let input = change g.S.Source.left g.S.Source.faults c.args.input.now c.read_input.new.input in
    let said = c.in-Ok.ensures.answers in
    IfOk-weaker c.some_function.result _ (HasReadProgram c.args.linked input)
    (λ program is. subst (HasReadProgram c.args.linked input) (sym is.0) (reads_program c.args.linked input said.1
    c.in-Ok.program said.0 is.1)) c.some_function.ensures.ok

pub returns-in-Ok-clause-err : goal.returns-in-Ok-clause-err
returns-in-Ok-clause-err g c =
    let input = change g.S.Source.left g.S.Source.faults c.args.input.now c.read_input.new.input in
    let said = c.in-Ok.ensures.answers in
    IfErr-weaker c.some_function.result _ (HasReadNone c.args.linked input)
    (λ fault is. subst (HasReadNone c.args.linked input) (sym is.0) (reads_none c.args.linked input said.1 c.in-Ok.program said.0
    is.1)) c.some_function.ensures.err

pub returns-in-Err-Refused-clause-err : goal.returns-in-Err-Refused-clause-err
returns-in-Err-Refused-clause-err g c =
    let input = change g.S.Source.left g.S.Source.faults c.args.input.now c.read_input.new.input in
    let said = rw c.in-Err-Refused.field-0-is at c.in-Err-Refused.ensures.answers in
    reads_refusal c.args.linked input said.1 c.in-Err-Refused.refusal said.0

pub returns-in-Err-TooLong-clause-err : goal.returns-in-Err-TooLong-clause-err
returns-in-Err-TooLong-clause-err g c =
    let input = change g.S.Source.left g.S.Source.faults c.args.input.now c.read_input.new.input in
    let said = rw c.in-Err-TooLong.field-0-is at c.in-Err-TooLong.ensures.answers in
    reads_too_long c.args.linked input said.1 said.0

pub returns-in-Err-Failed-clause-err : goal.returns-in-Err-Failed-clause-err
returns-in-Err-Failed-clause-err g c =
    let said = rw c.in-Err-Failed.field-0-is at c.in-Err-Failed.ensures.answers in
    said.1

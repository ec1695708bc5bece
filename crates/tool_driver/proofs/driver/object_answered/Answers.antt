use Rattle.std.proofs.lemmas.Result.{err_from_is_err_and}
use Rattle.readback_strip.proofs.read_proof.Texts.{programs_are_as_read}
use Rattle.cli.specs.declared.command.Command.TheVariants.{Object}
use Rattle.tool_driver.specs.Stream.{change}
use Rattle.tool_driver.proofs.AnswerLemmas.{object_ok, object_err, read_none}
use Rattle.tool_driver.proofs.driver.object_answered.Goals as goal

pub object_text-requires-clause-read : goal.object_text-requires-clause-read
object_text-requires-clause-read g c =
    let read = c.in_ok-program-in-None.ensures.ok in
    programs_are_as_read c.args.asked.plan.linked read.text c.in_ok-program-in-None.program read.has.reads

pub returns-clause-ok : goal.returns-clause-ok
returns-clause-ok g c =
    let input = change g.S.Source.left g.S.Source.faults c.args.input.now c.read.new.input in
    object_ok c.args.asked input c.in_ok-program-in-None.program c.in_ok-program-in-None.ensures.ok c.in-None.is c.object_text.result c.object_text.ensures.ok

pub returns-clause-err : goal.returns-clause-err
returns-clause-err g c =
    let input = change g.S.Source.left g.S.Source.faults c.args.input.now c.read.new.input in
    object_err c.args.asked input c.in_ok-program-in-None.program c.in_ok-program-in-None.ensures.ok c.object_text.result c.object_text.ensures.err

pub returns-in_err-program-in-None-clause-err : goal.returns-in_err-program-in-None-clause-err
returns-in_err-program-in-None-clause-err g c =
    let p = err_from_is_err_and c.from_residual.result c.from_residual.ensures.1 in
    rw (p.1, p.2)
    (read_none (Object c.args.asked) tt (change g.S.Source.left g.S.Source.faults c.args.input.now c.read.new.input) c.in_err-program-in-None.field-0.0
    c.in_err-program-in-None.ensures.err)

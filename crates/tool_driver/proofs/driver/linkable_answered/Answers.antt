use Rattle.std.proofs.lemmas.Result.{err_from_is_err_and}
use Rattle.readback_strip.proofs.read_proof.Texts.{programs_are_as_read}
use Rattle.cli.specs.declared.command.Command.TheVariants.{Object}
use Rattle.tool_driver.specs.Stream.{change}
use Rattle.tool_driver.proofs.AnswerLemmas.{linkable_ok, linkable_err, read_none}
use Rattle.tool_driver.proofs.driver.linkable_answered.Goals as goal

pub linkable_text-requires-clause-read : goal.linkable_text-requires-clause-read
linkable_text-requires-clause-read g c =
    let read = c.in_ok-whole.ensures.ok in
    programs_are_as_read c.args.asked.now.plan.linked read.text c.in_ok-whole.whole.program read.has.reads

pub returns-clause-ok : goal.returns-clause-ok
returns-clause-ok g c =
    let input = change g.S.Source.left g.S.Source.faults c.args.input.now c.read_whole.new.input in
    linkable_ok c.args.asked.now c.args.form c.requires input c.in_ok-whole.whole.lines c.in_ok-whole.whole.program c.in_ok-whole.ensures.ok
    c.linkable_text.result c.linkable_text.ensures.ok

pub returns-clause-err : goal.returns-clause-err
returns-clause-err g c =
    let input = change g.S.Source.left g.S.Source.faults c.args.input.now c.read_whole.new.input in
    linkable_err c.args.asked.now c.args.form c.requires input c.in_ok-whole.whole.lines c.in_ok-whole.whole.program c.in_ok-whole.ensures.ok
    c.linkable_text.result c.linkable_text.ensures.err

pub returns-in_err-whole-clause-err : goal.returns-in_err-whole-clause-err
returns-in_err-whole-clause-err g c =
    let p = err_from_is_err_and c.from_residual.result c.from_residual.ensures.1 in
    rw (p.1, p.2)
    (read_none (Object c.args.asked.now) tt (change g.S.Source.left g.S.Source.faults c.args.input.now c.read_whole.new.input)
    c.in_err-whole.field-0.0 c.in_err-whole.ensures.err)

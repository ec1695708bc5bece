-- A program that isn't compiled has no object.
use Rattle.std.proofs.Common.{refl, inl}
use Rattle.cli.specs.declared.command.Command.TheVariants.{Object}
use Rattle.tool_driver.proofs.AnswerLemmas.{by_compiling, object_named}
use Rattle.tool_driver.proofs.compiled.linkable_text.Goals as goal

pub returns-in-Err-clause-err : goal.returns-in-Err-clause-err
returns-in-Err-clause-err c =
    inl
    (by_compiling (Object c.args.asked.now) c.args.program.now c.args.asked.now.plan refl (object_named c.args.asked.now c.args.program.now)
    c.in-Err.fault c.in-Err.ensures.err)

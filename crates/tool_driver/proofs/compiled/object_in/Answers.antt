-- The object of a compilation is that of an output of the program.
use Rattle.std.proofs.Common.{Option, refl, sym, subst}
use Rattle.cli.specs.declared.command.LinkableForm.{LinkableForm}
use Rattle.tool_driver.specs.Compiled.{HasInvalidNameAsked}
use Rattle.tool_driver.specs.Refusals.{no_symbol_name, object_too_large}
use Rattle.tool_driver.proofs.compiled.object_in.Goals as goal

pub returns-in-Ok-clause-ok : goal.returns-in-Ok-clause-ok
returns-in-Ok-clause-ok c = record { output = c.args.compilation.output; is = c.requires.output; object = c.in-Ok.ensures.object }

pub returns-in-Err-SymbolName-clause-err : goal.returns-in-Err-SymbolName-clause-err
returns-in-Err-SymbolName-clause-err c =
    no_symbol_name c.args._asked.now refl
    (subst (λ (f : Option LinkableForm). HasInvalidNameAsked f c.args._asked.now.plan c.args._program.now) (sym c.requires.form)
    (record { output = c.args.compilation.output; is = c.requires.output; invalid = c.in-Err-SymbolName.ensures.symbol_name cc }))

pub returns-in-Err-TooLarge-clause-err : goal.returns-in-Err-TooLarge-clause-err
returns-in-Err-TooLarge-clause-err c =
    object_too_large c.args._asked.now refl c.requires.form
    (record { output = c.args.compilation.output; is = c.requires.output; large = c.in-Err-TooLarge.ensures.too_large cc })

use Rattle.std.proofs.Common.{rules}
use Rattle.compile_function.proofs.Few.{few_words}
use Rattle.compile_function.proofs.emit.compiled.Goals as goal

-- its items and calls are few, so its words are
pub unreachable-requires-in-Err-TooLong : goal.unreachable-requires-in-Err-TooLong
unreachable-requires-in-Err-TooLong c =
    let below = few_words c.args.function.now c.requires.sound c.requires.few c.requires.calls in
    search (rules, below)

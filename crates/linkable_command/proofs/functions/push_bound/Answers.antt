use Rattle.std.proofs.Common.{drop}
use Rattle.object_command.proofs.SymbolLemmas.{too_many}
use Rattle.linkable_command.specs.Symbols.{bound_symbols}
use Rattle.linkable_command.proofs.functions.push_bound.Goals as goal

pub returns-then-len-ge-MAX_SYMBOLS-clause-too_large : goal.returns-then-len-ge-MAX_SYMBOLS-clause-too_large
returns-then-len-ge-MAX_SYMBOLS-clause-too_large c = λ _.
    too_many c.loop-function.symbols
    (bound_symbols c.args.local c.args.linkages.now (drop c.loop-function.function-index c.args.functions.now)) _ c.len.result
    c.if-len-ge-MAX_SYMBOLS.true c.len.ensures c.loop-function.invariant.used

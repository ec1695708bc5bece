use Rattle.std.proofs.Common.{map, drop}
use Rattle.object_command.specs.Object.{defined_symbol}
use Rattle.object_command.proofs.SymbolLemmas.{too_many}
use Rattle.object_command.proofs.symbols.push_functions.Goals as goal

pub returns-then-len-ge-MAX_SYMBOLS-clause-too_large : goal.returns-then-len-ge-MAX_SYMBOLS-clause-too_large
returns-then-len-ge-MAX_SYMBOLS-clause-too_large c = λ _.
    too_many c.loop-function.symbols (map defined_symbol (drop c.loop-function.function-index c.args.functions.now)) _ c.len.result
    c.if-len-ge-MAX_SYMBOLS.true c.len.ensures c.loop-function.invariant.used

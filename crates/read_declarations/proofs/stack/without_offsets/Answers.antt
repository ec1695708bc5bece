use Rattle.std.proofs.Common.{rules}
use Rattle.std.proofs.lemmas.Iterator.{items_from_collect, YieldsList-from_slice, YieldsList-from_map}
use Rattle.std.proofs.lemmas.Iterator.Consumers.{YieldsList-at}
use Rattle.read_declarations.specs.Stack.{without_offset}
use Rattle.read_declarations.proofs.stack.without_offsets.Goals as goal

pub returns : goal.returns
returns c =
    items_from_collect _ c.collect.ensures.ran
    (YieldsList-from_map _ without_offset (YieldsList-at c.map.ensures.source
    (YieldsList-from_slice c.args.entries.now c.iter.ensures.rest)) c.map.ensures.closure (λ x r q k. search rules))

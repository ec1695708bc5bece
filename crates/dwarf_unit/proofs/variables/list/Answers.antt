use Rattle.std.proofs.Common.{rules, ◌∙◌}
use Rattle.std.proofs.lemmas.Iterator.{items_from_collect, YieldsList-from_slice, YieldsList-from_map}
use Rattle.std.proofs.lemmas.Iterator.Consumers.{YieldsList-at}
use Rattle.dwarf_unit.specs.steps.Keys.{seen}
use Rattle.dwarf_unit.proofs.variables.list.Goals as goal

pub returns : goal.returns
returns c =
    c.from.ensures ∙ rw c.in_ok-variables.was at
    (items_from_collect _ c.collect.ensures.ran
    (YieldsList-from_map _ seen (YieldsList-at c.map.ensures.source (YieldsList-from_slice c.args.keys.now c.iter.ensures.rest)) c.map.ensures.closure
    (λ x r q k. search rules)))

use Rattle.std.proofs.Common.{All, take}
use Rattle.mir_type_facts.specs.Typed.{IsTypedItem}
use Rattle.mir_type_facts.proofs.typed.items_are_typed.Given as goal

abbrev pub invariant-loop-item : goal.invariant-loop-item
invariant-loop-item l = All IsTypedItem (take l.item-index l.items)

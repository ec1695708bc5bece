use Rattle.std.proofs.Common.{◌≡◌, map, take}
use Rattle.read_program.specs.Objects.{item_as}
use Rattle.read_program.proofs.objects.items_as.Given as goal

abbrev pub invariant-loop-item : goal.invariant-loop-item
invariant-loop-item l = l.renamed ≡ map (item_as l.ids) (take l.item-index l.items)

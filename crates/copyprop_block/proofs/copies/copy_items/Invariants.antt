use Rattle.std.proofs.Common.{◌≤◌, ◌+◌, take}
use Rattle.pass_salvage.specs.Lookup.{IsLookupOf}
use Rattle.copyprop_block.specs.Copied.{over_items, at_block}
use Rattle.copyprop_block.specs.Next.{Stands}
use Rattle.copyprop_block.proofs.copies.copy_items.Given as goal

abbrev pub invariant-loop-at : goal.invariant-loop-at
invariant-loop-at l = record {
  so_far : Stands (over_items (at_block l.initial.subs l.initial.fresh) (take l.at l.initial.items.items)) l.kept l.at l.items.items l.initial.items.items
      l.roots.items l.subs l.fresh;
  found : IsLookupOf l.lookup l.subs (take l.kept l.items.items);
  counted : l.fresh ≤ l.initial.fresh + l.at;
}

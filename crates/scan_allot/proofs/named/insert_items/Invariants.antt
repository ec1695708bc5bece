use Rattle.std.proofs.Common.{drop}
use Rattle.pass_trait.specs.Causes.{names}
use Rattle.scan_allot.proofs.Inserted.{Inserts}
use Rattle.scan_allot.proofs.named.insert_items.Given as goal

abbrev pub invariant-loop-item : goal.invariant-loop-item
invariant-loop-item l = Inserts (λ r i. names r i.kind) l.items l.initial.named (drop l.item-index l.items) l.named

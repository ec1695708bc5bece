use Rattle.std.proofs.Common.{drop}
use Rattle.std.specs.List.{list_any}
use Rattle.pass_trait.specs.Causes.{names}
use Rattle.scan_allot.proofs.Inserted.{Inserts}
use Rattle.scan_allot.proofs.named.insert_blocks.Given as goal

abbrev pub invariant-loop-block : goal.invariant-loop-block
invariant-loop-block l = Inserts (λ r b. list_any (λ i. names r i.kind) b.items) l.blocks l.initial.named (drop l.block-index l.blocks) l.named

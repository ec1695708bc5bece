use Rattle.std.proofs.Common.{◌≡◌, ◌<◌, ℕ}
use Rattle.std.specs.Prelude.{Some, None, true, false, slice_get, slice_index_or}
use Rattle.mir_func.specs.declared.item.Item.{Item}
use Rattle.dce_salvage.specs.SalvageNumbers.{numbered_copy}
use Rattle.dce_salvage.proofs.salvage_blocks.has_copy.Given as goal

abbrev pub invariant-loop-at : goal.invariant-loop-at
invariant-loop-at l = (n : ℕ) (x : Item) → n < l.at → slice_get l.items n ≡ Some x → slice_index_or l.dead n false ≡ true → numbered_copy x.kind ≡ None

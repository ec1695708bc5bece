-- Fresh numbers never fall.
use Rattle.std.proofs.Common.{ℕ, ◌≤◌, List, [], ◌∷◌, Option, Some, None, arith}
use Rattle.std.proofs.Math.Nat.{le_trans}
use Rattle.mir_func.specs.declared.variable.MarkValue.TheVariants.{Nothing, Constant, At, Pair}
use Rattle.mir_func.specs.declared.block.Block.{Block}
use Rattle.mir_func.specs.declared.item.Item.{Item}
use Rattle.mir_func.specs.declared.item.ItemKind.{ItemKind}
use Rattle.mir_func.specs.declared.item.ItemKind.TheVariants.{Code, Mark, Phi}
use Rattle.spill_code.specs.declared.spilling.SlotAssignment.{SlotAssignment}
use Rattle.spill_code.specs.Rewrite.{slot_of}
use Rattle.spill_debug.specs.RewrittenDebugItems.{number_past, next_number, number_behind, number_beyond}

module _ (homes : List SlotAssignment) where
  past_up : (k : ℕ) (home : Option ℕ) → k ≤ number_past k home
  past_up k None = omega arith
  past_up k (Some n) = omega arith

  next_up : (k : ℕ) (kind : ItemKind) → k ≤ next_number homes k kind
  next_up k (Code i n) = omega arith
  next_up k (Phi p n) = omega arith
  next_up k (Mark v Nothing) = omega arith
  next_up k (Mark v (Constant n)) = omega arith
  next_up k (Mark v (Pair q)) = omega arith
  next_up k (Mark v (At r)) = past_up k (slot_of homes r)

  pub behind_up : (k : ℕ) (xs : List Item) → k ≤ number_behind homes k xs
  behind_up k [] = omega arith
  behind_up k (x ∷ xs) = le_trans (next_up k x.kind) (behind_up (next_number homes k x.kind) xs)

  pub beyond_up : (k : ℕ) (bs : List Block) → k ≤ number_beyond homes k bs
  beyond_up k [] = omega arith
  beyond_up k (b ∷ bs) = le_trans (behind_up k b.items) (beyond_up (number_behind homes k b.items) bs)

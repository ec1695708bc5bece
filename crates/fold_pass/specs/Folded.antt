-- Folded blocks with their kills, and the losses.
use Rattle.std.specs.Prelude.{◌≡◌, ◌↔◌, ℕ, List, map, Bool, Contains, IsTrue}
use Rattle.mir_func.specs.declared.block.Block.{Block}
use Rattle.pass_trait.specs.declared.loss.Loss.{Loss}
use Rattle.pass_trait.specs.Order.{IsInOrder}
use Rattle.fold_targets.specs.Leads.{lead}
use Rattle.fold_rule.specs.Reached.{Reached}
use Rattle.fold_rule.specs.Rule.{AreFolded}
use Rattle.fold_proof.specs.fold_rule_proof.Kills.{with_kills}
use Rattle.fold_proof.specs.Lost.{all_lost}

-- the blocks are folded, kills are added where the chains of bypassed blocks end, and the losses are all losses, in
-- order
pub record AreFoldedWithLosses (old new : List Block) (losses : List Loss) : Type 0 where
  pub blocks : List Block
  pub folded : AreFolded old blocks
  pub was : ℕ → Bool
  pub reached : (n : ℕ) → IsTrue (was n) ↔ Reached old (λ m. m) n
  pub killed : new ≡ map (with_kills folded.end was old) blocks
  pub ordered : IsInOrder losses
  pub each : (l : Loss) → Contains losses l ↔ Contains (all_lost folded.end was (lead old) old) l

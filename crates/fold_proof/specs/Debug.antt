-- The debug rule of folding.
use Rattle.std.specs.Prelude.{◌≡◌, ◌↔◌, ℕ, List, [], Bool, Some, IsTrue}
use Rattle.mir_func.specs.declared.block.Block.{Block}
use Rattle.mir_func.specs.declared.item.Item.{Item}
use Rattle.mir_func.specs.declared.position.Pos.{Pos}
use Rattle.mir_func.specs.Function.{Function}
use Rattle.pass_trait.specs.declared.loss.Reason.{Reason}
use Rattle.pass_trait.specs.declared.loss.Reason.TheVariants.{Bypassed, Unreachable}
use Rattle.pass_trait.specs.declared.loss.Loss.{Loss}
use Rattle.pass_trait.specs.Rule.{Rule, StandsAt}
use Rattle.pass_trait.specs.Steps.{PassStep}
use Rattle.fold_targets.specs.Leads.{lead}
use Rattle.fold_targets.specs.Ways.{EndsAt}
use Rattle.fold_rule.specs.Reached.{Reached}
use Rattle.fold_rule.specs.Rule.{IsFolded}
use Rattle.fold_rule_proof.specs.Kills.{kills}
use Rattle.fold_proof.specs.Lost.{loss_of}

-- the block is bypassed: it was reachable, and its chain ends elsewhere
pub record IsPassed (blocks : List Block) (n : ℕ) : Type 0 where
  pub reached : Reached blocks (λ m. m) n
  pub end : ℕ
  pub ends : EndsAt (lead blocks) n end
  pub elsewhere : n ≡ end → ⊥

-- why items of a block are lost: it is bypassed, or was unreachable
abbrev pub IsLostFor : List Block → (block : ℕ) → Reason → Type 0
IsLostFor blocks n Bypassed = IsPassed blocks n
IsLostFor blocks n Unreachable = Reached blocks (λ m. m) n → ⊥
IsLostFor blocks n _ = ⊥

-- what is lost of the item at a position
pub record IsLostAt (f : Function) (at : Pos) (loss : Loss) : Type 0 where
  pub found : Item
  pub stands : StandsAt f at found
  pub why : IsLostFor f.blocks at.block loss.reason
  pub is : loss_of loss.reason found.kind found.origin ≡ Some loss

-- the kills at the start of a block
abbrev pub AreKills : List Block → (block : ℕ) → List Item → Type 0
AreKills blocks e ks = (end : ℕ → ℕ) × (was : ℕ → Bool) × ((n : ℕ) → EndsAt (lead blocks) n (end n)) ×
    ((n : ℕ) → IsTrue (was n) ↔ Reached blocks (λ m. m) n) × (ks ≡ kills end was blocks e)

-- the debug rule: debug items of bypassed and unreachable blocks are lost, and kills are added where the chains of bypassed
-- blocks end
abbrev pub fold_debug : Rule
fold_debug = record {
  loses = λ c at loss. IsLostAt c.old at loss;
  leaves = λ c r why. ⊥;
  spills = λ c r slot. ⊥;
  renames = λ c r now. ⊥;
  numbers = λ c at k. ⊥;
  salvages = λ c at p. ⊥;
  substitutes = λ c more. more ≡ [];
  kills = λ c block ks. AreKills c.old.blocks block ks;
}

-- the pass's only step
abbrev pub fold_step : PassStep
fold_step = record { code = IsFolded; debug = fold_debug }

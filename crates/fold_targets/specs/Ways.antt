-- Chains of jump-only blocks, and where they end.
use Rattle.std.specs.Prelude.{◌≡◌, ℕ, Option, Some, None}

-- `lead b` is the block to which the jump-only block b forwards control
module _ (lead : ℕ → Option ℕ) where
  -- the chain from a block reaches another block in zero or more steps
  pub data OnWay : (block on : ℕ) → Type 0 where
    here : {b : ℕ} → OnWay b b
    further : {b n e : ℕ} → lead b ≡ Some n → OnWay n e → OnWay b e

  -- the chain from the block returns to it
  abbrev pub IsOnCircle : ℕ → Type 0
  IsOnCircle b = (n : ℕ) × (lead b ≡ Some n) × OnWay n b

  -- a block's chain ends at its first block that isn't jump-only or is on a cycle
  pub data EndsAt : (block end : ℕ) → Type 0 where
    leads_nowhere : {b : ℕ} → lead b ≡ None → EndsAt b b
    comes_round : {b : ℕ} → IsOnCircle b → EndsAt b b
    goes_on : {b n e : ℕ} → lead b ≡ Some n → (IsOnCircle b → ⊥) → EndsAt n e → EndsAt b e

-- What a debug rule says of putting registers into slots: each of spilling's steps, and that of a register allocator, is an instance.
use Rattle.std.specs.Prelude.{◌≡◌, ℕ, [], None, Some}
use Rattle.mir_func.specs.declared.item.ItemKind.{ItemKind}
use Rattle.mir_func.specs.declared.location.Loc.{Loc}
use Rattle.mir_func.specs.declared.position.Origin.{Origin}
use Rattle.mir_func.specs.declared.position.Pos.{Pos}
use Rattle.pass_trait.specs.declared.loss.Loss.{Loss}
use Rattle.pass_trait.specs.Change.{Change}
use Rattle.pass_trait.specs.Debug.{RegisterStays}
use Rattle.pass_trait.specs.Rule.{Rule, StandsAt, item}
use Rattle.spill_code.specs.declared.spilling.Spilling.{Spilling}
use Rattle.spill_code.specs.Rewrite.{slot_of}
use Rattle.spill_debug.specs.Lost.{LosesScratch}
use Rattle.spill_proof.specs.Step.{AsksForHome, number_at}

-- with these homes and scratch registers, and fresh numbers from the first one on
pub record IsRuled (rule : Rule) (c : Change) (s : Spilling) (first : ℕ) : Type 0 where
  -- what the item at a place loses, it loses by its kind; and nothing is lost where no register has a home
  pub loses_by : (at : Pos) (x : ItemKind) (o : Origin) (l : Loc) (loss : Loss) → StandsAt c.old at (item x o l) → rule.loses c at loss → LosesScratch s x o loss
  pub silenced : (s.homes ≡ [] → ⊥) → (at : Pos) (x : ItemKind) (o : Origin) (l : Loc) (loss : Loss) → StandsAt c.old at (item x o l) →
      LosesScratch s x o loss → rule.loses c at loss
  pub none_lost : s.homes ≡ [] → (at : Pos) (loss : Loss) → rule.loses c at loss → ⊥
  -- debug values of registers with homes get numbers, and nothing else does
  pub no_number : (at : Pos) (x : ItemKind) (o : Origin) (l : Loc) → StandsAt c.old at (item x o l) → (AsksForHome s.homes x → ⊥) → (n : ℕ) →
      rule.numbers c at n → ⊥
  pub numbered : (at : Pos) (x : ItemKind) (o : Origin) (l : Loc) (n : ℕ) → StandsAt c.old at (item x o l) → AsksForHome s.homes x →
      n ≡ number_at s.homes first c.old.blocks at → rule.numbers c at n
  pub none_numbered : s.homes ≡ [] → (at : Pos) (n : ℕ) → rule.numbers c at n → ⊥
  -- registers with homes are spilled to them, and no register is renamed
  pub register_stays : (r : ℕ) → slot_of s.homes r ≡ None → RegisterStays rule c r
  pub spilled_at : (r slot : ℕ) → slot_of s.homes r ≡ Some slot → rule.spills c r slot
  pub no_kills : (block : ℕ) → rule.kills c block []

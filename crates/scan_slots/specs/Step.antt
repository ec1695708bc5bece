-- The step: its code rule and its debug rule.
use Rattle.std.specs.Prelude.{◌≡◌, ℕ, ◌+◌, List, [], Some}
use Rattle.mir_func.specs.declared.item.Item.{Item}
use Rattle.mir_func.specs.declared.position.Pos.{Pos}
use Rattle.mir_func.specs.Function.{Function}
use Rattle.pass_trait.specs.declared.loss.Loss.{Loss}
use Rattle.pass_trait.specs.Rule.{Rule, StandsAt}
use Rattle.pass_trait.specs.Sizes.{greatest_number}
use Rattle.pass_trait.specs.Steps.{PassStep}
use Rattle.spill_code.specs.Rewrite.{slot_of}
use Rattle.scan_rule.specs.spill_debug.Lost.{LosesScratch}
use Rattle.scan_rule.specs.spill_proof.Step.{AsksForHome, number_at}
use Rattle.scan_rule.specs.scan_intervals.declared.interval.LiveInterval.{LiveInterval}
use Rattle.scan_slots.specs.Choice.{homes_left, settling_of}
use Rattle.scan_slots.specs.Rule.{AreLeft, IsSettled}

-- this is lost of the debug value or DBG_PHI of a scratch register at a position, and some register gets a slot
pub record IsScratchLost (f : Function) (at : Pos) (loss : Loss) : Type 0 where
  pub intervals : List LiveInterval
  pub are : AreLeft f intervals
  pub some : homes_left f intervals ≡ [] → ⊥
  pub item : Item
  pub stands : StandsAt f at item
  pub lost : LosesScratch (settling_of f intervals) item.kind item.origin loss

-- the debug value at a position gets this number for its DBG_PHI
pub record IsAsked (f : Function) (first : ℕ) (at : Pos) (number : ℕ) : Type 0 where
  pub intervals : List LiveInterval
  pub are : AreLeft f intervals
  pub item : Item
  pub stands : StandsAt f at item
  pub asks : AsksForHome (homes_left f intervals) item.kind
  pub is : number ≡ number_at (homes_left f intervals) first f.blocks at

-- the debug rule: if some register gets a slot, debug values and DBG_PHIs of scratch registers become undef; debug values of the registers get fresh
-- numbers, in the order of the text
abbrev pub settle_debug : Rule
settle_debug = record {
  loses = λ c at loss. IsScratchLost c.old at loss;
  leaves = λ c r why. ⊥;
  spills = λ c r slot. (intervals : List LiveInterval) × AreLeft c.old intervals × (slot_of (homes_left c.old intervals) r ≡ Some slot);
  renames = λ c r now. ⊥;
  numbers = λ c at number. IsAsked c.old (greatest_number c.old c.old_subs + 1) at number;
  salvages = λ c at p. ⊥;
  substitutes = λ c more. more ≡ [];
  kills = λ c block kills. kills ≡ [];
}

-- the step
abbrev pub settle_step : PassStep
settle_step = record { code = IsSettled; debug = settle_debug }

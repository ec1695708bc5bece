-- The step: its code rule and its debug rule.
use Rattle.std.specs.Prelude.{◌≡◌, ◌↔◌, ℕ, List, [], Option, Some, Bool, true}
use Rattle.rv64_instr.specs.declared.place.Place.TheVariants.{Register}
use Rattle.mir_func.specs.declared.item.Item.{Item}
use Rattle.mir_func.specs.declared.position.Pos.{Pos}
use Rattle.scan_allocation.specs.pass_trait.declared.loss.Loss.{Loss}
use Rattle.scan_allocation.specs.pass_trait.declared.loss.Lost.{Lost}
use Rattle.scan_allocation.specs.pass_trait.declared.loss.Reason.TheVariants.{WrongPlace}
use Rattle.scan_allocation.specs.pass_trait.Causes.{AsksFor, IsLostWith, old_program}
use Rattle.scan_allocation.specs.pass_trait.Change.{Change}
use Rattle.scan_allocation.specs.pass_trait.Rule.{Rule, StandsAt}
use Rattle.scan_allocation.specs.pass_trait.Steps.{PassStep}
use Rattle.scan_allocation.specs.Allocation.{IsAllocation}
use Rattle.scan_rule.specs.Rule.{IsAllotted}
use Rattle.scan_rule.specs.Silence.{IsSilent}

-- this is lost of the debug value or DBG_PHI at a position, which becomes undef
pub record IsSilenced (c : Change) (given : ℕ → Option ℕ) (at : Pos) (loss : Loss) : Type 0 where
  pub item : Item
  pub register : ℕ
  pub what : Lost
  pub stands : StandsAt c.old at item
  pub asks : AsksFor (Register register) item.kind
  pub silent : IsSilent (old_program c) c.old given register at
  pub lost : IsLostWith item.kind item.origin what
  pub is : loss ≡ record { what = what; reason = WrongPlace }

-- the test is right of each debug value and DBG_PHI of a register
abbrev pub DecidesSilence : Change → (given : ℕ → Option ℕ) → (silent : Pos → ℕ → Bool) → Type 0
DecidesSilence c given silent = (at : Pos) (i : Item) (r : ℕ) → StandsAt c.old at i → AsksFor (Register r) i.kind →
    (silent at r ≡ true) ↔ IsSilent (old_program c) c.old given r at

-- the debug rule: registers are renamed as the allocation says, and debug values and DBG_PHIs become undef where their place may be wrong
abbrev pub allot_debug : (reserve : List ℕ) → Rule
allot_debug reserve = record {
  loses = λ c at loss. (given : ℕ → Option ℕ) × IsAllocation reserve c.old given × IsSilenced c given at loss;
  leaves = λ c r why. ⊥;
  spills = λ c r slot. ⊥;
  renames = λ c r now. (given : ℕ → Option ℕ) × IsAllocation reserve c.old given × (given r ≡ Some now);
  numbers = λ c at number. ⊥;
  salvages = λ c at p. ⊥;
  substitutes = λ c more. more ≡ [];
  kills = λ c block kills. kills ≡ [];
}

-- the step
abbrev pub allot_step : (reserve : List ℕ) → PassStep
allot_step reserve = record { code = IsAllotted reserve; debug = allot_debug reserve }

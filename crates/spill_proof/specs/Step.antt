-- The step of spilling: its code rule and its debug rule.
use Rattle.std.specs.Prelude.{◌≡◌, ℕ, ◌+◌, List, [], ◌∷◌, take, Contains, Some, Bool, cond, nat_eq}
use Rattle.mir_func.specs.declared.block.Block.{Block}
use Rattle.mir_func.specs.declared.item.Item.{Item}
use Rattle.mir_func.specs.declared.item.ItemKind.{ItemKind}
use Rattle.mir_func.specs.declared.item.ItemKind.TheVariants.{Code, Mark, Phi}
use Rattle.mir_func.specs.declared.position.Pos.{Pos}
use Rattle.mir_func.specs.declared.variable.MarkValue.TheVariants.{Nothing, Constant, At, Pair}
use Rattle.mir_func.specs.Function.{Function}
use Rattle.pass_trait.specs.declared.loss.Loss.{Loss}
use Rattle.pass_trait.specs.declared.loss.Reason.{Reason}
use Rattle.pass_trait.specs.Rule.{Rule, StandsAt}
use Rattle.pass_trait.specs.Sizes.{greatest_number}
use Rattle.pass_trait.specs.Steps.{PassStep}
use Rattle.spill_code.specs.declared.spilling.SlotAssignment.{SlotAssignment}
use Rattle.spill_code.specs.Rewrite.{slot_of}
use Rattle.spill_debug.specs.RewrittenDebugItems.{number_behind}
use Rattle.spill_debug.specs.Lost.{LosesScratch}
use Rattle.spill_select.specs.spill_rule.Choice.{homes_of, spilling_of}
use Rattle.spill_select.specs.spill_rule.Rule.{Decides, IsSpilled}
use Rattle.spill_select.specs.Left.{why_left}

-- a debug value of a spilled register
abbrev pub AsksForHome : List SlotAssignment → ItemKind → Type 0
AsksForHome homes (Mark v (At r)) = (slot : ℕ) × (slot_of homes r ≡ Some slot)
AsksForHome homes (Mark v Nothing) = ⊥
AsksForHome homes (Mark v (Constant n)) = ⊥
AsksForHome homes (Mark v (Pair q)) = ⊥
AsksForHome homes (Code i k) = ⊥
AsksForHome homes (Phi p k) = ⊥

-- the next fresh number at a position, if the first one is k
abbrev pub number_at : List SlotAssignment → (k : ℕ) → List Block → (at : Pos) → ℕ
number_at homes k [] at = k
number_at homes k (b ∷ bs) at =
    cond (nat_eq b.id at.block) (number_behind homes k (take at.item b.items)) (number_at homes (number_behind homes k b.items) bs at)

-- this is lost of the item at a position, and some register is spilled
pub record IsSilenced (reserve : List ℕ) (live : ℕ → Bool) (f : Function) (at : Pos) (loss : Loss) : Type 0 where
  pub decides : Decides reserve f live
  pub some : homes_of reserve live f ≡ [] → ⊥
  pub item : Item
  pub stands : StandsAt f at item
  pub lost : LosesScratch (spilling_of reserve live f) item.kind item.origin loss

-- the register isn't spilled, for this reason
pub record IsLeft (reserve : List ℕ) (live : ℕ → Bool) (f : Function) (r : ℕ) (why : Reason) : Type 0 where
  pub decides : Decides reserve f live
  pub reserved : Contains reserve r
  pub reason : why_left f live (homes_of reserve live f) r ≡ Some why

-- the debug value at a position gets this number for its DBG_PHI
pub record IsNumbered (reserve : List ℕ) (live : ℕ → Bool) (f : Function) (first : ℕ) (at : Pos) (number : ℕ) : Type 0 where
  pub decides : Decides reserve f live
  pub item : Item
  pub stands : StandsAt f at item
  pub asks : AsksForHome (homes_of reserve live f) item.kind
  pub is : number ≡ number_at (homes_of reserve live f) first f.blocks at

-- the debug rule: if some register is spilled, debug values and DBG_PHIs of scratch registers become undef; registers of the reserve that
-- code names and that aren't spilled are reported with the first reason that applies; debug values of spilled registers get fresh numbers,
-- in the order of the text
abbrev pub spill_debug : (reserve : List ℕ) → Rule
spill_debug reserve = record {
  loses = λ c at loss. (live : ℕ → Bool) × IsSilenced reserve live c.old at loss;
  leaves = λ c r why. (live : ℕ → Bool) × IsLeft reserve live c.old r why;
  spills = λ c r slot. (live : ℕ → Bool) × Decides reserve c.old live × (slot_of (homes_of reserve live c.old) r ≡ Some slot);
  renames = λ c r now. ⊥;
  numbers = λ c at number. (live : ℕ → Bool) × IsNumbered reserve live c.old (greatest_number c.old c.old_subs + 1) at number;
  salvages = λ c at p. ⊥;
  substitutes = λ c more. more ≡ [];
  kills = λ c block kills. kills ≡ [];
}

-- the pass's only step
abbrev pub spill_step : (reserve : List ℕ) → PassStep
spill_step reserve = record { code = IsSpilled reserve; debug = spill_debug reserve }

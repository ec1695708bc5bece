-- Why registers of a reserve aren't spilled.
use Rattle.std.specs.Prelude.{ℕ, List, Option, Some, None, Bool, cond}
use Rattle.std.specs.List.{filter_map}
use Rattle.pass_liveness.specs.mir_func.Function.{Function}
use Rattle.spill_rule.specs.pass_trait.declared.loss.Loss.{Loss}
use Rattle.spill_rule.specs.pass_trait.declared.loss.Reason.{Reason}
use Rattle.spill_rule.specs.pass_trait.declared.loss.Reason.TheVariants.{NoScratch, CallNamed, EntryLoop, NoSlot}
use Rattle.spill_rule.specs.pass_trait.Causes.{is_named}
use Rattle.spill_rule.specs.pass_trait.Rule.{register_lost}
use Rattle.spill_rule.specs.spill_code.declared.spilling.SlotAssignment.{SlotAssignment}
use Rattle.spill_rule.specs.spill_code.Rewrite.{slot_of}
use Rattle.spill_rule.specs.Choice.{reason_of, homes_of}

-- the first reason that applies, apart from a lack of slots, given the conditions on the function and the register
abbrev pub first_reason : (lacks bound loops : Bool) → Option Reason
first_reason lacks bound loops = cond lacks (Some NoScratch) (cond bound (Some CallNamed) (cond loops (Some EntryLoop) None))

-- a register without such a reason either has a slot, or isn't spilled since there was no slot for it
abbrev pub or_no_slot : Option Reason → (home : Option ℕ) → Option Reason
or_no_slot (Some why) home = Some why
or_no_slot None None = Some NoSlot
or_no_slot None (Some n) = None

-- why a register isn't spilled, if code names it
abbrev pub why_left : Function → (live : ℕ → Bool) → List SlotAssignment → ℕ → Option Reason
why_left f live homes r = cond (is_named f r) (or_no_slot (reason_of f live r) (slot_of homes r)) None

-- the loss of a register that isn't spilled, if there is a reason
abbrev pub loss_for : ℕ → Option Reason → Option Loss
loss_for r None = None
loss_for r (Some why) = Some (register_lost r why)

-- the losses of the registers that aren't spilled, in the order of the reserve
abbrev pub registers_left : (reserve : List ℕ) (live : ℕ → Bool) → Function → List Loss
registers_left reserve live f = filter_map (λ r. loss_for r (why_left f live (homes_of reserve live f) r)) reserve

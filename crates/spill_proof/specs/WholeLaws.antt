-- Laws of the rule's choice.
use Rattle.std.specs.Prelude.{◌≡◌, ℕ, ◌+◌, ◌≤◌, List, Contains, Bool, length}
use Rattle.mir_func.specs.Function.{Function}
use Rattle.mir_func.specs.Limits.{MAX_SLOTS}
use Rattle.mir_func.specs.Sound.{AreApart, AllItems, IsSound}
use Rattle.mir_func.specs.Strip.{stripped}
use Rattle.spill_debug.specs.RewrittenDebugItems.{asked}
use Rattle.spill_select.specs.spill_rule.Choice.{spilling_of}
use Rattle.spill_select.specs.spill_rule.Chosen.{IsReservable, AsksElsewhere}
use Rattle.spill_proof.specs.Sound.{slots_now}

-- the choice is the same with and without debug items
abbrev pub ChoiceIsBare : Type 0
ChoiceIsBare = (reserve : List ℕ) (live : ℕ → Bool) (f : Function) → spilling_of reserve live (stripped f) ≡ spilling_of reserve live f

-- after the rewriting no debug value names a spilled or scratch register, and no DBG_PHI a scratch register
abbrev pub AskedElsewhere : Type 0
AskedElsewhere = (reserve : List ℕ) (live : ℕ → Bool) (k : ℕ) (f : Function) → ((r : ℕ) → Contains reserve r → IsReservable r) →
    AllItems (λ i. AsksElsewhere (spilling_of reserve live f) i.kind) (asked (spilling_of reserve live f) k f).blocks

-- with the new slots, slots are distinct, and there are no more slots and stack objects than allowed
abbrev pub SlotsFit : Type 0
SlotsFit = (reserve : List ℕ) (live : ℕ → Bool) (f : Function) → IsSound f →
    AreApart (slots_now (spilling_of reserve live f) f) × (length (slots_now (spilling_of reserve live f) f) + length f.objects ≤ MAX_SLOTS)

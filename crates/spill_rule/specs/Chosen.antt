-- The registers that the rule chooses satisfy the conditions of spilling.
use Rattle.std.specs.Prelude.{◌≡◌, ◌⊎◌, ℕ, ◌≤◌, List, [], ◌∷◌, Contains, Option, Some, None, Bool}
use Rattle.rv64_instr.specs.declared.place.Place.TheVariants.{Register, Slot, Const}
use Rattle.mir_func.specs.declared.debug_substitution.OperandPair.{OperandPair}
use Rattle.mir_func.specs.declared.variable.MarkValue.TheVariants.{Nothing, Constant, At, Pair}
use Rattle.mir_func.specs.declared.item.ItemKind.{ItemKind}
use Rattle.mir_func.specs.declared.item.ItemKind.TheVariants.{Code, Mark, Phi}
use Rattle.mir_func.specs.Function.{Function}
use Rattle.mir_func.specs.Sound.{AllItems, IsSound, HasForm}
use Rattle.spill_simulation.specs.spill_code.declared.spilling.Spilling.{Spilling}
use Rattle.spill_simulation.specs.MaySpill.{IsNoScratch, IsUntouched}
use Rattle.spill_simulation.specs.Follows.{MaySpill}
use Rattle.spill_rule.specs.Choice.{homes_of, spilling_of, entry_of}
use Rattle.spill_rule.specs.Rule.{Decides}

-- a callee-saved register other than the stack pointer (RISC-V ELF psABI, s0 to s11)
abbrev pub IsReservable : ℕ → Type 0
IsReservable r = ((8 ≤ r) × (r ≤ 9)) ⊎ ((18 ≤ r) × (r ≤ 27))

-- the list has no duplicates
abbrev pub AreDistinct : List ℕ → Type 0
AreDistinct [] = Unit {0}
AreDistinct (r ∷ rs) = (Contains rs r → ⊥) × AreDistinct rs

-- no debug value names a spilled or scratch register, and no DBG_PHI a scratch register
abbrev pub AsksElsewhere : Spilling → ItemKind → Type 0
AsksElsewhere s (Code i k) = Unit {0}
AsksElsewhere s (Mark v Nothing) = Unit {0}
AsksElsewhere s (Mark v (Constant n)) = Unit {0}
AsksElsewhere s (Mark v (At r)) = IsUntouched s r
AsksElsewhere s (Mark v (Pair q)) = Unit {0}
AsksElsewhere s (Phi None k) = Unit {0}
AsksElsewhere s (Phi (Some (Register r)) k) = IsNoScratch s r
AsksElsewhere s (Phi (Some (Slot n)) k) = Unit {0}
AsksElsewhere s (Phi (Some (Const c)) k) = Unit {0}

-- The rule's choice from a reserve of distinct callee-saved registers satisfies `MaySpill`, if it isn't empty, the function is sound, its
-- code has the required forms, and its debug items name no affected register
abbrev pub ChosenMaySpill : Type 0
ChosenMaySpill = (reserve : List ℕ) (live : ℕ → Bool) (f : Function) (resolve : OperandPair → Option OperandPair) → IsSound f →
    AllItems (λ i. HasForm i.kind) f.blocks → ((r : ℕ) → Contains reserve r → IsReservable r) → AreDistinct reserve → Decides reserve f live →
    AllItems (λ i. AsksElsewhere (spilling_of reserve live f) i.kind) f.blocks → (homes_of reserve live f ≡ [] → ⊥) →
    MaySpill (spilling_of reserve live f) (entry_of live (homes_of reserve live f)) f resolve

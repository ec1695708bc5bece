-- A copy's number is salvaged between two rounds: this preserves the weak simulation.
use Rattle.std.specs.Prelude.{◌≡◌, ℕ, List, [], ◌∷◌, ◌++◌, None, false}
use Rattle.mir_func.specs.declared.debug_substitution.DebugSubstitution.{DebugSubstitution}
use Rattle.mir_func.specs.Function.{Function}
use Rattle.mir_func.specs.Sound.{IsSound}
use Rattle.mir_func.specs.Graph.{program_of}
use Rattle.mir_func.specs.Resolve.{entry_of, resolve}
use Rattle.std.proofs.Common.{refl}
use Rattle.pass_salvage.specs.pass_trait.Change.{change}
use Rattle.pass_salvage.specs.pass_trait.Rule.{first_operand}
use Rattle.pass_salvage.specs.Salvage.{entry_for}
use Rattle.pass_salvage.proofs.Edits.{BlocksEdited}
use Rattle.pass_salvage.proofs.NumberOff.{off_edits}
use Rattle.pass_salvage.proofs.NumberPhi.{phi_edits}
use Rattle.pass_edits.specs.WeakSimulation.{PreservesWeakSimulation}

-- number k of a copy of s is substituted by operand o of number n, of code above the copy. The values of numbers in `Free`
-- may differ meanwhile
abbrev pub NumberGoesToCode : (Free : ℕ → Type 0) → Type 0
NumberGoesToCode Free = (old new : Function) (subs : List DebugSubstitution) (k n o s : ℕ) → IsSound old → IsSound new → new.objects ≡ old.objects →
    entry_of subs (first_operand k) ≡ None → entry_of subs (record { number = n; operand = o }) ≡ None → (k ≡ n → ⊥) → (s ≡ 2 → ⊥) →
    BlocksEdited (off_edits (program_of false old.blocks (resolve subs))
    (program_of false new.blocks (resolve (subs ++ entry_for k n o ∷ []))) refl refl k n o s Free)
    old.blocks new.blocks → PreservesWeakSimulation (change old subs new (subs ++ entry_for k n o ∷ []))

-- a DBG_PHI of s right before the copy gets number k of a copy of s
abbrev pub NumberGoesToPhi : Type 0
NumberGoesToPhi = (old new : Function) (subs : List DebugSubstitution) (k s : ℕ) (real : s ≡ 2 → ⊥) → IsSound old → IsSound new → new.objects ≡ old.objects →
    BlocksEdited (phi_edits (program_of false old.blocks (resolve subs)) (program_of false new.blocks (resolve subs)) refl refl (λ q. refl) k s real)
    old.blocks new.blocks → PreservesWeakSimulation (change old subs new subs)

-- What linear scan makes of a function that was read: what is shown of it, and that it has its registers or not.
use Rattle.std.proofs.Common.{◌≡◌, ℕ, List, true, false, sym, subst}
use Rattle.std.specs.Prelude.{All}
use Rattle.std.proofs.lemmas.List.Elements.{All-nil}
use Rattle.mir_func.specs.declared.debug_substitution.DebugSubstitution.{DebugSubstitution}
use Rattle.mir_func.specs.Function.{Function}
use Rattle.linear_scan.specs.pass_losses.Reported.{AreReported}
use Rattle.pass_trait.specs.Change.{change}
use Rattle.pass_trait.specs.declared.loss.Loss.{Loss}
use Rattle.pass_trait.specs.Simulation.{PreservesSimulation}
use Rattle.pass_trait.specs.Sizes.{IsPhysical, KeepsSizes}
use Rattle.pass_trait.specs.Steps.{PassStep, KeepsSteps}
use Rattle.pass_manager.proofs.Becoming.{WasShown}
use Rattle.pass_manager.proofs.Shows.{Shows, EachShows, steps_shown}
use Rattle.pass_manager.specs.Shown.{KeepsShown}
use Rattle.linear_scan.proofs.Shown.{OnlyRenames, allot_only_renames, settle_only_renames}
use Rattle.linear_scan.specs.Scanned.{scan_steps}
use Rattle.listing_proof.specs.read_program.declared.closing.Parsed.{Parsed}
use Rattle.compile_passes.specs.Passed.{IsMadeBy, GetsRegisters, LeavesVirtual, passed_of}
use Rattle.compile_passes.specs.steps.Scan.{IsScanOf}

-- ---- what is shown

only_renaming_shows : (s : PassStep) → OnlyRenames s → Shows s
only_renaming_shows s only = record {
  name = only.name;
  renames = only.renames;
  salvages = λ c at p never. absurd (only.salvages c at p never);
  kills = λ c b ks none. subst (All (WasShown s.debug c)) (sym (only.kills c b ks none)) (All-nil (WasShown s.debug c));
}

scan_shows : (reserve : List ℕ) → EachShows (scan_steps reserve)
scan_shows reserve = (only_renaming_shows _ (allot_only_renames reserve), (only_renaming_shows _ settle_only_renames, tt))

-- ---- what it makes of a copy of a function that was read

module _ (q : Parsed) (reserve : List ℕ) (f : Function) (subs : List DebugSubstitution) (lost told : List Loss) where
  made : PreservesSimulation false true (change q.func q.subs f subs) → KeepsSteps (scan_steps reserve) (change q.func q.subs f subs) lost →
      KeepsSizes 4 1 (change q.func q.subs f subs) → AreReported lost told → IsScanOf reserve (change q.func q.subs f subs) told
  made follows kept sizes reported = record {
    follows = follows;
    kept = record { lost = lost; kept = kept; are_told = reported };
    sizes = sizes;
    shown = steps_shown (scan_steps reserve) (scan_shows reserve) (change q.func q.subs f subs) lost kept;
  }

  pub scan_made : (g : Function) (gs : List DebugSubstitution) (given : List ℕ) → g ≡ q.func → gs ≡ q.subs → given ≡ reserve →
      PreservesSimulation false true (change g gs f subs) → KeepsSteps (scan_steps given) (change g gs f subs) lost → KeepsSizes 4 1 (change g gs f subs) →
      AreReported lost told → IsScanOf reserve (change q.func q.subs f subs) told
  scan_made g gs given same entries_same given_same follows kept sizes reported =
      made
      (subst (λ (es : List DebugSubstitution). PreservesSimulation false true (change q.func es f subs)) entries_same
      (subst (λ (h : Function). PreservesSimulation false true (change h gs f subs)) same follows))
      (subst (λ (rs : List ℕ). KeepsSteps (scan_steps rs) (change q.func q.subs f subs) lost) given_same
      (subst (λ (es : List DebugSubstitution). KeepsSteps (scan_steps given) (change q.func es f subs) lost) entries_same
      (subst (λ (h : Function). KeepsSteps (scan_steps given) (change h gs f subs) lost) same kept)))
      (subst (λ (es : List DebugSubstitution). KeepsSizes 4 1 (change q.func es f subs)) entries_same
      (subst (λ (h : Function). KeepsSizes 4 1 (change h gs f subs)) same sizes))
      reported

-- ---- registers

made_by_scan : (q : Parsed) (reserve : List ℕ) (f : Function) (subs : List DebugSubstitution) (told : List Loss) →
    IsScanOf reserve (change q.func q.subs f subs) told → IsMadeBy (λ exposure. scan_steps reserve) (passed_of q f subs)
made_by_scan q reserve f subs told scan = record { losses = scan.kept.lost; kept = scan.kept.kept }

-- it has its registers
pub gets_registers : (q : Parsed) (reserve : List ℕ) (f : Function) (subs : List DebugSubstitution) (told : List Loss) →
    IsScanOf reserve (change q.func q.subs f subs) told → IsPhysical f → GetsRegisters reserve q
gets_registers q reserve f subs told scan physical =
    record { function = f; substitutions = subs; made = made_by_scan q reserve f subs told scan; physical = physical }

-- or it hasn't, and then it had a virtual register before
pub leaves_virtual : (q : Parsed) (reserve : List ℕ) (f : Function) (subs : List DebugSubstitution) (told : List Loss) →
    IsScanOf reserve (change q.func q.subs f subs) told → (IsPhysical f → ⊥) → LeavesVirtual reserve q
leaves_virtual q reserve f subs told scan virtual = record {
  named = λ physical. virtual (scan.sizes.physical physical);
  function = f;
  substitutions = subs;
  made = made_by_scan q reserve f subs told scan;
  virtual = virtual;
}

-- The step, put together.
use Rattle.std.proofs.Common.{inl, inr, ℕ, zero, suc, ◌<◌, ◌≤◌, List, [], ◌∷◌, length, get_or, All, Contains, Option, Bool, append-nil}
use Rattle.std.proofs.Common.{refl, sym, subst, arith}
use Rattle.std.proofs.lemmas.List.Elements.{All-nil}
use Rattle.mir_func.specs.declared.debug_substitution.DebugSubstitution.{DebugSubstitution}
use Rattle.mir_func.specs.declared.position.Pos.{Pos}
use Rattle.mir_func.specs.Function.{Function}
use Rattle.mir_func.specs.Resolve.{resolve}
use Rattle.pass_trait.specs.declared.loss.Loss.{Loss}
use Rattle.pass_trait.specs.Change.{Change, change}
use Rattle.pass_trait.specs.Debug.{IsFor, IsLoss, KeepsItems}
use Rattle.pass_trait.specs.Order.{IsInOrder}
use Rattle.pass_trait.specs.Rule.{Rule}
use Rattle.scan_simulation.proofs.scan_allocation.Coloring.{is_coloring}
use Rattle.scan_debug.specs.Laws.{AreSilencedLosses, MayBeAllotted, AllottedKeepsStep}
use Rattle.scan_simulation.specs.scan_rule.Rewrite.{allotted}
use Rattle.scan_simulation.specs.scan_rule.Step.{IsSilenced, allot_debug}
use Rattle.scan_simulation.proofs.scan_rule.Bare.{allotted_is_stripped}
use Rattle.scan_simulation.proofs.scan_rule.Same.{one_allocation}
use Rattle.scan_debug.proofs.Becoming.{all_become}
use Rattle.scan_debug.proofs.Causes.{has_cause}
use Rattle.scan_debug.proofs.Sound.{allotted_is_sound}

nth_in : (xs : List Loss) (k : ℕ) (d : Loss) → k < length xs → Contains xs (get_or xs k d)
nth_in [] k d lt = absurd (omega (arith, lt))
nth_in (x ∷ xs) zero d lt = (0, omega arith, refl)
nth_in (x ∷ xs) (suc k) d lt = let w = nth_in xs k d (omega (arith, lt)) in (suc w.0, (let within = w.1 in omega (arith, within)), w.2)

module _ (reserve : List ℕ) (f : Function) (subs : List DebugSubstitution) (given : ℕ → Option ℕ) (silent : Pos → ℕ → Bool) (losses : List Loss)
    (may : MayBeAllotted reserve f subs given silent) (ordered : IsInOrder losses)
    (are : AreSilencedLosses (change f subs (allotted given silent f) subs) given losses) where
  abbrev c : Change
  c = change f subs (allotted given silent f) subs

  abbrev rule : Rule
  rule = allot_debug reserve

  by_one : (at : Pos) (loss : Loss) → rule.loses c at loss → IsSilenced c given at loss
  by_one at loss (other, b, s) = subst (λ (g : ℕ → Option ℕ). IsSilenced c g at loss) (one_allocation reserve f other given b may.allocation) s

  -- what the losses name is lost
  said : All (IsLoss rule c) losses
  said k d lt =
      let l : Loss = get_or losses k d in
      let w = (are l).0 (nth_in losses k d lt) in
      inl (w.0, (given, may.allocation, w.1))

  -- and all that is lost they name
  told : (loss : Loss) → IsLoss rule c loss → Contains losses loss
  told loss (inl (at, h)) = (are loss).1 (at, by_one at loss h)
  told loss (inr (r, why, is, h)) = absurd h

  real : (r now : ℕ) → rule.renames c r now → (32 ≤ r) × (4 < now) × (now < 32)
  real r now (other, b, e) =
      (is_coloring reserve f (resolve subs) may.forms other b).real r now e

  items : KeepsItems rule c losses
  items = record {
    blocks = all_become reserve f subs given silent may.allocation may.decides may.sound.blocks_apart;
    subs = ([], sym (append-nil subs), refl, All-nil (IsFor c losses));
    said = said;
    told = told;
    ordered = ordered;
    caused = λ at loss (other, b, s). has_cause reserve c other b at loss s;
    left = λ r why h. absurd h;
    spilled = λ r slot h. absurd h;
    renamed = real;
  }

pub allotted_keeps_step : AllottedKeepsStep
allotted_keeps_step reserve f subs given silent losses may ordered are = record {
  sound = allotted_is_sound reserve f subs given silent may;
  code = allotted_is_stripped reserve f given silent may.allocation;
  items = items reserve f subs given silent losses may ordered are;
}

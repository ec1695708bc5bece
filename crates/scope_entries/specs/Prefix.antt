-- The order of the scopes of a function: each before those inside it, and these before the next one (prefix order).
use Rattle.std.specs.Prelude.{◌≡◌, ℕ, ◌+◌, ◌<◌, List, [], ◌∷◌, ◌++◌, cond, nat_eq, Option, Some, None, IfSome, slice_get}
use Rattle.std.specs.Option.{option_eq}
use Rattle.scope_ranges.specs.declared.scope.Scope.{Scope}
use Rattle.scope_entries.specs.declared.step.ScopeStep.{ScopeStep}
use Rattle.scope_entries.specs.declared.step.ScopeStep.TheVariants.{Open, Close}

-- each scope stands behind the one around it
abbrev pub IsForest : List Scope → Type 0
IsForest scopes = (k : ℕ) (s : Scope) → slice_get scopes k ≡ Some s → IfSome s.parent (λ p. p < k)

-- The steps through what stands in a scope, or in the function itself, of the scopes from an index on: those that stand right in it in their order, each with
-- what stands in it.
unfoldable pub steps_from : (index : ℕ) → List Scope → (around : Option ℕ) → List ScopeStep
steps_from k [] around = []
steps_from k (s ∷ ss) around =
    cond (option_eq nat_eq s.parent around) (Open k ∷ (steps_from (k + 1) ss (Some k) ++ Close k ∷ steps_from (k + 1) ss around))
    (steps_from (k + 1) ss around)

-- the steps through all scopes of a function
abbrev pub steps_of : List Scope → List ScopeStep
steps_of scopes = steps_from 0 scopes None

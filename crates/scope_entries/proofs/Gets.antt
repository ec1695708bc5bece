-- A scope that is read by its index.
use Rattle.std.proofs.Common.{◌≡◌, ℕ, ◌<◌, ◌≤◌, Bor, List, length, get_or, refl, sym, Option, Some, None}
use Rattle.std.specs.Prelude.{IfSome, MatchOption, slice_get}
use Rattle.std.specs.List.{HoldsAt}
use Rattle.std.specs.Option.{option_copied}
use Rattle.std.proofs.lemmas.Option.{slice_get_read, slice_get_past}
use Rattle.scope_ranges.specs.declared.scope.Scope.{Scope}

pub copied_at : (scopes : List Scope) (i : ℕ) (o : Option (Bor Scope))
    → MatchOption o (length scopes ≤ i) (λ x. (i < length scopes) × HoldsAt (λ y. x.now ≡ y) scopes i)
    → IfSome o (λ x. x.now ≡ get_or scopes i x.now) → option_copied o ≡ slice_get scopes i
copied_at scopes i None past here = sym (slice_get_past scopes i past)
copied_at scopes i (Some x) at here = sym (slice_get_read scopes _ i x.now refl at.0 here)

-- Which scopes stand beside each other.
use Rattle.std.specs.Prelude.{◌≡◌, ℕ, ◌+◌, ◌<◌, List, [], ◌∷◌, cond, drop, get_or, length, nat_eq, Option, Some, None}
use Rattle.std.specs.Option.{option_eq}
use Rattle.scope_ranges.specs.declared.scope.Scope.{Scope}
use Rattle.scope_ranges.specs.steps.Entered.{no_scope}
use Rattle.scope_entries.specs.declared.links.ScopeLinks.{ScopeLinks}

-- the first scope that stands right in another one, of those from an index on
abbrev pub first_from : (index : ℕ) → List Scope → (around : Option ℕ) → Option ℕ
first_from k [] around = None
first_from k (s ∷ ss) around = cond (option_eq nat_eq s.parent around) (Some k) (first_from (k + 1) ss around)

-- the same, of scopes behind one
abbrev pub first_behind : List Scope → (index : ℕ) → (around : Option ℕ) → Option ℕ
first_behind scopes k around = first_from (k + 1) (drop (k + 1) scopes) around

-- the scope around one
abbrev pub parent_at : List Scope → ℕ → Option ℕ
parent_at scopes k = (get_or scopes k no_scope).parent

pub record AreLinks (scopes : List Scope) (l : ScopeLinks) : Type 0 where
  pub first : l.first ≡ first_from 0 scopes None
  pub inner : (k : ℕ) → k < length scopes → get_or l.inner.items k None ≡ first_behind scopes k (Some k)
  pub next : (k : ℕ) → k < length scopes → get_or l.next.items k None ≡ first_behind scopes k (parent_at scopes k)
  pub inners : length l.inner.items ≡ length scopes
  pub nexts : length l.next.items ≡ length scopes

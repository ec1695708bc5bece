-- The way from a scope to the function.
use Rattle.std.specs.Prelude.{◌≡◌, ℕ, Bool, ◌&&◌, ◌⊎◌, List, [], ◌∷◌, filter, nat_eq}
use Rattle.std.specs.Option.{option_eq}
use Rattle.read_metadata.specs.Maps.{Maps}
use Rattle.scope_ways.specs.declared.scope.LexicalScope.{LexicalScope}
use Rattle.scope_ways.specs.declared.scope.Outer.{Outer}
use Rattle.scope_ways.specs.declared.scope.Outer.TheVariants as outer
use Rattle.scope_ways.specs.Outer.{around, is_scope}

-- These are the scopes from one on up to another one, which isn't among them: each next one is around the one before it.
abbrev pub IsWay : Maps → (from : Outer) → (way : List LexicalScope) → (to : Outer) → Type 0
IsWay meta from [] to = from ≡ to
IsWay meta from (s ∷ way) to = (from ≡ outer.Scope s) × IsWay meta (around meta s) way to

-- These are the scopes from one on up to the function. So there are none from a scope that leads to one twice, or to a node that isn't readable.
abbrev pub IsWholeWay : Maps → Outer → List LexicalScope → Type 0
IsWholeWay meta from way = IsWay meta from way outer.Function

-- the way from a scope to the function, empty if there is none
abbrev pub IsWayOf : Maps → LexicalScope → List LexicalScope → Type 0
IsWayOf meta s way = IsWholeWay meta (outer.Scope s) way ⊎ (((other : List LexicalScope) → IsWholeWay meta (outer.Scope s) other → ⊥) × (way ≡ []))

-- the scopes of their own on a way, inner ones first
abbrev pub scopes_on : Maps → (is_file : ℕ → Bool) → List LexicalScope → List LexicalScope
scopes_on meta is_file way = filter (is_scope meta is_file) way

-- whether two scopes are the same
abbrev pub is_same : LexicalScope → LexicalScope → Bool
is_same s t = option_eq nat_eq s.node t.node && option_eq nat_eq s.inlined_at t.inlined_at

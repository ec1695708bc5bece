-- The end of a walk from a scope.
use Rattle.std.specs.Prelude.{Bool, true, false, List}
use Rattle.read_metadata.specs.Maps.{Maps}
use Rattle.scope_ways.specs.declared.scope.LexicalScope.{LexicalScope}
use Rattle.scope_ways.specs.declared.scope.Outer.TheVariants as outer
use Rattle.scope_ways.specs.Ways.{IsWholeWay}

-- a walk that came to the function went the whole way, and there is no whole way otherwise
abbrev pub EndsAt : Maps → LexicalScope → List LexicalScope → (whole : Bool) → Type 0
EndsAt meta s way true = IsWholeWay meta (outer.Scope s) way
EndsAt meta s way false = (other : List LexicalScope) → IsWholeWay meta (outer.Scope s) other → ⊥

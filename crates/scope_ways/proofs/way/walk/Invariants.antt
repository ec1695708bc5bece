use Rattle.std.proofs.Common.{◌^◌, ◌-◌, vec_len}
use Rattle.scope_ways.specs.declared.scope.Outer.TheVariants as outer
use Rattle.scope_ways.specs.Ways.{IsWay}
use Rattle.scope_ways.proofs.way.walk.Given as goal

abbrev pub invariant-scopes : goal.invariant-scopes
invariant-scopes l = IsWay l.meta (outer.Scope l.from) l.way.items (outer.Scope l.at)

abbrev pub decreases-scopes : goal.decreases-scopes
decreases-scopes l = 2 ^ 64 - vec_len l.way

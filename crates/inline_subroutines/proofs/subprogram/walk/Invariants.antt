use Rattle.std.proofs.Common.{◌^◌, ◌-◌, vec_len}
use Rattle.inline_subroutines.proofs.Scopes.{IsWalking}
use Rattle.inline_subroutines.proofs.subprogram.walk.Given as goal

abbrev pub invariant-scopes : goal.invariant-scopes
invariant-scopes l = IsWalking l.meta l.fn.scope l.way.items l.at l.known

abbrev pub decreases-scopes : goal.decreases-scopes
decreases-scopes l = 2 ^ 64 - vec_len l.way

use Rattle.std.proofs.Common.{◌-◌, length}
use Rattle.scope_entries.specs.Prefix.{steps_of}
use Rattle.scope_entries.proofs.Walks.{IsWalked}
use Rattle.scope_entries.proofs.steps.steps.Given as goal

abbrev pub invariant-steps : goal.invariant-steps
invariant-steps l = IsWalked l.scopes l.steps.items l.ahead l.open.items

abbrev pub decreases-steps : goal.decreases-steps
decreases-steps l = length (steps_of l.scopes) - length l.steps.items

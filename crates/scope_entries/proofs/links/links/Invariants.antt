use Rattle.scope_entries.proofs.Linked.{AreLinked}
use Rattle.scope_entries.proofs.links.links.Given as goal

abbrev pub invariant-scopes : goal.invariant-scopes
invariant-scopes l = AreLinked l.scopes l.index l.first l.inner.items l.next.items

abbrev pub decreases-scopes : goal.decreases-scopes
decreases-scopes l = l.index

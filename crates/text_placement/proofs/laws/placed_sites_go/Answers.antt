use Rattle.text_placement.proofs.PlacedText.{calls_go, tails_go}
use Rattle.text_placement.proofs.laws.placed_sites_go.Goals as goal

pub returns-clause-call : goal.returns-clause-call
returns-clause-call c = calls_go

pub returns-clause-tail : goal.returns-clause-tail
returns-clause-tail c = tails_go

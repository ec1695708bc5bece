use Rattle.dce_round.proofs.Follows.{round_follows}
use Rattle.dce_round.proofs.laws.round_follows.Goals as goal

pub returns : goal.returns
returns c = round_follows

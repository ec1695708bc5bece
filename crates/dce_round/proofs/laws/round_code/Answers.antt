use Rattle.dce_round.proofs.Follows.{round_code}
use Rattle.dce_round.proofs.laws.round_code.Goals as goal

pub returns : goal.returns
returns c = round_code

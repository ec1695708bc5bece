use Rattle.fold_proof.proofs.Stripped.{kills_strip}
use Rattle.fold_proof.proofs.follow_laws.kills_strip.Goals as goal

pub returns : goal.returns
returns c = kills_strip

use Rattle.selftest_proof.proofs.Known.{reads_are_known}
use Rattle.selftest_proof.proofs.laws.reads_are_known.Goals as goal

pub returns : goal.returns
returns g c = reads_are_known g.L.LocationLists.gives

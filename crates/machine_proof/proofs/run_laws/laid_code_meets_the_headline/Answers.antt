use Rattle.machine_proof.proofs.Headline.{laid_code_meets_the_headline}
use Rattle.machine_proof.proofs.run_laws.laid_code_meets_the_headline.Goals as goal

pub returns : goal.returns
returns g c = laid_code_meets_the_headline g.L.LocationLists.gives

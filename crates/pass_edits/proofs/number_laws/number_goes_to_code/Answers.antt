use Rattle.pass_edits.proofs.MovedNumbers.{number_to_code}
use Rattle.pass_edits.proofs.number_laws.number_goes_to_code.Goals as goal

pub returns : goal.returns
returns g c = number_to_code g.F.FreeNumbers.free

use Rattle.constant_section.proofs.Places.{constants_stand}
use Rattle.constant_section.proofs.laws.constants_stand.Goals as goal

pub returns : goal.returns
returns c = constants_stand

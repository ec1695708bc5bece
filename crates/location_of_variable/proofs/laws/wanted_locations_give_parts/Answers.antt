use Rattle.location_of_variable.proofs.Giving.{wanted_locations_give_parts}
use Rattle.location_of_variable.proofs.laws.wanted_locations_give_parts.Goals as goal

pub returns : goal.returns
returns c = wanted_locations_give_parts

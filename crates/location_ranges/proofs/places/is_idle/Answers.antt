use Rattle.std.proofs.Common.{sym, ◌∙◌}
use Rattle.location_ranges.proofs.places.is_idle.Goals as goal

pub returns-in-0-clause-class : goal.returns-in-0-clause-class
returns-in-0-clause-class c = λ t. sym c.part_class.ensures ∙ c.in-0.is

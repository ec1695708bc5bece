use Rattle.value_queries.proofs.Fit.{fits_named}
use Rattle.value_queries.proofs.sits.number_of.Goals as goal

pub returns-clause-fit : goal.returns-clause-fit
returns-clause-fit c = fits_named c.args.c c.ranges.c

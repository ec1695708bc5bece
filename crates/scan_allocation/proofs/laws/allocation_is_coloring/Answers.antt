use Rattle.scan_allocation.proofs.Coloring.{allocation_is_coloring}
use Rattle.scan_allocation.proofs.laws.allocation_is_coloring.Goals as goal

pub returns : goal.returns
returns c = allocation_is_coloring

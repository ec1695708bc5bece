use Rattle.scan_debug.proofs.Sizes.{allotted_keeps_sizes}
use Rattle.scan_debug.proofs.laws.allotted_keeps_sizes.Goals as goal

pub returns : goal.returns
returns c = allotted_keeps_sizes

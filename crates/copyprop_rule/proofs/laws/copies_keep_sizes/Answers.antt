use Rattle.copyprop_rule.proofs.Sizes.{sizes_copied}
use Rattle.copyprop_rule.proofs.laws.copies_keep_sizes.Goals as goal

pub returns : goal.returns
returns c = sizes_copied

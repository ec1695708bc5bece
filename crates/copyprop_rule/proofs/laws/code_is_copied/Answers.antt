use Rattle.copyprop_rule.proofs.Stripped.{code_is_copied}
use Rattle.copyprop_rule.proofs.laws.code_is_copied.Goals as goal

pub returns : goal.returns
returns c = code_is_copied

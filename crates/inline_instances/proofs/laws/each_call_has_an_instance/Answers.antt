use Rattle.inline_instances.proofs.Covers.{each_has_an_instance}
use Rattle.inline_instances.proofs.laws.each_call_has_an_instance.Goals as goal

pub returns : goal.returns
returns c = each_has_an_instance

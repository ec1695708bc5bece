use Rattle.value_tracker.proofs.Entering.{entries_give_classes}
use Rattle.value_tracker.proofs.laws.entries_give_classes.Goals as goal

pub returns : goal.returns
returns c = entries_give_classes

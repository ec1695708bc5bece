use Rattle.readback_items.proofs.Readable.{items_are_readable}
use Rattle.readback_items.proofs.item_laws.items_are_readable.Goals as goal

pub returns : goal.returns
returns c = items_are_readable

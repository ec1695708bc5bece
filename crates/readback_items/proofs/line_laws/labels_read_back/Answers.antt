use Rattle.readback_items.proofs.Labels.{labels_read_back}
use Rattle.readback_items.proofs.line_laws.labels_read_back.Goals as goal

pub returns : goal.returns
returns c = labels_read_back

use Rattle.std.proofs.Common.{ap, ◌∙◌}
use Rattle.read_metadata.specs.Maps.{Maps}
use Rattle.read_metadata.specs.Metadata.{node_at}
use Rattle.read_metadata.proofs.MapLemmas.{get-nodes_in}
use Rattle.read_metadata.proofs.metadata.Metadata.node.Goals as goal

pub returns : goal.returns
returns c = c.get.ensures.value ∙ get-nodes_in c.args.number c.self.inside.nodes.entries ∙ ap (λ (m : Maps). node_at m c.args.number) c.self.view_is

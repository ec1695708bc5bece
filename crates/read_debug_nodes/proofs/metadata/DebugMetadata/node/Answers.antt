use Rattle.std.proofs.Common.{ap, ◌∙◌}
use Rattle.read_debug_nodes.specs.Maps.{DebugMaps}
use Rattle.read_debug_nodes.specs.Metadata.{node_at}
use Rattle.read_debug_nodes.proofs.Maps.{get_seen}
use Rattle.read_debug_nodes.proofs.metadata.DebugMetadata.node.Goals as goal

pub returns : goal.returns
returns c = c.get.ensures.value ∙ get_seen c.args.number c.self.inside.nodes.entries ∙ ap (λ (m : DebugMaps). node_at m c.args.number) c.self.view_is

use Rattle.std.proofs.Common.{ap, ◌∙◌}
use Rattle.read_debug_nodes.specs.Maps.{numbers_of}
use Rattle.read_debug_nodes.proofs.Maps.{keys_seen}
use Rattle.read_debug_nodes.proofs.metadata.DebugMetadata.numbers.Goals as goal

pub returns : goal.returns
returns c =
    c.in_ok-numbers.ensures.numbers ∙ keys_seen c.self.inside.nodes.entries c.in_ok-numbers.ensures.ascend ∙ ap numbers_of c.self.view_is

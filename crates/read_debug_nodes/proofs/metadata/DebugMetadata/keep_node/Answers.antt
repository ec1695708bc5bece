use Rattle.read_debug_nodes.proofs.Maps.{node_new, node_same}
use Rattle.read_debug_nodes.proofs.metadata.DebugMetadata.keep_node.Goals as goal

pub returns-in_ok-insert : goal.returns-in_ok-insert
returns-in_ok-insert c =
    node_new c.args.self.now c.self.inside.nodes.entries c.self.inside.language c.args.number c.args.node c.self.view_is c.insert.new.self.entries
    c.language_behind-language.result c.if-not-contains_key.ensures c.in_ok-insert.ensures.entries c.language_behind-language.ensures

pub returns-else-not-contains_key : goal.returns-else-not-contains_key
returns-else-not-contains_key c =
    node_same c.args.self.now c.self.inside.nodes.entries c.self.inside.language c.args.number c.args.node c.self.view_is
    c.if-not-contains_key.ensures

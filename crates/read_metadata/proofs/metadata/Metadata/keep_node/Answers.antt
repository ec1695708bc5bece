use Rattle.read_metadata.proofs.MapLemmas.{node-new, node-same}
use Rattle.read_metadata.proofs.metadata.Metadata.keep_node.Goals as goal

pub returns-in_ok-insert : goal.returns-in_ok-insert
returns-in_ok-insert c =
    node-new c.args.self.now c.self.inside.nodes.entries c.insert.new.self.entries c.self.inside.subprograms.entries c.args.number c.args.node c.self.view_is
    c.if-not-contains_key.ensures c.in_ok-insert.ensures.entries

pub returns-else-not-contains_key : goal.returns-else-not-contains_key
returns-else-not-contains_key c =
    node-same c.args.self.now c.self.inside.nodes.entries c.self.inside.subprograms.entries c.args.number c.args.node c.self.view_is
    c.if-not-contains_key.ensures

use Rattle.mir_substitution.proofs.Grown.{node_of-set}
use Rattle.mir_substitution.proofs.forest.set.Goals as goal

pub returns-clause-nodes : goal.returns-clause-nodes
returns-clause-nodes c =
    node_of-set c.args.forest.now c.insert.new.self c.key.result c.args.pair.now (record { rank = c.args.rank; link = c.args.link }) c.key.ensures
    c.in-Ok.ensures.updates.0

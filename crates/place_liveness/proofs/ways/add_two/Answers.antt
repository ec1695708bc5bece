use Rattle.place_liveness.proofs.Listed.{listed_two}
use Rattle.place_liveness.proofs.ways.add_two.Goals as goal

pub returns-clause-listed : goal.returns-clause-listed
returns-clause-listed c =
    listed_two c.args.ids.now c.args.m c.args.n c.add.new.ways c.add-2.new.ways c.in_ok-add.ensures.listed
    c.in_ok-add-2.ensures.kept c.in_ok-add-2.ensures.listed

use Rattle.read_documents.proofs.Cuts.{lines-cut, lines-last}
use Rattle.read_documents.proofs.text.first_line.Goals as goal

pub returns-in-Some-clause-cut : goal.returns-in-Some-clause-cut
returns-in-Some-clause-cut c = rw c.without_carriage_return.ensures (lines-cut c.args.text.now c.in-Some.end c.in-Some.ensures.place)

pub returns-in-None-clause-cut : goal.returns-in-None-clause-cut
returns-in-None-clause-cut c = lines-last c.args.text.now c.requires c.in-None.ensures.place

use Rattle.read_program.proofs.Lines.{said_one}
use Rattle.read_program.proofs.body.take_one.Goals as goal

pub returns-clause-read : goal.returns-clause-read
returns-clause-read c =
    said_one c.args.body.now c.add_item.new.self c.args.item c.as_slice.result.now c.add_item.result c.as_slice.ensures c.add_item.ensures.cause
    c.add_item.ensures.added

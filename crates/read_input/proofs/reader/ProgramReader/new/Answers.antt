use Rattle.read_input.proofs.Reading.{reading-start}
use Rattle.read_input.proofs.reader.ProgramReader.new.Goals as goal

pub returns-clause-reading : goal.returns-clause-reading
returns-clause-reading c = reading-start c.args.linked (record { line = c.new.result; program = c.new-2.result }) c.new.ensures c.new-2.ensures

use Rattle.read_metadata.proofs.Texts.{reads_escape, reads_byte}
use Rattle.read_metadata.proofs.text.first_byte.Goals as goal

pub returns-in-Some-clause-step : goal.returns-in-Some-clause-step
returns-in-Some-clause-step c = reads_escape c.args.text.now c.in-Some.byte c.requires c.in-Some.ensures.value

pub returns-in-None-clause-step : goal.returns-in-None-clause-step
returns-in-None-clause-step c = reads_byte c.args.text.now c.requires c.in-None.ensures.value

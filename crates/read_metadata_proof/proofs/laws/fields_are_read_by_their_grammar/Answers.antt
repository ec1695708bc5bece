use Rattle.read_metadata_proof.proofs.Fields.{fields_by_grammar}
use Rattle.read_metadata_proof.proofs.laws.fields_are_read_by_their_grammar.Goals as goal

pub returns : goal.returns
returns c = fields_by_grammar

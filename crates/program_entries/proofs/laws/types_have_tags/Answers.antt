use Rattle.program_entries.proofs.Tags.{type_tags}
use Rattle.program_entries.proofs.laws.types_have_tags.Goals as goal

pub returns : goal.returns
returns c = type_tags

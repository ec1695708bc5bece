use Rattle.gen_sizes.proofs.Sections.{generated_sections_are_small}
use Rattle.gen_sizes.proofs.laws.generated_sections_are_small.Goals as goal

pub returns : goal.returns
returns c = generated_sections_are_small

use Rattle.theorem_print_read_back.proofs.Lines.{substitutions_read_back}
use Rattle.theorem_print_read_back.proofs.substitution_laws.substitutions_read_back.Goals as goal

pub returns : goal.returns
returns c = substitutions_read_back

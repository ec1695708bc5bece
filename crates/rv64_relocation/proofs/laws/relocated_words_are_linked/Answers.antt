use Rattle.rv64_relocation.proofs.Words.{relocated_linked, relocated_value}
use Rattle.rv64_relocation.proofs.laws.relocated_words_are_linked.Goals as goal

pub returns-clause-linked : goal.returns-clause-linked
returns-clause-linked c = relocated_linked

pub returns-clause-value : goal.returns-clause-value
returns-clause-value c = relocated_value

use Rattle.theorem_answers.proofs.Answered.{documents_are_answerable, texts_are_stripped}
use Rattle.theorem_answers.proofs.laws.generated_texts_are_answered.Goals as goal

pub returns-clause-documents : goal.returns-clause-documents
returns-clause-documents c = documents_are_answerable

pub returns-clause-stripped : goal.returns-clause-stripped
returns-clause-stripped c = texts_are_stripped

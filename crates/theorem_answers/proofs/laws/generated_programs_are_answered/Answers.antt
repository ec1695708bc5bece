use Rattle.theorem_answers.proofs.Answered.{programs_are_answered, texts_are_answerable}
use Rattle.theorem_answers.proofs.laws.generated_programs_are_answered.Goals as goal

pub returns-clause-programs : goal.returns-clause-programs
returns-clause-programs c = programs_are_answered

pub returns-clause-texts : goal.returns-clause-texts
returns-clause-texts c = texts_are_answerable

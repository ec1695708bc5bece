use Rattle.compile_theorem.proofs.Headline.{compiled_promises}
use Rattle.compile_theorem.proofs.laws.compiled_promises.Goals as goal

pub returns : goal.returns
returns c = compiled_promises

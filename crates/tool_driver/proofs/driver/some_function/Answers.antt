use Rattle.std.proofs.Common.{refl}
use Rattle.tool_driver.proofs.driver.some_function.Goals as goal

pub returns-then-is_empty-clause-err : goal.returns-then-is_empty-clause-err
returns-then-is_empty-clause-err c = (refl, c.is_empty.ensures.0 c.if-is_empty.true)

pub returns-clause-ok : goal.returns-clause-ok
returns-clause-ok c = (refl, λ none. let holds = c.is_empty.ensures.1 none in cc)

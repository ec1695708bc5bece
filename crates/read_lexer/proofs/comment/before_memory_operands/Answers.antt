use Rattle.std.proofs.Common.{[], ◌∷◌, None, sym, ◌∙◌}
use Rattle.read_lexer.proofs.Cut.{uncut}
use Rattle.read_lexer.proofs.comment.before_memory_operands.Goals as goal

pub returns-then-not-contains : goal.returns-then-not-contains
returns-then-not-contains c = sym (uncut 58 (58 ∷ []) None c.args.line.now (sym c.contains.ensures.value ∙ c.if-not-contains.true))

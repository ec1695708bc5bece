use Rattle.std.proofs.Common.{sym}
use Rattle.std.proofs.lemmas.Bool.{eqb-true}
use Rattle.sem_interpreter.proofs.RunLoops.{from_apart}
use Rattle.sem_interpreter.proofs.blocks.find.Goals as goal

pub returns-then-eq : goal.returns-then-eq
returns-then-eq c = (
  c.if-i-blocks.true,
  from_apart c.args.blocks.now c.in-Some.i c.args.id c.index-blocks-i.result c.requires c.if-i-blocks.true
      (eqb-true _ _ (sym c.if-eq.ensures)),
)

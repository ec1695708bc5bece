use Rattle.std.proofs.Common.{arith, refl}
use Rattle.dwarf_base.proofs.LebLemmas.{starts, goes, ends}
use Rattle.dwarf_base.proofs.leb.spelled.Goals as goal

pub loop-rest-init : goal.loop-rest-init
loop-rest-init c = starts _ _ _ _ refl c.requires.room

pub loop-rest-preserved : goal.loop-rest-preserved
loop-rest-preserved c = goes _ _ _ _ _ _ _ c.loop-rest.invariant c.loop-rest-test.true c.septet.ensures.value

pub returns : goal.returns
returns c = ends _ _ _ _ _ _ _ c.loop-rest.invariant (omega arith) c.septet-2.ensures.value

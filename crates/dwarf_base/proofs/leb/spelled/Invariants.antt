use Rattle.dwarf_base.proofs.LebLemmas.{Going}
use Rattle.dwarf_base.proofs.leb.spelled.Given as goal

abbrev pub invariant-loop-rest : goal.invariant-loop-rest
invariant-loop-rest l = Going l.limit l.complement l.v l.bytes l.len l.rest

abbrev pub decreases-loop-rest : goal.decreases-loop-rest
decreases-loop-rest l = l.rest

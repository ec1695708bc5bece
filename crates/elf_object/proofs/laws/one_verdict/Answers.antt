use Rattle.elf_object.proofs.ObjectRight.{apart}
use Rattle.elf_object.proofs.OneFault.{one_fault}
use Rattle.elf_object.proofs.laws.one_verdict.Goals as goal

pub returns-clause-right : goal.returns-clause-right
returns-clause-right c = λ bytes o at. apart o bytes at

pub returns-clause-first : goal.returns-clause-first
returns-clause-first c = one_fault

use Rattle.std.proofs.Common.{arith, sym, subst}
use Rattle.elf_object.specs.declared.object.Object.{Object}
use Rattle.elf_object.specs.Grammar.{IsObject}
use Rattle.elf_object.proofs.OneReading.{one_object}
use Rattle.elf_object.proofs.ObjectRight.{apart}
use Rattle.elf_object.proofs.ToldLemmas.{right_object}
use Rattle.elf_object.proofs.read.read_object.Goals as goal

pub returns-in-Some-clause-only : goal.returns-in-Some-clause-only
returns-in-Some-clause-only c = λ o is. absurd (apart o c.args.bytes.now c.in-Some.at is c.in-Some.ensures)

pub returns-in_ok-object-in-None-clause-object : goal.returns-in_ok-object-in-None-clause-object
returns-in_ok-object-in-None-clause-object c =
    subst (λ (o : Object). IsObject o c.args.bytes.now) (sym c.in_ok-object-in-None.ensures)
    (right_object c.args.bytes.now (λ i. omega (arith, c.type_inv.bytes i)) (omega arith) c.in-None.ensures)

pub returns-in_ok-object-in-None-clause-only : goal.returns-in_ok-object-in-None-clause-only
returns-in_ok-object-in-None-clause-only c = λ o is.
    one_object c.args.bytes.now _ o (returns-in_ok-object-in-None-clause-object c) is

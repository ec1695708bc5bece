use Rattle.std.proofs.Common.{ℕ, sym, subst}
use Rattle.std.specs.Prelude.{Contains, Option}
use Rattle.mir_func.specs.declared.item.ItemKind.TheVariants.{Code}
use Rattle.sem_value_ids.specs.Pullback.{OfPair}
use Rattle.value_proof.specs.Classes.{pairs_of}
use Rattle.value_live_ins.proofs.above.code_defines.Goals as goal

pub returns-in-Some : goal.returns-in-Some
returns-in-Some c = λ on.
    subst (λ (k : Option ℕ). Contains (pairs_of (Code c.args.instr.now k)) (OfPair c.args.number c.args.operand)) (sym c.in-Some.is)
    (c.numbered_defines.ensures on)

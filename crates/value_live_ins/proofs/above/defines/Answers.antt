use Rattle.std.proofs.Common.{sym, ◌∙◌, subst}
use Rattle.std.specs.Prelude.{Contains}
use Rattle.mir_func.specs.declared.item.ItemKind.{ItemKind}
use Rattle.sem_value_ids.specs.Pullback.{OfPair}
use Rattle.value_proof.specs.Classes.{pairs_of}
use Rattle.value_live_ins.proofs.Defining.{phi_has}
use Rattle.value_live_ins.proofs.above.defines.Goals as goal

pub returns-in-Phi : goal.returns-in-Phi
returns-in-Phi c = λ on.
    subst (λ (k : ItemKind). Contains (pairs_of k) (OfPair c.args.number c.args.operand)) (sym c.in-Phi.is)
    (phi_has c.in-Phi.field-0 c.in-Phi.n c.args.number c.args.operand (sym c.is_first.ensures ∙ on))

pub returns-in-Code : goal.returns-in-Code
returns-in-Code c = λ on.
    subst (λ (k : ItemKind). Contains (pairs_of k) (OfPair c.args.number c.args.operand)) (sym c.in-Code.is) (c.code_defines.ensures on)

use Rattle.std.proofs.Common.{ℕ, [], ◌∷◌, length, sym, subst}
use Rattle.std.proofs.lemmas.Result.{IfOk-weaker}
use Rattle.value_solver.specs.Joining.{Hand, IsJoin, IsJoined}
use Rattle.value_solver.specs.Hands.{first_hand}
use Rattle.value_solver.proofs.Renumbering.{joined_some}
use Rattle.value_solver.proofs.visit.first_join.Goals as goal

pub returns-in_ok-exit-in-0 : goal.returns-in_ok-exit-in-0
returns-in_ok-exit-in-0 c =
    let start = c.args.start.now in
    let n = length start.classes in
    let h : Hand = record { entry = start; changes = [] } in
    IfOk-weaker c.alone.result _ (λ e. IsJoined n (first_hand start c.args.block) e)
    (λ e joined. subst (λ z. IsJoined n (first_hand start z) e) (sym c.in-0.is)
    (joined_some n h [] e (subst (λ (m : ℕ). IsJoin m (h ∷ []) e) c.in_ok-exit-in-0.ensures.long (joined h c.in_ok-exit-in-0.ensures))))
    c.alone.ensures

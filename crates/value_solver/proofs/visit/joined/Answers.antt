use Rattle.std.proofs.Common.{ℕ, List, length, sym, ap, ◌∙◌, subst, arith}
use Rattle.std.specs.Prelude.{Some}
use Rattle.std.proofs.lemmas.Result.{IfOk-weaker}
use Rattle.std.proofs.lemmas.List.{take_all}
use Rattle.std.proofs.lemmas.Option.{slice_get-get_or}
use Rattle.value_solver.specs.declared.flow.Flow.{Flow}
use Rattle.value_solver.specs.Joining.{Hand, IsJoin, IsJoined}
use Rattle.value_solver.specs.Hands.{IsShaped, first_hand, handed}
use Rattle.value_solver.proofs.Handing.{append_none, joined_more}
use Rattle.value_solver.proofs.Renumbering.{off, on}
use Rattle.value_solver.proofs.visit.joined.Goals as goal

pub loop-p-init : goal.loop-p-init
loop-p-init c =
    let first = first_hand c.args.start.now c.args.block in
    subst (λ (hs : List Hand). IsJoined c.len-things.result hs c.in_ok-joined.joined) (sym (append_none first))
    (subst (λ (m : ℕ). IsJoined m first c.in_ok-joined.joined) (sym c.len-things.ensures) c.in_ok-joined.ensures)

pub join_more-requires-clause-few : goal.join_more-requires-clause-few
join_more-requires-clause-few c = rw c.len-things.ensures c.requires.few

pub join_more-requires-clause-long : goal.join_more-requires-clause-long
join_more-requires-clause-long c = λ r. (c.loop-p.invariant.some r).classes

pub join_more-requires-clause-shaped : goal.join_more-requires-clause-shaped
join_more-requires-clause-shaped c =
    let inside = c.requires.within c.loop-p.p-index 0 c.loop-p-test.true in
    rw c.len-things.ensures
    (subst (IsShaped (length c.args.start.now.classes)) (sym c.index-entries-p.is) (c.requires.shaped _ _ (omega (arith, inside, c.requires.long))))

pub join_more-requires-clause-within : goal.join_more-requires-clause-within
join_more-requires-clause-within c =
    let inside = c.requires.within c.loop-p.p-index 0 c.loop-p-test.true in
    let here = slice_get-get_or c.args.flows.now _ _ inside ∙ ap (λ (f : Flow). Some f) (sym c.index-flows-p.is) in
    rw c.len-things.ensures ((c.requires.sound _ c.index-flows-p.result here).0)

pub loop-p-preserved : goal.loop-p-preserved
loop-p-preserved c =
    let inside = c.requires.within c.loop-p.p-index 0 c.loop-p-test.true in
    joined_more _ _ _ _ _ _ _ c.loop-p.joined _ _ _ c.loop-p-test.true (omega (arith, inside, c.requires.long)) inside c.index-entries-p.is c.index-flows-p.is
    c.loop-p.invariant c.in_ok-joined-2.ensures

pub returns-then-not-joined : goal.returns-then-not-joined
returns-then-not-joined c =
    let a = c.args in
    let hands = handed a.start.now a.flows.now a.entries.now a.block a.predecessors.now in
    let so_far = subst (λ (ps : List ℕ). IsJoined c.len-things.result (handed a.start.now a.flows.now a.entries.now a.block ps) c.loop-p.joined)
    (take_all _ _ (omega arith)) c.loop-p.invariant in
    IfOk-weaker c.empty_join.result _ (λ e. IsJoin (length a.start.now.classes) hands e)
    (λ e empty. subst (λ (m : ℕ). IsJoin m hands e) c.len-things.ensures
    (subst (λ (hs : List Hand). IsJoin c.len-things.result hs e) (sym (so_far.none (off c.loop-p.joined.reached c.if-not-joined.true))) empty))
    c.empty_join.ensures

pub returns : goal.returns
returns c =
    let a = c.args in
    let hands = handed a.start.now a.flows.now a.entries.now a.block a.predecessors.now in
    let so_far = subst (λ (ps : List ℕ). IsJoined c.len-things.result (handed a.start.now a.flows.now a.entries.now a.block ps) c.loop-p.joined)
    (take_all _ _ (omega arith)) c.loop-p.invariant in
    subst (λ (m : ℕ). IsJoin m hands c.loop-p.joined) c.len-things.ensures (so_far.some (on c.loop-p.joined.reached c.if-not-joined.false))

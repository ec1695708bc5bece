use Rattle.std.proofs.Common.{ℕ, List, [], ◌∷◌, ◌++◌, Bool, cond, sym, ap, ◌∙◌, subst, arith}
use Rattle.std.specs.Prelude.{Some}
use Rattle.std.proofs.lemmas.Result.{IfOk-weaker}
use Rattle.value_solver.specs.declared.flow.Change.{Change}
use Rattle.value_solver.specs.Joining.{Hand, IsPast, IsJoin, IsJoined}
use Rattle.value_solver.specs.Hands.{hand_by}
use Rattle.value_solver.proofs.Handing.{append_none}
use Rattle.value_solver.proofs.Proven.{shaped_known}
use Rattle.value_solver.proofs.Renumbering.{joined_some, joined_push, off, on}
use Rattle.value_solver.proofs.visit.join_more.Goals as goal

pub returns-then-not-entry : goal.returns-then-not-entry
returns-then-not-entry c = λ hands joined.
    let h : Hand = record { entry = c.args.entry.now; changes = c.args.flow.now.changes } in
    let same = ap (λ (z : Bool). hands ++ cond z (h ∷ []) []) c.if-not-entry.true ∙ append_none hands in
    subst (λ (hs : List Hand). IsJoined c.args.things hs c.args.joined) (sym same) joined

pub returns-then-not-joined : goal.returns-then-not-joined
returns-then-not-joined c =
    let n = c.args.things in
    let h : Hand = record { entry = c.args.entry.now; changes = c.args.flow.now.changes } in
    let exit = c.in_ok-exit.exit in
    let past = subst (λ (cs : List Change). IsPast (record { entry = c.args.entry.now; changes = cs }) exit.classes.items exit.given.items) c.as_slice.ensures
    c.in_ok-exit.ensures in
    let known = shaped_known n c.args.entry.now c.requires.shaped c.if-not-entry.false in
    IfOk-weaker c.alone.result _ (λ e. (hands : List Hand) → IsJoined n hands c.args.joined
    → IsJoined n (hands ++ hand_by (Some c.args.entry.now) (Some c.args.flow.now)) e)
    (λ e alone hands joined.
    let none = joined.none (off c.args.joined.reached c.if-not-joined.true) in
    subst (λ (hs : List Hand). IsJoined n hs e) (sym (λ z. none z ++ cond (c.if-not-entry.false z) (h ∷ []) []))
    (joined_some n h [] e (subst (λ (m : ℕ). IsJoin m (h ∷ []) e) (past.long ∙ known.classes) (alone h past))))
    c.alone.ensures

pub join-requires-clause-few : goal.join-requires-clause-few
join-requires-clause-few c =
    let long = c.requires.long (on c.args.joined.reached c.if-not-joined.false) in
    let few = c.requires.few in
    omega (arith, long, few)

pub join-requires-clause-long : goal.join-requires-clause-long
join-requires-clause-long c =
    let known = shaped_known c.args.things c.args.entry.now c.requires.shaped c.if-not-entry.false in
    c.in_ok-exit.ensures.long ∙ known.classes ∙ sym (c.requires.long (on c.args.joined.reached c.if-not-joined.false))

pub returns : goal.returns
returns c =
    let n = c.args.things in
    let h : Hand = record { entry = c.args.entry.now; changes = c.args.flow.now.changes } in
    let exit = c.in_ok-exit.exit in
    let past = subst (λ (cs : List Change). IsPast (record { entry = c.args.entry.now; changes = cs }) exit.classes.items exit.given.items) c.as_slice.ensures
    c.in_ok-exit.ensures in
    IfOk-weaker c.join.result _ (λ e. (hands : List Hand) → IsJoined n hands c.args.joined
    → IsJoined n (hands ++ hand_by (Some c.args.entry.now) (Some c.args.flow.now)) e)
    (λ e more hands joined.
    let is = joined.some (on c.args.joined.reached c.if-not-joined.false) in
    subst (λ (hs : List Hand). IsJoined n hs e) (sym (ap (λ (z : Bool). hands ++ cond z (h ∷ []) []) c.if-not-entry.false))
    (joined_push n h hands e (subst (λ (m : ℕ). IsJoin m (hands ++ h ∷ []) e) is.classes
    (more hands h (subst (λ (m : ℕ). IsJoin m hands c.args.joined) (sym is.classes) is) past))))
    c.join.ensures

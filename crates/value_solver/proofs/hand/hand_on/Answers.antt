use Rattle.std.proofs.Common.{◌≡◌, ℕ, ◌<◌, arith, sym, ◌∙◌, ap, subst, length, take, ◌++◌, ◌∷◌, [], List, Bool}
use Rattle.std.specs.Prelude.{slice_index_or}
use Rattle.value_solver.specs.declared.flow.Change.{Change}
use Rattle.value_solver.specs.Joining.{AreWithin, SourceWithin, class_past, bit_past}
use Rattle.std.proofs.lemmas.List.{take_more, take_all}
use Rattle.value_solver.proofs.Exits.{ArePast, past_none, past_next, past_all, within_at}
use Rattle.value_solver.proofs.hand.hand_on.Goals as goal

pub loop-change-init : goal.loop-change-init
loop-change-init c = rw (c.in_ok-classes.ensures, c.in_ok-given.ensures.items, c.as_slice.ensures, c.as_slice-2.ensures) (past_none _ _)

inside : (n k : ℕ) (cs : List Change) (d : Change) → AreWithin n cs → k < length cs → d ≡ slice_index_or cs k d → (d.thing < n) × SourceWithin n d.source
inside n k cs d h less is = subst (λ (z : Change). (z.thing < n) × SourceWithin n z.source) (sym is) (within_at n cs k d h less)

pub class_past-requires-clause-few : goal.class_past-requires-clause-few
class_past-requires-clause-few c = rw c.as_slice-in-loop-change.ensures c.requires.few

pub class_past-requires-clause-within : goal.class_past-requires-clause-within
class_past-requires-clause-within c =
    rw c.as_slice-in-loop-change.ensures ((inside _ _ _ _ c.requires.within c.loop-change-test.true c.change-item.is).1)

pub bit_past-requires : goal.bit_past-requires
bit_past-requires c =
    record {
      within = rw (c.as_slice-in-loop-change-2.ensures, c.requires.known.bits)
          ((inside _ _ _ _ c.requires.within c.loop-change-test.true c.change-item.is).1);
    }

pub index_mut-requires : goal.index_mut-requires
index_mut-requires c =
    omega (arith, (inside _ _ _ _ c.requires.within c.loop-change-test.true c.change-item.is).0, c.loop-change.classes.ok.0, c.loop-change.invariant.long)

pub index_mut-requires-in-loop-change : goal.index_mut-requires-in-loop-change
index_mut-requires-in-loop-change c =
    omega (
      arith,
      (inside _ _ _ _ c.requires.within c.loop-change-test.true c.change-item.is).0,
      c.loop-change.given.ok.0,
      c.loop-change.invariant.bits,
      c.requires.known.bits,
    )

pub loop-change-preserved : goal.loop-change-preserved
loop-change-preserved c =
    let more = take_more c.args.changes.now c.loop-change.change-index c.change-item.result c.loop-change-test.true in
    let here = c.change-item.is in
    let e = more ∙ ap (λ (z : Change). take c.loop-change.change-index c.args.changes.now ++ z ∷ []) (sym here) in
    let f = c.class_past.ensures ∙ ap (λ (z : List ℕ). class_past (length z) z c.change-item.result.source) c.as_slice-in-loop-change.ensures in
    let h = c.bit_past.ensures ∙ ap (λ (z : List Bool). bit_past z c.change-item.result.source) c.as_slice-in-loop-change-2.ensures in
    rw (e, f, h) (past_next _ _ _ _ _ c.change-item.result c.requires.known.bits
    ((inside _ _ _ _ c.requires.within c.loop-change-test.true here).0) c.loop-change.invariant)

pub returns : goal.returns
returns c =
    past_all c.args.entry.now c.args.changes.now _ _ c.requires.known.bits c.requires.within
    (subst (λ (z : List Change). ArePast c.args.entry.now.classes c.args.entry.now.given z c.loop-change.classes.items c.loop-change.given.items)
    (take_all _ _ (omega arith)) c.loop-change.invariant)

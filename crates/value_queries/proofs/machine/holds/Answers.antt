use Rattle.std.proofs.Common.{refl}
use Rattle.sem_value_ids.specs.Pullback.{OfPair}
use Rattle.value_queries.proofs.Told.{sits_where, pair_told, untracked, tracked_by}
use Rattle.value_queries.proofs.machine.holds.Goals as goal

pub returns-then-not-tracked-clause-tracked : goal.returns-then-not-tracked-clause-tracked
returns-then-not-tracked-clause-tracked c = λ blocks at. (
  λ some. cc,
  λ h. absurd (untracked c.args.values.now.things.now c.args.point.now.index at.index c.args.pair.now c.is_tracked-tracked.result
      c.is_tracked-tracked.ensures c.if-not-tracked.true h),
)

pub returns-clause-tracked : goal.returns-clause-tracked
returns-clause-tracked c = λ blocks at. (
  λ some. tracked_by c.args.values.now.things.now c.args.point.now.index at.index c.args.pair.now c.is_tracked-tracked.result
      c.is_tracked-tracked.ensures c.if-not-tracked.false,
  λ h. refl,
)

pub returns-clause-exact : goal.returns-clause-exact
returns-clause-exact c = λ blocks are at.
    let v = c.args.values.now in
    let index = c.args.point.now.index in
    let s = c.args.point.now.stand in
    let q = c.args.pair.now in
    let known = tracked_by v.things.now index at.index q c.is_tracked-tracked.result c.is_tracked-tracked.ensures c.if-not-tracked.false in
    sits_where blocks v index s are at.stands at.index (OfPair q.number q.operand) c.args.place.now c.class_of.result c.class_sits.ensures.fit
    (pair_told blocks v index s are at.stands at.index q.number q.operand c.class_of.result known c.class_of.ensures) c.class_sits.result
    c.class_sits.ensures.sits

use Rattle.std.proofs.Common.{◌≡◌, true, refl, subst}
use Rattle.mir_func.specs.Resolve.{resolve}
use Rattle.value_tracker.specs.LocationTracker.{Passes, is_mark}
use Rattle.location_ranges.proofs.Resting.{stays_plain, stays_item}
use Rattle.location_ranges.proofs.Standing.{stays_unreached, leaves_unreached, passes_on}
use Rattle.location_ranges.proofs.transfer_tracker.TransferTracker.pass.Goals as goal

pub returns-then-not-self-clause-stands : goal.returns-then-not-self-clause-stands
returns-then-not-self-clause-stands c = λ blocks are fetch stands.
    stays_unreached blocks c.args.values.now c.args.index.now are c.args.self.now c.args.item.now _ stands c.if-not-self.true c.if-not-self.true refl refl

pub returns-then-not-falls-clause-stands : goal.returns-then-not-falls-clause-stands
returns-then-not-falls-clause-stands c = λ blocks are fetch stands.
    leaves_unreached blocks c.args.values.now c.args.index.now are c.args.self.now c.args.item.now _ fetch
    (λ f. let on : c.falls.result ≡ true = c.falls.ensures.1 f in let off = c.if-not-falls.true in cc) refl refl refl

pub returns-clause-stands : goal.returns-clause-stands
returns-clause-stands c = λ blocks are fetch stands.
    let v = c.args.values.now in
    let passes = subst (λ xs. Passes v.variables.now c.args.index.now xs
    (resolve v.subs.now) c.args.self.now.held c.pass_held.new.held c.args.item.now.kind)
    c.as_slice.ensures.value c.in_ok-pass_held.ensures.passes in
    passes_on blocks v c.args.index.now are c.args.self.now c.args.item.now _ stands c.if-not-self.false fetch (c.falls.ensures.0 c.if-not-falls.false)
    passes c.if-not-self.false refl refl refl refl

pub returns-then-not-self-clause-stays : goal.returns-then-not-self-clause-stays
returns-then-not-self-clause-stays c = stays_plain c.args.self.now _ refl refl refl refl

pub returns-then-not-falls-clause-stays : goal.returns-then-not-falls-clause-stays
returns-then-not-falls-clause-stays c = stays_plain c.args.self.now _ refl refl refl refl

pub returns-clause-stays : goal.returns-clause-stays
returns-clause-stays c =
    stays_item c.args.self.now _ (is_mark c.args.item.now.kind) refl refl c.marked_past-self.ensures c.in_ok-pass_held.ensures.stay

use Rattle.std.proofs.Common.{ℕ, List, map, refl, subst, get_or}
use Rattle.std.proofs.lemmas.Option.{slice_get-get_or}
use Rattle.value_tracker.specs.value_proof.Classes.{Classes}
use Rattle.value_tracker.specs.value_solver.Entry.{thing}
use Rattle.value_tracker.specs.Things.{Settle}
use Rattle.value_tracker.specs.LocationTracker.{Holds}
use Rattle.value_tracker.specs.Start.{ConstantsNow}
use Rattle.location_ranges.proofs.Standing.{enters}
use Rattle.location_ranges.proofs.transfer_tracker.enter.Goals as goal

pub returns-clause-stands : goal.returns-clause-stands
returns-clause-stands c = λ blocks are.
    let v = c.args.values.now in
    let e = get_or v.entries.now c.args.block c.index-values-block.result in
    let held = subst (λ (xs : List ℕ). (class : Classes) → Settle v.things.now xs class →
    Holds v.variables.now (map thing v.things.now) c.args.index.now xs c.in_ok-held.held class)
    c.as_slice.ensures.value c.in_ok-held.ensures.holds in
    let constants = subst (λ (xs : List ℕ). (class : Classes) → Settle v.things.now xs class →
    ConstantsNow v.things.now class c.in_ok-constants.constants.items)
    c.as_slice-2.ensures.value c.in_ok-constants.ensures.constants in
    enters blocks v c.args.index.now are _ e (slice_get-get_or v.entries.now c.args.block c.index-values-block.result c.requires.block)
    refl refl c.in_ok-settled.ensures.count c.in_ok-settled.ensures.each held constants

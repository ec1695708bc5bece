-- Each law of both is by the law of one and then of the other.
use Rattle.std.proofs.Common.{◌≡◌, arith, List, ◌++◌, not, ◌&&◌, ◌||◌, sym, ◌∙◌, ap, subst}
use Rattle.std.proofs.lemmas.Bool.{and_parts}
use Rattle.pass_trait.specs.Change.{change}
use Rattle.pass_trait.specs.declared.loss.Loss.{Loss}
use Rattle.pass_trait.specs.Steps.{PassStep, KeepsSteps}
use Rattle.pass_trait.specs.Sizes.{item_count}
use Rattle.pass_trait.proofs.Composition.{steps_then, following_then, fits_then}
use Rattle.pass_trait.proofs.Growth.{numbers_first, numbers_then, slots_then, sizes_then}
use Rattle.pass_trait.proofs.compose.ThenPass.run.Goals as goal

pub run-requires-clause-numbers : goal.run-requires-clause-numbers
run-requires-clause-numbers g c =
    let k = numbers_first g.A.Pass.factor g.A.Pass.count g.B.Pass.factor g.B.Pass.count (item_count c.args.f.now) g.met.A.Pass.grows g.met.B.Pass.grows in
    let r = c.requires.numbers in
    omega (arith, k, r)

pub run-requires-2-clause-numbers : goal.run-requires-2-clause-numbers
run-requires-2-clause-numbers g c =
    let s = c.in_ok-losses.ensures.sizes in
    let k = numbers_then g.A.Pass.factor g.A.Pass.count g.B.Pass.factor g.B.Pass.count (item_count c.args.f.now)
    (item_count c.run.new.f) g.met.A.Pass.grows g.met.B.Pass.grows s.items in
    let n = s.numbers in
    let r = c.requires.numbers in
    omega (arith, k, n, r)

pub run-requires-2-clause-slots : goal.run-requires-2-clause-slots
run-requires-2-clause-slots g c =
    let k = slots_then g.A.Pass.count g.B.Pass.factor g.B.Pass.count g.met.B.Pass.grows in
    let n = c.in_ok-losses.ensures.sizes.slots in
    let r = c.requires.slots in
    omega (arith, k, n, r)

pub returns-clause-follows : goal.returns-clause-follows
returns-clause-follows g c fits =
    let parts = and_parts g.A.Pass.fits (g.B.Pass.fits && (not g.B.Pass.asks || g.A.Pass.keeps)) fits in
    let more = and_parts g.B.Pass.fits (not g.B.Pass.asks || g.A.Pass.keeps) parts.1 in
    following_then g.A.Pass.asks g.A.Pass.keeps g.B.Pass.asks g.B.Pass.keeps _ _ _ _ _ _ (fits_then g.B.Pass.asks g.A.Pass.keeps more.1)
    (c.in_ok-losses.ensures.follows parts.0) (c.in_ok-later.ensures.follows more.0)

pub returns-clause-steps : goal.returns-clause-steps
returns-clause-steps g c =
    let joined : c.extend_from_slice.new.self ≡ c.in_ok-losses.losses ++ c.in_ok-later.later = c.in_ok-extend_from_slice.ensures.ok ∙
    ap (λ l. c.in_ok-losses.losses ++ l) c.as_slice.ensures in
    let first : List PassStep = g.A.Pass.steps c.args.self.now.first in
    let second : List PassStep = g.B.Pass.steps c.args.self.now.second in
    let P : List Loss → Type 0 = λ l. KeepsSteps (first ++ second)
    (change c.args.f.now c.args.subs.now c.run-2.new.f c.run-2.new.subs) l in
    subst P (sym joined) (steps_then first second _ _ _ _ _ _ _ _ c.in_ok-losses.ensures.steps c.in_ok-later.ensures.steps)

pub returns-clause-sizes : goal.returns-clause-sizes
returns-clause-sizes g c =
    sizes_then g.A.Pass.factor g.A.Pass.count g.B.Pass.factor g.B.Pass.count _ _ _ _ _ _ g.met.A.Pass.grows g.met.B.Pass.grows
    c.in_ok-losses.ensures.sizes c.in_ok-later.ensures.sizes

use Rattle.std.proofs.Common.{◌≡◌, ℕ, ◌++◌, ◌∷◌, List, sym, subst}
use Rattle.std.proofs.lemmas.Bool.{ne_eqb}
use Rattle.fold_targets.specs.Ends.{told}
use Rattle.fold_targets.specs.steps.Settled.{Chain}
use Rattle.fold_targets.proofs.Ways.{chain_cut, chain_rest, circle_closes, popped_more, put_among, among_stays}
use Rattle.fold_targets.proofs.ends.close.Goals as goal

pub loop-x-preserved : goal.loop-x-preserved
loop-x-preserved c =
    let w = c.loop-x.invariant in (
      c.in-Some.x ∷ w.0,
      popped_more _ _ _ c.in-Some.x w.0 c.in-Some.ensures.items w.1,
      rw (ne_eqb c.in-Some.x c.args.last c.if-x-last.false) w.2,
      put_among _ _ _ c.in-Some.x w.0 w.3 c.in_ok-insert.ensures.updates.0,
    )

pub returns-then-x-last-clause-chain : goal.returns-then-x-last-clause-chain
returns-then-x-last-clause-chain c = λ lead from h.
    let w = c.loop-x.invariant in
    let e : c.pop.new.self.items ++ c.in-Some.x ∷ w.0 ≡ c.args.way.now.items = popped_more _ _ _ c.in-Some.x w.0 c.in-Some.ensures.items w.1 in
    subst (Chain lead from c.pop.new.self.items) c.if-x-last.true
    (chain_cut lead from c.pop.new.self.items c.in-Some.x w.0 c.args.last (subst (λ (z : List ℕ). Chain lead from z c.args.last) (sym e) h))

pub returns-then-x-last-clause-right : goal.returns-then-x-last-clause-right
returns-then-x-last-clause-right c = λ lead from h are.
    let w = c.loop-x.invariant in
    let e : c.pop.new.self.items ++ c.in-Some.x ∷ w.0 ≡ c.args.way.now.items = popped_more _ _ _ c.in-Some.x w.0 c.in-Some.ensures.items w.1 in
    let k : Chain lead c.in-Some.x (c.in-Some.x ∷ w.0) c.args.last =
    chain_rest lead from c.pop.new.self.items c.in-Some.x w.0 c.args.last (subst (λ (z : List ℕ). Chain lead from z c.args.last) (sym e) h) in
    circle_closes lead (told c.args.ends.now) (told c.insert.new.self) c.in-Some.x w.0 are
    (subst (Chain lead c.in-Some.x (c.in-Some.x ∷ w.0)) (sym c.if-x-last.true) k)
    (put_among _ _ _ c.in-Some.x w.0 w.3 c.in_ok-insert.ensures.updates.0)

pub returns-then-x-last-clause-stay : goal.returns-then-x-last-clause-stay
returns-then-x-last-clause-stay c =
    let w = c.loop-x.invariant in
    among_stays _ _ (c.in-Some.x ∷ w.0) (put_among _ _ _ c.in-Some.x w.0 w.3 c.in_ok-insert.ensures.updates.0)

use Rattle.std.proofs.Common.{◌≡◌, Option, ℕ, Some, cond, arith, sym, ap, subst, ◌∙◌}
use Rattle.std.specs.Map.{lookup}
use Rattle.mir_substitution.specs.Index.{is_key}
use Rattle.sem_mir.specs.Step.{defined}
use Rattle.sem_mir.specs.State.{updated}
use Rattle.sem_interpreter.specs.StandsFor.{PairsHold}
use Rattle.sem_interpreter.proofs.History.{pairs_put}
use Rattle.sem_interpreter.proofs.Numbers.{given_below, pairs_alike, below_skips, below_gives, below_all}
use Rattle.sem_interpreter.proofs.pairs.number.Goals as goal
use Rattle.sem_interpreter.proofs.pairs.number.Goals.{in-Some+in_ok-insert, in_default}

pub loop-o-preserved : goal.loop-o-preserved
loop-o-preserved c =
    let operands = c.args.operands.now in
    let i = c.loop-o.o in
    elim c.match-defined.branch [
      | in-Some+in_ok-insert w ↦ rw w.pairs-is (record {
        room = (let r = w.in_ok-insert.ensures.spare in let k = c.loop-o.invariant.room in omega (arith, r, k));
        given = λ s registers begun.
            let f = given_below c.args.call c.args.k operands i s in
            let defines = sym w.in-Some.is ∙ c.defined.ensures ∙ ap (λ x. defined c.args.call (Some x)) c.index-operands-o.is in
            let put = pairs_put _ w.insert.new.self.entries f c.args.k i w.read.result (c.loop-o.invariant.given s registers begun)
            (subst (λ (n : ℕ). (q : ℕ × ℕ) →
            lookup (is_key q) w.insert.new.self.entries ≡ cond (is_key (n, i) q) (Some w.read.result)
            (lookup (is_key q) c.loop-o.pairs.entries)) w.number.ensures w.in_ok-insert.ensures.updates.0) in
            pairs_alike _ _ _ (below_gives c.args.call c.args.k operands i c.index-operands-o.result w.in-Some.r s c.loop-o-test.true defines)
            (subst (λ (x : Option ℕ). PairsHold w.insert.new.self.entries (updated c.args.k (updated i x (f c.args.k)) f))
            (w.read.ensures ∙ sym (registers w.in-Some.r)) put);
      })
      | in_default w ↦ rw w.pairs-is (record {
        room = (let k = c.loop-o.invariant.room in omega (arith, k));
        given = λ s registers begun.
            let nothing = sym w.in_default.is ∙ c.defined.ensures ∙ ap (λ x. defined c.args.call (Some x)) c.index-operands-o.is in
            pairs_alike _ _ _ (below_skips c.args.call c.args.k operands i c.index-operands-o.result s c.loop-o-test.true nothing)
            (c.loop-o.invariant.given s registers begun);
      })
    ]

pub returns-clause-given : goal.returns-clause-given
returns-clause-given c = λ s registers begun.
    pairs_alike _ _ _ (below_all c.args.call c.args.k c.args.operands.now c.loop-o.o s (omega arith)) (c.loop-o.invariant.given s registers begun)

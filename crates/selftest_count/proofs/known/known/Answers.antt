use Rattle.std.proofs.Common.{◌≡◌, ℕ, ◌+◌, List, take, is_some, true, false, sym, ap, ◌∙◌, arith}
use Rattle.std.proofs.lemmas.List.{take_all}
use Rattle.mir_func.specs.declared.variable.VarId.{VarId}
use Rattle.selftest_count.specs.Counts.{known_in}
use Rattle.selftest_count.proofs.Counting.{one_more}
use Rattle.selftest_count.proofs.known.known.Goals.{then-is_some, else-is_some}
use Rattle.selftest_count.proofs.known.known.Goals as goal

plus_none : (n : ℕ) → n ≡ n + 0
plus_none n = omega arith

pub loop-part-preserved : goal.loop-part-preserved
loop-part-preserved c =
    let v = c.part-item.result in
    let few = c.loop-part.invariant.few in
    elim c.if-is_some.branch [
      | then-is_some w ↦ record {
        few = let e = w.known-is in omega (arith, few, e);
        is = λ s stands. w.known-is ∙ ap (λ (n : ℕ). n + 1) (c.loop-part.invariant.is s stands)
            ∙ sym (one_more c.args.parts.now s c.loop-part.part-index v c.loop-part-test.true c.part-item.is true
            (ap is_some (sym (c.value_of.ensures s stands)) ∙ sym c.is_some.ensures ∙ w.if-is_some.true));
      }
      | else-is_some w ↦ record {
        few = let e = w.known-is in omega (arith, few, e);
        is = λ s stands. w.known-is ∙ c.loop-part.invariant.is s stands ∙ plus_none (known_in (take c.loop-part.part-index c.args.parts.now) s)
            ∙ sym (one_more c.args.parts.now s c.loop-part.part-index v c.loop-part-test.true c.part-item.is false
            (ap is_some (sym (c.value_of.ensures s stands)) ∙ sym c.is_some.ensures ∙ w.if-is_some.false));
      }
    ]

pub returns : goal.returns
returns c = λ s stands.
    c.loop-part.invariant.is s stands
    ∙ ap (λ (vs : List VarId). known_in vs s) (take_all c.loop-part.part-index c.args.parts.now (let t = c.loop-part-test.false in omega (arith, t)))

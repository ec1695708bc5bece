use Rattle.std.proofs.Common.{◌≡◌, ◌<◌, ℕ, List, ◌∷◌, [], subst, sym, ap, ◌∙◌, ◌++◌, ◌+◌, map, drop}
use Rattle.std.specs.List.{All}
use Rattle.std.proofs.lemmas.List.Elements.{All-head, All-tail}
use Rattle.rv64_instr.specs.Row.{implicit_uses}
use Rattle.sem_machine.specs.Machine.{register}
use Rattle.sim_machine.proofs.Calls.{uses_turn, value_turn}
use Rattle.sim_machine.proofs.hart.Hart.arguments.Goals as goal
use Rattle.sim_machine.proofs.hart.Hart.arguments.Goals.{in-Some+in_ok-push, in_default}

pub loop-operand-preserved : goal.loop-operand-preserved
loop-operand-preserved c = elim c.match-argument.branch [
  | in-Some+in_ok-push w ↦
      let r = w.in-Some.r in
      let e = uses_turn c.args.operands.now c.loop-operand.operand-index c.operand-item.result _ c.loop-operand-test.true c.operand-item.is
      (sym w.in-Some.is ∙ c.argument.ensures) in
      record {
        low = All-tail (λ (q : ℕ). q < 32) r _ (subst (λ (xs : List ℕ). All (λ q. q < 32) xs) e c.loop-operand.invariant.low);
        values = λ s h.
            let read = w.read.ensures s h in
            let pushed : c.match-argument.values ≡ c.loop-operand.values ++ register s r ∷ [] = w.values-is ∙
            (w.in_ok-push.ensures.ok ∙ ap (λ (x : ℕ). c.loop-operand.values ++ x ∷ []) read) in
            ap (λ (xs : List ℕ). xs ++ map (register s) (implicit_uses (drop (c.loop-operand.operand-index + 1) c.args.operands.now))) pushed ∙ value_turn
            (register s) c.loop-operand.values _ _ _ r e (c.loop-operand.invariant.values s h);
      }
  | in_default w ↦
      let e = uses_turn c.args.operands.now c.loop-operand.operand-index c.operand-item.result _ c.loop-operand-test.true c.operand-item.is
      (sym w.in_default.is ∙ c.argument.ensures) in
      record {
        low = subst (λ (xs : List ℕ). All (λ q. q < 32) xs) e c.loop-operand.invariant.low;
        values = λ s h.
            ap (λ (xs : List ℕ). xs ++ map (register s) (implicit_uses (drop (c.loop-operand.operand-index + 1) c.args.operands.now))) w.values-is
            ∙ (ap (λ (xs : List ℕ). c.loop-operand.values ++ map (register s) xs) (sym e) ∙ c.loop-operand.invariant.values s h);
      }
]

pub read-requires : goal.read-requires
read-requires c =
    let e = uses_turn c.args.operands.now c.loop-operand.operand-index c.operand-item.result _ c.loop-operand-test.true c.operand-item.is
    (sym c.in-Some.is ∙ c.argument.ensures) in
    All-head (λ (q : ℕ). q < 32) c.in-Some.r _ (subst (λ (xs : List ℕ). All (λ q. q < 32) xs) e c.loop-operand.invariant.low)

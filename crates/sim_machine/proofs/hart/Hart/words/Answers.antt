use Rattle.std.proofs.Common.{◌≡◌, ℕ, List, ◌∷◌, [], sym, ap, ◌∙◌, ◌++◌, ◌+◌, ◌%◌, ◌^◌, drop}
use Rattle.rv64_instr.specs.Row.{outgoing_words}
use Rattle.sem_machine.specs.MachineStep.{word_content, words_from}
use Rattle.sim_machine.proofs.Calls.{words_turn, word_turn}
use Rattle.sim_machine.proofs.hart.Hart.words.Goals as goal
use Rattle.sim_machine.proofs.hart.Hart.words.Goals.{in-Some+in_ok-push, in_default}

pub loop-operand-preserved : goal.loop-operand-preserved
loop-operand-preserved c = elim c.match-word.branch [
  | in-Some+in_ok-push w ↦
      let e = words_turn c.args.operands.now c.loop-operand.operand-index c.operand-item.result _ c.loop-operand-test.true c.operand-item.is
      (sym w.in-Some.is ∙ c.word.ensures) in
      let next : c.match-word.offset ≡ (c.loop-operand.offset + 8) % 2 ^ 64 = w.offset-is in
      λ s h.
      let pushed : c.match-word.values ≡ c.loop-operand.values ++ word_content s c.loop-operand.offset ∷ [] = w.values-is ∙
      (w.in_ok-push.ensures.ok ∙ ap (λ (x : ℕ). c.loop-operand.values ++ x ∷ []) (w.word_at.ensures s h)) in
      ap (λ (xs : List ℕ). xs ++ words_from s c.match-word.offset (outgoing_words (drop (c.loop-operand.operand-index + 1) c.args.operands.now))) pushed
      ∙ word_turn s c.loop-operand.values _ _ _ c.loop-operand.offset c.match-word.offset _ next e (c.loop-operand.invariant s h)
  | in_default w ↦
      let e = words_turn c.args.operands.now c.loop-operand.operand-index c.operand-item.result _ c.loop-operand-test.true c.operand-item.is
      (sym w.in_default.is ∙ c.word.ensures) in
      λ s h.
      ap (λ (xs : List ℕ). xs ++ words_from s c.match-word.offset (outgoing_words (drop (c.loop-operand.operand-index + 1) c.args.operands.now))) w.values-is
      ∙ (ap (λ (o : ℕ). c.loop-operand.values ++ words_from s o (outgoing_words (drop (c.loop-operand.operand-index + 1) c.args.operands.now))) w.offset-is
      ∙ (ap (λ (xs : List ℕ). c.loop-operand.values ++ words_from s c.loop-operand.offset xs) (sym e) ∙ c.loop-operand.invariant s h))
]

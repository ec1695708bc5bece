use Rattle.std.proofs.Common.{sym, ap, ◌∙◌}
use Rattle.sem_machine.specs.Image.{word_at}
use Rattle.sim_machine.proofs.Stepping.{word_step_at, return_step, other_step, operation_step}
use Rattle.sim_machine.proofs.word.run_word.Goals as goal

pub returns-then-word-eq-RETURN-clause-step : goal.returns-then-word-eq-RETURN-clause-step
returns-then-word-eq-RETURN-clause-step c = λ image s shows h none.
    let w = word_step_at c.args.code.now image c.args.hart.now s c.args.entry.now _ shows h c.requires.stands c.requires.at
    _ (c.word_of-in_text.ensures.word image shows) c.linked_at-word.ensures c.requires.left none in
    return_step image s _ w c.if-word-eq-RETURN.true

pub returns-in_ok-operate-in-Some-clause-step : goal.returns-in_ok-operate-in-Some-clause-step
returns-in_ok-operate-in-Some-clause-step c = λ image s shows h none.
    let w = word_step_at c.args.code.now image c.args.hart.now s c.args.entry.now _ shows h c.requires.stands c.requires.at
    _ (c.word_of-in_text.ensures.word image shows) c.linked_at-word.ensures c.requires.left none in
    operation_step image s _ c.in-Some.m _ w c.if-word-eq-RETURN.false (sym c.decode.ensures.value ∙ c.in-Some.is) (c.in_ok-operate-in-Some.ensures.ok s h)

pub returns-in-None-clause-step : goal.returns-in-None-clause-step
returns-in-None-clause-step c = λ image s shows h none.
    let w = word_step_at c.args.code.now image c.args.hart.now s c.args.entry.now _ shows h c.requires.stands c.requires.at
    _ (c.word_of-in_text.ensures.word image shows) c.linked_at-word.ensures c.requires.left none in (
      other_step image s _ _ w c.if-word-eq-RETURN.false (sym c.decode.ensures.value ∙ c.in-None.is),
      ap (word_at image.text) (h.counter ∙ sym c.requires.at) ∙ c.word_of-in_text.ensures.word image shows,
    )

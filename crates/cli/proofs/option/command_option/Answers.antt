use Rattle.std.specs.Prelude.{codes}
use Rattle.cli.specs.declared.option.CommandOption.TheVariants.{Reserve, Arguments, Answers, Frame, Inline, Linked, Linkable, FloatAbi, Symbols}
use Rattle.cli.proofs.OptionWords.{the_option, no_option, numbers_word, word_numbers}
use Rattle.cli.proofs.option.command_option.Goals as goal

pub returns-then-is_same : goal.returns-then-is_same
returns-then-is_same c = the_option c.args.word.now Frame (c.is_same.ensures.0 c.if-is_same.true, tt)

pub returns-then-is_same-2 : goal.returns-then-is_same-2
returns-then-is_same-2 c = the_option c.args.word.now Inline (c.is_same-2.ensures.0 c.if-is_same-2.true, tt)

pub returns-then-is_same-3 : goal.returns-then-is_same-3
returns-then-is_same-3 c = the_option c.args.word.now Linked (c.is_same-3.ensures.0 c.if-is_same-3.true, tt)

pub returns-then-is_same-4 : goal.returns-then-is_same-4
returns-then-is_same-4 c = the_option c.args.word.now Linkable (c.is_same-4.ensures.0 c.if-is_same-4.true, tt)

pub returns-then-is_same-5 : goal.returns-then-is_same-5
returns-then-is_same-5 c = the_option c.args.word.now FloatAbi (c.is_same-5.ensures.0 c.if-is_same-5.true, tt)

pub returns-in-Some-2 : goal.returns-in-Some-2
returns-in-Some-2 c =
    the_option c.args.word.now (Reserve c.in-Some-2.registers) ((c.in_ok-registers.ensures c.in-Some-2.registers).0 c.in-Some-2.is)

pub returns-in-Some-3 : goal.returns-in-Some-3
returns-in-Some-3 c =
    the_option c.args.word.now (Arguments c.in-Some-3.values)
    (numbers_word 8 (codes "--args=") c.args.word.now c.in-Some-3.values ((c.in_ok-values.ensures c.in-Some-3.values).0 c.in-Some-3.is))

pub returns-in-Some-4 : goal.returns-in-Some-4
returns-in-Some-4 c =
    the_option c.args.word.now (Answers c.in-Some-4.values)
    (numbers_word 64 (codes "--answers=") c.args.word.now c.in-Some-4.values ((c.in_ok-values-2.ensures c.in-Some-4.values).0 c.in-Some-4.is))

pub returns-in-Some-5 : goal.returns-in-Some-5
returns-in-Some-5 c = the_option c.args.word.now (Symbols c.in-Some-5.pairs) ((c.in_ok-pairs.ensures c.in-Some-5.pairs).0 c.in-Some-5.is)

pub returns : goal.returns
returns c =
    let word = c.args.word.now in
    no_option word (λ e. (let same = c.is_same.ensures.1 e in absurd cc)) (λ e. (let same = c.is_same-2.ensures.1 e in absurd cc))
    (λ e. (let same = c.is_same-3.ensures.1 e in absurd cc)) (λ e. (let same = c.is_same-4.ensures.1 e in absurd cc))
    (λ e. (let same = c.is_same-5.ensures.1 e in absurd cc))
    (λ l h. c.in_default.not-Some l ((c.passes.ensures l).1 h))
    (λ r h. c.in_default-2.not-Some r ((c.in_ok-registers.ensures r).1 h))
    (λ a h. c.in_default-3.not-Some a ((c.in_ok-values.ensures a).1 (word_numbers 8 (codes "--args=") word a h.0 h.1)))
    (λ a h. c.in_default-4.not-Some a ((c.in_ok-values-2.ensures a).1 (word_numbers 64 (codes "--answers=") word a h.0 h.1)))
    (λ p h. c.in_default-5.not-Some p ((c.in_ok-pairs.ensures p).1 h))

use Rattle.cli.proofs.Giving.{word_gives_none, word_gives}
use Rattle.cli.proofs.parse_options.with_word.Goals as goal

pub returns-in-None : goal.returns-in-None
returns-in-None c = word_gives_none c.args.given c.args.word.now c.in_ok-option.field-0 c.in-None.is (λ o. c.in_ok-option.ensures o)

pub returns-in-Some : goal.returns-in-Some
returns-in-Some c =
    word_gives c.args.given c.args.word.now c.in_ok-option.field-0 c.in-Some.option c.with.result c.in-Some.is (λ o. c.in_ok-option.ensures o) c.with.ensures

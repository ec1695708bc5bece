use Rattle.std.proofs.Common.{rules, ◌∙◌}
use Rattle.std.proofs.lemmas.Iterator.{items_from_collect, YieldsList-from_slice, YieldsList-from_map}
use Rattle.std.proofs.lemmas.Iterator.Consumers.{YieldsList-at}
use Rattle.read_token.specs.Sentence.{lexeme_of}
use Rattle.read_token.proofs.sentence.lexemes.Goals as goal

pub returns : goal.returns
returns c =
    c.from.ensures ∙ rw c.in_ok-lexemes.was at
    (items_from_collect _ c.collect.ensures.ran
    (YieldsList-from_map _ (lexeme_of c.args.line.now) (YieldsList-at c.map.ensures.source
    (YieldsList-from_slice c.args.tokens.now c.iter.ensures.rest)) c.map.ensures.closure (λ x r q k. search rules)))

use Rattle.std.proofs.Common.{sym}
use Rattle.read_lexer.specs.declared.parts.Token.{Token}
use Rattle.read_lexer.specs.declared.parts.Class.TheVariants.{Word}
use Rattle.read_declarations.proofs.Walks.{not_single, single_so_far, all_single}
use Rattle.read_declarations.proofs.name.are_single.Goals as goal

-- a token that stands for none
none : Token
none = record { class = Word; start = 0; end = 0 }

pub returns-then-not-is_single_at : goal.returns-then-not-is_single_at
unfolding none
returns-then-not-is_single_at c =
    not_single c.args.line.now c.args.start c.loop-token.end c.args.tokens.now c.loop-token.token-index none c.loop-token-test.true c.loop-token.invariant
    (sym c.if-not-is_single_at.ensures)

pub loop-token-preserved : goal.loop-token-preserved
unfolding none
loop-token-preserved c =
    single_so_far c.args.line.now c.args.start c.loop-token.end c.args.tokens.now c.loop-token.token-index none c.loop-token-test.true c.loop-token.invariant
    (sym c.if-not-is_single_at.ensures)

pub returns : goal.returns
unfolding none
returns c = all_single c.args.line.now c.args.start c.loop-token.end c.args.tokens.now c.loop-token.token-index none c.loop-token-test.false
    c.loop-token.invariant

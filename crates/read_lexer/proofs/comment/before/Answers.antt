use Rattle.std.proofs.Common.{sym, ◌∙◌}
use Rattle.read_lexer.proofs.Cut.{goes_on, cuts, whole}
use Rattle.read_lexer.proofs.comment.before.Goals as goal

pub returns-then-is_cut : goal.returns-then-is_cut
returns-then-is_cut c = cuts c.args.mark.now c.args.line.now c.loop-at.open_quote c.loop-at.at c.loop-at-test.true (sym c.if-is_cut.ensures) ∙
    c.loop-at.invariant

pub loop-at-preserved : goal.loop-at-preserved
loop-at-preserved c = rw c.quote_behind-open_quote.ensures (goes_on c.args.mark.now c.args.line.now c.loop-at.open_quote c.loop-at.at c.loop-at-test.true (sym
    c.if-is_cut.ensures) ∙ c.loop-at.invariant)

pub returns : goal.returns
returns c = whole c.args.mark.now c.args.line.now c.loop-at.open_quote c.loop-at.at c.loop-at-test.false ∙ c.loop-at.invariant

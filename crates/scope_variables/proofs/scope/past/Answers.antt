use Rattle.std.proofs.Common.{sym, ap, ◌∙◌, Some, arith}
use Rattle.scope_variables.proofs.Pasts.{past_out, past_done, past_none, past_more}
use Rattle.scope_variables.proofs.scope.past.Goals as goal

pub returns-in_default : goal.returns-in_default
returns-in_default c =
    sym (past_done c.args.debug.now c.nodes.left c.nodes.at c.nodes-test.true (sym c.file_block_at.ensures ∙ c.in_default.is)) ∙ c.nodes.invariant

pub returns-in_default-scope : goal.returns-in_default-scope
returns-in_default-scope c =
    sym (past_none c.args.debug.now c.nodes.left c.nodes.at c.nodes-test.true (sym c.file_block_at.ensures ∙ c.in-Some.is ∙ ap Some c.in_default-scope.is))
    ∙ c.nodes.invariant

pub nodes-preserved : goal.nodes-preserved
nodes-preserved c =
    sym (past_more c.args.debug.now c.nodes.left c.nodes.at c.in-Some-scope.scope c.nodes-test.true
    (sym c.file_block_at.ensures ∙ c.in-Some.is ∙ ap Some c.in-Some-scope.is))
    ∙ c.nodes.invariant

pub returns : goal.returns
returns c = sym (past_out c.args.debug.now c.nodes.left c.nodes.at (omega (arith, c.nodes-test.false))) ∙ c.nodes.invariant

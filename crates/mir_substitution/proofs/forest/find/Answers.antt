use Rattle.std.proofs.Common.{sym, ap, arith, ◌∙◌}
use Rattle.mir_substitution.specs.declared.forest.Node.{Node}
use Rattle.mir_substitution.specs.Forest.{IsRootOf, node_of}
use Rattle.mir_substitution.proofs.forest.find.Goals as goal

pub loop-parent-preserved : goal.loop-parent-preserved
loop-parent-preserved c =
    let link = ap (λ (n : Node). n.link) (sym c.look_up-node.ensures) ∙ c.in-Parent.is in
    rw c.in-Parent.is (sym (c.requires.parents c.loop-parent.at c.in-Parent.parent link) ∙ c.loop-parent.invariant)

pub loop-parent-smaller : goal.loop-parent-smaller
loop-parent-smaller c =
    let link = ap (λ (n : Node). n.link) (sym c.look_up-node.ensures) ∙ c.in-Parent.is in
    rw c.in-Parent.is (omega (arith, c.requires.ranks c.loop-parent.at c.in-Parent.parent link, c.requires.low c.in-Parent.parent))

pub returns-in-End : goal.returns-in-End
returns-in-End c =
    let link = ap (λ (n : Node). n.link) (sym c.look_up-node.ensures) ∙ c.in-End.is in
    let root : IsRootOf c.args.entries.now (node_of c.args.forest.now) c.args.pair (record { pair = c.loop-parent.at; rank = c.look_up-node.result.rank; end = c.in-End.end }) =
    record {
      here = sym c.look_up-node.ensures ∙ λ i. record { rank = c.look_up-node.result.rank; link = c.in-End.is i };
      ends = sym c.loop-parent.invariant ∙ c.requires.roots c.loop-parent.at c.in-End.end link;
    } in
    rw c.in-End.is root

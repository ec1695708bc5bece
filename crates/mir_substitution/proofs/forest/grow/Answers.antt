use Rattle.std.proofs.Common.{refl, sym, arith, rules}
use Rattle.mir_substitution.specs.Forest.{node_of}
use Rattle.mir_substitution.proofs.Grown.{are_ends-same, part-ends, circle-ends, joined-ends}
use Rattle.mir_substitution.proofs.forest.grow.Goals as goal

pub returns-then-e-ne0 : goal.returns-then-e-ne0
returns-then-e-ne0 c =
    let h = c.requires in
    are_ends-same _ _ _ _ refl c.break_off.ensures (part-ends c.args.entries.now (node_of c.args.forest.now) h.ends c.args.e.now c.args.source.now c.find-target.result
    h.root c.find-target.ensures h.unused (λ whole. absurd (omega arith)))

pub returns-then-ends_at : goal.returns-then-ends_at
returns-then-ends_at c =
    let h = c.requires in
    are_ends-same _ _ _ _ refl (search rules) (circle-ends c.args.entries.now (node_of c.args.forest.now) h.ends c.args.e.now c.args.source.now c.find-target.result
    h.root c.find-target.ensures h.unused (sym c.if-ends_at.ensures))

pub returns : goal.returns
returns c =
    let h = c.requires in
    are_ends-same _ _ _ _ refl c.unite.ensures (joined-ends c.args.entries.now (node_of c.args.forest.now) h.ends c.args.e.now c.args.source.now c.find-target.result
    h.root c.find-target.ensures h.unused (omega arith) (sym c.if-ends_at.ensures))

use Rattle.std.proofs.Common.{ℕ, ◌+◌, Bool, Option, drop, ap, ◌∙◌}
use Rattle.read_program.specs.Ends.{newer, last_from}
use Rattle.read_program.proofs.EndedBodies.{last_turn, last_end}
use Rattle.read_program.proofs.ends.last_code.Goals as goal

pub loop-index-preserved : goal.loop-index-preserved
loop-index-preserved c =
    let items = c.args.items.now in
    let k = c.loop-index.index in
    ap (λ (o : Option ℕ). last_from (k + 1) o (drop (k + 1) items))
    (c.newer-found.ensures ∙ ap (λ (b : Bool). newer b k c.loop-index.found) c.is_code.ensures)
    ∙ last_turn items k c.index-items-index.result c.loop-index.found c.loop-index-test.true c.index-items-index.is c.loop-index.invariant

pub returns : goal.returns
returns c = last_end c.args.items.now c.loop-index.index c.loop-index.found c.loop-index-test.false c.loop-index.invariant

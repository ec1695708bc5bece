use Rattle.std.proofs.Common.{max, [], ◌∷◌, ap, sym, ◌∙◌}
use Rattle.pass_salvage.proofs.Greatest.{greatest_turn, max_zero}
use Rattle.pass_salvage.proofs.fresh.greatest_in_entries.Goals as goal

pub loop-e-preserved : goal.loop-e-preserved
loop-e-preserved c =
    let now = c.loop-e.invariant in
    let from = c.number.ensures in
    let to = c.number-in-loop-e.ensures in
    let more = c.greater.ensures ∙ (λ i. max (from i) (to i)) ∙ ap (max c.e-item.result.src.number) (sym (max_zero c.e-item.result.dst.number)) in
    c.greater-most.ensures ∙ (λ i. max (now i) (more i)) ∙
    sym (greatest_turn (λ e. e.src.number ∷ e.dst.number ∷ []) c.args.entries.now c.loop-e.e-index c.e-item.result c.loop-e-test.true c.e-item.is)

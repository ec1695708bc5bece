use Rattle.std.proofs.Common.{◌++◌, take, drop, sym, ap, subst, ◌∙◌}
use Rattle.std.proofs.Math.Seq.{take-add}
use Rattle.base_io.specs.Told.{Takes}
use Rattle.base_io.proofs.ToldLemmas.{Takes-more}
use Rattle.base_io.proofs.reading.read_all.Goals as goal

pub loop-filled-preserved : goal.loop-filled-preserved
loop-filled-preserved g c =
    let before = c.loop-filled.invariant in
    let filled = c.loop-filled.filled in
    let n = c.in_ok-count.count in
    let bytes = c.read_more.new.bytes.items in
    let both = Takes-more _ _ _ _ (take n (drop filled bytes)) before.taken c.in_ok-count.ensures.takes in
    record {
      steady = c.in_ok-count.ensures.steady ∙ before.steady;
      filled = c.in_ok-count.ensures.within;
      most = c.read_more.ensures.most;
      taken = subst (Takes _ _) (sym (take-add filled n bytes ∙ ap (λ front. front ++ take n (drop filled bytes)) c.read_more.ensures.kept)) both;
    }

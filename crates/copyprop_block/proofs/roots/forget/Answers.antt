use Rattle.std.proofs.Common.{◌≡◌, ◌≤◌, ◌<◌, ◌+◌, length, length-set, take, drop, set, sym, ap, ◌∙◌, arith}
use Rattle.rv64_instr.specs.Row.{row_of}
use Rattle.copyprop_block.specs.Roots.{outlives}
use Rattle.copyprop_block.proofs.Lists.{moves_up, passes, behind_write, behind_next}
use Rattle.copyprop_block.proofs.roots.forget.Goals as goal
use Rattle.copyprop_block.proofs.roots.forget.Goals.{then-outlives, else-outlives}

pub loop-at-preserved : goal.loop-at-preserved
loop-at-preserved c =
    let xs = c.args.roots.now.items in
    let ys = c.loop-at.roots.items in
    let kept = c.loop-at.kept in
    let at = c.loop-at.at in
    let h = c.loop-at.invariant in
    let p = outlives (row_of c.args.i.now) in
    let e = c.index.result.now in
    let lt : at < length xs = (let t = c.loop-at-test.true in let l = c.len-at-end.ensures in omega (arith, t, l)) in
    let le : kept ≤ at = h.within in
    elim c.if-outlives.branch [
      | then-outlives w ↦
          let ks = w.kept-is in
          let rs : c.if-outlives.roots.items ≡ set ys kept e = ap (λ v. v.items) w.roots-is in
          record {
            front = (λ i. take (ks i) (rs i)) ∙ moves_up p xs ys kept at e le lt h.size h.front h.behind c.index.ensures
                (sym c.outlives.ensures ∙ w.if-outlives.true);
            behind = ap (drop (at + 1)) rs ∙ behind_write xs ys at kept e le h.behind;
            size = ap length rs ∙ length-set ys kept e ∙ h.size;
            within = omega (arith, ks, le);
          }
      | else-outlives w ↦
          let ks = w.kept-is in
          let rs : c.if-outlives.roots.items ≡ ys = ap (λ v. v.items) w.roots-is in
          record {
            front = (λ i. take (ks i) (rs i)) ∙ passes p xs ys kept at e lt h.front h.behind c.index.ensures (sym c.outlives.ensures ∙ w.if-outlives.false);
            behind = ap (drop (at + 1)) rs ∙ behind_next xs ys at h.behind;
            size = ap length rs ∙ h.size;
            within = omega (arith, ks, le);
          }
    ]

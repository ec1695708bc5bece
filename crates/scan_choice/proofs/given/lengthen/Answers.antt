use Rattle.std.proofs.Common.{◌≡◌, ◌<◌, ◌≤◌, ◌+◌, ℕ, [], ◌∷◌, List, Option, None, length, slice_index_or, ap, ◌∙◌, length-append, arith}
use Rattle.scan_choice.proofs.Entered.{one_longer}
use Rattle.scan_choice.proofs.given.lengthen.Goals as goal

pub loop-given-preserved : goal.loop-given-preserved
loop-given-preserved c =
    let e = c.in_ok-push.ensures.items in
    record {
      few = (let long : length c.push.new.self.items ≡ length c.loop-given.given.items + 1 = ap length e ∙ length-append c.loop-given.given.items (None ∷ []) in
          let len = c.len.ensures in
          let test : c.len.result < c.args.count = c.loop-given-test.true in
          omega (arith, long, len, test, c.requires.count));
      same = λ k. ap (λ (os : List (Option ℕ)). slice_index_or os k None) e ∙ one_longer c.loop-given.given.items k ∙ c.loop-given.invariant.same k;
    }

use Rattle.std.proofs.Common.{◌≡◌, ℕ, ◌+◌, List, [], ◌∷◌, ◌++◌, length, length-append, arith, ap, sym, ◌∙◌}
use Rattle.sized_lists.specs.declared.list.SizedList.{SizedList}
use Rattle.sized_lists.specs.Sized.{size_at}
use Rattle.sized_lists.proofs.Sized.{one_more}
use Rattle.sized_lists.proofs.list.sized.Goals as goal

pub loop-ranges-preserved : goal.loop-ranges-preserved
loop-ranges-preserved c =
    let last : List SizedList = record { size = size_at c.args.sizes.now c.len.result; ranges = c.in-Some.ranges } ∷ [] in
    let pushed : c.push.new.self ≡ c.loop-ranges.made ++ last =
    c.in_ok-push.ensures.ok
    ∙ ap (λ (n : ℕ). c.loop-ranges.made ++ record { size = n; ranges = c.in-Some.ranges } ∷ []) c.size_at-size.ensures in
    let counted : 0 + length c.loop-ranges.yielded ≡ c.len.result = omega (arith, c.len.ensures, c.loop-ranges.invariant.count) in
    record {
      made = pushed
          ∙ ap (λ (ms : List SizedList). ms ++ last) c.loop-ranges.invariant.made
          ∙ sym (one_more c.args.sizes.now 0 c.len.result c.loop-ranges.yielded c.in-Some.ranges counted);
      count = ap length pushed
          ∙ omega (
            arith,
            length-append c.loop-ranges.made last,
            length-append c.loop-ranges.yielded (c.in-Some.ranges ∷ []),
            c.loop-ranges.invariant.count,
          );
    }

use Rattle.std.proofs.Common.{◌∷◌, ◌++◌, [], List, length, ap, ◌∙◌, arith, length-append}
use Rattle.std.specs.Prelude.{reverse}
use Rattle.mir_func.specs.declared.item.Item.{Item}
use Rattle.dce_salvage.proofs.Moved.{moved_one}
use Rattle.dce_salvage.proofs.salvage_numbers.move_from.Goals as goal

pub moved-preserved : goal.moved-preserved
moved-preserved c =
    let e = c.in-Some.ensures.items in
    let long = ap (λ (xs : List Item). length xs) e ∙ length-append c.pop.new.self.items (c.in-Some.item ∷ []) in
    let ok = c.moved.items.ok.0 in
    let t = c.moved-test.true in
    record {
      all = ap (λ (ds : List Item). c.pop.new.self.items ++ reverse ds) c.in_ok-push-in-Some.ensures.items ∙
          moved_one c.moved.items.items c.pop.new.self.items c.moved.done.items c.in-Some.item e ∙ c.moved.invariant.all;
      within = omega (arith, long, ok, t);
    }

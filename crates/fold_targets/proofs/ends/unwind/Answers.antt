use Rattle.std.proofs.Common.{◌≡◌, None, arith, ap, ◌∙◌}
use Rattle.fold_targets.specs.Ends.{told}
use Rattle.fold_targets.proofs.Ways.{last_off, next_end, end_added, put_stays, put_here, is_some_of, same_some}
use Rattle.fold_targets.proofs.ends.unwind.Goals as goal

pub loop-x-preserved-in-Some-copied : goal.loop-x-preserved-in-Some-copied
loop-x-preserved-in-Some-copied c = record {
  right = λ lead from last h e are.
      let w = c.loop-x.invariant.right lead from last h e are in
      let k = last_off lead from _ _ c.in-Some.x w.1.0 c.in-Some.ensures.items w.1.1 in
      (w.0, (c.in-Some.x, k.0, grind arith));
  stay = c.loop-x.invariant.stay;
}

pub loop-x-preserved : goal.loop-x-preserved
loop-x-preserved c =
    let now = c.in_ok-insert.ensures.updates.0 in
    let none : told c.loop-x.ends c.in-Some.x ≡ None = grind arith in
    record {
      right = λ lead from last h e are.
          let w = c.loop-x.invariant.right lead from last h e are in
          let k = last_off lead from _ _ c.in-Some.x w.1.0 c.in-Some.ensures.items w.1.1 in (
            end_added lead (told c.loop-x.ends) (told c.insert.new.self) w.0 c.in-Some.x c.loop-x.end
                (next_end lead (told c.loop-x.ends) w.0 c.in-Some.x w.1.0 c.loop-x.end k.1 w.1.2 none)
                (λ m to. is_some_of _ c.loop-x.end (ap (told c.loop-x.ends) (same_some to k.1) ∙ w.1.2)) now,
            (c.in-Some.x, k.0, put_here (told c.loop-x.ends) (told c.insert.new.self) c.in-Some.x c.loop-x.end now),
          );
      stay = λ n h. put_stays (told c.loop-x.ends) (told c.insert.new.self) c.in-Some.x c.loop-x.end now n (c.loop-x.invariant.stay n h);
    }

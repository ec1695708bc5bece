use Rattle.std.proofs.Common.{refl}
use Rattle.value_live_ins.proofs.values.solve_asking.Goals as goal

pub returns-clause-values : goal.returns-clause-values
returns-clause-values c =
    let values = c.in_ok-values.ensures.values in
    record {
      things = values.things;
      once = values.once;
      fewer = values.fewer;
      all = c.in_ok-values.ensures.whole refl;
      used = values.used;
      entries = values.entries;
      for_all = values.for_all;
      sweeps = values.sweeps;
    }

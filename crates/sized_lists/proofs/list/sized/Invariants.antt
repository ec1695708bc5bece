use Rattle.std.proofs.Common.{◌≡◌, length}
use Rattle.sized_lists.specs.Sized.{sized}
use Rattle.sized_lists.proofs.list.sized.Given as goal

abbrev pub invariant-loop-ranges : goal.invariant-loop-ranges
invariant-loop-ranges l = record {
  made : l.made ≡ sized l.sizes 0 l.yielded;
  count : length l.made ≡ length l.yielded;
}

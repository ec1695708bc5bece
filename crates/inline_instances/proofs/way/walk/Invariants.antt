use Rattle.std.proofs.Common.{ℕ, ◌^◌, ◌-◌, List, [], vec_len}
use Rattle.inline_instances.specs.Calls.{IsWay}
use Rattle.inline_instances.specs.steps.Marks.{AreMarks}
use Rattle.inline_instances.proofs.way.walk.Given as goal

abbrev pub invariant-calls : goal.invariant-calls
invariant-calls l = (calls : List ℕ) → AreMarks l.meta calls [] l.fn.marks → AreMarks l.meta calls l.way.items l.marks × IsWay l.meta l.fn.from l.way.items l.at

abbrev pub decreases-calls : goal.decreases-calls
decreases-calls l = 2 ^ 64 - vec_len l.way

use Rattle.std.proofs.Common.{◌≡◌, ◌++◌, take}
use Rattle.std.specs.Prelude.{map}
use Rattle.read_body.specs.FixedObjects.{fixed_object}
use Rattle.read_body.proofs.fixed_objects.push_all.Given as goal

abbrev pub invariant-loop-entry : goal.invariant-loop-entry
invariant-loop-entry l = l.objects ≡ l.initial.objects ++ map (fixed_object l.area) (take l.entry-index l.entries)

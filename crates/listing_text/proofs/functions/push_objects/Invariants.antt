use Rattle.std.proofs.Common.{◌≡◌, ◌++◌, take}
use Rattle.std.specs.List.{flat_map}
use Rattle.listing_text.specs.Output.{object_line}
use Rattle.listing_text.proofs.functions.push_objects.Given as goal

abbrev pub invariant-loop-object : goal.invariant-loop-object
invariant-loop-object l = l.text ≡ l.initial.text ++ flat_map object_line (take l.object-index l.objects)

use Rattle.std.proofs.Common.{◌≡◌, ◌++◌, take}
use Rattle.std.specs.List.{flat_map}
use Rattle.listing_text.specs.Output.{name_byte}
use Rattle.listing_text.proofs.name.push_name.Given as goal

abbrev pub invariant-loop-b : goal.invariant-loop-b
invariant-loop-b l = l.text ≡ l.initial.text ++ flat_map name_byte (take l.b-index l.name)

use Rattle.std.proofs.Common.{◌≡◌, ◌++◌, drop}
use Rattle.std.specs.Prelude.{map}
use Rattle.listing_meaning.specs.Listing.{object_listed}
use Rattle.listing_function.proofs.listing.listed_objects.Given as goal

abbrev pub invariant-loop-o : goal.invariant-loop-o
invariant-loop-o l = l.listed ++ map object_listed (drop l.o-index l.objects) ≡ map object_listed l.objects

use Rattle.std.proofs.Common.{◌<◌, ◌^◌, List, sym, subst}
use Rattle.std.specs.Prelude.{All}
use Rattle.mir_func.specs.declared.object.Object.{Object}
use Rattle.listing_function.proofs.Low.{offsets_low}
use Rattle.listing_function.proofs.listing.objects.Goals as goal

pub listed_objects-requires : goal.listed_objects-requires
listed_objects-requires c =
    subst (λ (os : List Object). All (λ o. o.offset < 2 ^ 32) os) (sym c.as_slice.ensures) (offsets_low _ c.framed.invariant)

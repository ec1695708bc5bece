use Rattle.std.proofs.Common.{◌+◌, ◌*◌, ◌<◌, ◌^◌, length, sym, subst}
use Rattle.std.specs.Prelude.{All}
use Rattle.emit_code.specs.Laid.{LaidCode}
use Rattle.listing_function.specs.steps.Entries.{IsLow}
use Rattle.listing_function.proofs.Low.{entries_low}
use Rattle.listing_function.proofs.listing.listing.Goals as goal

pub code_lines-requires : goal.code_lines-requires
code_lines-requires c =
    let low = subst (λ (x : LaidCode). x.base + 4 * length x.words < 2 ^ 32) (sym c.code.view_is) c.requires.low in
    subst (All IsLow) (sym c.as_slice.ensures) (entries_low _ _ _ c.code.invariant.stand low)

use Rattle.std.proofs.Common.{refl}
use Rattle.type_entries.proofs.Places.{placed_table}
use Rattle.type_entries.proofs.all_types.place_types.Goals as goal

pub returns-clause-table : goal.returns-clause-table
returns-clause-table c =
    placed_table _ _ _ _ c.requires.stands c.requires.sizes refl refl refl c.as_slice.ensures c.in_ok-items.ensures.starts

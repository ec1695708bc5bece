use Rattle.std.proofs.Common.{List, sym, subst}
use Rattle.std.specs.List.{All}
use Rattle.dwarf_loclists.specs.declared.range.Part.{Part}
use Rattle.dwarf_loclists.specs.Ranges.{IsLocated}
use Rattle.sim_trace.specs.steps.Readable.{IsReadablePiece}
use Rattle.sim_trace.proofs.Places.{pieces}
use Rattle.sim_trace.proofs.value.push_location.Goals as goal

pub push_pieces-requires : goal.push_pieces-requires
push_pieces-requires c =
    subst (λ (parts : List Part). All IsReadablePiece parts) (sym c.as_slice.ensures)
    (pieces c.in-Parts.parts (subst IsLocated c.in-Parts.is c.requires))

-- The section of the call frame information of functions, with the lost registers undefined.
use Rattle.std.proofs.Common.{refl}
use Rattle.dwarf_frame.specs.Spelling.{spelling}
use Rattle.dwarf_frame.proofs.WriteLoops.{sizes_fit}
use Rattle.frame_theorem.proofs.Compiled.{compiled_unwinds}
use Rattle.linkable_command.specs.Linkable.{LOST}
use Rattle.linkable_command.proofs.Written.{lost_undefined}
use Rattle.linkable_frames.specs.Laws.{DescriptionsUnwind}
use Rattle.linkable_frames.proofs.Spared.{lost_spared}

pub descriptions_unwind : DescriptionsUnwind
descriptions_unwind names functions o are codes coded table described descriptions small =
    compiled_unwinds names functions o are codes coded LOST (spelling LOST table) lost_spared (record {
      table = table;
      described = described;
      section = record { lost = lost_undefined; spelled = refl; sizes = sizes_fit LOST table small; are = descriptions };
    })

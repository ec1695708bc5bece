use Rattle.std.proofs.Common.{◌||◌, None}
use Rattle.rv64_instr.specs.declared.place.Place.TheVariants.{Register}
use Rattle.rv64_instr.specs.Row.{row_of}
use Rattle.rv64_instr.specs.LocationEffects.{defines_of}
use Rattle.mir_func.specs.declared.item.ItemKind.TheVariants.{Code}
use Rattle.pass_trait.specs.Causes.{names}
use Rattle.pass_liveness.specs.Sets.{has}
use Rattle.scan_liveness.proofs.Touched.{Masked}
use Rattle.scan_liveness.proofs.masks.mask_of.Given as goal

abbrev pub invariant-loop-r : goal.invariant-loop-r
invariant-loop-r l =
    Masked (λ r. names r (Code l.i None) || (defines_of (row_of l.i) (Register r) || has l.numbers.slots l.after (Register r))) l.mask l.r

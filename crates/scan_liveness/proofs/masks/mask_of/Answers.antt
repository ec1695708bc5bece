use Rattle.std.proofs.Common.{◌||◌, ℕ, None, ap, ◌∙◌, arith}
use Rattle.rv64_instr.specs.declared.place.Place.TheVariants.{Register}
use Rattle.rv64_instr.specs.Row.{row_of}
use Rattle.rv64_instr.specs.LocationEffects.{defines_of}
use Rattle.mir_func.specs.declared.item.ItemKind.TheVariants.{Code}
use Rattle.pass_trait.specs.Causes.{names}
use Rattle.pass_liveness.specs.Sets.{has}
use Rattle.scan_liveness.proofs.Touched.{masked_begins, masked_goes_on}
use Rattle.scan_liveness.proofs.masks.mask_of.Goals as goal

pub loop-r-init : goal.loop-r-init
loop-r-init c = masked_begins _

pub loop-r-preserved : goal.loop-r-preserved
loop-r-preserved c =
    masked_goes_on c.loop-r.invariant _ c.is_blocked-blocked.result
    (c.is_blocked-blocked.ensures ∙ ap (λ (r : ℕ). names r (Code c.args.i.now None) ||
    (defines_of (row_of c.args.i.now) (Register r) || has c.args.numbers.now.slots c.args.after.now (Register r))) c.register.ensures)
    c.with_bit-mask.ensures

pub returns : goal.returns
returns c r lt = c.loop-r.invariant.done r (omega (arith, lt))

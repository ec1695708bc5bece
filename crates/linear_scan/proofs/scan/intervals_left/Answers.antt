use Rattle.std.proofs.Common.{◌≡◌, List, ap, sym, ◌∙◌, subst, arith}
use Rattle.mir_func.specs.declared.block.Block.{Block}
use Rattle.mir_func.specs.Function.{Function}
use Rattle.mir_func.specs.Sound.{AllItems, HasForm}
use Rattle.scan_allot.specs.scan_liveness.Registers.{greatest_register}
use Rattle.scan_settle.specs.Rule.{AreLeft}
use Rattle.scan_settle.proofs.spill_pass.Results.{same_blocks}
use Rattle.linear_scan.proofs.Physical.{none_left}
use Rattle.linear_scan.proofs.Scanned.{are_left}
use Rattle.linear_scan.proofs.scan.intervals_left.Goals as goal

pub returns-then-most-lt32 : goal.returns-then-most-lt32
returns-then-most-lt32 c =
    let f : Function = c.args.f.now in
    let forms : AllItems (λ i. HasForm i.kind) f.blocks =
    subst (λ (bs : List Block). AllItems (λ i. HasForm i.kind) bs) (c.as_slice.ensures ∙ same_blocks _ _ c.f.view_is) c.know_forms.ensures in
    let most : c.greatest_register-most.result ≡ greatest_register f.blocks =
    c.greatest_register-most.ensures.greatest ∙ ap greatest_register (c.as_slice-2.ensures ∙ same_blocks _ _ c.f.view_is) in
    let low = c.if-most-lt32.true in
    subst (AreLeft f) (sym c.new.ensures) (none_left f forms (omega (arith, most, low)))

pub returns : goal.returns
returns c =
    are_left c.args.f.now c.in_ok-liveness.liveness.intervals c.in_ok-liveness.liveness.blocked.masks.items c.in_ok-liveness.ensures

use Rattle.std.proofs.Common.{List, ◌∙◌, subst}
use Rattle.mir_func.specs.declared.block.Block.{Block}
use Rattle.mir_func.specs.Function.{Function}
use Rattle.mir_func.specs.Sound.{AllItems, HasForm}
use Rattle.scan_settle.proofs.spill_pass.Results.{same_blocks}
use Rattle.linear_scan.proofs.Physical.{unchanged}
use Rattle.linear_scan.proofs.scan.scan.Goals as goal

pub returns-then-is_physical-clause-scanned : goal.returns-then-is_physical-clause-scanned
returns-then-is_physical-clause-scanned c =
    let f : Function = c.args.f.now in
    let forms : AllItems (λ i. HasForm i.kind) f.blocks =
    subst (λ (bs : List Block). AllItems (λ i. HasForm i.kind) bs) (c.as_slice.ensures ∙ same_blocks _ _ c.f.view_is) c.know_forms.ensures in
    unchanged c.args.reserve.now f c.args.subs.now forms (c.is_physical.ensures.0 c.if-is_physical.true) c.new.result c.new.ensures

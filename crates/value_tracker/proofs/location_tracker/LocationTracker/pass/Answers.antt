use Rattle.std.proofs.Common.{◌≡◌, sym, ap, ◌∙◌, subst}
use Rattle.std.specs.Prelude.{OnOk, true, false}
use Rattle.mir_func.specs.declared.item.ItemKind.{ItemKind}
use Rattle.mir_func.specs.Resolve.{resolve}
use Rattle.value_tracker.specs.LocationTracker.{Passes, is_mark}
use Rattle.value_tracker.proofs.location_tracker.LocationTracker.pass.Goals as goal

pub returns-in-Code-clause-passes : goal.returns-in-Code-clause-passes
returns-in-Code-clause-passes c =
    let block = c.args.block.now in
    subst (λ (k : ItemKind). OnOk c.pass_code.result (Passes block.variables.now block.index.now block.settled.now
    (resolve block.subs.now) c.args.self.now c.pass_code.new.self k)) (sym c.in-Code.is) c.pass_code.ensures.passes

pub returns-in-Mark-clause-passes : goal.returns-in-Mark-clause-passes
returns-in-Mark-clause-passes c =
    let block = c.args.block.now in
    subst (λ (k : ItemKind). Passes block.variables.now block.index.now block.settled.now
    (resolve block.subs.now) c.args.self.now c.pass_mark.new.self k) (sym c.in-Mark.is) c.pass_mark.ensures.passes

pub returns-in-Phi-clause-passes : goal.returns-in-Phi-clause-passes
returns-in-Phi-clause-passes c =
    let block = c.args.block.now in
    subst (λ (k : ItemKind). OnOk c.pass_phi.result (Passes block.variables.now block.index.now block.settled.now
    (resolve block.subs.now) c.args.self.now c.pass_phi.new.self k)) (sym c.in-Phi.is) c.pass_phi.ensures.passes

pub returns-in-Mark-clause-stay : goal.returns-in-Mark-clause-stay
returns-in-Mark-clause-stay c = λ e. absurd (let no : true ≡ false = ap is_mark (sym c.in-Mark.is) ∙ e in cc)

use Rattle.std.proofs.Common.{IfOk, sym, subst}
use Rattle.std.proofs.lemmas.Result.{IfOk-weaker}
use Rattle.mir_exposure.specs.declared.exposure.Exposure.{Exposure}
use Rattle.mir_exposure.specs.declared.exposure.Exposure.TheVariants.{Nothing, Everything}
use Rattle.pass_trait.specs.Change.{Change, change}
use Rattle.pass_manager.specs.Exposed.{KeepsExposed}
use Rattle.pass_manager.specs.Passes.{KeepsGrowth}
use Rattle.pass_manager.proofs.Sharing.{nothing_grows, on_ok, told_nothing, told_everything}
use Rattle.pass_manager.proofs.exposed.run_exposed.Goals as goal

pub returns-in-Nothing-clause-told : goal.returns-in-Nothing-clause-told
returns-in-Nothing-clause-told c =
    let made : Change = change c.args.f.now c.args.subs.now c.run_passes.new.f c.run_passes.new.subs in
    subst (λ (e : Exposure). IfOk c.run_passes.result (KeepsExposed c.args.reserve.now c.args.passes.now e made)) (sym c.in-Nothing.is)
    (IfOk-weaker c.run_passes.result _ (KeepsExposed c.args.reserve.now c.args.passes.now Nothing made)
    (λ losses kept. told_nothing c.args.reserve.now c.args.passes.now made losses kept) c.run_passes.ensures.told)

pub returns-in-Everything-clause-told : goal.returns-in-Everything-clause-told
returns-in-Everything-clause-told c =
    let made : Change = change c.args.f.now c.args.subs.now c.args.f.now c.args.subs.now in
    subst (λ (e : Exposure). IfOk c.left.result (KeepsExposed c.args.reserve.now c.args.passes.now e made)) (sym c.in-Everything.is)
    (IfOk-weaker c.left.result _ (KeepsExposed c.args.reserve.now c.args.passes.now Everything made)
    (λ losses are. told_everything c.args.reserve.now c.args.passes.now c.args.f.now c.args.subs.now losses are) c.left.ensures)

pub returns-in-Everything-clause-growth : goal.returns-in-Everything-clause-growth
returns-in-Everything-clause-growth c =
    on_ok c.left.result (KeepsGrowth c.args.passes.now (change c.args.f.now c.args.subs.now c.args.f.now c.args.subs.now))
    (nothing_grows c.args.passes.now c.args.f.now c.args.subs.now)

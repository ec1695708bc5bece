use Rattle.std.proofs.Common.{◌&&◌, ◌∙◌, sym, ap}
use Rattle.mir_func.specs.declared.exit.Exit.{Exit}
use Rattle.pass_liveness.specs.Sets.{has}
use Rattle.pass_liveness.proofs.Places.{has_none}
use Rattle.scan_stale.specs.Flow.{goes_on}
use Rattle.scan_stale.proofs.transfer.go_on.Goals as goal

pub returns-in-Always : goal.returns-in-Always
returns-in-Always c = λ x. has_none c.args.names.now.slots c.clear.new.self c.clear.ensures x ∙
    sym (ap (λ (e : Exit). goes_on e && has c.args.names.now.slots c.args.set.now x) c.in-Always.is)

pub returns-in-Final : goal.returns-in-Final
returns-in-Final c = λ x. has_none c.args.names.now.slots c.clear-in-Final.new.self c.clear-in-Final.ensures x ∙
    sym (ap (λ (e : Exit). goes_on e && has c.args.names.now.slots c.args.set.now x) c.in-Final.is)

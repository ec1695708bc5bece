use Rattle.std.proofs.Common.{ℕ, List, Option, Bool, ◌||◌, sym, ap, ◌∙◌}
use Rattle.rv64_instr.specs.DefsAndUses.{caller_saved}
use Rattle.pass_liveness.specs.Sets.{has}
use Rattle.pass_liveness.proofs.Places.{has_united}
use Rattle.scan_choice.specs.Given.{given_by}
use Rattle.scan_stale.specs.Flow.{taken_by}
use Rattle.scan_stale.proofs.Taken.{or_turned}
use Rattle.scan_stale.proofs.places.GivenPlaces.insert_called.Goals as goal

pub returns : goal.returns
returns c x =
    let slots : List ℕ = c.args._names.now.slots in
    has_united slots c.args.set.now c.self.inside.calls c.unite.new.self c.unite.ensures.all x ∙
    ap (λ (z : Bool). has slots c.args.set.now x || z) (c.self.invariant.called slots x c.args._names.now.few ∙
    ap (λ (table : List (Option ℕ)). taken_by (given_by table) caller_saved x) c.self.view_is) ∙
    or_turned (has slots c.args.set.now x) (taken_by (given_by c.args.self.now) caller_saved x)

use Rattle.std.proofs.Common.{ℕ, refl, ap, ◌∙◌}
use Rattle.std.specs.Prelude.{Some, cond}
use Rattle.std.specs.HashMap.{get}
use Rattle.mir_substitution.specs.Index.{is_key}
use Rattle.value_tracker.proofs.Items.{phi_holds}
use Rattle.value_tracker.proofs.location_tracker.LocationTracker.pass_phi.Goals as goal

pub returns-clause-passes : goal.returns-clause-passes
returns-clause-passes c = λ known class holds knows.
    let block = c.args.block.now in
    let old = get is_key c.args.self.now.pairs in
    phi_holds block.variables.now known block.index.now block.settled.now c.args.self.now class holds c.args.place c.args.k
    (record c.args.self.now { pairs = c.insert.new.self }) knows refl refl refl
    (λ q. c.in_ok-insert.ensures.updates.0 q
    ∙ (ap (λ (n : ℕ). cond (is_key (n, 0) q) (Some c.at-class.result) (old q)) c.number.ensures
    ∙ ap (λ (d : ℕ). cond (is_key (c.args.k, 0) q) (Some d) (old q)) c.at-class.ensures))

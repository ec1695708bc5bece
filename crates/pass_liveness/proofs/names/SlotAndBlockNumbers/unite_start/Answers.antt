use Rattle.std.proofs.Common.{◌||◌, ◌∙◌, ap, Bool, Some, None, arith, refl}
use Rattle.pass_liveness.specs.Index.{index_in}
use Rattle.pass_liveness.specs.Sets.{has}
use Rattle.pass_liveness.proofs.Places.{has_united}
use Rattle.pass_liveness.proofs.Walking.{start_there, start_absent, past_sets, unchanged}
use Rattle.pass_liveness.proofs.names.SlotAndBlockNumbers.unite_start.Goals as goal

pub returns-then-index-starts : goal.returns-then-index-starts
returns-then-index-starts c = λ x.
    let slots = c.args.self.now.slots in
    let set = c.index-starts-index.result in
    let there = c.in-Some.ensures ∙ ap (index_in c.args.self.now.blocks) c.number.ensures in
    has_united slots c.args.set.now set c.unite.new.self c.unite.ensures.all x
    ∙ ap (λ (b : Bool). has slots c.args.set.now x || b)
    (start_there slots c.args.self.now.blocks c.args.starts.now c.args.n c.in-Some.index x set there (omega arith) c.index-starts-index.is)

pub returns-else-index-starts : goal.returns-else-index-starts
returns-else-index-starts c = λ x.
    let there = c.in-Some.ensures ∙ ap (index_in c.args.self.now.blocks) c.number.ensures in
    unchanged _ _ (start_absent c.args.self.now.slots c.args.self.now.blocks c.args.starts.now c.args.n x (Some c.in-Some.index) there
    (past_sets c.args.starts.now c.in-Some.index (omega arith)))

pub returns-in_default : goal.returns-in_default
returns-in_default c = λ x.
    let there = c.in_default.ensures ∙ ap (index_in c.args.self.now.blocks) c.number.ensures in
    unchanged _ _ (start_absent c.args.self.now.slots c.args.self.now.blocks c.args.starts.now c.args.n x None there refl)

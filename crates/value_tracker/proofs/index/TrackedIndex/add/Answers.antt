use Rattle.std.proofs.Common.{ℕ, refl, ap, ◌∙◌}
use Rattle.std.specs.Prelude.{Some, cond}
use Rattle.std.specs.HashMap.{get}
use Rattle.mir_substitution.specs.Index.{is_key}
use Rattle.value_solver.specs.declared.tracked.Tracked.{Tracked}
use Rattle.value_tracker.proofs.Indexing.{index_number, index_pair, index_other}
use Rattle.value_tracker.proofs.index.TrackedIndex.add.Goals as goal

pub returns-in_ok-insert-in-Number : goal.returns-in_ok-insert-in-Number
returns-in_ok-insert-in-Number c = λ things at are.
    index_number things c.args.i c.args.self.now (record c.args.self.now { numbers = c.insert.new.self }) c.in-Number.c
    (at ∙ ap (λ (x : Tracked). Some x) c.in-Number.is) c.in_ok-insert-in-Number.ensures.updates.0 (λ q. refl) are

pub returns-in_ok-insert-in-Pair : goal.returns-in_ok-insert-in-Pair
returns-in_ok-insert-in-Pair c = λ things at are.
    index_pair things c.args.i c.args.self.now (record c.args.self.now { pairs = c.insert-in-Pair.new.self }) c.in-Pair.q.number c.in-Pair.q.operand
    (at ∙ ap (λ (x : Tracked). Some x) c.in-Pair.is) (λ q. refl)
    (λ q. c.in_ok-insert-in-Pair.ensures.updates.0 q ∙ ap (λ (k : ℕ × ℕ). cond (is_key k q) (Some c.args.i)
    (get is_key c.args.self.now.pairs q)) c.key.ensures) are

pub returns-in-Register : goal.returns-in-Register
returns-in-Register c = λ things at are.
    index_other things c.args.i c.args.self.now c.args.self.now c.args.thing at (λ n e. let is = c.in-Register.is in cc)
    (λ k o e. let is = c.in-Register.is in cc)
    (λ n. refl) (λ q. refl) are

pub returns-in-Slot : goal.returns-in-Slot
returns-in-Slot c = λ things at are.
    index_other things c.args.i c.args.self.now c.args.self.now c.args.thing at (λ n e. let is = c.in-Slot.is in cc) (λ k o e. let is = c.in-Slot.is in cc)
    (λ n. refl) (λ q. refl) are

pub returns-in-Part : goal.returns-in-Part
returns-in-Part c = λ things at are.
    index_other things c.args.i c.args.self.now c.args.self.now c.args.thing at (λ n e. let is = c.in-Part.is in cc) (λ k o e. let is = c.in-Part.is in cc)
    (λ n. refl) (λ q. refl) are

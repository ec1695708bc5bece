-- What the steps of linear scan do with what a listing shows besides code: they keep the name, give no register x0, salvage nothing, and kill nothing.
use Rattle.std.proofs.Common.{◌≡◌, ℕ, ◌<◌, List, [], Option, Some, Bool, true, false, sym, ap, ◌∙◌, arith}
use Rattle.mir_func.specs.declared.item.Item.{Item}
use Rattle.mir_func.specs.declared.position.Pos.{Pos}
use Rattle.mir_func.specs.Function.{Function}
use Rattle.rv64_instr.specs.declared.place.Place.{Place}
use Rattle.pass_trait.specs.Causes.{scratch_of}
use Rattle.pass_trait.specs.Change.{Change}
use Rattle.pass_trait.specs.Steps.{PassStep}
use Rattle.scan_pass.proofs.scan_allocation.AllocationOrder.{order_real}
use Rattle.scan_pass.proofs.scan_allocation.Walking.{given_gets, gets_clear}
use Rattle.scan_pass.specs.scan_allocation.declared.assignment.RegisterAssignment.{RegisterAssignment}
use Rattle.scan_pass.specs.scan_allocation.Allocation.{stays, assignments_of, given_unless, IsAllocation}
use Rattle.scan_pass.specs.scan_allocation.Walk.{order_without, given_to}
use Rattle.scan_pass.specs.scan_intervals.Liveness.{at_starts}
use Rattle.scan_pass.specs.scan_intervals.Points.{CodePoint, points_of}
use Rattle.scan_allot.specs.Step.{allot_step}
use Rattle.scan_settle.specs.Step.{settle_step}

pub record OnlyRenames (s : PassStep) : Type 0 where
  pub name : (f g : Function) → s.code f g → g.name ≡ f.name
  pub renames : (c : Change) (r now : ℕ) → s.debug.renames c r now → 0 < now
  pub salvages : (c : Change) (at : Pos) (p : Place) → s.debug.salvages c at p → ⊥
  pub kills : (c : Change) (b : ℕ) (ks : List Item) → s.debug.kills c b ks → ks ≡ []

given_then : (z : Bool) (xs : List RegisterAssignment) (r q : ℕ) → given_unless z xs r ≡ Some q → given_to xs r ≡ Some q
given_then true xs r q e = absurd cc
given_then false xs r q e = e

-- a register that is given stands in the allocation order, so it isn't x0
given_above : (reserve : List ℕ) (f : Function) (given : ℕ → Option ℕ) → IsAllocation reserve f given → (r q : ℕ) → given r ≡ Some q → 0 < q
given_above reserve f given a r q e =
    let points : List CodePoint = points_of (at_starts a.live) f.blocks in
    let order = order_without reserve (scratch_of f) in
    let assignments = assignments_of reserve points a.intervals f in
    let by_walk = given_then (stays f assignments) assignments r q (sym (ap (λ (h : ℕ → Option ℕ). h r) a.is) ∙ e) in
    let gets = given_gets points order (λ s. 0) a.intervals r q by_walk in
    let above = (order_real reserve (scratch_of f) q (gets_clear points order (λ s. 0) a.intervals gets.0 q gets.1).1).0 in
    omega (arith, above)

pub allot_only_renames : (reserve : List ℕ) → OnlyRenames (allot_step reserve)
allot_only_renames reserve = record {
  name = λ f g (given, allocation, e). ap (λ (h : Function). h.name) e;
  renames = λ c r now (given, allocation, e). given_above reserve c.old given allocation r now e;
  salvages = λ c at p never. never;
  kills = λ c b ks none. none;
}

pub settle_only_renames : OnlyRenames settle_step
settle_only_renames = record {
  name = λ f g (intervals, are, e). ap (λ (h : Function). h.name) e;
  renames = λ c r now never. absurd never;
  salvages = λ c at p never. never;
  kills = λ c b ks none. none;
}

use Rattle.std.proofs.Common.{◌≡◌, ℕ, List, [], Option, Bool, refl, sym, ap, ◌∙◌}
use Rattle.scan_liveness.specs.scan_allocation.Allocation.{given_unless}
use Rattle.scan_choice.proofs.Entered.{nothing_by}
use Rattle.scan_choice.specs.Given.{given_by}
use Rattle.scan_choice.proofs.given.table_of.Goals as goal

pub returns-then-stays-clause-table : goal.returns-then-stays-clause-table
returns-then-stays-clause-table c r =
    ap (λ (os : List (Option ℕ)). given_by os r) c.new-given.ensures.items ∙ nothing_by [] (λ k. refl) r ∙
    sym (ap (λ (z : Bool). given_unless z c.args.assignments.now r) c.if-stays.true)

pub returns-clause-table : goal.returns-clause-table
returns-clause-table c r =
    c.in_ok-put_all.ensures.table r ∙ sym (ap (λ (z : Bool). given_unless z c.args.assignments.now r) c.if-stays.false)

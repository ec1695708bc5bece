-- A function has one allocation.
use Rattle.std.proofs.Common.{◌≡◌, ℕ, List, Option, None, Bool, false, sym, ap, ◌∙◌, subst}
use Rattle.rv64_instr.specs.declared.place.Place.TheVariants.{Register}
use Rattle.mir_func.specs.Function.{Function}
use Rattle.mir_func.specs.Graph.{program_of, block_start}
use Rattle.scan_allocation.specs.sem_mir.Live.{Live}
use Rattle.scan_allocation.specs.spill_rule.Laws.{agreeing}
use Rattle.scan_allocation.specs.scan_intervals.declared.interval.LiveInterval.{LiveInterval}
use Rattle.scan_allocation.specs.scan_intervals.Liveness.{Decides, at_starts}
use Rattle.scan_allocation.specs.scan_intervals.Points.{points_of}
use Rattle.scan_allocation.specs.scan_intervals.Intervals.{AreIntervals}
use Rattle.scan_allocation.specs.Allocation.{stays, assignments_of, given_unless, IsAllocation}
use Rattle.scan_rule.specs.Laws.{AllotmentIsOne}
use Rattle.scan_rule.specs.Rewrite.{allotted}
use Rattle.scan_rule.specs.Rule.{nowhere}
use Rattle.scan_rule.proofs.Intervals.{one_list}

-- one test is right
pub one_test : (f : Function) (live live' : ℕ → ℕ → Bool) → Decides f live → Decides f live' → live ≡ live'
one_test f live live' d d' t = λ n r.
    agreeing (Live (program_of false f.blocks (λ q. None)) (Register r) (block_start n)) (live n r) (live' n r) (d n r) (d' n r) t

-- the allocation by a test and intervals
abbrev pub given_by : (reserve : List ℕ) → Function → (live : ℕ → ℕ → Bool) → List LiveInterval → ℕ → Option ℕ
given_by reserve f live intervals =
    given_unless (stays f (assignments_of reserve (points_of (at_starts live) f.blocks) intervals f))
    (assignments_of reserve (points_of (at_starts live) f.blocks) intervals f)

pub one_allocation : (reserve : List ℕ) (f : Function) (given given' : ℕ → Option ℕ) → IsAllocation reserve f given → IsAllocation reserve f given' →
    given ≡ given'
one_allocation reserve f given given' a b =
    let lives : a.live ≡ b.live = one_test f a.live b.live a.decides b.decides in
    let are : AreIntervals (points_of (at_starts b.live) f.blocks) a.intervals =
    subst (λ (live : ℕ → ℕ → Bool). AreIntervals (points_of (at_starts live) f.blocks) a.intervals) lives a.are in
    let lists : a.intervals ≡ b.intervals = one_list (points_of (at_starts b.live) f.blocks) a.intervals b.intervals are b.are in
    a.is ∙ (λ t. given_by reserve f (lives t) (lists t)) ∙ sym b.is

pub allotment_is_one : AllotmentIsOne
allotment_is_one reserve f g h (given, a, e) (given', b, e') =
    e ∙ ap (λ (x : ℕ → Option ℕ). allotted x nowhere f) (one_allocation reserve f given given' a b) ∙ sym e'

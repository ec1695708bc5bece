-- A function's virtual registers have one list of intervals.
use Rattle.std.proofs.Common.{◌≡◌, ℕ, List, Bool, sym, ap, ◌∙◌, subst}
use Rattle.mir_func.specs.Function.{Function}
use Rattle.scan_rule.specs.scan_intervals.declared.interval.LiveInterval.{LiveInterval}
use Rattle.scan_rule.specs.scan_intervals.Liveness.{at_starts}
use Rattle.scan_rule.specs.scan_intervals.Points.{points_of}
use Rattle.scan_rule.specs.scan_intervals.Intervals.{AreIntervals}
use Rattle.scan_rule.proofs.Intervals.{one_list}
use Rattle.scan_rule.proofs.Same.{one_test}
use Rattle.scan_slots.specs.Choice.{settled}
use Rattle.scan_slots.specs.Laws.{SettlingIsOne}
use Rattle.scan_slots.specs.Rule.{AreLeft}

pub one_left : (f : Function) (xs ys : List LiveInterval) → AreLeft f xs → AreLeft f ys → xs ≡ ys
one_left f xs ys a b =
    let lives : a.live ≡ b.live = one_test f a.live b.live a.decides b.decides in
    one_list (points_of (at_starts b.live) f.blocks) xs ys
    (subst (λ (live : ℕ → ℕ → Bool). AreIntervals (points_of (at_starts live) f.blocks) xs) lives a.are) b.are

pub settling_is_one : SettlingIsOne
settling_is_one f g h (xs, a, e) (ys, b, e') = e ∙ ap (λ (zs : List LiveInterval). settled zs f) (one_left f xs ys a b) ∙ sym e'

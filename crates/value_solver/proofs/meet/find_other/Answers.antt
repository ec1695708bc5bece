use Rattle.std.proofs.Common.{ℕ, List, sym, ap}
use Rattle.std.specs.Map.{lookup}
use Rattle.std.proofs.lemmas.List.{nil_from_length}
use Rattle.value_solver.specs.PairNumbers.{is_pair}
use Rattle.value_solver.proofs.meet.find_other.Goals as goal

pub returns-then-is_empty : goal.returns-then-is_empty
returns-then-is_empty c =
    sym (ap (λ (es : List ((ℕ × ℕ) × ℕ)). lookup (is_pair (c.args.a, c.args.b)) es)
    (nil_from_length c.args.others.now.entries (c.is_empty.ensures.0 c.if-is_empty.true)))

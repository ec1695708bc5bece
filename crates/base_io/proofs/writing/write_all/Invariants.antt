use Rattle.std.proofs.Common.{◌≡◌, ◌++◌, ℕ, List, length}
use Rattle.base_io.specs.Told.{Appends}
use Rattle.base_io.proofs.writing.write_all.Given as goal

abbrev pub invariant-loop-rest : goal.invariant-loop-rest
invariant-loop-rest g l =
    (g.K.Sink.faults l.output ≡ g.K.Sink.faults l.initial.output) × ((done : List ℕ) × (l.bytes ≡ done ++ l.rest) ×
    Appends (g.K.Sink.written l.initial.output) (g.K.Sink.written l.output) done)

abbrev pub decreases-loop-rest : goal.decreases-loop-rest
decreases-loop-rest g l = length l.rest

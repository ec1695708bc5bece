-- A run takes a path.
use Rattle.std.proofs.Common.{ℕ}
use Rattle.sem_mir.specs.State.{State}
use Rattle.mir_func.specs.Graph.{Program}
use Rattle.sem_mir.specs.ValueId.{Tokens, Path}
use Rattle.sem_mir.specs.ValueId as token
use Rattle.sem_mir.proofs.Edges.{step_edge}
use Rattle.sem_value_ids.specs.Trace.{Trace, begin, onward, RunsTakePaths}

path_of : {g : Program} {start : State} {n : ℕ} {s : State} {t : Tokens} → Trace g start n s t → Path g start.pos n s.pos t
path_of begin = token.begin
path_of {g = g} (onward {n} {s} {u} {t} trace went) = token.onward (path_of trace) (step_edge g s u went)

pub runs_take_paths : RunsTakePaths
runs_take_paths g start n s t trace = path_of trace

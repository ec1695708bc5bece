use Rattle.std.proofs.Common.{◌≡◌, ◌++◌, take}
use Rattle.std.specs.List.{flat_map}
use Rattle.sem_machine.specs.Machine.{Machine}
use Rattle.sim_machine.specs.Kept.{StandsFor}
use Rattle.sim_trace.specs.Lines.{piece_text}
use Rattle.sim_trace.proofs.value.push_pieces.Given as goal

abbrev pub invariant-loop-part : goal.invariant-loop-part
invariant-loop-part l = (s : Machine) → StandsFor l.hart s → l.text ≡ l.initial.text ++ flat_map (piece_text l.name s) (take l.part-index l.parts)

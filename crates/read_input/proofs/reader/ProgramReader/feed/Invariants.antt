use Rattle.std.proofs.Common.{◌+◌, ◌≤◌, length}
use Rattle.read_input.proofs.Reading.{IsPassed}
use Rattle.read_input.proofs.reader.ProgramReader.feed.Given as goal

abbrev pub invariant-loop-rest : goal.invariant-loop-rest
invariant-loop-rest l = record {
  counted : l.self.program.lines + length l.rest ≤ l.initial.self.program.lines + length l.bytes;
  reading : IsPassed l.initial.self l.self l.bytes l.rest;
}

abbrev pub decreases-loop-rest : goal.decreases-loop-rest
decreases-loop-rest l = length l.rest

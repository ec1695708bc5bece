use Rattle.std.proofs.Common.{◌≡◌, take}
use Rattle.read_metadata.specs.Metadata.{metadata_of}
use Rattle.read_metadata.proofs.metadata.read_meta.Given as goal

abbrev pub invariant-loop-line : goal.invariant-loop-line
invariant-loop-line l = l.metadata ≡ metadata_of (take l.line-index l.lines)

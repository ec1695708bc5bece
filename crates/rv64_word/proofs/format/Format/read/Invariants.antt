use Rattle.std.proofs.Common.{◌≡◌, ◌+◌, ◌*◌, ◌^◌, ◌≤◌, drop}
use Rattle.rv64_word.specs.Format.{shown, width_of}
use Rattle.rv64_word.proofs.format.Format.read.Given as goal

abbrev pub invariant-loop-slice : goal.invariant-loop-slice
invariant-loop-slice l =
    (l.position ≡ width_of (drop l.slice-index l.slice-items)) ×
    (l.value + shown (drop l.slice-index l.slice-items) l.field l.word ≡ shown l.slice-items l.field l.word) × (l.value ≤ l.slice-index * 2 ^ 21)

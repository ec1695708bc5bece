use Rattle.std.proofs.Common.{◌≡◌, take}
use Rattle.rv64_instr.specs.Arithmetic as arithmetic
use Rattle.rv64_word.specs.Format.{spelled}
use Rattle.rv64_word.specs.Linked.{refilled}
use Rattle.rv64_word.proofs.linked.with_immediate.Given as goal

abbrev pub invariant-loop-slice : goal.invariant-loop-slice
invariant-loop-slice l = l.made ≡ spelled (take l.slice-index l.slice-items) (refilled l.format (arithmetic.word l.immediate) l.word)

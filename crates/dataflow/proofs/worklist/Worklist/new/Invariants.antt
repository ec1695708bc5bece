use Rattle.std.proofs.Common.{◌≡◌}
use Rattle.std.specs.VecDeque.{deque_len}
use Rattle.dataflow.proofs.worklist.Worklist.new.Given as goal

abbrev pub invariant-loop-block : goal.invariant-loop-block
invariant-loop-block l = deque_len l.queue ≡ l.block-index

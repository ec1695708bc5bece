use Rattle.std.proofs.Common.{◌+◌, ◌≤◌}
use Rattle.std.specs.VecDeque.{deque_len}
use Rattle.dataflow.proofs.worklist.Worklist.add_all.Given as goal

abbrev pub invariant-loop-block : goal.invariant-loop-block
invariant-loop-block l = deque_len l.self.queue ≤ deque_len l.initial.self.queue + l.block-index

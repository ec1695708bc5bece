use Rattle.compile_function.specs.Emitted.{AreWritable}
use Rattle.kept_lists.proofs.Appended.{AreBefore}
use Rattle.kept_lists.proofs.lists.all_kept_lists.Given as goal

abbrev pub invariant-loop-k : goal.invariant-loop-k
invariant-loop-k l = record { before : AreBefore l.functions l.listed l.k l.lists; writable : AreWritable l.lists }

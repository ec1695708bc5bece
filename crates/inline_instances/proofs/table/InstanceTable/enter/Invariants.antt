use Rattle.std.proofs.Common.{ℕ, List, Option, vec_len}
use Rattle.inline_instances.specs.declared.instance.Instance.{Instance}
use Rattle.inline_instances.specs.steps.Table.{IsEntering}
use Rattle.inline_instances.proofs.table.InstanceTable.enter.Given as goal

abbrev pub invariant-loop-call : goal.invariant-loop-call
invariant-loop-call l = (from : Option ℕ) (calls : List ℕ) (old : List Instance) →
    IsEntering l.meta from l.scope calls old l.initial.way.items l.initial.outer l.fn.self → IsEntering l.meta from l.scope calls old l.way.items l.outer l.self

abbrev pub decreases-loop-call : goal.decreases-loop-call
decreases-loop-call l = vec_len l.way

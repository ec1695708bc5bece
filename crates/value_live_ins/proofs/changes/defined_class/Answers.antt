use Rattle.std.proofs.Common.{ℕ, List, sym, ap}
use Rattle.std.specs.Map.{lookup}
use Rattle.std.proofs.lemmas.List.{nil_from_length}
use Rattle.mir_substitution.specs.Index.{is_key}
use Rattle.value_live_ins.proofs.changes.defined_class.Goals as goal

pub returns-then-is_empty : goal.returns-then-is_empty
returns-then-is_empty c =
    let pairs = c.args.held.now.pairs in
    sym (ap (λ (es : List ((ℕ × ℕ) × ℕ)). lookup (is_key (c.args.q.number, c.args.q.operand)) es)
    (nil_from_length pairs.entries (c.is_empty.ensures.0 c.if-is_empty.true)))

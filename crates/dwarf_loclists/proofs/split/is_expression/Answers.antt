use Rattle.dwarf_loclists.proofs.SplitLemmas.{location_of_pieces, not_empty, on_true}
use Rattle.dwarf_loclists.proofs.split.is_expression.Goals as goal

pub returns-then-not-is_empty-clause-yes : goal.returns-then-not-is_empty-clause-yes
returns-then-not-is_empty-clause-yes c =
    on_true c.are_pieces.result _
    (λ t. location_of_pieces c.args.bytes.now (c.are_pieces.ensures.0 t) (not_empty c.args.bytes.now _ c.is_empty.ensures c.if-not-is_empty.true))

use Rattle.std.proofs.Common.{sym, ◌∙◌}
use Rattle.dwarf_loclists.proofs.SplitLemmas.{register_front}
use Rattle.dwarf_loclists.proofs.split.split_place.Goals as goal

pub returns-in_err-register-clause-none : goal.returns-in_err-register-clause-none
returns-in_err-register-clause-none c = rw c.from_residual-in_err-register.ensures
    (λ p rest ok wide e.
    let (r, low, high, other, is) =
    register_front c.in_ok-operation.operation.now _ p rest ok (sym c.in_ok-operation.ensures.cases.0 ∙ e) c.if-operation-eq-DW_OP_consts.false
    c.if-operation-eq-DW_OP_breg2.false in
    c.in_err-register.ensures.none r low high other is)

use Rattle.std.proofs.Common.{arith, ap, length, sym, ◌∙◌}
use Rattle.dwarf_loclists.proofs.OneLocation.{heads_one}
use Rattle.dwarf_loclists.proofs.SplitLemmas.{constant_front}
use Rattle.dwarf_loclists.proofs.split.split_constant.Goals as goal

pub returns-in_err-operation-clause-none : goal.returns-in_err-operation-clause-none
returns-in_err-operation-clause-none c = rw c.from_residual-in_err-operation.ensures
    (λ p rest ok wide e.
    let after = constant_front c.in_ok-value.value c.args.bytes.now c.in_ok-value.rest.now p rest c.in_ok-value.ensures.some ok e in
    omega (arith, ap length after, c.in_err-operation.ensures.cases))

pub returns-else-operation-clause-none : goal.returns-else-operation-clause-none
returns-else-operation-clause-none c = λ p rest ok wide e.
    let after = constant_front c.in_ok-value.value c.args.bytes.now c.in_ok-value.rest.now p rest c.in_ok-value.ensures.some ok e in
    c.if-operation.false (heads_one c.in_ok-operation.operation.now 159 _ _ (sym c.in_ok-operation.ensures.cases.0 ∙ after))

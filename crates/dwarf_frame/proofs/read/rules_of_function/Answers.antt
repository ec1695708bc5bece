use Rattle.std.proofs.Common.{arith}
use Rattle.std.proofs.lemmas.Result.{err_from_is_err_and}
use Rattle.dwarf_frame.specs.FirstFault.{InRows}
use Rattle.dwarf_frame.proofs.ReadLoops.{function_found, function_none}
use Rattle.dwarf_frame.proofs.read.rules_of_function.Goals as goal
use Rattle.dwarf_frame.proofs.read.rules_of_function.Goals.{else-range-address-via-then-range-address+else-address-range, else-range-address-via-else-range-address}

pub returns-in_err-rules : goal.returns-in_err-rules
returns-in_err-rules c =
    let p = err_from_is_err_and c.from_residual-in_err-rules.result c.from_residual-in_err-rules.ensures.1 in
    rw (p.1, p.2) (InRows _ _ _ c.in_ok-range.ensures.gives c.in_err-rules.ensures)

pub returns-then-address-range : goal.returns-then-address-range
returns-then-address-range c =
    function_found _ _ _ _ _ c.in_ok-range.ensures.gives c.in_ok-rules.ensures c.if-range-address.true c.if-address-range.true

pub returns-else-range-address : goal.returns-else-range-address
returns-else-range-address c =
    elim c.else-range-address.branch [
      | else-range-address-via-then-range-address+else-address-range w ↦
          function_none _ _ _ _ _ c.in_ok-range.ensures.gives c.in_ok-rules.ensures (λ begins. w.if-address-range.false)
      | else-range-address-via-else-range-address w ↦
          function_none _ _ _ _ _ c.in_ok-range.ensures.gives c.in_ok-rules.ensures (λ begins. absurd (omega (arith, begins, w.if-range-address.false)))
    ]

use Rattle.std.proofs.Common.{arith, sym, eqb-true}
use Rattle.dwarf_line.proofs.ReadLoops.{some_left}
use Rattle.dwarf_frame.proofs.Sections.{common_bytes}
use Rattle.dwarf_frame.proofs.ReadLoops.{functions_begin, functions_more, functions_end, entry_smaller, length_fault, function_fault}
use Rattle.dwarf_frame.proofs.read.rules_of_section.Goals as goal

pub loop-rest-init : goal.loop-rest-init
loop-rest-init c = functions_begin _ _ _ _ c.in-Ok.ensures (common_bytes _ _ _ (λ i. omega (arith, c.type_inv.bytes i)) c.in-Ok.ensures)

pub returns-in-Err-entry : goal.returns-in-Err-entry
returns-in-Err-entry c =
    length_fault _ _ _ _ _ _ _ c.loop-rest.invariant (some_left _ _ c.is_empty.ensures c.loop-rest-test.true) c.in-Err-entry.ensures
    c.fault-in-Err-entry.ensures

pub returns-in-Err-rules_of_function : goal.returns-in-Err-rules_of_function
returns-in-Err-rules_of_function c =
    function_fault _ _ _ _ _ _ _ _ _ c.loop-rest.invariant c.in-Ok-entry.ensures c.in-Err-rules_of_function.ensures
    c.fault-in-Err-rules_of_function.ensures

pub loop-rest-smaller : goal.loop-rest-smaller
loop-rest-smaller c = entry_smaller _ _ _ c.loop-rest.invariant.are c.in-Ok-entry.ensures

pub loop-rest-preserved : goal.loop-rest-preserved
loop-rest-preserved c =
    functions_more _ _ _ _ _ _ _ _ _ c.loop-rest.invariant c.in-Ok-entry.ensures c.in-Ok-rules_of_function.ensures c.or-first.ensures

pub returns : goal.returns
returns c = functions_end _ _ _ _ _ c.loop-rest.invariant (eqb-true _ _ (sym c.loop-rest-test.ensures))

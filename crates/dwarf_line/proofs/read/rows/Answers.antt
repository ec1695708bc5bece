use Rattle.std.proofs.Common.{◌≡◌, ℕ, List, Result, Err, arith, sym, ◌∙◌}
use Rattle.dwarf_line.specs.declared.table.Sequence.{Sequence}
use Rattle.dwarf_line.specs.declared.fault.LineError.{LineError}
use Rattle.dwarf_line.specs.declared.fault.LineError.TheVariants.{LineFault}
use Rattle.dwarf_line.proofs.Sections.{section_found, read_only, fault_only, first_fault}
use Rattle.dwarf_line.proofs.read.rows.Goals as goal

abbrev faulty : ℕ → Result (List Sequence) LineError
faulty at = Err (LineFault at)

at_is : (a b : ℕ) → faulty a ≡ faulty b → a ≡ b
at_is a b e = cc

pub returns-in-Ok-clause-found : goal.returns-in-Ok-clause-found
returns-in-Ok-clause-found c = section_found c.args.bytes.now _ _ (λ i. omega (arith, c.type_inv.bytes i)) c.in-Ok.ensures.header c.in-Ok.ensures.reads

pub returns-in-Ok-clause-only : goal.returns-in-Ok-clause-only
returns-in-Ok-clause-only c = λ t is. read_only _ _ t c.in-Ok.ensures is

pub returns-in-Err-Left-clause-only : goal.returns-in-Err-Left-clause-only
returns-in-Err-Left-clause-only c = λ t is. fault_only c.args.bytes.now c.in-Err-Left.left c.in-Err-Left.field-0 t _ c.in-Err-Left.field-0-is
    c.in-Err-Left.ensures is

pub returns-in-Err-Left-clause-fault : goal.returns-in-Err-Left-clause-fault
returns-in-Err-Left-clause-fault c =
    λ at e. first_fault c.args.bytes.now c.in-Err-Left.left c.in-Err-Left.field-0 at c.in-Err-Left.field-0-is c.in-Err-Left.ensures
    (at_is at c.saturating_sub.result (sym e) ∙ c.saturating_sub.ensures)

use Rattle.std.proofs.Common.{◌≡◌, Some, None, ap, subst, ◌∙◌, arith, rules}
use Rattle.dwarf_frame.specs.steps.Read.{SectionRead}
use Rattle.dwarf_frame.proofs.Sections.{found, some, read_found, read_only, not_faulty}
use Rattle.dwarf_frame.proofs.read.row_at.Goals as goal

pub returns-in-Ok-Some-clause-found : goal.returns-in-Ok-Some-clause-found
returns-in-Ok-Some-clause-found c =
    let is : c.in-Ok-Some.field-0 ≡ Some c.in-Ok-Some.row = search (rules, c.in-Ok-Some.field-0-is) in
    let read = read_found c.args.undefined.now c.args.bytes.now c.args.address (Some c.in-Ok-Some.row) c.requires (λ i. omega (arith, c.type_inv.bytes i))
    (subst (SectionRead c.args.undefined.now c.args.bytes.now c.args.address) is c.in-Ok-Some.ensures) in
    (read.0, read.1, ap some c.unwinding.ensures ∙ read.2)

pub returns-in-Ok-Some-clause-only : goal.returns-in-Ok-Some-clause-only
returns-in-Ok-Some-clause-only c = λ functions in_section.
    let is : c.in-Ok-Some.field-0 ≡ Some c.in-Ok-Some.row = search (rules, c.in-Ok-Some.field-0-is) in
    ap found
    (ap some c.unwinding.ensures
    ∙ read_only c.args.undefined.now c.args.bytes.now c.args.address (Some c.in-Ok-Some.row) functions
    (subst (SectionRead c.args.undefined.now c.args.bytes.now c.args.address) is c.in-Ok-Some.ensures) in_section)

pub returns-in-Ok-None-clause-found : goal.returns-in-Ok-None-clause-found
returns-in-Ok-None-clause-found c =
    let is : c.in-Ok-None.field-0 ≡ None = search (rules, c.in-Ok-None.field-0-is) in
    read_found c.args.undefined.now c.args.bytes.now c.args.address None c.requires (λ i. omega (arith, c.type_inv.bytes i))
    (subst (SectionRead c.args.undefined.now c.args.bytes.now c.args.address) is c.in-Ok-None.ensures)

pub returns-in-Ok-None-clause-only : goal.returns-in-Ok-None-clause-only
returns-in-Ok-None-clause-only c = λ functions in_section.
    let is : c.in-Ok-None.field-0 ≡ None = search (rules, c.in-Ok-None.field-0-is) in
    ap found
    (read_only c.args.undefined.now c.args.bytes.now c.args.address None functions
    (subst (SectionRead c.args.undefined.now c.args.bytes.now c.args.address) is c.in-Ok-None.ensures) in_section)

pub returns-in-Err-clause-only : goal.returns-in-Err-clause-only
returns-in-Err-clause-only c = λ functions is. absurd
    (not_faulty c.args.undefined.now c.args.bytes.now c.in-Err.fault.at functions c.in-Err.ensures is)

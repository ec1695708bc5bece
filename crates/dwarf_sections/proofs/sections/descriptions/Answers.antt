use Rattle.std.proofs.Common.{List, sym, subst}
use Rattle.dwarf_frame.specs.declared.table.FrameDescription.{FrameDescription}
use Rattle.dwarf_unit.specs.dwarf_line_table.declared.source_and_code.SourceAndCode.{SourceAndCode}
use Rattle.dwarf_sections.specs.Frame.{IsOfFunction}
use Rattle.dwarf_sections.proofs.Described.{SoFar, begin, more}
use Rattle.dwarf_sections.proofs.sections.descriptions.Goals as goal

pub loop-function-init : goal.loop-function-init
loop-function-init c =
    subst (λ (table : List FrameDescription). SoFar c.args.functions.now 0 table) (sym c.new-table.ensures) (begin c.args.functions.now)

pub loop-function-preserved : goal.loop-function-preserved
loop-function-preserved c =
    let functions = c.args.functions.now in
    let i = c.loop-function.function-index in
    let function = c.function-item.result in
    let is = subst (λ (x : SourceAndCode). IsOfFunction x.code.now) (sym c.function-item.is) (c.requires i function c.loop-function-test.true) in
    let made = c.in_ok-description.ensures in
    more functions i c.loop-function.table c.push.new.self function c.in_ok-description.field-0 c.loop-function-test.true c.function-item.is
    c.loop-function.invariant made.describes (made.writable is.0 is.1) c.in_ok-push.ensures.ok

use Rattle.std.proofs.Common.{◌+◌, ◌*◌, List, length, sym, subst}
use Rattle.std.proofs.lemmas.List.{take_all}
use Rattle.frame_table.specs.emit_code.Laid.{LaidCode, StandFrom}
use Rattle.dwarf_unit.specs.dwarf_line_table.declared.source_and_code.SourceAndCode.{SourceAndCode}
use Rattle.dwarf_unit.specs.inline_subroutines.declared.subroutine.InlinedSubroutine.{InlinedSubroutine}
use Rattle.dwarf_unit.proofs.inline_subroutines.Scopes.{none_known}
use Rattle.dwarf_sections.specs.Inlined.{HaveInstances}
use Rattle.dwarf_sections.proofs.Instances.{InstancesSoFar, instances_begin, instances_more}
use Rattle.dwarf_sections.proofs.inlined.all_instances.Goals as goal

pub loop-function-init : goal.loop-function-init
loop-function-init c = record {
  have =
      let P : List (List InlinedSubroutine) → Type 0 = InstancesSoFar c.args.meta.now c.args.functions.now 0 in
      subst P (sym c.new-all.ensures) (instances_begin c.args.meta.now c.args.functions.now);
  known = none_known c.args.meta.now c.new-subprograms.result.known c.new-subprograms.ensures;
}

pub loop-function-preserved : goal.loop-function-preserved
loop-function-preserved c = record {
  have =
      instances_more c.args.meta.now c.args.functions.now c.loop-function.function-index c.loop-function.all c.push.new.self c.function-item.result
      c.in_ok-subroutines.field-0 c.loop-function-test.true c.function-item.is c.loop-function.invariant.have c.in_ok-subroutines.ensures.subroutines
      (subst (λ (code : LaidCode). StandFrom code.base code.entries (code.base + 4 * length code.words)) c.code.view_is c.code.invariant.stand)
      c.in_ok-push.ensures.ok;
  known = c.in_ok-subroutines.ensures.scopes;
}

pub returns : goal.returns
returns c = record {
  have =
      subst (λ (fs : List SourceAndCode). HaveInstances c.args.meta.now fs c.loop-function.all)
      (take_all c.loop-function.function-index c.args.functions.now c.loop-function-test.false) c.loop-function.invariant.have.have;
  ascend = c.loop-function.invariant.have.ascend;
}

use Rattle.std.proofs.Common.{◌≡◌, Option, Some, None, sym, ap, subst, ◌∙◌}
use Rattle.rv64_instr.specs.Instruction.{Instruction}
use Rattle.rv64_instr.specs.LocationEffects.{is_call}
use Rattle.rv64_instr.specs.Row.{row_of}
use Rattle.emit_code.specs.Laid.{LaidCode, IsCode}
use Rattle.sem_machine.specs.MachineStep.{call_of}
use Rattle.sim_machine.specs.steps.Sites.{instruction_in}
use Rattle.sim_machine.proofs.Sites.{call_site, physical_at, word_place}
use Rattle.sim_machine.proofs.site.call_at.Goals as goal

pub unreachable-requires : goal.unreachable-requires
unreachable-requires c =
    let site = call_site c.args.code.now.framed c.args.entry.now c.requires.call in
    let f = ap (λ (x : LaidCode). instruction_in x.framed c.args.entry.now.point) c.code.view_is in
    let none : instruction_in c.code.inside.framed c.args.entry.now.point ≡ None = c.in-None.ensures in
    let no : ◌≡◌ {A = Option Instruction} None (Some site.code) = sym none ∙ (f ∙ site.at) in cc

pub returns-clause-calls : goal.returns-clause-calls
returns-clause-calls c =
    let site = call_site c.args.code.now.framed c.args.entry.now c.requires.call in
    let f = ap (λ (x : LaidCode). instruction_in x.framed c.args.entry.now.point) c.code.view_is in
    let some : Some c.in-Some.i.now ≡ Some site.code = sym c.in-Some.ensures ∙ (f ∙ site.at) in
    let same : c.in-Some.i.now ≡ site.code = cc in
    ap (λ (i : Instruction). is_call (row_of i)) same ∙ site.calls

pub returns-clause-same : goal.returns-clause-same
returns-clause-same c =
    let site = call_site c.args.code.now.framed c.args.entry.now c.requires.call in
    let f = ap (λ (x : LaidCode). instruction_in x.framed c.args.entry.now.point) c.code.view_is in
    let some : Some c.in-Some.i.now ≡ Some site.code = sym c.in-Some.ensures ∙ (f ∙ site.at) in
    let same : c.in-Some.i.now ≡ site.code = cc in
    site.same ∙ ap (λ (i : Instruction). call_of (row_of i)) (sym same)

pub returns-clause-physical : goal.returns-clause-physical
returns-clause-physical c =
    physical_at c.code.inside.framed c.args.entry.now.point c.in-Some.i.now c.know_physical.ensures c.in-Some.ensures

pub returns-clause-low : goal.returns-clause-low
returns-clause-low c =
    (word_place c.args.code.now c.args.entry.now c.args.entry.now.address (subst IsCode c.code.view_is c.code.invariant) c.requires.stands).low

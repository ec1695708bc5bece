use Rattle.std.proofs.Common.{List, Option, Some, None, IfSome, IfNone, refl, sym, ◌∙◌, subst}
use Rattle.std.proofs.lemmas.Result.{IfOk-weaker}
use Rattle.dwarf_loclists.specs.declared.range.Range.{Range}
use Rattle.emit_code.specs.Laid.{LaidCode}
use Rattle.mir_func.specs.Resolve.{resolve}
use Rattle.sem_interpreter.specs.Steps.{source_of}
use Rattle.sim_machine.specs.Shown.{ShowsCode}
use Rattle.selftest_count.specs.declared.counts.Counts.{Counts}
use Rattle.selftest_count.specs.Apart.{GoesApart}
use Rattle.selftest_count.specs.Counts.{no_counts}
use Rattle.selftest_count.specs.Runs.{AreCountsOf, GoApart}
use Rattle.selftest_count.specs.steps.Beside.{CountsFrom, ApartFrom}
use Rattle.selftest_count.proofs.Starts.{both_start}
use Rattle.selftest_count.proofs.run.count_run.Goals as goal

if_some : (P Q : Counts → Type 0) → ((n : Counts) → P n → Q n) → (o : Option Counts) → IfSome o P → IfSome o Q
if_some P Q more (Some n) h = more n h
if_some P Q more None h = tt

if_none : (P Q : Type 0) → (P → Q) → (o : Option Counts) → IfNone o P → IfNone o Q
if_none P Q more (Some n) h = tt
if_none P Q more None h = more h

pub returns-clause-counts : goal.returns-clause-counts
returns-clause-counts c =
    let src = source_of c.args.source.now.blocks c.args.subs.now in
    let code = c.args.code.now in let there = c.in_ok-machine.machine in
    let From = λ (ls : List (List Range)). CountsFrom src there.code ls c.args.parts.now c.args.limit there.hart c.in_ok-state.state in
    let Of = AreCountsOf c.args.source.now (resolve c.args.subs.now) code c.args.lists.now c.args.parts.now c.args.limit in
    IfOk-weaker c.count_steps.result (λ o. IfSome o (From c.as_slice.result.now)) (λ o. IfSome o Of)
    (λ o h. if_some (From c.as_slice.result.now) Of
    (λ n counts image m s shows begins begins_source. subst (λ (ls : List (List Range)). From ls n) c.as_slice.ensures counts image m s
    (subst (λ (k : LaidCode). ShowsCode k image) (sym c.in_ok-machine.ensures.code) shows)
    (both_start c.start_with-start.result c.start_with-start.ensures.regs c.start_with-start.ensures.memory
    (c.start_with-start.ensures.symbols ∙ c.new.ensures) c.args.source.now src code c.args.lists.now
    c.args.parts.now no_counts there.hart c.in_ok-state.state refl c.in_ok-machine.ensures.stands c.in_ok-state.ensures.stands image m s begins
    begins_source)) o h)
    c.count_steps.ensures.counts

pub returns-clause-apart : goal.returns-clause-apart
returns-clause-apart c =
    let src = source_of c.args.source.now.blocks c.args.subs.now in
    let code = c.args.code.now in let there = c.in_ok-machine.machine in
    let From = λ (ls : List (List Range)). ApartFrom src there.code ls c.args.parts.now c.args.limit there.hart c.in_ok-state.state in
    let Of = GoApart c.args.source.now (resolve c.args.subs.now) code c.args.lists.now c.args.parts.now c.args.limit in
    IfOk-weaker c.count_steps.result (λ o. IfNone o (From c.as_slice.result.now)) (λ o. IfNone o Of)
    (λ o h. if_none (From c.as_slice.result.now) Of
    (λ apart image m s shows begins begins_source.
    subst (λ (k : LaidCode). GoesApart src image k c.args.lists.now c.args.parts.now c.args.limit m s) c.in_ok-machine.ensures.code
    (subst From c.as_slice.ensures apart image m s (subst (λ (k : LaidCode). ShowsCode k image) (sym c.in_ok-machine.ensures.code) shows)
    (both_start c.start_with-start.result c.start_with-start.ensures.regs c.start_with-start.ensures.memory
    (c.start_with-start.ensures.symbols ∙ c.new.ensures) c.args.source.now src code c.args.lists.now
    c.args.parts.now no_counts there.hart c.in_ok-state.state refl c.in_ok-machine.ensures.stands c.in_ok-state.ensures.stands image m s begins
    begins_source))) o h)
    c.count_steps.ensures.apart

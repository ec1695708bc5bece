use Rattle.std.proofs.Common.{◌≡◌, List, [], sym, subst}
use Rattle.std.proofs.lemmas.List.{drop_all}
use Rattle.compile_function.specs.declared.emit.EmittedFunctions.{EmittedFunctions}
use Rattle.compile_function.specs.read_program.declared.closing.Parsed.{Parsed}
use Rattle.compile_function.proofs.dwarf_line_table.Split.{split_at}
use Rattle.compile_program.proofs.Behind.{SoFar, begins, more, all_emitted}
use Rattle.compile_program.proofs.function.made_in_turn.Goals as goal

pub loop-source-init : goal.loop-source-init
loop-source-init c =
    let begun : EmittedFunctions = record { text = []; list_count = 0; listings = []; functions = [] } in
    let made : EmittedFunctions = record { text = c.new.result; list_count = 0; listings = c.new-2.result; functions = c.new-3.result } in
    let text = sym c.new.ensures in
    let listings = sym c.new-2.ensures in
    let functions = sym c.new-3.ensures in
    let is : begun ≡ made = λ i. record { text = text i; list_count = 0; listings = listings i; functions = functions i } in
    subst (SoFar c.args.meta.now c.args.reserve.now c.args.passes.now c.args.functions.now c.args.functions.now) is
    (begins c.args.meta.now c.args.reserve.now c.args.passes.now c.args.functions.now)

pub loop-source-preserved : goal.loop-source-preserved
loop-source-preserved c =
    let P : List Parsed → Type 0 = λ rest. SoFar c.args.meta.now c.args.reserve.now c.args.passes.now c.args.functions.now rest c.loop-source.made in
    let split = split_at c.args.functions.now c.loop-source.source-index c.source-item.result c.loop-source-test.true c.source-item.is in
    let so = subst P split c.loop-source.invariant in
    let one = c.in_ok-push_source.ensures.pushed in
    more c.args.meta.now c.args.reserve.now c.args.passes.now one.passed one.losses c.loop-source.made c.push_source.new.made one.lost one.pushed _ _
    c.source-item.result one.source one.compilable so

pub returns-clause-made : goal.returns-clause-made
returns-clause-made c =
    let P : List Parsed → Type 0 = λ rest. SoFar c.args.meta.now c.args.reserve.now c.args.passes.now c.args.functions.now rest c.loop-source.made in
    all_emitted _ _ _ _ _ (subst P (drop_all c.loop-source.source-index c.args.functions.now c.loop-source-test.false) c.loop-source.invariant)

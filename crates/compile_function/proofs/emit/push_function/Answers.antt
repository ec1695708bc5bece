-- What was made of the functions before has one function more behind it: its parts are those that the calls gave.
use Rattle.std.proofs.Common.{◌<◌, ℕ, refl, subst, length, arith, rules}
use Rattle.emit_code.specs.Counts.{MAX_WORDS, MAX_BASE}
use Rattle.compile_passes.specs.compile_theorem.Source.{PassedFunction}
use Rattle.compile_function.proofs.Pushed.{few_variables, few_lists, pushed}
use Rattle.compile_function.specs.Emitted.{IsOneCompiled}
use Rattle.compile_passes.specs.Passed.{passed_of}
use Rattle.compile_function.proofs.emit.push_function.Goals as goal

pub listed-requires-clause-numbers : goal.listed-requires-clause-numbers
listed-requires-clause-numbers c =
    let few = few_variables c.args.meta.now c.args.source.now (passed_of c.args.source.now c.args.function.now c.args.subs.now) c.args.losses
    c.len-base.result _ refl c.requires.read c.in_ok-compiled.ensures.compiled in
    let numbers = c.requires.numbers in
    omega (arith, few, numbers)

pub push_compiled-requires : goal.push_compiled-requires
push_compiled-requires c =
    let few = few_lists c.args.meta.now c.args.source.now (passed_of c.args.source.now c.args.function.now c.args.subs.now) c.args.losses
    c.len-base.result _ refl c.requires.read c.in_ok-compiled.ensures.compiled in
    let numbers = c.requires.numbers in
    omega (arith, few, numbers)

pub returns-clause-pushed : goal.returns-clause-pushed
returns-clause-pushed c =
    let p : PassedFunction = passed_of c.args.source.now c.args.function.now c.args.subs.now in
    let one = subst (λ (b : ℕ). IsOneCompiled p c.args.losses b c.in_ok-compiled.compiled) c.len-base.ensures c.in_ok-compiled.ensures.compiled in
    let room = c.requires.room in
    let low : length c.args.made.now.text < MAX_BASE = omega (arith, room) in
    let few : length c.in_ok-compiled.compiled.code.words < MAX_WORDS = search rules in
    pushed c.args.meta.now c.args.source.now p c.args.losses c.args.made.now c.in_ok-compiled.compiled refl c.requires.read one low
    c.in_ok-listed.listed _ few c.in_ok-listed.ensures
    c.in_ok-push_compiled.ensures.text c.in_ok-push_compiled.ensures.list_count c.in_ok-push_compiled.ensures.listings c.in_ok-push_compiled.ensures.functions

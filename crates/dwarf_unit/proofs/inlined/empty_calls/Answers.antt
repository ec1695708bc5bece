use Rattle.std.proofs.Common.{List, arith, subst, sym, refl}
use Rattle.std.proofs.lemmas.List.{drop_all}
use Rattle.dwarf_info.specs.declared.inlined.InlinedCall.{InlinedCall}
use Rattle.dwarf_line_table.proofs.Split.{split_at}
use Rattle.inline_subroutines.specs.declared.subroutine.InlinedSubroutine.{InlinedSubroutine}
use Rattle.dwarf_unit.proofs.InlinedFunctions.{CallsSoFar, calls_start, calls_next, calls_made}
use Rattle.dwarf_unit.proofs.inlined.empty_calls.Goals as goal

pub loop-k-init : goal.loop-k-init
loop-k-init c =
    let P : List InlinedCall → Type 0 =
    λ cs. CallsSoFar c.args.meta.now c.args.numbers.now c.args.subprograms.now c.args.subprograms.now c.args.instances.now c.args.instances.now cs in
    subst P (sym c.new-calls.ensures.items) (calls_start c.args.meta.now c.args.numbers.now c.args.subprograms.now c.args.instances.now)

pub loop-k-preserved : goal.loop-k-preserved
loop-k-preserved c =
    let instances = c.args.instances.now in
    let k = c.loop-k.k in
    let i = c.index-instances-k.result in
    let P : List InlinedSubroutine → Type 0 =
    λ rest. CallsSoFar c.args.meta.now c.args.numbers.now c.args.subprograms.now c.loop-k.subprograms instances rest c.loop-k.calls.items in
    let so = subst P (split_at instances k i c.loop-k-test.true c.index-instances-k.is) c.loop-k.invariant in
    calls_next c.args.meta.now c.args.numbers.now c.args.subprograms.now c.loop-k.subprograms c.number.new.self instances _ k i _ _ _ so
    c.in_ok-push.ensures.items c.loop-k-test.true c.index-instances-k.is c.in_ok-number.ensures.known refl c.in_ok-number.ensures.number refl c.call_position-line.ensures.line c.call_position-line.ensures.column
    c.new.ensures

pub returns : goal.returns
returns c =
    let P : List InlinedSubroutine → Type 0 =
    λ rest. CallsSoFar c.args.meta.now c.args.numbers.now c.args.subprograms.now c.loop-k.subprograms c.args.instances.now rest c.loop-k.calls.items in
    let so = subst P (drop_all c.loop-k.k c.args.instances.now c.loop-k-test.false) c.loop-k.invariant in
    record { subprograms = so.known; count = let count = so.count in omega (arith, count); calls = λ number others is. calls_made _ _ _ _ _ _ so number others is }

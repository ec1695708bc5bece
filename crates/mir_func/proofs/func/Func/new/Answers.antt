use Rattle.std.proofs.Common.{◌≡◌, subst}
use Rattle.std.proofs.lemmas.Bool.{both_ways}
use Rattle.mir_func.specs.Function.{Function}
use Rattle.mir_func.specs.Sound.{IsSound}
use Rattle.mir_func.proofs.func.Func.new.Goals as goal

pub returns-then-not-branch-clause-unsound : goal.returns-then-not-branch-clause-unsound
returns-then-not-branch-clause-unsound c = λ e sound.
    let slots : c.args.slots ≡ c.as_slice.result.now = cc in
    let objects : c.args.objects ≡ c.as_slice-2.result.now = cc in
    let blocks : c.args.blocks ≡ c.as_slice-3.result.now = cc in
    let given : Function = record { name = c.args.name; slots = c.args.slots; objects = c.args.objects; blocks = c.args.blocks } in
    let read : Function = record { name = c.args.name; slots = c.as_slice.result.now; objects = c.as_slice-2.result.now; blocks = c.as_slice-3.result.now } in
    let same : given ≡ read = λ i. record { name = c.args.name; slots = slots i; objects = objects i; blocks = blocks i } in
    both_ways c.in_ok-are_sound.field-0 c.if-not-branch.true ((c.in_ok-are_sound.ensures c.args.name).1 (subst IsSound same sound))

pub invariant_of-result : goal.invariant_of-result
invariant_of-result c =
    let slots : c.as_slice.result.now ≡ c.args.slots = cc in
    let objects : c.as_slice-2.result.now ≡ c.args.objects = cc in
    let blocks : c.as_slice-3.result.now ≡ c.args.blocks = cc in
    let read : Function = record { name = c.args.name; slots = c.as_slice.result.now; objects = c.as_slice-2.result.now; blocks = c.as_slice-3.result.now } in
    let given : Function = record { name = c.args.name; slots = c.args.slots; objects = c.args.objects; blocks = c.args.blocks } in
    let same : read ≡ given = λ i. record { name = c.args.name; slots = slots i; objects = objects i; blocks = blocks i } in
    subst IsSound same ((c.in_ok-are_sound.ensures c.args.name).0 c.if-not-branch.false)

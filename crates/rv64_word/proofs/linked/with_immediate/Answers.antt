use Rattle.std.proofs.Common.{◌≡◌, ◌≤◌, ℤ, w64, arith, ap, subst, take}
use Rattle.std.proofs.lemmas.Int.{to_z-of_z}
use Rattle.rv64_instr.specs.Arithmetic as arithmetic
use Rattle.rv64_word.specs.Format.{slices_of, width_of, spelled}
use Rattle.rv64_word.specs.Linked.{refilled}
use Rattle.rv64_word.proofs.Slices.{width_is, spelled_more}
use Rattle.rv64_word.proofs.linked.with_immediate.Goals as goal

pub loop-slice-preserved : goal.loop-slice-preserved
loop-slice-preserved c =
    let items = c.slices-slice-items.result.now in
    let e : items ≡ slices_of c.args.format = c.slices-slice-items.ensures in
    let short : width_of items ≤ 32 = omega (arith, ap width_of e, width_is c.args.format) in
    let number = to_z-of_z w64 c.args.immediate c.ranges.immediate in
    let made = subst (λ (z : ℤ). c.loop-slice.made ≡ spelled (take c.loop-slice.slice-index items) (refilled c.args.format (arithmetic.word z) c.args.word))
    number c.loop-slice.invariant in
    let more = spelled_more (refilled c.args.format (arithmetic.word c.args.immediate) c.args.word) items c.loop-slice.slice-index _ c.loop-slice.made short
    c.loop-slice-test.true made in
    rw (c.of.ensures, c.refilled.ensures, number) more

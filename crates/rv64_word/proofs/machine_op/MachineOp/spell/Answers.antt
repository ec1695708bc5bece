use Rattle.std.proofs.Common.{◌≡◌, ◌≤◌, arith, ap, ◌∙◌}
use Rattle.rv64_word.specs.declared.word_op.Encoding.{Encoding}
use Rattle.rv64_word.specs.Format.{slices_of}
use Rattle.rv64_word.specs.Operation.{encoding_of}
use Rattle.rv64_word.specs.MachineOp.{value_of}
use Rattle.rv64_word.specs.Format.{width_of}
use Rattle.rv64_word.proofs.Slices.{width_is, spelled_more}
use Rattle.rv64_word.proofs.machine_op.MachineOp.spell.Goals as goal

pub loop-slice-preserved : goal.loop-slice-preserved
loop-slice-preserved c =
    let m = c.args.self.now in
    let items = c.slices-slice-items.result.now in
    let format = (encoding_of m.op).format in
    let e : items ≡ slices_of format = c.slices-slice-items.ensures ∙ ap (λ (e : Encoding). slices_of e.format) c.encoding.ensures in
    let short : width_of items ≤ 32 = omega (arith, ap width_of e, width_is format) in
    let more = spelled_more (value_of m) items c.loop-slice.slice-index _ c.loop-slice.word short c.loop-slice-test.true c.loop-slice.invariant in
    rw (c.of.ensures, c.value.ensures) more

use Rattle.std.proofs.Common.{◌≡◌, ℤ, ap, ◌∙◌}
use Rattle.std.specs.Int.{w64, cast_signed, cast_unsigned}
use Rattle.rv64_instr.specs.Linked.{half_immediate}
use Rattle.rv64_instr.specs.View.{class_of}
use Rattle.rv64_instr.proofs.Halves.{half_fits}
use Rattle.rv64_word.specs.declared.format.Format.{Format}
use Rattle.rv64_word.specs.Linked.{part_format, with_immediate}
use Rattle.rv64_word.proofs.linked.with_half.Goals as goal

pub returns : goal.returns
returns c row shows =
    let same : cast_signed w64 (cast_unsigned w64 c.half_immediate.result) ≡ half_immediate c.args.half c.args.address =
    ap (λ (z : ℤ). cast_signed w64 (cast_unsigned w64 z)) c.half_immediate.ensures ∙ half_fits c.args.half c.args.address in
    c.with_immediate.ensures
    ∙ ap (λ (f : Format). with_immediate f (cast_signed w64 (cast_unsigned w64 c.half_immediate.result)) c.args.word) (c.part_format-format.ensures row shows)
    ∙ ap (λ (z : ℤ). with_immediate (part_format c.args.half (class_of row)) z c.args.word) same

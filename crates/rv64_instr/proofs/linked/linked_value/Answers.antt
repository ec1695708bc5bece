use Rattle.std.proofs.Common.{◌≡◌, ℤ, ap, ◌∙◌}
use Rattle.std.specs.Prelude.{IsTrue, pos, negsuc}
use Rattle.std.specs.Int.{w64, cast_signed, cast_unsigned}
use Rattle.rv64_instr.specs.Form.{is_within}
use Rattle.rv64_instr.specs.Linked.{half_immediate, immediate_value, linked_value}
use Rattle.rv64_instr.proofs.Halves.{half_fits, half_within}
use Rattle.rv64_instr.proofs.linked.linked_value.Goals as goal

pub immediate_value-requires : goal.immediate_value-requires
immediate_value-requires c =
    let same : cast_signed w64 (cast_unsigned w64 c.half_immediate.result) ≡ half_immediate c.args.half c.linked_address.result =
    ap (λ (z : ℤ). cast_signed w64 (cast_unsigned w64 z)) c.half_immediate.ensures ∙ half_fits c.args.half c.linked_address.result in
    ap (is_within (negsuc 2047) (pos 1048575)) same ∙ half_within c.args.half c.linked_address.result

pub returns : goal.returns
unfolding linked_value
returns c =
    let same : cast_signed w64 (cast_unsigned w64 c.half_immediate.result) ≡ half_immediate c.args.half c.linked_address.result =
    ap (λ (z : ℤ). cast_signed w64 (cast_unsigned w64 z)) c.half_immediate.ensures ∙ half_fits c.args.half c.linked_address.result in
    c.immediate_value.ensures ∙ ap (immediate_value c.args.half) (same ∙ ap (half_immediate c.args.half) c.linked_address.ensures)

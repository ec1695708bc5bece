use Rattle.std.specs.Prelude.{◌-ℤ◌}
use Rattle.std.specs.Int.{w64, cast_signed, cast_unsigned}
use Rattle.std.proofs.Common.{◌≡◌, ◌%◌, pos, negsuc, arith, ap, ◌∙◌}
use Rattle.std.proofs.lemmas.Int.{ints}
use Rattle.rv64_instr.specs.Form.{is_within}
use Rattle.elf_load.proofs.CallSteps.{jump_fits}
use Rattle.elf_load.proofs.words.lower_word.Goals as goal

pub encode-requires : goal.encode-requires
encode-requires c =
    let number : cast_signed w64 (cast_unsigned w64 (cast_signed w64 (cast_unsigned w64 c.from.result) -ℤ pos 2048))
    ≡ pos (c.args.distance % 4096) -ℤ pos 2048 =
    omega (arith, ints, c.from.ensures) in
    ap (is_within (negsuc 2047) (pos 2047)) number ∙ jump_fits c.args.distance

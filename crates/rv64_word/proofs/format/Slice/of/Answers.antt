use Rattle.std.proofs.Common.{◌≡◌, ◌*◌, ◌^◌, ◌%◌, ◌<◌, refl, arith}
use Rattle.std.proofs.lemmas.Nat.{and_mask, one_shl}
use Rattle.rv64_word.proofs.format.Slice.of.Goals as goal

pub returns : goal.returns
returns c =
    let w = c.args.self.width in
    let fits : w < 64 = omega arith in
    let one : 1 * 2 ^ w % 2 ^ 64 ≡ 2 ^ w = one_shl w 64 fits in
    rw (one, and_mask) refl

use Rattle.std.proofs.Common.{◌≡◌, ℕ, ◌+◌, ◌-◌, ◌*◌, ◌^◌, ◌%◌, ◌<◌, ◌≤◌, bit_and, arith}
use Rattle.std.proofs.lemmas.Nat.{and_mask, one_shl, shl_whole, shl_below, mod_below, pow_pos}
use Rattle.std.proofs.Math.Nat.{pow-le-pow_right}
use Rattle.rv64_word.proofs.format.Slice.back.Goals as goal

-- the bits below the width, moved up
moved : (bits width low : ℕ) → low + width ≤ 21 → (bit_and bits (1 * 2 ^ width % 2 ^ 32 - 1) * 2 ^ low) % 2 ^ 32 ≡ bits % 2 ^ width * 2 ^ low
moved bits width low w =
    let fits : width < 32 = omega arith in
    let room : width + low ≤ 32 = omega arith in
    let one : 1 * 2 ^ width % 2 ^ 32 ≡ 2 ^ width = one_shl width 32 fits in
    rw (one, and_mask) (shl_whole (bits % 2 ^ width) width low 32 (mod_below _ _ (pow_pos width)) room)

moved_below : (bits width low : ℕ) → low + width ≤ 21 → bits % 2 ^ width * 2 ^ low < 2 ^ 21
moved_below bits width low w =
    let sum : width + low ≤ 21 = omega arith in
    let top : 2 ^ (width + low) ≤ 2 ^ 21 = pow-le-pow_right {n = 2} (omega arith) sum in
    omega (arith, top, shl_below (bits % 2 ^ width) width low (mod_below _ _ (pow_pos width)))

pub returns-clause-value : goal.returns-clause-value
returns-clause-value c = moved c.args.bits c.args.self.width c.args.self.low c.requires

pub returns-clause-below : goal.returns-clause-below
returns-clause-below c = rw (moved c.args.bits c.args.self.width c.args.self.low c.requires)
    (moved_below c.args.bits c.args.self.width c.args.self.low c.requires)

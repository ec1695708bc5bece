use Rattle.std.proofs.Common.{◌≡◌, refl, arith}
use Rattle.cli_numbers.proofs.generation.some_blocks.Goals as goal

pub overflow_cast-result : goal.overflow_cast-result
overflow_cast-result c = let h = (c.in_ok-blocks.ensures c.in_ok-blocks.blocks).0 refl in omega (arith, h.1)

pub returns-else-blocks-eq0 : goal.returns-else-blocks-eq0
returns-else-blocks-eq0 c = λ n. (
  λ e. (
      let h = (c.in_ok-blocks.ensures n).0 e in
      let same : c.in_ok-blocks.blocks ≡ n = cc in
      let some = c.if-blocks-eq0.false in
      (h.0, omega (arith, same, some), h.1)),
  λ h. (c.in_ok-blocks.ensures n).1 (h.0, h.2),
)

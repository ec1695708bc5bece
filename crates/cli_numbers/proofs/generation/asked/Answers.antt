use Rattle.std.proofs.Common.{◌≡◌, ℕ, Some, refl, subst, ap, ◌∙◌, arith}
use Rattle.cli_numbers.specs.Numbers.{IsGeneration}
use Rattle.cli_numbers.specs.declared.generation.Generation.{Generation}
use Rattle.cli_numbers.proofs.generation.asked.Goals as goal

pub overflow_cast-result : goal.overflow_cast-result
overflow_cast-result c = let h = (c.in_ok-number.ensures c.in_ok-number.number).0 refl in omega (arith, h.1)

made : (number blocks : ℕ) → Generation
made number blocks = record { number = number; blocks = blocks }

pub returns : goal.returns
unfolding made
returns c = λ g. (
  λ e. (
      let n = (c.in_ok-number.ensures c.in_ok-number.number).0 refl in
      let b = (c.in_ok-blocks.ensures c.in_ok-blocks.blocks).0 refl in
      let same : made c.in_ok-number.number c.in_ok-blocks.blocks ≡ g = cc in
      subst (IsGeneration c.args.first.now c.args.second.now) same (record { number = n.0; blocks = b.0; small = n.1; some = b.1; few = b.2 })),
  λ h. (
      let n = (c.in_ok-number.ensures g.number).1 (h.number, h.small) in
      let b = (c.in_ok-blocks.ensures g.blocks).1 (h.blocks, h.some, h.few) in
      let first : c.in_ok-number.number ≡ g.number = cc in
      let second : c.in_ok-blocks.blocks ≡ g.blocks = cc in
      ap (λ (x : ℕ). Some (made x c.in_ok-blocks.blocks)) first ∙ ap (λ (y : ℕ). Some (made g.number y)) second),
)

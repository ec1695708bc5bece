use Rattle.std.specs.Prelude.{ℤ, pos}
use Rattle.std.proofs.Common.{◌≡◌, ◌%◌, ap, ◌∙◌, arith}
use Rattle.std.specs.Int.{w64}
use mir.Val.{to_z, of_z}
use lib.IntN.{nat_abs}
use Rattle.std.proofs.lemmas.Int.{ints, to_z-of_z}
use Rattle.dwarf_loclists.proofs.SplitLemmas.{slot_front}
use Rattle.dwarf_loclists.proofs.split.split_slot.Goals as goal
use Rattle.dwarf_loclists.proofs.split.split_slot.Goals.{then-value-lt0-via-then-value-lt0, then-value-lt0-via-else-value-lt0+then-value-gt-LAST_SLOT}

pub returns-then-value-lt0-clause-none : goal.returns-then-value-lt0-clause-none
returns-then-value-lt0-clause-none c = λ p rest ok wide e.
    let f = slot_front c.in_ok-value.value c.args.bytes.now c.in_ok-value.rest.now p rest c.in_ok-value.ensures.some ok e in
    let same : to_z w64 (of_z w64 c.in_ok-value.value) ≡ pos f.0 = to_z-of_z w64 _ c.in_ok-value.ensures.fits ∙ f.1 in
    elim c.then-value-lt0.branch [
      | then-value-lt0-via-then-value-lt0 w ↦ let below = rw same at w.if-value-lt0.true in absurd (omega (arith, ints, below))
      | then-value-lt0-via-else-value-lt0+then-value-gt-LAST_SLOT w ↦ let above
          = rw same at w.if-value-gt-LAST_SLOT.true in absurd (omega (arith, ints, above, f.3))
    ]

pub returns-else-offset-eq0-clause-none : goal.returns-else-offset-eq0-clause-none
returns-else-offset-eq0-clause-none c = λ p rest ok wide e.
    let f = slot_front c.in_ok-value.value c.args.bytes.now c.in_ok-value.rest.now p rest c.in_ok-value.ensures.some ok e in
    let same : to_z w64 (of_z w64 c.in_ok-value.value) ≡ pos f.0 = to_z-of_z w64 _ c.in_ok-value.ensures.fits ∙ f.1 in
    c.if-offset-eq0.false (ap (λ (v : ℤ). nat_abs v % 8) same ∙ f.2)

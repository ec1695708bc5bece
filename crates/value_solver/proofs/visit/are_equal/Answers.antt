use Rattle.std.proofs.Common.{◌≡◌, Bool, true, false, not, sym, ◌∙◌, ap, refl}
use Rattle.std.specs.Prelude.{IsTrue, ◌↔◌}
use Rattle.std.proofs.Math.Bool.{beq}
use Rattle.std.specs.Cmp.{booleans_Decides}
use Rattle.std.specs.Cmp.Lexicographic.{pointwise, pointwise_decides, same_text}
use Rattle.value_solver.specs.declared.entry.BlockEntry.{BlockEntry}
use Rattle.value_solver.proofs.visit.are_equal.Goals as goal

not_not : (z : Bool) → false ≡ not z → true ≡ z
not_not true e = refl
not_not false e = sym e

same_flag : (a b : Bool) → not (beq a b) ≡ false → a ≡ b
same_flag true true e = refl
same_flag true false e = e
same_flag false true e = sym e
same_flag false false e = refl

same : (a b : BlockEntry) (r : Bool) → a.reached ≡ b.reached → a.classes ≡ b.classes → r ≡ pointwise beq a.given b.given → IsTrue r ↔ (a ≡ b)
same a b r e f g =
    let bits = pointwise_decides booleans_Decides a.given b.given in (
      λ h. let given = bits.0 (sym g ∙ h) in (λ z. record { reached = e z; classes = f z; given = given z }),
      λ h. g
          ∙ bits.1 (ap (λ (x : BlockEntry). x.given) h),
    )

pub returns : goal.returns
returns c =
    let classes = sym c.as_slice.ensures ∙ same_text _ _ (not_not _ c.if-ne.ensures) ∙ c.as_slice-2.ensures in
    same c.args.a.now c.args.b.now c.eq.result (same_flag _ _ c.if-a-b.false) classes
    (c.eq.ensures ∙ (λ z. pointwise beq (c.as_slice-3.ensures z) (c.as_slice-4.ensures z)))

-- Subroutines are in order, as their instances are: what is used first is there once, and an instance stands behind its parent.
use Rattle.std.proofs.Common.{◌≡◌, ℕ, zero, suc, ◌<◌, Bool, true, false, ◌||◌, if◌then◌else◌, List, [], ◌∷◌, ◌++◌, map, Option, Some, refl, sym, ◌∙◌, ap, subst}
use Rattle.std.proofs.Common.{nat_eq, slice_get, reverse}
use Rattle.std.specs.Prelude.{IfSome}
use Rattle.std.specs.List.{list_any, flat_map}
use Rattle.std.proofs.lemmas.Bool.{true≢false, eq-eqb, ne_eqb, or_parts}
use Rattle.std.proofs.lemmas.List.Folds.{list_any-append}
use Rattle.read_metadata.specs.Maps.{Maps}
use Rattle.inline_instances.specs.dwarf_line_table.Files.{with_new, first_uses}
use Rattle.dwarf_rnglists.specs.declared.range.AddressRange.{AddressRange}
use Rattle.inline_instances.specs.declared.instance.Instance.{Instance}
use Rattle.inline_instances.proofs.Ways.{none_is_some, some_is_some}
use Rattle.inline_subroutines.specs.declared.subroutine.InlinedSubroutine.{InlinedSubroutine}
use Rattle.inline_subroutines.specs.Subroutines.{AreOfInstances, AreDistinct}
use Rattle.inline_subroutines.specs.Laws.{SubroutinesAreOrdered}

-- ---- what is used first is there once

distinct_push : (xs : List ℕ) (x : ℕ) → AreDistinct xs → list_any (nat_eq x) xs ≡ false → AreDistinct (xs ++ x ∷ [])
distinct_push [] x d none = (refl, tt)
distinct_push (y ∷ xs) x d none =
    let parts = or_parts (nat_eq x y) (list_any (nat_eq x) xs) none in
    let apart : nat_eq y x ≡ false = ne_eqb y x (λ e. true≢false (sym (eq-eqb x y (sym e)) ∙ parts.0)) in (
      list_any-append (nat_eq y) xs (x ∷ []) ∙ (λ i. d.0 i || (apart i || false)),
      distinct_push xs x d.1 parts.1,
    )

distinct_new : (known : List ℕ) (x : ℕ) → AreDistinct known → AreDistinct (with_new nat_eq known x)
distinct_new known x d = by (list_any (nat_eq x) known) refl
  where
    by : (b : Bool) → list_any (nat_eq x) known ≡ b → AreDistinct (if b then known else known ++ x ∷ [])
    by true e = d
    by false e = distinct_push known x d e

uses_distinct : (known xs : List ℕ) → AreDistinct known → AreDistinct (first_uses nat_eq known xs)
uses_distinct known [] d = d
uses_distinct known (x ∷ xs) d = uses_distinct (with_new nat_eq known x) xs (distinct_new known x d)

-- ---- the subroutines of instances

calls_same : (meta : Maps) (is : List Instance) (rs : List (List AddressRange)) (ss : List InlinedSubroutine) → AreOfInstances meta is rs ss
    → map (λ i. i.call) is ≡ map (λ s. s.call) ss
calls_same meta [] [] [] are = refl
calls_same meta [] [] (s ∷ ss) are = absurd are
calls_same meta [] (r ∷ rs) [] are = absurd are
calls_same meta [] (r ∷ rs) (s ∷ ss) are = absurd are
calls_same meta (i ∷ is) [] [] are = absurd are
calls_same meta (i ∷ is) [] (s ∷ ss) are = absurd are
calls_same meta (i ∷ is) (r ∷ rs) [] are = absurd are
calls_same meta (i ∷ is) (r ∷ rs) (s ∷ ss) are =
    let rest = calls_same meta is rs ss are.1 in
    (λ n. sym are.0.call n ∷ rest n)

parent_at : (meta : Maps) (is : List Instance) (rs : List (List AddressRange)) (ss : List InlinedSubroutine) → AreOfInstances meta is rs ss
    → (k : ℕ) (s : InlinedSubroutine) → slice_get ss k ≡ Some s → (i : Instance) × (slice_get is k ≡ Some i) × (s.parent ≡ i.parent)
parent_at meta [] [] [] are k s at = absurd (none_is_some s at)
parent_at meta [] [] (t ∷ ss) are k s at = absurd are
parent_at meta [] (r ∷ rs) [] are k s at = absurd are
parent_at meta [] (r ∷ rs) (t ∷ ss) are k s at = absurd are
parent_at meta (i ∷ is) [] [] are k s at = absurd are
parent_at meta (i ∷ is) [] (t ∷ ss) are k s at = absurd are
parent_at meta (i ∷ is) (r ∷ rs) [] are k s at = absurd are
parent_at meta (i ∷ is) (r ∷ rs) (t ∷ ss) are zero s at =
    (i, refl, ap (λ (x : InlinedSubroutine). x.parent) (sym (some_is_some t s at)) ∙ are.0.parent)
parent_at meta (i ∷ is) (r ∷ rs) (t ∷ ss) are (suc k) s at = parent_at meta is rs ss are.1 k s at

pub subroutines_ordered : SubroutinesAreOrdered
subroutines_ordered meta f subroutines are = record {
  once =
      let same = sym (calls_same meta are.inlined.instances are.inlined.ranges subroutines are.each) ∙ are.are.calls in
      subst AreDistinct (sym same) (uses_distinct [] (flat_map (λ w. reverse w.calls) are.are.words) tt);
  earlier = λ k s at.
      let found = parent_at meta are.inlined.instances are.inlined.ranges subroutines are.each k s at in
      subst (λ (o : Option ℕ). IfSome o (λ p. p < k)) (sym found.2) (are.are.each k found.0 found.1).earlier;
}

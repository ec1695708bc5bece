-- The losses of numbers.
use Rattle.std.proofs.Common.{◌≡◌, ℕ, ◌<◌, List, map, length, Contains, eqb, get_or, subst, sym, ap, ◌∙◌, inl, Some, arith}
use Rattle.std.specs.List.Sorted.{IsStrictlyIncreasing, IsSorted, IsPermutation}
use Rattle.std.specs.Ordering.{nat_cmp}
use Rattle.std.specs.List.{dedup}
use Rattle.std.proofs.lemmas.List.{get_or-map, length-map}
use Rattle.std.proofs.lemmas.Option.{slice_get-get_or}
use Rattle.std.proofs.lemmas.List.Kept.{AllPairs-from_increasing, Contains-dedup_nat, Contains-from_dedup}
use Rattle.std.proofs.lemmas.List.Sorted.{Contains-permutation, IsPermutation-sym}
use Rattle.std.proofs.lemmas.Map.Keys.{IsStrictlyIncreasing-dedup}
use Rattle.pass_trait.specs.declared.loss.Reason.{Reason}
use Rattle.pass_trait.specs.declared.loss.Loss.{Loss}
use Rattle.pass_trait.specs.Order.{LossComesBefore, IsInOrder}
use Rattle.pass_trait.specs.Rule.{number_lost}

get_or_default : (ns : List ℕ) (i d e : ℕ) → i < length ns → get_or ns i d ≡ get_or ns i e
get_or_default ns i d e lt = let w : Some (get_or ns i d) ≡ Some (get_or ns i e) = sym (slice_get-get_or ns i d lt) ∙ slice_get-get_or ns i e lt in cc

module _ (why : Reason) where
  abbrev lost : ℕ → Loss
  lost n = number_lost n why

  rising_in_order : (ns : List ℕ) → IsStrictlyIncreasing ns → IsInOrder (map lost ns)
  rising_in_order ns rise i j d lt within =
      let long : j < length ns = subst (λ (n : ℕ). j < n) (length-map ns lost) within in
      let a : get_or (map lost ns) i d ≡ lost (get_or ns i 0) = get_or-map lost ns i 0 d (omega (arith, lt, long)) in
      let b : get_or (map lost ns) j d ≡ lost (get_or ns j 0) = get_or-map lost ns j 0 d long in
      subst (λ (x : Loss). LossComesBefore x (get_or (map lost ns) j d)) (sym a)
      (subst (λ (x : Loss). LossComesBefore (lost (get_or ns i 0)) x) (sym b) (inl (AllPairs-from_increasing ns rise i j 0 lt long)))

  pub sorted_in_order : (ns : List ℕ) → IsSorted nat_cmp ns → IsInOrder (map lost (dedup eqb ns))
  sorted_in_order ns sorted = rising_in_order (dedup eqb ns) (IsStrictlyIncreasing-dedup ns sorted)

  -- what is among the losses of some numbers
  pub lost_from : (ns : List ℕ) (l : Loss) → Contains (map lost ns) l → (k : ℕ) × Contains ns k × (l ≡ lost k)
  lost_from ns l (i, lt, at) =
      let long : i < length ns = subst (λ (n : ℕ). i < n) (length-map ns lost) lt in
      (get_or ns i 0, (i, long, get_or_default ns i (get_or ns i 0) 0 long), sym at ∙ get_or-map lost ns i 0 l long)

  pub lost_of : (ns : List ℕ) (l : Loss) (k : ℕ) → Contains ns k → l ≡ lost k → Contains (map lost ns) l
  lost_of ns l k (i, lt, at) e = (i, subst (λ (n : ℕ). i < n) (sym (length-map ns lost)) lt, get_or-map lost ns i k l lt ∙ ap lost at ∙ sym e)

  pub still_from : (ns ms : List ℕ) (k : ℕ) → IsPermutation ns ms → Contains (dedup eqb ms) k → Contains ns k
  still_from ns ms k p h = Contains-permutation ms ns k (IsPermutation-sym ns ms p) (Contains-from_dedup eqb ms k h)

  pub still_of : (ns ms : List ℕ) (k : ℕ) → IsPermutation ns ms → Contains ns k → Contains (dedup eqb ms) k
  still_of ns ms k p h = Contains-dedup_nat ms k (Contains-permutation ns ms k p h)

-- The new slots are apart, and few enough.
use Rattle.std.proofs.Common.{◌≡◌, ◌⊎◌, inl, inr, ℕ, zero, suc, ◌+◌, ◌-◌, ◌<◌, ◌≤◌, List, [], ◌∷◌, ◌++◌, map, take, length, min, Option, Some}
use Rattle.std.proofs.Common.{None, slice_get, Bool}
use Rattle.std.proofs.Common.{refl, sym, ap, ◌∙◌, subst, arith, length-append}
use Rattle.std.proofs.lemmas.List.{length-map, length-take}
use Rattle.mir_func.specs.Function.{Function}
use Rattle.mir_func.specs.Limits.{MAX_SLOTS}
use Rattle.mir_func.specs.Sound.{AreApart}
use Rattle.pass_trait.specs.Sizes.{greatest}
use Rattle.spill_code.specs.declared.spilling.SlotAssignment.{SlotAssignment}
use Rattle.spill_select.specs.spill_rule.Choice.{room, chosen, candidates, next_slot, homes_from, homes_of, spilling_of}
use Rattle.spill_proof.specs.Sound.{slots_now}

abbrev slot : SlotAssignment → ℕ
slot h = h.slot

pub at_home : (m : ℕ) (rs : List ℕ) (i n : ℕ) → slice_get (map slot (homes_from m rs)) i ≡ Some n → n ≡ m + i
at_home m [] i n e = absurd (let bad : ◌≡◌ {A = Option ℕ} None (Some n) = e in cc)
at_home m (r ∷ rs) zero n e = let same : m ≡ n = cc in omega (arith, same)
at_home m (r ∷ rs) (suc i) n e = let h = at_home (m + 1) rs i n e in omega (arith, h)

split : (ns bs : List ℕ) (i n : ℕ) → slice_get (ns ++ bs) i ≡ Some n → (slice_get ns i ≡ Some n) ⊎ ((j : ℕ) × (i ≡ length ns + j) × (slice_get bs j ≡ Some n))
split [] bs i n e = inr (i, omega arith, e)
split (x ∷ ns) bs zero n e = inl e
split (x ∷ ns) bs (suc i) n e = further (split ns bs i n e) where
  further : (slice_get ns i ≡ Some n) ⊎ ((j : ℕ) × (i ≡ length ns + j) × (slice_get bs j ≡ Some n)) →
      (slice_get (x ∷ ns) (suc i) ≡ Some n) ⊎ ((j : ℕ) × (suc i ≡ length (x ∷ ns) + j) × (slice_get bs j ≡ Some n))
  further (inl h) = inl h
  further (inr (j, is, h)) = inr (j, omega (arith, is), h)

pub below_next : (ns : List ℕ) (i n : ℕ) → slice_get ns i ≡ Some n → n < next_slot ns
below_next [] i n e = absurd (let bad : ◌≡◌ {A = Option ℕ} None (Some n) = e in cc)
below_next (m ∷ ns) i n e = let h = at_most (m ∷ ns) i n e in omega (arith, h) where
  at_most : (ms : List ℕ) (i n : ℕ) → slice_get ms i ≡ Some n → n ≤ greatest ms
  at_most [] i n e = absurd (let bad : ◌≡◌ {A = Option ℕ} None (Some n) = e in cc)
  at_most (m ∷ ms) zero n e = let same : m ≡ n = cc in omega (arith, same)
  at_most (m ∷ ms) (suc i) n e = let h = at_most ms i n e in omega (arith, h)

pub apart_more : (ns : List ℕ) (m : ℕ) (rs : List ℕ) → AreApart ns → ((i n : ℕ) → slice_get ns i ≡ Some n → n < m) → AreApart (ns ++ map slot (homes_from m rs))
apart_more ns m rs apart low i j n e k =
    by_sides (split ns (map slot (homes_from m rs)) i n e) (split ns (map slot (homes_from m rs)) j n k) where
      by_sides : (slice_get ns i ≡ Some n) ⊎ ((a : ℕ) × (i ≡ length ns + a) × (slice_get (map slot (homes_from m rs)) a ≡ Some n)) →
          (slice_get ns j ≡ Some n) ⊎ ((b : ℕ) × (j ≡ length ns + b) × (slice_get (map slot (homes_from m rs)) b ≡ Some n)) → i ≡ j
      by_sides (inl h) (inl g) = apart i j n h g
      by_sides (inl h) (inr (b, is, g)) = absurd (let lt = low i n h in let at = at_home m rs b n g in omega (arith, lt, at))
      by_sides (inr (a, is, h)) (inl g) = absurd (let lt = low j n g in let at = at_home m rs a n h in omega (arith, lt, at))
      by_sides (inr (a, is, h)) (inr (b, is', g)) = let p = at_home m rs a n h in let q = at_home m rs b n g in omega (arith, is, is', p, q)

long_homes : (m : ℕ) (rs : List ℕ) → length (homes_from m rs) ≡ length rs
long_homes m [] = refl
long_homes m (r ∷ rs) = ap suc (long_homes (m + 1) rs)

few_of : (a b c l : ℕ) → a + b ≤ MAX_SLOTS → c ≡ min (MAX_SLOTS - (a + b)) l → a + c + b ≤ MAX_SLOTS
few_of a b c l le is = omega (arith, le, is)

module _ (reserve : List ℕ) (live : ℕ → Bool) (f : Function) where
  pub slots_apart : AreApart f.slots → AreApart (slots_now (spilling_of reserve live f) f)
  slots_apart apart = apart_more f.slots (next_slot f.slots) (chosen reserve live f) apart (below_next f.slots)

  pub how_many : length (map slot (homes_of reserve live f)) ≡ min (room f) (length (candidates reserve live f))
  how_many = length-map (homes_of reserve live f) slot ∙ long_homes (next_slot f.slots) (chosen reserve live f) ∙ length-take (room f)
      (candidates reserve live f)

  pub few_slots : length f.slots + length f.objects ≤ MAX_SLOTS → length (slots_now (spilling_of reserve live f) f) + length f.objects ≤ MAX_SLOTS
  few_slots le =
      let new : List ℕ = map slot (homes_of reserve live f) in
      let total = few_of (length f.slots) (length f.objects) (length new) (length (candidates reserve live f)) le how_many in
      subst (λ (n : ℕ). n + length f.objects ≤ MAX_SLOTS) (sym (length-append f.slots new)) total

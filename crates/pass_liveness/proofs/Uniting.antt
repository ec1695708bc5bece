-- Words that are united with others, word by word.
use Rattle.std.proofs.Common.{◌≡◌, ◌⊎◌, ℕ, zero, suc, ◌+◌, ◌/◌, ◌<◌, ◌≤◌, ◌≢◌, ◌||◌, Bool, true, false, List, length, get_or, slice_set, bit_and, bit_or, ◌-◌}
use Rattle.std.proofs.Common.{refl, sym, ap, ◌∙◌, inl, inr, arith, subst}
use Rattle.std.proofs.lemmas.Bool.{cases_eq}
use Rattle.std.proofs.lemmas.List.{get_or-set_other, get_or-set_same}
use Rattle.std.proofs.lemmas.List.Sums.{sum_by-set}
use Rattle.std.proofs.lemmas.Nat.{le_or_l, and_le_r, or_disjoint}
use Rattle.pass_liveness.specs.Sets.{has_bit, gap}
use Rattle.pass_liveness.proofs.Bits.{bits_of_both}

-- the first so many words are united
pub record Uniting (old others : List ℕ) (k : ℕ) (words : List ℕ) (grown : Bool) : Type 0 where
  pub done : (j : ℕ) → j < k → get_or words j 0 ≡ bit_or (get_or old j 0) (get_or others j 0)
  pub left : (j : ℕ) → k ≤ j → get_or words j 0 ≡ get_or old j 0
  pub more : grown ≡ true → gap words < gap old
  pub same : grown ≡ false → words ≡ old

pub uniting_begins : (old others : List ℕ) → Uniting old others 0 old false
uniting_begins old others = record { done = λ j l. absurd (omega arith); left = λ j l. refl; more = λ e. cc; same = λ e. refl }

grows : (grown : Bool) (old words : List ℕ) → (grown ≡ true → gap words < gap old) → (grown ≡ false → words ≡ old) → gap words ≤ gap old
grows true old words h s = let l : gap words < gap old = h refl in omega arith
grows false old words h s = let e : gap words ≡ gap old = ap gap (s refl) in omega arith

pub uniting_kept : {old others : List ℕ} {k : ℕ} {words : List ℕ} {grown : Bool} → Uniting old others k words grown →
    bit_or (get_or words k 0) (get_or others k 0) ≡ get_or words k 0 → Uniting old others (k + 1) words grown
uniting_kept {old} {others} {k} {words} {grown} h e = record {
  done = λ j l. by_index j l (cases_eq j k);
  left = λ j l. h.left j (omega arith);
  more = h.more;
  same = h.same;
} where
  by_index : (j : ℕ) → j < k + 1 → (j ≡ k) ⊎ (j ≡ k → ⊥) → get_or words j 0 ≡ bit_or (get_or old j 0) (get_or others j 0)
  by_index j l (inl s) =
      let at : get_or words k 0 ≡ get_or old k 0 = h.left k (omega arith) in
      let here : get_or words k 0 ≡ bit_or (get_or old k 0) (get_or others k 0) = sym e ∙ ap (λ (x : ℕ). bit_or x (get_or others k 0)) at in
      subst (λ (i : ℕ). get_or words i 0 ≡ bit_or (get_or old i 0) (get_or others i 0)) (sym s) here
  by_index j l (inr ne) = h.done j (omega arith)

pub uniting_changed : {old others : List ℕ} {k : ℕ} {words : List ℕ} {grown : Bool} → Uniting old others k words grown → k < length words →
    bit_or (get_or words k 0) (get_or others k 0) < 18446744073709551616 →
    (bit_or (get_or words k 0) (get_or others k 0) ≡ get_or words k 0 → ⊥) →
    Uniting old others (k + 1) (slice_set words k (bit_or (get_or words k 0) (get_or others k 0))) true
uniting_changed {old} {others} {k} {words} {grown} h inside fits ne = record {
  done = λ j l. by_index j l (cases_eq j k);
  left = λ j l. get_or-set_other words k j all 0 (omega arith) ∙ h.left j (omega arith);
  more = λ e.
      let put : gap (slice_set words k all) + (18446744073709551616 - get_or words k 0) ≡ gap words + (18446744073709551616 - all) =
      sum_by-set (λ w. 18446744073709551616 - w) words k all 0 inside in
      let least : get_or words k 0 ≤ all = le_or_l (get_or words k 0) (get_or others k 0) in
      let other : all ≢ get_or words k 0 = ne in
      let so_far : gap words ≤ gap old = grows grown old words h.more h.same in omega arith;
  same = λ e. cc;
} where
  all : ℕ
  all = bit_or (get_or words k 0) (get_or others k 0)

  by_index : (j : ℕ) → j < k + 1 → (j ≡ k) ⊎ (j ≡ k → ⊥) → get_or (slice_set words k all) j 0 ≡ bit_or (get_or old j 0) (get_or others j 0)
  by_index j l (inl s) =
      let at : get_or words k 0 ≡ get_or old k 0 = h.left k (omega arith) in
      let here : get_or (slice_set words k all) k 0 ≡ bit_or (get_or old k 0) (get_or others k 0) =
      get_or-set_same words k all 0 inside ∙ ap (λ (x : ℕ). bit_or x (get_or others k 0)) at in
      subst (λ (i : ℕ). get_or (slice_set words k all) i 0 ≡ bit_or (get_or old i 0) (get_or others i 0)) (sym s) here
  by_index j l (inr other) = get_or-set_other words k j all 0 other ∙ h.done j (omega arith)

nothing_more : (a b : ℕ) → b ≡ 0 → bit_or a b ≡ a
nothing_more a b e =
    let least : bit_and a b ≤ b = and_le_r a b in
    let sum : bit_or a b ≡ a + b = or_disjoint a b (omega arith) in
    omega arith

pub uniting_ends : {old others : List ℕ} {k : ℕ} {words : List ℕ} {grown : Bool} → Uniting old others k words grown →
    ((j : ℕ) → k ≤ j → get_or others j 0 ≡ 0) → (i : ℕ) → has_bit words i ≡ (has_bit old i || has_bit others i)
uniting_ends {old} {others} {k} {words} {grown} h zeros i = bits_of_both words old others i (by_index (i / 64)) where
  by_index : (j : ℕ) → get_or words j 0 ≡ bit_or (get_or old j 0) (get_or others j 0)
  by_index j = elim (cases_le k j) [ inl l ↦ far j l | inr l ↦ h.done j l ] where
    cases_le : (a b : ℕ) → (a ≤ b) ⊎ (b < a)
    cases_le zero b = inl (omega arith)
    cases_le (suc a) zero = inr (omega arith)
    cases_le (suc a) (suc b) = elim (cases_le a b) [ inl l ↦ inl (omega arith) | inr l ↦ inr (omega arith) ]

    far : (j : ℕ) → k ≤ j → get_or words j 0 ≡ bit_or (get_or old j 0) (get_or others j 0)
    far j l = h.left j l ∙ sym (nothing_more (get_or old j 0) (get_or others j 0) (zeros j l))

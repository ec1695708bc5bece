-- Where slots and saved registers lie: at the multiples of eight from x2 on.
use Rattle.std.proofs.Common.{◌≡◌, ℕ, zero, suc, ◌+◌, ◌*◌, ◌<◌, List, [], ◌∷◌, ◌++◌, map, length, All, Contains, Some, slice_get}
use Rattle.std.proofs.Common.{Bool, true, false, cond, nat_eq, refl, sym, ap, ◌∙◌, subst, eq-eqb, arith}
use Rattle.std.proofs.lemmas.Bool.{eqb-true}
use Rattle.std.proofs.lemmas.List.Elements.{All-nil, All-cons, Contains-append_left, Contains-append_right}
use Rattle.mir_func.specs.declared.framed.SavedRegister.{SavedRegister}
use Rattle.mir_func.specs.Function.{Function}
use Rattle.mir_func.specs.Sound.{AreApart, BeginWith}
use Rattle.mir_func.specs.SoundFrame.{slot_offsets, IsSlotOffset, AreDoublewords}
use Rattle.frame_rule.specs.Rule.{slots_before, slot_offset, slot_places, saved_places, saved_registers, saved_of, framed_of}

-- so many multiples of eight from an offset on
abbrev eights : (o n : ℕ) → List ℕ
eights o zero = []
eights o (suc n) = o ∷ eights (o + 8) n

slots_at : (o : ℕ) (slots : List ℕ) → map (λ s. s.offset) (slot_places o slots) ≡ eights o (length slots)
slots_at o [] = refl
slots_at o (s ∷ slots) = ap (λ (z : List ℕ). o ∷ z) (slots_at (o + 8) slots)

saved_at : (o : ℕ) (rs : List ℕ) → map (λ s. s.offset) (saved_places o rs) ≡ eights o (length rs)
saved_at o [] = refl
saved_at o (r ∷ rs) = ap (λ (z : List ℕ). o ∷ z) (saved_at (o + 8) rs)

eights_join : (o n m : ℕ) → eights o n ++ eights (o + 8 * n) m ≡ eights o (n + m)
eights_join o zero m = let a : o + 8 * 0 ≡ o = omega arith in let b : 0 + m ≡ m = omega arith in ap (λ (z : ℕ). eights z m) a ∙ ap (eights o) (sym b)
eights_join o (suc n) m =
    let a : o + 8 * suc n ≡ (o + 8) + 8 * n = omega arith in
    let b : suc n + m ≡ suc (n + m) = omega arith in
    ap (λ (z : ℕ). o ∷ (eights (o + 8) n ++ eights z m)) a ∙ ap (λ (z : List ℕ). o ∷ z) (eights_join (o + 8) n m) ∙ ap (eights o) (sym b)

eights_get : (o n i x : ℕ) → slice_get (eights o n) i ≡ Some x → (x ≡ o + 8 * i) × (i < n)
eights_get o zero zero x e = cc
eights_get o zero (suc i) x e = cc
eights_get o (suc n) zero x e = let w : o ≡ x = cc in (omega (arith, w), omega arith)
eights_get o (suc n) (suc i) x e = let w = eights_get (o + 8) n i x e in let a = w.0 in let b = w.1 in (omega (arith, a), omega (arith, b))

eights_all : (P : ℕ → Type 0) (o n : ℕ) → ((i : ℕ) → i < n → P (o + 8 * i)) → All P (eights o n)
eights_all P o zero h = All-nil P
eights_all P o (suc n) h =
    let a : o + 8 * 0 ≡ o = omega arith in
    All-cons P o (eights (o + 8) n) (subst P a (h 0 (omega arith)))
    (eights_all P (o + 8) n (λ i lt. (let b : o + 8 * suc i ≡ (o + 8) + 8 * i = omega arith in subst P b (h (suc i) (omega (arith, lt))))))

eights_laid : (o n : ℕ) → AreDoublewords o (eights o n)
eights_laid o zero = tt
eights_laid o (suc n) = (refl, eights_laid (o + 8) n)

-- as many slots are before a slot as its index says
before_at : (slots : List ℕ) → AreApart slots → (k n : ℕ) → slice_get slots k ≡ Some n → slots_before slots n ≡ k
before_at [] apart k n e = absurd cc
before_at (s ∷ slots) apart zero n e = let same : s ≡ n = cc in ap (λ (b : Bool). cond b 0 (suc (slots_before slots n))) (eq-eqb s n same)
before_at (s ∷ slots) apart (suc k) n e =
    by_test (nat_eq s n) refl (before_at slots (λ i j m x y. (let a = apart (suc i) (suc j) m x y in omega (arith, a))) k n e) where
      by_test : (b : Bool) → nat_eq s n ≡ b → slots_before slots n ≡ k → cond b 0 (suc (slots_before slots n)) ≡ suc k
      by_test true w more = let one = apart zero (suc k) n (ap (λ (x : ℕ). Some x) (eqb-true s n w)) e in absurd (omega (arith, one))
      by_test false w more = ap suc more

-- the first slots lie at the first offsets: those that come first from an index on
first_from : (slots : List ℕ) → AreApart slots → (k : ℕ) (rest ns : List ℕ) → ((i n : ℕ) → slice_get rest i ≡ Some n → slice_get slots (k + i) ≡ Some n) →
    BeginWith rest ns → BeginWith (eights (8 * k) (length rest)) (map (slot_offset slots) ns)
first_from slots apart k rest [] at h = tt
first_from slots apart k [] (n ∷ ns) at h = absurd h
first_from slots apart k (r ∷ rest) (n ∷ ns) at h =
    let start : k + 0 ≡ k = omega arith in
    let here : slice_get slots k ≡ Some n = subst (λ (j : ℕ). slice_get slots j ≡ Some n) start (at 0 n (ap (λ (x : ℕ). Some x) h.0)) in
    let next : 8 * suc k ≡ 8 * k + 8 = omega arith in (
      ap (λ (j : ℕ). 8 * j) (sym (before_at slots apart k n here)),
      subst (λ (o : ℕ). BeginWith (eights o (length rest)) (map (slot_offset slots) ns)) next
          (first_from slots apart (suc k) rest ns
          (λ i m x. (let on : k + suc i ≡ suc k + i = omega arith in subst (λ (j : ℕ). slice_get slots j ≡ Some m) on (at (suc i) m x))) h.1),
    )

pub first_offsets : (slots ns : List ℕ) → AreApart slots → BeginWith slots ns →
    BeginWith (map (λ s. s.offset) (slot_places 0 slots)) (map (slot_offset slots) ns)
first_offsets slots ns apart h =
    let none : 8 * 0 ≡ 0 = omega arith in
    subst (λ (os : List ℕ). BeginWith os (map (slot_offset slots) ns)) (sym (slots_at 0 slots))
    (subst (λ (o : ℕ). BeginWith (eights o (length slots)) (map (slot_offset slots) ns)) none
    (first_from slots apart 0 slots ns (λ i n x. (let on : i ≡ 0 + i = omega arith in subst (λ (j : ℕ). slice_get slots j ≡ Some n) on x)) h))

later : (x : ℕ) (xs : List ℕ) (y : ℕ) → Contains xs y → Contains (x ∷ xs) y
later x xs y (k, lt, e) = (suc k, omega (arith, lt), e)

module _ (f : Function) where
  abbrev rs : List ℕ
  rs = saved_registers f.blocks

  pub offsets_are : slot_offsets (framed_of f) ≡ eights 0 (length f.slots + length rs)
  offsets_are =
      let a : 8 * length f.slots ≡ 0 + 8 * length f.slots = omega arith in
      let left = slots_at 0 f.slots in
      let right : map (λ s. s.offset) (saved_of f) ≡ eights (0 + 8 * length f.slots) (length rs) =
      saved_at (8 * length f.slots) rs ∙ ap (λ (z : ℕ). eights z (length rs)) a in
      (λ i. left i ++ right i) ∙ eights_join 0 (length f.slots) (length rs)

  pub offsets_apart : AreApart (slot_offsets (framed_of f))
  offsets_apart = subst AreApart (sym offsets_are) (λ i j n x y.
      (let a = (eights_get 0 (length f.slots + length rs) i n x).0 in let b = (eights_get 0 (length f.slots + length rs) j n y).0 in omega (arith, a, b)))

  pub offsets_laid : AreDoublewords 0 (slot_offsets (framed_of f))
  offsets_laid = subst (AreDoublewords 0) (sym offsets_are) (eights_laid 0 (length f.slots + length rs))

  pub offsets_fit : All (IsSlotOffset (framed_of f)) (slot_offsets (framed_of f))
  offsets_fit =
      subst (All (IsSlotOffset (framed_of f))) (sym offsets_are)
      (eights_all (IsSlotOffset (framed_of f)) 0 (length f.slots + length rs) (λ i lt. (omega arith, omega (arith, lt))))

  -- a declared slot's offset is one of them, and that of a saved register
  place_in : (o : ℕ) (slots : List ℕ) (n : ℕ) → Contains slots n → Contains (map (λ s. s.offset) (slot_places o slots)) (o + 8 * slots_before slots n)
  place_in o [] n (k, lt, e) = absurd (omega (arith, lt))
  place_in o (s ∷ slots) n h = by_test (nat_eq s n) refl h (place_in (o + 8) slots n) where
    by_test : (b : Bool) → nat_eq s n ≡ b → Contains (s ∷ slots) n →
        (Contains slots n → Contains (map (λ s. s.offset) (slot_places (o + 8) slots)) ((o + 8) + 8 * slots_before slots n)) →
        Contains (map (λ s. s.offset) (slot_places o (s ∷ slots))) (o + 8 * cond b 0 (suc (slots_before slots n)))
    by_test true w h more = let a : o ≡ o + 8 * 0 = omega arith in (0, omega arith, a)
    by_test false w (zero, lt, e) more = let bad : false ≡ true = sym w ∙ eq-eqb s n e in cc
    by_test false w (suc k, lt, e) more =
        let c = more (k, omega (arith, lt), e) in
        let a : (o + 8) + 8 * slots_before slots n ≡ o + 8 * suc (slots_before slots n) = omega arith in
        later o (map (λ s. s.offset) (slot_places (o + 8) slots)) _ (subst (Contains (map (λ s. s.offset) (slot_places (o + 8) slots))) a c)

  pub slot_has_offset : (n : ℕ) → Contains f.slots n → Contains (slot_offsets (framed_of f)) (slot_offset f.slots n)
  slot_has_offset n h =
      let a : 0 + 8 * slots_before f.slots n ≡ 8 * slots_before f.slots n = omega arith in
      Contains-append_left (map (λ s. s.offset) (slot_places 0 f.slots)) (map (λ s. s.offset) (saved_of f)) (slot_offset f.slots n)
      (subst (Contains (map (λ s. s.offset) (slot_places 0 f.slots))) a (place_in 0 f.slots n h))

  mapped : (ss : List SavedRegister) (s : SavedRegister) → Contains ss s → Contains (map (λ s. s.offset) ss) s.offset
  mapped [] s (k, lt, e) = absurd (omega (arith, lt))
  mapped (q ∷ ss) s (zero, lt, e) = (0, omega arith, ap (λ (z : SavedRegister). z.offset) e)
  mapped (q ∷ ss) s (suc k, lt, e) = let c = mapped ss s (k, omega (arith, lt), e) in (suc c.0, (let l = c.1 in omega (arith, l)), c.2)

  pub saved_has_offset : (s : SavedRegister) → Contains (saved_of f) s → Contains (slot_offsets (framed_of f)) s.offset
  saved_has_offset s h =
      Contains-append_right (map (λ s. s.offset) (slot_places 0 f.slots)) (map (λ s. s.offset) (saved_of f)) s.offset (mapped (saved_of f) s h)

  slot_count : (o : ℕ) (slots : List ℕ) → length (slot_places o slots) ≡ length slots
  slot_count o [] = refl
  slot_count o (s ∷ slots) = ap suc (slot_count (o + 8) slots)

  pub count_is : length (slot_places 0 f.slots) ≡ length f.slots
  count_is = slot_count 0 f.slots

-- Ranges with an instruction behind them.
use Rattle.std.proofs.Common.{◌≡◌, ◌⊎◌, ◌↔◌, ℕ, zero, suc, ◌+◌, ◌-◌, ◌<◌, ◌≤◌, Bool, true, false, cond, List, [], ◌∷◌, refl, ap, arith, nat_eq}
use Rattle.std.proofs.Common.{eqb-true, inl, inr, Contains}
use Rattle.std.proofs.lemmas.Bool.{cases_lt, eqb-false}
use Rattle.dwarf_rnglists.specs.declared.range.AddressRange.{AddressRange}
use Rattle.dwarf_rnglists.specs.Ranges.{Ascend, Cover}
use Rattle.scope_ranges.specs.steps.Entered.{joined}

abbrev pub range : (lo hi : ℕ) → AddressRange
range lo hi = record { lo = lo; hi = hi }

-- an address is in one of the ranges
abbrev pub Covers : List AddressRange → ℕ → Type 0
Covers [] x = ⊥
Covers (r ∷ rs) x = ((r.lo ≤ x) × (x < r.hi)) ⊎ Covers rs x

pub cover_to : (rs : List AddressRange) (x : ℕ) → Cover rs x → Covers rs x
cover_to [] x (r, (k, below, e), inside) = absurd (omega (arith, below))
cover_to (s ∷ rs) x (r, (zero, below, e), inside) =
    let lo : s.lo ≡ r.lo = ap (λ (t : AddressRange). t.lo) e in
    let hi : s.hi ≡ r.hi = ap (λ (t : AddressRange). t.hi) e in
    let from : r.lo ≤ x = inside.0 in
    let to : x < r.hi = inside.1 in
    inl (omega (arith, lo, from), omega (arith, hi, to))
cover_to (s ∷ rs) x (r, (suc k, below, e), inside) = inr (cover_to rs x (r, (k, omega (arith, below), e), inside))

pub cover_from : (rs : List AddressRange) (x : ℕ) → Covers rs x → Cover rs x
cover_from [] x h = absurd h
cover_from (s ∷ rs) x (inl inside) = (s, (zero, omega arith, refl), inside)
cover_from (s ∷ rs) x (inr h) = later (cover_from rs x h)
  where
    later : Cover rs x → Cover (s ∷ rs) x
    later (r, (k, below, e), inside) = (r, (suc k, omega (arith, below), e), inside)

-- ranges begin behind an address
abbrev Begin : ℕ → List AddressRange → Type 0
Begin a [] = Unit {0}
Begin a (r ∷ rs) = a < r.lo

-- ranges end at an address or before it
abbrev pub EndBy : ℕ → List AddressRange → Type 0
EndBy a [] = Unit {0}
EndBy a (r ∷ rs) = (r.hi ≤ a) × EndBy a rs

ascend_tail : (r : AddressRange) (rs : List AddressRange) → Ascend (r ∷ rs) → Ascend rs
ascend_tail r [] up = tt
ascend_tail r (s ∷ rs) up = up.2

ascend_head : (r : AddressRange) (rs : List AddressRange) → Ascend (r ∷ rs) → r.lo < r.hi
ascend_head r [] up = up
ascend_head r (s ∷ rs) up = up.0

ascend_begin : (r : AddressRange) (rs : List AddressRange) → Ascend (r ∷ rs) → Begin r.hi rs
ascend_begin r [] up = tt
ascend_begin r (s ∷ rs) up = up.1

ascend_cons : (r : AddressRange) (rs : List AddressRange) → r.lo < r.hi → Begin r.hi rs → Ascend rs → Ascend (r ∷ rs)
ascend_cons r [] long begin up = long
ascend_cons r (s ∷ rs) long begin up = (long, begin, up)

-- ranges whose addresses are all below an address end there or before it
pub end_by : (a : ℕ) (rs : List AddressRange) → Ascend rs → ((x : ℕ) → Covers rs x → x < a) → EndBy a rs
end_by a [] up below = tt
end_by a (r ∷ rs) up below =
    let long : r.lo < r.hi = ascend_head r rs up in
    let last : r.hi - 1 < a = below (r.hi - 1) (inl (omega (arith, long), omega (arith, long))) in
    (omega (arith, long, last), end_by a rs (ascend_tail r rs up) (λ x h. below x (inr h)))

module _ (lo hi : ℕ) (long : lo < hi) where
  joined_begin : (a : ℕ) (s : AddressRange) (rs : List AddressRange) → Begin a (s ∷ rs) → Begin a (joined (s ∷ rs) lo hi)
  joined_begin a s [] begin = by (nat_eq s.hi lo)
    where
      by : (z : Bool) → Begin a (cond z (range s.lo hi ∷ []) (s ∷ range lo hi ∷ []))
      by true = begin
      by false = begin
  joined_begin a s (t ∷ rs) begin = begin

  pub joined_ascend : (rs : List AddressRange) → Ascend rs → EndBy lo rs → Ascend (joined rs lo hi)
  joined_ascend [] up ends = long
  joined_ascend (r ∷ []) up ends = by (nat_eq r.hi lo) refl
    where
      by : (z : Bool) → nat_eq r.hi lo ≡ z → Ascend (cond z (range r.lo hi ∷ []) (r ∷ range lo hi ∷ []))
      by true e = let same : r.hi ≡ lo = eqb-true r.hi lo e in let some : r.lo < r.hi = up in omega (arith, same, some, long)
      by false e =
          let other : (r.hi ≡ lo) → ⊥ = eqb-false r.hi lo e in
          let end : r.hi ≤ lo = ends.0 in
          let less : r.hi < lo = omega (arith, other, end) in
          (up, less, long)
  joined_ascend (r ∷ s ∷ rs) up ends =
      ascend_cons r (joined (s ∷ rs) lo hi) up.0 (joined_begin r.hi s rs up.1) (joined_ascend (s ∷ rs) up.2 ends.1)

  pub joined_covers : (rs : List AddressRange) (x : ℕ) → Ascend rs → Covers (joined rs lo hi) x → Covers rs x ⊎ ((lo ≤ x) × (x < hi))
  joined_covers [] x up (inl inside) = inr inside
  joined_covers [] x up (inr h) = absurd h
  joined_covers (r ∷ []) x up h = by (nat_eq r.hi lo) refl h
    where
      by : (z : Bool) → nat_eq r.hi lo ≡ z → Covers (cond z (range r.lo hi ∷ []) (r ∷ range lo hi ∷ [])) x → Covers (r ∷ []) x ⊎ ((lo ≤ x) × (x < hi))
      by true e (inl inside) = elim (cases_lt x r.hi) [
        | inl below ↦ inl (inl (inside.0, below))
        | inr past ↦ let same : r.hi ≡ lo = eqb-true r.hi lo e in inr (omega (arith, same, past), inside.1)
      ]
      by true e (inr none) = absurd none
      by false e (inl inside) = inl (inl inside)
      by false e (inr (inl inside)) = inr inside
      by false e (inr (inr none)) = absurd none
  joined_covers (r ∷ s ∷ rs) x up (inl inside) = inl (inl inside)
  joined_covers (r ∷ s ∷ rs) x up (inr h) = elim (joined_covers (s ∷ rs) x up.2 h) [ inl found ↦ inl (inr found) | inr own ↦ inr own ]

  pub covers_joined : (rs : List AddressRange) (x : ℕ) → Ascend rs → Covers rs x ⊎ ((lo ≤ x) × (x < hi)) → Covers (joined rs lo hi) x
  covers_joined [] x up (inl none) = absurd none
  covers_joined [] x up (inr inside) = inl inside
  covers_joined (r ∷ []) x up h = by (nat_eq r.hi lo) refl h
    where
      by : (z : Bool) → nat_eq r.hi lo ≡ z → Covers (r ∷ []) x ⊎ ((lo ≤ x) × (x < hi)) → Covers (cond z (range r.lo hi ∷ []) (r ∷ range lo hi ∷ [])) x
      by true e (inl (inl inside)) =
          let same : r.hi ≡ lo = eqb-true r.hi lo e in
          let to : x < r.hi = inside.1 in
          inl (inside.0, omega (arith, same, to, long))
      by true e (inl (inr none)) = absurd none
      by true e (inr inside) =
          let same : r.hi ≡ lo = eqb-true r.hi lo e in
          let some : r.lo < r.hi = up in
          let from : lo ≤ x = inside.0 in
          inl (omega (arith, same, some, from), inside.1)
      by false e (inl (inl inside)) = inl inside
      by false e (inl (inr none)) = absurd none
      by false e (inr inside) = inr (inl inside)
  covers_joined (r ∷ s ∷ rs) x up (inl (inl inside)) = inl inside
  covers_joined (r ∷ s ∷ rs) x up (inl (inr h)) = inr (covers_joined (s ∷ rs) x up.2 (inl h))
  covers_joined (r ∷ s ∷ rs) x up (inr inside) = inr (covers_joined (s ∷ rs) x up.2 (inr inside))

-- The places of saved registers: above the slots, and of registers that are no results.
use Rattle.std.proofs.Common.{◌≡◌, ℕ, zero, suc, ◌+◌, ◌*◌, ◌<◌, ◌≤◌, List, [], ◌∷◌, length, All, Contains, ◌⊎◌, inl, inr, Bool, true, false, cond, ◌&&◌, ◌||◌}
use Rattle.std.proofs.Common.{nat_le}
use Rattle.std.proofs.Common.{filter, refl, sym, ap, ◌∙◌, subst, arith}
use Rattle.std.specs.List.{list_all}
use Rattle.std.proofs.lemmas.Bool.{leb-true, and_parts}
use Rattle.std.proofs.lemmas.List.Elements.{All-nil, All-cons, All-head, All-tail, All-filter, All-contains_itself}
use Rattle.mir_func.specs.declared.framed.SavedRegister.{SavedRegister}
use Rattle.mir_func.specs.Function.{Function}
use Rattle.mir_func.specs.SoundFrame.{SAVED}
use Rattle.frame_rule.specs.Rule.{saved_places, saved_registers, saved_of, size_of, is_set}

-- a register that is passed where control leaves back to the caller: a result, or the argument or the callee of a call in tail position
abbrev pub IsPassed : ℕ → Type 0
IsPassed r = ((6 ≤ r) × (r ≤ 7)) ⊎ (((10 ≤ r) × (r ≤ 17)) ⊎ (28 ≤ r))

pub passed_two : (r : ℕ) → IsPassed r → r ≡ 2 → ⊥
passed_two r (inl p) e = let x = p.0 in omega (arith, x, e)
passed_two r (inr (inl p)) e = let x = p.0 in omega (arith, x, e)
passed_two r (inr (inr p)) e = omega (arith, p, e)

-- a register that is given back: physical, and neither an argument nor a result
abbrev pub IsGivenBack : ℕ → Type 0
IsGivenBack r = (r < 32) × (IsPassed r → ⊥) × (r ≡ 0 → ⊥) × (r ≡ 2 → ⊥)

apart : (r : ℕ) → (r ≤ 5) ⊎ (((8 ≤ r) × (r ≤ 9)) ⊎ ((18 ≤ r) × (r ≤ 27))) → IsPassed r → ⊥
apart r (inl a) (inl p) = let x = p.0 in omega (arith, a, x)
apart r (inl a) (inr (inl p)) = let x = p.0 in omega (arith, a, x)
apart r (inl a) (inr (inr p)) = omega (arith, a, p)
apart r (inr (inl a)) (inl p) = let x = a.0 in let y = p.1 in omega (arith, x, y)
apart r (inr (inl a)) (inr (inl p)) = let x = a.1 in let y = p.0 in omega (arith, x, y)
apart r (inr (inl a)) (inr (inr p)) = let x = a.1 in omega (arith, x, p)
apart r (inr (inr a)) (inl p) = let x = a.0 in let y = p.1 in omega (arith, x, y)
apart r (inr (inr a)) (inr (inl p)) = let x = a.0 in let y = p.1 in omega (arith, x, y)
apart r (inr (inr a)) (inr (inr p)) = let x = a.1 in omega (arith, x, p)

low : (r : ℕ) → r ≡ 1 → IsGivenBack r
low r e = (omega (arith, e), apart r (inl (omega (arith, e))), (λ a. omega (arith, e, a)), λ a. omega (arith, e, a))

middle : (r : ℕ) → 8 ≤ r → r ≤ 9 → IsGivenBack r
middle r x y = (omega (arith, y), apart r (inr (inl (x, y))), (λ a. omega (arith, x, a)), λ a. omega (arith, x, a))

high : (r : ℕ) → 18 ≤ r → r ≤ 27 → IsGivenBack r
high r x y = (omega (arith, y), apart r (inr (inr (x, y))), (λ a. omega (arith, x, a)), λ a. omega (arith, x, a))

pub or_cases : (a b : Bool) → (a || b) ≡ true → (a ≡ true) ⊎ (b ≡ true)
or_cases true b h = inl refl
or_cases false b h = inr h

-- the same as a test
is_given : ℕ → Bool
is_given r = (nat_le 1 r && nat_le r 1) || ((nat_le 8 r && nat_le r 9) || (nat_le 18 r && nat_le r 27))

given_by : (r : ℕ) → is_given r ≡ true → IsGivenBack r
unfolding is_given
given_by r h = elim (or_cases (nat_le 1 r && nat_le r 1) ((nat_le 8 r && nat_le r 9) || (nat_le 18 r && nat_le r 27)) h) [
  | inl a ↦ (let p = and_parts (nat_le 1 r) (nat_le r 1) a in let x = leb-true 1 r p.0 in let y = leb-true r 1 p.1 in low r (omega (arith, x, y)))
  | inr b ↦ elim (or_cases (nat_le 8 r && nat_le r 9) (nat_le 18 r && nat_le r 27) b) [
    | inl a ↦ (let p = and_parts (nat_le 8 r) (nat_le r 9) a in middle r (leb-true 8 r p.0) (leb-true r 9 p.1))
    | inr a ↦ (let p = and_parts (nat_le 18 r) (nat_le r 27) a in high r (leb-true 18 r p.0) (leb-true r 27 p.1))
  ]
]

all_by : (rs : List ℕ) → list_all is_given rs ≡ true → All IsGivenBack rs
all_by [] h = All-nil IsGivenBack
all_by (r ∷ rs) h = let p = and_parts (is_given r) (list_all is_given rs) h in All-cons IsGivenBack r rs (given_by r p.0) (all_by rs p.1)

pub all_given : All IsGivenBack SAVED
unfolding is_given
all_given = all_by SAVED refl

-- what is saved from an offset on
record IsPlace (o : ℕ) (s : SavedRegister) : Type 0 where
  above : o ≤ s.offset
  register : IsGivenBack s.register

no_member : {A : Type 0} (x : A) → Contains [] x → ⊥
no_member x (k, lt, e) = absurd (omega (arith, lt))

places : (o : ℕ) (rs : List ℕ) → All IsGivenBack rs → (s : SavedRegister) → Contains (saved_places o rs) s → IsPlace o s
places o [] h s k = absurd (no_member s k)
places o (r ∷ rs) h s (zero, lt, e) = record {
  above = subst (λ (z : SavedRegister). o ≤ z.offset) e (omega arith);
  register = subst (λ (z : SavedRegister). IsGivenBack z.register) e (All-head IsGivenBack r rs h);
}
places o (r ∷ rs) h s (suc k, lt, e) =
    let w = places (o + 8) rs (All-tail IsGivenBack r rs h) s (k, omega (arith, lt), e) in
    let a = w.above in
    record { above = omega (arith, a); register = w.register }

pub saved_above : (f : Function) (s : SavedRegister) → Contains (saved_of f) s → 8 * length f.slots ≤ s.offset
saved_above f s k = (places (8 * length f.slots) (saved_registers f.blocks) (All-filter (is_set f.blocks) IsGivenBack SAVED all_given) s k).above

pub saved_given : (f : Function) (s : SavedRegister) → Contains (saved_of f) s → IsGivenBack s.register
saved_given f s k = (places (8 * length f.slots) (saved_registers f.blocks) (All-filter (is_set f.blocks) IsGivenBack SAVED all_given) s k).register

registers_in : (P : ℕ → Type 0) (o : ℕ) (rs : List ℕ) → All P rs → (s : SavedRegister) → Contains (saved_places o rs) s → P s.register
registers_in P o [] h s k = absurd (no_member s k)
registers_in P o (r ∷ rs) h s (zero, lt, e) = subst (λ (z : SavedRegister). P z.register) e (All-head P r rs h)
registers_in P o (r ∷ rs) h s (suc k, lt, e) = registers_in P (o + 8) rs (All-tail P r rs h) s (k, omega (arith, lt), e)

-- they are among those that a function gives back
pub saved_in : (f : Function) (s : SavedRegister) → Contains (saved_of f) s → Contains SAVED s.register
saved_in f s k =
    registers_in (Contains SAVED) (8 * length f.slots) (saved_registers f.blocks)
    (All-filter (is_set f.blocks) (Contains SAVED) SAVED (All-contains_itself SAVED)) s k

-- and each that some code sets is one of them
place_of : (o : ℕ) (rs : List ℕ) (r : ℕ) → Contains rs r → (s : SavedRegister) × Contains (saved_places o rs) s × (s.register ≡ r)
place_of o [] r k = absurd (no_member r k)
place_of o (q ∷ rs) r (zero, lt, e) = (record { register = q; offset = o }, (0, omega arith, refl), e)
place_of o (q ∷ rs) r (suc k, lt, e) =
    let w = place_of (o + 8) rs r (k, omega (arith, lt), e) in let c = w.1 in (w.0, (suc c.0, (let l = c.1 in omega (arith, l)), c.2), w.2)

kept_in : (p : ℕ → Bool) (rs : List ℕ) (r : ℕ) → Contains rs r → p r ≡ true → Contains (filter p rs) r
kept_in p [] r k e = absurd (no_member r k)
kept_in p (q ∷ rs) r (zero, lt, w) e =
    subst (λ (b : Bool). Contains (cond b (q ∷ filter p rs) (filter p rs)) r) (sym (ap p w ∙ e)) (0, omega arith, w)
kept_in p (q ∷ rs) r (suc k, lt, w) e = by_test (p q) (kept_in p rs r (k, omega (arith, lt), w) e) where
  by_test : (b : Bool) → Contains (filter p rs) r → Contains (cond b (q ∷ filter p rs) (filter p rs)) r
  by_test true (j, l, z) = (suc j, omega (arith, l), z)
  by_test false h = h

pub set_is_saved : (f : Function) (r : ℕ) → Contains SAVED r → is_set f.blocks r ≡ true →
    (s : SavedRegister) × Contains (saved_of f) s × (s.register ≡ r)
set_is_saved f r k e = place_of (8 * length f.slots) (saved_registers f.blocks) r (kept_in (is_set f.blocks) SAVED r k e)

-- where there is no frame, nothing is saved
pub none_saved : (f : Function) → size_of f ≡ 0 → saved_of f ≡ []
none_saved f e = by_registers (saved_registers f.blocks) refl where
  by_registers : (rs : List ℕ) → saved_registers f.blocks ≡ rs → saved_places (8 * length f.slots) rs ≡ []
  by_registers [] k = refl
  by_registers (r ∷ rs) k =
      let n : length (saved_registers f.blocks) ≡ suc (length rs) = ap length k in
      absurd (omega (arith, e, n))

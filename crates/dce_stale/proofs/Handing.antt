-- Handing on to sets that places are wrong: to none, to one, and one after another.
use Rattle.std.proofs.Common.{◌≡◌, ◌⊎◌, ℕ, zero, suc, ◌+◌, ◌<◌, ◌≤◌, Bool, true, false, ◌||◌, List, [], ◌∷◌, length, get_or, slice_set, Option, Some, None}
use Rattle.std.proofs.Common.{refl, sym, ap, ◌∙◌, inl, inr, arith, subst}
use Rattle.std.specs.Prelude.{Contains}
use Rattle.std.proofs.lemmas.Bool.{cases_eq}
use Rattle.std.proofs.lemmas.List.{get_or-set_other, get_or-set_same, length-set, set-get_or}
use Rattle.std.proofs.lemmas.List.Sums.{sum_by-set}
use Rattle.rv64_instr.specs.declared.place.Place.{Place}
use Rattle.pass_liveness.specs.Index.{index_in}
use Rattle.pass_liveness.specs.Sets.{has, has_bit, gap}
use Rattle.pass_liveness.specs.Liveness.{has_at_start, set_at}
use Rattle.pass_liveness.specs.Solving.{gap_of}
use Rattle.pass_liveness.proofs.Indices.{index_is, index_there}
use Rattle.pass_liveness.proofs.Places.{has_united, has_nothing}
use Rattle.dce_stale.specs.Sets.{Handed}

or_cases : (a b : Bool) → (a || b) ≡ true → (a ≡ true) ⊎ (b ≡ true)
or_cases true b e = inl refl
or_cases false b e = inr e

or_right : (a b : Bool) → b ≡ true → (a || b) ≡ true
or_right true b e = refl
or_right false b e = e

any : (xs : List ℕ) (k d e : ℕ) → k < length xs → get_or xs k d ≡ get_or xs k e
any [] k d e l = absurd (omega arith)
any (x ∷ xs) zero d e l = refl
any (x ∷ xs) (suc k) d e l = any xs k d e (omega arith)

-- a number that is there has an index
pub found_index : (ids : List ℕ) (n : ℕ) → Contains ids n → (i : ℕ) × (index_in ids n ≡ Some i)
found_index ids n (k, l, e) = index_there ids n k l (any ids k 0 n l ∙ e)

module _ {slots ids : List ℕ} where
  -- nothing is handed on
  pub handed_none : (old : List (List ℕ)) (From : ℕ → Place → Type 0) → ((n : ℕ) (x : Place) → Contains ids n → From n x → ⊥) →
      Handed slots ids old old From false
  handed_none old From never = record { long = refl; fuller = λ e. cc; same = λ e. refl; found = λ n x e. inl e; all = λ e n x c h. absurd (never n x c h) }

  -- the same is handed on, said otherwise
  pub handed_as : {old new : List (List ℕ)} {From To : ℕ → Place → Type 0} {grown : Bool} → Handed slots ids old new From grown →
      ((n : ℕ) (x : Place) → From n x → To n x) → ((n : ℕ) (x : Place) → To n x → From n x) → Handed slots ids old new To grown
  handed_as h there back = record {
    long = h.long;
    fuller = h.fuller;
    same = h.same;
    found = λ n x e. elim (h.found n x e) [ inl w ↦ inl w | inr w ↦ inr (there n x w) ];
    all = λ e n x c t. h.all e n x c (back n x t);
  }

  -- one after another, of which the second made some set grow, or none
  pub handed_grows : {old mid new : List (List ℕ)} {P Q : ℕ → Place → Type 0} {grown more : Bool} → Handed slots ids old mid P grown → more ≡ true →
      Handed slots ids mid new Q more → Handed slots ids old new (λ n x. P n x ⊎ Q n x) true
  handed_grows {old} {mid} {new} {P} {Q} {grown} {more} h g k = record {
    long = k.long ∙ h.long;
    fuller = λ e.
        let less : gap_of new < gap_of mid = k.fuller g in
        let most : gap_of mid ≤ gap_of old = by_grown grown h.fuller h.same in omega arith;
    same = λ e. cc;
    found = λ n x e. elim (k.found n x e) [
      | inl w ↦ elim (h.found n x w) [ inl v ↦ inl v | inr v ↦ inr (inl v) ]
      | inr w ↦ inr (inr w)
    ];
    all = λ e. cc;
  } where
    by_grown : (g : Bool) → (g ≡ true → gap_of mid < gap_of old) → (g ≡ false → mid ≡ old) → gap_of mid ≤ gap_of old
    by_grown true f e = let l : gap_of mid < gap_of old = f refl in omega arith
    by_grown false f e = let l : gap_of mid ≡ gap_of old = ap gap_of (e refl) in omega arith

  pub handed_stays : {old mid new : List (List ℕ)} {P Q : ℕ → Place → Type 0} {grown more : Bool} → Handed slots ids old mid P grown → more ≡ false →
      Handed slots ids mid new Q more → Handed slots ids old new (λ n x. P n x ⊎ Q n x) grown
  handed_stays {old} {mid} {new} {P} {Q} {grown} {more} h g k = record {
    long = k.long ∙ h.long;
    fuller = λ e. let less : gap_of mid < gap_of old = h.fuller e in let kept : gap_of new ≡ gap_of mid = ap gap_of (k.same g) in omega arith;
    same = λ e. k.same g ∙ h.same e;
    found = λ n x e. elim (k.found n x e) [
      | inl w ↦ elim (h.found n x w) [ inl v ↦ inl v | inr v ↦ inr (inl v) ]
      | inr w ↦ inr (inr w)
    ];
    all = λ e n x c t. elim t [
      | inl p ↦ h.all e n x c p
      | inr q ↦ subst (λ (s : List (List ℕ)). has_at_start slots ids s n x ≡ true) (h.same e) (k.all g n x c q)
    ];
  }

  -- to a number that isn't there
  pub handed_nowhere : (old : List (List ℕ)) (n : ℕ) (set : List ℕ) (o : Option ℕ) → o ≡ index_in ids n → o ≡ None →
      Handed slots ids old old (λ m x. (n ≡ m) × (has slots set x ≡ true)) false
  handed_nowhere old n set o at none = handed_none old (λ m x. (n ≡ m) × (has slots set x ≡ true)) (λ m x c (e, h).
      (let w = found_index ids m c in
      let f : None ≡ Some w.0 = sym none ∙ (at ∙ (ap (index_in ids) e ∙ w.1)) in cc))

  pub handed_past : (old : List (List ℕ)) (n : ℕ) (set : List ℕ) (i : ℕ) → Some i ≡ index_in ids n → length old ≡ length ids → length old ≤ i →
      Handed slots ids old old (λ m x. (n ≡ m) × (has slots set x ≡ true)) false
  handed_past old n set i at long past = (let l : i < length ids = (index_is ids n i (sym at)).0 in absurd (omega (arith, l, long, past)))

  -- one after another
  pub handed_both : {old mid new : List (List ℕ)} {P Q : ℕ → Place → Type 0} {a b : Bool} → Handed slots ids old mid P a → Handed slots ids mid new Q b →
      Handed slots ids old new (λ n x. P n x ⊎ Q n x) (a || b)
  handed_both {old} {mid} {new} {P} {Q} {a} {b} h k = by_second b refl where
    right : (g : Bool) → (g || true) ≡ true
    right true = refl
    right false = refl

    left : (g : Bool) → (g || false) ≡ g
    left true = refl
    left false = refl

    by_second : (z : Bool) → b ≡ z → Handed slots ids old new (λ n x. P n x ⊎ Q n x) (a || b)
    by_second true e = subst (λ (g : Bool). Handed slots ids old new (λ n x. P n x ⊎ Q n x) g) (sym (ap (λ (g : Bool). a || g) e ∙ right a))
        (handed_grows h e k)
    by_second false e = subst (λ (g : Bool). Handed slots ids old new (λ n x. P n x ⊎ Q n x) g) (sym (ap (λ (g : Bool). a || g) e ∙ left a))
        (handed_stays h e k)

-- to one of the sets
module _ (slots ids : List ℕ) (old : List (List ℕ)) (n i : ℕ) (set was now : List ℕ) (grown : Bool) (at : index_in ids n ≡ Some i) (here : i < length old)
    (is : get_or old i [] ≡ was) (all : (k : ℕ) → has_bit now k ≡ (has_bit was k || has_bit set k)) (fuller : grown ≡ true → gap now < gap was)
    (same : grown ≡ false → now ≡ was) where
  both : (x : Place) → has slots now x ≡ (has slots was x || has slots set x)
  both x = has_united slots was set now all x

  same_new : grown ≡ false → slice_set old i now ≡ old
  same_new e = ap (slice_set old i) (same e ∙ sym is) ∙ set-get_or old i []

  at_index : (m : ℕ) (x : Place) → index_in ids m ≡ Some i → has slots now x ≡ true →
      (has_at_start slots ids old m x ≡ true) ⊎ ((n ≡ m) × (has slots set x ≡ true))
  at_index m x found e = elim (or_cases (has slots was x) (has slots set x) (sym (both x) ∙ e)) [
    | inl w ↦ inl (ap (λ (o : Option ℕ). has slots (set_at old o) x) found ∙ (ap (λ (s : List ℕ). has slots s x) is ∙ w))
    | inr s ↦ inr (sym (index_is ids n i at).1 ∙ (index_is ids m i found).1, s)
  ]

  found_new : (m : ℕ) (x : Place) → has_at_start slots ids (slice_set old i now) m x ≡ true →
      (has_at_start slots ids old m x ≡ true) ⊎ ((n ≡ m) × (has slots set x ≡ true))
  found_new m x = by_index (index_in ids m) refl where
    by_index : (o : Option ℕ) → index_in ids m ≡ o → has slots (set_at (slice_set old i now) o) x ≡ true →
        (has_at_start slots ids old m x ≡ true) ⊎ ((n ≡ m) × (has slots set x ≡ true))
    by_index None f e = let c : false ≡ true = sym (has_nothing slots x) ∙ e in absurd cc
    by_index (Some j) f e = elim (cases_eq j i) [
      | inl s ↦ at_index m x (f ∙ ap (λ (k : ℕ). Some k) s)
          (sym (ap (λ (k : ℕ). has slots (get_or (slice_set old i now) k []) x) s ∙ ap (λ (w : List ℕ). has slots w x) (get_or-set_same old i now [] here)) ∙ e)
      | inr ne ↦ inl (ap (λ (o : Option ℕ). has slots (set_at old o) x) f
          ∙ (sym (ap (λ (w : List ℕ). has slots w x) (get_or-set_other old i j now [] ne)) ∙ e))
    ]

  pub handed_united : Handed slots ids old (slice_set old i now) (λ m x. (n ≡ m) × (has slots set x ≡ true)) grown
  handed_united = record {
    long = length-set old i now;
    fuller = λ e.
        let put : gap_of (slice_set old i now) + gap (get_or old i []) ≡ gap_of old + gap now = sum_by-set gap old i now [] here in
        let less : gap now < gap was = fuller e in
        let was_is : gap (get_or old i []) ≡ gap was = ap gap is in omega arith;
    same = same_new;
    found = found_new;
    all = λ e m x c (s, h).
        (let there : has slots now x ≡ true = both x ∙ or_right (has slots was x) (has slots set x) h in
        ap (λ (o : Option ℕ). has slots (set_at old o) x) (ap (index_in ids) (sym s) ∙ at) ∙ (ap (λ (w : List ℕ). has slots w x) (is ∙ sym (same e)) ∙ there));
  }

-- Ways and their ends.
use Rattle.std.proofs.Common.{◌≡◌, ℕ, ◌<◌, List, [], ◌∷◌, ◌++◌, Option, Some, None, Bool, true, false, not, ◌||◌, cond, nat_eq, refl, sym, ap, ◌∙◌, subst}
use Rattle.std.proofs.Common.{inl, inr, ◌⊎◌, ◌≤◌, arith, append_assoc, length, filter}
use Rattle.std.specs.Option.{IsSome, unwrap_or}
use Rattle.std.specs.Map.{lookup, keys_of}
use Rattle.std.proofs.lemmas.List.Folds.{list_any-append}
use Rattle.std.proofs.lemmas.Bool.{cases_eq, eq-eqb, ne_eqb}
use Rattle.fold_targets.specs.Ways.{OnWay, here, further, IsOnCircle, EndsAt, leads_nowhere, comes_round, goes_on}
use Rattle.fold_targets.specs.steps.Settled.{AreEnds, Chain, StayKnown, is_among}

pub some_of : (o : Option ℕ) → IsSome o → (e : ℕ) × (o ≡ Some e)
some_of None h = cc
some_of (Some e) h = (e, refl)

pub is_some_of : (o : Option ℕ) (e : ℕ) → o ≡ Some e → IsSome o
is_some_of None e h = cc
is_some_of (Some d) e h = refl

pub same_some : {o : Option ℕ} {a b : ℕ} → o ≡ Some a → o ≡ Some b → a ≡ b
same_some {o} {a} {b} h k = let e : Some a ≡ Some b = sym h ∙ k in cc

-- a number that a test finds is the one
pub test_of : (x q : ℕ) (z : Bool) → nat_eq x q ≡ z → ((z ≡ true) × (x ≡ q)) ⊎ ((z ≡ false) × (x ≡ q → ⊥))
test_of x q z h = elim (cases_eq x q) [
  | inl e ↦ inl (sym h ∙ eq-eqb x q e, e)
  | inr ne ↦ inr (sym h ∙ ne_eqb x q ne, ne)
]

-- a map's answer after a number got another: at the number, and elsewhere
pub put_at : (x q : ℕ) (v o new : Option ℕ) → new ≡ cond (nat_eq x q) v o → ((x ≡ q) × (new ≡ v)) ⊎ ((x ≡ q → ⊥) × (new ≡ o))
put_at x q v o new h = elim (test_of x q (nat_eq x q) refl) [
  | inl w ↦ inl (w.1, h ∙ ap (λ (z : Bool). cond z v o) w.0)
  | inr w ↦ inr (w.1, h ∙ ap (λ (z : Bool). cond z v o) w.0)
]

module _ (lead : ℕ → Option ℕ) where
  pub way_join : {a b c : ℕ} → OnWay lead a b → OnWay lead b c → OnWay lead a c
  way_join here w = w
  way_join (further e v) w = further e (way_join v w)

  -- ---- one end

  pub one_end : {b e d : ℕ} → EndsAt lead b e → EndsAt lead b d → e ≡ d
  one_end (leads_nowhere h) (leads_nowhere k) = refl
  one_end (leads_nowhere h) (comes_round k) = refl
  one_end (leads_nowhere h) (goes_on {b} {n} {e} k ne r) = let bad : None ≡ Some n = sym h ∙ k in cc
  one_end (comes_round h) (leads_nowhere k) = refl
  one_end (comes_round h) (comes_round k) = refl
  one_end (comes_round h) (goes_on k ne r) = absurd (ne h)
  one_end (goes_on {b} {n} {e} h ne r) (leads_nowhere k) = let bad : None ≡ Some n = sym k ∙ h in cc
  one_end (goes_on h ne r) (comes_round k) = absurd (ne k)
  one_end {b} {e} {d} (goes_on h ne r) (goes_on k mne s) = one_end r (subst (λ (z : ℕ). EndsAt lead z d) (same_some k h) s)

  -- ---- ends that are known

  pub known_on_way : (ends : ℕ → Option ℕ) → AreEnds lead ends → {a b : ℕ} → OnWay lead a b → IsSome (ends a) → IsSome (ends b)
  known_on_way ends are here k = k
  known_on_way ends are (further {b} {n} {e} to v) k =
      let w = some_of (ends b) k in
      known_on_way ends are v (are.closed b w.0 n w.1 to)

  -- a block whose end isn't known, before one whose end is
  pub next_end : (ends : ℕ → Option ℕ) → AreEnds lead ends → (x n e : ℕ) → lead x ≡ Some n → ends n ≡ Some e → ends x ≡ None → EndsAt lead x e
  next_end ends are x n e to known none = goes_on to apart (are.sound n e known) where
    apart : IsOnCircle lead x → ⊥
    apart w =
        let m : ℕ = w.0 in
        let same : m ≡ n = same_some w.1 to in
        let k : IsSome (ends x) = known_on_way ends are w.2 (subst (λ (z : ℕ). IsSome (ends z)) (sym same) (is_some_of (ends n) e known)) in
        let bad : IsSome {T = ℕ} None = subst (λ (z : Option ℕ). IsSome z) none k in
        cc

  pub end_added : (ends new : ℕ → Option ℕ) → AreEnds lead ends → (x e : ℕ) → EndsAt lead x e → ((m : ℕ) → lead x ≡ Some m → IsSome (ends m)) →
      ((q : ℕ) → new q ≡ cond (nat_eq x q) (Some e) (ends q)) → AreEnds lead new
  end_added ends new are x e at next now = record { sound = sound; closed = closed } where
    stays : (q : ℕ) → IsSome (ends q) → IsSome (new q)
    stays q h = elim (put_at x q (Some e) (ends q) (new q) (now q)) [
      | inl w ↦ is_some_of (new q) e w.1
      | inr w ↦ subst (λ (z : Option ℕ). IsSome z) (sym w.1) h
    ]

    sound : (q d : ℕ) → new q ≡ Some d → EndsAt lead q d
    sound q d h = elim (put_at x q (Some e) (ends q) (new q) (now q)) [
      | inl w ↦ (let same : e ≡ d = same_some w.1 h in
          subst (λ (z : ℕ). EndsAt lead z d) w.0 (subst (EndsAt lead x) same at))
      | inr w ↦ are.sound q d (sym w.1 ∙ h)
    ]

    closed : (q d m : ℕ) → new q ≡ Some d → lead q ≡ Some m → IsSome (new m)
    closed q d m h to = elim (put_at x q (Some e) (ends q) (new q) (now q)) [
      | inl w ↦ stays m (next m (ap lead w.0 ∙ to))
      | inr w ↦ stays m (are.closed q d m (sym w.1 ∙ h) to)
    ]

  -- ---- chains of blocks

  pub chain_split : (from : ℕ) (xs ys : List ℕ) (r : ℕ) → Chain lead from (xs ++ ys) r → (c : ℕ) × Chain lead from xs c × Chain lead c ys r
  chain_split from [] ys r h = (from, refl, h)
  chain_split from (x ∷ xs) ys r h = let w = chain_split h.1.0 xs ys r h.1.2 in (w.0, (h.0, (h.1.0, h.1.1, w.1)), w.2)

  pub chain_push : (from : ℕ) (xs : List ℕ) (r n : ℕ) → Chain lead from xs r → lead r ≡ Some n → Chain lead from (xs ++ r ∷ []) n
  chain_push from [] r n h e = (sym h, (n, e, refl))
  chain_push from (x ∷ xs) r n h e = (h.0, (h.1.0, h.1.1, chain_push h.1.0 xs r n h.1.2 e))

  -- up to one of its blocks
  pub chain_cut : (from : ℕ) (xs : List ℕ) (x : ℕ) (ys : List ℕ) (r : ℕ) → Chain lead from (xs ++ x ∷ ys) r → Chain lead from xs x
  chain_cut from xs x ys r h = let w = chain_split from xs (x ∷ ys) r h in subst (Chain lead from xs) (sym w.2.0) w.1

  -- from one of its blocks on
  pub chain_rest : (from : ℕ) (xs : List ℕ) (x : ℕ) (ys : List ℕ) (r : ℕ) → Chain lead from (xs ++ x ∷ ys) r → Chain lead x (x ∷ ys) r
  chain_rest from xs x ys r h = let w = chain_split from xs (x ∷ ys) r h in (refl, w.2.1)

  chain_way : (from : ℕ) (xs : List ℕ) (r : ℕ) → Chain lead from xs r → OnWay lead from r
  chain_way from [] r h = subst (OnWay lead from) h here
  chain_way from (x ∷ xs) r h = further (ap lead (sym h.0) ∙ h.1.1) (chain_way h.1.0 xs r h.1.2)

  -- one of its blocks is on the way, and leads on to the chain's end
  among_on : (from : ℕ) (xs : List ℕ) (r q : ℕ) → Chain lead from xs r → is_among xs q ≡ true →
      OnWay lead from q × ((n : ℕ) × (lead q ≡ Some n) × OnWay lead n r)
  among_on from [] r q h e = cc
  among_on from (x ∷ xs) r q h e = elim (test_of x q (nat_eq x q) refl) [
    | inl w ↦ (subst (OnWay lead from) (sym h.0 ∙ w.1) here, (h.1.0, ap lead (sym w.1) ∙ h.1.1, chain_way h.1.0 xs r h.1.2))
    | inr w ↦ (let k = among_on h.1.0 xs r q h.1.2 (sym (ap (λ (z : Bool). z || is_among xs q) w.0) ∙ e) in
        (further (ap lead (sym h.0) ∙ h.1.1) k.0, k.1))
  ]

  -- the block after one of its blocks is one of them too, or the chain's end
  next_among : (from : ℕ) (xs : List ℕ) (r q m : ℕ) → Chain lead from xs r → is_among xs q ≡ true → lead q ≡ Some m →
      (m ≡ r) ⊎ (is_among xs m ≡ true)
  next_among from [] r q m h e to = cc
  next_among from (x ∷ xs) r q m h e to = elim (test_of x q (nat_eq x q) refl) [
    | inl w ↦ after xs (same_some to (ap lead (sym w.1) ∙ h.1.1)) h.1.2
    | inr w ↦ (elim (next_among h.1.0 xs r q m h.1.2 (sym (ap (λ (z : Bool). z || is_among xs q) w.0) ∙ e) to) [
      | inl k ↦ inl k
      | inr k ↦ inr (or_true (nat_eq x m) (is_among xs m) k)
    ])
  ] where
    or_true : (a b : Bool) → b ≡ true → (a || b) ≡ true
    or_true true b k = refl
    or_true false b k = k

    after : (ys : List ℕ) → m ≡ h.1.0 → Chain lead h.1.0 ys r → (m ≡ r) ⊎ ((nat_eq x m || is_among ys m) ≡ true)
    after [] e k = inl (e ∙ k)
    after (y ∷ ys) e k =
        inr (or_true (nat_eq x m) (nat_eq y m || is_among ys m) (ap (λ (z : Bool). z || is_among ys m) (eq-eqb y m (k.0 ∙ sym e))))

  -- a circle, each of whose blocks is its own end
  pub circle_closes : (old new : ℕ → Option ℕ) (r : ℕ) (ps : List ℕ) → AreEnds lead old → Chain lead r (r ∷ ps) r →
      ((q : ℕ) → new q ≡ cond (is_among (r ∷ ps) q) (Some q) (old q)) → AreEnds lead new
  circle_closes old new r ps are h now = record { sound = sound; closed = closed } where
    by_test : (q : ℕ) (z : Bool) → is_among (r ∷ ps) q ≡ z →
        ((is_among (r ∷ ps) q ≡ true) × (new q ≡ Some q)) ⊎ ((is_among (r ∷ ps) q ≡ false) × (new q ≡ old q))
    by_test q true e = inl (e, now q ∙ ap (λ (z : Bool). cond z (Some q) (old q)) e)
    by_test q false e = inr (e, now q ∙ ap (λ (z : Bool). cond z (Some q) (old q)) e)

    circle : (q : ℕ) → is_among (r ∷ ps) q ≡ true → IsOnCircle lead q
    circle q e = let w = among_on r (r ∷ ps) r q h e in (w.1.0, w.1.1, way_join w.1.2 w.0)

    stays : (q : ℕ) → IsSome (old q) → IsSome (new q)
    stays q k = elim (by_test q (is_among (r ∷ ps) q) refl) [
      | inl w ↦ is_some_of (new q) q w.1
      | inr w ↦ subst (λ (z : Option ℕ). IsSome z) (sym w.1) k
    ]

    inside : (q : ℕ) → is_among (r ∷ ps) q ≡ true → IsSome (new q)
    inside q e = is_some_of (new q) q (now q ∙ ap (λ (z : Bool). cond z (Some q) (old q)) e)

    sound : (q d : ℕ) → new q ≡ Some d → EndsAt lead q d
    sound q d k = elim (by_test q (is_among (r ∷ ps) q) refl) [
      | inl w ↦ subst (EndsAt lead q) (same_some w.1 k) (comes_round (circle q w.0))
      | inr w ↦ are.sound q d (sym w.1 ∙ k)
    ]

    closed : (q d m : ℕ) → new q ≡ Some d → lead q ≡ Some m → IsSome (new m)
    closed q d m k to = elim (by_test q (is_among (r ∷ ps) q) refl) [
      | inl w ↦ (elim (next_among r (r ∷ ps) r q m h w.0 to) [
        | inl e ↦ inside m (ap (λ (z : Bool). z || is_among ps m) (eq-eqb r m (sym e)))
        | inr e ↦ inside m e
      ])
      | inr w ↦ stays m (are.closed q d m (sym w.1 ∙ k) to)
    ]

-- ---- a circle that is taken off the end of a way

pub popped_more : (old way new : List ℕ) (x : ℕ) (popped : List ℕ) → way ≡ new ++ x ∷ [] → way ++ popped ≡ old → new ++ x ∷ popped ≡ old
popped_more old way new x popped e h = sym (append_assoc new (x ∷ []) popped) ∙ ap (λ (z : List ℕ). z ++ popped) (sym e) ∙ h

pub put_among : (ends old new : ℕ → Option ℕ) (x : ℕ) (popped : List ℕ) → ((q : ℕ) → ends q ≡ cond (is_among popped q) (Some q) (old q)) →
    ((q : ℕ) → new q ≡ cond (nat_eq x q) (Some x) (ends q)) → (q : ℕ) → new q ≡ cond (is_among (x ∷ popped) q) (Some q) (old q)
put_among ends old new x popped h now q = elim (test_of x q (nat_eq x q) refl) [
  | inl w ↦ now q ∙ ap (λ (z : Bool). cond z (Some x) (ends q)) w.0 ∙ ap (λ (z : ℕ). Some z) w.1 ∙
      sym (ap (λ (z : Bool). cond (z || is_among popped q) (Some q) (old q)) w.0)
  | inr w ↦ now q ∙ ap (λ (z : Bool). cond z (Some x) (ends q)) w.0 ∙ h q ∙
      sym (ap (λ (z : Bool). cond (z || is_among popped q) (Some q) (old q)) w.0)
]

pub put_stays : (old new : ℕ → Option ℕ) (x e : ℕ) → ((q : ℕ) → new q ≡ cond (nat_eq x q) (Some e) (old q)) → StayKnown old new
put_stays old new x e now q h = elim (put_at x q (Some e) (old q) (new q) (now q)) [
  | inl w ↦ is_some_of (new q) e w.1
  | inr w ↦ subst (λ (z : Option ℕ). IsSome z) (sym w.1) h
]

pub put_here : (old new : ℕ → Option ℕ) (x e : ℕ) → ((q : ℕ) → new q ≡ cond (nat_eq x q) (Some e) (old q)) → new x ≡ Some e
put_here old new x e now = now x ∙ ap (λ (z : Bool). cond z (Some e) (old x)) (eq-eqb x x refl)

-- ---- a way that is walked

pub walked_more : (old new : ℕ → Bool) (way : List ℕ) (x : ℕ) → ((q : ℕ) → old q ≡ true → is_among way q ≡ true) →
    ((q : ℕ) → new q ≡ cond (nat_eq x q) true (old q)) → (q : ℕ) → new q ≡ true → is_among (way ++ x ∷ []) q ≡ true
walked_more old new way x h now q e =
    list_any-append (λ (y : ℕ). nat_eq y q) way (x ∷ []) ∙ (elim (test_of x q (nat_eq x q) refl) [
      | inl w ↦ ap (λ (z : Bool). is_among way q || (z || false)) w.0 ∙ or_right (is_among way q)
      | inr w ↦ ap (λ (z : Bool). z || (nat_eq x q || false)) (h q (sym (now q ∙ ap (λ (z : Bool). cond z true (old q)) w.0) ∙ e))
    ]) where
      or_right : (z : Bool) → (z || true) ≡ true
      or_right true = refl
      or_right false = refl

pub among_stays : (old new : ℕ → Option ℕ) (ps : List ℕ) → ((q : ℕ) → new q ≡ cond (is_among ps q) (Some q) (old q)) → StayKnown old new
among_stays old new ps now q h = by_test (is_among ps q) (now q) where
  by_test : (z : Bool) → new q ≡ cond z (Some q) (old q) → IsSome (new q)
  by_test true e = is_some_of (new q) q e
  by_test false e = subst (λ (z : Option ℕ). IsSome z) (sym e) h

-- the last block of a way is taken off
pub last_off : (lead : ℕ → Option ℕ) (from : ℕ) (way new : List ℕ) (x now : ℕ) → way ≡ new ++ x ∷ [] → Chain lead from way now →
    Chain lead from new x × (lead x ≡ Some now)
last_off lead from way new x now e h =
    let k : Chain lead from (new ++ x ∷ []) now = subst (λ (z : List ℕ). Chain lead from z now) e h in
    let w = chain_rest lead from new x [] now k in
    (chain_cut lead from new x [] now k, w.1.1 ∙ ap (λ (z : ℕ). Some z) w.1.2)

-- passing one leaves no more
no_more : (old new : ℕ → Bool) (es : List (ℕ × ℕ)) (x : ℕ) → ((q : ℕ) → new q ≡ cond (nat_eq x q) true (old q)) →
    length (filter (λ e. not (new e.0)) es) ≤ length (filter (λ e. not (old e.0)) es)
no_more old new [] x now = omega arith
no_more old new (e ∷ es) x now = let le = no_more old new es x now in elim (test_of x e.0 (nat_eq x e.0) refl) [
  | inl w ↦ (let a : new e.0 ≡ true = now e.0 ∙ ap (λ (z : Bool). cond z true (old e.0)) w.0 in
      rw a (either (old e.0) e (filter (λ d. not (new d.0)) es) (filter (λ d. not (old d.0)) es) le))
  | inr w ↦ (let a : new e.0 ≡ old e.0 = now e.0 ∙ ap (λ (z : Bool). cond z true (old e.0)) w.0 in
      rw a (both (old e.0) e (filter (λ d. not (new d.0)) es) (filter (λ d. not (old d.0)) es) le))
] where
  either : (z : Bool) (e : ℕ × ℕ) (xs ys : List (ℕ × ℕ)) → length xs ≤ length ys → length xs ≤ length (cond (not z) (e ∷ ys) ys)
  either true e xs ys le = le
  either false e xs ys le = omega (arith, le)

  both : (z : Bool) (e : ℕ × ℕ) (xs ys : List (ℕ × ℕ)) → length xs ≤ length ys → length (cond (not z) (e ∷ xs) xs) ≤ length (cond (not z) (e ∷ ys) ys)
  both true e xs ys le = le
  both false e xs ys le = omega (arith, le)

-- fewer keys are left once one of them is passed
pub fewer_left : (old new : ℕ → Bool) (es : List (ℕ × ℕ)) (x n : ℕ) → lookup (nat_eq x) es ≡ Some n → old x ≡ false →
    ((q : ℕ) → new q ≡ cond (nat_eq x q) true (old q)) → length (filter (λ e. not (new e.0)) es) < length (filter (λ e. not (old e.0)) es)
fewer_left old new [] x n found out now = cc
fewer_left old new (e ∷ es) x n found out now = elim (test_of x e.0 (nat_eq x e.0) refl) [
  | inl w ↦ (let a : new e.0 ≡ true = now e.0 ∙ ap (λ (z : Bool). cond z true (old e.0)) w.0 in
      let b : old e.0 ≡ false = ap old (sym w.1) ∙ out in
      let le = no_more old new es x now in
      rw a (rw b (omega (arith, le))))
  | inr w ↦ (let a : new e.0 ≡ old e.0 = now e.0 ∙ ap (λ (z : Bool). cond z true (old e.0)) w.0 in
      let lt = fewer_left old new es x n (sym (ap (λ (z : Bool). cond z (Some e.1) (lookup (nat_eq x) es)) w.0) ∙ found) out now in
      rw a (both (old e.0) (filter (λ d. not (new d.0)) es) (filter (λ d. not (old d.0)) es) lt))
] where
  both : (z : Bool) (xs ys : List (ℕ × ℕ)) → length xs < length ys → length (cond (not z) (e ∷ xs) xs) < length (cond (not z) (e ∷ ys) ys)
  both true xs ys lt = lt
  both false xs ys lt = omega (arith, lt)

-- a walk goes on only from a block whose end isn't known, and that it hasn't passed
pub goes_from : (known passed : Bool) (o : Option ℕ) (n : ℕ) → cond (known || passed) None o ≡ Some n → (passed ≡ false) × (o ≡ Some n)
goes_from true passed o n e = cc
goes_from false true o n e = cc
goes_from false false o n e = (refl, e)

-- ---- all keys

pub none_among : (ends : ℕ → Option ℕ) (q : ℕ) → IsSome (ends q) ⊎ (is_among [] q ≡ true) → IsSome (ends q)
none_among ends q (inl h) = h
none_among ends q (inr e) = cc

-- the end that a map of all ends has, where one that isn't told leads nowhere
pub end_of_all : (lead ends : ℕ → Option ℕ) → AreEnds lead ends → ((q : ℕ) → IsSome (lead q) → IsSome (ends q)) → (n : ℕ) →
    EndsAt lead n (unwrap_or (ends n) n)
end_of_all lead ends are all n = by_end (ends n) refl where
  by_lead : (o : Option ℕ) → lead n ≡ o → ends n ≡ None → EndsAt lead n n
  by_lead None e none = leads_nowhere e
  by_lead (Some m) e none =
      let k : IsSome (ends n) = all n (is_some_of (lead n) m e) in
      let bad : IsSome {T = ℕ} None = subst (λ (z : Option ℕ). IsSome z) none k in
      cc

  by_end : (o : Option ℕ) → ends n ≡ o → EndsAt lead n (unwrap_or o n)
  by_end None e = by_lead (lead n) refl e
  by_end (Some d) e = are.sound n d e

pub key_among : (es : List (ℕ × ℕ)) (q : ℕ) → IsSome (lookup (nat_eq q) es) → is_among (keys_of es) q ≡ true
key_among [] q h = cc
key_among (e ∷ es) q h = elim (test_of q e.0 (nat_eq q e.0) refl) [
  | inl w ↦ ap (λ (z : Bool). z || is_among (keys_of es) q) (eq-eqb e.0 q (sym w.1))
  | inr w ↦ ap (λ (z : Bool). z || is_among (keys_of es) q) (ne_eqb e.0 q (λ k. w.1 (sym k))) ∙
      key_among es q (subst (λ (z : Bool). IsSome (cond z (Some e.1) (lookup (nat_eq q) es))) w.0 h)
]

-- one more key's end is known
pub one_known : (old new : ℕ → Option ℕ) (x : ℕ) (rest : List ℕ) (q : ℕ) → IsSome (new x) → StayKnown old new →
    IsSome (old q) ⊎ (is_among (x ∷ rest) q ≡ true) → IsSome (new q) ⊎ (is_among rest q ≡ true)
one_known old new x rest q known stay (inl h) = inl (stay q h)
one_known old new x rest q known stay (inr h) = elim (test_of x q (nat_eq x q) refl) [
  | inl w ↦ inl (subst (λ (z : ℕ). IsSome (new z)) w.1 known)
  | inr w ↦ inr (sym (ap (λ (z : Bool). z || is_among rest q) w.0) ∙ h)
]

pub empty_ends : (lead : ℕ → Option ℕ) (es : List (ℕ × ℕ)) → es ≡ [] → AreEnds lead (λ n. lookup (nat_eq n) es)
empty_ends lead [] e = record { sound = λ n d k. absurd (none_some d k); closed = λ n d m k to. absurd (none_some d k) } where
  none_some : (d : ℕ) → None ≡ Some d → ⊥
  none_some d k = cc
empty_ends lead (x ∷ es) e = cc

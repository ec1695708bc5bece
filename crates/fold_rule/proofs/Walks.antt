-- Steps of the walk over the blocks that are reached.
use Rattle.std.proofs.Common.{◌≡◌, ◌⊎◌, ℕ, ◌+◌, ◌<◌, ◌≤◌, List, [], ◌∷◌, ◌++◌, length, filter, Option, Some, None, Bool, true, false, not, ◌||◌, cond}
use Rattle.std.proofs.Common.{nat_eq, option_to_list, refl, sym, ap, ◌∙◌, subst, inl, inr, arith, length-append}
use Rattle.std.specs.Option.{option_map}
use Rattle.std.specs.List.{list_any}
use Rattle.std.specs.Map.{lookup}
use Rattle.std.proofs.lemmas.List.Folds.{list_any-append}
use Rattle.std.proofs.lemmas.Bool.{eq-eqb}
use Rattle.mir_func.specs.declared.block.Block.{Block}
use Rattle.fold_targets.specs.Leads.{first_id}
use Rattle.fold_targets.specs.steps.Settled.{is_among}
use Rattle.fold_targets.proofs.Ways.{test_of}
use Rattle.fold_rule.specs.declared.ways.Ways.{Ways}
use Rattle.fold_rule.specs.Tails.{is_number}
use Rattle.fold_rule.specs.Reached.{ways_in, LeadTo, Reached, first, onward}
use Rattle.fold_rule.specs.steps.Walked.{ended, fresh, targets_of, IsWalk}

or_left : (a b : Bool) → a ≡ true → (a || b) ≡ true
or_left a b h = ap (λ (z : Bool). z || b) h

or_right : (a b : Bool) → b ≡ true → (a || b) ≡ true
or_right true b h = refl
or_right false b h = h

either : (a b : Bool) → (a || b) ≡ true → (a ≡ true) ⊎ (b ≡ true)
either true b h = inl refl
either false b h = inr h

among_left : (xs ys : List ℕ) (q : ℕ) → is_among xs q ≡ true → is_among (xs ++ ys) q ≡ true
among_left xs ys q h = list_any-append (λ (x : ℕ). nat_eq x q) xs ys ∙ or_left (is_among xs q) (is_among ys q) h

among_right : (xs ys : List ℕ) (q : ℕ) → is_among ys q ≡ true → is_among (xs ++ ys) q ≡ true
among_right xs ys q h = list_any-append (λ (x : ℕ). nat_eq x q) xs ys ∙ or_right (is_among xs q) (is_among ys q) h

among_either : (xs ys : List ℕ) (q : ℕ) → is_among (xs ++ ys) q ≡ true → (is_among xs q ≡ true) ⊎ (is_among ys q ≡ true)
among_either xs ys q h = either (is_among xs q) (is_among ys q) (sym (list_any-append (λ (x : ℕ). nat_eq x q) xs ys) ∙ h)

same_number : (m q : ℕ) → nat_eq m q ≡ true → m ≡ q
same_number m q h = elim (test_of m q (nat_eq m q) refl) [
  | inl w ↦ w.1
  | inr w ↦ (let bad : false ≡ true = sym w.0 ∙ h in cc)
]

number_is : (o : Option ℕ) (q : ℕ) → is_number o q ≡ true → o ≡ Some q
number_is None q h = cc
number_is (Some m) q h = ap (λ (z : ℕ). Some z) (same_number m q h)

is_that_number : (o : Option ℕ) (q : ℕ) → o ≡ Some q → is_number o q ≡ true
is_that_number o q h = ap (λ (z : Option ℕ). is_number z q) h ∙ eq-eqb q q refl

-- what is fresh is the number
fresh_is : (seen : ℕ → Bool) (o : Option ℕ) (q : ℕ) → is_among (fresh seen o) q ≡ true → is_number o q ≡ true
fresh_is seen None q h = cc
fresh_is seen (Some m) q h = by_seen (seen m) h where
  by_seen : (z : Bool) → is_among (cond z [] (m ∷ [])) q ≡ true → nat_eq m q ≡ true
  by_seen true k = cc
  by_seen false k = (elim (either (nat_eq m q) false k) [ inl e ↦ e | inr e ↦ (let bad : false ≡ true = e in cc) ])

-- what is seen was seen before, or is fresh
new_seen : (seen : ℕ → Bool) (o : Option ℕ) (q : ℕ) → (seen q || is_number o q) ≡ true → (seen q ≡ true) ⊎ (is_among (fresh seen o) q ≡ true)
new_seen seen None q h = elim (either (seen q) false h) [ inl e ↦ inl e | inr e ↦ (let bad : false ≡ true = e in cc) ]
new_seen seen (Some m) q h = by_seen (seen q) refl where
  by_seen : (z : Bool) → seen q ≡ z → (seen q ≡ true) ⊎ (is_among (cond (seen m) [] (m ∷ [])) q ≡ true)
  by_seen true k = inl k
  by_seen false k =
      let at : nat_eq m q ≡ true = sym (ap (λ (z : Bool). z || nat_eq m q) k) ∙ h in
      let out : seen m ≡ false = ap seen (same_number m q at) ∙ k in
      inr (ap (λ (z : Bool). is_among (cond z [] (m ∷ [])) q) out ∙ or_left (nat_eq m q) false at)

module _ (blocks : List Block) (end : ℕ → ℕ) (ways : ℕ → Option Ways) where
  pub begins : (o : Option ℕ) (none seen : ℕ → Bool) (waiting : List ℕ) → o ≡ first_id blocks → ((q : ℕ) → none q ≡ false) →
      ((q : ℕ) → seen q ≡ (none q || is_number o q)) → waiting ≡ [] ++ fresh none o → IsWalk blocks end ways seen waiting
  begins o none seen waiting e out now w = record { right = right; known = known; spread = spread; first = begin } where
    at : (q : ℕ) → seen q ≡ true → o ≡ Some q
    at q h = number_is o q (sym (ap (λ (z : Bool). z || is_number o q) (out q)) ∙ sym (now q) ∙ h)

    right : (q : ℕ) → seen q ≡ true → Reached blocks end q
    right q h = first (sym e ∙ at q h)

    known : (q : ℕ) → is_among waiting q ≡ true → seen q ≡ true
    known q h = now q ∙ or_right (none q) (is_number o q) (fresh_is none o q (sym (ap (λ (z : List ℕ). is_among z q) w) ∙ h))

    spread : (q n : ℕ) (v : Ways) → seen q ≡ true → ways q ≡ Some v → LeadTo v n → (is_among waiting q ≡ true) ⊎ (seen n ≡ true)
    spread q n v h k l = elim (new_seen none o q (sym (now q) ∙ h)) [
      | inl bad ↦ (let no : false ≡ true = sym (out q) ∙ bad in cc)
      | inr f ↦ inl (ap (λ (z : List ℕ). is_among z q) w ∙ f)
    ]

    begin : (n : ℕ) → first_id blocks ≡ Some n → seen n ≡ true
    begin n h = now n ∙ or_right (none n) (is_number o n) (is_that_number o n (e ∙ h))

  -- both ways from a block that waited are seen
  pub goes_on : (seen one two : ℕ → Bool) (old rest some more : List ℕ) (n : ℕ) (w : Ways) → IsWalk blocks end ways seen old →
      old ≡ rest ++ n ∷ [] → ways n ≡ Some w → ((m : ℕ) → LeadTo w m → Reached blocks end m) →
      ((q : ℕ) → one q ≡ (seen q || is_number w.branch q)) → some ≡ rest ++ fresh seen w.branch →
      ((q : ℕ) → two q ≡ (one q || is_number w.onward q)) → more ≡ some ++ fresh one w.onward → IsWalk blocks end ways two more
  goes_on seen one two old rest some more n w walk split at reach now1 add1 now2 add2 = record {
    right = right;
    known = known;
    spread = spread;
    first =
        begin;
  } where
    stays1 : (q : ℕ) → seen q ≡ true → one q ≡ true
    stays1 q h = now1 q ∙ or_left (seen q) (is_number w.branch q) h

    stays2 : (q : ℕ) → one q ≡ true → two q ≡ true
    stays2 q h = now2 q ∙ or_left (one q) (is_number w.onward q) h

    lead_seen : (m : ℕ) → LeadTo w m → two m ≡ true
    lead_seen m (inl e) = stays2 m (now1 m ∙ or_right (seen m) (is_number w.branch m) (is_that_number w.branch m e))
    lead_seen m (inr e) = now2 m ∙ or_right (one m) (is_number w.onward m) (is_that_number w.onward m e)

    in_some : (q : ℕ) → is_among some q ≡ true → is_among more q ≡ true
    in_some q h = ap (λ (z : List ℕ). is_among z q) add2 ∙ among_left some (fresh one w.onward) q h

    in_rest : (q : ℕ) → is_among rest q ≡ true → is_among more q ≡ true
    in_rest q h = in_some q (ap (λ (z : List ℕ). is_among z q) add1 ∙ among_left rest (fresh seen w.branch) q h)

    right : (q : ℕ) → two q ≡ true → Reached blocks end q
    right q h = elim (either (one q) (is_number w.onward q) (sym (now2 q) ∙ h)) [
      | inl k ↦ (elim (either (seen q) (is_number w.branch q) (sym (now1 q) ∙ k)) [
        | inl j ↦ walk.right q j
        | inr j ↦ reach q (inl (number_is w.branch q j))
      ])
      | inr k ↦ reach q (inr (number_is w.onward q k))
    ]

    known : (q : ℕ) → is_among more q ≡ true → two q ≡ true
    known q h = elim (among_either some (fresh one w.onward) q (sym (ap (λ (z : List ℕ). is_among z q) add2) ∙ h)) [
      | inl k ↦ (elim (among_either rest (fresh seen w.branch) q (sym (ap (λ (z : List ℕ). is_among z q) add1) ∙ k)) [
        | inl j ↦ stays2 q (stays1 q (walk.known q (ap (λ (z : List ℕ). is_among z q) split ∙ among_left rest (n ∷ []) q j)))
        | inr j ↦ stays2 q (now1 q ∙ or_right (seen q) (is_number w.branch q) (fresh_is seen w.branch q j))
      ])
      | inr k ↦ now2 q ∙ or_right (one q) (is_number w.onward q) (fresh_is one w.onward q k)
    ]

    same_ways : (v : Ways) → ways n ≡ Some v → v ≡ w
    same_ways v h = let e : Some v ≡ Some w = sym h ∙ at in cc

    old_one : (q m : ℕ) (v : Ways) → seen q ≡ true → ways q ≡ Some v → LeadTo v m → (is_among more q ≡ true) ⊎ (two m ≡ true)
    old_one q m v h k l = elim (walk.spread q m v h k l) [
      | inl j ↦ (elim (among_either rest (n ∷ []) q (sym (ap (λ (z : List ℕ). is_among z q) split) ∙ j)) [
        | inl i ↦ inl (in_rest q i)
        | inr i ↦ (elim (either (nat_eq n q) false i) [
          | inl e ↦ inr (lead_seen m (subst (λ (z : Ways). LeadTo z m) (same_ways v (ap ways (same_number n q e) ∙ k)) l))
          | inr e ↦ (let bad : false ≡ true = e in cc)
        ])
      ])
      | inr j ↦ inr (stays2 m (stays1 m j))
    ]

    spread : (q m : ℕ) (v : Ways) → two q ≡ true → ways q ≡ Some v → LeadTo v m → (is_among more q ≡ true) ⊎ (two m ≡ true)
    spread q m v h k l = elim (new_seen one w.onward q (sym (now2 q) ∙ h)) [
      | inl j ↦ (elim (new_seen seen w.branch q (sym (now1 q) ∙ j)) [
        | inl i ↦ old_one q m v i k l
        | inr i ↦ inl (in_some q (ap (λ (z : List ℕ). is_among z q) add1 ∙ among_right rest (fresh seen w.branch) q i))
      ])
      | inr j ↦ inl (ap (λ (z : List ℕ). is_among z q) add2 ∙ among_right some (fresh one w.onward) q j)
    ]

    begin : (m : ℕ) → first_id blocks ≡ Some m → two m ≡ true
    begin m h = stays2 m (stays1 m (walk.first m h))

  -- nothing leads on from a block that waited
  pub goes_nowhere : (seen : ℕ → Bool) (old rest : List ℕ) (n : ℕ) → IsWalk blocks end ways seen old → old ≡ rest ++ n ∷ [] → ways n ≡ None →
      IsWalk blocks end ways seen rest
  goes_nowhere seen old rest n walk split out = record {
    right = walk.right;
    known = λ q h. walk.known q (ap (λ (z : List ℕ). is_among z q) split ∙ among_left rest (n ∷ []) q h);
    spread = spread;
    first = walk.first;
  } where
    spread : (q m : ℕ) (v : Ways) → seen q ≡ true → ways q ≡ Some v → LeadTo v m → (is_among rest q ≡ true) ⊎ (seen m ≡ true)
    spread q m v h k l = elim (walk.spread q m v h k l) [
      | inl j ↦ (elim (among_either rest (n ∷ []) q (sym (ap (λ (z : List ℕ). is_among z q) split) ∙ j)) [
        | inl i ↦ inl i
        | inr i ↦ (elim (either (nat_eq n q) false i) [
          | inl e ↦ (let bad : None ≡ Some v = sym out ∙ ap ways (same_number n q e) ∙ k in cc)
          | inr e ↦ (let bad : false ≡ true = e in cc)
        ])
      ])
      | inr j ↦ inr j
    ]

ended_lead : (end : ℕ → ℕ) (w : Ways) (n : ℕ) → LeadTo w n → LeadTo (ended end w) (end n)
ended_lead end w n (inl e) = inl (ap (option_map end) e)
ended_lead end w n (inr e) = inr (ap (option_map end) e)

mapped : (end : ℕ → ℕ) (o : Option ℕ) (m : ℕ) → option_map end o ≡ Some m → (n : ℕ) × (o ≡ Some n) × (end n ≡ m)
mapped end None m e = cc
mapped end (Some n) m e = (n, refl, cc)

-- the ends of the ways from a block that is reached are reached
pub ways_reached : (blocks : List Block) (end : ℕ → ℕ) (n : ℕ) (w : Ways) → Reached blocks end n → option_map (ended end) (ways_in blocks n) ≡ Some w →
    (m : ℕ) → LeadTo w m → Reached blocks end m
ways_reached blocks end n w r e m l = by_ways (ways_in blocks n) refl e where
  by_ways : (o : Option Ways) → ways_in blocks n ≡ o → option_map (ended end) o ≡ Some w → Reached blocks end m
  by_ways None k h = cc
  by_ways (Some v) k h =
      let same : w ≡ ended end v = cc in
      by_lead (subst (λ (z : Ways). LeadTo z m) same l) where
        by_lead : LeadTo (ended end v) m → Reached blocks end m
        by_lead (inl i) = let p = mapped end v.branch m i in subst (Reached blocks end) p.2 (onward v r k (inl p.1))
        by_lead (inr i) = let p = mapped end v.onward m i in subst (Reached blocks end) p.2 (onward v r k (inr p.1))

-- where nothing waits, all that is reached is seen
pub all_seen : (blocks : List Block) (end : ℕ → ℕ) (ways : ℕ → Option Ways) (seen : ℕ → Bool) → IsWalk blocks end ways seen [] →
    ((n : ℕ) → ways n ≡ option_map (ended end) (ways_in blocks n)) → {n : ℕ} → Reached blocks end n → seen n ≡ true
all_seen blocks end ways seen walk is (first {n} e) = walk.first n e
all_seen blocks end ways seen walk is (onward {b} {n} w r e l) =
    elim (walk.spread b (end n) (ended end w) (all_seen blocks end ways seen walk is r) (is b ∙ ap (option_map (ended end)) e) (ended_lead end w n l)) [
      | inl k ↦ (let bad : false ≡ true = k in cc)
      | inr k ↦ k
    ]

-- ---- the walk ends

filter_le : (old new b : ℕ → Bool) (ts : List ℕ) → ((q : ℕ) → new q ≡ (old q || b q)) →
    length (filter (λ q. not (new q)) ts) ≤ length (filter (λ q. not (old q)) ts)
filter_le old new b [] now = omega arith
filter_le old new b (t ∷ ts) now = rw (now t) (by_test (old t) (b t) (filter (λ q. not (new q)) ts) (filter (λ q. not (old q)) ts) (filter_le old new b
    ts now)) where
      by_test : (y z : Bool) (xs ys : List ℕ) → length xs ≤ length ys → length (cond (not (y || z)) (t ∷ xs) xs) ≤ length (cond (not y) (t ∷ ys) ys)
      by_test true z xs ys le = le
      by_test false true xs ys le = omega (arith, le)
      by_test false false xs ys le = omega (arith, le)

filter_lt : (old new b : ℕ → Bool) (ts : List ℕ) (m : ℕ) → ((q : ℕ) → new q ≡ (old q || b q)) → is_among ts m ≡ true → old m ≡ false → b m ≡ true →
    length (filter (λ q. not (new q)) ts) < length (filter (λ q. not (old q)) ts)
filter_lt old new b [] m now at out has = cc
filter_lt old new b (t ∷ ts) m now at out has = elim (either (nat_eq t m) (is_among ts m) at) [
  | inl e ↦ (let same : t ≡ m = same_number t m e in
      let a : old t ≡ false = ap old same ∙ out in
      let c : new t ≡ true = now t ∙ or_right (old t) (b t) (ap b same ∙ has) in
      let le = filter_le old new b ts now in
      rw a (rw c (omega (arith, le))))
  | inr e ↦ rw (now t) (by_test (old t) (b t) (filter (λ q. not (new q)) ts) (filter (λ q. not (old q)) ts) (filter_lt old new b ts m now e out has))
] where
  by_test : (y z : Bool) (xs ys : List ℕ) → length xs < length ys → length (cond (not (y || z)) (t ∷ xs) xs) < length (cond (not y) (t ∷ ys) ys)
  by_test true z xs ys lt = lt
  by_test false true xs ys lt = omega (arith, lt)
  by_test false false xs ys lt = omega (arith, lt)

-- a visit leaves no more to be done
pub visit_le : (old new : ℕ → Bool) (o : Option ℕ) (ts some more : List ℕ) → ((q : ℕ) → new q ≡ (old q || is_number o q)) →
    ((m : ℕ) → o ≡ Some m → is_among ts m ≡ true) → more ≡ some ++ fresh old o →
    length (filter (λ q. not (new q)) ts) + length more ≤ length (filter (λ q. not (old q)) ts) + length some
visit_le old new None ts some more now in_ts e =
    let le = filter_le old new (is_number None) ts now in
    let l : length more ≡ length some + 0 = ap length e ∙ length-append some [] in
    omega (arith, le, l)
visit_le old new (Some m) ts some more now in_ts e = by_test (old m) refl where
  by_test : (z : Bool) → old m ≡ z → length (filter (λ q. not (new q)) ts) + length more ≤ length (filter (λ q. not (old q)) ts) + length some
  by_test true k =
      let le = filter_le old new (is_number (Some m)) ts now in
      let l : length more ≡ length some + 0 = ap length (e ∙ ap (λ (z : Bool). some ++ cond z [] (m ∷ [])) k) ∙ length-append some [] in
      omega (arith, le, l)
  by_test false k =
      let lt = filter_lt old new (is_number (Some m)) ts m now (in_ts m refl) k (eq-eqb m m refl) in
      let l : length more ≡ length some + 1 = ap length (e ∙ ap (λ (z : Bool). some ++ cond z [] (m ∷ [])) k) ∙ length-append some (m ∷ []) in
      omega (arith, lt, l)

among_lead : (w : Ways) (m : ℕ) → LeadTo w m → is_among (option_to_list w.branch ++ option_to_list w.onward) m ≡ true
among_lead w m (inl e) = among_left (option_to_list w.branch) (option_to_list w.onward) m
    (ap (λ (z : Option ℕ). is_among (option_to_list z) m) e ∙ or_left (nat_eq m m) false (eq-eqb m m refl))
among_lead w m (inr e) = among_right (option_to_list w.branch) (option_to_list w.onward) m
    (ap (λ (z : Option ℕ). is_among (option_to_list z) m) e ∙ or_left (nat_eq m m) false (eq-eqb m m refl))

-- where ways lead is among the targets
pub lead_target : (es : List (ℕ × Ways)) (n : ℕ) (w : Ways) (m : ℕ) → lookup (nat_eq n) es ≡ Some w → LeadTo w m → is_among (targets_of es) m ≡ true
lead_target [] n w m h l = cc
lead_target (e ∷ es) n w m h l = elim (test_of n e.0 (nat_eq n e.0) refl) [
  | inl k ↦ (let same : Some e.1 ≡ Some w = sym (ap (λ (z : Bool). cond z (Some e.1) (lookup (nat_eq n) es)) k.0) ∙ h in
      let it : w ≡ e.1 = cc in
      among_left (option_to_list e.1.branch ++ option_to_list e.1.onward) (targets_of es) m
      (among_lead e.1 m (subst (λ (z : Ways). LeadTo z m) it l)))
  | inr k ↦ among_right (option_to_list e.1.branch ++ option_to_list e.1.onward) (targets_of es) m
      (lead_target es n w m (sym (ap (λ (z : Bool). cond z (Some e.1) (lookup (nat_eq n) es)) k.0) ∙ h) l)
]

-- with a block that waited both its ways are visited: less is left
pub both_visited : (seen one two : ℕ → Bool) (es : List (ℕ × Ways)) (old rest some more : List ℕ) (n : ℕ) (w : Ways) → old ≡ rest ++ n ∷ [] →
    lookup (nat_eq n) es ≡ Some w →
    ((q : ℕ) → one q ≡ (seen q || is_number w.branch q)) → some ≡ rest ++ fresh seen w.branch →
    ((q : ℕ) → two q ≡ (one q || is_number w.onward q)) → more ≡ some ++ fresh one w.onward →
    length (filter (λ q. not (two q)) (targets_of es)) + length more < length (filter (λ q. not (seen q)) (targets_of es)) + length old
both_visited seen one two es old rest some more n w split at now1 add1 now2 add2 =
    let a = visit_le seen one w.branch (targets_of es) rest some now1 (λ m e. lead_target es n w m at (inl e)) add1 in
    let b = visit_le one two w.onward (targets_of es) some more now2 (λ m e. lead_target es n w m at (inr e)) add2 in
    let l : length old ≡ length rest + 1 = ap length split ∙ length-append rest (n ∷ []) in
    omega (arith, a, b, l)

pub none_seen : (keys : List ℕ) → keys ≡ [] → (q : ℕ) → list_any (nat_eq q) keys ≡ false
none_seen [] e q = refl
none_seen (k ∷ ks) e q = cc

pub last_among : (old rest : List ℕ) (n : ℕ) → old ≡ rest ++ n ∷ [] → is_among old n ≡ true
last_among old rest n e = ap (λ (z : List ℕ). is_among z n) e ∙ among_right rest (n ∷ []) n (or_left (nat_eq n n) false (eq-eqb n n refl))

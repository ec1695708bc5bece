-- Where nothing that a part has was written, the places of parts are as before.
--
-- A state stays over items that are no debug values, but for its locations. A class that is flagged and that no changed location had
-- or has is at the same locations, so its first location is the same. Each class has a first location or none, so there is a table of
-- all of them.
use Rattle.std.proofs.Common.{
  ◌≡◌,
  ◌≢◌,
  ◌⊎◌,
  ℕ,
  zero,
  suc,
  ◌+◌,
  ◌<◌,
  ◌≤◌,
  List,
  [],
  ◌∷◌,
  ◌++◌,
  length,
  arith,
  refl,
  sym,
  ◌∙◌,
  ap,
  subst,
  inl,
  inr,
}
use Rattle.std.specs.Prelude.{ℤ, Option, Some, None, Bool, true, false, cond, nat_eq, slice_index, slice_index_or}
use Rattle.std.proofs.lemmas.Bool.{cases_lt}
use Rattle.std.proofs.lemmas.Bool.Decides.{eqb_tells}
use Rattle.std.proofs.lemmas.List.{get_or_past, get_or_append_left}
use Rattle.rv64_instr.specs.declared.place.Place.{Place}
use Rattle.value_tracker.specs.LowestLocation.{IsFirstBelow, AreFirsts}
use Rattle.value_tracker.specs.ClassLocation.{place_of, place_by, constant_or}
use Rattle.location_ranges.specs.declared.seen.Seen.{Seen}
use Rattle.location_ranges.specs.declared.transfer_tracker.TransferTracker.{TransferTracker}
use Rattle.location_ranges.specs.Stands.{Stays}
use Rattle.location_ranges.specs.steps.Places.{ArePlacesAt}
use Rattle.location_ranges.specs.steps.Seen.{IsStill, Sees, AreSeen}

-- ---- a state past some items

pub stays_here : (s : TransferTracker) → Stays s s
stays_here s = record { item = omega arith; constants = refl; marked = inl refl; parts = λ le. refl }

pub stays_on : (a b c : TransferTracker) → Stays a b → Stays b c → Stays a c
stays_on a b c first second = record {
  item = let x = first.item in let y = second.item in omega (arith, x, y);
  constants = second.constants ∙ first.constants;
  marked = elim second.marked [
    | inl same ↦ elim first.marked [
      | inl is ↦ inl (same ∙ is)
      | inr lt ↦ inr (omega (arith, same, lt))
    ]
    | inr lt ↦ inr (let x = first.item in omega (arith, x, lt))
  ];
  parts = λ le. elim second.marked [
    | inl same ↦
        second.parts (let x = first.item in omega (arith, le, x)) ∙ first.parts (omega (arith, le, same))
    | inr lt ↦ absurd (let x = first.item in omega (arith, le, lt, x))
  ];
}

-- past an item without a step
pub stays_plain : (s after : TransferTracker) → after.item ≡ s.item + 1 → after.constants ≡ s.constants → after.marked ≡ s.marked →
    after.held.parts ≡ s.held.parts → Stays s after
stays_plain s after item constants marked parts = record {
  item = omega (arith, item);
  constants = constants;
  marked = inl marked;
  parts = λ le. parts;
}

-- past an item, which may be a debug value
pub stays_item : (s after : TransferTracker) (mark : Bool) → after.item ≡ s.item + 1 → after.constants ≡ s.constants →
    after.marked ≡ cond mark after.item s.marked → (mark ≡ false → after.held.parts ≡ s.held.parts) → Stays s after
stays_item s after true item constants marked parts = record {
  item = omega (arith, item);
  constants = constants;
  marked = inr (omega (arith, marked, item));
  parts = λ le. absurd (omega (arith, le, marked, item));
}
stays_item s after false item constants marked parts = stays_plain s after item constants marked (parts refl)

-- ---- a table of first locations

first_below : (end : ℕ) (places : List ℕ) (c : ℕ) → (o : Option ℕ) × IsFirstBelow end places c o
first_below zero places c = (None, λ i some lt. absurd (omega (arith, lt)))
first_below (suc n) places c = one_more n places c (first_below n places c).0 (first_below n places c).1 where
  none_at : (n : ℕ) (places : List ℕ) (c : ℕ) → ((i : ℕ) → 0 < i → i < n → slice_index places i ≢ c) → (0 < n → slice_index places n ≢ c) →
      (i : ℕ) → 0 < i → i < suc n → slice_index places i ≢ c
  none_at n places c none here i some lt = elim (eqb_tells i n) [
    | inl h ↦ subst (λ (k : ℕ). slice_index places k ≢ c) (sym h.1) (here (let is = h.1 in omega (arith, some, is)))
    | inr h ↦ none i some (let ne = h.1 in omega (arith, lt, ne))
  ]

  one_more : (n : ℕ) (places : List ℕ) (c : ℕ) (o : Option ℕ) → IsFirstBelow n places c o → (p : Option ℕ) × IsFirstBelow (suc n) places c p
  one_more n places c (Some k) is = (Some k, (is.0, omega (arith, is.1), is.2, is.3))
  one_more n places c None none = elim (eqb_tells (slice_index places n) c) [
    | inl h ↦ elim (cases_lt 0 n) [
      | inl some ↦ (Some n, (some, omega arith, h.1, none))
      | inr le ↦ (None, none_at n places c none (λ some. absurd (omega (arith, some, le))))
    ]
    | inr h ↦ (None, none_at n places c none (λ some. h.1))
  ]

abbrev table : ℕ → (ℕ → Option ℕ) → List (Option ℕ)
table zero f = []
table (suc n) f = f 0 ∷ table n (λ k. f (suc k))

table_at : (n : ℕ) (f : ℕ → Option ℕ) (k : ℕ) → k < n → slice_index_or (table n f) k None ≡ f k
table_at zero f k lt = absurd (omega (arith, lt))
table_at (suc n) f zero lt = refl
table_at (suc n) f (suc k) lt = table_at n (λ j. f (suc j)) k (omega (arith, lt))

table_past : (n : ℕ) (f : ℕ → Option ℕ) (k : ℕ) → n ≤ k → slice_index_or (table n f) k None ≡ None
table_past zero f k le = refl
table_past (suc n) f zero le = absurd (omega (arith, le))
table_past (suc n) f (suc k) le = table_past n (λ j. f (suc j)) k (omega (arith, le))

-- a bound of numbers
bound : (xs : List ℕ) → (b : ℕ) × ((i : ℕ) → slice_index xs i < b)
bound [] = (1, λ i. omega arith)
bound (x ∷ xs) = (x + (bound xs).0 + 1, within x xs (bound xs).0 (bound xs).1) where
  within : (x : ℕ) (xs : List ℕ) (b : ℕ) → ((i : ℕ) → slice_index xs i < b) → (i : ℕ) → slice_index (x ∷ xs) i < x + b + 1
  within x xs b below zero = omega arith
  within x xs b below (suc i) = let lt = below i in omega (arith, lt)

firsts_of : (places : List ℕ) → (firsts : List (Option ℕ)) × AreFirsts places firsts
firsts_of places = (table b f, are) where
  b : ℕ
  b = (bound places).0

  f : ℕ → Option ℕ
  f c = (first_below (length places) places c).0

  are : AreFirsts places (table b f)
  are c = elim (cases_lt c b) [
    | inl lt ↦ subst (IsFirstBelow (length places) places c) (sym (table_at b f c lt)) (first_below (length places) places c).1
    | inr le ↦
        subst (IsFirstBelow (length places) places c) (sym (table_past b f c le))
        (λ i some within is. let lt = (bound places).1 i in omega (arith, lt, le, is))
  ]

-- ---- a class at the same locations

same_first : (end : ℕ) (xs ys : List ℕ) (c : ℕ) (o p : Option ℕ) → ((i : ℕ) → i < end → slice_index xs i ≡ c → slice_index ys i ≡ c) →
    ((i : ℕ) → i < end → slice_index ys i ≡ c → slice_index xs i ≡ c) → IsFirstBelow end xs c o → IsFirstBelow end ys c p → o ≡ p
same_first end xs ys c None None there back a b = refl
same_first end xs ys c None (Some k) there back a b = absurd (a k b.0 b.1 (back k b.1 b.2))
same_first end xs ys c (Some j) None there back a b = absurd (b j a.0 a.1 (there j a.1 a.2))
same_first end xs ys c (Some j) (Some k) there back a b = elim (cases_lt j k) [
  | inl lt ↦ absurd (b.3 j a.0 lt (there j a.1 a.2))
  | inr le ↦ elim (eqb_tells j k) [
    | inl h ↦ ap (λ (n : ℕ). Some n) h.1
    | inr h ↦ absurd (a.3 k b.0 (let ne = h.1 in omega (arith, le, ne)) (back k b.1 b.2))
  ]
]

module _ (seen : Seen) (now : List ℕ) (still : IsStill seen now) (c : ℕ) (used : slice_index_or seen.used.items c false ≡ true) where
  not_off : (d : ℕ) → d ≡ c → slice_index_or seen.used.items d false ≡ false → ⊥
  not_off d is off =
      let on : slice_index_or seen.used.items d false ≡ true = ap (λ (k : ℕ). slice_index_or seen.used.items k false) is ∙ used in
      let no : true ≡ false = sym on ∙ off in
      cc

  there : (i : ℕ) → i < length now → slice_index seen.places.items i ≡ c → slice_index now i ≡ c
  there i lt is = elim (still.each i lt) [
    | inl same ↦ sym same ∙ is
    | inr off ↦ absurd (not_off (slice_index seen.places.items i) is off.0)
  ]

  back : (i : ℕ) → i < length now → slice_index now i ≡ c → slice_index seen.places.items i ≡ c
  back i lt is = elim (still.each i lt) [
    | inl same ↦ same ∙ is
    | inr off ↦ absurd (not_off (slice_index now i) is off.1)
  ]

  first_stays : (old new : List (Option ℕ)) → AreFirsts seen.places.items old → AreFirsts now new → slice_index_or old c None ≡ slice_index_or new c None
  first_stays old new are_old are_new =
      same_first (length now) seen.places.items now c (slice_index_or old c None) (slice_index_or new c None) there back
      (subst (λ (n : ℕ). IsFirstBelow n seen.places.items c (slice_index_or old c None)) still.count (are_old c)) (are_new c)

-- ---- the places of parts

module _ (seen : Seen) (s : TransferTracker) (places : List (Option Place)) where
  -- as before where nothing of a part has changed
  pub places_rest : AreSeen seen s places → IsStill seen s.held.places.items → s.reached ≡ true → ArePlacesAt s places
  places_rest are still reached = record {
    firsts = (firsts_of s.held.places.items).0;
    are = (firsts_of s.held.places.items).1;
    each = λ j lt.
        are.each j lt ∙ (place_stays j lt (slice_index s.held.parts.items j) refl
        ∙ ap (λ (b : Bool). cond b (place_of (firsts_of s.held.places.items).0 s.constants.items (slice_index s.held.parts.items j)) None) (sym reached));
  } where
    by_first : (c : ℕ) → slice_index_or are.firsts c None ≡ slice_index_or (firsts_of s.held.places.items).0 c None →
        place_of are.firsts s.constants.items c ≡ place_of (firsts_of s.held.places.items).0 s.constants.items c
    by_first c e = ap (λ (o : Option ℕ). cond (nat_eq c 0) None (constant_or (slice_index_or s.constants.items c None) (place_by o))) e

    place_stays : (j : ℕ) → j < length places → (c : ℕ) → slice_index s.held.parts.items j ≡ c →
        place_of are.firsts s.constants.items c ≡ place_of (firsts_of s.held.places.items).0 s.constants.items c
    place_stays j lt c is = elim (eqb_tells c 0) [
      | inl h ↦
          subst (λ (d : ℕ). place_of are.firsts s.constants.items d ≡ place_of (firsts_of s.held.places.items).0 s.constants.items d) (sym h.1) refl
      | inr h ↦
          let some : slice_index s.held.parts.items j ≢ 0 = λ e. h.1 (sym is ∙ e) in
          let used : slice_index_or seen.used.items c false ≡ true = subst (λ (d : ℕ). slice_index_or seen.used.items d false ≡ true) is (are.used j lt some) in
          by_first c
          (first_stays seen s.held.places.items still c used are.firsts (firsts_of s.held.places.items).0 are.are (firsts_of s.held.places.items).1)
    ]

  -- as they were looked up
  pub sees_are : Sees seen s → ArePlacesAt s places → length places ≡ length s.held.parts.items → AreSeen seen s places
  sees_are sees are count = record {
    firsts = are.firsts;
    are = subst (λ (ps : List ℕ). AreFirsts ps are.firsts) (sym sees.places) are.are;
    each = λ j lt.
        are.each j lt ∙ ap (λ (b : Bool). cond b (place_of are.firsts s.constants.items (slice_index s.held.parts.items j)) None) sees.reached;
    used = λ j lt some. sees.used j (omega (arith, lt, count)) some;
  }

  -- past items without debug values
  pub seen_stays : (after : TransferTracker) → Stays s after → after.marked ≤ s.item → AreSeen seen s places → AreSeen seen after places
  seen_stays after stays le are = record {
    firsts = are.firsts;
    are = are.are;
    each = λ j lt.
        are.each j lt ∙ (ap (λ (ks : List (Option ℤ)). place_of are.firsts ks (slice_index s.held.parts.items j)) (sym constants)
        ∙ ap (λ (ps : List ℕ). place_of are.firsts after.constants.items (slice_index ps j)) (sym parts));
    used = λ j lt some.
        subst (λ (ps : List ℕ). slice_index_or seen.used.items (slice_index ps j) false ≡ true) (sym parts)
        (are.used j lt (subst (λ (ps : List ℕ). slice_index ps j ≢ 0) parts some));
  } where
    constants : after.constants.items ≡ s.constants.items
    constants = ap (λ v. v.items) stays.constants

    parts : after.held.parts.items ≡ s.held.parts.items
    parts = ap (λ v. v.items) (stays.parts le)

-- what holds of one holds of the same
pub of_some : (x z : Seen) (P : Seen → Type 0) → Some x ≡ Some z → P x → P z
of_some x z P e p = let is : x ≡ z = cc in subst P is p

-- ---- flags

pub push_keeps : (xs : List Bool) (y : Bool) (c : ℕ) → slice_index_or xs c false ≡ true → slice_index_or (xs ++ y ∷ []) c false ≡ true
push_keeps xs y c e = elim (cases_lt c (length xs)) [
  | inl lt ↦ get_or_append_left xs (y ∷ []) false c lt ∙ e
  | inr le ↦ absurd (let no : false ≡ true = sym (get_or_past xs c false le) ∙ e in cc)
]

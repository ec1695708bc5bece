-- Ranges past an address: they ascend, say what they said, and the new location from the address on.
use Rattle.std.proofs.Common.{◌≡◌, ◌≢◌, ℕ, suc, ◌<◌, ◌≤◌, List, [], ◌∷◌, ◌++◌, arith, refl, sym, ◌∙◌, ap, subst, true, false, append-nil}
use Rattle.std.specs.Prelude.{Option, Some, None, Bool, cond, ◌&&◌, nat_le, nat_lt, All}
use Rattle.std.proofs.lemmas.Bool.Decides.{nat_tests}
use Rattle.std.proofs.lemmas.List.Elements.{All-nil, All-cons, All-head, All-tail, All-append}
use Rattle.dwarf_loclists.specs.declared.range.Location.{Location}
use Rattle.dwarf_loclists.specs.declared.range.Range.{Range}
use Rattle.dwarf_loclists.specs.Ranges.{Ascend, location_in}
use Rattle.location_ranges.specs.declared.track.Open.{Open}
use Rattle.location_ranges.specs.declared.track.Track.{Track}
use Rattle.location_ranges.specs.Covered.{range, located, closed, opened, covered, stays, turns, AscendTo}
use Rattle.location_ranges.specs.Turning.{TurnsSayOn, TracksAreRanges}

-- ---- what ranges say at an address

or_else : Option Location → Option Location → Option Location
or_else None b = b
or_else (Some l) b = Some l

in_both : (xs ys : List Range) (x : ℕ) → location_in (xs ++ ys) x ≡ or_else (location_in xs x) (location_in ys x)
unfolding or_else
in_both [] ys x = refl
in_both (r ∷ xs) ys x = by_test (nat_le r.lo x && nat_lt x r.hi) (in_both xs ys x) where
  by_test : (b : Bool) → location_in (xs ++ ys) x ≡ or_else (location_in xs x) (location_in ys x) →
      cond b (Some r.location) (location_in (xs ++ ys) x) ≡ or_else (cond b (Some r.location) (location_in xs x)) (location_in ys x)
  by_test true e = refl
  by_test false e = e

-- ranges that end by an address
abbrev EndBy : ℕ → List Range → Type 0
EndBy m xs = All (λ (r : Range). r.hi ≤ m) xs

and_false : (b : Bool) → (b && false) ≡ false
and_false true = refl
and_false false = refl

none_past : (m : ℕ) (xs : List Range) (x : ℕ) → EndBy m xs → m ≤ x → location_in xs x ≡ None
none_past m [] x ends le = refl
none_past m (r ∷ xs) x ends le =
    let head = All-head (λ (r : Range). r.hi ≤ m) r xs ends in
    let off : nat_lt x r.hi ≡ false = grind (arith, nat_tests, head, le) in
    ap (λ (z : Bool). cond (nat_le r.lo x && z) (Some r.location) (location_in xs x)) off
    ∙ (ap (λ (z : Bool). cond z (Some r.location) (location_in xs x)) (and_false (nat_le r.lo x))
    ∙ none_past m xs x (All-tail (λ (r : Range). r.hi ≤ m) r xs ends) le)

one_in : (lo hi : ℕ) (l : Location) (x : ℕ) → lo ≤ x → x < hi → location_in (range lo hi l ∷ []) x ≡ Some l
one_in lo hi l x le lt =
    let a : nat_le lo x ≡ true = grind (arith, nat_tests, le) in
    let b : nat_lt x hi ≡ true = grind (arith, nat_tests, lt) in
    ap (λ (z : Bool). cond (z && nat_lt x hi) (Some l) None) a ∙ ap (λ (z : Bool). cond z (Some l) None) b

one_below : (lo hi : ℕ) (l : Location) (x : ℕ) → x < lo → location_in (range lo hi l ∷ []) x ≡ None
one_below lo hi l x lt = let a : nat_le lo x ≡ false = grind (arith, nat_tests, lt) in ap (λ (z : Bool). cond (z && nat_lt x hi) (Some l) None) a

-- a range's later end changes nothing below the earlier one
one_longer : (lo a b : ℕ) (l : Location) (x : ℕ) → x < a → a < b → location_in (range lo b l ∷ []) x ≡ location_in (range lo a l ∷ []) x
one_longer lo a b l x lt less =
    let p : nat_lt x a ≡ true = grind (arith, nat_tests, lt) in
    let q : nat_lt x b ≡ true = grind (arith, nat_tests, lt, less) in
    ap (λ (z : Bool). cond (nat_le lo x && z) (Some l) None) (q ∙ sym p)

-- ---- ranges that ascend

-- ranges before another end where it begins
before_end : (xs : List Range) (r : Range) → Ascend (xs ++ r ∷ []) → EndBy r.lo xs
before_end [] r up = All-nil (λ (s : Range). s.hi ≤ r.lo)
before_end (x ∷ []) r up = All-cons (λ (s : Range). s.hi ≤ r.lo) x [] up.1 (All-nil (λ (s : Range). s.hi ≤ r.lo))
before_end (x ∷ y ∷ xs) r up =
    let later = before_end (y ∷ xs) r up.3 in
    let first = All-head (λ (s : Range). s.hi ≤ r.lo) y xs later in
    let y_some : y.lo < y.hi = up_some y (xs ++ r ∷ []) up.3 in
    All-cons (λ (s : Range). s.hi ≤ r.lo) x (y ∷ xs) (let e = up.1 in omega (arith, e, first, y_some)) later
  where
    up_some : (y : Range) (zs : List Range) → Ascend (y ∷ zs) → y.lo < y.hi
    up_some y [] up = up
    up_some y (z ∷ zs) up = up.0

-- a last range may end anywhere after its start
ends_elsewhere : (xs : List Range) (lo hi to : ℕ) (l : Location) → Ascend (xs ++ range lo hi l ∷ []) → lo < to → Ascend (xs ++ range lo to l ∷ [])
ends_elsewhere [] lo hi to l up less = less
ends_elsewhere (x ∷ []) lo hi to l up less = (up.0, up.1, up.2, less)
ends_elsewhere (x ∷ y ∷ xs) lo hi to l up less = (up.0, up.1, up.2, ends_elsewhere (y ∷ xs) lo hi to l up.3 less)

-- a range after those that end before it
ascend_more : (xs : List Range) (r : Range) → Ascend xs → r.lo < r.hi → All (λ (s : Range). s.hi < r.lo) xs → Ascend (xs ++ r ∷ [])
ascend_more [] r up some ends = some
ascend_more (x ∷ []) r up some ends =
    let h = All-head (λ (s : Range). s.hi < r.lo) x [] ends in
    (up, omega (arith, h), (λ e. absurd (omega (arith, h, e))), some)
ascend_more (x ∷ y ∷ xs) r up some ends = (up.0, up.1, up.2, ascend_more (y ∷ xs) r up.3 some (All-tail (λ (s : Range). s.hi < r.lo) x (y ∷ xs) ends))

-- a range that touches the last one, at another location
ascend_touch : (xs : List Range) (lo a b : ℕ) (l m : Location) → Ascend (xs ++ range lo a l ∷ []) → a < b → l ≢ m →
    Ascend ((xs ++ range lo a l ∷ []) ++ range a b m ∷ [])
ascend_touch [] lo a b l m up less apart = (up, le_refl_at a, (λ e. apart), less) where
  le_refl_at : (n : ℕ) → n ≤ n
  le_refl_at n = omega arith
ascend_touch (x ∷ []) lo a b l m up less apart = (up.0, up.1, up.2, (up.3, omega arith, (λ e. apart), less))
ascend_touch (x ∷ y ∷ xs) lo a b l m up less apart = (up.0, up.1, up.2, ascend_touch (y ∷ xs) lo a b l m up.3 less apart)

later_ends : (m n : ℕ) (xs : List Range) → m < n → EndBy m xs → All (λ (r : Range). r.hi < n) xs
later_ends m n [] less ends = All-nil (λ (r : Range). r.hi < n)
later_ends m n (x ∷ xs) less ends = All-cons (λ (r : Range). r.hi < n) x xs (let h = All-head (λ (r : Range). r.hi ≤ m) x xs ends in omega (arith, h, less))
    (later_ends m n xs less (All-tail (λ (r : Range). r.hi ≤ m) x xs ends))

strict_ends : (n : ℕ) (xs : List Range) → All (λ (r : Range). r.hi < n) xs → EndBy n xs
strict_ends n [] ends = All-nil (λ (r : Range). r.hi ≤ n)
strict_ends n (x ∷ xs) ends = All-cons (λ (r : Range). r.hi ≤ n) x xs (let h = All-head (λ (r : Range). r.hi < n) x xs ends in omega (arith, h))
    (strict_ends n xs (All-tail (λ (r : Range). r.hi < n) x xs ends))

grow_ends : (m n : ℕ) (xs : List Range) → m ≤ n → EndBy m xs → EndBy n xs
grow_ends m n [] le ends = All-nil (λ (r : Range). r.hi ≤ n)
grow_ends m n (x ∷ xs) le ends = All-cons (λ (r : Range). r.hi ≤ n) x xs (let h = All-head (λ (r : Range). r.hi ≤ m) x xs ends in omega (arith, h, le))
    (grow_ends m n xs le (All-tail (λ (r : Range). r.hi ≤ m) x xs ends))

-- ---- up to an address

-- all ranges, the open one up to the address, end by it
covered_end : (xs : List Range) (o : Option Open) (a : ℕ) → AscendTo xs o a → EndBy a (xs ++ closed o a)
covered_end xs None a up = subst (EndBy a) (sym (append-nil xs)) (strict_ends a xs up.1)
covered_end xs (Some o) a up =
    All-append (λ (r : Range). r.hi ≤ a) xs (range o.lo a o.location ∷ []) (grow_ends o.lo a xs (let h = up.1 in omega (arith, h)) (before_end xs
    (range o.lo (suc o.lo) o.location) up.0))
    (All-cons (λ (r : Range). r.hi ≤ a) (range o.lo a o.location) [] (omega arith) (All-nil (λ (r : Range). r.hi ≤ a)))

covered_up : (xs : List Range) (o : Option Open) (a : ℕ) → AscendTo xs o a → Ascend (xs ++ closed o a)
covered_up xs None a up = subst Ascend (sym (append-nil xs)) up.0
covered_up xs (Some o) a up = ends_elsewhere xs o.lo (suc o.lo) a o.location up.0 up.1

pub tracks_are_ranges : TracksAreRanges
tracks_are_ranges t a up = (covered_up t.ranges t.present a up, λ x le. none_past a (covered t a) x (covered_end t.ranges t.present a up) le)

-- ---- where the open range goes on

stays_to : (xs : List Range) (o : Option Open) (a b : ℕ) → a < b → AscendTo xs o a → AscendTo xs o b
stays_to xs None a b less up = (up.0, later_ends a b xs less (strict_ends a xs up.1))
stays_to xs (Some o) a b less up = (up.0, let h = up.1 in omega (arith, h, less))

stays_before : (xs : List Range) (o : Option Open) (a b x : ℕ) → a < b → x < a → location_in (xs ++ closed o b) x ≡ location_in (xs ++ closed o a) x
stays_before xs None a b x less lt = refl
stays_before xs (Some o) a b x less lt =
    in_both xs (range o.lo b o.location ∷ []) x
    ∙ (ap (or_else (location_in xs x)) (one_longer o.lo a b o.location x lt less) ∙ sym (in_both xs (range o.lo a o.location ∷ []) x))

stays_here : (xs : List Range) (o : Option Open) (a b x : ℕ) → AscendTo xs o a → a ≤ x → x < b → location_in (xs ++ closed o b) x ≡ located o
unfolding or_else
stays_here xs None a b x up le lt = in_both xs [] x ∙ ap (λ z. or_else z None) (none_past a xs x (strict_ends a xs up.1) le)
stays_here xs (Some o) a b x up le lt =
    let begun : o.lo ≤ x = let h = up.1 in omega (arith, h, le) in
    in_both xs (range o.lo b o.location ∷ []) x
    ∙ (ap (λ z. or_else z (location_in (range o.lo b o.location ∷ []) x)) (none_past o.lo xs x (before_end xs (range o.lo (suc o.lo) o.location) up.0) begun)
    ∙ one_in o.lo b o.location x begun lt)

-- ---- where it ends, and another may begin

turned_to : (xs : List Range) (o : Option Open) (n : Option Location) (a b : ℕ) → a < b → AscendTo xs o a → (located o ≡ n → ⊥) →
    AscendTo (xs ++ closed o a) (opened a n) b
turned_to xs o None a b less up differs = (covered_up xs o a up, later_ends a b (xs ++ closed o a) less (covered_end xs o a up))
turned_to xs None (Some m) a b less up differs = (
  ascend_more (xs ++ []) (range a (suc a) m) (covered_up xs None a up) (omega arith) (subst (All (λ (r : Range). r.hi < a)) (sym
      (append-nil xs)) up.1),
  less,
)
turned_to xs (Some o) (Some m) a b less up differs =
    (ascend_touch xs o.lo a (suc a) o.location m (covered_up xs (Some o) a up) (omega arith) (λ e. differs (ap (λ (z : Location). Some z) e)), less)

or_none : (z : Option Location) → or_else z None ≡ z
unfolding or_else
or_none None = refl
or_none (Some l) = refl

turned_before : (ys : List Range) (n : Option Location) (a b x : ℕ) → x < a → location_in (ys ++ closed (opened a n) b) x ≡ location_in ys x
turned_before ys None a b x lt = in_both ys [] x ∙ or_none (location_in ys x)
turned_before ys (Some m) a b x lt = in_both ys (range a b m ∷ []) x ∙ (ap (or_else (location_in ys x)) (one_below a b m x lt) ∙ or_none (location_in ys x))

turned_here : (ys : List Range) (n : Option Location) (a b x : ℕ) → EndBy a ys → a ≤ x → x < b → location_in (ys ++ closed (opened a n) b) x ≡ n
unfolding or_else
turned_here ys None a b x ends le lt = in_both ys [] x ∙ ap (λ z. or_else z None) (none_past a ys x ends le)
turned_here ys (Some m) a b x ends le lt =
    in_both ys (range a b m ∷ []) x ∙ (ap (λ z. or_else z (location_in (range a b m ∷ []) x)) (none_past a ys x ends le) ∙ one_in a b m x le lt)

abbrev SaysAs : Track → ℕ → Option Location → ℕ → List Range → Option Open → Type 0
SaysAs t a o b ranges present = AscendTo ranges present b × ((x : ℕ) → x < a → location_in (ranges ++ closed present b) x ≡ location_in (covered t a) x)
    × ((x : ℕ) → a ≤ x → x < b → location_in (ranges ++ closed present b) x ≡ o)

says_by : (t u : Track) (a b : ℕ) (o : Option Location) (ranges : List Range) (present : Option Open) → u.ranges ≡ ranges → u.present ≡ present →
    SaysAs t a o b ranges present → SaysAs t a o b u.ranges u.present
says_by t u a b o ranges present r p says = subst (λ z. SaysAs t a o b z u.present) (sym r) (subst (λ z. SaysAs t a o b ranges z) (sym p) says)

pub turns_say_on : TurnsSayOn
turns_say_on t u a b o up less (stays same ranges present) =
    let says = says_by t u a b o t.ranges t.present ranges present (
      stays_to t.ranges t.present a b less up,
      (λ x lt. stays_before t.ranges t.present a b x less lt),
      (λ x le lt. stays_here t.ranges t.present a b x up le lt ∙ same),
    ) in
    record { track = says.0; before = says.1; here = says.2 }
turns_say_on t u a b o up less (turns differs ranges present) =
    let says = says_by t u a b o (covered t a) (opened a o) ranges present (
      turned_to t.ranges t.present o a b less up differs,
      (λ x lt. turned_before (covered t a) o a b x lt),
      (λ x le lt. turned_here (covered t a) o a b x (covered_end t.ranges t.present a up) le lt),
    ) in
    record { track = says.0; before = says.1; here = says.2 }

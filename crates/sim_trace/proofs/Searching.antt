-- The range that has an address, found by halves.
use Rattle.std.proofs.Common.{◌≡◌, ◌⊎◌, inl, inr, ℕ, zero, suc, ◌+◌, ◌<◌, ◌≤◌, List, [], ◌∷◌, length, get_or, Some, None, Bool, true, false, ◌&&◌, cond}
use Rattle.std.proofs.Common.{nat_le, nat_lt, refl, sym, ap, ◌∙◌, arith}
use Rattle.std.proofs.lemmas.Bool.{leb-true, ltb-true, le-leb, lt-ltb}
use Rattle.dwarf_loclists.specs.declared.range.Range.{Range}
use Rattle.dwarf_loclists.specs.Ranges.{Ascend, location_in}

-- a range of a list that ascends, and those behind it
rest_ascends : (r : Range) (rest : List Range) → Ascend (r ∷ rest) → Ascend rest
rest_ascends r [] h = tt
rest_ascends r (s ∷ rest) h = h.3

some : (r : Range) (rest : List Range) → Ascend (r ∷ rest) → r.lo < r.hi
some r [] h = h
some r (s ∷ rest) h = h.0

-- each range behind one begins at its end or later
begins_above : (r : Range) (rest : List Range) (k : ℕ) (d : Range) → Ascend (r ∷ rest) → k < length rest → r.hi ≤ (get_or rest k d).lo
begins_above r [] k d h l = absurd (omega arith)
begins_above r (s ∷ rest) zero d h l = h.1
begins_above r (s ∷ rest) (suc k) d h l =
    let later = begins_above s rest k d h.3 (omega arith) in
    let own = some s rest h.3 in
    omega (arith, later, own, h.1)

each_some : (rs : List Range) (k : ℕ) (d : Range) → Ascend rs → k < length rs → (get_or rs k d).lo < (get_or rs k d).hi
each_some [] k d h l = absurd (omega arith)
each_some (r ∷ rs) zero d h l = some r rs h
each_some (r ∷ rs) (suc k) d h l = each_some rs k d (rest_ascends r rs h) (omega arith)

-- ends ascend, and so do beginnings
pub ends_ascend : (rs : List Range) (j k : ℕ) (d e : Range) → Ascend rs → j ≤ k → k < length rs → (get_or rs j d).hi ≤ (get_or rs k e).hi
ends_ascend [] j k d e h le l = absurd (omega arith)
ends_ascend (r ∷ rs) zero zero d e h le l = omega arith
ends_ascend (r ∷ rs) zero (suc k) d e h le l =
    let up = begins_above r rs k e h (omega arith) in
    let own = each_some rs k e (rest_ascends r rs h) (omega arith) in
    omega (arith, up, own)
ends_ascend (r ∷ rs) (suc j) zero d e h le l = absurd (omega (arith, le))
ends_ascend (r ∷ rs) (suc j) (suc k) d e h le l = ends_ascend rs j k d e (rest_ascends r rs h) (omega (arith, le)) (omega arith)

pub begins_ascend : (rs : List Range) (j k : ℕ) (d e : Range) → Ascend rs → j ≤ k → k < length rs → (get_or rs j d).lo ≤ (get_or rs k e).lo
begins_ascend [] j k d e h le l = absurd (omega arith)
begins_ascend (r ∷ rs) zero zero d e h le l = omega arith
begins_ascend (r ∷ rs) zero (suc k) d e h le l =
    let up = begins_above r rs k e h (omega arith) in
    let own = some r rs h in
    omega (arith, up, own)
begins_ascend (r ∷ rs) (suc j) zero d e h le l = absurd (omega (arith, le))
begins_ascend (r ∷ rs) (suc j) (suc k) d e h le l = begins_ascend rs j k d e (rest_ascends r rs h) (omega (arith, le)) (omega arith)

-- a range that doesn't have the address is passed
passed : (r : Range) (rest : List Range) (a : ℕ) → (r.hi ≤ a) ⊎ (a < r.lo) → location_in (r ∷ rest) a ≡ location_in rest a
passed r rest a h = by_test (nat_le r.lo a) (nat_lt a r.hi) refl refl where
  by_test : (x y : Bool) → nat_le r.lo a ≡ x → nat_lt a r.hi ≡ y → location_in (r ∷ rest) a ≡ location_in rest a
  by_test true true p q =
      let low = leb-true r.lo a p in
      let high = ltb-true a r.hi q in
      absurd (elim h as (λ _. ⊥) [ inl u ↦ omega (arith, u, high) | inr u ↦ omega (arith, u, low) ])
  by_test true false p q = ap (λ (t : Bool). cond (nat_le r.lo a && t) (Some r.location) (location_in rest a)) q
      ∙ ap (λ (t : Bool). cond (t && false) (Some r.location) (location_in rest a)) p
  by_test false y p q = ap (λ (t : Bool). cond (t && nat_lt a r.hi) (Some r.location) (location_in rest a)) p

has_it : (r : Range) (rest : List Range) (a : ℕ) → r.lo ≤ a → a < r.hi → location_in (r ∷ rest) a ≡ Some r.location
has_it r rest a low high =
    let p : nat_le r.lo a ≡ true = le-leb r.lo a low in
    let q : nat_lt a r.hi ≡ true = lt-ltb a r.hi high in
    ap (λ (t : Bool). cond (t && nat_lt a r.hi) (Some r.location) (location_in rest a)) p
    ∙ ap (λ (t : Bool). cond (true && t) (Some r.location) (location_in rest a)) q

-- the range at an index that has the address gives its location
pub found : (rs : List Range) (k : ℕ) (d : Range) (a : ℕ) → Ascend rs → k < length rs → (get_or rs k d).lo ≤ a → a < (get_or rs k d).hi →
    location_in rs a ≡ Some (get_or rs k d).location
found [] k d a h l low high = absurd (omega arith)
found (r ∷ rs) zero d a h l low high = has_it r rs a low high
found (r ∷ rs) (suc k) d a h l low high =
    let up = begins_above r rs k d h (omega arith) in
    passed r rs a (inl (omega (arith, up, low))) ∙ found rs k d a (rest_ascends r rs h) (omega arith) low high

-- where each range ends before the address or begins behind it, none has it
pub nowhere : (rs : List Range) (a n : ℕ) → ((k : ℕ) (d : Range) → k < length rs → k < n → (get_or rs k d).hi ≤ a) →
    ((k : ℕ) (d : Range) → k < length rs → n ≤ k → a < (get_or rs k d).lo) → location_in rs a ≡ None
nowhere [] a n below above = refl
nowhere (r ∷ rs) a zero below above =
    passed r rs a (inr (above 0 r (omega arith) (omega arith)))
    ∙ nowhere rs a 0 (λ k d l b. absurd (omega (arith, b))) (λ k d l g. above (suc k) d (omega (arith, l)) (omega arith))
nowhere (r ∷ rs) a (suc n) below above =
    passed r rs a (inl (below 0 r (omega arith) (omega arith)))
    ∙ nowhere rs a n (λ k d l b. below (suc k) d (omega (arith, l)) (omega (arith, b))) (λ k d l g. above (suc k) d (omega (arith, l)) (omega (arith, g)))

-- what is below one that ends before the address, and above one that begins behind it
pub step_below : (rs : List Range) (mid : ℕ) (r : Range) (address : ℕ) → Ascend rs → mid < length rs → r ≡ get_or rs mid r → r.hi ≤ address →
    (k : ℕ) (d : Range) → k < length rs → k < mid + 1 → (get_or rs k d).hi ≤ address
step_below rs mid r address h l is le k d lk b =
    let up = ends_ascend rs k mid d r h (omega (arith, b)) l in
    let same : r.hi ≡ (get_or rs mid r).hi = ap (λ (x : Range). x.hi) is in
    omega (arith, up, same, le)

pub step_above : (rs : List Range) (mid : ℕ) (r : Range) (address : ℕ) → Ascend rs → mid < length rs → r ≡ get_or rs mid r → address < r.lo →
    (k : ℕ) (d : Range) → k < length rs → mid ≤ k → address < (get_or rs k d).lo
step_above rs mid r address h l is lt k d lk b =
    let up = begins_ascend rs mid k r d h b lk in
    let same : r.lo ≡ (get_or rs mid r).lo = ap (λ (x : Range). x.lo) is in
    omega (arith, up, same, lt)

pub found_at : (rs : List Range) (mid : ℕ) (r : Range) (address : ℕ) → Ascend rs → mid < length rs → r ≡ get_or rs mid r → r.lo ≤ address → address < r.hi →
    location_in rs address ≡ Some r.location
found_at rs mid r address h l is low high =
    let first : r.lo ≡ (get_or rs mid r).lo = ap (λ (x : Range). x.lo) is in
    let last : r.hi ≡ (get_or rs mid r).hi = ap (λ (x : Range). x.hi) is in
    found rs mid r address h l (omega (arith, first, low)) (omega (arith, last, high)) ∙ ap (λ (x : Range). Some x.location) (sym is)

-- A number is read where its spelling stands, and nowhere else.
use Rattle.std.specs.Prelude.{ℤ, pos, negsuc, ◌+ℤ◌, ◌-ℤ◌, nat_eq}
use Rattle.std.specs.List.{starts_with}
use Rattle.std.proofs.Common.{◌≡◌, ◌≢◌, ℕ, ◌+◌, ◌-◌, ◌^◌, ◌<◌, ◌≤◌, Bool, true, false, cond, ltb, List, [], ◌∷◌, ◌++◌, length, drop, Option, Some, None, Ok}
use Rattle.std.proofs.Common.{Err, arith, ap, sym, ◌∙◌, refl, inl, inr}
use Rattle.std.proofs.lemmas.Bool.{cases_Bool}
use Rattle.std.proofs.lemmas.Bool.Decides.{Decides-eqb, nat_tests}
use Rattle.std.proofs.lemmas.List.{drop_at}
use Rattle.std.proofs.lemmas.Slice.Eq.{starts_is}
use Rattle.std.proofs.lemmas.Int.{ints}
use Rattle.dwarf_base.specs.Leb.{uleb_of, sleb_of, IsLeb, unsigned_value, signed_value}
use Rattle.dwarf_base.proofs.LebLaws.{uleb_law, sleb_law}
use Rattle.dwarf_line.specs.Fields.{leb_front, spelled_at, below, natural_below, uleb_at, advanced_at, line_at}

-- what is read of the front of the bytes is what a spelling at the front says
pub leb_front-append : (a x : List ℕ) → IsLeb a → leb_front (a ++ x) ≡ a
leb_front-append [] x is = absurd is
leb_front-append (b ∷ []) x is = grind (arith, nat_tests)
leb_front-append (b ∷ c ∷ a) x is = let rest = leb_front-append (c ∷ a) x is.2 in grind (arith, nat_tests)

below-some : (limit n : ℕ) → n < limit → below limit n ≡ Some n
below-some limit n is = grind (arith, nat_tests)

if_some : (b : Bool) (n m : ℕ) → cond b (Some n) None ≡ Some m → (b ≡ true) × (n ≡ m)
if_some true n m e = (refl, cc)
if_some false n m e = absurd cc

below-is : (limit n m : ℕ) → below limit n ≡ Some m → (n ≡ m) × (m < limit)
below-is limit n m e =
    let found = if_some (ltb n limit) n m e in
    let same = found.1 in let small = found.0 in
    (same, grind (arith, nat_tests))

-- ---- a number with a spelling

if_ok : {A : Type 0} (b : Bool) (left : ℕ) (x y : A) → cond b (Ok x) (Err left) ≡ Ok y → (b ≡ true) × (x ≡ y)
if_ok true left x y e = (refl, cc)
if_ok false left x y e = absurd cc

pub spelled_takes : (spell : ℕ → List ℕ) (bytes : List ℕ) (o : Option ℕ) (n : ℕ) (rest : List ℕ) → spelled_at spell bytes o ≡ Ok (n, rest)
    → (o ≡ Some n) × (bytes ≡ spell n ++ rest)
spelled_takes spell bytes None n rest e = absurd cc
spelled_takes spell bytes (Some m) n rest e =
    let found = if_ok (starts_with nat_eq bytes (spell m)) (length bytes) (m, drop (length (spell m)) bytes) (n, rest) e in
    let number : m ≡ n = ap (λ (p : ℕ × List ℕ). p.0) found.1 in
    let behind : drop (length (spell m)) bytes ≡ rest = ap (λ (p : ℕ × List ℕ). p.1) found.1 in
    let whole : bytes ≡ spell m ++ drop (length (spell m)) bytes = (starts_is Decides-eqb bytes (spell m)
    (starts_with nat_eq bytes (spell m)) refl).0 found.0 in
    (ap Some number, whole ∙ ap (λ x. spell m ++ x) behind ∙ ap (λ k. spell k ++ rest) number)

pub spelled_again : (spell : ℕ → List ℕ) (n : ℕ) (rest : List ℕ) → spelled_at spell (spell n ++ rest) (Some n) ≡ Ok (n, rest)
spelled_again spell n rest =
    let stands : starts_with nat_eq (spell n ++ rest) (spell n) ≡ true =
    (starts_is Decides-eqb (spell n ++ rest) (spell n) (starts_with nat_eq (spell n ++ rest) (spell n)) refl).1 rest refl in
    ap (λ b. cond b (Ok (n, drop (length (spell n)) (spell n ++ rest))) (Err (length (spell n ++ rest)))) stands
    ∙ ap (λ (x : List ℕ). Ok (n, x)) (drop_at (spell n) rest (length (spell n)) refl)

-- nothing is read where no spelling stands
pub spelled_fault : (spell : ℕ → List ℕ) (bytes : List ℕ) (o : Option ℕ) → ((n : ℕ) (rest : List ℕ) → o ≡ Some n → bytes ≢ spell n ++ rest)
    → spelled_at spell bytes o ≡ Err (length bytes)
spelled_fault spell bytes None lacks = refl
spelled_fault spell bytes (Some n) lacks =
    elim (cases_Bool (starts_with nat_eq bytes (spell n))) [
      | inl is ↦ absurd (lacks n (drop (length (spell n)) bytes) refl ((starts_is Decides-eqb bytes (spell n) (starts_with nat_eq bytes (spell n)) refl).0 is))
      | inr is ↦ ap (λ b. cond b (Ok (n, drop (length (spell n)) bytes)) (Err (length bytes))) is
    ]

-- ---- unsigned numbers

uleb_front : (n : ℕ) (rest : List ℕ) → unsigned_value (leb_front (uleb_of n ++ rest)) ≡ n
uleb_front n rest = ap unsigned_value (leb_front-append (uleb_of n) rest (uleb_law n).0) ∙ (uleb_law n).1

sleb_front : (v : ℤ) (rest : List ℕ) → signed_value (leb_front (sleb_of v ++ rest)) ≡ v
sleb_front v rest = ap signed_value (leb_front-append (sleb_of v) rest (sleb_law v).0) ∙ (sleb_law v).1

pub uleb_takes : (limit : ℕ) (bytes : List ℕ) (n : ℕ) (rest : List ℕ) → uleb_at limit bytes ≡ Ok (n, rest) → (bytes ≡ uleb_of n ++ rest) × (n < limit)
unfolding uleb_at
uleb_takes limit bytes n rest e =
    let found = spelled_takes uleb_of bytes (below limit (unsigned_value (leb_front bytes))) n rest e in
    (found.1, (below-is limit (unsigned_value (leb_front bytes)) n found.0).1)

pub uleb_again : (limit n : ℕ) (rest : List ℕ) → n < limit → uleb_at limit (uleb_of n ++ rest) ≡ Ok (n, rest)
unfolding uleb_at
uleb_again limit n rest fits =
    let value : below limit (unsigned_value (leb_front (uleb_of n ++ rest))) ≡ Some n = ap (below limit) (uleb_front n rest) ∙ below-some limit n fits in
    ap (spelled_at uleb_of (uleb_of n ++ rest)) value ∙ spelled_again uleb_of n rest

pub uleb_fault : (limit : ℕ) (bytes : List ℕ) → ((n : ℕ) (rest : List ℕ) → n < limit → bytes ≢ uleb_of n ++ rest) → uleb_at limit bytes ≡ Err (length bytes)
unfolding uleb_at
uleb_fault limit bytes lacks =
    spelled_fault uleb_of bytes (below limit (unsigned_value (leb_front bytes)))
    (λ n rest e. lacks n rest (below-is limit (unsigned_value (leb_front bytes)) n e).1)

-- the number at the front is one alone
pub uleb_one : (m n : ℕ) (x y : List ℕ) → uleb_of m ++ x ≡ uleb_of n ++ y → m ≡ n
uleb_one m n x y e = sym (uleb_front m x) ∙ ap (λ bytes. unsigned_value (leb_front bytes)) e ∙ uleb_front n y

pub sleb_one : (v w : ℤ) (x y : List ℕ) → sleb_of v ++ x ≡ sleb_of w ++ y → v ≡ w
sleb_one v w x y e = sym (sleb_front v x) ∙ ap (λ bytes. signed_value (leb_front bytes)) e ∙ sleb_front w y

-- ---- an advance of the address

pub advanced_takes : (from : ℕ) (bytes : List ℕ) (to : ℕ) (rest : List ℕ) → advanced_at from bytes ≡ Ok (to, rest)
    → (bytes ≡ uleb_of (to - from) ++ rest) × (from ≤ to) × (to < 2 ^ 64)
unfolding advanced_at
advanced_takes from bytes to rest e =
    let found = spelled_takes (λ k. uleb_of (k - from)) bytes (below (2 ^ 64) (from + unsigned_value (leb_front bytes))) to rest e in
    let is = below-is (2 ^ 64) (from + unsigned_value (leb_front bytes)) to found.0 in
    (found.1, omega (arith, is.0), is.1)

pub advanced_again : (from to : ℕ) (rest : List ℕ) → from ≤ to → to < 2 ^ 64 → advanced_at from (uleb_of (to - from) ++ rest) ≡ Ok (to, rest)
unfolding advanced_at
advanced_again from to rest above fits =
    let spell : ℕ → List ℕ = λ k. uleb_of (k - from) in
    let leads : from + (to - from) ≡ to = omega arith in
    let value : below (2 ^ 64) (from + unsigned_value (leb_front (uleb_of (to - from) ++ rest))) ≡ Some to =
    ap (λ k. below (2 ^ 64) (from + k)) (uleb_front (to - from) rest) ∙ ap (below (2 ^ 64)) leads ∙ below-some (2 ^ 64) to fits in
    ap (spelled_at spell (uleb_of (to - from) ++ rest)) value ∙ spelled_again spell to rest

pub advanced_fault : (from : ℕ) (bytes : List ℕ) → ((to : ℕ) (rest : List ℕ) → from ≤ to → to < 2 ^ 64 → bytes ≢ uleb_of (to - from) ++ rest)
    → advanced_at from bytes ≡ Err (length bytes)
unfolding advanced_at
advanced_fault from bytes lacks =
    spelled_fault (λ k. uleb_of (k - from)) bytes (below (2 ^ 64) (from + unsigned_value (leb_front bytes)))
    (λ to rest e. let is = below-is (2 ^ 64) (from + unsigned_value (leb_front bytes)) to e in lacks to rest (omega (arith, is.0)) is.1)

-- ---- an advance of the line

natural-is : (limit : ℕ) (v : ℤ) (m : ℕ) → natural_below limit v ≡ Some m → (v ≡ pos m) × (m < limit)
natural-is limit (pos n) m e = let is = below-is limit n m e in (ap pos is.0, is.1)
natural-is limit (negsuc n) m e = absurd cc

pub line_takes : (from : ℕ) (bytes : List ℕ) (to : ℕ) (rest : List ℕ) → line_at from bytes ≡ Ok (to, rest)
    → (bytes ≡ sleb_of (pos to -ℤ pos from) ++ rest) × (to < 2 ^ 32)
unfolding line_at
line_takes from bytes to rest e =
    let found = spelled_takes (λ k. sleb_of (pos k -ℤ pos from)) bytes (natural_below (2 ^ 32) (pos from +ℤ signed_value (leb_front bytes))) to rest e in
    (found.1, (natural-is (2 ^ 32) (pos from +ℤ signed_value (leb_front bytes)) to found.0).1)

pub line_again : (from to : ℕ) (rest : List ℕ) → to < 2 ^ 32 → line_at from (sleb_of (pos to -ℤ pos from) ++ rest) ≡ Ok (to, rest)
unfolding line_at
line_again from to rest fits =
    let spell : ℕ → List ℕ = λ k. sleb_of (pos k -ℤ pos from) in
    let leads : pos from +ℤ (pos to -ℤ pos from) ≡ pos to = omega (arith, ints) in
    let value : natural_below (2 ^ 32) (pos from +ℤ signed_value (leb_front (sleb_of (pos to -ℤ pos from) ++ rest))) ≡ Some to =
    ap (λ v. natural_below (2 ^ 32) (pos from +ℤ v)) (sleb_front (pos to -ℤ pos from) rest) ∙ ap (natural_below (2 ^ 32)) leads ∙ below-some (2 ^ 32) to fits in
    ap (spelled_at spell (sleb_of (pos to -ℤ pos from) ++ rest)) value ∙ spelled_again spell to rest

pub line_fault : (from : ℕ) (bytes : List ℕ) → ((to : ℕ) (rest : List ℕ) → to < 2 ^ 32 → bytes ≢ sleb_of (pos to -ℤ pos from) ++ rest)
    → line_at from bytes ≡ Err (length bytes)
unfolding line_at
line_fault from bytes lacks =
    spelled_fault (λ k. sleb_of (pos k -ℤ pos from)) bytes (natural_below (2 ^ 32) (pos from +ℤ signed_value (leb_front bytes)))
    (λ to rest e. lacks to rest (natural-is (2 ^ 32) (pos from +ℤ signed_value (leb_front bytes)) to e).1)

-- an advance by what was read
pub advanced_by : (from by : ℕ) (bytes rest : List ℕ) → bytes ≡ uleb_of by ++ rest → from + by < 2 ^ 64 → advanced_at from bytes ≡ Ok (from + by, rest)
advanced_by from by bytes rest is fits =
    let back : by ≡ from + by - from = omega arith in
    ap (advanced_at from) (is ∙ ap (λ k. uleb_of k ++ rest) back) ∙ advanced_again from (from + by) rest (omega arith) fits

pub line_by : (from to : ℕ) (by : ℤ) (bytes rest : List ℕ) → bytes ≡ sleb_of by ++ rest → by ≡ pos to -ℤ pos from → to < 2 ^ 32
    → line_at from bytes ≡ Ok (to, rest)
line_by from to by bytes rest is back fits =
    ap (line_at from) (is ∙ ap (λ v. sleb_of v ++ rest) back) ∙ line_again from to rest fits

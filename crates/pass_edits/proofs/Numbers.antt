-- Numbers that stand on code once: of which items none has the number of some code, and what items may be put, changed or taken out.
use Rattle.std.proofs.Common.{◌≡◌, ◌⊎◌, inl, inr, ℕ, zero, suc, ◌<◌, List, [], ◌∷◌, ◌++◌, length, get_or, All, Contains, Option, Some, None, slice_get, refl}
use Rattle.std.proofs.Common.{sym, ap, ◌∙◌, subst, arith}
use Rattle.std.specs.List.{filter_map, cons_option}
use Rattle.std.proofs.lemmas.List.Elements.{All-nil, All-cons, All-head, All-tail, All-contains}
use Rattle.std.proofs.lemmas.Option.{slice_get-get_or, slice_get_within, get_or_from_slice_get}
use Rattle.mir_func.specs.declared.item.Item.{Item}
use Rattle.mir_func.specs.declared.item.ItemKind.{ItemKind}
use Rattle.mir_func.specs.declared.item.ItemKind.TheVariants.{Code, Mark, Phi}
use Rattle.mir_func.specs.Sound.{number_of, code_number, NumbersOnce}

-- the number isn't on it
abbrev pub IsUnlike : ℕ → ItemKind → Type 0
IsUnlike k kind = (m : ℕ) → number_of kind ≡ Some m → k ≡ m → ⊥

-- nor on any of these
abbrev pub AreUnlike : ℕ → List Item → Type 0
AreUnlike k xs = All (λ (x : Item). IsUnlike k x.kind) xs

-- ---- what holds of each of some items and of others

pub all_first : {A : Type 0} (P : A → Type 0) (xs ys : List A) → All P (xs ++ ys) → All P xs
all_first P [] ys h = All-nil P
all_first P (x ∷ xs) ys h = All-cons P x xs (All-head P x (xs ++ ys) h) (all_first P xs ys (All-tail P x (xs ++ ys) h))

pub all_second : {A : Type 0} (P : A → Type 0) (xs ys : List A) → All P (xs ++ ys) → All P ys
all_second P [] ys h = h
all_second P (x ∷ xs) ys h = all_second P xs ys (All-tail P x (xs ++ ys) h)

-- ---- the number of code

pub once_tail : (x : Item) (xs : List Item) → NumbersOnce (x ∷ xs) → NumbersOnce xs
once_tail x xs once i j y z k at c at' n = let e : suc i ≡ suc j = once (suc i) (suc j) y z k at c at' n in omega (arith, e)

get_first : (xs ys : List Item) (j : ℕ) (d : Item) → j < length xs → slice_get (xs ++ ys) j ≡ Some (get_or xs j d)
get_first [] ys j d lt = absurd (omega (arith, lt))
get_first (x ∷ xs) ys zero d lt = refl
get_first (x ∷ xs) ys (suc j) d lt = get_first xs ys j d (omega (arith, lt))

get_middle : (xs : List Item) (y : Item) (ys : List Item) → slice_get (xs ++ y ∷ ys) (length xs) ≡ Some y
get_middle [] y ys = refl
get_middle (x ∷ xs) y ys = get_middle xs y ys

-- above and behind code with a number no item has it
pub unlike_above : (xs : List Item) (y : Item) (ys : List Item) (k : ℕ) → NumbersOnce (xs ++ y ∷ ys) → code_number y.kind ≡ Some k → AreUnlike k xs
unlike_above xs y ys k once code j d lt m number same =
    let e : length xs ≡ j = once (length xs) j y (get_or xs j d) k (get_middle xs y ys) code (get_first xs (y ∷ ys) j d lt) (number ∙ ap Some (sym same)) in
    omega (arith, e, lt)

unlike_first : (y : Item) (ys : List Item) (k : ℕ) → NumbersOnce (y ∷ ys) → code_number y.kind ≡ Some k → AreUnlike k ys
unlike_first y ys k once code j d lt m number same =
    let e : zero ≡ suc j = once zero (suc j) y (get_or ys j d) k refl code (slice_get-get_or ys j d lt) (number ∙ ap Some (sym same)) in
    omega (arith, e)

pub unlike_behind : (xs : List Item) (y : Item) (ys : List Item) (k : ℕ) → NumbersOnce (xs ++ y ∷ ys) → code_number y.kind ≡ Some k → AreUnlike k ys
unlike_behind [] y ys k once code = unlike_first y ys k once code
unlike_behind (x ∷ xs) y ys k once code = unlike_behind xs y ys k (once_tail x (xs ++ y ∷ ys) once) code

-- ---- items with fewer numbers

-- what has a number had it, and what has it as code had it so
pub record HasNoOther (x y : Item) : Type 0 where
  pub number : (k : ℕ) → number_of y.kind ≡ Some k → number_of x.kind ≡ Some k
  pub code : (k : ℕ) → code_number y.kind ≡ Some k → code_number x.kind ≡ Some k

pub has_same : (x : Item) → HasNoOther x x
has_same x = record { number = λ k e. e; code = λ k e. e }

pub data HaveFewer : List Item → List Item → Type 0 where
  no_more : HaveFewer [] []
  keeps : {x y : Item} {xs ys : List Item} → HasNoOther x y → HaveFewer xs ys → HaveFewer (x ∷ xs) (y ∷ ys)
  drops : {x : Item} {xs ys : List Item} → HaveFewer xs ys → HaveFewer (x ∷ xs) ys
  puts : {y : Item} {xs ys : List Item} → number_of y.kind ≡ None → code_number y.kind ≡ None → HaveFewer xs ys → HaveFewer xs (y ∷ ys)

pub fewer_same : (xs : List Item) → HaveFewer xs xs
fewer_same [] = no_more
fewer_same (x ∷ xs) = keeps (has_same x) (fewer_same xs)

pub fewer_behind : (xs ys zs : List Item) → HaveFewer ys zs → HaveFewer (xs ++ ys) (xs ++ zs)
fewer_behind [] ys zs h = h
fewer_behind (x ∷ xs) ys zs h = keeps (has_same x) (fewer_behind xs ys zs h)

-- what has a number stood somewhere
record Was (xs : List Item) (y : Item) : Type 0 where
  index : ℕ
  item : Item
  at : slice_get xs index ≡ Some item
  other : HasNoOther item y

further : (z : Item) (xs : List Item) (y : Item) → Was xs y → Was (z ∷ xs) y
further z xs y w = record { index = suc w.index; item = w.item; at = w.at; other = w.other }

other_is : (x z y : Item) → z ≡ y → HasNoOther x z → HasNoOther x y
other_is x z y same h = record {
  number = λ k e. h.number k (ap (λ (i : Item). number_of i.kind) same ∙ e);
  code = λ k e. h.code k (ap (λ (i : Item). code_number i.kind) same ∙ e);
}

-- no number, and yet this one
none_some : {A : Type 0} (o : Option ℕ) (n : ℕ) → o ≡ None → o ≡ Some n → A
none_some o n a b = let bad : None ≡ Some n = sym a ∙ b in cc

was : {xs ys : List Item} → HaveFewer xs ys → (k : ℕ) (y : Item) (n : ℕ) → slice_get ys k ≡ Some y → number_of y.kind ≡ Some n → Was xs y
was no_more k y n e number = cc
was (keeps {x = x} {y = z} h more) zero y n e number =
    let same : z ≡ y = cc in record { index = 0; item = x; at = refl; other = other_is x z y same h }
was (keeps {x = x} {xs = xs} h more) (suc k) y n e number = further x xs y (was more k y n e number)
was (drops {x = x} {xs = xs} more) k y n e number = further x xs y (was more k y n e number)
was (puts {y = z} none code more) zero y n e number =
    let same : z ≡ y = cc in none_some (number_of z.kind) n none (ap (λ (i : Item). number_of i.kind) same ∙ number)
was (puts none code more) (suc k) y n e number = was more k y n e number

pub code_is_number : (k : ItemKind) (n : ℕ) → code_number k ≡ Some n → number_of k ≡ Some n
code_is_number (Code i m) n e = e
code_is_number (Mark v m) n e = cc
code_is_number (Phi p m) n e = cc

pub once_fewer : {xs ys : List Item} → HaveFewer xs ys → NumbersOnce xs → NumbersOnce ys
once_fewer no_more once = once
once_fewer (drops {x = x} {xs = xs} more) once = once_fewer more (once_tail x xs once)
once_fewer (puts {y = z} {ys = ys} none code more) once = by_index (once_fewer more once) where
  by_index : NumbersOnce ys → NumbersOnce (z ∷ ys)
  by_index rest zero zero a b k at c at' n = refl
  by_index rest (suc i) (suc j) a b k at c at' n = let e = rest i j a b k at c at' n in omega (arith, e)
  by_index rest zero (suc j) a b k at c at' n =
      let same : z ≡ a = cc in none_some (code_number z.kind) k code (ap (λ (i : Item). code_number i.kind) same ∙ c)
  by_index rest (suc i) zero a b k at c at' n =
      let same : z ≡ b = cc in none_some (number_of z.kind) k none (ap (λ (i : Item). number_of i.kind) same ∙ n)
once_fewer (keeps {x = x} {y = z} {xs = xs} {ys = ys} h more) once = by_index (once_fewer more (once_tail x xs once)) where
  by_index : NumbersOnce ys → NumbersOnce (z ∷ ys)
  by_index rest zero zero a b k at c at' n = refl
  by_index rest (suc i) (suc j) a b k at c at' n = let e = rest i j a b k at c at' n in omega (arith, e)
  by_index rest zero (suc j) a b k at c at' n =
      let same : z ≡ a = cc in
      let w = was more j b k at' n in
      let e : zero ≡ suc w.index = once zero (suc w.index) x w.item k refl (h.code k (ap (λ (i : Item). code_number i.kind) same ∙ c)) w.at
      (w.other.number k n) in
      absurd (omega (arith, e))
  by_index rest (suc i) zero a b k at c at' n =
      let same : z ≡ b = cc in
      let w = was more i a k at (code_is_number a.kind k c) in
      let e : suc w.index ≡ zero =
      once (suc w.index) zero w.item x k w.at (w.other.code k c) refl (h.number k (ap (λ (i : Item). number_of i.kind) same ∙ n)) in
      absurd (omega (arith, e))

-- ---- one item gets a number that nothing has

pub once_first : (y : Item) (ys : List Item) (n : ℕ) → number_of y.kind ≡ Some n → AreUnlike n ys → NumbersOnce ys → NumbersOnce (y ∷ ys)
once_first y ys n number unlike once = by_index where
  far : {A : Type 0} (j : ℕ) (z : Item) (m : ℕ) → slice_get ys j ≡ Some z → number_of z.kind ≡ Some m → n ≡ m → A
  far j z m at e same =
      let lt = slice_get_within ys j z at in
      let is : get_or ys j z ≡ z = get_or_from_slice_get ys j z z at in
      absurd (unlike j z lt m (ap (λ (i : Item). number_of i.kind) is ∙ e) same)

  own : (z : Item) (m : ℕ) → y ≡ z → number_of z.kind ≡ Some m → n ≡ m
  own z m same e = let w : Some n ≡ Some m = sym number ∙ ap (λ (i : Item). number_of i.kind) same ∙ e in cc

  by_index : NumbersOnce (y ∷ ys)
  by_index zero zero a b k at c at' m = refl
  by_index (suc i) (suc j) a b k at c at' m = let e = once i j a b k at c at' m in omega (arith, e)
  by_index zero (suc j) a b k at c at' m = let same : y ≡ a = cc in far j b k at' m (own a k same (code_is_number a.kind k c))
  by_index (suc i) zero a b k at c at' m = let same : y ≡ b = cc in far i a k at (code_is_number a.kind k c) (own b k same m)

pub once_gains : (xs : List Item) (x y : Item) (ys : List Item) (n : ℕ) → number_of y.kind ≡ Some n → AreUnlike n xs → AreUnlike n ys →
    NumbersOnce (xs ++ x ∷ ys) → NumbersOnce (xs ++ y ∷ ys)
once_gains [] x y ys n number above behind once = once_first y ys n number behind (once_tail x ys once)
once_gains (z ∷ xs) x y ys n number above behind once =
    by_index (once_gains xs x y ys n number (All-tail (λ (i : Item). IsUnlike n i.kind) z xs above) behind (once_tail z (xs ++ x ∷ ys) once))
    (All-head (λ (i : Item). IsUnlike n i.kind) z xs above) where
      -- what stands there has the new number, or stood there
      there : (us : List Item) (j : ℕ) (b : Item) → slice_get (us ++ y ∷ ys) j ≡ Some b → (y ≡ b) ⊎ (slice_get (us ++ x ∷ ys) j ≡ Some b)
      there [] zero b e = inl (let same : y ≡ b = cc in same)
      there [] (suc j) b e = inr e
      there (u ∷ us) zero b e = inr e
      there (u ∷ us) (suc j) b e = there us j b e

      new : (b : Item) (k : ℕ) → y ≡ b → number_of b.kind ≡ Some k → n ≡ k
      new b k same e = let w : Some n ≡ Some k = sym number ∙ ap (λ (i : Item). number_of i.kind) same ∙ e in cc

      by_index : NumbersOnce (xs ++ y ∷ ys) → IsUnlike n z.kind → NumbersOnce (z ∷ xs ++ y ∷ ys)
      by_index rest far zero zero a b k at c at' m = refl
      by_index rest far (suc i) (suc j) a b k at c at' m = let e = rest i j a b k at c at' m in omega (arith, e)
      by_index rest far zero (suc j) a b k at c at' m =
          let same : z ≡ a = cc in
          elim (there xs j b at') [
            | inl is ↦ absurd (far k (ap (λ (i : Item). number_of i.kind) same ∙ code_is_number a.kind k c) (new b k is m))
            | inr is ↦ once zero (suc j) z b k refl (ap (λ (i : Item). code_number i.kind) same ∙ c) is m
          ]
      by_index rest far (suc i) zero a b k at c at' m =
          let same : z ≡ b = cc in
          elim (there xs i a at) [
            | inl is ↦ absurd (far k (ap (λ (i : Item). number_of i.kind) same ∙ m) (new a k is (code_is_number a.kind k c)))
            | inr is ↦ once (suc i) zero a z k is c refl (ap (λ (i : Item). number_of i.kind) same ∙ m)
          ]

-- ---- lists

pub fewer_append : {xs ys us vs : List Item} → HaveFewer xs ys → HaveFewer us vs → HaveFewer (xs ++ us) (ys ++ vs)
fewer_append no_more k = k
fewer_append (keeps h more) k = keeps h (fewer_append more k)
fewer_append (drops more) k = drops (fewer_append more k)
fewer_append (puts none code more) k = puts none code (fewer_append more k)

-- ---- the numbers of items

more_option : (o : Option ℕ) (ns : List ℕ) (k : ℕ) → Contains ns k → Contains (cons_option o ns) k
more_option None ns k h = h
more_option (Some n) ns k (j, lt, e) = (suc j, omega (arith, lt), e)

-- a number on an item is among the items' numbers
pub number_in : (xs : List Item) (x : Item) (k : ℕ) → Contains xs x → number_of x.kind ≡ Some k → Contains (filter_map (λ (i : Item). number_of i.kind) xs) k
number_in [] x k (j, lt, e) number = absurd (omega (arith, lt))
number_in (y ∷ ys) x k (zero, lt, e) number =
    let is : number_of y.kind ≡ Some k = ap (λ (z : Item). number_of z.kind) e ∙ number in
    subst (λ (o : Option ℕ). Contains (cons_option o (filter_map (λ (i : Item). number_of i.kind) ys)) k) (sym is) (0, omega arith, refl)
number_in (y ∷ ys) x k (suc j, lt, e) number =
    more_option (number_of y.kind) (filter_map (λ (i : Item). number_of i.kind) ys) k (number_in ys x k (j, omega (arith, lt), e) number)

-- a number on no item isn't
pub number_not : (xs : List Item) (k : ℕ) → AreUnlike k xs → Contains (filter_map (λ (i : Item). number_of i.kind) xs) k → ⊥
number_not [] k h (j, lt, e) = omega (arith, lt)
number_not (y ∷ ys) k h c =
    by_number (number_of y.kind) refl c (number_not ys k (All-tail (λ (x : Item). IsUnlike k x.kind) y ys h)) where
      by_number : (o : Option ℕ) → number_of y.kind ≡ o → Contains (cons_option o (filter_map (λ (i : Item). number_of i.kind) ys)) k →
          (Contains (filter_map (λ (i : Item). number_of i.kind) ys) k → ⊥) → ⊥
      by_number None is w rec = rec w
      by_number (Some n) is (zero, lt, e) rec = All-head (λ (x : Item). IsUnlike k x.kind) y ys h n is (sym e)
      by_number (Some n) is (suc j, lt, e) rec = rec (j, omega (arith, lt), e)

-- code with the number is among the items
abbrev pub HasCode : ℕ → List Item → Type 0
HasCode m xs = (x : Item) × Contains xs x × (code_number x.kind ≡ Some m)

-- what has a number isn't unlike it
pub not_unlike : (k : ℕ) (xs : List Item) → AreUnlike k xs → HasCode k xs → ⊥
not_unlike k xs h w = All-contains (λ (x : Item). IsUnlike k x.kind) xs w.0 h w.1 k (code_is_number w.0.kind k w.2) refl

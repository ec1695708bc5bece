-- The ranges of an instance, as the instructions are walked: what is closed, and what is open and goes on.
-- Plan: words follow one another, so the ranges of those that follow begin at the end of those before or later. A word of the instance lengthens an open range
-- or opens one; another word closes it, and the ranges behind it begin later, so that nothing touches.
use Rattle.std.proofs.Common.{◌≡◌, ℕ, ◌+◌, ◌<◌, ◌≤◌, Bool, true, false, cond, eqb, List, [], ◌∷◌, ◌++◌, refl, sym, ◌∙◌, ap, arith, append_assoc, append-nil}
use Rattle.std.proofs.Common.{eq-eqb, nat_eq, ◌||◌, true≢false}
use Rattle.std.specs.List.{list_any}
use Rattle.std.proofs.lemmas.Bool.{ne_eqb}
use Rattle.dwarf_rnglists.specs.declared.range.AddressRange.{AddressRange}
use Rattle.inline_instances.specs.Words.{InlinedWord, has_call, extended, ranges_of}
use Rattle.inline_instances.specs.steps.Open.{BeginAt, HasRanges, closed_at, start_at}

abbrev pub range : (lo hi : ℕ) → AddressRange
range lo hi = record { lo = lo; hi = hi }

-- ranges begin at an address or later
abbrev pub Begin : ℕ → List AddressRange → Type 0
Begin a [] = Unit {0}
Begin a (r ∷ rs) = a ≤ r.lo

-- ---- two extensions are one

extended_at : (lo hi : ℕ) (r : AddressRange) (rs : List AddressRange) → hi ≡ r.lo → extended lo hi (r ∷ rs) ≡ range lo r.hi ∷ rs
extended_at lo hi r rs e = ap (λ (b : Bool). cond b (range lo r.hi ∷ rs) (range lo hi ∷ r ∷ rs)) (eq-eqb hi r.lo e)

extended_before : (lo hi : ℕ) (r : AddressRange) (rs : List AddressRange) → hi < r.lo → extended lo hi (r ∷ rs) ≡ range lo hi ∷ r ∷ rs
extended_before lo hi r rs below =
    ap (λ (b : Bool). cond b (range lo r.hi ∷ rs) (range lo hi ∷ r ∷ rs)) (ne_eqb hi r.lo (λ e. let same : hi ≡ r.lo = e in omega (arith, same)))

pub extended_twice : (from a b : ℕ) (rs : List AddressRange) → extended from a (extended a b rs) ≡ extended from b rs
extended_twice from a b [] = extended_at from a (range a b) [] refl
extended_twice from a b (r ∷ rs) = by (eqb b r.lo)
  where
    by : (z : Bool) → extended from a (cond z (range a r.hi ∷ rs) (range a b ∷ r ∷ rs)) ≡ cond z (range from r.hi ∷ rs) (range from b ∷ r ∷ rs)
    by true = extended_at from a (range a r.hi) rs refl
    by false = extended_at from a (range a b) (r ∷ rs) refl

-- ---- the ranges of words that follow

begin_later : (a b : ℕ) (rs : List AddressRange) → a ≤ b → Begin b rs → Begin a rs
begin_later a b [] le begin = tt
begin_later a b (r ∷ rs) le begin = omega (arith, le, begin)

begin_extended : (lo hi : ℕ) (rs : List AddressRange) → Begin lo (extended lo hi rs)
begin_extended lo hi [] = omega arith
begin_extended lo hi (r ∷ rs) = by (eqb hi r.lo)
  where
    by : (z : Bool) → Begin lo (cond z (range lo r.hi ∷ rs) (range lo hi ∷ r ∷ rs))
    by true = omega arith
    by false = omega arith

pub ranges_begin : (n a : ℕ) (ws : List InlinedWord) → BeginAt a ws → Begin a (ranges_of n ws)
ranges_begin n a [] follow = tt
ranges_begin n a (w ∷ ws) follow =
    by (has_call n w) (begin_later a w.hi (ranges_of n ws) (omega (arith, follow.0, follow.1)) (ranges_begin n w.hi ws follow.2))
  where
    by : (z : Bool) → Begin a (ranges_of n ws) → Begin a (cond z (extended w.lo w.hi (ranges_of n ws)) (ranges_of n ws))
    by true later = begin_later a w.lo (extended w.lo w.hi (ranges_of n ws)) (omega (arith, follow.0)) (begin_extended w.lo w.hi (ranges_of n ws))
    by false later = later

-- a range that ends before others begin
extended_apart : (from a b : ℕ) (rs : List AddressRange) → a < b → Begin b rs → extended from a rs ≡ range from a ∷ rs
extended_apart from a b [] below begin = refl
extended_apart from a b (r ∷ rs) below begin = extended_before from a r rs (omega (arith, below, begin))

-- ---- one more word

module _ (front : List InlinedWord) (end from n : ℕ) (rs : List AddressRange) (w : InlinedWord) (at : end ≡ w.lo) (long : w.lo < w.hi) where
  -- the words that follow the word, with it before them
  follows : (rest : List InlinedWord) → BeginAt w.hi rest → BeginAt end (w ∷ rest)
  follows rest begin = (at, long, begin)

  behind : (rest : List InlinedWord) → ranges_of n ((front ++ w ∷ []) ++ rest) ≡ ranges_of n (front ++ (w ∷ rest))
  behind rest = ap (ranges_of n) (append_assoc front (w ∷ []) rest)

  of_word : (z : Bool) → has_call n w ≡ z → (rest : List InlinedWord)
      → ranges_of n (w ∷ rest) ≡ cond z (extended w.lo w.hi (ranges_of n rest)) (ranges_of n rest)
  of_word z is rest = ap (λ (b : Bool). cond b (extended w.lo w.hi (ranges_of n rest)) (ranges_of n rest)) is

  -- an open instance goes on
  goes_on : has_call n w ≡ true → HasRanges front end true from rs n → HasRanges (front ++ w ∷ []) w.hi true from rs n
  goes_on is has rest begin =
      behind rest ∙ has (w ∷ rest) (follows rest begin)
      ∙ ap (λ (some : List AddressRange). rs ++ extended from end some) (of_word true is rest)
      ∙ ap (λ (a : ℕ). rs ++ extended from a (extended w.lo w.hi (ranges_of n rest))) at
      ∙ ap (λ (some : List AddressRange). rs ++ some) (extended_twice from w.lo w.hi (ranges_of n rest))

  -- another one is opened where the word begins
  is_opened : has_call n w ≡ true → HasRanges front end false from rs n → HasRanges (front ++ w ∷ []) w.hi true w.lo rs n
  is_opened is has rest begin =
      behind rest ∙ has (w ∷ rest) (follows rest begin)
      ∙ ap (λ (some : List AddressRange). rs ++ some) (of_word true is rest)

  -- an open one is closed there
  is_closed : has_call n w ≡ false → HasRanges front end true from rs n → HasRanges (front ++ w ∷ []) w.hi false from (rs ++ range from w.lo ∷ []) n
  is_closed is has rest begin =
      let later = ranges_of n rest in
      behind rest ∙ has (w ∷ rest) (follows rest begin)
      ∙ ap (λ (some : List AddressRange). rs ++ extended from end some) (of_word false is rest)
      ∙ ap (λ (a : ℕ). rs ++ extended from a later) at
      ∙ ap (λ (some : List AddressRange). rs ++ some) (extended_apart from w.lo w.hi later long (ranges_begin n w.hi rest begin))
      ∙ sym (append_assoc rs (range from w.lo ∷ []) later)

  -- and another one stays as it is
  stays : has_call n w ≡ false → HasRanges front end false from rs n → HasRanges (front ++ w ∷ []) w.hi false from rs n
  stays is has rest begin =
      behind rest ∙ has (w ∷ rest) (follows rest begin) ∙ ap (λ (some : List AddressRange). rs ++ some) (of_word false is rest)

  -- an instance behind the word, by whether it was open before it
  pub has_more : (before : Bool) → HasRanges front end before from rs n
      → HasRanges (front ++ w ∷ []) w.hi (has_call n w) (start_at before (has_call n w) from w.lo) (closed_at before (has_call n w) from w.lo rs) n
  has_more before has = by before (has_call n w) refl has
    where
      by : (y z : Bool) → has_call n w ≡ z → HasRanges front end y from rs n
          → HasRanges (front ++ w ∷ []) w.hi z (start_at y z from w.lo) (closed_at y z from w.lo rs) n
      by true true is known = goes_on is known
      by true false is known = is_closed is known
      by false true is known = is_opened is known
      by false false is known = stays is known

-- ---- the end

pub ranges_at_end : (front : List InlinedWord) (end from n : ℕ) (rs : List AddressRange) (before : Bool) → HasRanges front end before from rs n
    → closed_at before false from end rs ≡ ranges_of n front
ranges_at_end front end from n rs before has = sym (ap (ranges_of n) (sym (append-nil front)) ∙ has [] tt ∙ by before)
  where
    by : (z : Bool) → rs ++ cond z (extended from end []) [] ≡ closed_at z false from end rs
    by true = refl
    by false = append-nil rs

-- ---- a call that no word has

pub ranges_of_others : (n : ℕ) (words rest : List InlinedWord) → list_any (has_call n) words ≡ false → ranges_of n (words ++ rest) ≡ ranges_of n rest
ranges_of_others n [] rest none = refl
ranges_of_others n (w ∷ words) rest none = by (has_call n w) none (ranges_of_others n words rest)
  where
    by : (z : Bool) → (z || list_any (has_call n) words) ≡ false → (list_any (has_call n) words ≡ false → ranges_of n (words ++ rest) ≡ ranges_of n rest)
        → cond z (extended w.lo w.hi (ranges_of n (words ++ rest))) (ranges_of n (words ++ rest)) ≡ ranges_of n rest
    by true none_of later = absurd (true≢false none_of)
    by false none_of later = later none_of

-- Each key of an entry's lines stands once, where no line has the key of an earlier one.
use Rattle.std.proofs.Common.{◌≡◌, ℕ, suc, ◌+◌, ◌<◌, ◌≤◌, Bool, true, false, ◌&&◌, ◌||◌, not, cond, nat_lt, ◌==◌, List, [], ◌∷◌}
use Rattle.std.proofs.Common.{length, get_or, take, drop, Option, Some, None}
use Rattle.std.proofs.Common.{refl, sym, ap, subst, ◌∙◌, inl, inr, arith}
use Rattle.std.specs.Prelude.{count_by, is_some, slice_get}
use Rattle.std.specs.List.{list_all, list_any, prefix_len, position_or_len}
use Rattle.std.specs.Borrow.{Bor}
use Rattle.std.specs.Ordering.{nat_cmp}
use Rattle.std.specs.Cmp.Lexicographic.{slice_cmp}
use Rattle.std.specs.Str.{bytes_eq}
use Rattle.std.specs.Char.{is_ascii_alphabetic}
use Rattle.std.specs.BTreeSet.{BTreeSet, Updates}
use Rattle.std.proofs.lemmas.Bool.{and_parts, or_cases, cases_Bool, cond-true, ltb-true, ltb-false, lt-ltb, le-ltb, eqb-true, false_from_ne_true, or_right}
use Rattle.std.proofs.lemmas.List.{length-take-le, take-append-drop, take_all}
use Rattle.std.proofs.lemmas.List.Folds.{list_all-append, list_any_more, list_all_at}
use Rattle.std.proofs.lemmas.List.Sums.{sum_by-cons, sum_by_more, sum_by_more_le, prefix_len-le-length}
use Rattle.std.proofs.lemmas.Slice.Eq.{bytes_eq-Decides}
use Rattle.std.proofs.lemmas.Map.Text.{is_eq-slice_cmp}
use Rattle.read_lexer.specs.declared.line.Line.{Line}
use Rattle.read_lexer.specs.Bytes.{is_blank}
use Rattle.read_declarations.specs.FlowMapping.{has_text}
use Rattle.read_declarations.specs.Constants.{is_blank_line, has_key, key_of, key_by, key_len, letters_with_colon, has_this_key, again, is_repeated}
use Rattle.read_declarations.specs.Constants.{is_once, goes_on, continues, some_key, has_form}

-- ---- how many lines have a key

abbrev count : (key : List ℕ) → List Line → ℕ
count key lines = count_by (has_this_key key) lines

abbrev one : (key : List ℕ) → Line → ℕ
one key l = cond (has_this_key key l) 1 0

any_by : (key : List ℕ) (ls : List Line) (b : Bool) → list_any (has_this_key key) ls ≡ nat_lt 0 (count key ls) →
    (b || list_any (has_this_key key) ls) ≡ nat_lt 0 (cond b 1 0 + count key ls)
any_by key ls true rest = sym (lt-ltb 0 (1 + count key ls) (omega arith))
any_by key ls false rest = let none : count key ls ≡ 0 + count key ls = omega arith in rest ∙ ap (λ (n : ℕ). nat_lt 0 n) none

any_counted : (key : List ℕ) (lines : List Line) → list_any (has_this_key key) lines ≡ nat_lt 0 (count key lines)
any_counted key [] = refl
any_counted key (l ∷ ls) =
    any_by key ls (has_this_key key l) (any_counted key ls) ∙ ap (λ (n : ℕ). nat_lt 0 n) (sym (sum_by-cons (one key) l ls))

both_less : (a b n : ℕ) → n ≡ b + 1 → nat_lt (1 + a) n ≡ nat_lt a b
both_less a b n is = elim (cases_Bool (nat_lt a b)) as (λ _. nat_lt (1 + a) n ≡ nat_lt a b) [
  | inl e ↦ lt-ltb (1 + a) n (omega (arith, is, ltb-true a b e)) ∙ sym e
  | inr e ↦ le-ltb (1 + a) n (omega (arith, is, ltb-false a b e)) ∙ sym e
]

drop_behind : (n : ℕ) (l : Line) (ls : List Line) → drop (1 + n) (l ∷ ls) ≡ drop n ls
drop_behind n l ls = let next : 1 + n ≡ suc n = omega arith in ap (λ (m : ℕ). drop m (l ∷ ls)) next

again_behind : (key : List ℕ) (l : Line) (ls : List Line) (n : ℕ) (b : Bool) →
    again key (l ∷ ls) (cond b (Some (1 + n)) None) ≡ again key ls (cond b (Some n) None)
again_behind key l ls n true = ap (λ (xs : List Line). list_any (has_this_key key) (drop 1 xs)) (drop_behind n l ls)
again_behind key l ls n false = refl

twice_by : (key : List ℕ) (l : Line) (ls : List Line) (n : ℕ) → position_or_len (has_this_key key) ls ≡ n →
    is_repeated key ls ≡ nat_lt 1 (count key ls) → (b : Bool) →
    again key (l ∷ ls) (cond (nat_lt (cond (not b) (1 + n) 0) (length (l ∷ ls))) (Some (cond (not b) (1 + n) 0)) None) ≡ nat_lt 1 (cond b 1 0 + count key ls)
twice_by key l ls n is rest true =
    ap (again key (l ∷ ls)) (cond-true (nat_lt 0 (length (l ∷ ls))) (Some 0) None (lt-ltb 0 (length (l ∷ ls)) (omega arith)))
    ∙ any_counted key ls ∙ sym (both_less 0 (count key ls) (1 + count key ls) (omega arith))
twice_by key l ls n is rest false =
    let none : count key ls ≡ 0 + count key ls = omega arith in
    ap (λ (b : Bool). again key (l ∷ ls) (cond b (Some (1 + n)) None)) (both_less n (length ls) (length (l ∷ ls)) (omega arith))
    ∙ again_behind key l ls n (nat_lt n (length ls))
    ∙ ap (λ (m : ℕ). again key ls (cond (nat_lt m (length ls)) (Some m) None)) (sym is)
    ∙ rest ∙ ap (λ (m : ℕ). nat_lt 1 m) none

-- two lines have a key where their number says so
twice : (key : List ℕ) (lines : List Line) → is_repeated key lines ≡ nat_lt 1 (count key lines)
twice key [] = refl
twice key (l ∷ ls) =
    twice_by key l ls (position_or_len (has_this_key key) ls) refl (twice key ls) (has_this_key key l)
    ∙ ap (λ (n : ℕ). nat_lt 1 n) (sym (sum_by-cons (one key) l ls))

-- ---- keys of lines

no_letters : (text : List ℕ) → list_all is_blank text ≡ true → prefix_len is_ascii_alphabetic text ≡ 0
no_letters [] all = refl
no_letters (b ∷ bs) all =
    let blank = (and_parts (is_blank b) (list_all is_blank bs) all).0 in
    let is : is_ascii_alphabetic b ≡ false = elim (or_cases (b == 32) (b == 9) blank) [
      | inl e ↦ ap is_ascii_alphabetic (eqb-true b 32 e)
      | inr e ↦ ap is_ascii_alphabetic (eqb-true b 9 e)
    ] in
    ap (λ (c : Bool). cond c (1 + prefix_len is_ascii_alphabetic bs) 0) is

all_behind : (p : ℕ → Bool) (n : ℕ) (xs : List ℕ) → list_all p xs ≡ true → list_all p (drop n xs) ≡ true
all_behind p n xs all =
    (and_parts (list_all p (take n xs)) (list_all p (drop n xs)) (sym (list_all-append p (take n xs) (drop n xs)) ∙ ap (list_all p) (take-append-drop n xs)
    ∙ all)).1

-- a line of blanks has no key
blank_no_key : (text : List ℕ) → is_blank_line text ≡ true → has_key text ≡ false
blank_no_key text all = ap (λ (n : ℕ). is_some (letters_with_colon n (drop 4 text))) (no_letters (drop 4 text) (all_behind is_blank 4 text all))

keyed_no_blank : (text : List ℕ) → has_key text ≡ true → is_blank_line text ≡ false
keyed_no_blank text keyed = false_from_ne_true (is_blank_line text) (λ blank. let none : has_key text ≡ false = blank_no_key text blank in cc)

-- a key isn't empty
key_some : (text : List ℕ) → has_key text ≡ true → 0 < length (key_of text)
key_some text keyed = by (prefix_len is_ascii_alphabetic (drop 4 text)) (prefix_len-le-length is_ascii_alphabetic (drop 4 text)) _ keyed where
  with_colon : (n : ℕ) (colon b : Bool) → n ≤ length (drop 4 text) → (nat_lt 0 n && colon) ≡ b → is_some (cond b (Some n) None) ≡ true →
      0 < length (key_by text (cond b (Some n) None))
  with_colon n colon true within is some =
      let long = ltb-true 0 n (and_parts (nat_lt 0 n) colon is).0 in
      omega (arith, long, length-take-le n (drop 4 text) within)
  with_colon n colon false within is some = absurd cc

  by : (n : ℕ) → n ≤ length (drop 4 text) → (colon : Bool) → is_some (cond (nat_lt 0 n && colon) (Some n) None) ≡ true →
      0 < length (key_by text (cond (nat_lt 0 n && colon) (Some n) None))
  by n within colon some = with_colon n colon (nat_lt 0 n && colon) within refl some

key_none : (text : List ℕ) → has_key text ≡ false → key_of text ≡ []
key_none text none = by (key_len text) none where
  by : (o : Option ℕ) → is_some o ≡ false → key_by text o ≡ []
  by None e = refl
  by (Some n) e = absurd cc

empty_other : (key : List ℕ) → 0 < length key → bytes_eq [] key ≡ false
empty_other [] some = absurd (omega (arith, some))
empty_other (b ∷ bs) some = refl

other : (l : Line) (key : List ℕ) → has_key l.text ≡ false → 0 < length key → has_this_key key l ≡ false
other l key none some = ap (λ (t : List ℕ). bytes_eq t key) (key_none l.text none) ∙ empty_other key some

same : (key : List ℕ) → bytes_eq key key ≡ true
same key = (bytes_eq-Decides key key).1 refl

-- ---- the keys of the lines so far, found by a set

abbrev pub Seen : BTreeSet (Bor (List ℕ)) → List Line → Type 0
Seen keys lines = (t : List ℕ) → 0 < length t → has_text keys t ≡ list_any (has_this_key t) lines

abbrev pub Apart : List Line → Type 0
Apart lines = (t : List ℕ) → 0 < length t → count t lines ≤ 1

either : (a b : Bool) → cond b true a ≡ (a || b)
either true true = refl
either true false = refl
either false true = refl
either false false = refl

or_no : (a : Bool) → a ≡ (a || false)
or_no true = refl
or_no false = refl

module _ (lines : List Line) (i : ℕ) (l : Line) (lt : i < length lines) (is : l ≡ get_or lines i l) where
  any_next : (t : List ℕ) → (list_any (has_this_key t) (take i lines) || has_this_key t l) ≡ list_any (has_this_key t) (take (i + 1) lines)
  any_next t =
      ap (λ (x : Line). list_any (has_this_key t) (take i lines) || has_this_key t x) is ∙ sym (list_any_more (has_this_key t) lines i l lt)

  count_next : (t : List ℕ) → count t (take (i + 1) lines) ≡ count t (take i lines) + one t l
  count_next t = sum_by_more (one t) lines i l lt ∙ ap (λ (x : Line). count t (take i lines) + one t x) (sym is)

  -- a line without a key
  pub seen_same : (keys : BTreeSet (Bor (List ℕ))) → has_key l.text ≡ false → Seen keys (take i lines) → Seen keys (take (i + 1) lines)
  seen_same keys none seen t some =
      seen t some ∙ or_no (list_any (has_this_key t) (take i lines))
      ∙ ap (λ (b : Bool). list_any (has_this_key t) (take i lines) || b) (sym (other l t none some)) ∙ any_next t

  pub apart_same : has_key l.text ≡ false → Apart (take i lines) → Apart (take (i + 1) lines)
  apart_same none apart t some =
      let no : one t l ≡ 0 = ap (λ (b : Bool). cond b 1 0) (other l t none some) in
      omega (arith, count_next t, no, apart t some)

  -- a line with a new key
  pub seen_more : (keys new : BTreeSet (Bor (List ℕ))) (k : Bor (List ℕ)) →
      Updates (λ (x y : Bor (List ℕ)). slice_cmp nat_cmp x.now y.now) keys new k true → k.now ≡ key_of l.text → Seen keys (take i lines) →
      Seen new (take (i + 1) lines)
  seen_more keys new k updates key seen t some =
      updates.0 (record k { now = t })
      ∙ ap (λ (b : Bool). cond b true (has_text keys t)) (is_eq-slice_cmp k.now t ∙ ap (λ (s : List ℕ). bytes_eq s t) key)
      ∙ ap (λ (a : Bool). cond (has_this_key t l) true a) (seen t some)
      ∙ either (list_any (has_this_key t) (take i lines)) (has_this_key t l) ∙ any_next t

  pub apart_more : (keys : BTreeSet (Bor (List ℕ))) → has_key l.text ≡ true → has_text keys (key_of l.text) ≡ false → Seen keys (take i lines) →
      Apart (take i lines) → Apart (take (i + 1) lines)
  apart_more keys keyed new seen apart t some =
      elim (cases_Bool (has_this_key t l)) [
        | inl e ↦
            let key : key_of l.text ≡ t = (bytes_eq-Decides (key_of l.text) t).0 e in
            let none : nat_lt 0 (count t (take i lines)) ≡ false =
            sym (any_counted t (take i lines)) ∙ sym (seen t some) ∙ ap (has_text keys) (sym key) ∙ new in
            let yes : one t l ≡ 1 = ap (λ (b : Bool). cond b 1 0) e in
            omega (arith, count_next t, yes, ltb-false 0 (count t (take i lines)) none)
        | inr e ↦
            let no : one t l ≡ 0 = ap (λ (b : Bool). cond b 1 0) e in
            omega (arith, count_next t, no, apart t some)
      ]

  -- a line with an earlier line's key
  pub not_once : (keys : BTreeSet (Bor (List ℕ))) → has_key l.text ≡ true → has_text keys (key_of l.text) ≡ true → Seen keys (take i lines) →
      false ≡ list_all (is_once lines) lines
  not_once keys keyed known seen =
      let key = key_of l.text in
      let before = ltb-true 0 (count key (take i lines)) (sym (any_counted key (take i lines)) ∙ sym (seen key (key_some l.text keyed)) ∙ known) in
      let here : one key (get_or lines i l) ≡ 1 =
      ap (one key) (sym is) ∙ ap (λ (b : Bool). cond b 1 0) (same key) in
      let two : 1 < count key lines = omega (arith, sum_by_more_le (one key) lines i l lt, before, here) in
      let repeated : is_repeated key lines ≡ true = twice key lines ∙ lt-ltb 1 (count key lines) two in
      let no : is_once lines l ≡ false =
      ap (λ (b : Bool). b || not (is_repeated key lines)) (keyed_no_blank l.text keyed) ∙ ap not repeated in
      sym (list_all_at (is_once lines) lines i l lt (ap (is_once lines) (sym is) ∙ no))

-- ---- all lines are read

each_once : (lines : List Line) → Apart lines → (l : Line) → has_form l ≡ true → is_once lines l ≡ true
each_once lines apart l form = elim (or_cases (is_blank_line l.text) (has_key l.text) form) [
  | inl blank ↦ ap (λ (b : Bool). b || not (is_repeated (key_of l.text) lines)) blank
  | inr keyed ↦
      let few = apart (key_of l.text) (key_some l.text keyed) in
      let single : is_repeated (key_of l.text) lines ≡ false = twice (key_of l.text) lines ∙ le-ltb 1 (count (key_of l.text) lines) few in
      ap (λ (b : Bool). is_blank_line l.text || not b) single ∙ or_true (is_blank_line l.text)
]
  where
    or_true : (a : Bool) → (a || true) ≡ true
    or_true true = refl
    or_true false = refl

weaker : (p q : Line → Bool) → ((l : Line) → p l ≡ true → q l ≡ true) → (ls : List Line) → list_all p ls ≡ true → list_all q ls ≡ true
weaker p q each [] all = refl
weaker p q each (l ∷ ls) all =
    let both = and_parts (p l) (list_all p ls) all in
    ap (λ (b : Bool). b && list_all q ls) (each l both.0) ∙ weaker p q each ls both.1

pub once : (lines : List Line) (i : ℕ) → length lines ≤ i → list_all has_form lines ≡ true → Apart (take i lines) → true ≡ list_all (is_once lines) lines
once lines i all formed apart =
    let whole : Apart lines = subst Apart (take_all i lines all) apart in
    sym (weaker has_form (is_once lines) (each_once lines whole) lines formed)

-- ---- the form of an entry's lines

goes_on_formed : (l : Line) → goes_on l ≡ true → has_form l ≡ true
goes_on_formed l on = elim (or_cases (is_blank_line l.text) (continues l.text && has_key l.text) on) [
  | inl blank ↦ ap (λ (b : Bool). b || has_key l.text) blank
  | inr key ↦
      or_right (is_blank_line l.text) (has_key l.text) (and_parts (continues l.text) (has_key l.text) key).1
]

pub all_formed : (lines : List Line) → some_key (slice_get lines 0) ≡ true → list_all goes_on (drop 1 lines) ≡ true → list_all has_form lines ≡ true
all_formed [] first others = refl
all_formed (l ∷ ls) first others =
    ap (λ (b : Bool). b && list_all has_form ls) (or_right (is_blank_line l.text) (has_key l.text) first)
    ∙ weaker goes_on has_form goes_on_formed ls others

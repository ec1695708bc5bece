-- How long a section is, and how it is put together.
use Rattle.std.proofs.Common.{◌≡◌, ℕ, suc, ◌+◌, ◌*◌, ◌≤◌, ◌<◌, List, [], ◌∷◌, ◌++◌, length, take, drop, get_or, arith, ap, sym, ◌∙◌, refl, subst, append_assoc}
use Rattle.std.proofs.Common.{append-nil, length-append, drop-cons, add-one}
use Rattle.std.specs.List.{flat_map}
use Rattle.std.specs.Int.{w32, to_le_bytes}
use Rattle.std.proofs.lemmas.List.{drop_all, take_all}
use Rattle.std.proofs.lemmas.List.Folds.{length-flat_map-take}
use Rattle.dwarf_loclists.specs.Spelling.{header}
use Rattle.dwarf_loclists.proofs.PiecesLemmas.{appended}
use Rattle.dwarf_loclists.proofs.SpellingLemmas.{front_le}
use Rattle.sized_lists.specs.declared.list.SizedList.{SizedList}
use Rattle.sized_lists.specs.Spelling.{list_spelling, bodies, offsets_from, spelling}

pub length-offsets_from : (first : ℕ) (lists : List SizedList) → length (offsets_from first lists) ≡ 4 * length lists
length-offsets_from first [] = refl
length-offsets_from first (l ∷ lists) =
    let rest = length-offsets_from (first + length (list_spelling l)) lists in
    omega arith

pub length-spelling : (lists : List SizedList) → length (spelling lists) ≡ 12 + 4 * length lists + length (bodies lists)
unfolding spelling
length-spelling lists =
    omega (arith, length-offsets_from (4 * length lists) lists, length-append (offsets_from (4 * length lists) lists) (bodies lists))

-- the offsets that are left begin with that of the first list
pub first_offset : (first i : ℕ) (lists : List SizedList) (l : SizedList) → i < length lists → l ≡ get_or lists i l
    → offsets_from first (drop i lists) ≡ to_le_bytes w32 first ++ offsets_from (first + length (list_spelling l)) (drop (i + 1) lists)
first_offset first i lists l inside at =
    let split : drop i lists ≡ l ∷ drop (i + 1) lists = rw (add-one, drop-cons lists i l) (ap (λ (k : SizedList). k ∷ drop (suc i) lists) (sym at)) in
    ap (offsets_from first) split

-- offsets with one more
pub next_offset : (lists : List SizedList) (i first n : ℕ) (l : SizedList) (offsets made whole one : List ℕ) → i < length lists → l ≡ get_or lists i l
    → offsets ++ offsets_from first (drop i lists) ≡ whole → made ≡ offsets ++ to_le_bytes w32 first → one ≡ list_spelling l → n ≡ first + length one
    → made ++ offsets_from n (drop (i + 1) lists) ≡ whole
next_offset lists i first n l offsets made whole one inside at so_far more same counted =
    let next : first + length (list_spelling l) ≡ n = sym (counted ∙ ap (λ (xs : List ℕ). first + length xs) same) in
    let here : offsets_from first (drop i lists) ≡ to_le_bytes w32 first ++ offsets_from n (drop (i + 1) lists) =
    first_offset first i lists l inside at ∙ ap (λ (k : ℕ). to_le_bytes w32 first ++ offsets_from k (drop (i + 1) lists)) next in
    appended offsets (to_le_bytes w32 first) (offsets_from n (drop (i + 1) lists)) more here so_far

-- all offsets
last_offset : (lists : List SizedList) (i first : ℕ) (offsets whole : List ℕ) → length lists ≤ i → offsets ++ offsets_from first (drop i lists) ≡ whole
    → offsets ≡ whole
last_offset lists i first offsets whole end so_far =
    sym (append-nil offsets) ∙ ap (λ (xs : List ℕ). offsets ++ xs) (sym (ap (offsets_from first) (drop_all i lists end))) ∙ so_far

-- what is written of lists, up to all of them
pub record AreWritten (lists : List SizedList) (offsets body : List ℕ) : Type 0 where
  pub offsets_are : offsets ≡ offsets_from (4 * length lists) lists
  pub body_is : body ≡ bodies lists
  pub long : length offsets ≡ 4 * length lists

pub all_written : (lists : List SizedList) (i first : ℕ) (offsets body : List ℕ) → length lists ≤ i
    → offsets ++ offsets_from first (drop i lists) ≡ offsets_from (4 * length lists) lists → body ≡ bodies (take i lists) → AreWritten lists offsets body
all_written lists i first offsets body end so_far listed =
    let all : offsets ≡ offsets_from (4 * length lists) lists = last_offset lists i first offsets (offsets_from (4 * length lists) lists) end so_far in
    record {
      offsets_are = all;
      body_is = listed ∙ ap bodies (take_all i lists end);
      long = ap length all ∙ length-offsets_from (4 * length lists) lists;
    }

-- the section from its offsets and its lists
pub assembled : (lists : List SizedList) (made offsets body : List ℕ) (count : ℕ) → count ≡ length lists → offsets ≡ offsets_from (4 * length lists) lists
    → body ≡ bodies lists
    → made ≡ header (8 + length offsets + length body) count ++ offsets ++ body → made ≡ spelling lists
unfolding spelling
assembled lists made offsets body count counted all listed is =
    is
    ∙ ap (λ (n : ℕ). header (8 + length offsets + length body) n ++ offsets ++ body) counted
    ∙ ap (λ (xs : List ℕ). header (8 + length xs + length body) (length lists) ++ xs ++ body) all
    ∙ ap (λ (xs : List ℕ). header (8 + length (offsets_from (4 * length lists) lists) + length xs) (length lists)
    ++ offsets_from (4 * length lists) lists ++ xs)
    listed
    ∙ ap (λ (n : ℕ). header (8 + n + length (bodies lists)) (length lists) ++ offsets_from (4 * length lists) lists ++ bodies lists)
    (length-offsets_from (4 * length lists) lists)

-- a front of the lists is too large already
pub large_front : (lists : List SizedList) (i : ℕ) (body : List ℕ) → body ≡ bodies (take i lists) → 4 * length lists + length body ≤ length (spelling lists)
large_front lists i body is = omega (arith, length-spelling lists, front_le list_spelling lists i, ap length is)

-- Two lists of lists with one section are equal.
use Rattle.std.specs.Prelude.{All, slice_index_or}
use Rattle.std.specs.List.{flat_map, AllByRecursion}
use Rattle.std.specs.Int.{w16, w32, to_le_bytes, from_le_bytes}
use Rattle.std.proofs.Common.{◌≡◌, ℕ, ◌+◌, ◌*◌, ◌^◌, ◌<◌, List, [], ◌∷◌, ◌++◌, length, arith, ap, sym, ◌∙◌, refl, append_assoc}
use Rattle.std.proofs.lemmas.Nat.{from_le_bytes-to_le_bytes_4}
use Rattle.std.proofs.lemmas.List.Elements.{recursion_from_All}
use Rattle.dwarf_loclists.specs.declared.range.Range.{Range}
use Rattle.dwarf_base.specs.Leb.{uleb_of}
use Rattle.dwarf_loclists.specs.Ranges.{IsLocated, ArePlaces}
use Rattle.dwarf_loclists.specs.Spelling.{expression, entry, list_spelling, bodies, offsets_from, header, spelling}
use Rattle.dwarf_loclists.proofs.OneLocation.{uleb_one, heads_one, tails_one, expression_one}
use Rattle.dwarf_loclists.specs.Grammar.{IsSection}
use Rattle.dwarf_loclists.proofs.SpellingLemmas.{length-offsets_from, length-spelling}

-- the two parts of a list, cut at one length
pub cut : (a b x y : List ℕ) → length a ≡ length b → a ++ x ≡ b ++ y → (a ≡ b) × (x ≡ y)
cut [] [] x y same e = (refl, e)
cut [] (n ∷ b) x y same e = absurd (omega arith)
cut (m ∷ a) [] x y same e = absurd (omega arith)
cut (m ∷ a) (n ∷ b) x y same e =
    let rest : a ++ x ≡ b ++ y = cc in
    let found = cut a b x y (omega arith) rest in
    (let heads : m ≡ n = cc in let tails = found.0 in cc, found.1)

-- a range whose location is listed
abbrev pub Entered : Range → Type 0
Entered r = IsLocated r.location

pub entry-append : (r : Range) (x : List ℕ)
    → entry r ++ x ≡ 4 ∷ (uleb_of r.lo ++ (uleb_of r.hi ++ (uleb_of (length (expression r.location)) ++ (expression r.location ++ x))))
entry-append r x = simp append_assoc

same_range : (r s : Range) → r.lo ≡ s.lo → r.hi ≡ s.hi → r.location ≡ s.location → r ≡ s
same_range r s lo hi location = λ i. record { lo = lo i; hi = hi i; location = location i }

-- an entry can be told from what follows it
entry_one : (r s : Range) (x y : List ℕ) → Entered r → Entered s → entry r ++ x ≡ entry s ++ y → (r ≡ s) × (x ≡ y)
entry_one r s x y ok_r ok_s e =
    let flat = tails_one 4 4 _ _ (sym (entry-append r x) ∙ e ∙ entry-append s y) in
    let lo = uleb_one r.lo s.lo _ _ flat in
    let hi = uleb_one r.hi s.hi _ _ lo.1 in
    let len = uleb_one (length (expression r.location)) (length (expression s.location)) _ _ hi.1 in
    let location = cut (expression r.location) (expression s.location) x y len.0 len.1 in
    let same = expression_one r.location s.location ok_r ok_s location.0 in
    (same_range r s lo.0 hi.0 same, location.1)

pub spliced : (first rest end x : List ℕ) → ((first ++ rest) ++ end) ++ x ≡ first ++ ((rest ++ end) ++ x)
spliced first rest end x = simp append_assoc

list-append : (r : Range) (ranges : List Range) (x : List ℕ) → list_spelling (r ∷ ranges) ++ x ≡ entry r ++ (list_spelling ranges ++ x)
list-append r ranges x = spliced (entry r) (flat_map entry ranges) (0 ∷ []) x

-- a list can be told from what follows it
list_one : (a b : List Range) (x y : List ℕ) → AllByRecursion Entered a → AllByRecursion Entered b → list_spelling a ++ x ≡ list_spelling b ++ y
    → (a ≡ b) × (x ≡ y)
list_one [] [] x y ok_a ok_b e = (refl, tails_one 0 0 x y e)
list_one [] (s ∷ b) x y ok_a ok_b e = absurd (omega (arith, heads_one 0 4 _ _ (e ∙ list-append s b y ∙ entry-append s (list_spelling b ++ y))))
list_one (r ∷ a) [] x y ok_a ok_b e = absurd (omega (arith, heads_one 4 0 _ _ (sym (list-append r a x ∙ entry-append r (list_spelling a ++ x)) ∙ e)))
list_one (r ∷ a) (s ∷ b) x y ok_a ok_b e =
    let first = entry_one r s (list_spelling a ++ x) (list_spelling b ++ y) ok_a.0 ok_b.0 (sym (list-append r a x) ∙ e ∙ list-append s b y) in
    let rest = list_one a b x y ok_a.1 ok_b.1 first.1 in
    (let heads = first.0 in let tails = rest.0 in cc, rest.1)

bodies_one : (a b : List (List Range)) → length a ≡ length b → AllByRecursion (AllByRecursion Entered) a → AllByRecursion (AllByRecursion Entered) b
    → bodies a ≡ bodies b → a ≡ b
bodies_one [] [] same ok_a ok_b e = refl
bodies_one [] (s ∷ b) same ok_a ok_b e = absurd (omega arith)
bodies_one (r ∷ a) [] same ok_a ok_b e = absurd (omega arith)
bodies_one (r ∷ a) (s ∷ b) same ok_a ok_b e =
    let first = list_one r s (bodies a) (bodies b) ok_a.0 ok_b.0 e in
    let heads = first.0 in
    let tails = bodies_one a b (omega arith) ok_a.1 ok_b.1 first.1 in
    cc

length-header : (n m : ℕ) → length (header n m) ≡ 12
length-header n m = refl

-- how many lists there are stands in the header
pub header_one : (n n' m m' : ℕ) → m < 2 ^ 32 → m' < 2 ^ 32 → header n m ≡ header n' m' → m ≡ m'
header_one n n' m m' fits fits' e =
    let counts = (cut (before n) (before n') (to_le_bytes w32 m) (to_le_bytes w32 m') refl e).1 in
    sym (from_le_bytes-to_le_bytes_4 m fits) ∙ ap (from_le_bytes w32) counts ∙ from_le_bytes-to_le_bytes_4 m' fits'
  where
    before : ℕ → List ℕ
    before length_after = to_le_bytes w32 length_after ++ to_le_bytes w16 5 ++ (8 ∷ 0 ∷ [])

abbrev header_of : List (List Range) → List ℕ
header_of lists = header (8 + 4 * length lists + length (bodies lists)) (length lists)

abbrev offsets_of : List (List Range) → List ℕ
offsets_of lists = offsets_from (4 * length lists) lists

pub spelling_one : (a b : List (List Range)) → AllByRecursion (AllByRecursion Entered) a → AllByRecursion (AllByRecursion Entered) b
    → length a < 2 ^ 32 → length b < 2 ^ 32 → spelling a ≡ spelling b → a ≡ b
unfolding spelling
spelling_one a b ok_a ok_b fits_a fits_b e =
    let parts = cut (header_of a) (header_of b) (offsets_of a ++ bodies a) (offsets_of b ++ bodies b) refl
    (sym (append_assoc (header_of a) (offsets_of a) (bodies a)) ∙ e ∙ append_assoc (header_of b) (offsets_of b) (bodies b)) in
    let same : length a ≡ length b = header_one _ _ (length a) (length b) fits_a fits_b parts.0 in
    let offsets : length (offsets_of a) ≡ length (offsets_of b) =
    omega (arith, same, length-offsets_from (4 * length a) a, length-offsets_from (4 * length b) b) in
    bodies_one a b same ok_a ok_b (cut (offsets_of a) (offsets_of b) (bodies a) (bodies b) offsets parts.1).1

pub entered : (lists : List (List Range)) → All ArePlaces lists → AllByRecursion (AllByRecursion Entered) lists
entered lists places =
    let one : (k : ℕ) (d : List Range) → k < length lists → AllByRecursion Entered (slice_index_or lists k d) =
    λ k d h. recursion_from_All Entered (slice_index_or lists k d) (places k d h) in
    recursion_from_All (AllByRecursion Entered) lists one

count_fits : (bytes : List ℕ) (lists : List (List Range)) → IsSection bytes lists → length lists < 2 ^ 32
count_fits bytes lists is = omega (arith, length-spelling lists, ap length is.spelled, is.size)

-- bytes are the section of one list of lists
pub one_section : (bytes : List ℕ) (a b : List (List Range)) → IsSection bytes a → IsSection bytes b → a ≡ b
one_section bytes a b is_a is_b =
    spelling_one a b (entered a is_a.places) (entered b is_b.places) (count_fits bytes a is_a) (count_fits bytes b is_b)
    (sym is_a.spelled ∙ is_b.spelled)

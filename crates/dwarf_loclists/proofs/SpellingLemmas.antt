-- How long a section is, and how long a front of it.
use Rattle.std.proofs.Common.{◌≡◌, ℕ, ◌+◌, ◌*◌, ◌^◌, ◌≤◌, ◌<◌, List, [], ◌∷◌, ◌++◌, length, take, drop, get_or, arith, ap, sym, ◌∙◌, refl, length-append}
use Rattle.std.specs.Prelude.{Result, Ok, Err, IfOk, All, sum_by}
use Rattle.std.specs.List.{flat_map}
use Rattle.std.proofs.lemmas.List.{take-append-drop, take_all}
use Rattle.std.proofs.lemmas.List.Folds.{length-flat_map-take}
use Rattle.std.proofs.lemmas.List.Concat.{flat_map-append}
use Rattle.std.proofs.lemmas.List.Elements.{All-get_or}
use Rattle.dwarf_loclists.specs.declared.range.Range.{Range}
use Rattle.dwarf_loclists.specs.Ranges.{Ascend, ArePlaces, Are64Bit, places_of}
use Rattle.dwarf_loclists.specs.Grammar.{IsSection}
use Rattle.dwarf_loclists.specs.Spelling.{bodies, list_spelling, offsets_from, header, spelling}

-- what a front of a list gives is no longer than what the list gives
pub front_le : {X : Type 0} (f : X → List ℕ) (xs : List X) (i : ℕ) → length (flat_map f (take i xs)) ≤ length (flat_map f xs)
front_le f xs i =
    let whole : length (flat_map f (take i xs)) + length (flat_map f (drop i xs)) ≡ length (flat_map f xs) =
    sym (length-append (flat_map f (take i xs)) (flat_map f (drop i xs)))
    ∙ ap length (sym (flat_map-append f (take i xs) (drop i xs)))
    ∙ ap (λ ys. length (flat_map f ys)) (take-append-drop i xs) in
    omega arith

pub length-offsets_from : (first : ℕ) (lists : List (List Range)) → length (offsets_from first lists) ≡ 4 * length lists
length-offsets_from first [] = refl
length-offsets_from first (ranges ∷ lists) =
    let rest = length-offsets_from (first + length (list_spelling ranges)) lists in
    omega arith

pub length-spelling : (lists : List (List Range)) → length (spelling lists) ≡ 12 + 4 * length lists + length (bodies lists)
unfolding spelling
length-spelling lists =
    omega (arith, length-offsets_from (4 * length lists) lists, length-append (offsets_from (4 * length lists) lists) (bodies lists))

-- the count so far, with one list more or with all of them
pub counted_more : (lists items : List (List Range)) (i size n : ℕ) (one : List Range) → items ≡ lists → i < length items → one ≡ get_or items i one
    → size ≡ 12 + 4 * i + length (bodies (take i lists)) → n ≤ size + 4 + length (list_spelling one) → n ≤ length (spelling lists)
counted_more lists items i size n one same inside at counted above =
    let inside' : i < length lists = rw same at inside in
    let at' : one ≡ get_or lists i one = rw same at at in
    let grown = length-flat_map-take list_spelling lists i one inside' in
    omega (arith, length-spelling lists, grown, ap (λ ys. length (list_spelling ys)) at')

pub counted_all : (lists items : List (List Range)) (i size : ℕ) → items ≡ lists → length items ≤ i → i ≤ length items
    → size ≡ 12 + 4 * i + length (bodies (take i lists)) → size ≡ length (spelling lists)
counted_all lists items i size same end within counted =
    let end' : length lists ≤ i = rw same at end in
    let within' : i ≤ length lists = rw same at within in
    omega (arith, length-spelling lists, ap (λ ys. length (bodies ys)) (take_all i lists end'))

-- one of the items after a front gives no more than what is left
pub next_le : {X : Type 0} (f : X → List ℕ) (xs : List X) (i : ℕ) (x : X) → i < length xs → x ≡ get_or xs i x
    → length (flat_map f (take i xs)) + length (f x) ≤ length (flat_map f xs)
next_le f xs i x inside at =
    omega (arith, length-flat_map-take f xs i x inside, front_le f xs (i + 1), ap (λ y. length (f y)) at)

-- the header, the offsets and the lists, as they are written one after the other
pub assembled : (lists : List (List Range)) (none first second third : List ℕ) (n count : ℕ) → none ≡ [] → n + 4 ≡ length (spelling lists) → count
    ≡ length lists
    → first ≡ none ++ header n count → second ≡ first ++ offsets_from (4 * length lists) lists → third ≡ second ++ bodies lists → third ≡ spelling lists
unfolding spelling
assembled lists none first second third n count empty size counted headed offset listed =
    let after : n ≡ 8 + 4 * length lists + length (bodies lists) = omega (arith, length-spelling lists) in
    listed
    ∙ ap (λ ys. ys ++ bodies lists) (offset ∙ ap (λ ys. ys ++ offsets_from (4 * length lists) lists)
    (headed ∙ ap (λ ys. ys ++ header n count) empty ∙ ap (λ m. header m count) after ∙ ap (header (8 + 4 * length lists + length (bodies lists))) counted))

pub same_bytes : {E : Type 0} (r : Result (List ℕ) E) (x y : List ℕ) → IfOk r (λ bytes. bytes ≡ x) → x ≡ y → IfOk r (λ bytes. bytes ≡ y)
same_bytes (Ok bytes) x y is same = is ∙ same
same_bytes (Err e) x y is same = tt

pub is_section : {E : Type 0} (r : Result (List ℕ) E) (lists : List (List Range)) → IfOk r (λ bytes. bytes ≡ spelling lists) → length (spelling lists) < 2 ^ 31
    → All Ascend lists → All ArePlaces lists → All Are64Bit lists → IfOk r (λ bytes. IsSection bytes lists)
is_section (Ok bytes) lists is size ascend places wide = record { spelled = is; size = rw is (omega arith); ascend = ascend; places = places; wide = wide }
is_section (Err e) lists is size ascend places wide = tt

-- how many places a list names
abbrev pub places_in : List Range → ℕ
places_in ranges = sum_by (λ (r : Range). places_of r.location) ranges

-- one of several lists of at most n places
pub short_one : (lists items : List (List Range)) (i : ℕ) (one ranges : List Range) (n : ℕ) → items ≡ lists → i < length items → one ≡ get_or items i one
    → ranges ≡ one
    → All (λ (rs : List Range). places_in rs ≤ n) lists → places_in ranges ≤ n
short_one lists items i one ranges n same inside at is all =
    let within : i < length lists = rw same at inside in
    let listed : places_in (get_or lists i one) ≤ n = All-get_or (λ (rs : List Range). places_in rs ≤ n) lists i one within all in
    let at' : one ≡ get_or lists i one = rw same at at in
    omega (arith, ap places_in is, ap places_in at')

-- How long a section is, and how long a front of it.
use Rattle.std.proofs.Common.{◌≡◌, ℕ, ◌+◌, ◌*◌, ◌≤◌, ◌<◌, List, [], ◌∷◌, ◌++◌, length, take, get_or, arith, ap, ◌∙◌, refl, length-append}
use Rattle.std.proofs.lemmas.List.{take_all}
use Rattle.std.proofs.lemmas.List.Folds.{length-flat_map-take}
use Rattle.dwarf_loclists.specs.Spelling.{header}
use Rattle.dwarf_rnglists.specs.declared.range.AddressRange.{AddressRange}
use Rattle.dwarf_rnglists.specs.Spelling.{bodies, list_spelling, offsets_from, spelling}

pub length-offsets_from : (first : ℕ) (lists : List (List AddressRange)) → length (offsets_from first lists) ≡ 4 * length lists
length-offsets_from first [] = refl
length-offsets_from first (ranges ∷ lists) =
    let rest = length-offsets_from (first + length (list_spelling ranges)) lists in
    omega arith

pub length-spelling : (lists : List (List AddressRange)) → length (spelling lists) ≡ 12 + 4 * length lists + length (bodies lists)
unfolding spelling
length-spelling lists =
    omega (arith, length-offsets_from (4 * length lists) lists, length-append (offsets_from (4 * length lists) lists) (bodies lists))

-- the count so far, with one list more or with all of them
pub counted_more : (lists items : List (List AddressRange)) (i size n : ℕ) (one : List AddressRange) → items ≡ lists → i < length items
    → one ≡ get_or items i one
    → size ≡ 12 + 4 * i + length (bodies (take i lists)) → n ≤ size + 4 + length (list_spelling one) → n ≤ length (spelling lists)
counted_more lists items i size n one same inside at counted above =
    let inside' : i < length lists = rw same at inside in
    let at' : one ≡ get_or lists i one = rw same at at in
    let grown = length-flat_map-take list_spelling lists i one inside' in
    omega (arith, length-spelling lists, grown, ap (λ ys. length (list_spelling ys)) at')

pub counted_all : (lists items : List (List AddressRange)) (i size : ℕ) → items ≡ lists → length items ≤ i → i ≤ length items
    → size ≡ 12 + 4 * i + length (bodies (take i lists)) → size ≡ length (spelling lists)
counted_all lists items i size same end within counted =
    let end' : length lists ≤ i = rw same at end in
    let within' : i ≤ length lists = rw same at within in
    omega (arith, length-spelling lists, ap (λ ys. length (bodies ys)) (take_all i lists end'))

-- the header, the offsets and the lists, as they are written one after the other
pub assembled : (lists : List (List AddressRange)) (none first second third : List ℕ) (n count : ℕ) → none ≡ [] → n + 4 ≡ length (spelling lists)
    → count ≡ length lists
    → first ≡ none ++ header n count → second ≡ first ++ offsets_from (4 * length lists) lists → third ≡ second ++ bodies lists → third ≡ spelling lists
unfolding spelling
assembled lists none first second third n count empty size counted headed offset listed =
    let after : n ≡ 8 + 4 * length lists + length (bodies lists) = omega (arith, length-spelling lists) in
    listed
    ∙ ap (λ ys. ys ++ bodies lists) (offset ∙ ap (λ ys. ys ++ offsets_from (4 * length lists) lists)
    (headed ∙ ap (λ ys. ys ++ header n count) empty ∙ ap (λ m. header m count) after ∙ ap (header (8 + 4 * length lists + length (bodies lists))) counted))

-- Two lists of lists with one section are equal, so that the section tells the ranges of each.
use Rattle.std.specs.List.{flat_map}
use Rattle.std.proofs.Common.{◌≡◌, ◌↔◌, ℕ, ◌+◌, ◌*◌, ◌^◌, ◌<◌, List, [], ◌∷◌, ◌++◌, length, Some, slice_get, arith, ap, sym, ◌∙◌, refl, subst, append_assoc}
use Rattle.dwarf_base.specs.Leb.{uleb_of}
use Rattle.dwarf_loclists.specs.Spelling.{header}
use Rattle.dwarf_loclists.proofs.OneLocation.{uleb_one, heads_one, tails_one}
use Rattle.dwarf_loclists.proofs.OneReading.{cut, spliced, header_one}
use Rattle.dwarf_rnglists.specs.declared.range.AddressRange.{AddressRange}
use Rattle.dwarf_rnglists.specs.Ranges.{Cover}
use Rattle.dwarf_rnglists.specs.Spelling.{entry, list_spelling, bodies, offsets_from, spelling}
use Rattle.dwarf_rnglists.specs.Grammar.{IsSection, IsInRange}
use Rattle.dwarf_rnglists.proofs.SpellingLemmas.{length-offsets_from, length-spelling}

entry-append : (r : AddressRange) (x : List ℕ) → entry r ++ x ≡ 4 ∷ (uleb_of r.lo ++ (uleb_of r.hi ++ x))
entry-append r x = simp append_assoc

-- an entry can be told from what follows it
entry_one : (r s : AddressRange) (x y : List ℕ) → entry r ++ x ≡ entry s ++ y → (r ≡ s) × (x ≡ y)
entry_one r s x y e =
    let flat = tails_one 4 4 _ _ (sym (entry-append r x) ∙ e ∙ entry-append s y) in
    let lo = uleb_one r.lo s.lo _ _ flat in
    let hi = uleb_one r.hi s.hi _ _ lo.1 in
    (λ i. record { lo = lo.0 i; hi = hi.0 i }, hi.1)

list-append : (r : AddressRange) (ranges : List AddressRange) (x : List ℕ) → list_spelling (r ∷ ranges) ++ x ≡ entry r ++ (list_spelling ranges ++ x)
list-append r ranges x = spliced (entry r) (flat_map entry ranges) (0 ∷ []) x

-- a list can be told from what follows it
list_one : (a b : List AddressRange) (x y : List ℕ) → list_spelling a ++ x ≡ list_spelling b ++ y → (a ≡ b) × (x ≡ y)
list_one [] [] x y e = (refl, tails_one 0 0 x y e)
list_one [] (s ∷ b) x y e = absurd (omega (arith, heads_one 0 4 _ _ (e ∙ list-append s b y ∙ entry-append s (list_spelling b ++ y))))
list_one (r ∷ a) [] x y e = absurd (omega (arith, heads_one 4 0 _ _ (sym (list-append r a x ∙ entry-append r (list_spelling a ++ x)) ∙ e)))
list_one (r ∷ a) (s ∷ b) x y e =
    let first = entry_one r s (list_spelling a ++ x) (list_spelling b ++ y) (sym (list-append r a x) ∙ e ∙ list-append s b y) in
    let rest = list_one a b x y first.1 in
    (let heads = first.0 in let tails = rest.0 in cc, rest.1)

bodies_one : (a b : List (List AddressRange)) → length a ≡ length b → bodies a ≡ bodies b → a ≡ b
bodies_one [] [] same e = refl
bodies_one [] (s ∷ b) same e = absurd (omega arith)
bodies_one (r ∷ a) [] same e = absurd (omega arith)
bodies_one (r ∷ a) (s ∷ b) same e =
    let first = list_one r s (bodies a) (bodies b) e in
    let heads = first.0 in
    let tails = bodies_one a b (omega arith) first.1 in
    cc

abbrev header_of : List (List AddressRange) → List ℕ
header_of lists = header (8 + 4 * length lists + length (bodies lists)) (length lists)

abbrev offsets_of : List (List AddressRange) → List ℕ
offsets_of lists = offsets_from (4 * length lists) lists

spelling_one : (a b : List (List AddressRange)) → length a < 2 ^ 32 → length b < 2 ^ 32 → spelling a ≡ spelling b → a ≡ b
unfolding spelling
spelling_one a b fits_a fits_b e =
    let parts = cut (header_of a) (header_of b) (offsets_of a ++ bodies a) (offsets_of b ++ bodies b) refl
    (sym (append_assoc (header_of a) (offsets_of a) (bodies a)) ∙ e ∙ append_assoc (header_of b) (offsets_of b) (bodies b)) in
    let same : length a ≡ length b = header_one _ _ (length a) (length b) fits_a fits_b parts.0 in
    let offsets : length (offsets_of a) ≡ length (offsets_of b) =
    omega (arith, same, length-offsets_from (4 * length a) a, length-offsets_from (4 * length b) b) in
    bodies_one a b same (cut (offsets_of a) (offsets_of b) (bodies a) (bodies b) offsets parts.1).1

count_fits : (bytes : List ℕ) (lists : List (List AddressRange)) → IsSection bytes lists → length lists < 2 ^ 32
count_fits bytes lists is = omega (arith, length-spelling lists, ap length is.spelled, is.size)

-- bytes are the section of one list of lists
pub one_section : (bytes : List ℕ) (a b : List (List AddressRange)) → IsSection bytes a → IsSection bytes b → a ≡ b
one_section bytes a b is_a is_b =
    spelling_one a b (count_fits bytes a is_a) (count_fits bytes b is_b) (sym is_a.spelled ∙ is_b.spelled)

-- an address is in a range of a list exactly if the list's ranges cover it
pub in_range : (bytes : List ℕ) (lists : List (List AddressRange)) → IsSection bytes lists → (k address : ℕ) (ranges : List AddressRange) →
    slice_get lists k ≡ Some ranges → IsInRange bytes k address ↔ Cover ranges address
in_range bytes lists section k address ranges at = (
  λ i.
      let same : i.lists ≡ lists = one_section bytes i.lists lists i.section section in
      let ours : i.ranges ≡ ranges = some_one (sym i.list ∙ ap (λ (ls : List (List AddressRange)). slice_get ls k) same ∙ at) in
      subst (λ (rs : List AddressRange). Cover rs address) ours i.covered,
  λ covered. record { lists = lists; ranges = ranges; section = section; list = at; covered = covered },
) where
  some_one : {x y : List AddressRange} → Some x ≡ Some y → x ≡ y
  some_one e = cc

-- How long location lists are at most: each range has a byte of code, and the location of a variable without parts is one place.
use Rattle.std.proofs.Common.{◌≡◌, ◌∙◌, ℕ, zero, suc, ◌+◌, ◌*◌, ◌^◌, ◌<◌, ◌≤◌, List, []}
use Rattle.std.proofs.Common.{◌∷◌, ◌++◌, length, All, Contains, Option, Some, None, refl, sym, ap, subst}
use Rattle.std.proofs.Common.{arith, inl, inr, length-append}
use Rattle.std.specs.Prelude.{ℤ, pos, negsuc, FitsSigned}
use Rattle.std.specs.List.{flat_map}
use Rattle.std.specs.Int.{w64}
use Rattle.std.proofs.lemmas.Bool.{cases_lt}
use Rattle.std.proofs.lemmas.List.Elements.{All-head, All-tail, All-weaker, All-contains, All-contains_itself, Contains-append_right}
use Rattle.rv64_instr.specs.declared.place.Place.{Place}
use Rattle.rv64_instr.specs.declared.place.Place.TheVariants.{Register, Slot, Const}
use Rattle.mir_func.specs.declared.position.Pos.{Pos}
use Rattle.mir_func.specs.declared.variable.VarId.{VarId}
use Rattle.mir_func.specs.Graph.{Program}
use Rattle.mir_func.specs.Parts.{Bytes}
use Rattle.sem_mir.specs.PreferredLocation.{IsPlace, IsPreferredLocation, NoneIsPreferred}
use Rattle.emit_code.specs.declared.code.EncodedInstruction.{EncodedInstruction}
use Rattle.emit_code.specs.Laid.{StandFrom}
use Rattle.dwarf_base.specs.Leb.{uleb_of, sleb_of}
use Rattle.dwarf_base.proofs.FrontLemmas.{length-uleb_of, length-sleb_of}
use Rattle.dwarf_loclists.specs.declared.range.Part.{Part}
use Rattle.dwarf_loclists.specs.declared.range.Location.{Location}
use Rattle.dwarf_loclists.specs.declared.range.Location.TheVariants.{Whole, Parts}
use Rattle.dwarf_loclists.specs.declared.range.Range.{Range}
use Rattle.dwarf_loclists.specs.Ranges.{IsListed, IsLocated, Ascend, location_in}
use Rattle.dwarf_loclists.specs.Spelling.{simple_location, expression, entry, list_spelling, bodies, spelling}
use Rattle.dwarf_loclists.specs.Standard.{DW_LLE_end_of_list, DW_LLE_offset_pair, DW_OP_stack_value}
use Rattle.dwarf_loclists.proofs.Places.{nonempty, found}
use Rattle.dwarf_loclists.proofs.SpellingLemmas.{length-spelling}
use Rattle.dwarf_line_table.proofs.LineRows.{entry_from, entry_at}
use Rattle.location_of_variable.specs.Groups.{part_of}
use Rattle.location_of_variable.specs.VariableLocation.{IsWantedLocation, bytes_of}
use Rattle.compile_program.specs.location_ranges.Lists.{point_of, AreRangesOf}

-- ---- how long an entry is

pub named_fits : (c : ℤ) → IsPlace (Const c) → FitsSigned w64 c
named_fits (pos n) named = record { sfits = named }
named_fits (negsuc n) named = record { sfits = named }

ten_and_one : (n : ℕ) → n ≤ 10 → suc n ≤ 12
ten_and_one n few = omega (arith, few)

ten_and_two : (whole n : ℕ) → whole ≡ suc (n + 1) → n ≤ 10 → whole ≤ 12
ten_and_two whole n is few = omega (arith, is, few)

offset_low : (n : ℕ) → n ≤ 2024 → n < 9223372036854775808
offset_low n low = omega (arith, low)

place_short : (p : Place) → IsListed p → IsPlace p → length (simple_location p) ≤ 12
place_short (Register r) listed named = omega arith
place_short (Slot o) listed named =
    ten_and_one (length (sleb_of (pos o))) (length-sleb_of (pos o) (named_fits (pos o) (offset_low o listed.1)))
place_short (Const c) listed named =
    ten_and_two (length (simple_location (Const c))) (length (sleb_of c))
    (ap (λ (n : ℕ). suc n) (length-append (sleb_of c) (DW_OP_stack_value ∷ []))) (length-sleb_of c (named_fits c named))

-- a location that isn't in parts
abbrev pub IsShort : Option Location → Type 0
IsShort None = Unit {0}
IsShort (Some (Whole p)) = IsPlace p
IsShort (Some (Parts pieces)) = ⊥

location_short : (l : Location) → IsShort (Some l) → IsLocated l → length (expression l) ≤ 12
location_short (Whole p) named listed = place_short p listed named
location_short (Parts pieces) named listed = absurd named

four_parts : (a b c d : List ℕ) → length (a ++ b ++ c ++ d) ≡ length a + length b + length c + length d
four_parts a b c d = omega (arith, length-append (a ++ b ++ c) d, length-append (a ++ b) c, length-append a b)

entry_sum : (whole a b c d : ℕ) → whole ≡ suc a + b + c + d → a ≤ 10 → b ≤ 10 → c ≤ 10 → d ≤ 12 → whole ≤ 43
entry_sum whole a b c d is e f g h = omega (arith, is, e, f, g, h)

low_64 : (n : ℕ) → n ≤ 1048576 → n < 2 ^ 64
low_64 n low = omega (arith, low)

entry_short : (r : Range) → length (expression r.location) ≤ 12 → r.lo ≤ 1048576 → r.hi ≤ 1048576 → length (entry r) ≤ 43
entry_short r short low high =
    let location : List ℕ = expression r.location in
    entry_sum (length (entry r)) (length (uleb_of r.lo)) (length (uleb_of r.hi)) (length (uleb_of (length location))) (length location)
    (four_parts (DW_LLE_offset_pair ∷ uleb_of r.lo) (uleb_of r.hi) (uleb_of (length location)) location) (length-uleb_of r.lo (low_64 r.lo low))
    (length-uleb_of r.hi (low_64 r.hi high)) (length-uleb_of (length location) (low_64 (length location) (up (length location) short))) short where
      up : (n : ℕ) → n ≤ 12 → n ≤ 1048576
      up n few = omega (arith, few)

-- ---- how long a list is, and all lists

one_entry : (whole one rest n : ℕ) → whole ≡ one + rest → one ≤ 43 → rest ≤ 43 * n → whole ≤ 43 * suc n
one_entry whole one rest n is few more = omega (arith, is, few, more)

entries_short : (ranges : List Range) → All (λ r. length (entry r) ≤ 43) ranges → length (flat_map entry ranges) ≤ 43 * length ranges
entries_short [] all = omega arith
entries_short (r ∷ ranges) all =
    one_entry (length (flat_map entry (r ∷ ranges))) (length (entry r)) (length (flat_map entry ranges)) (length ranges)
    (length-append (entry r) (flat_map entry ranges)) (All-head (λ (x : Range). length (entry x) ≤ 43) r ranges all)
    (entries_short ranges (All-tail (λ (x : Range). length (entry x) ≤ 43) r ranges all))

list_sum : (whole entries n : ℕ) → whole ≡ entries + 1 → entries ≤ 43 * n → n ≤ 1048576 → whole ≤ 45088769
list_sum whole entries n is short few = omega (arith, is, short, few)

list_short : (ranges : List Range) → All (λ r. length (entry r) ≤ 43) ranges → length ranges ≤ 1048576 → length (list_spelling ranges) ≤ 45088769
list_short ranges all few =
    list_sum (length (list_spelling ranges)) (length (flat_map entry ranges)) (length ranges)
    (length-append (flat_map entry ranges) (DW_LLE_end_of_list ∷ [])) (entries_short ranges all) few

-- the list is short
abbrev pub IsShortList : List Range → Type 0
IsShortList ranges = length (list_spelling ranges) ≤ 45088769

one_list : (whole one rest n : ℕ) → whole ≡ one + rest → one ≤ 45088769 → rest ≤ 45088769 * n → whole ≤ 45088769 * suc n
one_list whole one rest n is few more = omega (arith, is, few, more)

bodies_short : (lists : List (List Range)) → All IsShortList lists → length (bodies lists) ≤ 45088769 * length lists
bodies_short [] all = omega arith
bodies_short (ranges ∷ lists) all =
    one_list (length (bodies (ranges ∷ lists))) (length (list_spelling ranges)) (length (bodies lists)) (length lists)
    (length-append (list_spelling ranges) (bodies lists)) (All-head IsShortList ranges lists all)
    (bodies_short lists (All-tail IsShortList ranges lists all))

section_sum : (whole lists n : ℕ) → whole ≡ 12 + 4 * n + lists → lists ≤ 45088769 * n → n ≤ 4 → whole < 2 ^ 31
section_sum whole lists n is short few = omega (arith, is, short, few)

-- four short lists are a small section
pub section_small : (lists : List (List Range)) → length lists ≤ 4 → All IsShortList lists → length (spelling lists) < 2 ^ 31
section_small lists few all =
    section_sum (length (spelling lists)) (length (bodies lists)) (length lists) (length-spelling lists) (bodies_short lists all) few

-- ---- how many ranges there are

-- one below a number
below_it : (n : ℕ) → 0 < n → (m : ℕ) × (n ≡ suc m)
below_it zero some = absurd (omega (arith, some))
below_it (suc m) some = (m, refl)

last_high : (end hi last : ℕ) → end < hi → hi ≡ suc last → end ≤ last
last_high end hi last beyond is = omega (arith, beyond, is)

last_inside : (lo hi last : ℕ) → lo < hi → hi ≡ suc last → lo ≤ last
last_inside lo hi last some is = omega (arith, some, is)

last_below : (hi last : ℕ) → hi ≡ suc last → last < hi
last_below hi last is = omega (arith, is)

module _ (end : ℕ) (ranges : List Range) (ascend : Ascend ranges) (outside : (a : ℕ) → end ≤ a → location_in ranges a ≡ None) where
  -- no range goes beyond the end
  pub ends_within : (r : Range) → Contains ranges r → r.hi ≤ end
  ends_within r among = elim (cases_lt end r.hi) [
    | inl beyond ↦
        let some : 0 < r.hi = omega (arith, beyond) in
        let last = below_it r.hi some in
        let here : location_in ranges last.0 ≡ Some r.location =
        found ranges r last.0 ascend among (last_inside r.lo r.hi last.0 (nonempty ranges r ascend among) last.1) (last_below r.hi last.0 last.1) in
        let none : location_in ranges last.0 ≡ None = outside last.0 (last_high end r.hi last.0 beyond last.1) in
        let both : Some r.location ≡ None = sym here ∙ none in
        absurd cc
    | inr within ↦ within
  ]

one_only : (lo hi end : ℕ) → lo < hi → hi ≤ end → lo + 1 ≤ end
one_only lo hi end some within = omega (arith, some, within)

one_range : (lo hi next n end : ℕ) → lo < hi → hi ≤ next → next + n ≤ end → lo + suc n ≤ end
one_range lo hi next n end some onward rest = omega (arith, some, onward, rest)

ranges_from : (end : ℕ) (r : Range) (rest : List Range) → Ascend (r ∷ rest) → ((s : Range) → Contains (r ∷ rest) s → s.hi ≤ end) →
    r.lo + length (r ∷ rest) ≤ end
ranges_from end r [] ascend within = one_only r.lo r.hi end ascend (within r (0, omega arith, refl))
ranges_from end r (s ∷ rest) ascend within =
    one_range r.lo r.hi s.lo (length (s ∷ rest)) end ascend.0 ascend.1
    (ranges_from end s rest ascend.3 (λ x among. within x (Contains-append_right (r ∷ []) (s ∷ rest) x among)))

and_more : (lo n end : ℕ) → lo + n ≤ end → n ≤ end
and_more lo n end all = omega (arith, all)

pub ranges_few : (end : ℕ) (ranges : List Range) → Ascend ranges → ((s : Range) → Contains ranges s → s.hi ≤ end) → length ranges ≤ end
ranges_few end [] ascend within = omega arith
ranges_few end (r ∷ rest) ascend within = and_more r.lo (length (r ∷ rest)) end (ranges_from end r rest ascend within)

-- ---- ranges of a variable without parts

apart : (a high end : ℕ) → end ≤ a → a < high → high ≤ end → ⊥
apart a high end past below within = omega (arith, past, below, within)

trans_low : (lo hi end : ℕ) → lo < hi → hi ≤ end → end ≤ 1048576 → lo ≤ 1048576
trans_low lo hi end some within low = omega (arith, some, within, low)

trans_high : (n end : ℕ) → n ≤ end → end ≤ 1048576 → n ≤ 1048576
trans_high n end within low = omega (arith, within, low)

module _ (g : Program) (start : Pos) (v : VarId) (bare : (b : Bytes) (p : Pos) → NoneIsPreferred g start (part_of v (Some b)) p) where
  wanted_short : (p : Pos) (o : Option Location) → IsWantedLocation g start v p o → IsShort o
  wanted_short p None is = tt
  wanted_short p (Some (Whole place)) is = is.named
  wanted_short p (Some (Parts [])) is = is
  wanted_short p (Some (Parts (x ∷ pieces))) is =
      let one = All-head (λ (y : Part). IsPreferredLocation g start (part_of v (Some (bytes_of y))) p y.place) x pieces is.1.each in
      bare (bytes_of x) p x.place one.named one.sits

  module _ (end : ℕ) (low : end ≤ 1048576) (entries : List EncodedInstruction) (stand : StandFrom 0 entries end) (ranges : List Range)
      (are : AreRangesOf g start entries v ranges) where
    none_past : (a : ℕ) → end ≤ a → location_in ranges a ≡ None
    none_past a past = are.outside a (λ e among byte. apart a (e.address + e.size) end past byte.1 (entry_from 0 entries end stand e among).1)

    short_at : (a : ℕ) → IsShort (location_in ranges a)
    short_at a = elim (cases_lt a end) [
      | inl inside ↦
          let from : 0 ≤ a = omega arith in
          let e = entry_at 0 entries end stand a from inside in
          wanted_short (point_of e.0) (location_in ranges a) (are.inside e.0 e.1 a (e.2, e.3))
      | inr past ↦ subst IsShort (sym (none_past a past)) tt
    ]

    within : (r : Range) → Contains ranges r → r.hi ≤ end
    within r among = ends_within end ranges are.ascend none_past r among

    itself : (n : ℕ) → n ≤ n
    itself n = omega arith

    one_short : (r : Range) → Contains ranges r → length (entry r) ≤ 43
    one_short r among =
        let some : r.lo < r.hi = nonempty ranges r are.ascend among in
        let here : location_in ranges r.lo ≡ Some r.location = found ranges r r.lo are.ascend among (itself r.lo) some in
        let short : IsShort (Some r.location) = subst IsShort here (short_at r.lo) in
        let listed : IsLocated r.location = All-contains (λ (x : Range). IsLocated x.location) ranges r are.places among in
        entry_short r (location_short r.location short listed) (trans_low r.lo r.hi end some (within r among) low)
        (trans_high r.hi end (within r among) low)

    -- the list is short
    pub is_short : IsShortList ranges
    is_short =
        list_short ranges (All-weaker (Contains ranges) (λ (r : Range). length (entry r) ≤ 43) one_short ranges (All-contains_itself ranges))
        (trans_high (length ranges) end (ranges_few end ranges are.ascend within) low)

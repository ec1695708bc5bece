-- How a reader of a section goes on over a field, and where it finds a fault.
use Rattle.std.specs.Int.{w32, to_le_bytes, from_le_bytes}
use Rattle.std.proofs.lemmas.Nat.{from_le_bytes-to_le_bytes_4}
use Rattle.dwarf_loclists.proofs.OneReading.{cut}
use Rattle.std.proofs.Common.{◌≡◌, ℕ, ◌+◌, ◌-◌, ◌*◌, ◌/◌, ◌^◌, ◌<◌, ◌≤◌, List, [], ◌++◌, length, drop, arith, ap, sym, ◌∙◌, refl, length-append, length-drop}
use Rattle.std.proofs.lemmas.List.{drop-drop}
use Rattle.std.proofs.lemmas.List.Prefix.{front_rest}
use Rattle.dwarf_loclists.specs.Fault.{LocationListField, begin, onward, MayBe, first_byte, FaultAt, UnitLength, Version, OffsetEntryCount}
use Rattle.dwarf_loclists.specs.steps.Reader.{StandsAt, Goes, AtLists}

pub step : (bytes : List ℕ) (field next : LocationListField) (here rest after : List ℕ) → StandsAt bytes field rest → rest ≡ here ++ after
    → MayBe (length bytes) field here next
    → first_byte next ≡ first_byte field + length here → StandsAt bytes next after
step bytes field next here rest after s e may place = record {
  reached = onward s.reached (record { here = here; rest = after; stands = s.here ∙ e; may = may });
  here = ap (λ (n : ℕ). drop n bytes) place ∙ sym (drop-drop (length here) (first_byte field) bytes) ∙ ap (drop (length here)) s.here
      ∙ front_rest rest here after e;
  within = omega (arith, place, s.within, ap length e, length-append here after);
}

pub stuck : (bytes : List ℕ) (field : LocationListField) (rest : List ℕ) (at : ℕ) → StandsAt bytes field rest → Goes field → at + length rest ≡ length bytes
    → ((here after : List ℕ) (next : LocationListField) → rest ≡ here ++ after → MayBe (length bytes) field here next → ⊥) → FaultAt bytes at
stuck bytes field rest at s goes is none = record {
  field = field;
  reached = s.reached;
  wrong = λ next r. none r.here r.rest next (sym s.here ∙ r.stands) r.may;
  unfinished = goes;
  is = omega (arith, is, s.within);
}

pub at_start : (bytes : List ℕ) → StandsAt bytes UnitLength bytes
at_start bytes = record { reached = begin; here = refl; within = omega arith }

-- the length that is right, and the only one
pub length_field : (bytes : List ℕ) → 4 ≤ length bytes → length bytes - 4 < 4294967280 → (field : List ℕ) → field ≡ to_le_bytes w32 (length bytes - 4)
    → MayBe (length bytes) UnitLength field Version × ((xs : List ℕ) (next : LocationListField) → MayBe (length bytes) UnitLength xs next → xs ≡ field)
length_field bytes some small field is = (
  (length bytes - 4, small, omega arith, is, refl),
  λ xs next m. m.3 ∙ ap (to_le_bytes w32) (let after : m.0 ≡ length bytes - 4 = omega (arith, m.2) in after) ∙ sym is,
)

pub wrong_length : (bytes : List ℕ) → ((n : ℕ) → n < 4294967280 → length bytes ≡ 4 + n → ⊥) → FaultAt bytes 0
wrong_length bytes none = record {
  field = UnitLength;
  reached = begin;
  wrong = λ next r. none r.may.0 r.may.1 r.may.2;
  unfinished = λ done e. cc;
  is = refl;
}

pub counted : (bytes rest after : List ℕ) (n : ℕ) → StandsAt bytes OffsetEntryCount rest → rest ≡ to_le_bytes w32 n ++ after → n < 2 ^ 32 → n ≤ length after / 4
    → AtLists bytes n [] (drop 12 bytes) (drop (12 + 4 * n) bytes)
counted bytes rest after n s e fits room =
    let size : length rest ≡ 4 + length after = omega (arith, ap length e) in
    let enough : 4 * n ≤ length after = omega arith in
    record {
      reached = onward s.reached (record { here = to_le_bytes w32 n; rest = after; stands = s.here ∙ e; may = (n, fits, omega (arith, s.within), refl, refl) });
      offset = refl;
      lists = ap (λ (m : ℕ). drop m bytes) (omega arith);
      count = omega arith;
      before = omega (arith, s.within, length-drop 12 bytes);
      within = omega (arith, s.within, length-drop (12 + 4 * n) bytes);
    }

pub count_too_large : (bytes rest after : List ℕ) (n at : ℕ) → StandsAt bytes OffsetEntryCount rest → rest ≡ to_le_bytes w32 n ++ after → n < 2 ^ 32
    → length after / 4 < n
    → at + length rest ≡ length bytes → FaultAt bytes at
count_too_large bytes rest after n at s e fits room is =
    stuck bytes OffsetEntryCount rest at s (λ done e. cc) is
    (λ here behind next split m.
    let front = cut (to_le_bytes w32 n) (to_le_bytes w32 m.0) after behind refl (sym e ∙ split ∙ ap (λ (xs : List ℕ). xs ++ behind) m.3) in
    let same : n ≡ m.0 = sym (from_le_bytes-to_le_bytes_4 n fits) ∙ ap (from_le_bytes w32) front.0 ∙ from_le_bytes-to_le_bytes_4 m.0 m.1 in
    let size : length rest ≡ 4 + length after = omega (arith, ap length e) in
    omega (arith, same, m.2, s.within))

pub count_cut : (bytes rest : List ℕ) (at : ℕ) → StandsAt bytes OffsetEntryCount rest → length rest < 4 → at + length rest ≡ length bytes → FaultAt bytes at
count_cut bytes rest at s short is =
    stuck bytes OffsetEntryCount rest at s (λ done e. cc) is
    (λ here behind next split m. let size : length rest ≡ 4 + length behind
    = omega (arith, ap length (split ∙ ap (λ (xs : List ℕ). xs ++ behind) m.3)) in omega arith)

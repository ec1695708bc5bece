-- Rows, address ranges and entries are read where they are spelled, in both directions.
use Rattle.std.specs.Prelude.{◌&&◌}
use Rattle.std.specs.Int.{Width, w32, w64, to_le_bytes}
use Rattle.std.proofs.Common.{◌≡◌, ℕ, zero, suc, ◌+◌, ◌-◌, ◌/◌, ◌%◌, ◌^◌, ◌<◌, ◌≤◌, Bool, true, false, cond, eqb, ltb, leb, List, [], ◌∷◌, ◌++◌}
use Rattle.std.proofs.Common.{length, take, drop, replicate, Result, Ok, Err, arith, ap, subst, sym, ◌∙◌, refl, inl, inr}
use Rattle.std.proofs.Common.{append_assoc, append-nil, length-append, eq-eqb, eqb-true, lit<}
use Rattle.std.proofs.lemmas.Bool.{cases_lt, ltb-true, lt-ltb, leb-true, le-leb, and_parts, and_from}
use Rattle.std.proofs.lemmas.List.{take_at, drop_at, take-append-drop, length-take, length-replicate, get_or_append_left, get_or_past}
use Rattle.std.proofs.lemmas.List.Elements.{All-from_recursion}
use Rattle.dwarf_base.specs.Standard.{LENGTH_LIMIT}
use Rattle.dwarf_line.specs.Fields.{◌>>=◌, constants_at, number_at}
use Rattle.dwarf_line.proofs.Groups.{bind_ok, chosen, ok_is, not_ok, constants_take, constants_again, step}
use Rattle.dwarf_line.proofs.Fixed.{IsBytes, IsBytes-behind, IsWide, wide32, wide64, number_takes, number_again}
use Rattle.dwarf_frame.specs.declared.table.Row.{Row}
use Rattle.dwarf_frame.specs.Table.{none_saved, initial, IsDistance, AreRules, IsNext, AreRows}
use Rattle.dwarf_frame.specs.Spelling.{advance, registers, row, rows_after}
use Rattle.dwarf_frame.specs.FirstFault.{value_at, begins_row, padding_at, next_row_at, entry_at, range_at, Rows, NoRow, NextRow}
use Rattle.dwarf_frame.proofs.Opcodes.{short_is, long_is, none_fit}
use Rattle.dwarf_frame.proofs.OneRow.{change, row_append, Follows, row_takes, row_again}

pub IsBytes-front : (x rest : List ℕ) → IsBytes (x ++ rest) → IsBytes x
IsBytes-front x rest are i =
    elim (cases_lt i (length x)) [
      | inl inside ↦ rw (← get_or_append_left x rest 0 i inside) (are i)
      | inr past ↦ rw (get_or_past x i 0 past) (lit< tt)
    ]

abbrev behind : List ℕ → Result (List ℕ) ℕ
behind rest = Ok rest

abbrev refused : ℕ → Result (List ℕ) ℕ
refused left = Err left

-- ---- what begins a row

advance_follows : (words : ℕ) (rest : List ℕ) → 0 < words → Follows (advance words ++ rest)
advance_follows words rest some =
    elim (cases_lt words 64) [
      | inl small ↦ subst (λ x. Follows (x ++ rest)) (sym (short_is words small)) (omega arith, λ e. omega arith)
      | inr large ↦ subst (λ x. Follows (x ++ rest)) (sym (long_is words large)) (omega arith, λ e. omega arith)
    ]

advance_begins : (words : ℕ) (rest : List ℕ) → begins_row (advance words ++ rest) ≡ true
advance_begins words rest =
    elim (cases_lt words 64) [
      | inl small ↦
          (let positive : suc (63 + words) ≡ 64 + words = omega arith in
          ap (λ x. begins_row (x ++ rest)) (short_is words small) ∙ subst (λ n. begins_row (n ∷ rest) ≡ true) positive refl)
      | inr large ↦ ap (λ x. begins_row (x ++ rest)) (long_is words large)
    ]

abbrev changes : Row → Row → List ℕ → List ℕ
changes before r rest = change before.rules.cfa_offset r.rules.cfa_offset ++ (registers before.rules.saved r.rules.saved ++ rest)

row_begins : (before r : Row) (rest : List ℕ) → begins_row (row before r ++ rest) ≡ true
row_begins before r rest = ap begins_row (row_append before r rest) ∙ advance_begins ((r.address - before.address) / 4) (changes before r rest)

row_follows : (before r : Row) (end : ℕ) (rest : List ℕ) → IsNext before r end → Follows (row before r ++ rest)
row_follows before r end rest next =
    subst Follows (sym (row_append before r rest))
    (advance_follows ((r.address - before.address) / 4) (changes before r rest) (omega (arith, next.later, next.words)))

-- ---- the padding

abbrev pub zeros : ℕ → List ℕ
zeros n = replicate n 0

pub length-zeros : (n : ℕ) → length (zeros n) ≡ n
length-zeros n = length-replicate n _

padding_takes : (bytes : List ℕ) → padding_at bytes ≡ Ok [] → (bytes ≡ replicate (length bytes) 0) × (length bytes < 8)
unfolding padding_at
padding_takes bytes e =
    elim (chosen (ltb (length bytes) 8) (constants_at (replicate (length bytes) 0) bytes) (refused (length bytes)) (behind []) e) [
      | inl short ↦ (
        constants_take (replicate (length bytes) 0) bytes [] short.1 ∙ append-nil (replicate (length bytes) 0),
        ltb-true (length bytes) 8 short.0,
      )
      | inr long ↦ absurd (not_ok (length bytes) [] long.1)
    ]

padding_again : (n : ℕ) → n < 8 → padding_at (replicate n 0) ≡ Ok []
unfolding padding_at
padding_again n short =
    let count : length (zeros n) ≡ n = length-zeros n in
    let below : ltb n 8 ≡ true = lt-ltb n 8 short in
    rw (count, below) (ap (constants_at (replicate n 0)) (sym (append-nil (replicate n 0))) ∙ constants_again (replicate n 0) [])

padding_begins : (n : ℕ) → begins_row (replicate n 0) ≡ false
padding_begins zero = refl
padding_begins (suc n) = refl

padding_follows : (n : ℕ) → Follows (replicate n 0)
padding_follows zero = tt
padding_follows (suc n) = (omega arith, λ e. omega arith)

-- ---- rows

pub initial_rules : (start : ℕ) → AreRules (initial start).rules
initial_rules start = record {
  offset = lit< tt;
  registers = refl;
  distances = All-from_recursion IsDistance none_saved (none_fit 32);
  zero = refl;
  pointer = refl;
}

-- what rows are that are read
pub record AreRowsAt (end : ℕ) (before : Row) (bytes : List ℕ) (rows : List Row) : Type 0 where
  pub padding : ℕ
  pub short : padding < 8
  pub spelled : bytes ≡ rows_after before rows ++ replicate padding 0
  pub are : AreRows before rows end

pub rows_take : {end : ℕ} {before : Row} {bytes : List ℕ} {rows : List Row} → IsBytes bytes → AreRules before.rules → Rows end before bytes rows
    → AreRowsAt end before bytes rows
rows_take {bytes = bytes} are fits (NoRow begins padding) =
    let bytes_are = padding_takes bytes padding in record { padding = length bytes; short = bytes_are.1; spelled = bytes_are.0; are = tt }
rows_take {end} {before} {bytes} are fits (NextRow {r = r} {after = after} {rows = others} begins e later) =
    let is = row_takes end before bytes r after are fits e in
    let next = rows_take (IsBytes-behind bytes (row before r) after is.spelled are) is.rules later in
    record {
      padding = next.padding;
      short = next.short;
      spelled =
          is.spelled ∙ ap (λ x. row before r ++ x) next.spelled
          ∙ sym (append_assoc (row before r) (rows_after r others) (replicate next.padding 0));
      are = (is.next, is.rules, next.are);
    }

rows_follow : (before : Row) (rows : List Row) (end padding : ℕ) → AreRows before rows end → Follows (rows_after before rows ++ replicate padding 0)
rows_follow before [] end padding are = padding_follows padding
rows_follow before (r ∷ rows) end padding are =
    subst Follows (sym (append_assoc (row before r) (rows_after r rows) (replicate padding 0)))
    (row_follows before r end (rows_after r rows ++ replicate padding 0) are.0)

pub rows_again : (end : ℕ) (before : Row) (rows : List Row) (padding : ℕ) → AreRules before.rules → AreRows before rows end → padding < 8
    → Rows end before (rows_after before rows ++ replicate padding 0) rows
rows_again end before [] padding fits are short = NoRow (padding_begins padding) (padding_again padding short)
rows_again end before (r ∷ rows) padding fits are short =
    let after : List ℕ = rows_after r rows ++ replicate padding 0 in
    let whole : rows_after before (r ∷ rows) ++ replicate padding 0 ≡ row before r ++ after =
    append_assoc (row before r) (rows_after r rows) (replicate padding 0) in
    NextRow (ap begins_row whole ∙ row_begins before r after)
    (ap (next_row_at end before) whole ∙ row_again end before r after are.0 fits are.1 (rows_follow r rows end padding are.2))
    (rows_again end r rows padding are.1 are.2 short)

-- ---- numbers with one value

abbrev known : ℕ → List ℕ → ℕ × List ℕ → Result (List ℕ) ℕ
known n bytes x = cond (eqb x.0 n) (behind x.1) (refused (length bytes))

pub value_takes : (w : Width) (limit : ℕ) → IsWide w limit → (n : ℕ) (bytes rest : List ℕ) → IsBytes bytes → value_at w n bytes ≡ Ok rest
    → bytes ≡ to_le_bytes w n ++ rest
unfolding value_at
value_takes w limit wide n bytes rest are e =
    let read = bind_ok (number_at w bytes) (known n bytes) rest e in
    let is = number_takes w limit wide bytes read.0.0 read.0.1 are read.1 in
    elim (chosen (eqb read.0.0 n) (behind read.0.1) (refused (length bytes)) (behind rest) read.2) [
      | inl same ↦
          is.0 ∙ ap (λ k. to_le_bytes w k ++ read.0.1) (eqb-true read.0.0 n same.0) ∙ ap (λ x. to_le_bytes w n ++ x) (ok_is read.0.1 rest same.1)
      | inr other ↦ absurd (not_ok (length bytes) rest other.1)
    ]

pub value_again : (w : Width) (limit : ℕ) → IsWide w limit → (n : ℕ) (rest : List ℕ) → n < limit → value_at w n (to_le_bytes w n ++ rest) ≡ Ok rest
unfolding value_at
value_again w limit wide n rest fits =
    step (number_at w (to_le_bytes w n ++ rest)) (known n (to_le_bytes w n ++ rest)) (n, rest) (number_again w limit wide n rest fits)
    ∙ ap (λ b. cond b (behind rest) (refused (length (to_le_bytes w n ++ rest)))) (eq-eqb n n refl)

-- ---- the address range

abbrev ranged : (start size : ℕ) → List ℕ → Result (ℕ × ℕ × List ℕ) ℕ
ranged start size rest = Ok (start, size, rest)

abbrev no_range : ℕ → Result (ℕ × ℕ × List ℕ) ℕ
no_range left = Err left

abbrev after_size : ℕ × List ℕ → ℕ × List ℕ → Result (ℕ × ℕ × List ℕ) ℕ
after_size start size = cond (leb (start.0 + size.0) (2 ^ 64)) (ranged start.0 size.0 size.1) (no_range (length start.1))

abbrev after_start : ℕ × List ℕ → Result (ℕ × ℕ × List ℕ) ℕ
after_start start = number_at w64 start.1 >>= after_size start

abbrev after_pointer : List ℕ → Result (ℕ × ℕ × List ℕ) ℕ
after_pointer pointer = number_at w64 pointer >>= after_start

abbrev pub range_bytes : (start size : ℕ) → List ℕ → List ℕ
range_bytes start size rest = to_le_bytes w32 0 ++ (to_le_bytes w64 start ++ (to_le_bytes w64 size ++ rest))

-- what an address range is that is read
pub record IsRange (bytes : List ℕ) (start size : ℕ) (rest : List ℕ) : Type 0 where
  pub spelled : bytes ≡ range_bytes start size rest
  pub start_fits : start < 2 ^ 64
  pub size_fits : size < 2 ^ 64
  pub end : start + size ≤ 2 ^ 64
  pub are : IsBytes rest

pub range_takes : (bytes : List ℕ) (start size : ℕ) (rest : List ℕ) → IsBytes bytes → range_at bytes ≡ Ok (start, size, rest)
    → IsRange bytes start size rest
unfolding range_at
range_takes bytes start size rest are e =
    let p = bind_ok (value_at w32 0 bytes) after_pointer (start, size, rest) e in
    let pointer = value_takes w32 (2 ^ 32) wide32 0 bytes p.0 are p.1 in
    let are_p : IsBytes p.0 = IsBytes-behind bytes (to_le_bytes w32 0) p.0 pointer are in
    let s = bind_ok (number_at w64 p.0) after_start (start, size, rest) p.2 in
    let begin = number_takes w64 (2 ^ 64) wide64 p.0 s.0.0 s.0.1 are_p s.1 in
    let are_s : IsBytes s.0.1 = IsBytes-behind p.0 (to_le_bytes w64 s.0.0) s.0.1 begin.0 are_p in
    let z = bind_ok (number_at w64 s.0.1) (after_size s.0) (start, size, rest) s.2 in
    let long = number_takes w64 (2 ^ 64) wide64 s.0.1 z.0.0 z.0.1 are_s z.1 in
    let are_z : IsBytes z.0.1 = IsBytes-behind s.0.1 (to_le_bytes w64 z.0.0) z.0.1 long.0 are_s in
    elim (chosen (leb (s.0.0 + z.0.0) (2 ^ 64)) (ranged s.0.0 z.0.0 z.0.1) (no_range (length s.0.1)) (ranged start size rest) z.2) [
      | inl inside ↦
          subst (λ (x : ℕ × ℕ × List ℕ). IsRange bytes x.0 x.1 x.2) (ok_is (s.0.0, z.0.0, z.0.1) (start, size, rest) inside.1) (record {
            spelled =
                pointer ∙ ap (λ x. to_le_bytes w32 0 ++ x) (begin.0 ∙ ap (λ x. to_le_bytes w64 s.0.0 ++ x) long.0);
            start_fits = begin.1;
            size_fits = long.1;
            end = leb-true (s.0.0 + z.0.0) (2 ^ 64) inside.0;
            are = are_z;
          })
      | inr past ↦ absurd (not_ok (length s.0.1) (start, size, rest) past.1)
    ]

pub range_again : (start size : ℕ) (rest : List ℕ) → start < 2 ^ 64 → size < 2 ^ 64 → start + size ≤ 2 ^ 64
    → range_at (range_bytes start size rest) ≡ Ok (start, size, rest)
unfolding range_at
range_again start size rest start_fits size_fits end =
    let sizes : List ℕ = to_le_bytes w64 size ++ rest in
    let starts : List ℕ = to_le_bytes w64 start ++ sizes in
    step (value_at w32 0 (to_le_bytes w32 0 ++ starts)) after_pointer starts (value_again w32 (2 ^ 32) wide32 0 starts (lit< tt))
    ∙ step (number_at w64 starts) after_start (start, sizes) (number_again w64 (2 ^ 64) wide64 start sizes start_fits)
    ∙ step (number_at w64 sizes) (after_size (start, sizes)) (size, rest) (number_again w64 (2 ^ 64) wide64 size rest size_fits)
    ∙ ap (λ b. cond b (ranged start size rest) (no_range (length sizes))) (le-leb (start + size) (2 ^ 64) end)

-- ---- an entry

abbrev halves : (body rest : List ℕ) → Result (List ℕ × List ℕ) ℕ
halves body rest = Ok (body, rest)

abbrev no_entry : ℕ → Result (List ℕ × List ℕ) ℕ
no_entry left = Err left

abbrev has_size : ℕ → List ℕ → Bool
has_size size rest = (leb 20 size && eqb ((size + 4) % 8) 0) && (leb size (length rest) && ltb size LENGTH_LIMIT)

abbrev entry_of : List ℕ → ℕ × List ℕ → Result (List ℕ × List ℕ) ℕ
entry_of bytes size = cond (has_size size.0 size.1) (halves (take size.0 size.1) (drop size.0 size.1)) (no_entry (length bytes))

-- what the bytes of an entry after its length are that are read
pub record IsEntry (bytes body rest : List ℕ) : Type 0 where
  pub spelled : bytes ≡ to_le_bytes w32 (length body) ++ (body ++ rest)
  pub least : 20 ≤ length body
  pub whole : (length body + 4) % 8 ≡ 0
  pub limit : length body < LENGTH_LIMIT

pub entry_takes : (bytes body rest : List ℕ) → IsBytes bytes → entry_at bytes ≡ Ok (body, rest) → IsEntry bytes body rest
unfolding entry_at
entry_takes bytes body rest are e =
    let n = bind_ok (number_at w32 bytes) (entry_of bytes) (body, rest) e in
    let is = number_takes w32 (2 ^ 32) wide32 bytes n.0.0 n.0.1 are n.1 in
    elim (chosen (has_size n.0.0 n.0.1) (halves (take n.0.0 n.0.1) (drop n.0.0 n.0.1)) (no_entry (length bytes)) (halves body rest) n.2) [
      | inl fits ↦
          (let parts = and_parts (leb 20 n.0.0 && eqb ((n.0.0 + 4) % 8) 0) (leb n.0.0 (length n.0.1) && ltb n.0.0 LENGTH_LIMIT) fits.0 in
          let first = and_parts (leb 20 n.0.0) (eqb ((n.0.0 + 4) % 8) 0) parts.0 in
          let second = and_parts (leb n.0.0 (length n.0.1)) (ltb n.0.0 LENGTH_LIMIT) parts.1 in
          let inside : n.0.0 ≤ length n.0.1 = leb-true n.0.0 (length n.0.1) second.0 in
          let size : length (take n.0.0 n.0.1) ≡ n.0.0 = omega (arith, length-take n.0.0 n.0.1, inside) in
          subst (λ (x : List ℕ × List ℕ). IsEntry bytes x.0 x.1) (ok_is (take n.0.0 n.0.1, drop n.0.0 n.0.1) (body, rest) fits.1) (record {
            spelled =
                is.0 ∙ ap (λ k. to_le_bytes w32 k ++ n.0.1) (sym size)
                ∙ ap (λ x. to_le_bytes w32 (length (take n.0.0 n.0.1)) ++ x) (sym (take-append-drop n.0.0 n.0.1));
            least = omega (arith, size, leb-true 20 n.0.0 first.0);
            whole = ap (λ k. (k + 4) % 8) size ∙ eqb-true ((n.0.0 + 4) % 8) 0 first.1;
            limit = omega (arith, size, ltb-true n.0.0 LENGTH_LIMIT second.1);
          }))
      | inr other ↦ absurd (not_ok (length bytes) (body, rest) other.1)
    ]

pub entry_again : (body rest : List ℕ) → 20 ≤ length body → (length body + 4) % 8 ≡ 0 → length body < LENGTH_LIMIT
    → entry_at (to_le_bytes w32 (length body) ++ (body ++ rest)) ≡ Ok (body, rest)
unfolding entry_at
entry_again body rest least whole limit =
    let bytes : List ℕ = to_le_bytes w32 (length body) ++ (body ++ rest) in
    let inside : length body ≤ length (body ++ rest) = omega (arith, length-append body rest) in
    let fits : has_size (length body) (body ++ rest) ≡ true =
    and_from (leb 20 (length body) && eqb ((length body + 4) % 8) 0) (leb (length body) (length (body ++ rest)) && ltb (length body) LENGTH_LIMIT)
    (and_from (leb 20 (length body)) (eqb ((length body + 4) % 8) 0) (le-leb 20 (length body) least) (eq-eqb ((length body + 4) % 8) 0 whole))
    (and_from (leb (length body) (length (body ++ rest))) (ltb (length body) LENGTH_LIMIT) (le-leb (length body) (length (body ++ rest)) inside)
    (lt-ltb (length body) LENGTH_LIMIT limit)) in
    step (number_at w32 bytes) (entry_of bytes) (length body, body ++ rest)
    (number_again w32 (2 ^ 32) wide32 (length body) (body ++ rest) (omega arith))
    ∙ ap (λ b. cond b (halves (take (length body) (body ++ rest)) (drop (length body) (body ++ rest))) (no_entry (length bytes))) fits
    ∙ ap (λ x. halves x (drop (length body) (body ++ rest))) (take_at body rest (length body) refl)
    ∙ ap (halves body) (drop_at body rest (length body) refl)

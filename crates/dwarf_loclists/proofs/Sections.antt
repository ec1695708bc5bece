-- In a section all fields are right: it is read to its end, list by list and entry by entry.
use Rattle.std.specs.Prelude.{All}
use Rattle.std.specs.List.{flat_map}
use Rattle.std.specs.Int.{w16, w32, to_le_bytes}
use Rattle.std.proofs.Common.{◌≡◌, ℕ, ◌+◌, ◌*◌, ◌^◌, ◌<◌, ◌≤◌, List, [], ◌∷◌, ◌++◌, length, drop, arith, ap, sym, subst, ◌∙◌, refl, length-append, append_assoc}
use Rattle.std.proofs.Common.{append-nil, inl, inr}
use Rattle.std.proofs.lemmas.List.{drop-drop}
use Rattle.std.proofs.lemmas.List.Prefix.{front_rest}
use Rattle.std.proofs.lemmas.Bool.Decides.{nat_tests}
use Rattle.std.proofs.lemmas.List.Elements.{All-cons, All-rest, All-head, All-nil}
use Rattle.dwarf_base.specs.Leb.{uleb_of}
use Rattle.dwarf_loclists.specs.declared.range.Range.{Range}
use Rattle.dwarf_loclists.specs.Ranges.{Ascend, ArePlaces, Are64Bit, IsLocated, HasWords}
use Rattle.dwarf_loclists.specs.Spelling.{entry, expression, list_spelling, bodies, offsets_from, header, spelling}
use Rattle.dwarf_loclists.specs.Grammar.{IsSection}
use Rattle.dwarf_loclists.specs.Fault.{Reaches, onward, FaultAt, after, first_byte, UnitLength, Version, AddressSize, SegmentSelectorSize, OffsetEntryCount}
use Rattle.dwarf_loclists.specs.Fault.{ListOffset, EntryKind, StartOffset, EndOffset, ExpressionLength, Expression, Nothing}
use Rattle.dwarf_loclists.specs.steps.Reader.{StandsAt}
use Rattle.dwarf_loclists.proofs.SpellingLemmas.{length-spelling, length-offsets_from}
use Rattle.dwarf_loclists.proofs.ReaderLemmas.{step, at_start}
use Rattle.dwarf_loclists.proofs.EntryLemmas.{entry_size}
use Rattle.dwarf_loclists.proofs.ListLemmas.{bodies_size}
use Rattle.dwarf_loclists.proofs.OneFault.{no_fault}
use Rattle.dwarf_loclists.proofs.OneReading.{entry-append, spliced}

-- ranges up to one of those that ascend
ascend_front : (front : List Range) (r : Range) (rest : List Range) → Ascend (front ++ r ∷ rest) → Ascend (front ++ r ∷ [])
ascend_front [] r [] a = a
ascend_front [] r (s ∷ rest) a = a.0
ascend_front (p ∷ []) r rest a = (a.0, a.1, a.2, ascend_front [] r rest a.3)
ascend_front (p ∷ q ∷ front) r rest a = (a.0, a.1, a.2, ascend_front (q ∷ front) r rest a.3)

order_of : (front : List Range) (r : Range) → Ascend (front ++ r ∷ []) → r.lo < r.hi
order_of [] r a = a
order_of (p ∷ []) r a = a.3
order_of (p ∷ q ∷ front) r a = order_of (q ∷ front) r a.3

first_order : (q : Range) (front : List Range) (r : Range) → Ascend (q ∷ (front ++ r ∷ [])) → q.lo < q.hi
first_order q [] r a = a.0
first_order q (s ∷ front) r a = a.0

-- those before a range end where it begins, or before
below_next : (front : List Range) (r : Range) → Ascend (front ++ r ∷ []) → All (λ (s : Range). s.hi ≤ r.lo) front
below_next [] r a = All-nil (λ (s : Range). s.hi ≤ r.lo)
below_next (p ∷ []) r a = All-cons (λ (s : Range). s.hi ≤ r.lo) p [] a.1 (All-nil (λ (s : Range). s.hi ≤ r.lo))
below_next (p ∷ q ∷ front) r a =
    let rest = below_next (q ∷ front) r a.3 in
    let next : q.hi ≤ r.lo = All-head (λ (s : Range). s.hi ≤ r.lo) q front rest in
    All-cons (λ (s : Range). s.hi ≤ r.lo) p (q ∷ front) (omega (arith, a.1, first_order q front r a.3)) rest

-- an entry more
entry_right : (bytes : List ℕ) (n : ℕ) (done : List (List Range)) (ranges : List Range) (r : Range) (rest behind : List ℕ)
    → StandsAt bytes (EntryKind n done ranges) rest
    → rest ≡ entry r ++ behind → length bytes < 2 ^ 33 → Ascend (ranges ++ r ∷ []) → IsLocated r.location
    → (r.lo < 2 ^ 64) × (r.hi < 2 ^ 64) × HasWords r.location
    → StandsAt bytes (EntryKind n done (ranges ++ r ∷ [])) behind
entry_right bytes n done ranges r rest behind s e short ascend located wide =
    let here : List ℕ = expression r.location in
    let len : ℕ = length here in
    let s1 = step bytes (EntryKind n done ranges) (StartOffset n done ranges) (4 ∷ []) rest _ s (e ∙ entry-append r behind) (inr (refl, refl)) refl in
    let s2 = step bytes (StartOffset n done ranges) (EndOffset n done ranges r.lo) (uleb_of r.lo) _ _ s1 refl
    (r.lo, wide.0, below_next ranges r ascend, refl, refl) refl in
    let s3 = step bytes (EndOffset n done ranges r.lo) (ExpressionLength n done ranges r.lo r.hi) (uleb_of r.hi) _ _ s2 refl
    (r.hi, wide.1, order_of ranges r ascend, refl, refl) refl in
    let within : len < 2 ^ 64 = omega (arith, s3.within, length-append (uleb_of len) (here ++ behind), length-append here behind) in
    let s4 = step bytes (ExpressionLength n done ranges r.lo r.hi) (Expression n done ranges r.lo r.hi len) (uleb_of len) _ _ s3 refl
    (len, within, refl, refl) refl in
    step bytes (Expression n done ranges r.lo r.hi len) (EntryKind n done (ranges ++ r ∷ [])) here _ behind s4 refl
    (r.location, record { located = located; wide = wide.2; spelled = refl }, refl, ascend, refl) (omega (arith, entry_size ranges r))

-- the ranges that are left of a list
ranges_right : (bytes : List ℕ) (n : ℕ) (done : List (List Range)) (front ranges : List Range) (rest behind : List ℕ)
    → StandsAt bytes (EntryKind n done front) rest
    → rest ≡ list_spelling ranges ++ behind → length bytes < 2 ^ 33 → Ascend (front ++ ranges) → ArePlaces ranges → Are64Bit ranges
    → StandsAt bytes (EntryKind n done (front ++ ranges)) (0 ∷ behind)
ranges_right bytes n done front [] rest behind s e short ascend places wide =
    subst (λ (rs : List Range). StandsAt bytes (EntryKind n done rs) (0 ∷ behind)) (sym (append-nil front))
    (subst (StandsAt bytes (EntryKind n done front)) e s)
ranges_right bytes n done front (r ∷ ranges) rest behind s e short ascend places wide =
    let one = ascend_front front r ranges ascend in
    let next = entry_right bytes n done front r rest (list_spelling ranges ++ behind) s (e ∙ spliced (entry r) (flat_map entry ranges) (0 ∷ []) behind) short
    one
    (All-head (λ (q : Range). IsLocated q.location) r ranges places)
    (All-head (λ (q : Range). (q.lo < 2 ^ 64) × (q.hi < 2 ^ 64) × HasWords q.location) r ranges wide) in
    let joined : (front ++ r ∷ []) ++ ranges ≡ front ++ r ∷ ranges = append_assoc front (r ∷ []) ranges in
    subst (λ (rs : List Range). StandsAt bytes (EntryKind n done rs) (0 ∷ behind)) joined
    (ranges_right bytes n done (front ++ r ∷ []) ranges (list_spelling ranges ++ behind) behind next refl short (subst Ascend (sym joined) ascend)
    (All-rest (λ (q : Range). IsLocated q.location) r ranges (r ∷ ranges) refl places)
    (All-rest (λ (q : Range). (q.lo < 2 ^ 64) × (q.hi < 2 ^ 64) × HasWords q.location) r ranges (r ∷ ranges) refl wide))

-- at the next list, with the offsets and the bodies of those that are left
record Left (bytes : List ℕ) (n : ℕ) (done lists : List (List Range)) : Type 0 where
  reached : Reaches bytes (ListOffset n done)
  count : length done + length lists ≡ n
  table : List ℕ
  offset : drop (12 + 4 * length done) bytes ≡ offsets_from (4 * n + length (bodies done)) lists ++ table
  here : drop (after n done []) bytes ≡ bodies lists
  within : after n done [] + length (bodies lists) ≡ length bytes

one_list : (bytes : List ℕ) (n : ℕ) (done : List (List Range)) (ranges : List Range) (lists : List (List Range)) → Left bytes n done (ranges ∷ lists)
    → length bytes < 2 ^ 33
    → Ascend ranges → ArePlaces ranges → Are64Bit ranges → Left bytes n (done ++ ranges ∷ []) lists
one_list bytes n done ranges lists l short ascend places wide =
    let first : ℕ = 4 * n + length (bodies done) in
    let field : List ℕ = to_le_bytes w32 first in
    let others : List ℕ = offsets_from (first + length (list_spelling ranges)) lists in
    let more : length done < n = omega (arith, l.count) in
    let place : first_byte (ListOffset n done) ≡ 12 + 4 * length done = offset_place n done more in
    let offset : drop (12 + 4 * length done) bytes ≡ field ++ (others ++ l.table) = l.offset ∙ append_assoc field others l.table in
    let start : StandsAt bytes (EntryKind n done []) (bodies (ranges ∷ lists)) = record {
      reached = onward l.reached (record {
        here = field;
        rest = others ++ l.table;
        stands = ap (λ (m : ℕ). drop m bytes) place ∙ offset;
        may = inl (
          more,
          refl,
          refl,
        );
      });
      here = l.here;
      within = l.within;
    } in
    let end = ranges_right bytes n done [] ranges (bodies (ranges ∷ lists)) (bodies lists) start refl short ascend places wide in
    let size = bodies_size done ranges in
    let count : length (done ++ ranges ∷ []) ≡ length done + 1 = length-append done (ranges ∷ []) in
    let next : after n (done ++ ranges ∷ []) [] ≡ after n done ranges + 1 = omega arith in
    let listed : 4 * n + length (bodies (done ++ ranges ∷ [])) ≡ first + length (list_spelling ranges)
    = omega (arith, length-append (flat_map entry ranges) (0 ∷ [])) in
    record {
      reached = onward end.reached (record { here = 0 ∷ []; rest = bodies lists; stands = end.here; may = inl (refl, refl) });
      count = omega (arith, l.count);
      table = l.table;
      offset =
          ap (λ (m : ℕ). drop m bytes) (let at : 12 + 4 * length (done ++ ranges ∷ []) ≡ (12 + 4 * length done) + 4 = omega arith in at)
          ∙ sym (drop-drop 4 (12 + 4 * length done) bytes)
          ∙ ap (drop 4) offset
          ∙ ap (λ (m : ℕ). offsets_from m lists ++ l.table) (sym listed);
      here = ap (λ (m : ℕ). drop m bytes) next ∙ sym (drop-drop 1 (after n done ranges) bytes) ∙ ap (drop 1) end.here;
      within = omega (arith, next, end.within);
    }
  where
    offset_place : (n : ℕ) (done : List (List Range)) → length done < n → first_byte (ListOffset n done) ≡ 12 + 4 * length done
    offset_place n done more = grind (arith, nat_tests)

lists_right : (bytes : List ℕ) (n : ℕ) (done lists : List (List Range)) → Left bytes n done lists → length bytes < 2 ^ 33 → All Ascend lists
    → All ArePlaces lists → All Are64Bit lists
    → Reaches bytes (Nothing (done ++ lists))
lists_right bytes n done [] l short ascend places wide =
    subst (λ (ls : List (List Range)). Reaches bytes (Nothing ls)) (sym (append-nil done))
    (onward l.reached
    (record {
      here = [];
      rest = drop (first_byte (ListOffset n done)) bytes;
      stands = refl;
      may
          = inr (omega (arith, l.count), omega (arith, l.within), refl, refl);
    }))
lists_right bytes n done (ranges ∷ lists) l short ascend places wide =
    let next = one_list bytes n done ranges lists l short (All-head Ascend ranges lists ascend) (All-head ArePlaces ranges lists places)
    (All-head Are64Bit ranges lists wide) in
    subst (λ (ls : List (List Range)). Reaches bytes (Nothing ls)) (append_assoc done (ranges ∷ []) lists)
    (lists_right bytes n (done ++ ranges ∷ []) lists next short (All-rest Ascend ranges lists (ranges ∷ lists) refl ascend)
    (All-rest ArePlaces ranges lists (ranges ∷ lists) refl places)
    (All-rest Are64Bit ranges lists (ranges ∷ lists) refl wide))

-- the header is right
header_right : (bytes : List ℕ) (lists : List (List Range)) → IsSection bytes lists → Left bytes (length lists) [] lists
unfolding spelling
header_right bytes lists is =
    let n : ℕ = length lists in
    let m : ℕ = 8 + 4 * n + length (bodies lists) in
    let table : List ℕ = offsets_from (4 * n) lists in
    let after_header : List ℕ = table ++ bodies lists in
    let total : length bytes ≡ 4 + m = omega (arith, ap length is.spelled, length-spelling lists) in
    let split : bytes ≡ header m n ++ after_header = is.spelled ∙ append_assoc (header m n) table (bodies lists) in
    let s1 = step bytes UnitLength Version (to_le_bytes w32 m) bytes _ (at_start bytes) split (m, omega (arith, total, is.size), total, refl, refl) refl in
    let s2 = step bytes Version AddressSize (to_le_bytes w16 5) _ _ s1 refl (refl, refl) refl in
    let s3 = step bytes AddressSize SegmentSelectorSize (8 ∷ []) _ _ s2 refl (refl, refl) refl in
    let s4 = step bytes SegmentSelectorSize OffsetEntryCount (0 ∷ []) _ _ s3 refl (refl, refl) refl in
    let size : length table ≡ 4 * n = length-offsets_from (4 * n) lists in
    let stands : drop 8 bytes ≡ to_le_bytes w32 n ++ after_header = s4.here in
    let after_count : drop 12 bytes ≡ after_header = sym (drop-drop 4 8 bytes) ∙ ap (drop 4) stands in
    let place : 12 + length table ≡ 12 + 4 * n + 0 + 0 = omega arith in
    let past : drop (12 + 4 * n + 0 + 0) bytes ≡ bodies lists =
    ap (λ (k : ℕ). drop k bytes) (sym place) ∙ sym (drop-drop (length table) 12 bytes) ∙ front_rest (drop 12 bytes) table (bodies lists) after_count in
    record {
      reached = onward s4.reached (record {
        here = to_le_bytes w32 n;
        rest = after_header;
        stands = stands;
        may = (
          n,
          omega (arith, total, is.size),
          omega
              (arith, total),
          refl,
          refl,
        );
      });
      count = omega arith;
      table = bodies lists;
      offset = after_count ∙ ap (λ (k : ℕ). offsets_from k lists ++ bodies lists) (let same : 4 * n ≡ 4 * n + 0 = omega arith in same);
      here = past;
      within = omega (arith, total);
    }

pub reaches_end : (bytes : List ℕ) (lists : List (List Range)) → IsSection bytes lists → Reaches bytes (Nothing lists)
reaches_end bytes lists is = lists_right bytes (length lists) [] lists (header_right bytes lists is) (omega (arith, is.size)) is.ascend is.places is.wide

pub no_fault_in_section : (bytes : List ℕ) (at : ℕ) (lists : List (List Range)) → FaultAt bytes at → IsSection bytes lists → ⊥
no_fault_in_section bytes at lists fault is = no_fault bytes at lists fault (reaches_end bytes lists is)

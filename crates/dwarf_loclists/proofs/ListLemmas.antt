-- How a reader goes on over the lists of a section.
use Rattle.std.specs.Prelude.{◌≢◌, Option, Some, None}
use Rattle.std.specs.Option.{option_map}
use Rattle.std.specs.List.{flat_map}
use Rattle.std.specs.Int.{w32, to_le_bytes}
use Rattle.std.proofs.Common.{◌≡◌, ◌⊎◌, ℕ, zero, suc, ◌+◌, ◌-◌, ◌*◌, ◌<◌, ◌≤◌, List, [], ◌∷◌, ◌++◌, length, drop, arith, ap, sym, ◌∙◌, refl, length-append}
use Rattle.std.proofs.Common.{append-nil, length-drop, take, inl, inr}
use Rattle.std.proofs.lemmas.Bool.Decides.{nat_tests}
use Rattle.std.proofs.lemmas.List.{drop-drop, take_all}
use Rattle.std.proofs.lemmas.List.Concat.{flat_map-append}
use Rattle.std.proofs.lemmas.List.Prefix.{front_rest}
use Rattle.dwarf_loclists.specs.declared.range.Range.{Range}
use Rattle.dwarf_loclists.specs.Ranges.{location_in}
use Rattle.dwarf_loclists.specs.Spelling.{entry, expression, list_spelling, bodies}
use Rattle.dwarf_loclists.specs.Standard.{DW_LLE_end_of_list}
use Rattle.dwarf_loclists.specs.Fault.{LocationListField, onward, MayBe, first_byte, after, FaultAt, ListOffset, EntryKind, StartOffset}
use Rattle.dwarf_loclists.specs.steps.Reader.{StandsAt, AtLists, EntryRead, RangesRead, ListRead, ListsRead, AllRead, location_of}
use Rattle.dwarf_loclists.proofs.ReaderLemmas.{step, stuck}
use Rattle.dwarf_loclists.proofs.LastLemmas.{last_none, found_last, found_before}

-- how many bytes a list more takes
pub bodies_size : (done : List (List Range)) (ranges : List Range) → length (bodies (done ++ ranges ∷ []))
    ≡ length (bodies done) + (length (flat_map entry ranges) + 1)
bodies_size done ranges =
    omega (
      arith,
      ap length (flat_map-append list_spelling done (ranges ∷ [])),
      length-append (bodies done) (flat_map list_spelling (ranges ∷ [])),
      ap length (append-nil (list_spelling ranges)),
      length-append (flat_map entry ranges) (DW_LLE_end_of_list ∷ []),
    )

module _ (bytes : List ℕ) (n : ℕ) (done : List (List Range)) where
  pub kind_none : (ranges : List Range) (rest : List ℕ) (at : ℕ) → StandsAt bytes (EntryKind n done ranges) rest → at + length rest ≡ length bytes
      → ((after : List ℕ) → rest ≢ 0 ∷ after) → ((after : List ℕ) → rest ≢ 4 ∷ after) → FaultAt bytes at
  kind_none ranges rest at s is no_end no_pair =
      stuck bytes (EntryKind n done ranges) rest at s (λ done e. cc) is
      (λ here behind next split m.
      elim m [
        | inl end ↦ no_end behind (split ∙ ap (λ (xs : List ℕ). xs ++ behind) end.0)
        | inr pair ↦ no_pair behind (split ∙ ap (λ (xs : List ℕ). xs ++ behind) pair.0)
      ])

  pub kind_pair : (ranges : List Range) (rest behind : List ℕ) → StandsAt bytes (EntryKind n done ranges) rest → rest ≡ 4 ∷ behind
      → StandsAt bytes (StartOffset n done ranges) behind
  kind_pair ranges rest behind s e =
      step bytes (EntryKind n done ranges) (StartOffset n done ranges) (4 ∷ []) rest behind s e (inr (refl, refl)) refl

  pub list_end : (address end : ℕ) (before : List ℕ) (found : Option (List ℕ)) (rest behind : List ℕ) → RangesRead bytes n done address end before found rest
      → rest ≡ 0 ∷ behind
      → ListRead bytes n done address found behind
  list_end address end before found rest behind r e =
      let s = r.stands in
      let place : after n (done ++ r.ranges ∷ []) [] ≡ after n done r.ranges + 1 = omega (arith, bodies_size done r.ranges) in
      record {
        ranges = r.ranges;
        reached = onward s.reached (record { here = 0 ∷ []; rest = behind; stands = s.here ∙ e; may = inl (refl, refl) });
        lists = ap (λ (m : ℕ). drop m bytes) place ∙ sym (drop-drop 1 (after n done r.ranges) bytes) ∙ ap (drop 1) s.here ∙ front_rest rest (0 ∷ []) behind e;
        within = omega (arith, place, s.within, ap length e);
        is = r.is;
      }

  pub no_ranges : (address : ℕ) (rest : List ℕ) → StandsAt bytes (EntryKind n done []) rest → RangesRead bytes n done address 0 [] None rest
  no_ranges address rest s = record { ranges = []; stands = s; last = last_none; is = refl }

  -- an entry more, which has the address or not
  pub range_more : (address end : ℕ) (before : List ℕ) (found : Option (List ℕ)) (rest behind next : List ℕ) (lo hi : ℕ) (here : List ℕ)
      → (r : RangesRead bytes n done address end before found rest) → EntryRead bytes n done r.ranges lo hi here next
      → (new : Option (List ℕ)) → ((lo ≤ address) × (address < hi) × (new ≡ Some here)) ⊎ ((lo ≤ address → address < hi → ⊥) × (new ≡ found))
      → RangesRead bytes n done address hi here new next
  range_more address end before found rest behind next lo hi here r e new which =
      let one : Range = record { lo = lo; hi = hi; location = e.location } in
      record {
        ranges = r.ranges ++ one ∷ [];
        stands = e.stands;
        last = e.last;
        is =
            elim which [
              | inl inside ↦ inside.2 ∙ ap Some e.spells.spelled ∙ sym (ap (option_map expression) (found_last r.ranges one address e.before inside.0 inside.1))
              | inr outside ↦ outside.1 ∙ r.is ∙ sym (ap (option_map expression) (found_before r.ranges one address outside.0))
            ];
      }

pub at_offset : (bytes : List ℕ) (n : ℕ) (done : List (List Range)) (table rest : List ℕ) → AtLists bytes n done table rest → length done < n
    → StandsAt bytes (ListOffset n done) table
at_offset bytes n done table rest a more =
    let place : first_byte (ListOffset n done) ≡ 12 + 4 * length done = grind (arith, nat_tests) in
    record { reached = a.reached; here = ap (λ (m : ℕ). drop m bytes) place ∙ a.offset; within = omega (arith, place, a.before) }

pub offset_stands : (bytes : List ℕ) (n number k address : ℕ) (found : Option (List ℕ)) (table rest : List ℕ)
    (r : ListsRead bytes n number k address found table rest)
    → number < n → StandsAt bytes (ListOffset n r.done) table
offset_stands bytes n number k address found table rest r more = at_offset bytes n r.done table rest r.at (omega (arith, r.count))

pub only_offset : (total n : ℕ) (done : List (List Range)) (field : List ℕ) → length done < n → field ≡ to_le_bytes w32 (4 * n + length (bodies done))
    → (xs : List ℕ) (next : LocationListField) → MayBe total (ListOffset n done) xs next → xs ≡ field
only_offset total n done field more is xs next m =
    elim m [
      | inl offset ↦ offset.1 ∙ sym is
      | inr end ↦ absurd (omega (arith, end.0))
    ]

-- the bytes of a list come after its offset
pub list_start : (bytes : List ℕ) (n : ℕ) (done : List (List Range)) (field table rest left : List ℕ) → AtLists bytes n done table rest → length done < n
    → table ≡ field ++ left → field ≡ to_le_bytes w32 (4 * n + length (bodies done)) → StandsAt bytes (EntryKind n done []) rest
list_start bytes n done field table rest left a more e is =
    let s = at_offset bytes n done table rest a more in
    record {
      reached = onward s.reached (record { here = field; rest = left; stands = s.here ∙ e; may = inl (more, is, refl) });
      here = a.lists;
      within = a.within;
    }

location_of_more : (done : List (List Range)) (ranges : List Range) (k address : ℕ)
    → ((length done ≡ k) × (location_of (done ++ ranges ∷ []) k address ≡ location_in ranges address))
    ⊎ ((length done ≢ k) × (location_of (done ++ ranges ∷ []) k address ≡ location_of done k address))
location_of_more [] ranges zero address = inl (refl, refl)
location_of_more [] ranges (suc k) address = inr (λ e. omega arith, refl)
location_of_more (d ∷ done) ranges zero address = inr (λ e. omega arith, refl)
location_of_more (d ∷ done) ranges (suc k) address =
    elim (location_of_more done ranges k address) [
      | inl here ↦ inl (omega (arith, here.0), here.1)
      | inr other ↦ inr (λ e. other.0 (omega arith), other.1)
    ]

pub lists_more : (bytes : List ℕ) (n number k address : ℕ) (found : Option (List ℕ)) (field table rest left : List ℕ) (in_list : Option (List ℕ))
    (next : List ℕ)
    → (r : ListsRead bytes n number k address found table rest) → number < n → table ≡ field ++ left → length field ≡ 4
    → ListRead bytes n r.done address in_list next
    → (new : Option (List ℕ)) → ((number ≡ k) × (new ≡ in_list)) ⊎ ((number ≢ k) × (new ≡ found))
    → ListsRead bytes n (number + 1) k address new left next
lists_more bytes n number k address found field table rest left in_list next r more e four l new which =
    let done' : List (List Range) = r.done ++ l.ranges ∷ [] in
    let count : length done' ≡ length r.done + 1 = length-append r.done (l.ranges ∷ []) in
    let place : 12 + 4 * length done' ≡ (12 + 4 * length r.done) + length field = omega arith in
    record {
      done = done';
      at =
          record {
            reached = l.reached;
            offset = ap (λ (m : ℕ). drop m bytes) place ∙ sym (drop-drop (length field) (12 + 4 * length r.done) bytes) ∙ ap (drop (length field)) r.at.offset
                ∙ front_rest table field left e;
            lists = l.lists;
            count = omega (arith, r.count);
            before = omega (arith, place, r.at.before, ap length e, length-append field left);
            within = l.within;
          };
      count = omega (arith, r.count);
      is =
          elim (location_of_more r.done l.ranges k address) [
            | inl here ↦
                elim which [
                  | inl at_k ↦ at_k.1 ∙ l.is ∙ sym (ap (option_map expression) here.1)
                  | inr other ↦ absurd (other.0 (sym r.count ∙ here.0))
                ]
            | inr there ↦
                elim which [
                  | inl at_k ↦ absurd (there.0 (r.count ∙ at_k.0))
                  | inr other ↦ other.1 ∙ r.is ∙ sym (ap (option_map expression) there.1)
                ]
          ];
    }

pub no_lists : (bytes : List ℕ) (n k address : ℕ) (table rest : List ℕ) → AtLists bytes n [] table rest → ListsRead bytes n 0 k address None table rest
no_lists bytes n k address table rest a = record { done = []; at = a; count = refl; is = refl }

pub lists_end : (bytes : List ℕ) (n number k address : ℕ) (found : Option (List ℕ)) (table rest : List ℕ)
    → ListsRead bytes n number k address found table rest → n ≤ number
    → rest ≡ [] → AllRead bytes n k address found
lists_end bytes n number k address found table rest r end empty =
    let all : length r.done ≡ n = omega (arith, r.count, r.at.count) in
    record {
      lists = r.done;
      reached = onward r.at.reached (record {
        here = [];
        rest = drop (first_byte (ListOffset n r.done)) bytes;
        stands = refl;
        may = inr (
          all,
          omega (
            arith,
            r.at.within,
            ap length empty,
          ),
          refl,
          refl,
        );
      });
      all = all;
      is = r.is;
    }

pub lists_past : (bytes : List ℕ) (n number k address at : ℕ) (found : Option (List ℕ)) (table rest : List ℕ)
    → ListsRead bytes n number k address found table rest → n ≤ number
    → (rest ≡ [] → ⊥) → at + length rest ≡ length bytes → FaultAt bytes at
lists_past bytes n number k address at found table rest r end some is =
    let all : length r.done ≡ n = omega (arith, r.count, r.at.count) in
    let place : first_byte (ListOffset n r.done) ≡ after n r.done [] = last_place n r.done all in
    record {
      field = ListOffset n r.done;
      reached = r.at.reached;
      wrong = λ next right.
          elim right.may [
            | inl offset ↦ omega (arith, offset.0)
            | inr whole ↦ some (nothing rest (omega (arith, r.at.within, whole.1)))
          ];
      unfinished = λ done e. cc;
      is = omega (arith, place, r.at.within);
    }
  where
    last_place : (n : ℕ) (done : List (List Range)) → length done ≡ n → first_byte (ListOffset n done) ≡ after n done []
    last_place n done all = grind (arith, nat_tests)

    nothing : (xs : List ℕ) → length xs ≡ 0 → xs ≡ []
    nothing [] none = refl
    nothing (x ∷ xs) none = absurd (omega arith)

pub whole_slice : (m : ℕ) (bytes : List ℕ) → take (length bytes - m) (drop m bytes) ≡ drop m bytes
whole_slice m bytes = take_all (length bytes - m) (drop m bytes) (omega (arith, length-drop m bytes))

-- a list's offset, counted from the end
pub offset_is : (bytes : List ℕ) (n : ℕ) (done : List (List Range)) (table rest : List ℕ) → AtLists bytes n done table rest → (field : List ℕ)
    → field ≡ to_le_bytes w32 (length bytes - 12 - length rest) → field ≡ to_le_bytes w32 (4 * n + length (bodies done))
offset_is bytes n done table rest a field is =
    let same : length bytes - 12 - length rest ≡ 4 * n + length (bodies done) = omega (arith, a.within) in
    is ∙ ap (to_le_bytes w32) same

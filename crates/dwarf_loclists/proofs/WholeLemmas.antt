-- The bytes whose fields are all right are the section of the lists that were read.
-- What stands before a field is told by that field: the header, the offsets, the lists and the ranges so far, and a part of an entry.
use Rattle.std.specs.Prelude.{All}
use Rattle.std.specs.List.{flat_map}
use Rattle.std.specs.Int.{w16, w32, to_le_bytes}
use Rattle.std.proofs.Common.{◌≡◌, ℕ, ◌+◌, ◌-◌, ◌*◌, ◌^◌, ◌<◌, ◌≤◌, List, [], ◌∷◌, ◌++◌, length, drop, arith, ap, sym, subst, ◌∙◌, refl, length-append}
use Rattle.std.proofs.Common.{append_assoc, append-nil, length-drop, inl, inr}
use Rattle.std.proofs.lemmas.Bool.Decides.{nat_tests}
use Rattle.std.proofs.lemmas.List.{drop-drop}
use Rattle.std.proofs.lemmas.List.Concat.{flat_map-append}
use Rattle.std.proofs.lemmas.List.Prefix.{front_rest}
use Rattle.std.proofs.lemmas.List.Elements.{All-nil, All-push}
use Rattle.dwarf_base.specs.Leb.{uleb_of}
use Rattle.dwarf_loclists.specs.declared.range.Range.{Range}
use Rattle.dwarf_loclists.specs.Ranges.{Ascend, ArePlaces, Are64Bit, IsLocated, HasWords}
use Rattle.dwarf_loclists.specs.Spelling.{entry, expression, list_spelling, bodies, offsets_from, header, spelling}
use Rattle.dwarf_loclists.specs.Grammar.{IsSection}
use Rattle.dwarf_loclists.specs.Fault.{LocationListField, Reaches, begin, onward, IsRight, first_byte, after, UnitLength, Version, AddressSize}
use Rattle.dwarf_loclists.specs.Fault.{SegmentSelectorSize}
use Rattle.dwarf_loclists.specs.Fault.{OffsetEntryCount, ListOffset, EntryKind, StartOffset, EndOffset, ExpressionLength, Expression, Nothing}
use Rattle.dwarf_loclists.proofs.SpellingLemmas.{length-offsets_from}

-- the bytes begin with these
pub record Front (xs front : List ℕ) : Type 0 where
  pub is : xs ≡ front ++ drop (length front) xs

front_none : (xs : List ℕ) → Front xs []
front_none xs = record { is = refl }

front_more : (xs front here rest : List ℕ) → Front xs front → drop (length front) xs ≡ here ++ rest → Front xs (front ++ here)
front_more xs front here rest f e =
    let whole : xs ≡ (front ++ here) ++ rest = f.is ∙ ap (λ (ys : List ℕ). front ++ ys) e ∙ sym (append_assoc front here rest) in
    record { is = whole ∙ ap (λ (ys : List ℕ). (front ++ here) ++ ys) (sym (front_rest xs (front ++ here) rest whole)) }

front_same : (xs front other : List ℕ) → front ≡ other → Front xs front → Front xs other
front_same xs front other e f = subst (Front xs) e f

-- the header
pub record Headed (bytes : List ℕ) (n : ℕ) : Type 0 where
  pub size : length bytes < 4294967284
  pub some : 4 ≤ length bytes
  pub front : Front bytes (header (length bytes - 4) n)
  pub room : 12 + 4 * n ≤ length bytes

-- the lists that are done
pub record Done (bytes : List ℕ) (n : ℕ) (done : List (List Range)) : Type 0 where
  pub head : Headed bytes n
  pub table : Front (drop 12 bytes) (offsets_from (4 * n) done)
  pub ascend : All Ascend done
  pub places : All ArePlaces done
  pub wide : All Are64Bit done

-- the ranges of the next one, and so many bytes of an entry
pub record Ranged (bytes : List ℕ) (n : ℕ) (done : List (List Range)) (ranges : List Range) (partial : List ℕ) : Type 0 where
  pub before : Done bytes n done
  pub table : Front (drop 12 bytes) (offsets_from (4 * n) done ++ to_le_bytes w32 (4 * n + length (bodies done)))
  pub lists : Front (drop (12 + 4 * n) bytes) ((bodies done ++ flat_map entry ranges) ++ partial)
  pub ascend : Ascend ranges
  pub places : ArePlaces ranges
  pub wide : Are64Bit ranges

pub record Listed (bytes : List ℕ) (n : ℕ) (done : List (List Range)) : Type 0 where
  pub before : Done bytes n done
  pub lists : Front (drop (12 + 4 * n) bytes) (bodies done)

-- what stands before a field
abbrev pub Before : List ℕ → LocationListField → Type 0
Before bytes UnitLength = Unit {0}
Before bytes Version = (length bytes < 4294967284) × (4 ≤ length bytes) × Front bytes (to_le_bytes w32 (length bytes - 4))
Before bytes AddressSize = (length bytes < 4294967284) × (4 ≤ length bytes) × Front bytes (to_le_bytes w32 (length bytes - 4) ++ to_le_bytes w16 5)
Before bytes SegmentSelectorSize = (length bytes < 4294967284) × (4 ≤ length bytes) × Front bytes ((to_le_bytes w32 (length bytes - 4) ++ to_le_bytes w16 5)
    ++ 8 ∷ [])
Before bytes OffsetEntryCount =
    (length bytes < 4294967284) × (4 ≤ length bytes) × Front bytes (((to_le_bytes w32 (length bytes - 4) ++ to_le_bytes w16 5) ++ 8 ∷ []) ++ 0 ∷ [])
Before bytes (ListOffset n done) = Listed bytes n done
Before bytes (EntryKind n done ranges) = Ranged bytes n done ranges []
Before bytes (StartOffset n done ranges) = Ranged bytes n done ranges (4 ∷ [])
Before bytes (EndOffset n done ranges lo) = Ranged bytes n done ranges (4 ∷ uleb_of lo) × (lo < 2 ^ 64)
Before bytes (ExpressionLength n done ranges lo hi) = Ranged bytes n done ranges (4 ∷ uleb_of lo ++ uleb_of hi) × (lo < 2 ^ 64) × (hi < 2 ^ 64)
Before bytes (Expression n done ranges lo hi len) = Ranged bytes n done ranges ((4 ∷ uleb_of lo ++ uleb_of hi) ++ uleb_of len) × (lo < 2 ^ 64) × (hi < 2 ^ 64)
Before bytes (Nothing done) = IsSection bytes done

-- a part of an entry more
grown : (bytes : List ℕ) (n : ℕ) (done : List (List Range)) (ranges : List Range) (partial here rest : List ℕ) (at : ℕ) → Ranged bytes n done ranges partial
    → at ≡ after n done ranges + length partial → drop at bytes ≡ here ++ rest → Ranged bytes n done ranges (partial ++ here)
grown bytes n done ranges partial here rest at r place stands =
    let front : List ℕ = (bodies done ++ flat_map entry ranges) ++ partial in
    let size : (12 + 4 * n) + length front ≡ at =
    omega (arith, place, length-append (bodies done ++ flat_map entry ranges) partial, length-append (bodies done) (flat_map entry ranges)) in
    let here_is : drop (length front) (drop (12 + 4 * n) bytes) ≡ here ++ rest = drop-drop (length front) (12 + 4 * n) bytes
    ∙ ap (λ (m : ℕ). drop m bytes) size ∙ stands in
    record {
      before = r.before;
      table = r.table;
      lists = front_same _ _ _ (append_assoc (bodies done ++ flat_map entry ranges) partial here)
          (front_more (drop (12 + 4 * n) bytes) front here rest r.lists here_is);
      ascend = r.ascend;
      places = r.places;
      wide = r.wide;
    }

offsets_push : (first : ℕ) (done : List (List Range)) (ranges : List Range)
    → offsets_from first (done ++ ranges ∷ []) ≡ offsets_from first done ++ to_le_bytes w32 (first + length (bodies done))
offsets_push first [] ranges =
    let same : first + 0 ≡ first = omega arith in rw same (append-nil (to_le_bytes w32 first))
offsets_push first (d ∷ done) ranges =
    let size : (first + length (list_spelling d)) + length (bodies done) ≡ first + length (bodies (d ∷ done))
    = omega (arith, length-append (list_spelling d) (bodies done)) in
    ap (λ (xs : List ℕ). to_le_bytes w32 first ++ xs)
    (offsets_push (first + length (list_spelling d)) done ranges
    ∙ ap (λ (m : ℕ). offsets_from (first + length (list_spelling d)) done ++ to_le_bytes w32 m) size)
    ∙ sym (append_assoc (to_le_bytes w32 first) (offsets_from (first + length (list_spelling d)) done) (to_le_bytes w32 (first + length (bodies (d ∷ done)))))

bodies_push : (done : List (List Range)) (ranges : List Range) → ((bodies done ++ flat_map entry ranges) ++ []) ++ 0 ∷ [] ≡ bodies (done ++ ranges ∷ [])
bodies_push done ranges =
    ap (λ (xs : List ℕ). xs ++ 0 ∷ []) (append-nil (bodies done ++ flat_map entry ranges))
    ∙ append_assoc (bodies done) (flat_map entry ranges) (0 ∷ [])
    ∙ ap (λ (xs : List ℕ). bodies done ++ xs) (sym (append-nil (list_spelling ranges)))
    ∙ sym (flat_map-append list_spelling done (ranges ∷ []))

-- the list that is done
list_done : (bytes : List ℕ) (n : ℕ) (done : List (List Range)) (ranges : List Range) (here rest : List ℕ) → Ranged bytes n done ranges []
    → drop (after n done ranges) bytes ≡ here ++ rest → here ≡ 0 ∷ [] → Listed bytes n (done ++ ranges ∷ [])
list_done bytes n done ranges here rest r stands is =
    let one = grown bytes n done ranges [] (0 ∷ []) rest (after n done ranges) r (omega arith) (stands ∙ ap (λ (xs : List ℕ). xs ++ rest) is) in
    let whole : (bodies done ++ flat_map entry ranges) ++ 0 ∷ [] ≡ bodies (done ++ ranges ∷ []) =
    ap (λ (xs : List ℕ). xs ++ 0 ∷ []) (sym (append-nil (bodies done ++ flat_map entry ranges))) ∙ bodies_push done ranges in
    record {
      before =
          record {
            head = r.before.head;
            table = front_same _ _ _ (sym (offsets_push (4 * n) done ranges)) r.table;
            ascend = All-push Ascend done ranges r.before.ascend r.ascend;
            places = All-push ArePlaces done ranges r.before.places r.places;
            wide = All-push Are64Bit done ranges r.before.wide r.wide;
          };
      lists = front_same _ _ _ whole one.lists;
    }

-- the range that is done
range_done : (bytes : List ℕ) (n : ℕ) (done : List (List Range)) (ranges : List Range) (r : Range) (len : ℕ) (here rest : List ℕ) (at : ℕ)
    → Ranged bytes n done ranges ((4 ∷ uleb_of r.lo ++ uleb_of r.hi) ++ uleb_of len) → at
    ≡ after n done ranges + length ((4 ∷ uleb_of r.lo ++ uleb_of r.hi) ++ uleb_of len)
    → drop at bytes ≡ here ++ rest → here ≡ expression r.location → length here ≡ len → Ascend (ranges ++ r ∷ []) → IsLocated r.location
    → (r.lo < 2 ^ 64) × (r.hi < 2 ^ 64) × HasWords r.location → Ranged bytes n done (ranges ++ r ∷ []) []
range_done bytes n done ranges r len here rest at g place stands is size ascend located wide =
    let one = grown bytes n done ranges ((4 ∷ uleb_of r.lo ++ uleb_of r.hi) ++ uleb_of len) here rest at g place stands in
    let len_is : len ≡ length (expression r.location) = sym size ∙ ap length is in
    let spelled : ((4 ∷ uleb_of r.lo ++ uleb_of r.hi) ++ uleb_of len) ++ here ≡ entry r =
    ap (λ (m : ℕ). ((4 ∷ uleb_of r.lo ++ uleb_of r.hi) ++ uleb_of m) ++ here) len_is
    ∙ ap (λ (xs : List ℕ). ((4 ∷ uleb_of r.lo ++ uleb_of r.hi) ++ uleb_of (length (expression r.location))) ++ xs) is in
    let whole : (bodies done ++ flat_map entry ranges) ++ (((4 ∷ uleb_of r.lo ++ uleb_of r.hi) ++ uleb_of len) ++ here)
    ≡ (bodies done ++ flat_map entry (ranges ++ r ∷ [])) ++ [] =
    ap (λ (xs : List ℕ). (bodies done ++ flat_map entry ranges) ++ xs) spelled
    ∙ append_assoc (bodies done) (flat_map entry ranges) (entry r)
    ∙ ap (λ (xs : List ℕ). bodies done ++ (flat_map entry ranges ++ xs)) (sym (append-nil (entry r)))
    ∙ ap (λ (xs : List ℕ). bodies done ++ xs) (sym (flat_map-append entry ranges (r ∷ [])))
    ∙ sym (append-nil (bodies done ++ flat_map entry (ranges ++ r ∷ []))) in
    record {
      before = g.before;
      table = g.table;
      lists = front_same _ _ _ whole one.lists;
      ascend = ascend;
      places = All-push (λ (s : Range). IsLocated s.location) ranges r g.places located;
      wide = All-push (λ (s : Range). (s.lo < 2 ^ 64) × (s.hi < 2 ^ 64) × HasWords s.location) ranges r g.wide wide;
    }

-- the section that is done
section_done : (bytes : List ℕ) (n : ℕ) (done : List (List Range)) → Listed bytes n done → length done ≡ n → length bytes ≡ after n done []
    → IsSection bytes done
unfolding spelling
section_done bytes n done l all total =
    let h = l.before.head in
    let table : List ℕ = offsets_from (4 * n) done in
    let size : length table ≡ 4 * length done = length-offsets_from (4 * n) done in
    let past : drop (length (bodies done)) (drop (12 + 4 * n) bytes) ≡ [] =
    nothing _ (omega (arith, length-drop (length (bodies done)) (drop (12 + 4 * n) bytes), length-drop (12 + 4 * n) bytes, total)) in
    let lists : drop (12 + 4 * n) bytes ≡ bodies done = l.lists.is ∙ ap (λ (xs : List ℕ). bodies done ++ xs) past ∙ append-nil (bodies done) in
    let place : 12 + length table ≡ 12 + 4 * n = omega arith in
    let after_table : drop (length table) (drop 12 bytes) ≡ bodies done = drop-drop (length table) 12 bytes ∙ ap (λ (m : ℕ). drop m bytes) place ∙ lists in
    let rest : drop 12 bytes ≡ table ++ bodies done = l.before.table.is ∙ ap (λ (xs : List ℕ). table ++ xs) after_table in
    let whole : bytes ≡ header (length bytes - 4) n ++ (table ++ bodies done) = h.front.is ∙ ap (λ (xs : List ℕ). header (length bytes - 4) n ++ xs) rest in
    let length_is : length bytes - 4 ≡ 8 + 4 * length done + length (bodies done) = omega (arith, total) in
    record {
      spelled =
          whole
          ∙ ap (λ (m : ℕ). header m n ++ (offsets_from (4 * n) done ++ bodies done)) length_is
          ∙ ap (λ (m : ℕ). header (8 + 4 * length done + length (bodies done)) m ++ (offsets_from (4 * m) done ++ bodies done)) (sym all)
          ∙ sym (append_assoc (header (8 + 4 * length done + length (bodies done)) (length done)) (offsets_from (4 * length done) done) (bodies done));
      size = omega (arith, h.size);
      ascend = l.before.ascend;
      places = l.before.places;
      wide = l.before.wide;
    }
  where
    nothing : (xs : List ℕ) → length xs ≡ 0 → xs ≡ []
    nothing [] none = refl
    nothing (x ∷ xs) none = absurd (omega arith)

-- the first list, or the next
list_begun : (bytes : List ℕ) (n : ℕ) (done : List (List Range)) (here rest : List ℕ) → Listed bytes n done → length done < n
    → drop (first_byte (ListOffset n done)) bytes ≡ here ++ rest → here ≡ to_le_bytes w32 (4 * n + length (bodies done)) → Ranged bytes n done [] []
list_begun bytes n done here rest l more stands is =
    let place : first_byte (ListOffset n done) ≡ 12 + 4 * length done = grind (arith, nat_tests) in
    let size : 12 + length (offsets_from (4 * n) done) ≡ first_byte (ListOffset n done) = omega (arith, place, length-offsets_from (4 * n) done) in
    let here_is : drop (length (offsets_from (4 * n) done)) (drop 12 bytes) ≡ to_le_bytes w32 (4 * n + length (bodies done)) ++ rest =
    drop-drop (length (offsets_from (4 * n) done)) 12 bytes ∙ ap (λ (m : ℕ). drop m bytes) size ∙ stands ∙ ap (λ (xs : List ℕ). xs ++ rest) is in
    record {
      before = l.before;
      table = front_more (drop 12 bytes) (offsets_from (4 * n) done) (to_le_bytes w32 (4 * n + length (bodies done))) rest l.before.table here_is;
      lists = front_same _ _ _ (sym (append-nil (bodies done)) ∙ sym (append-nil (bodies done ++ []))) l.lists;
      ascend = tt;
      places = All-nil (λ (s : Range). IsLocated s.location);
      wide = All-nil (λ (s : Range). (s.lo < 2 ^ 64) × (s.hi < 2 ^ 64) × HasWords s.location);
    }

moved : (bytes here rest is : List ℕ) (at : ℕ) → drop at bytes ≡ here ++ rest → here ≡ is → drop at bytes ≡ is ++ rest
moved bytes here rest is at stands e = stands ∙ ap (λ (xs : List ℕ). xs ++ rest) e

one_more : (bytes : List ℕ) (f next : LocationListField) → Before bytes f → IsRight bytes f next → Before bytes next
one_more bytes UnitLength next b r =
    let here : r.here ≡ to_le_bytes w32 (length bytes - 4) = r.may.3 ∙ ap (to_le_bytes w32) (omega (arith, r.may.2)) in
    subst (Before bytes) (sym r.may.4) (
      omega (arith, r.may.1, r.may.2),
      omega (arith, r.may.2),
      front_more bytes [] (to_le_bytes w32 (length bytes - 4)) r.rest (front_none bytes)
          (moved bytes r.here r.rest _ 0 r.stands here),
    )
one_more bytes Version next b r =
    subst (Before bytes) (sym r.may.1) (
      b.0,
      b.1,
      front_more bytes (to_le_bytes w32 (length bytes - 4)) (to_le_bytes w16 5) r.rest b.2
          (moved bytes r.here r.rest (to_le_bytes w16 5) 4 r.stands r.may.0),
    )
one_more bytes AddressSize next b r =
    subst (Before bytes) (sym r.may.1) (
      b.0,
      b.1,
      front_more bytes (to_le_bytes w32 (length bytes - 4) ++ to_le_bytes w16 5) (8 ∷ []) r.rest b.2
          (moved bytes r.here r.rest (8 ∷ []) 6 r.stands r.may.0),
    )
one_more bytes SegmentSelectorSize next b r =
    subst (Before bytes) (sym r.may.1) (
      b.0,
      b.1,
      front_more bytes ((to_le_bytes w32 (length bytes - 4) ++ to_le_bytes w16 5) ++ 8 ∷ []) (0 ∷ []) r.rest b.2
          (moved bytes r.here r.rest (0 ∷ []) 7 r.stands r.may.0),
    )
one_more bytes OffsetEntryCount next b r =
    subst (Before bytes) (sym r.may.4)
    (record {
      before =
          record {
            head =
                record {
                  size = b.0;
                  some = b.1;
                  front =
                      front_more bytes (((to_le_bytes w32 (length bytes - 4) ++ to_le_bytes w16 5) ++ 8 ∷ []) ++ 0 ∷ []) (to_le_bytes w32 r.may.0) r.rest b.2
                      (moved bytes r.here r.rest (to_le_bytes w32 r.may.0) 8 r.stands r.may.3);
                  room = r.may.2;
                };
            table = front_none (drop 12 bytes);
            ascend = All-nil Ascend;
            places = All-nil ArePlaces;
            wide = All-nil Are64Bit;
          };
      lists = front_none (drop (12 + 4 * r.may.0) bytes);
    })
one_more bytes (ListOffset n done) next b r =
    elim r.may [
      | inl offset ↦ subst (Before bytes) (sym offset.2) (list_begun bytes n done r.here r.rest b offset.0 r.stands offset.1)
      | inr end ↦ subst (Before bytes) (sym end.3) (section_done bytes n done b end.0 end.1)
    ]
one_more bytes (EntryKind n done ranges) next b r =
    elim r.may [
      | inl end ↦ subst (Before bytes) (sym end.1) (list_done bytes n done ranges r.here r.rest b r.stands end.0)
      | inr pair ↦
          subst (Before bytes) (sym pair.1)
          (grown bytes n done ranges [] (4 ∷ []) r.rest (after n done ranges) b (omega arith)
          (moved bytes r.here r.rest (4 ∷ []) (after n done ranges) r.stands pair.0))
    ]
one_more bytes (StartOffset n done ranges) next b r =
    subst (Before bytes) (sym r.may.4) (
      grown bytes n done ranges (4 ∷ []) (uleb_of r.may.0) r.rest (after n done ranges + 1) b refl
          (moved bytes r.here r.rest (uleb_of r.may.0) (after n done ranges + 1) r.stands r.may.3),
      r.may.1,
    )
one_more bytes (EndOffset n done ranges lo) next b r =
    let at : ℕ = first_byte (EndOffset n done ranges lo) in
    subst (Before bytes) (sym r.may.4) (
      grown bytes n done ranges (4 ∷ uleb_of lo) (uleb_of r.may.0) r.rest at b.0 (omega arith)
          (moved bytes r.here r.rest (uleb_of r.may.0) at r.stands r.may.3),
      b.1,
      r.may.1,
    )
one_more bytes (ExpressionLength n done ranges lo hi) next b r =
    let at : ℕ = first_byte (ExpressionLength n done ranges lo hi) in
    subst (Before bytes) (sym r.may.3) (
      grown bytes n done ranges (4 ∷ uleb_of lo ++ uleb_of hi) (uleb_of r.may.0) r.rest at b.0 (omega (arith, length-append (uleb_of lo) (uleb_of hi)))
          (moved bytes r.here r.rest (uleb_of r.may.0) at r.stands r.may.2),
      b.1,
      b.2,
    )
one_more bytes (Expression n done ranges lo hi len) next b r =
    let one : Range = record { lo = lo; hi = hi; location = r.may.0 } in
    let at : ℕ = first_byte (Expression n done ranges lo hi len) in
    subst (Before bytes) (sym r.may.4)
    (range_done bytes n done ranges one len r.here r.rest at b.0
    (omega (arith, length-append (4 ∷ uleb_of lo ++ uleb_of hi) (uleb_of len), length-append (uleb_of lo) (uleb_of hi)))
    r.stands r.may.1.spelled r.may.2 r.may.3 r.may.1.located (b.1, b.2, r.may.1.wide))
one_more bytes (Nothing done) next b r = absurd r.may

pub what_stands : (bytes : List ℕ) (f : LocationListField) → Reaches bytes f → Before bytes f
what_stands bytes f begin = tt
what_stands bytes f (onward {field} {next} reached right) = one_more bytes field next (what_stands bytes field reached) right

pub all_right : (bytes : List ℕ) (lists : List (List Range)) → Reaches bytes (Nothing lists) → IsSection bytes lists
all_right bytes lists reached = what_stands bytes (Nothing lists) reached

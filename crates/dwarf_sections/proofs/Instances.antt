-- The instances of functions, one after the other, and their range lists.
use Rattle.std.proofs.Common.{◌≡◌, ℕ, suc, ◌+◌, ◌<◌, ◌≤◌, ◌^◌, List, [], ◌∷◌, ◌++◌, map, length, get_or, take, All, Option, refl, sym, ap, ◌∙◌, subst}
use Rattle.std.proofs.Common.{length-append, inl, inr, arith}
use Rattle.std.proofs.lemmas.List.{take_more, length-map}
use Rattle.std.proofs.lemmas.List.Elements.{All-nil, All-cons, All-append, All-push, All-head, All-tail, All-map}
use Rattle.frame_table.specs.emit_code.Laid.{StandFrom}
use Rattle.read_metadata.specs.Maps.{Maps}
use Rattle.dwarf_base.specs.Limits.{SECTION_LIMIT}
use Rattle.dwarf_info.specs.Inlined.{inlined_spelling}
use Rattle.dwarf_info.specs.declared.inlined.InlinedUnit.{InlinedUnit}
use Rattle.dwarf_line.specs.Spelling.{spelling as rows_spelling}
use Rattle.dwarf_line.specs.declared.table.LineTable.{LineTable}
use Rattle.dwarf_unit.specs.dwarf_line_table.declared.source_and_code.SourceAndCode.{SourceAndCode}
use Rattle.dwarf_unit.specs.dwarf_line_table.Program.{function_end, table_with, scope_number}
use Rattle.dwarf_rnglists.specs.declared.range.AddressRange.{AddressRange}
use Rattle.dwarf_rnglists.specs.Ranges.{Ascend}
use Rattle.dwarf_rnglists.specs.Grammar.{IsSection}
use Rattle.dwarf_rnglists.specs.Spelling.{spelling}
use Rattle.dwarf_rnglists.proofs.SpellingLemmas.{length-spelling}
use Rattle.dwarf_unit.specs.inline_instances.Instances.{scope_of_call}
use Rattle.dwarf_unit.specs.inline_subroutines.declared.subroutine.InlinedSubroutine.{InlinedSubroutine}
use Rattle.dwarf_unit.specs.inline_subroutines.Subroutines.{AreSubroutines, AreOrdered}
use Rattle.dwarf_unit.proofs.inline_subroutines.Made.{ascend_of_subroutines}
use Rattle.dwarf_unit.proofs.inline_subroutines.Ordered.{subroutines_ordered}
use Rattle.dwarf_unit.specs.Inlined.{call_scopes, inlined_unit_of}
use Rattle.dwarf_sections.specs.Inlined.{HaveInstances, range_lists, AreInlinedSections, IsLargeInlined}
use Rattle.dwarf_sections.proofs.Described.{zip_push}

-- the ranges of a function's instances ascend
abbrev pub AllAscend : List InlinedSubroutine → Type 0
AllAscend is = All (λ i. Ascend i.ranges) is

-- the instances of the functions so far
pub record InstancesSoFar (meta : Maps) (functions : List SourceAndCode) (n : ℕ) (all : List (List InlinedSubroutine)) : Type 0 where
  pub have : HaveInstances meta (take n functions) all
  pub ascend : All AllAscend all

pub instances_begin : (meta : Maps) (functions : List SourceAndCode) → InstancesSoFar meta functions 0 []
instances_begin meta functions = record { have = tt; ascend = All-nil AllAscend }

pub instances_more : (meta : Maps) (functions : List SourceAndCode) (n : ℕ) (all next : List (List InlinedSubroutine)) (f : SourceAndCode)
    (is : List InlinedSubroutine) → n < length functions → f ≡ get_or functions n f → InstancesSoFar meta functions n all → AreSubroutines meta f is
    → StandFrom f.code.now.base f.code.now.entries (function_end f) → next ≡ all ++ is ∷ [] → InstancesSoFar meta functions (n + 1) next
instances_more meta functions n all next f is inside at so are stand pushed =
    let longer : take n functions ++ f ∷ [] ≡ take (n + 1) functions =
    ap (λ (x : SourceAndCode). take n functions ++ x ∷ []) at ∙ sym (take_more functions n f inside) in
    subst (InstancesSoFar meta functions (n + 1)) (sym pushed)
    (record {
      have =
          subst (λ (fs : List SourceAndCode). HaveInstances meta fs (all ++ is ∷ [])) longer
          (zip_push (AreSubroutines meta) (take n functions) all f is so.have are);
      ascend = All-push AllAscend all is so.ascend (ascend_of_subroutines meta f is are stand);
    })

-- ---- what is asked where the instances are written

pub lists_ascend : (all : List (List InlinedSubroutine)) → All AllAscend all → All Ascend (range_lists all)
lists_ascend [] are = All-nil Ascend
lists_ascend (is ∷ all) are =
    All-append Ascend (map (λ i. i.ranges) is) (range_lists all) (All-map Ascend (λ i. i.ranges) is (All-head AllAscend is all are))
    (lists_ascend all (All-tail AllAscend is all are))

pub as_many_lists : (meta : Maps) (all : List (List InlinedSubroutine)) → length (call_scopes meta all) ≡ length (range_lists all)
as_many_lists meta [] = refl
as_many_lists meta (is ∷ all) =
    let scopes = map (λ (i : InlinedSubroutine). scope_of_call meta i.call) is in
    let lists = map (λ (i : InlinedSubroutine). i.ranges) is in
    let own : length scopes ≡ length lists =
    length-map is (λ (i : InlinedSubroutine). scope_of_call meta i.call) ∙ sym (length-map is (λ (i : InlinedSubroutine). i.ranges)) in
    let rest = as_many_lists meta all in
    length-append scopes (call_scopes meta all) ∙ (λ n. own n + rest n) ∙ sym (length-append lists (range_lists all))

pub as_many_functions : (meta : Maps) (fs : List SourceAndCode) (all : List (List InlinedSubroutine)) → HaveInstances meta fs all → length all ≡ length fs
as_many_functions meta [] [] have = refl
as_many_functions meta [] (is ∷ all) have = absurd have
as_many_functions meta (f ∷ fs) [] have = absurd have
as_many_functions meta (f ∷ fs) (is ∷ all) have = ap suc (as_many_functions meta fs all have.1)

pub all_ordered : (meta : Maps) (fs : List SourceAndCode) (all : List (List InlinedSubroutine)) → HaveInstances meta fs all → All AreOrdered all
all_ordered meta [] [] have = All-nil AreOrdered
all_ordered meta [] (is ∷ all) have = absurd have
all_ordered meta (f ∷ fs) [] have = absurd have
all_ordered meta (f ∷ fs) (is ∷ all) have =
    All-cons AreOrdered is all (subroutines_ordered meta f is have.0) (all_ordered meta fs all have.1)

-- the scopes of calls are few, if the section of the range lists is small
pub few_scopes : (meta : Maps) (all : List (List InlinedSubroutine)) (lists : List (List AddressRange)) → lists ≡ range_lists all
    → length (spelling lists) < 2 ^ 31 → length (call_scopes meta all) < 2 ^ 31
few_scopes meta all lists same small =
    let many = as_many_lists meta all in
    omega (arith, many, ap (λ (ls : List (List AddressRange)). length ls) same, length-spelling lists, small)

-- ---- what is written of them

module _ (meta : Maps) (text_len : ℕ) (fs : List SourceAndCode) (all : List (List InlinedSubroutine)) (have : HaveInstances meta fs all) where
  pub large_ranges : (lists : List (List AddressRange)) → lists ≡ range_lists all → SECTION_LIMIT ≤ length (spelling lists) → IsLargeInlined meta text_len fs
  large_ranges lists same large = record {
    instances = all;
    have = have;
    large = inr (inr (subst (λ (ls : List (List AddressRange)). SECTION_LIMIT ≤ length (spelling ls)) same large));
  }

  module _ (scopes : List (Option ℕ)) (table : LineTable) (scopes_are : scopes ≡ call_scopes meta all) (table_is : table ≡ table_with meta fs scopes) where
    rows_same : rows_spelling table ≡ rows_spelling (table_with meta fs (call_scopes meta all))
    rows_same = ap rows_spelling (table_is ∙ ap (λ (ss : List (Option ℕ)). table_with meta fs ss) scopes_are)

    pub large_rows : SECTION_LIMIT ≤ length (rows_spelling table) → IsLargeInlined meta text_len fs
    large_rows large = record {
      instances = all;
      have = have;
      large = inr (inl (subst (λ (bytes : List ℕ). SECTION_LIMIT ≤ length bytes) rows_same large));
    }

    pub numbers_are : (numbers : List ℕ) → numbers ≡ map (scope_number meta fs scopes) scopes
        → numbers ≡ map (scope_number meta fs (call_scopes meta all)) (call_scopes meta all)
    numbers_are numbers are = are ∙ ap (λ (ss : List (Option ℕ)). map (scope_number meta fs ss) ss) scopes_are

    module _ (unit : InlinedUnit) (unit_is : unit ≡ inlined_unit_of meta text_len fs all) where
      pub large_info : SECTION_LIMIT ≤ length (inlined_spelling unit) → IsLargeInlined meta text_len fs
      large_info large = record {
        instances = all;
        have = have;
        large = inl (subst (λ (u : InlinedUnit). SECTION_LIMIT ≤ length (inlined_spelling u)) unit_is large);
      }

      pub written_sections : (lists : List (List AddressRange)) (info rows ranges : List ℕ) → lists ≡ range_lists all → info ≡ inlined_spelling unit
          → rows ≡ rows_spelling table → IsSection ranges lists → AreInlinedSections meta text_len fs info rows ranges
      written_sections lists info rows ranges lists_are info_is rows_are section = record {
        instances = all;
        have = have;
        info_is = info_is ∙ ap inlined_spelling unit_is;
        rows_are = rows_are ∙ rows_same;
        section = subst (IsSection ranges) lists_are section;
      }

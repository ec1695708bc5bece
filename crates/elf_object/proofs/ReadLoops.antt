-- What the loops of the reader keep, and what they find.
use Rattle.std.specs.Prelude.{Option, Some, None, MatchOption}
use Rattle.std.proofs.Common.{◌≡◌, ℕ, zero, suc, ◌+◌, ◌-◌, ◌*◌, take, drop, length, get_or, ◌≤◌, ◌<◌, List, ◌∷◌, [], ◌++◌, arith, ap, sym, ◌∙◌, refl, subst, inl, inr}
use Rattle.std.proofs.lemmas.Bool.{cases_lt}
use Rattle.std.proofs.lemmas.List.{drop_more, drop_all}
use Rattle.elf_object.specs.declared.object.Section.{Section}
use Rattle.elf_object.specs.FirstFault.{table_in, count_in, offset_in, size_in, file_fault, null_fault, header_after, names_in, names_end, sections_end, name_end}
use Rattle.elf_object.specs.FirstFault.{bytes_end, section_fault, names_fault, fault_after, last_fault_after, AreRight, IsRight, FirstFault, InSection, InNames}
use Rattle.elf_object.specs.steps.Told.{section_told, sections_told}
use Rattle.elf_object.proofs.FaultLemmas.{section_right}
use Rattle.elf_object.proofs.ToldLemmas.{before_zero, before_suc}

pub header_is : (bytes : List ℕ) (table header index : ℕ) → table ≡ table_in bytes → header ≡ table + 64 * (index + 1)
    → header ≡ header_after bytes index
header_is bytes table header index t h = omega (arith, t, h)

pub fault_is : (bytes names : List ℕ) (table header name_at at index : ℕ) → names ≡ names_in bytes → table ≡ table_in bytes
    → header ≡ header_after bytes index → name_at ≡ names_end bytes index → at ≡ sections_end bytes index
    → section_fault names table header name_at at bytes ≡ fault_after bytes index
fault_is bytes names table header name_at at index n t h m a =
    ap (λ x. section_fault x table header name_at at bytes) n ∙ ap (λ x. section_fault (names_in bytes) x header name_at at bytes) t
    ∙ ap (λ x. section_fault (names_in bytes) (table_in bytes) x name_at at bytes) h
    ∙ ap (λ x. section_fault (names_in bytes) (table_in bytes) (header_after bytes index) x at bytes) m
    ∙ ap (λ x. section_fault (names_in bytes) (table_in bytes) (header_after bytes index) (names_end bytes index) x bytes) a

pub last_fault_is : (bytes : List ℕ) (table header name_at at index : ℕ) → table ≡ table_in bytes
    → header ≡ header_after bytes index → name_at ≡ names_end bytes index → at ≡ sections_end bytes index
    → names_fault table header name_at at bytes ≡ last_fault_after bytes index
last_fault_is bytes table header name_at at index t h m a =
    ap (λ x. names_fault x header name_at at bytes) t
    ∙ ap (λ x. names_fault (table_in bytes) x name_at at bytes) h
    ∙ ap (λ x. names_fault (table_in bytes) (header_after bytes index) x at bytes) m
    ∙ ap (λ x. names_fault (table_in bytes) (header_after bytes index) (names_end bytes index) x bytes) a

-- one more section is right
pub rights_more : (bytes : List ℕ) (index : ℕ) → ((k : ℕ) → k < index → fault_after bytes k ≡ None) → fault_after bytes index ≡ None
    → (k : ℕ) → k < index + 1 → fault_after bytes k ≡ None
rights_more bytes index rights one k lt =
    elim (cases_lt k index) [
      | inl below ↦ rights k below
      | inr above ↦ (let same : index ≡ k = omega (arith, lt, above) in subst (λ n. fault_after bytes n ≡ None) same one)
    ]

pub name_end_is : (bytes names : List ℕ) (header index : ℕ) → names ≡ names_in bytes → header ≡ header_after bytes index
    → name_end names header bytes ≡ names_end bytes (index + 1)
name_end_is bytes names header index n h =
    ap (λ x. name_end x header bytes) n ∙ ap (λ x. name_end (names_in bytes) x bytes) h ∙ ap (names_end bytes) (plus index)
  where
    plus : (n : ℕ) → suc n ≡ n + 1
    plus n = omega arith

pub bytes_end_is : (bytes : List ℕ) (header index : ℕ) → header ≡ header_after bytes index
    → bytes_end header bytes ≡ sections_end bytes (index + 1)
bytes_end_is bytes header index h = ap (λ x. bytes_end x bytes) h ∙ ap (sections_end bytes) (plus index)
  where
    plus : (n : ℕ) → suc n ≡ n + 1
    plus n = omega arith

pub told_one : (bytes names : List ℕ) (header index : ℕ) (before after : List Section) (s : Section) → names ≡ names_in bytes
    → header ≡ header_after bytes index → s ≡ section_told names header bytes → before ≡ sections_told bytes index → after ≡ before ++ s ∷ []
    → after ≡ sections_told bytes (index + 1)
told_one bytes names header index before after s n h is so_far e =
    e ∙ ap (λ ss. ss ++ s ∷ []) so_far ∙ ap (λ x. sections_told bytes index ++ x ∷ []) is
    ∙ ap (λ x. sections_told bytes index ++ section_told x header bytes ∷ []) n
    ∙ ap (λ x. sections_told bytes index ++ section_told (names_in bytes) x bytes ∷ []) h ∙ ap (sections_told bytes) (plus index)
  where
    plus : (n : ℕ) → suc n ≡ n + 1
    plus n = omega arith

pub names_are : (bytes names : List ℕ) (table count header : ℕ) → table ≡ table_in bytes → count ≡ count_in bytes
    → header ≡ table + 64 * (count - 1) → names ≡ take (size_in header bytes) (drop (offset_in header bytes) bytes) → names ≡ names_in bytes
names_are bytes names table count header t n h is =
    is
    ∙ ap (λ k. take (size_in k bytes) (drop (offset_in k bytes) bytes))
    (h ∙ ap (λ x. x + 64 * (count - 1)) t ∙ ap (λ x. table_in bytes + 64 * (x - 1)) n)

-- ---- what is found

-- what is known before the section after an index is judged
pub record Judged (bytes names : List ℕ) (table header name_at at index : ℕ) : Type 0 where
  pub file : file_fault bytes ≡ None
  pub null : null_fault bytes ≡ None
  pub same_names : names ≡ names_in bytes
  pub same_table : table ≡ table_in bytes
  pub same_header : header ≡ table + 64 * (index + 1)
  pub same_name_at : name_at ≡ names_end bytes index
  pub same_at : at ≡ sections_end bytes index
  pub sections : (k : ℕ) → k < index → fault_after bytes k ≡ None

pub are_right : (bytes names : List ℕ) (table header name_at at index : ℕ) → Judged bytes names table header name_at at index → AreRight bytes index
are_right bytes names table header name_at at index is = record { file = is.file; null = is.null; sections = is.sections }

pub judged_as : (bytes names : List ℕ) (table header name_at at index : ℕ) → Judged bytes names table header name_at at index
    → section_fault names table header name_at at bytes ≡ fault_after bytes index
judged_as bytes names table header name_at at index is =
    fault_is bytes names table header name_at at index is.same_names is.same_table (header_is bytes table header index is.same_table is.same_header) is.same_name_at is.same_at

pub in_section : (bytes names : List ℕ) (table header name_at at index wrong : ℕ) → Judged bytes names table header name_at at index
    → index + 2 < count_in bytes → Some wrong ≡ section_fault names table header name_at at bytes → FirstFault bytes wrong
in_section bytes names table header name_at at index wrong is lt e =
    InSection index (are_right bytes names table header name_at at index is) lt
    (sym (judged_as bytes names table header name_at at index is) ∙ sym e)

pub no_fault : (bytes names : List ℕ) (table header name_at at index : ℕ) → Judged bytes names table header name_at at index
    → None ≡ section_fault names table header name_at at bytes → fault_after bytes index ≡ None
no_fault bytes names table header name_at at index is e = sym (judged_as bytes names table header name_at at index is) ∙ sym e

pub ends_within : (bytes names : List ℕ) (table header name_at at : ℕ) → None ≡ section_fault names table header name_at at bytes
    → bytes_end header bytes ≤ table
ends_within bytes names table header name_at at e = (section_right names table header name_at at bytes (sym e)).within

last_judged : (bytes names : List ℕ) (table header name_at at index : ℕ) → Judged bytes names table header name_at at index
    → index ≡ count_in bytes - 2 → names_fault table header name_at at bytes ≡ last_fault_after bytes (count_in bytes - 2)
last_judged bytes names table header name_at at index is last =
    last_fault_is bytes table header name_at at index is.same_table (header_is bytes table header index is.same_table is.same_header) is.same_name_at is.same_at
    ∙ ap (last_fault_after bytes) last

pub verdict : (bytes names : List ℕ) (table header name_at at index : ℕ) (result : Option ℕ) → Judged bytes names table header name_at at index
    → index ≡ count_in bytes - 2 → result ≡ names_fault table header name_at at bytes → MatchOption result (IsRight bytes) (FirstFault bytes)
verdict bytes names table header name_at at index None is last e = record {
  before = subst (AreRight bytes) last (are_right bytes names table header name_at at index is);
  names = sym (last_judged bytes names table header name_at at index is last) ∙ sym e;
}
verdict bytes names table header name_at at index (Some wrong) is last e =
    InNames (subst (AreRight bytes) last (are_right bytes names table header name_at at index is))
    (sym (last_judged bytes names table header name_at at index is last) ∙ sym e)

-- ---- the end of a string

pub zero_here : (xs : List ℕ) (i : ℕ) → i < length xs → get_or xs i 0 ≡ 0 → before_zero (drop i xs) ≡ 0
zero_here xs i inside e = ap before_zero (drop_more xs i 0 inside) ∙ ap (λ b. before_zero (b ∷ drop (i + 1) xs)) e

pub zero_later : (xs : List ℕ) (i : ℕ) → i < length xs → (get_or xs i 0 ≡ 0 → ⊥) → before_zero (drop i xs) ≡ suc (before_zero (drop (i + 1) xs))
zero_later xs i inside ne = ap before_zero (drop_more xs i 0 inside) ∙ by (get_or xs i 0) ne
  where
    by : (b : ℕ) → (b ≡ 0 → ⊥) → before_zero (b ∷ drop (i + 1) xs) ≡ suc (before_zero (drop (i + 1) xs))
    by zero ne = absurd (ne refl)
    by (suc b) ne = before_suc b (drop (i + 1) xs)

pub no_zero : (xs : List ℕ) (i : ℕ) → length xs ≤ i → before_zero (drop i xs) ≡ 0
no_zero xs i end = ap before_zero (drop_all i xs end)

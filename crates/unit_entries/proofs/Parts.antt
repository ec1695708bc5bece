-- The encodings of single items, and offsets of items at the front of a tree.
use Rattle.std.specs.Prelude.{IfSome}
use Rattle.std.proofs.Common.{◌≡◌, ℕ, suc, ◌+◌, ◌<◌, ◌≤◌, Bool, true, false, Option, Some, None, List, ◌∷◌, ◌++◌, length, take, arith, ap, refl}
use Rattle.std.proofs.Common.{length-append}
use Rattle.std.proofs.lemmas.List.{take-append-le}
use Rattle.dwarf_info.specs.declared.unit.BaseEntry.{BaseEntry}
use Rattle.dwarf_info.specs.declared.unit.FunctionEntry.{FunctionEntry}
use Rattle.dwarf_info.specs.declared.unit.VariableEntry.{VariableEntry}
use Rattle.dwarf_info.specs.Entries.{entry, base_type, variable, subprogram, HasType}
use Rattle.dwarf_info.specs.Entries
use Rattle.dwarf_entry.specs.declared.tree.TreeItem.{TreeItem}
use Rattle.dwarf_entry.specs.declared.abbreviation.Abbreviation.{Abbreviation}
use Rattle.dwarf_entry.specs.Entries.{item_bytes, tree_bytes, offset_of}
use Rattle.unit_entries.specs.Kinds.{plain_abbreviations, all_abbreviations}
use Rattle.unit_entries.specs.Plain.{type_item, variable_by, variable_item, subprogram_item}

-- ---- the abbreviations of a unit with and without inlined functions: both number alike what both have

pub data Table : Type 0 where
  plain : Table
  all : Table

abbrev pub declared : Table → List Abbreviation
declared plain = plain_abbreviations
declared all = all_abbreviations

pub type_is : (t : Table) (o : ℕ → ℕ) (b : BaseEntry) → item_bytes (declared t) o (type_item b) ≡ entry (base_type b)
unfolding entry
type_is plain o b = refl
type_is all o b = refl

pub subprogram_is : (t : Table) (o : ℕ → ℕ) (f : FunctionEntry) → item_bytes (declared t) o (subprogram_item f) ≡ entry (subprogram f)
unfolding entry
subprogram_is plain o f = refl
subprogram_is all o f = refl

variable_by_is : (t : Table) (o : ℕ → ℕ) (offset : ℕ → ℕ) (name : List ℕ) (argument : Bool) (base : Option ℕ) (list : ℕ)
    → IfSome base (λ k. o (suc k) ≡ offset k)
    → item_bytes (declared t) o (variable_by name argument base list) ≡ entry (Entries.variable_by offset name argument base list)
unfolding entry
variable_by_is plain o offset name true None list same = refl
variable_by_is plain o offset name false None list same = refl
variable_by_is plain o offset name true (Some k) list same =
    ap (λ (n : ℕ). item_bytes plain_abbreviations (λ _. n) (variable_by name true (Some k) list)) same
variable_by_is plain o offset name false (Some k) list same =
    ap (λ (n : ℕ). item_bytes plain_abbreviations (λ _. n) (variable_by name false (Some k) list)) same
variable_by_is all o offset name true None list same = refl
variable_by_is all o offset name false None list same = refl
variable_by_is all o offset name true (Some k) list same =
    ap (λ (n : ℕ). item_bytes all_abbreviations (λ _. n) (variable_by name true (Some k) list)) same
variable_by_is all o offset name false (Some k) list same =
    ap (λ (n : ℕ). item_bytes all_abbreviations (λ _. n) (variable_by name false (Some k) list)) same

-- where types lie
abbrev pub TypesAt : (count : ℕ) (o offset : ℕ → ℕ) → Type 0
TypesAt count o offset = (k : ℕ) → k < count → o (suc k) ≡ offset k

pub variable_is : (t : Table) (count : ℕ) (o offset : ℕ → ℕ) → TypesAt count o offset → (v : VariableEntry) → HasType count v
    → item_bytes (declared t) o (variable_item v) ≡ entry (variable offset v)
variable_is t count o offset at v has = variable_by_is t o offset v.name v.argument v.base v.list (by v.base has)
  where
    by : (base : Option ℕ) → IfSome base (λ k. k < count) → IfSome base (λ k. o (suc k) ≡ offset k)
    by None has = tt
    by (Some k) has = at k has

-- ---- offsets behind the first item

pub offset_front : (ds : List Abbreviation) (first : TreeItem) (front rest : List TreeItem) (k : ℕ) → k ≤ length front
    → offset_of ds (first ∷ (front ++ rest)) (suc k) ≡ 12 + length (item_bytes ds (λ _. 0) first) + length (tree_bytes ds (λ _. 0) (take k front))
offset_front ds first front rest k within =
    omega (
      arith,
      length-append (item_bytes ds (λ _. 0) first) (tree_bytes ds (λ _. 0) (take k (front ++ rest))),
      ap (λ (ts : List TreeItem). length (tree_bytes ds (λ _. 0) ts)) (take-append-le k front rest within),
    )

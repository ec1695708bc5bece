-- The number of a file that is used names it in the table.
use Rattle.std.proofs.Common.{◌≡◌, ℕ, suc, ◌+◌, Bool, true, cond, not, List, [], ◌∷◌, map, Some}
use Rattle.std.proofs.Common.{refl, sym, subst, ap, ◌∙◌, inl, inr, arith, Contains}
use Rattle.std.specs.Prelude.{slice_get, option_map, nat_eq}
use Rattle.std.specs.List.{list_any, position_or_len}
use Rattle.std.proofs.lemmas.Bool.{and_parts, or_left, eqb-true}
use Rattle.std.proofs.lemmas.List.Folds.{list_any-append}
use Rattle.std.proofs.lemmas.Option.{slice_get-map}
use Rattle.dwarf_line.specs.declared.table.Sequence.{Sequence}
use Rattle.dwarf_line.specs.declared.table.LineTable.{LineTable}
use Rattle.dwarf_line_table.specs.declared.file.SourceFile.{SourceFile}
use Rattle.dwarf_line_table.specs.Files.{is_name, is_file, with_new, first_uses, files_of, number_in, dirs_of, entry_in, entries_of}
use Rattle.dwarf_line_table.proofs.FirstUses.{joined, lengthened}
use Rattle.dwarf_line_table.proofs.Keys.{name_same, file_same}
use Rattle.dwarf_line_table.specs.Rows.{NamesFile}
use Rattle.dwarf_line_table.proofs.Members.{no_member, member_cases, mapped_member, got_member, found}

-- ---- first uses

known_stays : {X : Type 0} (is : X → X → Bool) (known xs : List X) (x : X) → list_any (is x) known ≡ true → list_any (is x) (first_uses is known xs) ≡ true
known_stays is known xs x there =
    let longer = lengthened is known xs in
    ap (list_any (is x)) longer.1 ∙ list_any-append (is x) known longer.0 ∙ or_left (list_any (is x) known) (list_any (is x) longer.0) there

-- what is used is known
used_known : {X : Type 0} (is : X → X → Bool) → ((x : X) → is x x ≡ true) → (known xs : List X) (x : X) → Contains xs x →
    list_any (is x) (first_uses is known xs) ≡ true
used_known is same known [] x among = absurd (no_member x among)
used_known is same known (y ∷ xs) x among = elim (member_cases y x xs among) [
  | inl e ↦ known_stays is (with_new is known y) xs x (subst (λ z. list_any (is z) (with_new is known y) ≡ true) e (joined is same known y))
  | inr later ↦ used_known is same (with_new is known y) xs x later
]

-- ---- names

name_eq : (a b : List ℕ) → is_name a b ≡ true → a ≡ b
name_eq [] [] e = refl
name_eq [] (y ∷ b) e = absurd cc
name_eq (x ∷ a) [] e = absurd cc
name_eq (x ∷ a) (y ∷ b) e =
    let parts = and_parts (nat_eq x y) (is_name a b) e in
    ap (λ (n : ℕ). n ∷ a) (eqb-true x y parts.0) ∙ ap (λ (ns : List ℕ). y ∷ ns) (name_eq a b parts.1)

-- ---- numbers

module _ (first : SourceFile) (more : List SourceFile) (sequences : List Sequence) where
  abbrev files : List SourceFile
  files = first ∷ more

  abbrev table : LineTable
  table = record { dirs = dirs_of files; files = entries_of files; sequences = sequences }

  known_named : (f : SourceFile) → list_any (is_file f) files ≡ true → NamesFile table (number_in files f) f
  known_named f is =
      let at = found (is_file f) files is in
      let next : 1 + position_or_len (is_file f) files ≡ suc (position_or_len (is_file f) files) = omega arith in
      let same = and_parts (is_name f.name at.element.name) (is_name f.dir at.element.dir) at.passes in
      let dir = found (is_name at.element.dir) (dirs_of files) (used_known is_name name_same [] (map (λ (g : SourceFile). g.dir) files) at.element.dir
      (mapped_member (λ (g : SourceFile). g.dir) files at.element (got_member files (position_or_len (is_file f) files) at.element at.stands))) in
      record {
        from_one = omega arith;
        entry = entry_in (dirs_of files) at.element;
        stands = ap (slice_get (entries_of files)) next ∙ slice_get-map (entry_in (dirs_of files)) files (position_or_len (is_file f) files)
            ∙ ap (option_map (entry_in (dirs_of files))) at.stands;
        name = sym (name_eq f.name at.element.name same.0);
        dir = dir.stands ∙ ap (λ (d : List ℕ). Some d) (sym (name_eq at.element.dir dir.element dir.passes) ∙ sym (name_eq f.dir at.element.dir same.1));
      }

module _ (unit : SourceFile) (uses : List SourceFile) (sequences : List Sequence) where
  -- a file that is used
  pub used_named : (f : SourceFile) → Contains uses f →
      NamesFile (record { dirs = dirs_of (files_of unit uses); files = entries_of (files_of unit uses); sequences = sequences })
      (number_in (files_of unit uses) f) f
  used_named f among =
      let longer = lengthened is_file (unit ∷ []) uses in
      subst (λ (fs : List SourceFile). NamesFile (record { dirs = dirs_of fs; files = entries_of fs; sequences = sequences }) (number_in fs f) f) (sym longer.1)
      (known_named unit longer.0 sequences f (ap (list_any (is_file f)) (sym longer.1) ∙ used_known is_file file_same (unit ∷ []) uses f among))

  -- the unit's is file 1
  pub unit_is_one : number_in (files_of unit uses) unit ≡ 1
  unit_is_one =
      let longer = lengthened is_file (unit ∷ []) uses in
      ap (λ (fs : List SourceFile). number_in fs unit) longer.1
      ∙ ap (λ (b : Bool). 1 + cond (not b) (1 + position_or_len (is_file unit) longer.0) 0) (file_same unit)

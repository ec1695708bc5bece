-- The entries of files, as the files are gone through.
-- Plan: as with rows: what is listed with the entries of the files left is all entries, whatever directories join later.
use Rattle.std.proofs.Common.{◌≡◌, ℕ, suc, ◌+◌, ◌≤◌, List, [], ◌∷◌, ◌++◌, length, map, refl, sym, ◌∙◌, ap, arith, append_assoc, append-nil, subst, Vec}
use Rattle.std.specs.List.{position_or_len}
use Rattle.dwarf_line.specs.declared.table.FileEntry.{FileEntry}
use Rattle.dwarf_line_table.specs.Files.{with_new, first_uses, is_name, dirs_of, entry_in, entry_zero, entries_of}
use Rattle.dwarf_line_table.specs.steps.Seen.{seen}
use Rattle.dwarf_line_table.proofs.FirstUses.{joined_only}

pub record EntriesSoFar {Z : Type 0} (keys rest : List (Vec ℕ Z × Vec ℕ Z)) (dirs : List (List ℕ)) (files : List FileEntry) : Type 0 where
  pub few : length dirs + length rest ≤ length keys
  pub known : first_uses is_name dirs (map (λ f. f.dir) (map seen rest)) ≡ dirs_of (map seen keys)
  pub listed : (more : List (List ℕ)) → files ++ map (entry_in (dirs ++ more)) (map seen rest) ≡ entry_zero (map seen keys) ++ map (entry_in (dirs ++ more))
      (map seen keys)

pub entries_start : {Z : Type 0} (keys : List (Vec ℕ Z × Vec ℕ Z)) → EntriesSoFar keys keys [] (entry_zero (map seen keys))
entries_start keys = record { few = omega arith; known = refl; listed = λ more. refl }

pub entries_next : {Z : Type 0} (keys rest : List (Vec ℕ Z × Vec ℕ Z)) (k : Vec ℕ Z × Vec ℕ Z) (dirs dirs_ : List (List ℕ)) (files files_ : List FileEntry)
    (n : ℕ) (name : List ℕ)
    → EntriesSoFar keys (k ∷ rest) dirs files
    → dirs_ ≡ with_new is_name dirs k.1.items
    → ((more : List (List ℕ)) → n ≡ position_or_len (is_name k.1.items) (dirs_ ++ more))
    → length dirs_ ≤ length dirs + 1
    → name ≡ k.0.items
    → files_ ≡ files ++ record { name = name; dir = n } ∷ []
    → EntriesSoFar keys rest dirs_ files_
entries_next keys rest k dirs dirs_ files files_ n name so joins number few named longer =
    let one = joined_only is_name dirs k.1.items in
    record {
      few = let so_few : length dirs + suc (length rest) ≤ length keys = so.few in omega (arith, so_few, few);
      known = ap (λ ds. first_uses is_name ds (map (λ f. f.dir) (map seen rest))) joins ∙ so.known;
      listed = λ more.
          let all : dirs_ ++ more ≡ dirs ++ (one.0 ++ more) = ap (λ ds. ds ++ more) (joins ∙ one.1) ∙ append_assoc dirs one.0 more in
          let P : List (List ℕ) → Type 0 = λ ds.
          files ++ map (entry_in ds) (map seen (k ∷ rest)) ≡ entry_zero (map seen keys) ++ map (entry_in ds) (map seen keys) in
          let entry : FileEntry = record { name = name; dir = n } in
          let is : entry ≡ entry_in (dirs_ ++ more) (seen k) = λ i. record { name = named i; dir = number more i } in
          ap (λ fs. fs ++ map (entry_in (dirs_ ++ more)) (map seen rest)) longer
          ∙ append_assoc files (entry ∷ []) _
          ∙ ap (λ e. files ++ e ∷ map (entry_in (dirs_ ++ more)) (map seen rest)) is
          ∙ subst P (sym all) (so.listed (one.0 ++ more));
    }

pub entries_done : {Z : Type 0} (keys : List (Vec ℕ Z × Vec ℕ Z)) (dirs : List (List ℕ)) (files : List FileEntry) → EntriesSoFar keys [] dirs files
    → (dirs ≡ dirs_of (map seen keys)) × (files ≡ entries_of (map seen keys))
entries_done keys dirs files so = (
  so.known,
  sym (append-nil files) ∙ so.listed []
      ∙ ap (λ ds. entry_zero (map seen keys) ++ map (entry_in ds) (map seen keys)) (append-nil dirs ∙ so.known),
)

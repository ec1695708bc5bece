-- How long a section is.
use Rattle.std.proofs.Common.{◌≡◌, ℕ, ◌+◌, List, [], ◌++◌, length, arith, ap, ◌∙◌, length-append, append_assoc}
use Rattle.std.specs.List.{flat_map}
use Rattle.dwarf_base.specs.Leb.{uleb_of}
use Rattle.dwarf_line.specs.declared.table.FileEntry.{FileEntry}
use Rattle.dwarf_line.specs.Standard.{instruction_fields, directory_format, file_format}
use Rattle.dwarf_line.specs.declared.table.LineTable.{LineTable}
use Rattle.dwarf_line.specs.Spelling.{text, file, tables, program, header, spelling}

pub length-spelling : (t : LineTable) → length (spelling t) ≡ 12 + length (tables t) + length (program t.sequences)
unfolding spelling
length-spelling t = omega (arith, length-append (tables t) (program t.sequences))

-- what is written is the section, part by part
pub written : (t : LineTable) (out first second third : List ℕ) (length_after header_length : ℕ) → out ≡ third ++ program t.sequences
    → third ≡ second ++ tables t
    → second ≡ first ++ header length_after header_length → first ≡ [] → length_after + 4 ≡ length (spelling t) → header_length ≡ length (tables t)
    → out ≡ spelling t
unfolding spelling
written t out first second third length_after header_length program_is tables_are header_is first_is after_is length_is =
    let after : length_after ≡ 8 + length (tables t) + length (program t.sequences) = omega (arith, length-append (tables t) (program t.sequences)) in
    program_is ∙ ap (λ x. x ++ program t.sequences) (tables_are ∙ ap (λ x. x ++ tables t)
    (header_is ∙ ap (λ x. x ++ header length_after header_length) first_is))
    ∙ ap (λ n. header n header_length ++ tables t ++ program t.sequences) after
    ∙ ap (λ n. header (8 + length (tables t) + length (program t.sequences)) n ++ tables t ++ program t.sequences) length_is

-- the tables, as their parts were written one after the other
pub tables_written : (t : LineTable) (o o1 o2 o3 o4 o5 o6 u v : List ℕ) (dirs : List (List ℕ)) (files : List FileEntry)
    → o1 ≡ o ++ instruction_fields → o2 ≡ o1 ++ directory_format → o3 ≡ o2 ++ u → o4 ≡ o3 ++ flat_map text dirs → o5 ≡ o4 ++ file_format → o6 ≡ o5 ++ v
    → u ≡ uleb_of (length t.dirs) → dirs ≡ t.dirs → v ≡ uleb_of (length t.files) → files ≡ t.files → o6 ++ flat_map file files ≡ o ++ tables t
unfolding tables
tables_written t o o1 o2 o3 o4 o5 o6 u v dirs files e1 e2 e3 e4 e5 e6 u_is dirs_are v_is files_are =
    rw (e6, e5, e4, e3, e2, e1, u_is, dirs_are, v_is, files_are)
    (nested o instruction_fields directory_format (uleb_of (length t.dirs)) (flat_map text t.dirs) file_format (uleb_of (length t.files))
    (flat_map file t.files))
  where
    nested : (o a b c d e f g : List ℕ) → ((((((o ++ a) ++ b) ++ c) ++ d) ++ e) ++ f) ++ g ≡ o ++ ((((((a ++ b) ++ c) ++ d) ++ e) ++ f) ++ g)
    nested o a b c d e f g = simp append_assoc

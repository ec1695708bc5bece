-- The header is read where it is spelled: texts and files, then the tables, then the fields before them, each in both directions.
use Rattle.std.specs.Prelude.{◌&&◌}
use Rattle.std.specs.Option.{ok_or}
use Rattle.std.specs.List.{flat_map, AllByRecursion}
use Rattle.std.specs.Int.{w16, w32, to_le_bytes}
use Rattle.std.proofs.Common.{◌≡◌, ℕ, zero, suc, ◌+◌, ◌^◌, ◌<◌, Bool, true, false, cond, eqb, ltb, List, [], ◌∷◌, ◌++◌, length, Option, Some, None, Result, Ok}
use Rattle.std.proofs.Common.{Err, arith, ap, subst, sym, ◌∙◌, refl, append_assoc, length-append, eq-eqb, eqb-true, lit<}
use Rattle.std.proofs.lemmas.Bool.{ltb-true, lt-ltb}
use Rattle.dwarf_base.specs.Leb.{uleb_of}
use Rattle.dwarf_base.specs.Standard.{LENGTH_LIMIT}
use Rattle.dwarf_line.specs.declared.table.FileEntry.{FileEntry}
use Rattle.dwarf_line.specs.Standard.{instruction_fields, directory_format, file_format}
use Rattle.dwarf_line.specs.Spelling.{text, file, program, header}
use Rattle.dwarf_line.specs.Fields.{◌>>=◌, constants_at, number_at, uleb_at, behind_zero, behind_text}
use Rattle.dwarf_line.specs.FirstFault.{behind_dirs, behind_files, behind_tables, behind_header}
use Rattle.dwarf_line.proofs.Numbers.{uleb_takes, uleb_again}
use Rattle.dwarf_line.proofs.Groups.{bind_ok, ok_is, not_ok, constants_take, constants_again}
use Rattle.dwarf_line.proofs.Fixed.{IsBytes, IsBytes-behind, wide16, wide32, number_takes, number_again}

-- ---- texts

abbrev pub HasNoZero : List ℕ → Type 0
HasNoZero name = AllByRecursion (λ byte. 0 < byte) name

record IsText (bytes rest : List ℕ) : Type 0 where
  name : List ℕ
  spelled : bytes ≡ name ++ 0 ∷ rest
  whole : HasNoZero name

some_is : (x y : List ℕ) → Some x ≡ Some y → x ≡ y
some_is x y e = cc

zero_takes : (bytes rest : List ℕ) → behind_zero bytes ≡ Some rest → IsText bytes rest
zero_takes [] rest e = absurd cc
zero_takes (zero ∷ bytes) rest e = record { name = []; spelled = ap (λ x. 0 ∷ x) (some_is bytes rest e); whole = tt }
zero_takes (suc b ∷ bytes) rest e =
    let t = zero_takes bytes rest e in
    record { name = suc b ∷ t.name; spelled = ap (λ x. suc b ∷ x) t.spelled; whole = (omega arith, t.whole) }

zero_again : (name rest : List ℕ) → HasNoZero name → behind_zero (name ++ 0 ∷ rest) ≡ Some rest
zero_again [] rest whole = refl
zero_again (zero ∷ name) rest whole = let never : 0 < 0 = whole.0 in absurd (omega arith)
zero_again (suc b ∷ name) rest whole = zero_again name rest whole.1

or_ok : (o : Option (List ℕ)) (left : ℕ) (rest : List ℕ) → ok_or o left ≡ Ok rest → o ≡ Some rest
or_ok None left rest e = absurd cc
or_ok (Some x) left rest e = ap Some (ok_is x rest e)

text_takes : (bytes rest : List ℕ) → behind_text bytes ≡ Ok rest → IsText bytes rest
text_takes bytes rest e = zero_takes bytes rest (or_ok (behind_zero bytes) (length bytes) rest e)

text_again : (name rest : List ℕ) → HasNoZero name → behind_text (text name ++ rest) ≡ Ok rest
text_again name rest whole =
    ap behind_text (append_assoc name (0 ∷ []) rest) ∙ ap (λ o. ok_or o (length (name ++ 0 ∷ rest))) (zero_again name rest whole)

text_is : (bytes rest : List ℕ) (t : IsText bytes rest) → bytes ≡ text t.name ++ rest
text_is bytes rest t = t.spelled ∙ sym (append_assoc t.name (0 ∷ []) rest)

-- ---- directories and files

pub record Dirs (n : ℕ) (bytes rest : List ℕ) : Type 0 where
  pub dirs : List (List ℕ)
  pub count : length dirs ≡ n
  pub spelled : bytes ≡ flat_map text dirs ++ rest
  pub names : AllByRecursion HasNoZero dirs

dirs_take : (n : ℕ) (bytes rest : List ℕ) → behind_dirs n bytes ≡ Ok rest → Dirs n bytes rest
unfolding behind_dirs
dirs_take zero bytes rest e = record { dirs = []; count = refl; spelled = ok_is bytes rest e; names = tt }
dirs_take (suc n) bytes rest e =
    let first = bind_ok (behind_text bytes) (behind_dirs n) rest e in
    let t = text_takes bytes first.0 first.1 in
    let others = dirs_take n first.0 rest first.2 in
    record {
      dirs = t.name ∷ others.dirs;
      count = ap suc others.count;
      spelled = text_is bytes first.0 t ∙ ap (λ x. text t.name ++ x) others.spelled ∙ sym (append_assoc (text t.name) (flat_map text others.dirs) rest);
      names = (t.whole, others.names);
    }

dirs_again : (dirs : List (List ℕ)) (rest : List ℕ) → AllByRecursion HasNoZero dirs → behind_dirs (length dirs) (flat_map text dirs ++ rest) ≡ Ok rest
unfolding behind_dirs
dirs_again [] rest names = refl
dirs_again (d ∷ dirs) rest names =
    ap (behind_dirs (suc (length dirs))) (append_assoc (text d) (flat_map text dirs) rest)
    ∙ ap (λ r. r >>= behind_dirs (length dirs)) (text_again d (flat_map text dirs ++ rest) names.0)
    ∙ dirs_again dirs rest names.1

pub record IsFile (f : FileEntry) : Type 0 where
  pub name : HasNoZero f.name
  pub dir : f.dir < 2 ^ 64

pub record Files (n : ℕ) (bytes rest : List ℕ) : Type 0 where
  pub files : List FileEntry
  pub count : length files ≡ n
  pub spelled : bytes ≡ flat_map file files ++ rest
  pub are : AllByRecursion IsFile files

files_take : (n : ℕ) (bytes rest : List ℕ) → behind_files n bytes ≡ Ok rest → Files n bytes rest
unfolding behind_files
files_take zero bytes rest e = record { files = []; count = refl; spelled = ok_is bytes rest e; are = tt }
files_take (suc n) bytes rest e =
    let first = bind_ok (behind_text bytes) (λ name. uleb_at (2 ^ 64) name >>= (λ dir. behind_files n dir.1)) rest e in
    let second = bind_ok (uleb_at (2 ^ 64) first.0) (λ dir. behind_files n dir.1) rest first.2 in
    let t = text_takes bytes first.0 first.1 in
    let d = uleb_takes (2 ^ 64) first.0 second.0.0 second.0.1 second.1 in
    let others = files_take n second.0.1 rest second.2 in
    let f : FileEntry = record { name = t.name; dir = second.0.0 } in
    record {
      files = f ∷ others.files;
      count = ap suc others.count;
      spelled =
          text_is bytes first.0 t ∙ ap (λ x. text t.name ++ x) d.0 ∙ ap (λ x. text t.name ++ (uleb_of second.0.0 ++ x)) others.spelled
          ∙ nested (text t.name) (uleb_of second.0.0) (flat_map file others.files) rest;
      are = (record { name = t.whole; dir = d.1 }, others.are);
    }
  where
    nested : (a b c d : List ℕ) → a ++ (b ++ (c ++ d)) ≡ ((a ++ b) ++ c) ++ d
    nested a b c d = simp append_assoc

files_again : (files : List FileEntry) (rest : List ℕ) → AllByRecursion IsFile files → behind_files (length files) (flat_map file files ++ rest) ≡ Ok rest
unfolding behind_files
files_again [] rest are = refl
files_again (f ∷ files) rest are =
    ap (behind_files (suc (length files))) (nested (text f.name) (uleb_of f.dir) (flat_map file files) rest)
    ∙ ap (λ r. r >>= (λ name. uleb_at (2 ^ 64) name >>= (λ dir. behind_files (length files) dir.1)))
    (text_again f.name (uleb_of f.dir ++ (flat_map file files ++ rest)) are.0.name)
    ∙ ap (λ r. r >>= (λ (dir : ℕ × List ℕ). behind_files (length files) dir.1)) (uleb_again (2 ^ 64) f.dir (flat_map file files ++ rest) are.0.dir)
    ∙ files_again files rest are.1
  where
    nested : (a b c d : List ℕ) → ((a ++ b) ++ c) ++ d ≡ a ++ (b ++ (c ++ d))
    nested a b c d = simp append_assoc

-- ---- the tables

abbrev pub tables_of : (dirs : List (List ℕ)) (files : List FileEntry) → List ℕ
tables_of dirs files =
    instruction_fields ++ directory_format ++ uleb_of (length dirs) ++ flat_map text dirs ++ file_format ++ uleb_of (length files) ++ flat_map file files

nested_tables : (a b c d e f g x : List ℕ) → (a ++ b ++ c ++ d ++ e ++ f ++ g) ++ x ≡ a ++ (b ++ (c ++ (d ++ (e ++ (f ++ (g ++ x))))))
nested_tables a b c d e f g x = simp append_assoc

pub record Tables (bytes rest : List ℕ) : Type 0 where
  pub dirs : List (List ℕ)
  pub files : List FileEntry
  pub spelled : bytes ≡ tables_of dirs files ++ rest
  pub names : AllByRecursion HasNoZero dirs
  pub are : AllByRecursion IsFile files
  pub dir_count : length dirs < 2 ^ 64
  pub file_count : length files < 2 ^ 64

pub tables_take : (bytes rest : List ℕ) → behind_tables bytes ≡ Ok rest → Tables bytes rest
unfolding behind_tables
tables_take bytes rest e =
    let last = λ (formats : List ℕ). uleb_at (2 ^ 64) formats >>= (λ file_count. behind_files file_count.0 file_count.1) in
    let middle = λ (files : List ℕ). constants_at file_format files >>= last in
    let counted = λ (directories : List ℕ). uleb_at (2 ^ 64) directories >>= (λ dir_count. behind_dirs dir_count.0 dir_count.1 >>= middle) in
    let a = bind_ok (constants_at instruction_fields bytes) (λ start. constants_at directory_format start >>= counted) rest e in
    let b = bind_ok (constants_at directory_format a.0) counted rest a.2 in
    let c = bind_ok (uleb_at (2 ^ 64) b.0) (λ dir_count. behind_dirs dir_count.0 dir_count.1 >>= middle) rest b.2 in
    let d = bind_ok (behind_dirs c.0.0 c.0.1) middle rest c.2 in
    let f = bind_ok (constants_at file_format d.0) last rest d.2 in
    let g = bind_ok (uleb_at (2 ^ 64) f.0) (λ file_count. behind_files file_count.0 file_count.1) rest f.2 in
    let dirs = dirs_take c.0.0 c.0.1 d.0 d.1 in
    let files = files_take g.0.0 g.0.1 rest g.2 in
    let dir_count = uleb_takes (2 ^ 64) b.0 c.0.0 c.0.1 c.1 in
    let file_count = uleb_takes (2 ^ 64) f.0 g.0.0 g.0.1 g.1 in
    record {
      dirs = dirs.dirs;
      files = files.files;
      spelled =
          joined bytes a.0 b.0 c.0.1 d.0 f.0 g.0.1 rest c.0.0 g.0.0 dirs.dirs files.files (constants_take instruction_fields bytes a.0 a.1)
          (constants_take directory_format a.0 b.0 b.1) dir_count.0 dirs.spelled
          (constants_take file_format d.0 f.0 f.1) file_count.0 files.spelled dirs.count files.count;
      names = dirs.names;
      are = files.are;
      dir_count = omega (arith, dirs.count, dir_count.1);
      file_count = omega (arith, files.count, file_count.1);
    }
  where
    joined : (bytes a b c d f g rest : List ℕ) (m n : ℕ) (dirs : List (List ℕ)) (files : List FileEntry) → bytes ≡ instruction_fields ++ a
        → a ≡ directory_format ++ b
        → b ≡ uleb_of m ++ c → c ≡ flat_map text dirs ++ d → d ≡ file_format ++ f → f ≡ uleb_of n ++ g → g ≡ flat_map file files ++ rest
        → length dirs ≡ m → length files ≡ n → bytes ≡ tables_of dirs files ++ rest
    joined bytes a b c d f g rest m n dirs files ea eb ec ed ef eg er em en =
        ea ∙ ap (λ x. instruction_fields ++ x) (eb ∙ ap (λ x. directory_format ++ x) (ec ∙ ap (λ k. uleb_of k ++ c) (sym em)
        ∙ ap (λ x. uleb_of (length dirs) ++ x) (ed ∙ ap (λ x. flat_map text dirs ++ x) (ef ∙ ap (λ x. file_format ++ x)
        (eg ∙ ap (λ k. uleb_of k ++ g) (sym en) ∙ ap (λ x. uleb_of (length files) ++ x) er)))))
        ∙ sym (nested_tables instruction_fields directory_format (uleb_of (length dirs)) (flat_map text dirs) file_format (uleb_of (length files))
        (flat_map file files) rest)

pub tables_again : (dirs : List (List ℕ)) (files : List FileEntry) (rest : List ℕ) → AllByRecursion HasNoZero dirs → AllByRecursion IsFile files
    → length dirs < 2 ^ 64 → length files < 2 ^ 64
    → behind_tables (tables_of dirs files ++ rest) ≡ Ok rest
unfolding behind_tables
tables_again dirs files rest names are dirs_fit files_fit =
    let last = λ (formats : List ℕ). uleb_at (2 ^ 64) formats >>= (λ file_count. behind_files file_count.0 file_count.1) in
    let middle = λ (files : List ℕ). constants_at file_format files >>= last in
    let counted = λ (directories : List ℕ). uleb_at (2 ^ 64) directories >>= (λ dir_count. behind_dirs dir_count.0 dir_count.1 >>= middle) in
    let g : List ℕ = flat_map file files ++ rest in
    let f : List ℕ = uleb_of (length files) ++ g in
    let d : List ℕ = file_format ++ f in
    let c : List ℕ = flat_map text dirs ++ d in
    let b : List ℕ = uleb_of (length dirs) ++ c in
    let a : List ℕ = directory_format ++ b in
    ap behind_tables (nested_tables instruction_fields directory_format (uleb_of (length dirs)) (flat_map text dirs) file_format
    (uleb_of (length files)) (flat_map file files) rest)
    ∙ ap (λ r. r >>= (λ start. constants_at directory_format start >>= counted)) (constants_again instruction_fields a)
    ∙ ap (λ r. r >>= counted) (constants_again directory_format b)
    ∙ ap (λ r. r >>= (λ (dir_count : ℕ × List ℕ). behind_dirs dir_count.0 dir_count.1 >>= middle)) (uleb_again (2 ^ 64) (length dirs) c dirs_fit)
    ∙ ap (λ r. r >>= middle) (dirs_again dirs d names)
    ∙ ap (λ r. r >>= last) (constants_again file_format f)
    ∙ ap (λ r. r >>= (λ (file_count : ℕ × List ℕ). behind_files file_count.0 file_count.1)) (uleb_again (2 ^ 64) (length files) g files_fit)
    ∙ files_again files rest are

-- ---- the fields before them

abbrev right : {A : Type 0} → A → Result A ℕ
right x = Ok x

abbrev fault : {A : Type 0} → ℕ → Result A ℕ
fault left = Err left

guard_ok : {A : Type 0} (b : Bool) (left : ℕ) (x y : A) → cond b (right x) (fault left) ≡ right y → (b ≡ true) × (x ≡ y)
guard_ok true left x y e = (refl, ok_is x y e)
guard_ok false left x y e = absurd (not_ok left y e)

and_true : (a b : Bool) → (a && b) ≡ true → (a ≡ true) × (b ≡ true)
and_true true b e = (refl, e)
and_true false b e = absurd cc

nested_header : (a b c d x : List ℕ) → (a ++ b ++ c ++ d) ++ x ≡ a ++ (b ++ (c ++ (d ++ x)))
nested_header a b c d x = simp append_assoc

pub record Head (bytes program : List ℕ) : Type 0 where
  pub dirs : List (List ℕ)
  pub files : List FileEntry
  pub spelled : bytes ≡ header (8 + length (tables_of dirs files) + length program) (length (tables_of dirs files)) ++ (tables_of dirs files ++ program)
  pub size : length bytes < 4 + LENGTH_LIMIT
  pub names : AllByRecursion HasNoZero dirs
  pub are : AllByRecursion IsFile files
  pub dir_count : length dirs < 2 ^ 64
  pub file_count : length files < 2 ^ 64

pub header_take : (bytes program : List ℕ) → IsBytes bytes → behind_header bytes ≡ Ok program → Head bytes program
unfolding behind_header
header_take bytes program are e =
    let judged = λ (before : List ℕ) (header_length : ℕ × List ℕ) (program : List ℕ).
    cond (eqb (header_length.0 + length program) (length header_length.1)) (right program) (fault (length before)) in
    let tables = λ (before : List ℕ) (header_length : ℕ × List ℕ). behind_tables header_length.1 >>= judged before header_length in
    let lengths = λ (before : List ℕ). number_at w32 before >>= tables before in
    let sizes = λ (x : List ℕ). constants_at (8 ∷ 0 ∷ []) x >>= lengths in
    let versions = λ (start : List ℕ) (version : ℕ × List ℕ). cond (eqb version.0 5) (right version.1) (fault (length start)) >>= sizes in
    let starts = λ (start : List ℕ). number_at w16 start >>= versions start in
    let sections = λ (section : ℕ × List ℕ).
    cond (eqb section.0 (length section.1) && ltb section.0 LENGTH_LIMIT) (right section.1) (fault (length bytes)) >>= starts in
    let a = bind_ok (number_at w32 bytes) sections program e in
    let b = bind_ok (cond (eqb a.0.0 (length a.0.1) && ltb a.0.0 LENGTH_LIMIT) (right a.0.1) (fault (length bytes))) starts program a.2 in
    let c = bind_ok (number_at w16 b.0) (versions b.0) program b.2 in
    let d = bind_ok (cond (eqb c.0.0 5) (right c.0.1) (fault (length b.0))) sizes program c.2 in
    let f = bind_ok (constants_at (8 ∷ 0 ∷ []) d.0) lengths program d.2 in
    let g = bind_ok (number_at w32 f.0) (tables f.0) program f.2 in
    let h = bind_ok (behind_tables g.0.1) (judged f.0 g.0) program g.2 in
    let section_judged = guard_ok (eqb a.0.0 (length a.0.1) && ltb a.0.0 LENGTH_LIMIT) (length bytes) a.0.1 b.0 b.1 in
    let version_judged = guard_ok (eqb c.0.0 5) (length b.0) c.0.1 d.0 d.1 in
    let tables_judged = guard_ok (eqb (g.0.0 + length h.0) (length g.0.1)) (length f.0) h.0 program h.2 in
    let both = and_true _ _ section_judged.0 in
    let section = number_takes w32 (2 ^ 32) wide32 bytes a.0.0 a.0.1 are a.1 in
    let are_start : IsBytes a.0.1 = IsBytes-behind bytes (to_le_bytes w32 a.0.0) a.0.1 section.0 are in
    let version = number_takes w16 (2 ^ 16) wide16 b.0 c.0.0 c.0.1 (subst IsBytes section_judged.1 are_start) c.1 in
    let are_version : IsBytes c.0.1 = IsBytes-behind b.0 (to_le_bytes w16 c.0.0) c.0.1 version.0 (subst IsBytes section_judged.1 are_start) in
    let constants = constants_take (8 ∷ 0 ∷ []) d.0 f.0 f.1 in
    let are_before : IsBytes f.0 = IsBytes-behind d.0 (8 ∷ 0 ∷ []) f.0 constants (subst IsBytes version_judged.1 are_version) in
    let length_read = number_takes w32 (2 ^ 32) wide32 f.0 g.0.0 g.0.1 are_before g.1 in
    let t = tables_take g.0.1 h.0 h.1 in
    joined bytes a.0.1 c.0.1 f.0 g.0.1 program a.0.0 c.0.0 g.0.0 section.0 (section_judged.1 ∙ version.0) (version_judged.1 ∙ constants) length_read.0
    (subst (Tables g.0.1) tables_judged.1 t) (eqb-true _ _ both.0) (ltb-true _ _ both.1) (eqb-true _ _ version_judged.0)
    (subst (λ p. g.0.0 + length p ≡ length g.0.1) tables_judged.1 (eqb-true _ _ tables_judged.0))
  where
    joined : (bytes a c f g program : List ℕ) (after version header_length : ℕ) → bytes ≡ to_le_bytes w32 after ++ a
        → a ≡ to_le_bytes w16 version ++ c → c ≡ 8 ∷ 0 ∷ f
        → f ≡ to_le_bytes w32 header_length ++ g → Tables g program → after ≡ length a → after < LENGTH_LIMIT → version ≡ 5
        → header_length + length program ≡ length g
        → Head bytes program
    joined bytes a c f g program after version header_length ea ec ef eg t is_after small is_five is_header =
        let tb = tables_of t.dirs t.files in
        let whole : length g ≡ length tb + length program = ap length t.spelled ∙ length-append tb program in
        let hl : header_length ≡ length tb = omega arith in
        let long : length a ≡ 8 + length g = omega (arith, ap length ec, ap length ef, ap length eg) in
        let la : after ≡ 8 + length tb + length program = omega arith in
        record {
          dirs = t.dirs;
          files = t.files;
          spelled =
              ea ∙ ap (λ x. to_le_bytes w32 after ++ x) (ec ∙ ap (λ k. to_le_bytes w16 k ++ c) is_five
              ∙ ap (λ x. to_le_bytes w16 5 ++ x) (ef ∙ ap (λ x. 8 ∷ 0 ∷ x)
              (eg ∙ ap (λ k. to_le_bytes w32 k ++ g) hl ∙ ap (λ x. to_le_bytes w32 (length tb) ++ x) t.spelled)))
              ∙ ap (λ k. to_le_bytes w32 k ++ (to_le_bytes w16 5 ++ ((8 ∷ 0 ∷ []) ++ (to_le_bytes w32 (length tb) ++ (tb ++ program))))) la
              ∙ sym (nested_header (to_le_bytes w32 (8 + length tb + length program)) (to_le_bytes w16 5) (8 ∷ 0 ∷ []) (to_le_bytes w32 (length tb))
              (tb ++ program));
          size = omega (arith, ap length ea);
          names = t.names;
          are = t.are;
          dir_count = t.dir_count;
          file_count = t.file_count;
        }

pub header_again : (dirs : List (List ℕ)) (files : List FileEntry) (program : List ℕ) → AllByRecursion HasNoZero dirs → AllByRecursion IsFile files
    → length dirs < 2 ^ 64
    → length files < 2 ^ 64 → 8 + length (tables_of dirs files) + length program < LENGTH_LIMIT
    → behind_header (header (8 + length (tables_of dirs files) + length program) (length (tables_of dirs files)) ++
    (tables_of dirs files ++ program)) ≡ Ok program
unfolding behind_header
header_again dirs files program names are dirs_fit files_fit small =
    let tb : List ℕ = tables_of dirs files in
    let after : ℕ = 8 + length tb + length program in
    let g : List ℕ = tb ++ program in
    let f : List ℕ = to_le_bytes w32 (length tb) ++ g in
    let d : List ℕ = (8 ∷ 0 ∷ []) ++ f in
    let a : List ℕ = to_le_bytes w16 5 ++ d in
    let bytes : List ℕ = to_le_bytes w32 after ++ a in
    let whole : length g ≡ length tb + length program = length-append tb program in
    let long : after ≡ length a = omega (arith, whole) in
    let header_is : length tb + length program ≡ length g = sym whole in
    let judged = λ (before : List ℕ) (header_length : ℕ × List ℕ) (program : List ℕ).
    cond (eqb (header_length.0 + length program) (length header_length.1)) (right program) (fault (length before)) in
    let tables = λ (before : List ℕ) (header_length : ℕ × List ℕ). behind_tables header_length.1 >>= judged before header_length in
    let lengths = λ (before : List ℕ). number_at w32 before >>= tables before in
    let sizes = λ (x : List ℕ). constants_at (8 ∷ 0 ∷ []) x >>= lengths in
    let versions = λ (start : List ℕ) (version : ℕ × List ℕ). cond (eqb version.0 5) (right version.1) (fault (length start)) >>= sizes in
    let starts = λ (start : List ℕ). number_at w16 start >>= versions start in
    let sections = λ (section : ℕ × List ℕ).
    cond (eqb section.0 (length section.1) && ltb section.0 LENGTH_LIMIT) (right section.1) (fault (length bytes)) >>= starts in
    ap behind_header (nested_header (to_le_bytes w32 after) (to_le_bytes w16 5) (8 ∷ 0 ∷ []) (to_le_bytes w32 (length tb)) g)
    ∙ ap (λ r. r >>= sections) (number_again w32 (2 ^ 32) wide32 after a (omega arith))
    ∙ ap (λ b. cond (b && ltb after LENGTH_LIMIT) (right a) (fault (length bytes)) >>= starts) (eq-eqb after (length a) long)
    ∙ ap (λ b. cond b (right a) (fault (length bytes)) >>= starts) (lt-ltb after LENGTH_LIMIT small)
    ∙ ap (λ r. r >>= versions a) (number_again w16 (2 ^ 16) wide16 5 d (lit< tt))
    ∙ ap (λ r. r >>= tables f) (number_again w32 (2 ^ 32) wide32 (length tb) g (omega arith))
    ∙ ap (λ r. r >>= judged f (length tb, g)) (tables_again dirs files program names are dirs_fit files_fit)
    ∙ ap (λ b. cond b (right program) (fault (length f))) (eq-eqb (length tb + length program) (length g) header_is)

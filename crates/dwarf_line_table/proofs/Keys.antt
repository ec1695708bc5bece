-- What keys of names and directories are seen as.
-- Plan: equal keys are seen as one file, so a test of a key among keys is that of its file among files.
use Rattle.std.proofs.Common.{◌≡◌, ℕ, Bool, true, false, cond, ◌&&◌, ◌||◌, if◌then◌else◌, List, [], ◌∷◌, ◌++◌, map, refl, sym, ◌∙◌, ap, not, ◌+◌, ◌<◌}
use Rattle.std.proofs.Common.{length, None, arith}
use Rattle.std.specs.Prelude.{Option}
use Rattle.read_metadata.specs.declared.node.FileNode.{FileNode}
use Rattle.std.specs.Prelude.{Vec, nat_eq}
use Rattle.std.specs.List.{list_any, position_or_len}
use Rattle.std.specs.Cmp.Lexicographic.{pointwise}
use Rattle.std.proofs.lemmas.Cmp.{nat_list_eq_equiv}
use Rattle.std.proofs.lemmas.List.{map-append}
use Rattle.indexmap.specs.IndexSet.{insert_key}
use Rattle.dwarf_line_table.specs.declared.file.SourceFile.{SourceFile}
use Rattle.dwarf_line_table.specs.Files.{is_name, is_file, with_new, number_in, file_or, unit_in}
use Rattle.dwarf_line_table.specs.steps.Seen.{seen}
use Rattle.dwarf_line_table.proofs.FirstUses.{number_kept}

pub name_same : (a : List ℕ) → is_name a a ≡ true
name_same a = nat_list_eq_equiv.refl a

pub file_same : (f : SourceFile) → is_file f f ≡ true
file_same f = rw (name_same f.name, name_same f.dir) refl

-- the unit's file has number 1
pub unit_number : (files more : List SourceFile) (o : Option FileNode) → 0 < length files → o ≡ None → 1 ≡ number_in (files ++ more) (file_or o (unit_in files))
unit_number [] more o some none = absurd (omega (arith, some))
unit_number (f ∷ fs) more o some none =
    ap (λ b. 1 + cond (not b) (1 + position_or_len (is_file f) (fs ++ more)) 0) (sym (file_same f))
    ∙ ap (λ x. number_in (f ∷ fs ++ more) (file_or x f)) (sym none)

-- and is there
pub unit_known : (files : List SourceFile) → 0 < length files → files ≡ with_new is_file files (unit_in files)
unit_known [] some = absurd (omega (arith, some))
unit_known (f ∷ fs) some = ap (λ b. if b || list_any (is_file f) fs then f ∷ fs else (f ∷ fs) ++ f ∷ []) (sym (file_same f))

-- the unit stays in front
pub unit_stays : (files : List SourceFile) (f : SourceFile) → 0 < length files → (unit_in (with_new is_file files f) ≡ unit_in files) ×
    (0 < length (with_new is_file files f))
unit_stays [] f some = absurd (omega (arith, some))
unit_stays (g ∷ gs) f some = by (list_any (is_file f) (g ∷ gs))
  where
    by : (b : Bool) → (unit_in (if b then g ∷ gs else (g ∷ gs) ++ f ∷ []) ≡ g) × (0 < length (if b then g ∷ gs else (g ∷ gs) ++ f ∷ []))
    by true = (refl, omega arith)
    by false = (refl, omega arith)

-- tests that agree find the same
pub any_map : {X Y : Type 0} (h : X → Y) (p : X → Bool) (q : Y → Bool) (agree : (x : X) → p x ≡ q (h x)) (xs : List X) → list_any p xs ≡ list_any q (map h xs)
any_map h p q agree [] = refl
any_map h p q agree (x ∷ xs) = λ i. agree x i || any_map h p q agree xs i

pub position_map : {X Y : Type 0} (h : X → Y) (p : X → Bool) (q : Y → Bool) (agree : (x : X) → p x ≡ q (h x)) (xs : List X)
    → position_or_len p xs ≡ position_or_len q (map h xs)
position_map h p q agree [] = refl
position_map h p q agree (x ∷ xs) = λ i. cond (not (agree x i)) (1 + position_map h p q agree xs i) 0

pub insert_map : {X Y : Type 0} (h : X → Y) (is : X → X → Bool) (same : Y → Y → Bool) (agree : (x y : X) → is x y ≡ same (h x) (h y)) (xs : List X) (x : X)
    → map h (insert_key is xs x) ≡ with_new same (map h xs) (h x)
insert_map h is same agree xs x =
    let found : list_any (is x) xs ≡ list_any (same (h x)) (map h xs) = any_map h (is x) (same (h x)) (agree x) xs in
    by (list_any (is x) xs) ∙ ap (λ (b : Bool). if b then map h xs else map h xs ++ h x ∷ []) found
  where
    by : (b : Bool) → map h (if b then xs else xs ++ x ∷ []) ≡ (if b then map h xs else map h xs ++ h x ∷ [])
    by true = refl
    by false = map-append h xs (x ∷ [])

abbrev pub is_key : {Z : Type 0} → Vec ℕ Z × Vec ℕ Z → Vec ℕ Z × Vec ℕ Z → Bool
is_key a b = pointwise nat_eq a.0.items b.0.items && pointwise nat_eq a.1.items b.1.items

-- files with a key that joins, and its number from then on
pub key_known : {Z : Type 0} (keys joined : List (Vec ℕ Z × Vec ℕ Z)) (k : Vec ℕ Z × Vec ℕ Z) (files : List SourceFile) (name dir : List ℕ)
    → files ≡ map seen keys → joined ≡ insert_key is_key keys k → k.0.items ≡ name → k.1.items ≡ dir
    → map seen joined ≡ with_new is_file files (record { name = name; dir = dir })
key_known keys joined k files name dir are e n d =
    ap (map seen) e ∙ insert_map seen is_key is_file (λ x y. refl) keys k
    ∙ (λ i. with_new is_file (sym are i) (record { name = n i; dir = d i }))

pub key_number : {Z : Type 0} (keys joined : List (Vec ℕ Z × Vec ℕ Z)) (k : Vec ℕ Z × Vec ℕ Z) (name dir : List ℕ) (index : ℕ) (more : List SourceFile)
    → joined ≡ insert_key is_key keys k → k.0.items ≡ name → k.1.items ≡ dir → index ≡ position_or_len (is_key k) keys
    → index + 1 ≡ number_in (map seen joined ++ more) (record { name = name; dir = dir })
key_number keys joined k name dir index more e n d at =
    let f : SourceFile = record { name = name; dir = dir } in
    let place : index ≡ position_or_len (is_file f) (map seen keys) =
    at ∙ position_map seen (is_key k) (is_file (seen k)) (λ x. refl) keys
    ∙ (λ i. position_or_len (is_file (record { name = n i; dir = d i })) (map seen keys)) in
    let kept : position_or_len (is_file f) (map seen joined ++ more) ≡ position_or_len (is_file f) (map seen keys) =
    ap (λ fs. position_or_len (is_file f) (fs ++ more)) (key_known keys joined k (map seen keys) name dir refl e n d) ∙ number_kept is_file file_same
    (map seen keys) more f in
    omega (arith, place, kept)

-- the same of names alone
abbrev pub items_of : {Z : Type 0} → Vec ℕ Z → List ℕ
items_of k = k.items

abbrev pub is_vec : {Z : Type 0} → Vec ℕ Z → Vec ℕ Z → Bool
is_vec a b = pointwise nat_eq a.items b.items

pub name_known : {Z : Type 0} (keys joined : List (Vec ℕ Z)) (k : Vec ℕ Z) (names : List (List ℕ)) (name : List ℕ)
    → names ≡ map items_of keys → joined ≡ insert_key is_vec keys k → k.items ≡ name → map items_of joined ≡ with_new is_name names name
name_known keys joined k names name are e n =
    ap (map items_of) e ∙ insert_map items_of is_vec is_name (λ x y. refl) keys k ∙ (λ i. with_new is_name (sym are i) (n i))

pub name_number : {Z : Type 0} (keys joined : List (Vec ℕ Z)) (k : Vec ℕ Z) (name : List ℕ) (index : ℕ) (more : List (List ℕ))
    → joined ≡ insert_key is_vec keys k → k.items ≡ name → index ≡ position_or_len (is_vec k) keys
    → index ≡ position_or_len (is_name name) (map items_of joined ++ more)
name_number keys joined k name index more e n at =
    at ∙ position_map items_of (is_vec k) (is_name k.items) (λ x. refl) keys
    ∙ (λ i. position_or_len (is_name (n i)) (map items_of keys))
    ∙ sym (number_kept is_name name_same (map items_of keys) more name)
    ∙ ap (λ ns. position_or_len (is_name name) (ns ++ more)) (sym (name_known keys joined k (map items_of keys) name refl e n))

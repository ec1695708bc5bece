-- Tables of relocations, read and written.
use Rattle.std.specs.Prelude.{◌==◌, if◌then◌else◌, Some, None}
use Rattle.std.specs.List.{AllByRecursion}
use Rattle.std.specs.Int.{w32, w64, to_le_bytes}
use Rattle.std.proofs.Common.{◌≡◌, ℕ, zero, suc, ◌+◌, ◌-◌, ◌*◌, ◌/◌, ◌%◌, ◌≤◌, Bool, true, false, List, [], ◌∷◌, ◌++◌, length, drop}
use Rattle.std.proofs.Common.{arith, ap, sym, ◌∙◌, refl, append_assoc, length-append}
use Rattle.std.proofs.lemmas.Bool.{eqb-true, eq-eqb}
use Rattle.std.proofs.lemmas.Grind.{flat_map-append}
use Rattle.std.proofs.lemmas.List.{append-nil, length-drop, drop-drop, drop_all}
use Rattle.std.proofs.lemmas.List.Elements.{All-from_recursion}
use Rattle.elf_object.specs.declared.relocations.Relocation.{Relocation}
use Rattle.elf_object.specs.Relocations.{relocation, relocation_table, FitsRelocation, AreRelocations}
use Rattle.elf_object.specs.Sections.{number_at}
use Rattle.elf_object.proofs.FaultLemmas.{IsBytes, IsBytes-drop, word_stands, xword_stands, word_fits, xword_fits}
use Rattle.elf_object.proofs.OneTable.{length-relocation}
use Rattle.elf_symbols.specs.FirstFault.{relocations_fault}
use Rattle.elf_symbols.specs.steps.Told.{relocation_told, relocations_told}

-- the relocation that is told stands there
relocation_stands : (bytes : List ℕ) → IsBytes bytes → 24 ≤ length bytes → bytes ≡ relocation (relocation_told bytes) ++ drop 24 bytes
unfolding relocation
relocation_stands bytes are long =
    xword_stands 0 bytes are (omega (arith, long))
    ∙ ap (λ ys. to_le_bytes w64 (number_at w64 0 bytes) ++ ys) (word_stands 8 bytes are (omega (arith, long))
    ∙ ap (λ ys. to_le_bytes w32 (number_at w32 8 bytes) ++ ys) (word_stands 12 bytes are (omega (arith, long))
    ∙ ap (λ ys. to_le_bytes w32 (number_at w32 12 bytes) ++ ys) (xword_stands 16 bytes are (omega (arith, long)))))

relocation_fits : (bytes : List ℕ) → IsBytes bytes → FitsRelocation (relocation_told bytes)
relocation_fits bytes are = record {
  offset = xword_fits 0 bytes are;
  relocation_type = word_fits 8 bytes are;
  symbol = word_fits 12 bytes are;
  addend = xword_fits 16 bytes are;
}

all_last : (rs : List Relocation) (last : Relocation) → AllByRecursion FitsRelocation rs → FitsRelocation last
    → AllByRecursion FitsRelocation (rs ++ last ∷ [])
all_last [] last are is = (is, tt)
all_last (r ∷ rs) last are is = (are.0, all_last rs last are.1 is)

told_fits : (table : List ℕ) (n : ℕ) → IsBytes table → AllByRecursion FitsRelocation (relocations_told table n)
told_fits table zero are = tt
told_fits table (suc n) are =
    all_last (relocations_told table n) (relocation_told (drop (24 * n) table)) (told_fits table n are)
    (relocation_fits (drop (24 * n) table) (IsBytes-drop (24 * n) table are))

told_stands : (table : List ℕ) (n : ℕ) → IsBytes table → 24 * n ≤ length table
    → table ≡ relocation_table (relocations_told table n) ++ drop (24 * n) table
told_stands table zero are within = refl
told_stands table (suc n) are within =
    let before : List Relocation = relocations_told table n in
    let rest : List ℕ = drop (24 * n) table in
    let r : Relocation = relocation_told rest in
    let long : 24 ≤ length rest = omega (arith, within, length-drop (24 * n) table) in
    let behind : drop 24 rest ≡ drop (24 * suc n) table = drop-drop 24 (24 * n) table ∙ ap (λ k. drop k table) (plus n) in
    let here : rest ≡ relocation r ++ drop (24 * suc n) table =
    relocation_stands rest (IsBytes-drop (24 * n) table are) long ∙ ap (λ ys. relocation r ++ ys) behind in
    let written : relocation_table (before ++ r ∷ []) ≡ relocation_table before ++ relocation r =
    flat_map-append relocation before (r ∷ []) ∙ ap (λ ys. relocation_table before ++ ys) (append-nil (relocation r)) in
    told_stands table n are (omega (arith, within)) ∙ ap (λ ys. relocation_table before ++ ys) here
    ∙ sym (append_assoc (relocation_table before) (relocation r) (drop (24 * suc n) table))
    ∙ ap (λ ys. ys ++ drop (24 * suc n) table) (sym written)
  where
    plus : (n : ℕ) → 24 * n + 24 ≡ 24 * suc n
    plus n = omega arith

-- the last relocation is whole
is_whole : (table : List ℕ) → relocations_fault table ≡ None → length table % 24 ≡ 0
is_whole table e = by (length table % 24 == 0) refl e
  where
    by : (b : Bool) → (length table % 24 == 0) ≡ b → (if b then None else Some (length table - length table % 24)) ≡ None → length table % 24 ≡ 0
    by true is e = eqb-true (length table % 24) 0 is
    by false is e = absurd cc

pub right_relocations : (table : List ℕ) → IsBytes table → relocations_fault table ≡ None
    → AreRelocations (relocations_told table (length table / 24)) table
right_relocations table are e =
    let n : ℕ = length table / 24 in
    let whole : 24 * n ≡ length table = counted (length table) (is_whole table e) in
    record {
      table =
          told_stands table n are (omega (arith, whole))
          ∙ ap (λ ys. relocation_table (relocations_told table n) ++ ys) (drop_all (24 * n) table (omega (arith, whole)))
          ∙ append-nil (relocation_table (relocations_told table n));
      fits = All-from_recursion FitsRelocation (relocations_told table n) (told_fits table n are);
    }
  where
    counted : (n : ℕ) → n % 24 ≡ 0 → 24 * (n / 24) ≡ n
    counted n none = omega (arith, none)

length-relocations : (rs : List Relocation) → length (relocation_table rs) ≡ 24 * length rs
length-relocations [] = refl
length-relocations (r ∷ rs) =
    length-append (relocation r) (relocation_table rs) ∙ ap (λ n. n + length (relocation_table rs)) (length-relocation r)
    ∙ ap (λ n. 24 + n) (length-relocations rs) ∙ counted (length rs)
  where
    counted : (n : ℕ) → 24 + 24 * n ≡ 24 * suc n
    counted n = omega arith

pub no_part : (table : List ℕ) (rs : List Relocation) → AreRelocations rs table → relocations_fault table ≡ None
no_part table rs are =
    let long : length table ≡ 24 * length rs = ap length are.table ∙ length-relocations rs in
    let whole : length table % 24 ≡ 0 = ap (λ n. n % 24) long ∙ none (length rs) in
    ap (λ b. if b then None else Some (length table - length table % 24)) (eq-eqb (length table % 24) 0 whole)
  where
    none : (n : ℕ) → (24 * n) % 24 ≡ 0
    none n = omega arith

-- Tables in which no field is wrong are those of the symbols that they tell.
use Rattle.std.specs.Prelude.{◌==◌, nat_lt, ◌||◌, if◌then◌else◌, replicate, Option, Some, None, Result, Ok, Err}
use Rattle.std.specs.List.{AllByRecursion}
use Rattle.std.specs.Int.{w16, w32, w64, to_le_bytes}
use Rattle.std.proofs.Common.{◌≡◌, ℕ, zero, suc, ◌+◌, ◌-◌, ◌*◌, ◌/◌, ◌%◌, ◌^◌, ◌≤◌, ◌<◌, Bool, true, false, List, [], ◌∷◌, ◌++◌, length, drop, get_or}
use Rattle.std.proofs.Common.{arith, ap, sym, subst, ◌∙◌, refl, append_assoc, length-append, inl, inr}
use Rattle.std.proofs.lemmas.Bool.{cases_Bool, cases_lt, eqb-true, lt-ltb}
use Rattle.std.proofs.lemmas.List.{append-nil, length-drop, length-replicate, drop-drop, drop_all, drop_more}
use Rattle.std.proofs.lemmas.List.Elements.{All-from_recursion}
use Rattle.elf_object.specs.declared.symbols.Symbol.{Symbol}
use Rattle.elf_object.specs.Symbols.{binding_number, type_number, is_local, name_text, name_offset, symbol, symbols_from, FitsSymbol, AreSymbols}
use Rattle.elf_object.specs.Sections.{number_at}
use Rattle.elf_object.specs.FirstFault.{judged}
use Rattle.elf_object.proofs.FaultLemmas.{first_right, judged_right, constants_right, IsBytes, IsBytes-drop, half_fits, xword_fits}
use Rattle.elf_object.proofs.FaultLemmas.{half_stands, word_stands, xword_stands}
use Rattle.elf_object.proofs.OneReading.{HasNoZero}
use Rattle.elf_object.proofs.OneTable.{names_after}
use Rattle.elf_symbols.specs.FirstFault.{name_in, info_in, is_name_at, next_name, is_binding, is_info, is_other, symbol_fault, unless, ended}
use Rattle.elf_symbols.specs.FirstFault.{names_end, count_in, null_fault, table_end, is_zero_first, names_fault, in_names, in_either, first_fault}
use Rattle.elf_symbols.specs.steps.Told.{binding_of, type_of, string_at, symbol_told, symbols_told}
use Rattle.elf_symbols.proofs.NameLemmas.{NameRight, name_right, next_small}
use Rattle.elf_symbols.proofs.InfoLemmas.{info_right, binding_right, binding_within, binding_behind, locals_of, locals_more}

-- ---- a symbol

pub record SymbolRight (names : List ℕ) (others : Bool) (name_at : ℕ) (bytes : List ℕ) : Type 0 where
  pub name : is_name_at names name_at (name_in bytes) ≡ true
  pub info : is_info others (info_in bytes) ≡ true
  pub other : get_or bytes 5 0 ≡ 0

pub symbol_right : (names : List ℕ) (at : ℕ) (others : Bool) (name_at : ℕ) (bytes : List ℕ) → symbol_fault names at others name_at bytes ≡ None
    → SymbolRight names others name_at bytes
unfolding symbol_fault
symbol_right names at others name_at bytes e =
    let name : Bool = is_name_at names name_at (name_in bytes) in
    let info : Bool = is_info others (info_in bytes) in
    let other : Bool = get_or bytes 5 0 == 0 in
    let one : Option ℕ = judged at name in
    let two : Option ℕ = judged (at + 4) info in
    let three : Option ℕ = judged (at + 5) other in
    let a = first_right one (two ∷ three ∷ []) e in
    let b = first_right two (three ∷ []) a.1 in
    let c = first_right three [] b.1 in
    record {
      name = judged_right at name a.0;
      info = judged_right (at + 4) info b.0;
      other = eqb-true (get_or bytes 5 0) 0 (judged_right (at + 5) other c.0);
    }

-- where the names end behind a symbol without a wrong field
pub name_small : (names : List ℕ) (at : ℕ) (others : Bool) (name_at : ℕ) (bytes : List ℕ) → name_at < 2 ^ 32
    → None ≡ symbol_fault names at others name_at bytes → next_name names name_at (name_in bytes) < 2 ^ 32
name_small names at others name_at bytes small none =
    next_small names name_at (name_in bytes) small (symbol_right names at others name_at bytes (sym none)).name

-- the symbol that is told stands there
symbol_stands : (names : List ℕ) (others : Bool) (name_at : ℕ) (bytes : List ℕ) → IsBytes bytes → 24 ≤ length bytes
    → SymbolRight names others name_at bytes → name_offset name_at (symbol_told names bytes).name ≡ name_in bytes
    → bytes ≡ symbol (name_offset name_at (symbol_told names bytes).name) (symbol_told names bytes) ++ drop 24 bytes
unfolding symbol
symbol_stands names others name_at bytes are long right offset =
    let info : ℕ = info_in bytes in
    let told : ℕ = 16 * binding_number (binding_of (info / 16)) + type_number (type_of (info % 16)) in
    let info_is : get_or bytes 4 0 ≡ told = (info_right others info right.info).whole in
    word_stands 0 bytes are (omega (arith, long))
    ∙ ap (λ n. to_le_bytes w32 n ++ drop 4 bytes) (sym offset)
    ∙ ap (λ ys. to_le_bytes w32 (name_offset name_at (symbol_told names bytes).name) ++ ys)
    (drop_more bytes 4 0 (omega (arith, long)) ∙ ap (λ b. b ∷ drop 5 bytes) info_is
    ∙ ap (λ ys. told ∷ ys) (drop_more bytes 5 0 (omega (arith, long)) ∙ ap (λ b. b ∷ drop 6 bytes) right.other
    ∙ ap (λ ys. 0 ∷ ys) (half_stands 6 bytes are (omega (arith, long))
    ∙ ap (λ ys. to_le_bytes w16 (number_at w16 6 bytes) ++ ys) (xword_stands 8 bytes are (omega (arith, long))
    ∙ ap (λ ys. to_le_bytes w64 (number_at w64 8 bytes) ++ ys) (xword_stands 16 bytes are (omega (arith, long)))))))

symbol_fits : (names bytes : List ℕ) → IsBytes bytes → HasNoZero (symbol_told names bytes).name → FitsSymbol (symbol_told names bytes)
symbol_fits names bytes are string = record {
  name = All-from_recursion (λ byte. 0 < byte) (symbol_told names bytes).name string;
  section = half_fits 6 bytes are;
  value = xword_fits 8 bytes are;
  size = xword_fits 16 bytes are;
}

-- whether it is local
told_local : (names : List ℕ) (others : Bool) (name_at : ℕ) (bytes : List ℕ) → SymbolRight names others name_at bytes
    → is_local (symbol_told names bytes).binding ≡ (if is_other bytes then false else true)
told_local names others name_at bytes right =
    let number : ℕ = info_in bytes / 16 in
    let info = info_right others (info_in bytes) right.info in
    (binding_right number (binding_within others number info.binding)).locality ∙ turned number
  where
    not_zero : (n : ℕ) → 0 < n → (n == 0) ≡ false
    not_zero n lt =
        elim (cases_Bool (n == 0)) [
          | inl is ↦ absurd (omega (arith, lt, eqb-true n 0 is))
          | inr is ↦ is
        ]

    turned : (n : ℕ) → (n == 0) ≡ (if nat_lt 0 n then false else true)
    turned n =
        elim (cases_lt 0 n) [
          | inl lt ↦ not_zero n lt ∙ sym (ap (λ b. if b then false else true) (lt-ltb 0 n lt))
          | inr le ↦
              (let none : n ≡ 0 = omega (arith, le) in
              subst (λ k. (k == 0) ≡ (if nat_lt 0 k then false else true)) (sym none) refl)
        ]

told_behind : (names : List ℕ) (others : Bool) (name_at : ℕ) (bytes : List ℕ) → SymbolRight names others name_at bytes → others ≡ true
    → is_other bytes ≡ true
told_behind names others name_at bytes right behind =
    let number : ℕ = info_in bytes / 16 in
    let info = info_right others (info_in bytes) right.info in
    positive number (binding_behind number (subst (λ o. is_binding o number ≡ true) behind info.binding))
  where
    positive : (n : ℕ) → 1 ≤ n → nat_lt 0 n ≡ true
    positive n le = lt-ltb 0 n (omega (arith, le))

-- ---- symbols, one after the other

-- the first of the symbols that are told
told_first : (names table : List ℕ) (n : ℕ)
    → symbols_told names table (suc n) ≡ symbol_told names (drop 24 table) ∷ symbols_told names (drop 24 table) n
told_first names table zero = refl
told_first names table (suc n) =
    let rest : List ℕ = drop 24 table in
    ap (λ (ss : List Symbol). ss ++ symbol_told names (drop (24 * suc (suc n)) table) ∷ []) (told_first names table n)
    ∙ ap (λ (ys : List ℕ). symbol_told names rest ∷ (symbols_told names rest n ++ symbol_told names ys ∷ []))
    (sym (drop-drop (24 * suc n) 24 table ∙ ap (λ k. drop k table) (plus n)))
  where
    plus : (n : ℕ) → 24 + 24 * suc n ≡ 24 * suc (suc n)
    plus n = omega arith

-- bytes are those of symbols whose names begin where others end
record Stand (names : List ℕ) (others : Bool) (name_at end : ℕ) (bytes : List ℕ) (ss : List Symbol) : Type 0 where
  table : bytes ≡ symbols_from name_at ss
  stands : drop name_at names ≡ names_after ss ++ drop end names
  fits : AllByRecursion FitsSymbol ss
  locals : locals_of others ss ≡ true
  ends : name_at + length (names_after ss) ≡ end
  small : end < 2 ^ 32

abbrev ok_or : (d : ℕ) → Result ℕ ℕ → ℕ
ok_or d (Ok n) = n
ok_or d (Err e) = d

unless_ok : (fault : Option ℕ) (rest : Result ℕ ℕ) (end : ℕ) → unless fault rest ≡ Ok end → (fault ≡ None) × (rest ≡ Ok end)
unless_ok None rest end e = (refl, e)
unless_ok (Some at) rest end e = absurd cc

-- no symbol
none_stand : (names : List ℕ) (at : ℕ) (others : Bool) (name_at end : ℕ) (bytes : List ℕ) → name_at < 2 ^ 32 → ended at name_at bytes ≡ Ok end
    → Stand names others name_at end bytes []
none_stand names at others name_at end [] small e =
    let same : name_at ≡ end = ap (ok_or name_at) e in
    record {
      table = refl;
      stands = ap (λ k. drop k names) same;
      fits = tt;
      locals = none others;
      ends = plus name_at ∙ same;
      small = subst (λ k. k < 2 ^ 32) same small;
    }
  where
    plus : (n : ℕ) → n + 0 ≡ n
    plus n = omega arith

    none : (others : Bool) → locals_of others [] ≡ true
    none true = refl
    none false = refl
none_stand names at others name_at end (byte ∷ bytes) small e = absurd cc

-- one more before some
one_stands : (names : List ℕ) (others : Bool) (name_at end : ℕ) (bytes : List ℕ) (ss : List Symbol) → IsBytes bytes → 24 ≤ length bytes
    → SymbolRight names others name_at bytes
    → NameRight names name_at (next_name names name_at (name_in bytes)) (name_in bytes) (symbol_told names bytes).name
    → Stand names (others || is_other bytes) (next_name names name_at (name_in bytes)) end (drop 24 bytes) ss
    → Stand names others name_at end bytes (symbol_told names bytes ∷ ss)
one_stands names others name_at end bytes ss are long right named rest =
    let s : Symbol = symbol_told names bytes in
    let next : ℕ = next_name names name_at (name_in bytes) in
    let first_bytes : List ℕ = symbol (name_offset name_at s.name) s in
    record {
      table =
          symbol_stands names others name_at bytes are long right named.offset_is ∙ ap (λ ys. first_bytes ++ ys) rest.table
          ∙ ap (λ n. first_bytes ++ symbols_from n ss) (sym named.long);
      stands =
          named.stands ∙ ap (λ ys. name_text s.name ++ ys) rest.stands ∙ sym (append_assoc (name_text s.name) (names_after ss) (drop end names));
      fits = (symbol_fits names bytes are named.string, rest.fits);
      locals = locals_more others (is_other bytes) s ss (told_local names others name_at bytes right) (told_behind names others name_at bytes right)
          rest.locals;
      ends = omega (arith, length-append (name_text s.name) (names_after ss), named.long, rest.ends);
      small = rest.small;
    }

-- so many
all_stand : (names : List ℕ) (at : ℕ) (others : Bool) (name_at end n : ℕ) (table : List ℕ) → names ≡ 0 ∷ drop 1 names → IsBytes table
    → 24 * (n + 1) ≤ length table → 0 < name_at → name_at < 2 ^ 32 → names_end names at others name_at n (drop 24 table) ≡ Ok end
    → Stand names others name_at end (drop 24 table) (symbols_told names table n)
all_stand names at others name_at end zero table zero_first are long positive small e = none_stand names at others name_at end (drop 24 table) small e
all_stand names at others name_at end (suc n) table zero_first are long positive small e =
    let bytes : List ℕ = drop 24 table in
    let next : ℕ = next_name names name_at (name_in bytes) in
    let others_next : Bool = others || is_other bytes in
    let found = unless_ok (symbol_fault names at others name_at bytes) (names_end names (at + 24) others_next next n (drop 24 bytes)) end e in
    let right : SymbolRight names others name_at bytes = symbol_right names at others name_at bytes found.0 in
    let named : NameRight names name_at next (name_in bytes) (string_at names (name_in bytes)) =
    name_right names name_at (name_in bytes) zero_first positive small right.name in
    let are_bytes : IsBytes bytes = IsBytes-drop 24 table are in
    let bytes_long : 24 * (n + 1) ≤ length bytes = omega (arith, long, length-drop 24 table) in
    let positive_next : 0 < next = omega (arith, named.long, positive) in
    let rest : Stand names others_next next end (drop 24 bytes) (symbols_told names bytes n) =
    all_stand names (at + 24) others_next next end n bytes zero_first are_bytes bytes_long positive_next named.small found.1 in
    subst (λ (ss : List Symbol). Stand names others name_at end bytes ss) (sym (told_first names table n))
    (one_stands names others name_at end bytes (symbols_told names bytes n) are_bytes (omega (arith, bytes_long)) right named rest)

-- ---- the tables

no_more : (fault : Option ℕ) → in_names fault ≡ None → fault ≡ None
no_more None e = refl
no_more (Some at) e = absurd cc

record NoFault (table names : List ℕ) : Type 0 where
  end : ℕ
  ends : table_end table names ≡ Ok end
  names_right : names_fault names end ≡ None

none_wrong : (table names : List ℕ) (r : Result ℕ ℕ) → table_end table names ≡ r → in_either r names ≡ None → NoFault table names
none_wrong table names (Ok end) is e = record { end = end; ends = is; names_right = no_more (names_fault names end) e }
none_wrong table names (Err at) is e = absurd cc

no_fault : (table names : List ℕ) → first_fault table names ≡ None → NoFault table names
no_fault table names e = none_wrong table names (table_end table names) refl e

zero_first_is : (names : List ℕ) → is_zero_first names ≡ true → names ≡ 0 ∷ drop 1 names
zero_first_is [] e = absurd cc
zero_first_is (byte ∷ names) e = ap (λ b. b ∷ names) (eqb-true byte 0 e)

record NamesRight (names : List ℕ) (end : ℕ) : Type 0 where
  zero_first : names ≡ 0 ∷ drop 1 names
  long : length names ≡ end

names_are_right : (names : List ℕ) (end : ℕ) → names_fault names end ≡ None → NamesRight names end
unfolding names_fault
names_are_right names end e =
    let one : Option ℕ = judged 0 (is_zero_first names) in
    let two : Option ℕ = judged end (length names == end) in
    let a = first_right one (two ∷ []) e in
    let b = first_right two [] a.1 in
    record {
      zero_first = zero_first_is names (judged_right 0 (is_zero_first names) a.0);
      long = eqb-true (length names) end (judged_right end (length names == end) b.0);
    }

-- a table whose null symbol is right begins with it
pub null_right : (table : List ℕ) → null_fault table ≡ None → table ≡ replicate 24 0 ++ drop 24 table
unfolding null_fault
null_right table e = constants_right 0 (4 ∷ 1 ∷ 1 ∷ 2 ∷ 8 ∷ 8 ∷ []) (replicate 24 0) table refl e

pub null_long : (table : List ℕ) → null_fault table ≡ None → 24 ≤ length table
null_long table e = omega (arith, ap length (null_right table e), length-append (replicate 24 0) (drop 24 table), length-replicate {A = ℕ} 24 0)

pub right_symbols : (table names : List ℕ) → IsBytes table → first_fault table names ≡ None
    → AreSymbols (symbols_told names table (count_in table)) table names
unfolding table_end
right_symbols table names are e =
    let none = no_fault table names e in
    let count : ℕ = count_in table in
    let ss : List Symbol = symbols_told names table count in
    let found = unless_ok (null_fault table) (names_end names 24 false 1 count (drop 24 table)) none.end none.ends in
    let right = names_are_right names none.end none.names_right in
    let long : 24 ≤ length table = null_long table found.0 in
    let whole : 24 * (count + 1) ≤ length table = counted (length table) long in
    let stand : Stand names false 1 none.end (drop 24 table) ss =
    all_stand names 24 false 1 none.end count table right.zero_first are whole (omega arith) (omega arith) found.1 in
    let nothing : drop none.end names ≡ [] = drop_all none.end names (omega (arith, right.long)) in
    record {
      table = null_right table found.0 ∙ ap (λ ys. replicate 24 0 ++ ys) stand.table;
      names = right.zero_first
          ∙ ap (λ ys. 0 ∷ ys) (stand.stands ∙ ap (λ ys. names_after ss ++ ys) nothing ∙ append-nil (names_after ss));
      fits = All-from_recursion FitsSymbol ss stand.fits;
      locals = stand.locals;
      long = omega (arith, right.long, stand.small);
    }
  where
    counted : (n : ℕ) → 24 ≤ n → 24 * (n / 24 - 1 + 1) ≤ n
    counted n le = omega (arith, le)

-- In the tables of symbols no field is wrong.
use Rattle.std.specs.Prelude.{◌==◌, nat_lt, ◌||◌, replicate, Option, Some, None, Result, Ok}
use Rattle.std.specs.List.{AllByRecursion}
use Rattle.std.proofs.Common.{◌≡◌, ℕ, suc, ◌+◌, ◌-◌, ◌*◌, ◌/◌, ◌^◌, ◌<◌, Bool, true, false, List, [], ◌∷◌, ◌++◌, length, drop}
use Rattle.std.proofs.Common.{arith, ap, sym, ◌∙◌, refl, length-append}
use Rattle.std.proofs.lemmas.Bool.{eq-eqb}
use Rattle.std.proofs.lemmas.Nat.{from_le_bytes-to_le_bytes_4}
use Rattle.std.proofs.lemmas.List.{drop-drop, drop_at}
use Rattle.std.proofs.lemmas.List.Elements.{recursion_from_All}
use Rattle.elf_object.specs.declared.symbols.Symbol.{Symbol}
use Rattle.elf_object.specs.Symbols.{binding_number, type_number, is_local, name_text, name_offset, symbol, symbols_from, FitsSymbol, AreSymbols}
use Rattle.elf_object.specs.FirstFault.{judged}
use Rattle.elf_object.proofs.OneTable.{length-symbol, names_after}
use Rattle.elf_object.proofs.ObjectRight.{right_first, right_judged, right_constants}
use Rattle.elf_symbols.specs.FirstFault.{name_in, info_in, is_name_at, next_name, is_info, is_other, symbol_fault, unless, names_end, count_in, null_fault}
use Rattle.elf_symbols.specs.declared.fault.SymbolsFault.{SymbolsFault}
use Rattle.elf_symbols.specs.FirstFault.{table_end, is_zero_first, names_fault, in_names, in_either, first_fault}
use Rattle.elf_symbols.proofs.NameLemmas.{right_name}
use Rattle.elf_symbols.proofs.InfoLemmas.{halves_are, type_small, right_info, locals_of, locals_less}

-- ---- the bytes of a symbol

offset_small : (at : ℕ) (name : List ℕ) → at < 2 ^ 32 → name_offset at name < 2 ^ 32
offset_small at [] small = omega arith
offset_small at (byte ∷ name) small = small

name_is : (name : ℕ) (s : Symbol) (rest : List ℕ) → name < 2 ^ 32 → name_in (symbol name s ++ rest) ≡ name
unfolding symbol
name_is name s rest small = from_le_bytes-to_le_bytes_4 name small

info_is : (name : ℕ) (s : Symbol) (rest : List ℕ)
    → info_in (symbol name s ++ rest) ≡ 16 * binding_number s.binding + type_number s.symbol_type
unfolding symbol
info_is name s rest = refl

-- no field is wrong
fault_none : (names : List ℕ) (at : ℕ) (others : Bool) (name_at name : ℕ) (s : Symbol) (rest : List ℕ) → name < 2 ^ 32
    → is_name_at names name_at name ≡ true → (others ≡ true → is_local s.binding ≡ false)
    → symbol_fault names at others name_at (symbol name s ++ rest) ≡ None
unfolding symbol_fault symbol
fault_none names at others name_at name s rest small right behind =
    let bytes : List ℕ = symbol name s ++ rest in
    let named : is_name_at names name_at (name_in bytes) ≡ true = ap (is_name_at names name_at) (name_is name s rest small) ∙ right in
    let info : is_info others (info_in bytes) ≡ true =
    ap (is_info others) (info_is name s rest) ∙ right_info others s.binding s.symbol_type behind in
    let two : Option ℕ = judged (at + 4) (is_info others (info_in bytes)) in
    let three : Option ℕ = None in
    right_first (judged at (is_name_at names name_at (name_in bytes))) (two ∷ three ∷ [])
    (right_judged at (is_name_at names name_at (name_in bytes)) named)
    (right_first two (three ∷ []) (right_judged (at + 4) (is_info others (info_in bytes)) info) (right_first three [] refl refl))

-- ---- symbols, one after the other

abbrev ok : ℕ → Result ℕ ℕ
ok end = Ok end

pub names_stand : (names : List ℕ) (at : ℕ) (others : Bool) (name_at : ℕ) (ss : List Symbol) → AllByRecursion FitsSymbol ss → locals_of others ss ≡ true
    → 0 < name_at → drop name_at names ≡ names_after ss → name_at + length (names_after ss) < 2 ^ 32
    → names_end names at others name_at (length ss) (symbols_from name_at ss) ≡ Ok (name_at + length (names_after ss))
names_stand names at others name_at [] fits locals positive stands small = ap ok (plus name_at)
  where
    plus : (n : ℕ) → n ≡ n + 0
    plus n = omega arith
names_stand names at others name_at (s ∷ ss) fits locals positive stands small =
    let offset : ℕ = name_offset name_at s.name in
    let text_long : ℕ = length (name_text s.name) in
    let after : List ℕ = symbols_from (name_at + text_long) ss in
    let bytes : List ℕ = symbol offset s ++ after in
    let all_long : length (names_after (s ∷ ss)) ≡ text_long + length (names_after ss) = length-append (name_text s.name) (names_after ss) in
    let small_at : name_at < 2 ^ 32 = omega (arith, small) in
    let small_here : name_at + text_long < 2 ^ 32 = omega (arith, small, all_long) in
    let name = right_name names (names_after ss) name_at s.name positive (recursion_from_All (λ byte. 0 < byte) s.name fits.0.name) stands small_here in
    let small_offset : offset < 2 ^ 32 = offset_small name_at s.name small_at in
    let less = locals_less others s ss locals in
    let none : symbol_fault names at others name_at bytes ≡ None =
    fault_none names at others name_at offset s after small_offset name.right less.behind in
    let next : next_name names name_at (name_in bytes) ≡ name_at + text_long =
    ap (next_name names name_at) (name_is offset s after small_offset) ∙ name.next in
    let other : is_other bytes ≡ nat_lt 0 (binding_number s.binding) =
    ap (λ n. nat_lt 0 (n / 16)) (info_is offset s after)
    ∙ ap (nat_lt 0) (halves_are (binding_number s.binding) (type_number s.symbol_type) (type_small s.symbol_type)).0 in
    let behind : drop 24 bytes ≡ after = drop_at (symbol offset s) after 24 (length-symbol offset s) in
    let later : drop (name_at + text_long) names ≡ names_after ss =
    sym (drop-drop text_long name_at names) ∙ ap (drop text_long) stands ∙ drop_at (name_text s.name) (names_after ss) text_long refl in
    let rest : names_end names (at + 24) (others || nat_lt 0 (binding_number s.binding)) (name_at + text_long) (length ss) after
    ≡ Ok (name_at + text_long + length (names_after ss)) =
    names_stand names (at + 24) (others || nat_lt 0 (binding_number s.binding)) (name_at + text_long) ss fits.1 less.rest (omega (arith, positive)) later
    (omega (arith, small, all_long)) in
    let whole : name_at + text_long + length (names_after ss) ≡ name_at + length (names_after (s ∷ ss)) = omega (arith, all_long) in
    ap (λ f. unless f (names_end names (at + 24) (others || is_other bytes) (next_name names name_at (name_in bytes)) (length ss) (drop 24 bytes))) none
    ∙ ap (λ o. names_end names (at + 24) (others || o) (next_name names name_at (name_in bytes)) (length ss) (drop 24 bytes)) other
    ∙ ap (λ n. names_end names (at + 24) (others || nat_lt 0 (binding_number s.binding)) n (length ss) (drop 24 bytes)) next
    ∙ ap (λ ys. names_end names (at + 24) (others || nat_lt 0 (binding_number s.binding)) (name_at + text_long) (length ss) ys) behind
    ∙ rest ∙ ap ok whole

-- ---- the tables

length-symbols : (at : ℕ) (ss : List Symbol) → length (symbols_from at ss) ≡ 24 * length ss
length-symbols at [] = refl
length-symbols at (s ∷ ss) =
    let next : ℕ = at + length (name_text s.name) in
    length-append (symbol (name_offset at s.name) s) (symbols_from next ss)
    ∙ ap (λ n. n + length (symbols_from next ss)) (length-symbol (name_offset at s.name) s) ∙ ap (λ n. 24 + n) (length-symbols next ss)
    ∙ counted (length ss)
  where
    counted : (n : ℕ) → 24 + 24 * n ≡ 24 * suc n
    counted n = omega arith

count_is : (table names : List ℕ) (ss : List Symbol) → AreSymbols ss table names → count_in table ≡ length ss
count_is table names ss are =
    let null : List ℕ = replicate 24 0 in
    let long : length table ≡ 24 + 24 * length ss =
    ap length are.table ∙ length-append null (symbols_from 1 ss) ∙ ap (λ n. 24 + n) (length-symbols 1 ss) in
    ap (λ n. n / 24 - 1) long ∙ counted (length ss)
  where
    counted : (n : ℕ) → (24 + 24 * n) / 24 - 1 ≡ n
    counted n = omega arith

null_none : (table names : List ℕ) (ss : List Symbol) → AreSymbols ss table names → null_fault table ≡ None
unfolding null_fault
null_none table names ss are = right_constants 0 (4 ∷ 1 ∷ 1 ∷ 2 ∷ 8 ∷ 8 ∷ []) (replicate 24 0) table (symbols_from 1 ss) refl are.table

names_none : (names rest : List ℕ) (end : ℕ) → names ≡ 0 ∷ rest → length names ≡ end → names_fault names end ≡ None
unfolding names_fault
names_none names rest end zero_first long =
    let one : Option ℕ = judged 0 (is_zero_first names) in
    let two : Option ℕ = judged end (length names == end) in
    right_first one (two ∷ []) (right_judged 0 (is_zero_first names) (ap is_zero_first zero_first))
    (right_first two [] (right_judged end (length names == end) (eq-eqb (length names) end long)) refl)

pub no_first_fault : (table names : List ℕ) (ss : List Symbol) → AreSymbols ss table names → first_fault table names ≡ None
unfolding table_end
no_first_fault table names ss are =
    let rest : List ℕ = names_after ss in
    let end : ℕ = 1 + length rest in
    let stands : drop 1 names ≡ rest = ap (drop 1) are.names in
    let long : length names ≡ end = ap length are.names ∙ plus (length rest) in
    let behind : drop 24 table ≡ symbols_from 1 ss = ap (drop 24) are.table in
    let ends : names_end names 24 false 1 (count_in table) (drop 24 table) ≡ Ok end =
    ap (λ n. names_end names 24 false 1 n (drop 24 table)) (count_is table names ss are)
    ∙ ap (λ ys. names_end names 24 false 1 (length ss) ys) behind
    ∙ names_stand names 24 false 1 ss (recursion_from_All FitsSymbol ss are.fits) are.locals (omega arith) stands (omega (arith, are.long, long)) in
    ap (λ f. in_either (unless f (names_end names 24 false 1 (count_in table) (drop 24 table))) names) (null_none table names ss are)
    ∙ ap (λ r. in_either r names) ends ∙ ap in_names (names_none names rest end are.names long)
  where
    plus : (n : ℕ) → suc n ≡ 1 + n
    plus n = omega arith

pub no_fault_there : (r : Option SymbolsFault) (fault : SymbolsFault) → r ≡ Some fault → r ≡ None → ⊥
no_fault_there r fault e none = let wrong : Some fault ≡ None = sym e ∙ none in absurd cc

-- The bytes of symbols and of relocations are those of at most one list.
use Rattle.std.specs.Prelude.{replicate}
use Rattle.std.specs.List.{flat_map, AllByRecursion}
use Rattle.std.proofs.Common.{◌≡◌, ℕ, suc, ◌+◌, ◌*◌, ◌^◌, ◌<◌, List, [], ◌∷◌, ◌++◌, length, get_or, arith, ap, sym, ◌∙◌, refl, length-append}
use Rattle.std.proofs.lemmas.List.Elements.{recursion_from_All}
use Rattle.std.proofs.lemmas.Nat.{from_le_bytes-to_le_bytes_2, from_le_bytes-to_le_bytes_4, from_le_bytes-to_le_bytes_8}
use Rattle.elf_object.specs.declared.relocations.Relocation.{Relocation}
use Rattle.elf_object.specs.Relocations.{relocation, relocation_table, FitsRelocation, AreRelocations}
use Rattle.elf_object.specs.declared.symbols.Binding.{Binding}
use Rattle.elf_object.specs.declared.symbols.Binding.TheVariants.{Local, Global, Weak}
use Rattle.elf_object.specs.declared.symbols.SymbolType.{SymbolType}
use Rattle.elf_object.specs.declared.symbols.SymbolType.TheVariants.{NoType, Function, Section}
use Rattle.elf_object.specs.declared.symbols.Symbol.{Symbol}
use Rattle.elf_object.specs.Symbols.{binding_number, type_number, name_text, name_offset, symbol, symbols_from, FitsSymbol, AreSymbols}
use Rattle.elf_object.proofs.HeaderLemmas.{half_at, word_at, xword_at}
use Rattle.elf_object.proofs.OneReading.{cut, HasNoZero, text_one, tails_one}

-- ---- relocations

pub length-relocation : (r : Relocation) → length (relocation r) ≡ 24
unfolding relocation
length-relocation r = refl

record RelocationFields (bytes : List ℕ) (r : Relocation) : Type 0 where
  pub offset : xword_at 0 bytes ≡ r.offset
  pub relocation_type : word_at 8 bytes ≡ r.relocation_type
  pub symbol : word_at 12 bytes ≡ r.symbol
  pub addend : xword_at 16 bytes ≡ r.addend

relocation_fields : (r : Relocation) → FitsRelocation r → RelocationFields (relocation r) r
unfolding relocation
relocation_fields r fits = record {
  offset = from_le_bytes-to_le_bytes_8 r.offset fits.offset;
  relocation_type = from_le_bytes-to_le_bytes_4 r.relocation_type fits.relocation_type;
  symbol = from_le_bytes-to_le_bytes_4 r.symbol fits.symbol;
  addend = from_le_bytes-to_le_bytes_8 r.addend fits.addend;
}

same_relocation : (r q : Relocation) (x y : List ℕ) → x ≡ y → RelocationFields x r → RelocationFields y q → r ≡ q
same_relocation r q x y e fr fq =
    let offset : r.offset ≡ q.offset = sym fr.offset ∙ ap (xword_at 0) e ∙ fq.offset in
    let relocation_type : r.relocation_type ≡ q.relocation_type = sym fr.relocation_type ∙ ap (word_at 8) e ∙ fq.relocation_type in
    let symbol : r.symbol ≡ q.symbol = sym fr.symbol ∙ ap (word_at 12) e ∙ fq.symbol in
    let addend : r.addend ≡ q.addend = sym fr.addend ∙ ap (xword_at 16) e ∙ fq.addend in
    λ i. record { offset = offset i; symbol = symbol i; relocation_type = relocation_type i; addend = addend i }

no_part : (x y : List ℕ) (n : ℕ) → length x ≡ suc n → [] ≡ x ++ y → ⊥
no_part x y n long e = let whole : 0 ≡ length (x ++ y) = ap length e in omega (arith, whole, length-append x y, long)

relocations_one : (xs ys : List Relocation) → AllByRecursion FitsRelocation xs → AllByRecursion FitsRelocation ys
    → relocation_table xs ≡ relocation_table ys → xs ≡ ys
relocations_one [] [] fits_x fits_y e = refl
relocations_one [] (q ∷ ys) fits_x fits_y e = absurd (no_part (relocation q) (relocation_table ys) 23 (length-relocation q) e)
relocations_one (r ∷ xs) [] fits_x fits_y e = absurd (no_part (relocation r) (relocation_table xs) 23 (length-relocation r) (sym e))
relocations_one (r ∷ xs) (q ∷ ys) fits_x fits_y e =
    let parts = cut (relocation r) (relocation q) (relocation_table xs) (relocation_table ys) (length-relocation r ∙ sym (length-relocation q)) e in
    let first : r ≡ q =
    same_relocation r q (relocation r) (relocation q) parts.0 (relocation_fields r fits_x.0) (relocation_fields q fits_y.0) in
    let rest : xs ≡ ys = relocations_one xs ys fits_x.1 fits_y.1 parts.1 in
    ap (λ x. x ∷ xs) first ∙ ap (λ zs. q ∷ zs) rest

pub one_relocations : (table : List ℕ) (a b : List Relocation) → AreRelocations a table → AreRelocations b table → a ≡ b
one_relocations table a b is_a is_b =
    relocations_one a b (recursion_from_All FitsRelocation a is_a.fits) (recursion_from_All FitsRelocation b is_b.fits)
    (sym is_a.table ∙ is_b.table)

-- ---- symbols

binding_one : (a b : Binding) → binding_number a ≡ binding_number b → a ≡ b
binding_one Local Local e = refl
binding_one Local Global e = absurd (omega (arith, e))
binding_one Local Weak e = absurd (omega (arith, e))
binding_one Global Local e = absurd (omega (arith, e))
binding_one Global Global e = refl
binding_one Global Weak e = absurd (omega (arith, e))
binding_one Weak Local e = absurd (omega (arith, e))
binding_one Weak Global e = absurd (omega (arith, e))
binding_one Weak Weak e = refl

type_one : (a b : SymbolType) → type_number a ≡ type_number b → a ≡ b
type_one NoType NoType e = refl
type_one NoType Function e = absurd (omega (arith, e))
type_one NoType Section e = absurd (omega (arith, e))
type_one Function NoType e = absurd (omega (arith, e))
type_one Function Function e = refl
type_one Function Section e = absurd (omega (arith, e))
type_one Section NoType e = absurd (omega (arith, e))
type_one Section Function e = absurd (omega (arith, e))
type_one Section Section e = refl

type_small : (a : SymbolType) → type_number a < 4
type_small NoType = omega arith
type_small Function = omega arith
type_small Section = omega arith

pub length-symbol : (name : ℕ) (s : Symbol) → length (symbol name s) ≡ 24
unfolding symbol
length-symbol name s = refl

record SymbolFields (bytes : List ℕ) (offset : ℕ) (s : Symbol) : Type 0 where
  pub name : word_at 0 bytes ≡ offset
  pub info : get_or bytes 4 0 ≡ 16 * binding_number s.binding + type_number s.symbol_type
  pub section : half_at 6 bytes ≡ s.section
  pub value : xword_at 8 bytes ≡ s.value
  pub size : xword_at 16 bytes ≡ s.size

symbol_fields : (name : ℕ) (s : Symbol) → name < 2 ^ 32 → FitsSymbol s → SymbolFields (symbol name s) name s
unfolding symbol
symbol_fields name s small fits = record {
  name = from_le_bytes-to_le_bytes_4 name small;
  info = refl;
  section = from_le_bytes-to_le_bytes_2 s.section fits.section;
  value = from_le_bytes-to_le_bytes_8 s.value fits.value;
  size = from_le_bytes-to_le_bytes_8 s.size fits.size;
}

-- which part of a sum each of two numbers is
parts_of : (m n i j : ℕ) → 16 * m + i ≡ 16 * n + j → i < 4 → j < 4 → (m ≡ n) × (i ≡ j)
parts_of m n i j e below_i below_j = (omega (arith, e, below_i, below_j), omega (arith, e, below_i, below_j))

same_symbol : (s t : Symbol) (m n : ℕ) (x y : List ℕ) → x ≡ y → SymbolFields x m s → SymbolFields y n t → s.name ≡ t.name → s ≡ t
same_symbol s t m n x y e fs ft name =
    let info = parts_of (binding_number s.binding) (binding_number t.binding) (type_number s.symbol_type) (type_number t.symbol_type)
    (sym fs.info ∙ ap (λ (b : List ℕ). get_or b 4 0) e ∙ ft.info) (type_small s.symbol_type) (type_small t.symbol_type) in
    let binding : s.binding ≡ t.binding = binding_one s.binding t.binding info.0 in
    let symbol_type : s.symbol_type ≡ t.symbol_type = type_one s.symbol_type t.symbol_type info.1 in
    let section : s.section ≡ t.section = sym fs.section ∙ ap (half_at 6) e ∙ ft.section in
    let value : s.value ≡ t.value = sym fs.value ∙ ap (xword_at 8) e ∙ ft.value in
    let size : s.size ≡ t.size = sym fs.size ∙ ap (xword_at 16) e ∙ ft.size in
    λ i. record {
      name = name i;
      binding = binding i;
      symbol_type = symbol_type i;
      section = section i;
      value = value i;
      size = size i;
    }

-- the offset of a name tells whether it is empty, and then the table of names tells it
name_one : (at : ℕ) (a b x y : List ℕ) → 0 < at → HasNoZero a → HasNoZero b → name_offset at a ≡ name_offset at b → name_text a ++ x ≡ name_text b ++ y
    → (a ≡ b) × (x ≡ y)
name_one at [] [] x y some is_a is_b same e = (refl, e)
name_one at [] (n ∷ b) x y some is_a is_b same e = absurd (omega (arith, some, same))
name_one at (m ∷ a) [] x y some is_a is_b same e = absurd (omega (arith, some, same))
name_one at (m ∷ a) (n ∷ b) x y some is_a is_b same e = text_one (m ∷ a) (n ∷ b) x y is_a is_b e

offset_small : (at : ℕ) (name : List ℕ) → at < 2 ^ 32 → name_offset at name < 2 ^ 32
offset_small at [] small = omega arith
offset_small at (byte ∷ name) small = small

abbrev pub names_after : List Symbol → List ℕ
names_after symbols = flat_map (λ (s : Symbol). name_text s.name) symbols

symbols_one : (at : ℕ) (xs ys : List Symbol) → 0 < at → at + length (names_after xs) < 2 ^ 32 → AllByRecursion FitsSymbol xs
    → AllByRecursion FitsSymbol ys → symbols_from at xs ≡ symbols_from at ys → names_after xs ≡ names_after ys → xs ≡ ys
symbols_one at [] [] some small fits_x fits_y e names = refl
symbols_one at [] (t ∷ ys) some small fits_x fits_y e names =
    absurd (no_part (symbol (name_offset at t.name) t) (symbols_from (at + length (name_text t.name)) ys) 23 (length-symbol (name_offset at t.name) t) e)
symbols_one at (s ∷ xs) [] some small fits_x fits_y e names =
    absurd (no_part (symbol (name_offset at s.name) s) (symbols_from (at + length (name_text s.name)) xs) 23 (length-symbol (name_offset at s.name) s)
    (sym e))
symbols_one at (s ∷ xs) (t ∷ ys) some small fits_x fits_y e names =
    let next : ℕ = at + length (name_text s.name) in
    let small_at : at < 2 ^ 32 = omega (arith, small) in
    let first_s : List ℕ = symbol (name_offset at s.name) s in
    let first_t : List ℕ = symbol (name_offset at t.name) t in
    let parts = cut first_s first_t (symbols_from next xs) (symbols_from (at + length (name_text t.name)) ys)
    (length-symbol (name_offset at s.name) s ∙ sym (length-symbol (name_offset at t.name) t)) e in
    let fs : SymbolFields first_s (name_offset at s.name) s =
    symbol_fields (name_offset at s.name) s (offset_small at s.name small_at) fits_x.0 in
    let ft : SymbolFields first_t (name_offset at t.name) t =
    symbol_fields (name_offset at t.name) t (offset_small at t.name small_at) fits_y.0 in
    let offset : name_offset at s.name ≡ name_offset at t.name = sym fs.name ∙ ap (word_at 0) parts.0 ∙ ft.name in
    let name = name_one at s.name t.name (names_after xs) (names_after ys) some (recursion_from_All (λ byte. 0 < byte) s.name fits_x.0.name)
    (recursion_from_All (λ byte. 0 < byte) t.name fits_y.0.name) offset names in
    let first : s ≡ t = same_symbol s t (name_offset at s.name) (name_offset at t.name) first_s first_t parts.0 fs ft name.0 in
    let some_next : 0 < next = omega (arith, some) in
    let small_next : next + length (names_after xs) < 2 ^ 32 = omega (arith, small, length-append (name_text s.name) (names_after xs)) in
    let rest : xs ≡ ys =
    symbols_one next xs ys some_next small_next fits_x.1 fits_y.1
    (parts.1 ∙ ap (λ (n : List ℕ). symbols_from (at + length (name_text n)) ys) (sym name.0)) name.1 in
    ap (λ x. x ∷ xs) first ∙ ap (λ zs. t ∷ zs) rest

pub one_symbols : (table names : List ℕ) (a b : List Symbol) → AreSymbols a table names → AreSymbols b table names → a ≡ b
one_symbols table names a b is_a is_b =
    let null : List ℕ = replicate 24 0 in
    let tables = cut null null (symbols_from 1 a) (symbols_from 1 b) refl (sym is_a.table ∙ is_b.table) in
    let strings : names_after a ≡ names_after b = tails_one 0 0 (names_after a) (names_after b) (sym is_a.names ∙ is_b.names) in
    symbols_one 1 a b (omega arith) (omega (arith, ap length is_a.names, is_a.long)) (recursion_from_All FitsSymbol a is_a.fits)
    (recursion_from_All FitsSymbol b is_b.fits) tables.1 strings

-- The file of an object isn't shorter than its symbols and their names.
use Rattle.std.specs.Prelude.{codes, replicate}
use Rattle.std.proofs.Common.{◌≡◌, ℕ, suc, ◌+◌, ◌*◌, ◌^◌, ◌≤◌, List, [], ◌∷◌, ◌++◌, length, refl, sym, ap, ◌∙◌, subst, arith, length-append}
use Rattle.std.proofs.lemmas.List.{length-replicate}
use Rattle.listing_text.specs.declared.output.Output.{Output}
use Rattle.elf_object.specs.declared.object.Section.{Section}
use Rattle.elf_object.specs.declared.object.Object.{Object}
use Rattle.elf_object.specs.declared.symbols.Symbol.{Symbol}
use Rattle.elf_object.specs.Spelling.{aligned, contents, spelling}
use Rattle.elf_object.specs.Symbols.{name_text, name_offset, symbol, symbols_from, symbol_names, symbol_table}
use Rattle.elf_object.proofs.ContentLemmas.{length-contents}
use Rattle.elf_object.proofs.SpellingLemmas.{contents_below}
use Rattle.elf_object.proofs.OneTable.{length-symbol}
use Rattle.object_command.specs.Object.{symbols_of, relocations_of, text_section, relocation_section, debug_section, symbol_section, name_section, object_of}

-- ---- one section

part : (end len rest whole : ℕ) → whole ≡ (end + len) + rest → len ≤ whole
part end len rest whole e = omega (arith, e)

pub through : (a b c : ℕ) → a ≤ b → b ≤ c → a ≤ c
through a b c first second = omega (arith, first, second)

behind : (at : ℕ) (front : List Section) (s : Section) (rest : List Section)
    → length s.bytes ≤ at + length (contents at (front ++ s ∷ rest))
behind at [] s rest = part (aligned at) (length s.bytes) _ _ (length-contents at s rest)
behind at (t ∷ front) s rest =
    subst (λ n. length s.bytes ≤ n) (sym (length-contents at t (front ++ s ∷ rest))) (behind (aligned at + length t.bytes) front s rest)

pub within_file : (o : Object) (front : List Section) (s : Section) (rest : List Section) → o.sections ≡ front ++ s ∷ rest
    → length s.bytes ≤ length (spelling o)
within_file o front s rest e =
    through (length s.bytes) (64 + length (contents 64 o.sections)) (length (spelling o))
    (subst (λ ss. length s.bytes ≤ 64 + length (contents 64 ss)) (sym e) (behind 64 front s rest)) (contents_below o)

-- ---- the symbols

length-symbols : (at : ℕ) (ss : List Symbol) → length (symbols_from at ss) ≡ 24 * length ss
length-symbols at [] = refl
length-symbols at (s ∷ rest) =
    let one : List ℕ = symbol (name_offset at s.name) s in
    let others : List ℕ = symbols_from (at + length (name_text s.name)) rest in
    length-append one others ∙ ap (λ n. n + length others) (length-symbol (name_offset at s.name) s)
    ∙ ap (λ n. 24 + n) (length-symbols (at + length (name_text s.name)) rest) ∙ counted (length rest)
  where
    counted : (n : ℕ) → 24 + 24 * n ≡ 24 * suc n
    counted n = omega arith

pub length-table : (ss : List Symbol) → length (symbol_table ss) ≡ 24 + 24 * length ss
length-table ss =
    length-append (replicate 24 0) (symbols_from 1 ss) ∙ ap (λ n. n + length (symbols_from 1 ss)) (length-replicate {A = ℕ} 24 0)
    ∙ ap (λ n. 24 + n) (length-symbols 1 ss)

-- the sections before those of the symbols
abbrev front_of : Output → List Section
front_of o =
    text_section o.text ∷ relocation_section (relocations_of o.functions) ∷ debug_section (codes ".debug_abbrev") o.abbreviations
    ∷ debug_section (codes ".debug_info") o.info ∷ debug_section (codes ".debug_line") o.rows
    ∷ debug_section (codes ".debug_loclists") o.loclists ∷ []

pub many_symbols : (o : Output) → 2 ^ 27 ≤ length (symbols_of o.functions) → 2 ^ 31 ≤ length (spelling (object_of o))
many_symbols o many =
    let ss : List Symbol = symbols_of o.functions in
    through (2 ^ 31) (length (symbol_table ss)) (length (spelling (object_of o)))
    (large (length ss) (length (symbol_table ss)) many (length-table ss))
    (within_file (object_of o) (front_of o) (symbol_section ss) (name_section ss ∷ []) refl)
  where
    large : (n table : ℕ) → 2 ^ 27 ≤ n → table ≡ 24 + 24 * n → 2 ^ 31 ≤ table
    large n table many is = omega (arith, many, is)

pub long_names : (o : Output) → 2 ^ 31 ≤ length (symbol_names (symbols_of o.functions)) → 2 ^ 31 ≤ length (spelling (object_of o))
long_names o long =
    let ss : List Symbol = symbols_of o.functions in
    through (2 ^ 31) (length (symbol_names ss)) (length (spelling (object_of o))) long
    (within_file (object_of o) (front_of o ++ symbol_section ss ∷ []) (name_section ss) [] refl)

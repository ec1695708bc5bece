-- No symbol of an output's object is local, but for the null one.
use Rattle.std.specs.Prelude.{count_by}
use Rattle.std.specs.List.{list_any}
use Rattle.std.proofs.Common.{◌≡◌, ◌+◌, Bool, true, false, cond, if◌then◌else◌, List, [], ◌∷◌, ◌++◌, map, refl, sym, ap, ◌∙◌, true≢false}
use Rattle.std.proofs.lemmas.List.Sums.{sum_by-cons}
use Rattle.dwarf_line_table.specs.Files.{with_new, first_uses}
use Rattle.elf_object.specs.declared.symbols.Symbol.{Symbol}
use Rattle.elf_object.specs.Symbols.{is_local, none_local, locals_first, LocalsFirst, first_global}
use Rattle.listing_text.specs.declared.output.ListedFunction.{ListedFunction}
use Rattle.object_command.specs.declared.calls.CallSite.{CallSite}
use Rattle.object_command.specs.Calls.{call_sites}
use Rattle.object_command.specs.Object.{have_one_name, defined_symbol, undefined_symbol, symbols_of}

-- ---- lists without a local symbol

pub none_parts : (s : Symbol) (ss : List Symbol) → none_local (s ∷ ss) ≡ true → (is_local s.binding ≡ false) × (none_local ss ≡ true)
none_parts s ss e = by (is_local s.binding) e
  where
    by : (b : Bool) → (if b then false else none_local ss) ≡ true → (b ≡ false) × (none_local ss ≡ true)
    by true none = absurd (true≢false (sym none))
    by false none = (refl, none)

pub none_more : (s : Symbol) (ss : List Symbol) → is_local s.binding ≡ false → none_local ss ≡ true → none_local (s ∷ ss) ≡ true
none_more s ss e none = ap (λ b. if b then false else none_local ss) e ∙ none

pub none_append : (ss more : List Symbol) → none_local ss ≡ true → none_local more ≡ true → none_local (ss ++ more) ≡ true
none_append [] more none others = others
none_append (s ∷ ss) more none others =
    let parts = none_parts s ss none in none_more s (ss ++ more) parts.0 (none_append ss more parts.1 others)

none_with : (known : List Symbol) (s : Symbol) → none_local known ≡ true → is_local s.binding ≡ false
    → none_local (with_new have_one_name known s) ≡ true
none_with known s none e = by (list_any (have_one_name s) known)
  where
    by : (b : Bool) → none_local (if b then known else known ++ s ∷ []) ≡ true
    by true = none
    by false = none_append known (s ∷ []) none (none_more s [] e refl)

pub none_used : (known ss : List Symbol) → none_local known ≡ true → none_local ss ≡ true → none_local (first_uses have_one_name known ss) ≡ true
none_used known [] none others = none
none_used known (s ∷ ss) none others =
    let parts = none_parts s ss others in none_used (with_new have_one_name known s) ss (none_with known s none parts.0) parts.1

pub none_defined : (functions : List ListedFunction) → none_local (map defined_symbol functions) ≡ true
none_defined [] = refl
none_defined (f ∷ functions) = none_defined functions

none_undefined : (sites : List CallSite) → none_local (map undefined_symbol sites) ≡ true
none_undefined [] = refl
none_undefined (c ∷ sites) = none_undefined sites

none_of : (functions : List ListedFunction) → none_local (symbols_of functions) ≡ true
none_of functions =
    none_used [] (map defined_symbol functions ++ map undefined_symbol (call_sites functions)) refl
    (none_append (map defined_symbol functions) (map undefined_symbol (call_sites functions)) (none_defined functions)
    (none_undefined (call_sites functions)))

-- ---- what follows

pub first_of : (ss : List Symbol) → none_local ss ≡ true → locals_first ss ≡ true
first_of [] none = refl
first_of (s ∷ ss) none =
    let parts = none_parts s ss none in ap (λ b. if b then locals_first ss else none_local ss) parts.0 ∙ parts.1

pub symbols_first : (functions : List ListedFunction) → LocalsFirst (symbols_of functions)
symbols_first functions = first_of (symbols_of functions) (none_of functions)

count_none : (ss : List Symbol) → none_local ss ≡ true → count_by (λ s. is_local s.binding) ss ≡ 0
count_none [] none = refl
count_none (s ∷ ss) none =
    let parts = none_parts s ss none in
    sum_by-cons (λ (t : Symbol). cond (is_local t.binding) 1 0) s ss
    ∙ ap (λ b. cond b 1 0 + count_by (λ t. is_local t.binding) ss) parts.0 ∙ ap (λ n. 0 + n) (count_none ss parts.1)

pub first_is : (functions : List ListedFunction) → first_global (symbols_of functions) ≡ 1
first_is functions = ap (λ n. 1 + n) (count_none (symbols_of functions) (none_of functions))

-- Symbols and their names side by side, and the relocations of call sites.
use Rattle.std.proofs.Common.{◌≡◌, ℕ, suc, ◌+◌, ◌^◌, ◌≤◌, Bool, true, false, cond, not, ◌||◌, if◌then◌else◌, List, [], ◌∷◌, ◌++◌, length, map, take}
use Rattle.std.proofs.Common.{refl, sym, ap, ◌∙◌, arith, append_assoc, length-append, subst}
use Rattle.std.specs.List.{list_any, position_or_len}
use Rattle.std.proofs.lemmas.List.{map-append}
use Rattle.std.proofs.lemmas.List.Sums.{prefix_len-le-length}
use Rattle.dwarf_line_table.specs.Files.{is_name, with_new, first_uses}
use Rattle.dwarf_line_table.proofs.FirstUses.{number_kept, joined_only, lengthened, uses_append}
use Rattle.dwarf_line_table.proofs.Keys.{name_same}
use Rattle.elf_object.specs.declared.symbols.Symbol.{Symbol}
use Rattle.elf_object.specs.declared.relocations.Relocation.{Relocation}
use Rattle.object_command.specs.declared.calls.CallSite.{CallSite}
use Rattle.listing_text.specs.declared.output.ListedFunction.{ListedFunction}
use Rattle.object_command.specs.Calls.{call_sites}
use Rattle.object_command.specs.Object.{have_one_name, defined_symbol, undefined_symbol, symbols_of, relocation_of}

-- ---- names

-- the names of symbols
abbrev pub names_of : List Symbol → List (List ℕ)
names_of symbols = map (λ s. s.name) symbols

any_named : (s : Symbol) (ss : List Symbol) → list_any (is_name s.name) (names_of ss) ≡ list_any (have_one_name s) ss
any_named s [] = refl
any_named s (t ∷ ts) = ap (λ b. is_name s.name t.name || b) (any_named s ts)

place_named : (s : Symbol) (ss : List Symbol) → position_or_len (is_name s.name) (names_of ss) ≡ position_or_len (have_one_name s) ss
place_named s [] = refl
place_named s (t ∷ ts) = ap (λ n. cond (not (is_name s.name t.name)) (1 + n) 0) (place_named s ts)

names_with : (s : Symbol) (ss : List Symbol) → with_new is_name (names_of ss) s.name ≡ names_of (with_new have_one_name ss s)
names_with s ss =
    ap (λ b. if b then names_of ss else names_of ss ++ s.name ∷ []) (any_named s ss) ∙ by (list_any (have_one_name s) ss)
  where
    by : (b : Bool) → (if b then names_of ss else names_of ss ++ s.name ∷ []) ≡ names_of (if b then ss else ss ++ s ∷ [])
    by true = refl
    by false = sym (map-append (λ (t : Symbol). t.name) ss (s ∷ []))

-- a symbol's place is behind the others exactly if it is new
new_place : (p : Symbol → Bool) (ss : List Symbol) → position_or_len p ss ≡ length ss → list_any p ss ≡ false
new_place p [] e = refl
new_place p (t ∷ ts) e = by (p t) e (new_place p ts)
  where
    by : (b : Bool) → cond (not b) (1 + position_or_len p ts) 0 ≡ suc (length ts) → (position_or_len p ts ≡ length ts → list_any p ts ≡ false)
        → (b || list_any p ts) ≡ false
    by true e rest = absurd (omega (arith, e))
    by false e rest = rest (omega (arith, e))

old_place : (p : Symbol → Bool) (ss : List Symbol) → (position_or_len p ss ≡ length ss → ⊥) → list_any p ss ≡ true
old_place p [] ne = absurd (ne refl)
old_place p (t ∷ ts) ne = by (p t) ne (old_place p ts)
  where
    by : (b : Bool) → (cond (not b) (1 + position_or_len p ts) 0 ≡ suc (length ts) → ⊥)
        → ((position_or_len p ts ≡ length ts → ⊥) → list_any p ts ≡ true) → (b || list_any p ts) ≡ true
    by true ne rest = refl
    by false ne rest = rest (λ e. ne (omega (arith, e)))

-- one more name, by its place among the names
module _ (s : Symbol) (ss : List Symbol) (names next : List (List ℕ)) (index : ℕ) (same : names ≡ names_of ss)
    (known : next ≡ with_new is_name names s.name) (place : (more : List (List ℕ)) → index ≡ position_or_len (is_name s.name) (next ++ more)) where
  pub place_is : index ≡ position_or_len (have_one_name s) ss
  place_is =
      place []
      ∙ ap (λ xs. position_or_len (is_name s.name) (xs ++ [])) known
      ∙ number_kept is_name name_same names [] s.name
      ∙ ap (λ xs. position_or_len (is_name s.name) xs) same
      ∙ place_named s ss

  pub place_within : index ≤ length ss
  place_within = let front = prefix_len-le-length (λ t. not (have_one_name s t)) ss in omega (arith, place_is, front)

  pub index_is : (more : List Symbol) → index ≡ position_or_len (have_one_name s) (with_new have_one_name ss s ++ more)
  index_is more = place_is ∙ sym (number_kept have_one_name (λ t. name_same t.name) ss more s)

  pub names_are : next ≡ names_of (with_new have_one_name ss s)
  names_are = known ∙ ap (λ xs. with_new is_name xs s.name) same ∙ names_with s ss

  pub joins : index ≡ length ss → with_new have_one_name ss s ≡ ss ++ s ∷ []
  joins e = ap (λ b. if b then ss else ss ++ s ∷ []) (new_place (have_one_name s) ss (sym place_is ∙ e))

  pub stays : (index ≡ length ss → ⊥) → with_new have_one_name ss s ≡ ss
  stays ne = ap (λ b. if b then ss else ss ++ s ∷ []) (old_place (have_one_name s) ss (λ e. ne (place_is ∙ e)))

-- ---- how many there are

pub length_uses : (known xs : List Symbol) → length known ≤ length (first_uses have_one_name known xs)
length_uses known xs =
    let more = lengthened have_one_name known xs in
    omega (arith, ap length more.1, length-append known more.0)

pub too_many : (known xs whole : List Symbol) (n : ℕ) → 2 ^ 27 ≤ n → n ≡ length known → first_uses have_one_name known xs ≡ whole
    → 2 ^ 27 ≤ length whole
too_many known xs whole n many is used = omega (arith, many, is, length_uses known xs, ap length used)

-- ---- all symbols

-- those of functions, and then those of call sites
pub linked : (start made whole : List Symbol) (functions : List ListedFunction) (sites : List CallSite) → start ≡ []
    → made ≡ first_uses have_one_name start (map defined_symbol functions)
    → whole ≡ first_uses have_one_name made (map undefined_symbol sites) → sites ≡ call_sites functions → whole ≡ symbols_of functions
linked start made whole functions sites empty made_is whole_is same =
    whole_is
    ∙ ap (λ xs. first_uses have_one_name made (map undefined_symbol xs)) same
    ∙ ap (λ ss. first_uses have_one_name ss (map undefined_symbol (call_sites functions))) (
    made_is ∙ ap (λ ss. first_uses have_one_name ss (map defined_symbol functions)) empty)
    ∙ sym (uses_append have_one_name [] (map defined_symbol functions) (map undefined_symbol (call_sites functions)))

pub early : (start : List Symbol) (functions : List ListedFunction) → start ≡ []
    → 2 ^ 27 ≤ length (first_uses have_one_name start (map defined_symbol functions)) → 2 ^ 27 ≤ length (symbols_of functions)
early start functions empty many =
    let first : List Symbol = first_uses have_one_name [] (map defined_symbol functions) in
    let others : List Symbol = map undefined_symbol (call_sites functions) in
    let begun : 2 ^ 27 ≤ length first =
    subst (λ ss. 2 ^ 27 ≤ length (first_uses have_one_name ss (map defined_symbol functions))) empty many in
    subst (λ ss. 2 ^ 27 ≤ length ss) (sym (uses_append have_one_name [] (map defined_symbol functions) others))
    (further first others begun)
  where
    further : (first others : List Symbol) → 2 ^ 27 ≤ length first → 2 ^ 27 ≤ length (first_uses have_one_name first others)
    further first others begun = omega (arith, begun, length_uses first others)

pub late : (start made : List Symbol) (functions : List ListedFunction) (sites : List CallSite) → start ≡ []
    → made ≡ first_uses have_one_name start (map defined_symbol functions) → sites ≡ call_sites functions
    → 2 ^ 27 ≤ length (first_uses have_one_name made (map undefined_symbol sites)) → 2 ^ 27 ≤ length (symbols_of functions)
late start made functions sites empty made_is same many =
    subst (λ ss. 2 ^ 27 ≤ length ss)
    (linked start made (first_uses have_one_name made (map undefined_symbol sites)) functions sites empty made_is refl same) many

-- ---- relocations

-- the relocation of a call site, with the index of its symbol
abbrev pub site_relocation : CallSite → (index : ℕ) → Relocation
site_relocation c index = record { offset = c.address; symbol = index + 1; relocation_type = 19; addend = 0 }

pub one_more : (symbols next : List Symbol) (site : CallSite) (sites : List CallSite) (i index : ℕ) (relocations : List Relocation)
    → next ≡ with_new have_one_name symbols (undefined_symbol site)
    → ((more : List Symbol) → index ≡ position_or_len (have_one_name (undefined_symbol site)) (next ++ more))
    → ((more : List Symbol) → relocations ≡ map (relocation_of (symbols ++ more)) (take i sites))
    → take (i + 1) sites ≡ take i sites ++ site ∷ [] → (more : List Symbol)
    → relocations ++ site_relocation site index ∷ [] ≡ map (relocation_of (next ++ more)) (take (i + 1) sites)
one_more symbols next site sites i index relocations known place made taken more =
    let joined = joined_only have_one_name symbols (undefined_symbol site) in
    let whole : symbols ++ (joined.0 ++ more) ≡ next ++ more =
    sym (append_assoc symbols joined.0 more) ∙ ap (λ xs. xs ++ more) (sym (known ∙ joined.1)) in
    let front : relocations ≡ map (relocation_of (next ++ more)) (take i sites) =
    made (joined.0 ++ more) ∙ ap (λ xs. map (relocation_of xs) (take i sites)) whole in
    let number : index + 1 ≡ 1 + position_or_len (have_one_name (undefined_symbol site)) (next ++ more) =
    omega (arith, place more) in
    let last : site_relocation site index ≡ relocation_of (next ++ more) site =
    λ j. record { offset = site.address; symbol = number j; relocation_type = 19; addend = 0 } in
    ap (λ xs. xs ++ site_relocation site index ∷ []) front ∙ ap (λ r. map (relocation_of (next ++ more)) (take i sites) ++ r ∷ []) last
    ∙ sym (map-append (relocation_of (next ++ more)) (take i sites) (site ∷ []))
    ∙ ap (λ xs. map (relocation_of (next ++ more)) xs) (sym taken)

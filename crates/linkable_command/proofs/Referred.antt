-- The symbols of names to which code refers, and the relocations of references.
use Rattle.std.proofs.Common.{◌≡◌, ℕ, true, false, ◌+◌, ◌^◌, ◌≤◌, List, [], ◌∷◌, ◌++◌, length, map, take, refl, sym, ap, ◌∙◌, arith, append_assoc, subst}
use Rattle.std.specs.List.{position_or_len}
use Rattle.std.proofs.lemmas.List.{map-append}
use Rattle.dwarf_line_table.specs.Files.{with_new, first_uses}
use Rattle.dwarf_line_table.proofs.FirstUses.{joined_only, uses_append}
use Rattle.elf_object.specs.declared.symbols.Symbol.{Symbol}
use Rattle.elf_object.specs.declared.relocations.Relocation.{Relocation}
use Rattle.elf_relocation.specs.Kinds.{number_of}
use Rattle.listing_text.specs.declared.output.ListedFunction.{ListedFunction}
use Rattle.object_command.specs.Object.{have_one_name}
use Rattle.object_command.proofs.SymbolLemmas.{length_uses}
use Rattle.linkable_command.specs.declared.reference.Reference.{Reference}
use Rattle.linkable_command.specs.References.{references}
use Rattle.read_linkage.specs.declared.linkage.LinkedName.{LinkedName}
use Rattle.linkable_command.specs.Symbols.{bound_symbols, undefined_symbol, named_symbols, relocation_by}

-- ---- all symbols

-- the local ones of functions, then the others, and then those of other names
pub linked : (linkages : List LinkedName) (start locals made whole : List Symbol) (functions : List ListedFunction) (rs : List Reference) → start ≡ []
    → locals ≡ first_uses have_one_name start (bound_symbols true linkages functions)
    → made ≡ first_uses have_one_name locals (bound_symbols false linkages functions)
    → whole ≡ first_uses have_one_name made (map undefined_symbol rs) → rs ≡ references functions → whole ≡ named_symbols linkages functions
linked linkages start locals made whole functions rs empty locals_are made_is whole_is same =
    let first : List Symbol = bound_symbols true linkages functions in
    let others : List Symbol = bound_symbols false linkages functions in
    let undefined : List Symbol = map undefined_symbol (references functions) in
    let defined : made ≡ first_uses have_one_name [] (first ++ others) =
    made_is
    ∙ ap (λ (ss : List Symbol). first_uses have_one_name ss others)
    (locals_are ∙ ap (λ (ss : List Symbol). first_uses have_one_name ss first) empty)
    ∙ sym (uses_append have_one_name [] first others) in
    whole_is
    ∙ ap (λ (xs : List Reference). first_uses have_one_name made (map undefined_symbol xs)) same
    ∙ ap (λ (ss : List Symbol). first_uses have_one_name ss undefined) defined ∙ sym (uses_append have_one_name [] (first ++ others) undefined)

further : (first others : List Symbol) → 2 ^ 27 ≤ length first → 2 ^ 27 ≤ length (first_uses have_one_name first others)
further first others begun = omega (arith, begun, length_uses first others)

pub late : (linkages : List LinkedName) (start locals made : List Symbol) (functions : List ListedFunction) (rs : List Reference) → start ≡ []
    → locals ≡ first_uses have_one_name start (bound_symbols true linkages functions)
    → made ≡ first_uses have_one_name locals (bound_symbols false linkages functions) → rs ≡ references functions
    → 2 ^ 27 ≤ length (first_uses have_one_name made (map undefined_symbol rs)) → 2 ^ 27 ≤ length (named_symbols linkages functions)
late linkages start locals made functions rs empty locals_are made_is same many =
    subst (λ (ss : List Symbol). 2 ^ 27 ≤ length ss)
    (linked linkages start locals made (first_uses have_one_name made (map undefined_symbol rs)) functions rs empty locals_are made_is refl same) many

pub middle : (linkages : List LinkedName) (start locals : List Symbol) (functions : List ListedFunction) → start ≡ []
    → locals ≡ first_uses have_one_name start (bound_symbols true linkages functions)
    → 2 ^ 27 ≤ length (first_uses have_one_name locals (bound_symbols false linkages functions)) → 2 ^ 27 ≤ length (named_symbols linkages functions)
middle linkages start locals functions empty locals_are many =
    let made : List Symbol = first_uses have_one_name locals (bound_symbols false linkages functions) in
    late linkages start locals made functions (references functions) empty locals_are refl refl
    (further made (map undefined_symbol (references functions)) many)

pub early : (linkages : List LinkedName) (start : List Symbol) (functions : List ListedFunction) → start ≡ []
    → 2 ^ 27 ≤ length (first_uses have_one_name start (bound_symbols true linkages functions)) → 2 ^ 27 ≤ length (named_symbols linkages functions)
early linkages start functions empty many =
    let locals : List Symbol = first_uses have_one_name start (bound_symbols true linkages functions) in
    middle linkages start locals functions empty refl (further locals (bound_symbols false linkages functions) many)

-- ---- relocations

-- the relocation of a reference, with the index of its symbol and the number of its kind
abbrev pub numbered : Reference → (kind number : ℕ) → Relocation
numbered r kind number = record { offset = r.address; symbol = number; relocation_type = kind; addend = r.addend }

pub one_more : (before : ℕ) (symbols next : List Symbol) (r : Reference) (rs : List Reference) (i index kind : ℕ) (relocations : List Relocation)
    → next ≡ with_new have_one_name symbols (undefined_symbol r)
    → ((more : List Symbol) → index ≡ position_or_len (have_one_name (undefined_symbol r)) (next ++ more)) → kind ≡ number_of r.kind
    → ((more : List Symbol) → relocations ≡ map (relocation_by before (symbols ++ more)) (take i rs))
    → take (i + 1) rs ≡ take i rs ++ r ∷ [] → (more : List Symbol)
    → relocations ++ numbered r kind (before + (1 + index)) ∷ [] ≡ map (relocation_by before (next ++ more)) (take (i + 1) rs)
one_more before symbols next r rs i index kind relocations known place is_kind made taken more =
    let joined = joined_only have_one_name symbols (undefined_symbol r) in
    let whole : symbols ++ (joined.0 ++ more) ≡ next ++ more =
    sym (append_assoc symbols joined.0 more) ∙ ap (λ xs. xs ++ more) (sym (known ∙ joined.1)) in
    let front : relocations ≡ map (relocation_by before (next ++ more)) (take i rs) =
    made (joined.0 ++ more) ∙ ap (λ xs. map (relocation_by before xs) (take i rs)) whole in
    let number : before + (1 + index) ≡ before + (1 + position_or_len (have_one_name (undefined_symbol r)) (next ++ more)) =
    ap (λ (n : ℕ). before + (1 + n)) (place more) in
    let last : numbered r kind (before + (1 + index)) ≡ relocation_by before (next ++ more) r =
    λ j. record { offset = r.address; symbol = number j; relocation_type = is_kind j; addend = r.addend } in
    ap (λ xs. xs ++ numbered r kind (before + (1 + index)) ∷ []) front
    ∙ ap (λ x. map (relocation_by before (next ++ more)) (take i rs) ++ x ∷ []) last
    ∙ sym (map-append (relocation_by before (next ++ more)) (take i rs) (r ∷ []))
    ∙ ap (λ xs. map (relocation_by before (next ++ more)) xs) (sym taken)

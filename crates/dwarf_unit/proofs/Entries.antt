-- The entries of variables and functions, as these are gone through.
-- Plan: what is listed, with the entries of those left, is all entries, whatever types join later: a type that joins changes no index.
use Rattle.std.proofs.Common.{◌≡◌, ℕ, suc, ◌+◌, ◌≤◌, List, [], ◌∷◌, ◌++◌, length, refl, sym, ◌∙◌, ap, arith, append_assoc, append-nil, subst, length-append}
use Rattle.std.specs.Prelude.{nat_eq}
use Rattle.std.specs.List.{flat_map}
use Rattle.dwarf_info.specs.declared.unit.BaseEntry.{BaseEntry}
use Rattle.dwarf_info.specs.declared.unit.VariableEntry.{VariableEntry}
use Rattle.dwarf_info.specs.declared.unit.FunctionEntry.{FunctionEntry}
use Rattle.read_metadata.specs.Maps.{Maps}
use Rattle.mir_func.specs.declared.variable.VarId.{VarId}
use Rattle.dwarf_line_table.specs.declared.source_and_code.SourceAndCode.{SourceAndCode}
use Rattle.dwarf_line_table.specs.declared.file.SourceFile.{SourceFile}
use Rattle.dwarf_line_table.specs.Files.{first_uses}
use Rattle.dwarf_line_table.specs.Program.{program_file}
use Rattle.dwarf_line_table.proofs.FirstUses.{lengthened, uses_append}
use Rattle.dwarf_unit.specs.Unit.{type_uses, variable_entry, variables_from, function_variables, function_entry, functions_from, program_variables}
use Rattle.dwarf_unit.specs.Unit.{program_types, base_entries, unit_of}

pub record VariablesSoFar (meta : Maps) (start types : List ℕ) (first list : ℕ) (all rest : List VarId) (entries : List VariableEntry) : Type 0 where
  pub few : length types + length rest ≤ length start + length all
  pub count : list + length rest ≡ first + length all
  pub known : first_uses nat_eq types (flat_map (type_uses meta) rest) ≡ first_uses nat_eq start (flat_map (type_uses meta) all)
  pub listed : (more : List ℕ) → entries ++ variables_from meta (types ++ more) list rest ≡ variables_from meta (types ++ more) first all

pub variables_next : (meta : Maps) (start types types_ : List ℕ) (first list : ℕ) (all rest : List VarId) (v : VarId) (entries entries_ : List VariableEntry)
    (entry : VariableEntry)
    → VariablesSoFar meta start types first list all (v ∷ rest) entries
    → types_ ≡ first_uses nat_eq types (type_uses meta v)
    → ((more : List ℕ) → entry ≡ variable_entry meta (types_ ++ more) list v)
    → length types_ ≤ length types + 1
    → entries_ ≡ entries ++ entry ∷ []
    → VariablesSoFar meta start types_ first (list + 1) all rest entries_
variables_next meta start types types_ first list all rest v entries entries_ entry so joins is few longer =
    let more_types = lengthened nat_eq types (type_uses meta v) in
    let one : suc list ≡ list + 1 = omega arith in
    record {
      few = let so_few : length types + suc (length rest) ≤ length start + length all = so.few in omega (arith, so_few, few);
      count = let so_count : list + suc (length rest) ≡ first + length all = so.count in omega (arith, so_count);
      known =
          ap (λ ts. first_uses nat_eq ts (flat_map (type_uses meta) rest)) joins
          ∙ sym (uses_append nat_eq types (type_uses meta v) (flat_map (type_uses meta) rest)) ∙ so.known;
      listed = λ more.
          let joined : types_ ++ more ≡ types ++ (more_types.0 ++ more) = ap (λ ts. ts ++ more) (joins ∙ more_types.1) ∙ append_assoc types more_types.0 more in
          let P : List ℕ → Type 0 = λ ts. entries ++ variables_from meta ts list (v ∷ rest) ≡ variables_from meta ts first all in
          (λ i. longer i ++ variables_from meta (types_ ++ more) (sym one i) rest)
          ∙ append_assoc entries (entry ∷ []) (variables_from meta (types_ ++ more) (suc list) rest)
          ∙ ap (λ e. entries ++ e ∷ variables_from meta (types_ ++ more) (suc list) rest) (is more)
          ∙ subst P (sym joined) (so.listed (more_types.0 ++ more));
    }

pub record FunctionsSoFar (meta : Maps) (types : List ℕ) (list : ℕ) (all rest : List SourceAndCode) (entries : List FunctionEntry) : Type 0 where
  pub few : length types + length (program_variables rest) ≤ length (program_variables all)
  pub count : list + length (program_variables rest) ≡ length (program_variables all)
  pub known : first_uses nat_eq types (flat_map (λ f. flat_map (type_uses meta) (function_variables f)) rest) ≡ program_types meta all
  pub listed : (more : List ℕ) → entries ++ functions_from meta (types ++ more) list rest ≡ functions_from meta (types ++ more) 0 all

pub functions_start : (meta : Maps) (all : List SourceAndCode) → FunctionsSoFar meta [] 0 all all []
functions_start meta all = record { few = omega arith; count = omega arith; known = refl; listed = λ more. refl }

pub functions_next : (meta : Maps) (types types_ : List ℕ) (list list_ : ℕ) (all rest : List SourceAndCode) (f : SourceAndCode)
    (entries entries_ : List FunctionEntry)
    (entry : FunctionEntry)
    → FunctionsSoFar meta types list all (f ∷ rest) entries
    → types_ ≡ first_uses nat_eq types (flat_map (type_uses meta) (function_variables f))
    → ((more : List ℕ) → entry ≡ function_entry meta (types_ ++ more) list f)
    → length types_ ≤ length types + length (function_variables f)
    → list_ ≡ list + length (function_variables f)
    → entries_ ≡ entries ++ entry ∷ []
    → FunctionsSoFar meta types_ list_ all rest entries_
functions_next meta types types_ list list_ all rest f entries entries_ entry so joins is few counted longer =
    let uses = flat_map (type_uses meta) (function_variables f) in
    let left = flat_map (λ g. flat_map (type_uses meta) (function_variables g)) rest in
    let more_types = lengthened nat_eq types uses in
    let split : length (program_variables (f ∷ rest)) ≡ length (function_variables f) + length (program_variables rest) =
    length-append (function_variables f) (program_variables rest) in
    record {
      few = let so_few : length types + length (program_variables (f ∷ rest)) ≤ length (program_variables all) = so.few in omega (arith, so_few, few, split);
      count = let so_count : list + length (program_variables (f ∷ rest)) ≡ length (program_variables all) = so.count in omega
          (arith, so_count, split, counted);
      known = ap (λ ts. first_uses nat_eq ts left) joins ∙ sym (uses_append nat_eq types uses left) ∙ so.known;
      listed = λ more.
          let joined : types_ ++ more ≡ types ++ (more_types.0 ++ more) = ap (λ ts. ts ++ more) (joins ∙ more_types.1) ∙ append_assoc types more_types.0 more in
          let P : List ℕ → Type 0 = λ ts. entries ++ functions_from meta ts list (f ∷ rest) ≡ functions_from meta ts 0 all in
          (λ i. longer i ++ functions_from meta (types_ ++ more) (counted i) rest)
          ∙ append_assoc entries (entry ∷ []) (functions_from meta (types_ ++ more) (list + length (function_variables f)) rest)
          ∙ ap (λ e. entries ++ e ∷ functions_from meta (types_ ++ more) (list + length (function_variables f)) rest) (is more)
          ∙ subst P (sym joined) (so.listed (more_types.0 ++ more));
    }

pub unit_done : (meta : Maps) (text_len : ℕ) (functions : List SourceAndCode) (file : SourceFile) (types : List ℕ) (list : ℕ) (entries : List FunctionEntry)
    (bases : List BaseEntry)
    → file ≡ program_file meta functions → FunctionsSoFar meta types list functions [] entries → bases ≡ base_entries meta types
    → record { name = file.name; dir = file.dir; text_len = text_len; types = bases; functions = entries } ≡ unit_of meta text_len functions
unfolding unit_of
unit_done meta text_len functions file types list entries bases file_is so bases_are =
    let listed : entries ≡ functions_from meta (program_types meta functions) 0 functions =
    sym (append-nil entries) ∙ so.listed [] ∙ ap (λ ts. functions_from meta ts 0 functions) (append-nil types ∙ so.known) in
    let based = bases_are ∙ ap (base_entries meta) so.known in
    λ i. record { name = (file_is i).name; dir = (file_is i).dir; text_len = text_len; types = based i; functions = listed i }

-- the entries of variables are as many as these
pub variables_length : (meta : Maps) (types : List ℕ) (k : ℕ) (vs : List VarId) → length (variables_from meta types k vs) ≡ length vs
variables_length meta types k [] = refl
variables_length meta types k (v ∷ vs) = ap suc (variables_length meta types (suc k) vs)

-- there is room for the next function's variables
pub functions_room : (meta : Maps) (types : List ℕ) (list : ℕ) (all rest : List SourceAndCode) (f : SourceAndCode) (entries : List FunctionEntry)
    → FunctionsSoFar meta types list all (f ∷ rest) entries
    → (length types + length (function_variables f) ≤ length (program_variables all)) × (list + length (function_variables f) ≤ length (program_variables all))
functions_room meta types list all rest f entries so =
    let split : length (program_variables (f ∷ rest)) ≡ length (function_variables f) + length (program_variables rest) =
    length-append (function_variables f) (program_variables rest) in
    let so_few : length types + length (program_variables (f ∷ rest)) ≤ length (program_variables all) = so.few in
    let so_count : list + length (program_variables (f ∷ rest)) ≡ length (program_variables all) = so.count in
    (omega (arith, so_few, split), omega (arith, so_count, split))

-- the variables of an entry are as many as those of its function
pub entry_length : (meta : Maps) (types : List ℕ) (k : ℕ) (f : SourceAndCode) (entry : FunctionEntry) (n : ℕ) → n ≡ length entry.variables →
    entry ≡ function_entry meta types k f
    → n ≡ length (function_variables f)
entry_length meta types k f entry n counted is =
    counted ∙ ap (λ (e : FunctionEntry). length e.variables) is ∙ variables_length meta types k (function_variables f)

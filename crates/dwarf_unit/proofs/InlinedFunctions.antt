-- The entries of functions with their instances, as these are gone through.
-- Plan: as for functions without instances: what is listed, with the entries of those left, is all entries, whatever types and subprograms join later.
use Rattle.std.proofs.Common.{◌≡◌, ℕ, suc, ◌+◌, ◌<◌, ◌≤◌, List, [], ◌∷◌, ◌++◌, map, length, take, drop, set, get_or, refl, sym, ◌∙◌, ap, arith, subst}
use Rattle.std.proofs.Common.{append_assoc, append-nil, length-append, nat_cmp, Option, Some, None}
use Rattle.std.specs.Prelude.{nat_eq}
use Rattle.std.specs.List.{flat_map, position_or_len}
use Rattle.std.specs.Option.{option_eq, option_and_then}
use Rattle.std.specs.BTreeMap.{BTreeMap, get}
use Rattle.std.proofs.lemmas.List.{get_or-map, length-map, map-append, take_at, drop_at, drop-drop, nil_from_length, length_push, get_or_default}
use Rattle.dwarf_info.specs.declared.unit.BaseEntry.{BaseEntry}
use Rattle.dwarf_info.specs.declared.unit.VariableEntry.{VariableEntry}
use Rattle.dwarf_info.specs.declared.inlined.InlinedCall.{InlinedCall}
use Rattle.dwarf_info.specs.declared.inlined.InlinedFunction.{InlinedFunction}
use Rattle.read_metadata.specs.Maps.{Maps}
use Rattle.read_metadata.specs.Metadata.{location_at}
use Rattle.mir_func.specs.declared.variable.VarId.{VarId}
use Rattle.dwarf_line_table.specs.declared.source_and_code.SourceAndCode.{SourceAndCode}
use Rattle.dwarf_line_table.specs.declared.file.SourceFile.{SourceFile}
use Rattle.dwarf_line_table.specs.Files.{with_new, first_uses}
use Rattle.dwarf_line_table.specs.Program.{program_file, scope_number}
use Rattle.dwarf_line_table.proofs.FirstUses.{lengthened, uses_append, joined_only}
use Rattle.dwarf_line_table.proofs.Split.{split_at}
use Rattle.inline_subroutines.specs.inline_instances.Instances.{scope_of_call}
use Rattle.inline_subroutines.specs.declared.subroutine.InlinedSubroutine.{InlinedSubroutine}
use Rattle.dwarf_unit.specs.Unit.{type_uses, variable_entry, variables_from, function_variables, program_variables, program_types, base_entries}
use Rattle.inline_subroutines.specs.Subroutines.{AreDistinct}
use Rattle.dwarf_unit.specs.Inlined.{call_scopes, inlined_subprograms, subprogram_name, kept_variables, is_own, line_or_zero, column_or_zero}
use Rattle.dwarf_unit.specs.Inlined.{inlined_call, inlined_function, inlined_functions, inlined_unit_of}
use Rattle.dwarf_unit.specs.steps.Calls.{empty_call, place_from, place_of, with_more, AreDivided}
use Rattle.dwarf_unit.proofs.Entries.{VariablesSoFar, variables_next}
use Rattle.dwarf_unit.proofs.Divided.{divided_starts, divided_own, divided_inside, filled_length, all_divided}

-- ---- the calls of a function before its variables are gone through

abbrev subprograms_of : List InlinedSubroutine → List (Option ℕ)
subprograms_of is = map (λ i. i.subprogram) is

pub record CallsSoFar (meta : Maps) (files : List ℕ) (start subprograms : List (Option ℕ)) (all rest : List InlinedSubroutine) (calls : List InlinedCall)
    : Type 0 where
  pub count : length calls + length rest ≡ length all
  pub known : first_uses (option_eq nat_eq) subprograms (subprograms_of rest) ≡ first_uses (option_eq nat_eq) start (subprograms_of all)
  pub listed : (number : Option ℕ → ℕ) (others : List (Option ℕ)) → files ≡ map (λ i. number (scope_of_call meta i.call)) all
      → calls ++ map (empty_call meta number (subprograms ++ others)) rest ≡ map (empty_call meta number (subprograms ++ others)) all

pub calls_start : (meta : Maps) (files : List ℕ) (start : List (Option ℕ)) (all : List InlinedSubroutine) → CallsSoFar meta files start start all all []
calls_start meta files start all = record { count = omega arith; known = refl; listed = λ number others is. refl }

pub calls_next : (meta : Maps) (files : List ℕ) (start subprograms subprograms_ : List (Option ℕ)) (all rest : List InlinedSubroutine) (k : ℕ)
    (i : InlinedSubroutine) (calls calls_ : List InlinedCall) (call : InlinedCall) → CallsSoFar meta files start subprograms all (i ∷ rest) calls
    → calls_ ≡ calls ++ call ∷ [] → k < length all → i ≡ get_or all k i → subprograms_ ≡ with_new (option_eq nat_eq) subprograms i.subprogram → call.parent ≡ i.parent
    → ((more : List (Option ℕ)) → call.origin ≡ position_or_len (option_eq nat_eq i.subprogram) (subprograms_ ++ more)) → call.file ≡ get_or files k 0
    → call.line ≡ line_or_zero (location_at meta i.call) → call.column ≡ column_or_zero (location_at meta i.call) → call.variables ≡ []
    → CallsSoFar meta files start subprograms_ all rest calls_
calls_next meta files start subprograms subprograms_ all rest k i calls calls_ call so longer inside here joins parent origin file line column none =
    let more = joined_only (option_eq nat_eq) subprograms i.subprogram in
    record {
      count =
          let so_count : length calls + suc (length rest) ≡ length all = so.count in
          omega (arith, so_count, ap (λ (cs : List InlinedCall). length cs) longer, length_push calls call);
      known = ap (λ (ss : List (Option ℕ)). first_uses (option_eq nat_eq) ss (subprograms_of rest)) joins ∙ so.known;
      listed = λ number others is.
          let g : InlinedSubroutine → ℕ = λ s. number (scope_of_call meta s.call) in
          let file_is : call.file ≡ g i =
          file ∙ ap (λ (fs : List ℕ). get_or fs k 0) is ∙ get_or-map g all k i 0 inside ∙ ap g (sym here) in
          let joined : subprograms_ ++ others ≡ subprograms ++ (more.0 ++ others) =
          ap (λ (ss : List (Option ℕ)). ss ++ others) (joins ∙ more.1) ∙ append_assoc subprograms more.0 others in
          let P : List (Option ℕ) → Type 0 =
          λ ss. calls ++ map (empty_call meta number ss) (i ∷ rest) ≡ map (empty_call meta number ss) all in
          let left = map (empty_call meta number (subprograms_ ++ others)) rest in
          let made : call ≡ empty_call meta number (subprograms_ ++ others) i =
          (λ n. record {
            parent = parent n;
            origin = origin others n;
            file = file_is n;
            line = line n;
            column = column n;
            variables = none n;
          }) in
          ap (λ (cs : List InlinedCall). cs ++ left) longer ∙ append_assoc calls (call ∷ []) left
          ∙ ap (λ (c : InlinedCall). calls ++ c ∷ left) made ∙ subst P (sym joined) (so.listed number (more.0 ++ others) is);
    }

pub calls_made : (meta : Maps) (files : List ℕ) (start subprograms : List (Option ℕ)) (all : List InlinedSubroutine) (calls : List InlinedCall)
    → CallsSoFar meta files start subprograms all [] calls → (number : Option ℕ → ℕ) (others : List (Option ℕ))
    → files ≡ map (λ i. number (scope_of_call meta i.call)) all → calls ≡ map (empty_call meta number (subprograms ++ others)) all
calls_made meta files start subprograms all calls so number others is = sym (append-nil calls) ∙ so.listed number others is

-- ---- the variables of a function

pub record FunctionSoFar (meta : Maps) (start types : List ℕ) (first list : ℕ) (all rest : List VarId) (instances : List InlinedSubroutine)
    (empty : List InlinedCall) (own : List VariableEntry) (calls : List InlinedCall) : Type 0 where
  pub front : List VarId
  pub entries : List VariableEntry
  pub split : front ++ rest ≡ all
  pub so : VariablesSoFar meta start types first list all rest entries
  pub divided : AreDivided instances empty front entries own calls

module _ (meta : Maps) (start : List ℕ) (first : ℕ) (all : List VarId) (instances : List InlinedSubroutine) (empty : List InlinedCall) where
  pub function_starts : FunctionSoFar meta start start first first all all instances empty [] empty
  function_starts = record {
    front = [];
    entries = [];
    split = refl;
    so = record { few = omega arith; count = refl; known = refl; listed = λ more. refl };
    divided = divided_starts instances empty;
  }

  pub function_own : (types types_ : List ℕ) (list : ℕ) (rest : List VarId) (v : VarId) (own own_ : List VariableEntry) (calls : List InlinedCall)
      (entry : VariableEntry) → FunctionSoFar meta start types first list all (v ∷ rest) instances empty own calls
      → types_ ≡ first_uses nat_eq types (type_uses meta v) → ((more : List ℕ) → entry ≡ variable_entry meta (types_ ++ more) list v)
      → length types_ ≤ length types + 1 → place_of instances v ≡ None → own_ ≡ own ++ entry ∷ []
      → FunctionSoFar meta start types_ first (list + 1) all rest instances empty own_ calls
  function_own types types_ list rest v own own_ calls entry so joins is few at pushed = record {
    front = so.front ++ v ∷ [];
    entries = so.entries ++ entry ∷ [];
    split = append_assoc so.front (v ∷ []) rest ∙ so.split;
    so = variables_next meta start types types_ first list all rest v so.entries (so.entries ++ entry ∷ []) entry so.so joins is few refl;
    divided = divided_own instances empty so.front so.entries own own_ calls v entry so.divided at pushed;
  }

  -- there are as many calls all the time
  pub calls_count : (types : List ℕ) (list : ℕ) (rest : List VarId) (own : List VariableEntry) (calls : List InlinedCall)
      → FunctionSoFar meta start types first list all rest instances empty own calls → length calls ≡ length empty
  calls_count types list rest own calls so = ap (λ (cs : List InlinedCall). length cs) so.divided.calls_are ∙ filled_length instances so.front so.entries 0 empty

  pub function_inside : (types types_ : List ℕ) (list : ℕ) (rest : List VarId) (v : VarId) (own : List VariableEntry) (calls calls_ : List InlinedCall)
      (entry : VariableEntry) (j : ℕ) (was x : InlinedCall) → FunctionSoFar meta start types first list all (v ∷ rest) instances empty own calls
      → calls_ ≡ set calls j x → types_ ≡ first_uses nat_eq types (type_uses meta v)
      → ((more : List ℕ) → entry ≡ variable_entry meta (types_ ++ more) list v) → length types_ ≤ length types + 1 → place_of instances v ≡ Some j
      → j < length empty → was ≡ get_or calls j was → x ≡ with_more was (entry ∷ [])
      → FunctionSoFar meta start types_ first (list + 1) all rest instances empty own calls_
  function_inside types types_ list rest v own calls calls_ entry j was x so changed joins is few at below here pushed = record {
    front = so.front ++ v ∷ [];
    entries = so.entries ++ entry ∷ [];
    split = append_assoc so.front (v ∷ []) rest ∙ so.split;
    so = variables_next meta start types types_ first list all rest v so.entries (so.entries ++ entry ∷ []) entry so.so joins is few refl;
    divided =
        let inside : j < length calls = omega (arith, below, calls_count types list (v ∷ rest) own calls so) in
        divided_inside instances empty so.front so.entries own calls calls_ v entry j x so.divided at below
        (pushed ∙ ap (λ (c : InlinedCall). with_more c (entry ∷ [])) (here ∙ get_or_default calls j was x inside)) changed;
  }

  pub function_divided : (types : List ℕ) (list : ℕ) (own : List VariableEntry) (calls : List InlinedCall) (number : Option ℕ → ℕ) (later : List ℕ)
      (subprograms : List (Option ℕ)) → FunctionSoFar meta start types first list all [] instances empty own calls
      → AreDistinct (map (λ s. s.call) instances) → empty ≡ map (empty_call meta number subprograms) instances
      → (own ≡ kept_variables meta (types ++ later) (is_own instances) first all)
      × (calls ≡ map (inlined_call meta number (types ++ later) subprograms first all) instances)
  function_divided types list own calls number later subprograms so once empty_are =
      let whole : so.front ≡ all = sym (append-nil so.front) ∙ so.split in
      let entries_are : so.entries ≡ variables_from meta (types ++ later) first all = sym (append-nil so.entries) ∙ so.so.listed later in
      let divided : AreDivided instances empty all so.entries own calls =
      subst (λ (vs : List VarId). AreDivided instances empty vs so.entries own calls) whole so.divided in
      all_divided meta number (types ++ later) subprograms first instances empty all so.entries own calls once divided entries_are empty_are

-- ---- functions one after the other

abbrev uses_of : Maps → List SourceAndCode → List ℕ
uses_of meta fs = flat_map (λ f. flat_map (type_uses meta) (function_variables f)) fs

abbrev all_subprograms : List (List InlinedSubroutine) → List (Option ℕ)
all_subprograms instances = flat_map subprograms_of instances

pub record UnitSoFar (meta : Maps) (number : Option ℕ → ℕ) (numbers : List ℕ) (types : List ℕ) (subprograms : List (Option ℕ)) (list call : ℕ)
    (all rest : List SourceAndCode) (instances left : List (List InlinedSubroutine)) (entries : List InlinedFunction) : Type 0 where
  pub few : length types + length (program_variables rest) ≤ length (program_variables all)
  pub count : list + length (program_variables rest) ≡ length (program_variables all)
  pub known : first_uses nat_eq types (uses_of meta rest) ≡ program_types meta all
  pub found : first_uses (option_eq nat_eq) subprograms (all_subprograms left) ≡ inlined_subprograms instances
  pub numbered : drop call numbers ≡ map number (call_scopes meta left)
  pub room : call + length (call_scopes meta left) ≡ length numbers
  pub as_many : length left ≡ length rest
  pub listed : (later : List ℕ) (others : List (Option ℕ)) → entries ++ inlined_functions meta number (types ++ later) (subprograms ++ others) list rest left
      ≡ inlined_functions meta number (types ++ later) (subprograms ++ others) 0 all instances

pub unit_starts : (meta : Maps) (number : Option ℕ → ℕ) (numbers : List ℕ) (all : List SourceAndCode) (instances : List (List InlinedSubroutine))
    → length instances ≡ length all → numbers ≡ map number (call_scopes meta instances)
    → UnitSoFar meta number numbers [] [] 0 0 all all instances instances []
unit_starts meta number numbers all instances long are = record {
  few = omega arith;
  count = omega arith;
  known = refl;
  found = refl;
  numbered = are;
  room = let sizes = ap (λ (ns : List ℕ). length ns) are ∙ length-map (call_scopes meta instances) number in omega (arith, sizes);
  as_many = long;
  listed = λ later others. refl;
}

-- a function and its instances are next
pub unit_here : (meta : Maps) (number : Option ℕ → ℕ) (numbers types : List ℕ) (subprograms : List (Option ℕ)) (list call : ℕ) (all : List SourceAndCode)
    (instances : List (List InlinedSubroutine)) (entries : List InlinedFunction) (i : ℕ) (f : SourceAndCode) (is : List InlinedSubroutine)
    → UnitSoFar meta number numbers types subprograms list call all (drop i all) instances (drop i instances) entries → i < length all → f ≡ get_or all i f
    → is ≡ get_or instances i is → length instances ≡ length all
    → UnitSoFar meta number numbers types subprograms list call all (f ∷ drop (i + 1) all) instances (is ∷ drop (i + 1) instances) entries
unit_here meta number numbers types subprograms list call all instances entries i f is so inside here own long =
    subst (λ (rest : List SourceAndCode). UnitSoFar meta number numbers types subprograms list call all rest instances (is ∷ drop (i + 1) instances) entries)
    (split_at all i f inside here)
    (subst (λ (left : List (List InlinedSubroutine)). UnitSoFar meta number numbers types subprograms list call all (drop i all) instances left entries)
    (split_at instances i is (omega (arith, inside, long)) own) so)

-- the scopes of the calls of a function
abbrev own_scopes : Maps → List InlinedSubroutine → List (Option ℕ)
own_scopes meta is = map (λ i. scope_of_call meta i.call) is

module _ (meta : Maps) (number : Option ℕ → ℕ) (numbers types : List ℕ) (subprograms : List (Option ℕ)) (list call : ℕ) (all rest : List SourceAndCode)
    (f : SourceAndCode) (instances left : List (List InlinedSubroutine)) (is : List InlinedSubroutine) (entries : List InlinedFunction)
    (so : UnitSoFar meta number numbers types subprograms list call all (f ∷ rest) instances (is ∷ left) entries) where
  variables_split : length (program_variables (f ∷ rest)) ≡ length (function_variables f) + length (program_variables rest)
  variables_split = length-append (function_variables f) (program_variables rest)

  scopes_split : length (call_scopes meta (is ∷ left)) ≡ length is + length (call_scopes meta left)
  scopes_split =
      length-append (own_scopes meta is) (call_scopes meta left)
      ∙ ap (λ (n : ℕ). n + length (call_scopes meta left)) (length-map is (λ (i : InlinedSubroutine). scope_of_call meta i.call))

  pub types_room : length types + length (function_variables f) ≤ length (program_variables all)
  types_room = omega (arith, so.few, variables_split)

  pub lists_room : list + length (function_variables f) ≤ length (program_variables all)
  lists_room = omega (arith, so.count, variables_split)

  pub calls_room : call + length is ≤ length numbers
  calls_room = omega (arith, so.room, scopes_split)

  abbrev scope_numbers : List ℕ
  scope_numbers = map (λ i. number (scope_of_call meta i.call)) is

  from_here : drop call numbers ≡ scope_numbers ++ map number (call_scopes meta left)
  from_here =
      so.numbered ∙ map-append number (own_scopes meta is) (call_scopes meta left)
      ∙ ap (λ (ns : List ℕ). ns ++ map number (call_scopes meta left)) (map_twice is)
    where
      map_twice : (ss : List InlinedSubroutine) → map number (own_scopes meta ss) ≡ map (λ i. number (scope_of_call meta i.call)) ss
      map_twice [] = refl
      map_twice (s ∷ ss) = ap (λ (ns : List ℕ). number (scope_of_call meta s.call) ∷ ns) (map_twice ss)

  long : length scope_numbers ≡ length is
  long = length-map is (λ (i : InlinedSubroutine). number (scope_of_call meta i.call))

  pub own_numbers : take (length is) (drop call numbers) ≡ scope_numbers
  own_numbers =
      ap (take (length is)) from_here ∙ take_at scope_numbers (map number (call_scopes meta left)) (length is) long

  pub unit_next : (types_ : List ℕ) (subprograms_ : List (Option ℕ)) (list_ call_ : ℕ) (entries_ : List InlinedFunction) (entry : InlinedFunction)
      → types_ ≡ first_uses nat_eq types (flat_map (type_uses meta) (function_variables f))
      → subprograms_ ≡ first_uses (option_eq nat_eq) subprograms (subprograms_of is)
      → ((later : List ℕ) (others : List (Option ℕ)) → entry ≡ inlined_function meta number (types_ ++ later) (subprograms_ ++ others) list f is)
      → length types_ ≤ length types + length (function_variables f) → list_ ≡ list + length (function_variables f) → call_ ≡ call + length is
      → entries_ ≡ entries ++ entry ∷ []
      → UnitSoFar meta number numbers types_ subprograms_ list_ call_ all rest instances left entries_
  unit_next types_ subprograms_ list_ call_ entries_ entry joins founds made few counted called longer =
      let uses = flat_map (type_uses meta) (function_variables f) in
      let more_types = lengthened nat_eq types uses in
      let more_subprograms = lengthened (option_eq nat_eq) subprograms (subprograms_of is) in
      record {
        few = omega (arith, so.few, few, variables_split);
        count = omega (arith, so.count, variables_split, counted);
        known = ap (λ (ts : List ℕ). first_uses nat_eq ts (uses_of meta rest)) joins ∙ sym (uses_append nat_eq types uses (uses_of meta rest)) ∙ so.known;
        found =
            ap (λ (ss : List (Option ℕ)). first_uses (option_eq nat_eq) ss (all_subprograms left)) founds
            ∙ sym (uses_append (option_eq nat_eq) subprograms (subprograms_of is) (all_subprograms left)) ∙ so.found;
        numbered =
            ap (λ (n : ℕ). drop n numbers) called ∙ sym (drop-drop (length is) call numbers) ∙ ap (drop (length is)) from_here
            ∙ drop_at scope_numbers (map number (call_scopes meta left)) (length is) long;
        room = omega (arith, so.room, scopes_split, called);
        as_many = let so_many : suc (length left) ≡ suc (length rest) = so.as_many in omega (arith, so_many);
        listed = λ later others.
            let all_types : types_ ++ later ≡ types ++ (more_types.0 ++ later) =
            ap (λ (ts : List ℕ). ts ++ later) (joins ∙ more_types.1) ∙ append_assoc types more_types.0 later in
            let all_found : subprograms_ ++ others ≡ subprograms ++ (more_subprograms.0 ++ others) =
            ap (λ (ss : List (Option ℕ)). ss ++ others) (founds ∙ more_subprograms.1) ∙ append_assoc subprograms more_subprograms.0 others in
            let behind = inlined_functions meta number (types_ ++ later) (subprograms_ ++ others) (list + length (function_variables f)) rest left in
            (λ n. longer n ++ inlined_functions meta number (types_ ++ later) (subprograms_ ++ others) (counted n) rest left)
            ∙ append_assoc entries (entry ∷ []) behind ∙ ap (λ (e : InlinedFunction). entries ++ e ∷ behind) (made later others)
            ∙ (λ n. entries ++ inlined_functions meta number (all_types n) (all_found n) list (f ∷ rest) (is ∷ left))
            ∙ so.listed (more_types.0 ++ later) (more_subprograms.0 ++ others)
            ∙ (λ n. inlined_functions meta number (sym all_types n) (sym all_found n) 0 all instances);
      }

pub unit_made : (meta : Maps) (text_len : ℕ) (functions : List SourceAndCode) (instances : List (List InlinedSubroutine)) (numbers : List ℕ)
    (file : SourceFile) (types : List ℕ) (subprograms : List (Option ℕ)) (list call : ℕ) (left : List (List InlinedSubroutine))
    (entries : List InlinedFunction) (bases : List BaseEntry) (names : List (List ℕ)) → file ≡ program_file meta functions
    → UnitSoFar meta (scope_number meta functions (call_scopes meta instances)) numbers types subprograms list call functions [] instances left entries
    → bases ≡ base_entries meta types → names ≡ map (subprogram_name meta) subprograms
    → record { name = file.name; dir = file.dir; text_len = text_len; types = bases; abstracts = names; functions = entries }
    ≡ inlined_unit_of meta text_len functions instances
unfolding inlined_unit_of
unit_made meta text_len functions instances numbers file types subprograms list call left entries bases names file_is so bases_are names_are =
    let number = scope_number meta functions (call_scopes meta instances) in
    let none : left ≡ [] = nil_from_length left so.as_many in
    let all_types : types ++ [] ≡ program_types meta functions = append-nil types ∙ so.known in
    let all_found : subprograms ++ [] ≡ inlined_subprograms instances =
    append-nil subprograms ∙ sym (ap (λ (l : List (List InlinedSubroutine)). first_uses (option_eq nat_eq) subprograms (all_subprograms l)) none) ∙ so.found in
    let listed : entries ≡ inlined_functions meta number (program_types meta functions) (inlined_subprograms instances) 0 functions instances =
    sym (append-nil entries) ∙ so.listed [] [] ∙ (λ n. inlined_functions meta number (all_types n) (all_found n) 0 functions instances) in
    let based = bases_are ∙ ap (base_entries meta) so.known in
    let named = names_are ∙ ap (map (subprogram_name meta)) (sym (append-nil subprograms) ∙ all_found) in
    (λ n. record {
      name = (file_is n).name;
      dir = (file_is n).dir;
      text_len = text_len;
      types = based n;
      abstracts = named n;
      functions = listed n;
    })

-- ---- the index of instances

pub placed_by : (instances : List InlinedSubroutine) (index : BTreeMap ℕ ℕ) (v : VarId) (place : Option ℕ)
    → ((n : ℕ) → get nat_cmp index n ≡ place_from 0 instances n) → place ≡ option_and_then (λ n. get nat_cmp index n) v.inlined_at
    → place_of instances v ≡ place
placed_by instances index v place each is = by v.inlined_at ∙ sym is
  where
    by : (a : Option ℕ) → option_and_then (λ n. place_from 0 instances n) a ≡ option_and_then (λ n. get nat_cmp index n) a
    by None = refl
    by (Some n) = sym (each n)

-- The spelling of a tree with inlined functions by its parts, and that tables of offsets serve for the offsets themselves.
use Rattle.std.proofs.Common.{◌≡◌, ℕ, suc, ◌+◌, ◌-◌, ◌<◌, ◌≤◌, cond, Option, Some, None, List, [], ◌∷◌, ◌++◌, length, take, drop, map}
use Rattle.std.proofs.Common.{arith, ap, subst, sym, ◌∙◌, refl, nat_eq, length-append, append_assoc}
use Rattle.std.specs.Prelude.{All, IfSome, IfOk, Result, Ok, Err}
use Rattle.std.specs.List.{flat_map}
use Rattle.std.specs.Option.{option_eq}
use Rattle.std.proofs.lemmas.List.Elements.{recursion_from_All, All-head, All-tail}
use Rattle.dwarf_base.specs.Leb.{uleb_of, IsLeb}
use Rattle.dwarf_base.proofs.LebLaws.{uleb_law}
use Rattle.dwarf_info.specs.declared.inlined.InlinedCall.{InlinedCall}
use Rattle.dwarf_info.specs.declared.inlined.InlinedFunction.{InlinedFunction}
use Rattle.dwarf_info.specs.declared.inlined.InlinedUnit.{InlinedUnit}
use Rattle.dwarf_info.specs.declared.unit.BaseEntry.{BaseEntry}
use Rattle.dwarf_info.specs.declared.unit.VariableEntry.{VariableEntry}
use Rattle.dwarf_info.specs.Kinds.{code, attributes}
use Rattle.dwarf_info.specs.Entries.{DebugInfoEntry, entry, values, base_type, variable, subprogram, header, HasType}
use Rattle.dwarf_info.specs.Inlined.{unit_with_ranges, abstract_subprogram, inlined_subroutine, call_bytes, calls_within, inlined_function, inlined_functions}
use Rattle.dwarf_info.specs.Inlined.{types_begin, type_offset, origin_offset, inlined_tree, inlined_spelling, IsCall, AreCalls, IsInlinedFunction}
use Rattle.dwarf_info.specs.steps.Parts.{type_bytes, variable_bytes, in_table, AreOffsets}
use Rattle.dwarf_info.specs.steps.Front.{abstract_bytes, AreOrigins, HasLength}
use Rattle.dwarf_info.proofs.TreeLemmas.{flat_map-map, same_parts, variable_same}
use Rattle.dwarf_info.proofs.CountLemmas.{calls_counted}

-- ---- a call

leb_some : (bytes : List ℕ) → IsLeb bytes → 1 ≤ length bytes
leb_some [] is = absurd is
leb_some (b ∷ rest) is = omega arith

-- an entry has a byte
entry_some : (d : DebugInfoEntry) → 1 ≤ length (entry d)
unfolding entry
entry_some d =
    omega (arith, length-append (uleb_of (code d.kind)) (values (attributes d.kind) d.given), leb_some (uleb_of (code d.kind)) (uleb_law (code d.kind)).0)

pub call_parts : (offset origin : ℕ → ℕ) (first k : ℕ) (c : InlinedCall) → call_bytes offset origin first k c
    ≡ entry (inlined_subroutine origin (first + k) c) ++ flat_map (variable_bytes offset) c.variables
call_parts offset origin first k c = ap (λ (xs : List ℕ). entry (inlined_subroutine origin (first + k) c) ++ xs) (flat_map-map entry (variable offset) c.variables)

pub call_some : (offset origin : ℕ → ℕ) (first k : ℕ) (c : InlinedCall) → 1 ≤ length (call_bytes offset origin first k c)
call_some offset origin first k c =
    let self = inlined_subroutine origin (first + k) c in
    omega (arith, length-append (entry self) (flat_map entry (map (variable offset) c.variables)), entry_some self)

-- ---- functions one after the other

-- the bytes of a function
module _ (offset origin : ℕ → ℕ) (first : ℕ) (f : InlinedFunction) (fs : List InlinedFunction) (out o1 o2 whole : List ℕ)
    (so : out ++ inlined_functions offset origin first (f ∷ fs) ≡ whole) (e1 : o1 ≡ out ++ entry (subprogram f.function))
    (e2 : o2 ≡ o1 ++ flat_map (variable_bytes offset) f.function.variables) where
  abbrev calls : List ℕ
  calls = calls_within (call_bytes offset origin first) 0 f.calls None

  abbrev rest : List ℕ
  rest = inlined_functions offset origin (first + length f.calls) fs

  vars : flat_map entry (map (variable offset) f.function.variables) ≡ flat_map (variable_bytes offset) f.function.variables
  vars = flat_map-map entry (variable offset) f.function.variables

  moved : (a b c d e : List ℕ) → a ++ ((b ++ c ++ d ++ 0 ∷ []) ++ e) ≡ ((((a ++ b) ++ c) ++ d) ++ 0 ∷ []) ++ e
  moved a b c d e = simp append_assoc

  from_here : ((o2 ++ calls) ++ 0 ∷ []) ++ rest ≡ whole
  from_here =
      (λ i. (((e2 ∙ (λ j. e1 j ++ sym vars j)) i ++ calls) ++ 0 ∷ []) ++ rest)
      ∙ sym (moved out (entry (subprogram f.function)) (flat_map entry (map (variable offset) f.function.variables)) calls rest) ∙ so

  pub function_written : (o3 o4 : List ℕ) → o3 ≡ o2 ++ calls → o4 ≡ o3 ++ 0 ∷ [] → o4 ++ rest ≡ whole
  function_written o3 o4 e3 e4 = ap (λ (xs : List ℕ). xs ++ rest) (e4 ∙ ap (λ (xs : List ℕ). xs ++ 0 ∷ []) e3) ∙ from_here

  pub function_within : length o2 + length calls ≤ length whole
  function_within =
      omega (
        arith,
        ap (λ (xs : List ℕ). length xs) from_here,
        length-append ((o2 ++ calls) ++ 0 ∷ []) rest,
        length-append (o2 ++ calls) (0 ∷ []),
        length-append o2 calls,
      )

  pub function_counted : (types abstracts : ℕ) → AreCalls types abstracts 0 f.calls → (o3 o4 : List ℕ) → o3 ≡ o2 ++ calls → o4 ≡ o3 ++ 0 ∷ []
      → first ≤ length out → first + length f.calls ≤ length o4
  function_counted types abstracts are o3 o4 e3 e4 few =
      let l1 = ap (λ (xs : List ℕ). length xs) e1 in
      let l2 = ap (λ (xs : List ℕ). length xs) e2 in
      let l3 = ap (λ (xs : List ℕ). length xs) e3 in
      let l4 = ap (λ (xs : List ℕ). length xs) e4 in
      omega (
        arith,
        few,
        l1,
        l2,
        l3,
        l4,
        length-append out (entry (subprogram f.function)),
        length-append o1 (flat_map (variable_bytes offset) f.function.variables),
        length-append o2 calls,
        length-append o3 (0 ∷ []),
        calls_counted (call_bytes offset origin first) types abstracts f.calls are,
      )

-- ---- offsets by tables

-- calls whose own bytes are the same
within_same : (types abstracts : ℕ) (g h : ℕ → InlinedCall → List ℕ) → ((k : ℕ) (c : InlinedCall) → IsCall types abstracts k c → g k c ≡ h k c)
    → (k : ℕ) (cs : List InlinedCall) (around : Option ℕ) → AreCalls types abstracts k cs → calls_within g k cs around ≡ calls_within h k cs around
within_same types abstracts g h same k [] around are = refl
within_same types abstracts g h same k (c ∷ cs) around are =
    let b = option_eq nat_eq c.parent around in
    let e1 = same k c are.0 in
    let e2 = within_same types abstracts g h same (suc k) cs (Some k) are.1 in
    let e3 = within_same types abstracts g h same (suc k) cs around are.1 in
    (λ i. cond b (e1 i ++ e2 i ++ 0 ∷ []) [] ++ e3 i)

module _ (types abstracts : ℕ) (offset offset_ origin origin_ : ℕ → ℕ) (same : (k : ℕ) → k < types → offset k ≡ offset_ k)
    (alike : (k : ℕ) → k < abstracts → origin k ≡ origin_ k) where
  variables_same : (vs : List VariableEntry) → All (HasType types) vs → flat_map entry (map (variable offset) vs) ≡ flat_map entry (map (variable offset_) vs)
  variables_same vs are =
      flat_map-map entry (variable offset) vs
      ∙ same_parts (HasType types) (variable_bytes offset) (variable_bytes offset_)
      (λ v is. variable_same types offset offset_ same v.name v.argument v.base v.list is) vs (recursion_from_All (HasType types) vs are)
      ∙ sym (flat_map-map entry (variable offset_) vs)

  call_same : (first k : ℕ) (c : InlinedCall) → IsCall types abstracts k c → call_bytes offset origin first k c ≡ call_bytes offset_ origin_ first k c
  call_same first k c is =
      let e1 = alike c.origin is.origin in
      let e2 = variables_same c.variables is.types_are in
      (λ i. entry (inlined_subroutine (λ _. e1 i) (first + k) c) ++ e2 i)

  one_same : (first : ℕ) (f : InlinedFunction) → IsInlinedFunction types abstracts f
      → inlined_function offset origin first f ≡ inlined_function offset_ origin_ first f
  one_same first f is =
      let e1 = variables_same f.function.variables is.0 in
      let e2 =
      within_same types abstracts (call_bytes offset origin first) (call_bytes offset_ origin_ first) (call_same first) 0 f.calls None is.1 in
      (λ i. entry (subprogram f.function) ++ e1 i ++ e2 i ++ 0 ∷ [])

  pub inlined_same : (first : ℕ) (fs : List InlinedFunction) → All (IsInlinedFunction types abstracts) fs
      → inlined_functions offset origin first fs ≡ inlined_functions offset_ origin_ first fs
  inlined_same first [] are = refl
  inlined_same first (f ∷ fs) are =
      let e1 = one_same first f (All-head (IsInlinedFunction types abstracts) f fs are) in
      let e2 = inlined_same (first + length f.calls) fs (All-tail (IsInlinedFunction types abstracts) f fs are) in
      (λ i. e1 i ++ e2 i)

-- ---- the section

-- the tables' offsets are those of the entries
pub tables_serve : (u : InlinedUnit) (offsets origins : List ℕ) (first second : ℕ) → first ≡ types_begin u
    → second ≡ first + length (flat_map type_bytes u.types) → AreOffsets first u.types offsets → AreOrigins second u.abstracts origins
    → All (IsInlinedFunction (length u.types) (length u.abstracts)) u.functions
    → inlined_functions (in_table offsets) (in_table origins) 0 u.functions ≡ inlined_functions (type_offset u) (origin_offset u) 0 u.functions
tables_serve u offsets origins first second at behind are have complete =
    inlined_same (length u.types) (length u.abstracts) (in_table offsets) (type_offset u) (in_table origins) (origin_offset u)
    (λ k inside. are.at k inside ∙ (λ i. at i + length (sym (flat_map-map entry base_type (take k u.types)) i)))
    (λ k inside. have.at k inside ∙ ap (λ (n : ℕ). n + length (flat_map abstract_bytes (take k u.abstracts))) (behind ∙ where_types)
    ∙ ap (λ (xs : List ℕ). types_begin u + length (flat_map entry (map base_type u.types)) + length xs)
    (sym (flat_map-map entry abstract_subprogram (take k u.abstracts)))) 0 u.functions complete
  where
    where_types : first + length (flat_map type_bytes u.types) ≡ types_begin u + length (flat_map entry (map base_type u.types))
    where_types = (λ i. at i + length (sym (flat_map-map entry base_type u.types) i))

-- the section up to the functions, and all of it
module _ (u : InlinedUnit) where
  abbrev pub functions_in : List ℕ
  functions_in = inlined_functions (type_offset u) (origin_offset u) 0 u.functions

  pub tree_written : inlined_tree u
      ≡ entry (unit_with_ranges u) ++ flat_map type_bytes u.types ++ flat_map abstract_bytes u.abstracts ++ functions_in ++ 0 ∷ []
  unfolding inlined_tree
  tree_written =
      (λ i. entry (unit_with_ranges u) ++ flat_map-map entry base_type u.types i ++ flat_map-map entry abstract_subprogram u.abstracts i ++ functions_in ++ 0 ∷ [])

  pub length-inlined : length (inlined_spelling u)
      ≡ 13 + length (entry (unit_with_ranges u)) + length (flat_map type_bytes u.types) + length (flat_map abstract_bytes u.abstracts) + length functions_in
  unfolding inlined_spelling
  length-inlined =
      omega (
        arith,
        length-append (header (8 + length (inlined_tree u))) (inlined_tree u),
        ap (λ (xs : List ℕ). length xs) tree_written,
        five (entry (unit_with_ranges u)) (flat_map type_bytes u.types) (flat_map abstract_bytes u.abstracts) functions_in,
      )
    where
      five : (a b c d : List ℕ) → length (a ++ b ++ c ++ d ++ 0 ∷ []) ≡ length a + length b + length c + length d + 1
      five a b c d =
          omega (arith, length-append (a ++ b ++ c ++ d) (0 ∷ []), length-append (a ++ b ++ c) d, length-append (a ++ b) c, length-append a b)

  -- the section as it was written, with a length of 0 in its header
  module _ (o0 o1 o2 o3 o4 : List ℕ) (e0 : o0 ≡ []) (e1 : o1 ≡ o0 ++ header 0) (e2 : o2 ≡ o1 ++ entry (unit_with_ranges u))
      (e3 : o3 ≡ o2 ++ flat_map type_bytes u.types) (e4 : o4 ≡ o3 ++ flat_map abstract_bytes u.abstracts) where
    pub begins : length o2 ≡ types_begin u
    begins =
        omega (
          arith,
          ap (λ (xs : List ℕ). length xs) (e1 ∙ ap (λ (xs : List ℕ). xs ++ header 0) e0),
          ap (λ (xs : List ℕ). length xs) e2,
          length-append o1 (entry (unit_with_ranges u)),
        )

    pub behind_types : length o3 ≡ length o2 + length (flat_map type_bytes u.types)
    behind_types = ap (λ (xs : List ℕ). length xs) e3 ∙ length-append o2 (flat_map type_bytes u.types)

    pub behind_front : length o4 ≡ length o3 + length (flat_map abstract_bytes u.abstracts)
    behind_front = ap (λ (xs : List ℕ). length xs) e4 ∙ length-append o3 (flat_map abstract_bytes u.abstracts)

    pub functions_large : (n : ℕ) → n ≤ length o4 + length functions_in → n ≤ length (inlined_spelling u)
    functions_large n large = omega (arith, large, length-inlined, begins, behind_types, behind_front)

    module _ (o5 o6 : List ℕ) (e5 : o5 ≡ o4 ++ functions_in) (e6 : o6 ≡ o5 ++ 0 ∷ []) where
      section_is : o6 ≡ header 0 ++ inlined_tree u
      section_is =
          e6 ∙ ap (λ (xs : List ℕ). xs ++ 0 ∷ [])
          (e5 ∙ ap (λ (xs : List ℕ). xs ++ functions_in)
          (e4 ∙ ap (λ (xs : List ℕ). xs ++ flat_map abstract_bytes u.abstracts)
          (e3 ∙ ap (λ (xs : List ℕ). xs ++ flat_map type_bytes u.types)
          (e2 ∙ ap (λ (xs : List ℕ). xs ++ entry (unit_with_ranges u)) (e1 ∙ ap (λ (xs : List ℕ). xs ++ header 0) e0)))))
          ∙ nested (header 0) (entry (unit_with_ranges u)) (flat_map type_bytes u.types) (flat_map abstract_bytes u.abstracts) functions_in
          ∙ ap (λ (xs : List ℕ). header 0 ++ xs) (sym tree_written)
        where
          nested : (a b c d e : List ℕ) → ((((a ++ b) ++ c) ++ d) ++ e) ++ 0 ∷ [] ≡ a ++ (b ++ c ++ d ++ e ++ 0 ∷ [])
          nested a b c d e = simp append_assoc

      pub section_length : length o6 ≡ length (inlined_spelling u)
      unfolding inlined_spelling
      section_length =
          ap (λ (xs : List ℕ). length xs) section_is ∙ length-append (header 0) (inlined_tree u)
          ∙ sym (length-append (header (8 + length (inlined_tree u))) (inlined_tree u))

      pub section_spelled : (bytes : List ℕ) → HasLength o6 bytes → bytes ≡ inlined_spelling u
      unfolding inlined_spelling
      section_spelled bytes has =
          let size : length o6 ≡ 12 + length (inlined_tree u) =
          ap (λ (xs : List ℕ). length xs) section_is ∙ length-append (header 0) (inlined_tree u) in
          let after : length o6 - 4 ≡ 8 + length (inlined_tree u) = omega (arith, size) in
          has ∙ (λ i. header (after i) ++ drop 12 (section_is i)) ∙ ap (λ (xs : List ℕ). header (8 + length (inlined_tree u)) ++ xs) (behind_header (inlined_tree u))
        where
          behind_header : (t : List ℕ) → drop 12 (header 0 ++ t) ≡ t
          behind_header t = refl

-- bytes that are one section are another that is the same
pub bytes_same : {E : Type 0} (r : Result (Option (List ℕ)) E) (P Q : List ℕ → Type 0) → ((bytes : List ℕ) → P bytes → Q bytes)
    → IfOk r (λ o. IfSome o P) → IfOk r (λ o. IfSome o Q)
bytes_same (Ok (Some bytes)) P Q f is = f bytes is
bytes_same (Ok None) P Q f is = tt
bytes_same (Err e) P Q f is = tt

-- ---- what the writer has

-- the section up to the functions was written, with tables that serve for them
pub record FrontWritten (u : InlinedUnit) (out offsets origins : List ℕ) (functions : List InlinedFunction) : Type 0 where
  pub large : (n : ℕ) → n ≤ length out + length (inlined_functions (in_table offsets) (in_table origins) 0 functions) → n ≤ length (inlined_spelling u)
  pub length_is : (o5 o6 : List ℕ) → o5 ≡ out ++ inlined_functions (in_table offsets) (in_table origins) 0 functions → o6 ≡ o5 ++ 0 ∷ []
      → length o6 ≡ length (inlined_spelling u)
  pub spelled : (o5 o6 : List ℕ) → o5 ≡ out ++ inlined_functions (in_table offsets) (in_table origins) 0 functions → o6 ≡ o5 ++ 0 ∷ []
      → (bytes : List ℕ) → HasLength o6 bytes → bytes ≡ inlined_spelling u

pub front_written : (u : InlinedUnit) (o0 o1 o2 o3 o4 offsets table origins named : List ℕ) (types : List BaseEntry) (names : List (List ℕ))
    (functions : List InlinedFunction) → o0 ≡ [] → o1 ≡ o0 ++ header 0 → o2 ≡ o1 ++ entry (unit_with_ranges u) → types ≡ u.types
    → o3 ≡ o2 ++ flat_map type_bytes types → AreOffsets (length o2) types offsets → offsets ≡ table → names ≡ u.abstracts
    → o4 ≡ o3 ++ flat_map abstract_bytes names → AreOrigins (length o3) names origins → origins ≡ named → functions ≡ u.functions
    → All (IsInlinedFunction (length u.types) (length u.abstracts)) u.functions → FrontWritten u o4 table named functions
front_written u o0 o1 o2 o3 o4 offsets table origins named types names functions e0 e1 e2 types_are e3 are same names_are e4 have alike functions_are complete =
    record {
      large = λ n large. functions_large u o0 o1 o2 o3 o4 e0 e1 e2 third fourth n
          (subst (λ (xs : List ℕ). n ≤ length o4 + length xs) served large);
      length_is = λ o5 o6 e5 e6. section_length u o0 o1 o2 o3 o4 e0 e1 e2 third fourth o5 o6 (e5 ∙ ap (λ (xs : List ℕ). o4 ++ xs) served) e6;
      spelled = λ o5 o6 e5 e6 bytes has.
          section_spelled u o0 o1 o2 o3 o4 e0 e1 e2 third fourth o5 o6 (e5 ∙ ap (λ (xs : List ℕ). o4 ++ xs) served) e6 bytes has;
    }
  where
    third : o3 ≡ o2 ++ flat_map type_bytes u.types
    third = e3 ∙ ap (λ (ts : List BaseEntry). o2 ++ flat_map type_bytes ts) types_are

    fourth : o4 ≡ o3 ++ flat_map abstract_bytes u.abstracts
    fourth = e4 ∙ ap (λ (ns : List (List ℕ)). o3 ++ flat_map abstract_bytes ns) names_are

    the_offsets : AreOffsets (length o2) u.types table
    the_offsets =
        subst (λ (ts : List BaseEntry). AreOffsets (length o2) ts table) types_are
        (subst (λ (os : List ℕ). AreOffsets (length o2) types os) same are)

    the_origins : AreOrigins (length o3) u.abstracts named
    the_origins =
        subst (λ (ns : List (List ℕ)). AreOrigins (length o3) ns named) names_are
        (subst (λ (os : List ℕ). AreOrigins (length o3) names os) alike have)

    served : inlined_functions (in_table table) (in_table named) 0 functions ≡ functions_in u
    served =
        ap (inlined_functions (in_table table) (in_table named) 0) functions_are
        ∙ tables_serve u table named (length o2) (length o3) (begins u o0 o1 o2 o3 o4 e0 e1 e2 third fourth)
        (behind_types u o0 o1 o2 o3 o4 e0 e1 e2 third fourth) the_offsets the_origins complete

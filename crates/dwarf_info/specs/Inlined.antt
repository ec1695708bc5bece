-- The tree of a unit's entries with inlined functions, and its unique encoding (DWARF 5 sections 3.3.8 and 7.5.1 to 7.5.5).
use Rattle.std.specs.Prelude.{ℕ, suc, ◌+◌, ◌<◌, Option, Some, None, List, [], ◌∷◌, ◌++◌, length, take, map, cond, nat_eq, All, IfSome}
use Rattle.std.specs.List.{flat_map}
use Rattle.std.specs.Option.{option_eq}
use Rattle.dwarf_info.specs.declared.kind.DieKind.TheVariants.{UnitWithRanges, AbstractSubprogram, InlinedSubroutine}
use Rattle.dwarf_info.specs.declared.inlined.InlinedCall.{InlinedCall}
use Rattle.dwarf_info.specs.declared.inlined.InlinedFunction.{InlinedFunction}
use Rattle.dwarf_info.specs.declared.inlined.InlinedUnit.{InlinedUnit}
use Rattle.dwarf_info.specs.Standard.{DW_LANG_C99, LOCLISTS_BASE, RNGLISTS_BASE, HEADER_LENGTH, DW_INL_inlined}
use Rattle.dwarf_info.specs.Entries.{DebugInfoEntry, entry, base_type, variable, subprogram, header, HasType, HasTypes}

-- a compilation unit, as without inlined functions but for the offset that its range lists count from
abbrev pub unit_with_ranges : InlinedUnit → DebugInfoEntry
unit_with_ranges u =
    record { kind = UnitWithRanges; given = (DW_LANG_C99, (u.name, (u.dir, (0, (0, (u.text_len, (LOCLISTS_BASE, (RNGLISTS_BASE, tt)))))))) }

-- a function that was inlined, apart from its calls (section 3.3.8.1)
abbrev pub abstract_subprogram : (name : List ℕ) → DebugInfoEntry
abstract_subprogram name = record { kind = AbstractSubprogram; given = (name, (DW_INL_inlined, tt)) }

-- the code of a function that was inlined at a call (section 3.3.8.2). `origin` is the offset of each abstract entry from the unit's first byte. Its
-- addresses are the range list with this index
abbrev pub inlined_subroutine : (origin : ℕ → ℕ) → (list : ℕ) → InlinedCall → DebugInfoEntry
inlined_subroutine origin list c = record { kind = InlinedSubroutine; given = (origin c.origin, (list, (c.file, (c.line, (c.column, tt))))) }

-- the entry of a call's code with its variables. The range list of a function's call k has the index first + k
abbrev pub call_bytes : (offset origin : ℕ → ℕ) → (first k : ℕ) → InlinedCall → List ℕ
call_bytes offset origin first k c = entry (inlined_subroutine origin (first + k) c) ++ flat_map entry (map (variable offset) c.variables)

-- Of calls from number k on those in the code of a call, or if there is none in the function's own code. Each has its entry, then the calls in its code, and
-- a zero byte, which ends its children (section 7.5.3).
abbrev pub calls_within : (bytes : ℕ → InlinedCall → List ℕ) → (k : ℕ) → List InlinedCall → (around : Option ℕ) → List ℕ
calls_within bytes k [] around = []
calls_within bytes k (c ∷ cs) around =
    cond (option_eq nat_eq c.parent around) (bytes k c ++ calls_within bytes (suc k) cs (Some k) ++ 0 ∷ []) [] ++ calls_within bytes (suc k) cs around

-- the encoding of a function: its entry, its own variables, and its calls
abbrev pub inlined_function : (offset origin : ℕ → ℕ) → (first : ℕ) → InlinedFunction → List ℕ
inlined_function offset origin first f =
    entry (subprogram f.function) ++ flat_map entry (map (variable offset) f.function.variables)
    ++ calls_within (call_bytes offset origin first) 0 f.calls None ++ 0 ∷ []

-- the functions, whose calls' range lists are numbered from this index on
abbrev pub inlined_functions : (offset origin : ℕ → ℕ) → (first : ℕ) → List InlinedFunction → List ℕ
inlined_functions offset origin first [] = []
inlined_functions offset origin first (f ∷ fs) = inlined_function offset origin first f ++ inlined_functions offset origin (first + length f.calls) fs

-- the offset of the first type's entry from the unit's first byte
abbrev pub types_begin : InlinedUnit → ℕ
types_begin u = HEADER_LENGTH + length (entry (unit_with_ranges u))

-- the offset of type k's entry
abbrev pub type_offset : InlinedUnit → ℕ → ℕ
type_offset u k = types_begin u + length (flat_map entry (map base_type (take k u.types)))

-- the offset of abstract entry k, behind the types
abbrev pub origin_offset : InlinedUnit → ℕ → ℕ
origin_offset u k =
    types_begin u + length (flat_map entry (map base_type u.types)) + length (flat_map entry (map abstract_subprogram (take k u.abstracts)))

-- the encoding of the tree: its entries in prefix order (section 2.3)
unfoldable pub inlined_tree : InlinedUnit → List ℕ
inlined_tree u =
    entry (unit_with_ranges u) ++ flat_map entry (map base_type u.types) ++ flat_map entry (map abstract_subprogram u.abstracts)
    ++ inlined_functions (type_offset u) (origin_offset u) 0 u.functions ++ 0 ∷ []

-- the section
unfoldable pub inlined_spelling : InlinedUnit → List ℕ
inlined_spelling u = header (8 + length (inlined_tree u)) ++ inlined_tree u

-- what a call refers to is there: the types of its variables, its abstract entry, and the call around it, which stands before it
pub record IsCall (types abstracts : ℕ) (k : ℕ) (c : InlinedCall) : Type 0 where
  pub types_are : All (HasType types) c.variables
  pub origin : c.origin < abstracts
  pub parent : IfSome c.parent (λ p. p < k)

-- the calls from number k on are such
abbrev pub AreCalls : (types abstracts : ℕ) → (k : ℕ) → List InlinedCall → Type 0
AreCalls types abstracts k [] = Unit {0}
AreCalls types abstracts k (c ∷ cs) = IsCall types abstracts k c × AreCalls types abstracts (suc k) cs

-- what a function refers to is there
abbrev pub IsInlinedFunction : (types abstracts : ℕ) → InlinedFunction → Type 0
IsInlinedFunction types abstracts f = HasTypes types f.function × AreCalls types abstracts 0 f.calls

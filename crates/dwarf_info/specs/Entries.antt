-- The tree of a unit's entries, and its unique encoding: the section .debug_info (DWARF 5 sections 7.5.1 to 7.5.5).
use Rattle.std.specs.Prelude.{ℕ, ◌+◌, ◌<◌, Bool, true, false, Option, Some, None, List, [], ◌∷◌, ◌++◌, length, take, map, ◌==◌, All, IfSome}
use Rattle.std.specs.List.{flat_map, before_first}
use Rattle.std.specs.Int.{w16, w32, w64, to_le_bytes}
use Rattle.dwarf_base.specs.Leb.{uleb_of}
use Rattle.dwarf_base.specs.Standard.{VERSION, ADDRESS_SIZE}
use Rattle.dwarf_info.specs.declared.kind.DieKind.{DieKind}
use Rattle.dwarf_info.specs.declared.kind.DieKind.TheVariants.{CompileUnit, Subprogram, TypedParameter, Parameter, TypedVariable, Variable, BaseType}
use Rattle.dwarf_info.specs.declared.kind.Form.{Form}
use Rattle.dwarf_info.specs.declared.kind.Form.TheVariants.{Address, Data1, Data2, Data4, Text, Reference, SectionOffset, LocationList, RangeList, Unsigned}
use Rattle.dwarf_info.specs.declared.kind.Attribute.{Attribute}
use Rattle.dwarf_info.specs.declared.unit.BaseEntry.{BaseEntry}
use Rattle.dwarf_info.specs.declared.unit.VariableEntry.{VariableEntry}
use Rattle.dwarf_info.specs.declared.unit.FunctionEntry.{FunctionEntry}
use Rattle.dwarf_info.specs.declared.unit.Unit.{Unit as CompilationUnit}
use Rattle.dwarf_info.specs.Standard.{DW_UT_compile, DW_LANG_C99, LOCLISTS_BASE, HEADER_LENGTH}
use Rattle.dwarf_info.specs.Kinds.{code, attributes}

-- a name up to its first zero byte
abbrev pub named : List ℕ → List ℕ
named name = before_first (λ byte. byte == 0) name

-- the values of a form: the bytes of a string, or a number
abbrev pub ValueOf : Form → Type 0
ValueOf Address = ℕ
ValueOf Data1 = ℕ
ValueOf Data2 = ℕ
ValueOf Data4 = ℕ
ValueOf Text = List ℕ
ValueOf Reference = ℕ
ValueOf SectionOffset = ℕ
ValueOf LocationList = ℕ
ValueOf RangeList = ℕ
ValueOf Unsigned = ℕ

-- the encoding of a value (section 7.5.5)
abbrev pub value : (form : Form) → ValueOf form → List ℕ
value Address address = to_le_bytes w64 address
value Data1 n = n ∷ []
value Data2 n = to_le_bytes w16 n
value Data4 n = to_le_bytes w32 n
value Text name = named name ++ 0 ∷ []
value Reference offset = to_le_bytes w32 offset
value SectionOffset offset = to_le_bytes w32 offset
value LocationList n = uleb_of n
value RangeList n = uleb_of n
value Unsigned n = uleb_of n

-- a value for each attribute
abbrev pub Values : List Attribute → Type 0
Values [] = Unit {0}
Values (a ∷ others) = ValueOf a.form × (Values others)

-- the encoding of attributes' values, in the order of the abbreviation (section 7.5.2)
abbrev pub values : (attributes_of : List Attribute) → Values attributes_of → List ℕ
values [] given = []
values (a ∷ others) given = value a.form given.0 ++ values others given.1

-- an entry: its kind, and a value for each of the kind's attributes
pub record DebugInfoEntry : Type 0 where
  pub kind : DieKind
  pub given : Values (attributes kind)

-- the encoding of an entry (section 7.5.2): the code of its abbreviation, and the values in order
unfoldable pub entry : DebugInfoEntry → List ℕ
entry e = uleb_of (code e.kind) ++ values (attributes e.kind) e.given

-- a base type
abbrev pub base_type : BaseEntry → DebugInfoEntry
base_type b = record { kind = BaseType; given = (b.name, (b.size, (b.encoding, tt))) }

-- a parameter or a variable. `offset` is the offset of each type's entry from the unit's first byte. Its location is the list
-- with this index
abbrev pub variable_by : (offset : ℕ → ℕ) → List ℕ → (argument : Bool) → Option ℕ → ℕ → DebugInfoEntry
variable_by offset name true (Some base) list = record { kind = TypedParameter; given = (name, (offset base, (list, tt))) }
variable_by offset name true None list = record { kind = Parameter; given = (name, (list, tt)) }
variable_by offset name false (Some base) list = record { kind = TypedVariable; given = (name, (offset base, (list, tt))) }
variable_by offset name false None list = record { kind = Variable; given = (name, (list, tt)) }

-- the entry of a variable or of a formal parameter, with DW_AT_type if its type is known
abbrev pub variable : (offset : ℕ → ℕ) → VariableEntry → DebugInfoEntry
variable offset v = variable_by offset v.name v.argument v.base v.list

-- a function: its high_pc is a length (section 2.17.2)
abbrev pub subprogram : FunctionEntry → DebugInfoEntry
subprogram f = record { kind = Subprogram; given = (f.name, (f.lo, (f.len, tt))) }

-- a compilation unit. Its line number table is the first one, and its code begins at address 0
abbrev pub compile_unit : CompilationUnit → DebugInfoEntry
compile_unit u = record { kind = CompileUnit; given = (DW_LANG_C99, (u.name, (u.dir, (0, (0, (u.text_len, (LOCLISTS_BASE, tt))))))) }

-- the offset of type k's entry from the unit's first byte: after the header, the unit's entry and the types before it
abbrev pub type_offset : CompilationUnit → ℕ → ℕ
type_offset u k = HEADER_LENGTH + length (entry (compile_unit u)) + length (flat_map entry (map base_type (take k u.types)))

-- an entry and its children
pub record Function : Type 0 where
  pub self : DebugInfoEntry
  pub variables : List DebugInfoEntry

-- the unit's entry and its children: the types and the functions
pub record Tree : Type 0 where
  pub self : DebugInfoEntry
  pub types : List DebugInfoEntry
  pub functions : List Function

-- the entry of a function, with its parameters and variables as children
abbrev pub function_of : (offset : ℕ → ℕ) → FunctionEntry → Function
function_of offset f = record { self = subprogram f; variables = map (variable offset) f.variables }

-- the tree of a unit's entries
abbrev pub tree_of : CompilationUnit → Tree
tree_of u = record { self = compile_unit u; types = map base_type u.types; functions = map (function_of (type_offset u)) u.functions }

-- the encoding of a function with its children, which a zero byte ends (section 7.5.3)
abbrev pub function : Function → List ℕ
function f = entry f.self ++ flat_map entry f.variables ++ 0 ∷ []

-- the encoding of a tree: its entries in prefix order (section 2.3). A zero byte ends the children of the unit too
unfoldable pub tree : Tree → List ℕ
tree t = entry t.self ++ flat_map entry t.types ++ flat_map function t.functions ++ 0 ∷ []

-- the unit's header (section 7.5.1.1): the length of what follows it, the version, the unit type, the size of addresses, and the
-- offset of its abbreviations
abbrev pub header : (length_after : ℕ) → List ℕ
header length_after = to_le_bytes w32 length_after ++ to_le_bytes w16 VERSION ++ (DW_UT_compile ∷ ADDRESS_SIZE ∷ []) ++ to_le_bytes w32 0

-- the section
unfoldable pub spelling : CompilationUnit → List ℕ
spelling u = header (8 + length (tree (tree_of u))) ++ tree (tree_of u)

-- a variable's type, if it has one, is among this number of types
abbrev pub HasType : ℕ → VariableEntry → Type 0
HasType count v = IfSome v.base (λ base. base < count)

-- the types of a function's variables are among this number of types
abbrev pub HasTypes : ℕ → FunctionEntry → Type 0
HasTypes count f = All (HasType count) f.variables

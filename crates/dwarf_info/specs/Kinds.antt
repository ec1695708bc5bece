-- The kinds of entries: one description for the encodings of both abbreviations and entries (DWARF 5 sections 7.5.2 and 7.5.3).
use Rattle.std.specs.Prelude.{ℕ, List, [], ◌∷◌, ◌++◌}
use Rattle.std.specs.List.{flat_map}
use Rattle.dwarf_base.specs.Leb.{uleb_of}
use Rattle.dwarf_base.specs.Standard.{DW_FORM_string, DW_FORM_udata}
use Rattle.dwarf_info.specs.declared.kind.DieKind.{DieKind}
use Rattle.dwarf_info.specs.declared.kind.DieKind.TheVariants.{CompileUnit, Subprogram, TypedParameter, Parameter, TypedVariable, Variable, BaseType}
use Rattle.dwarf_info.specs.declared.kind.DieKind.TheVariants.{UnitWithRanges, AbstractSubprogram, InlinedSubroutine}
use Rattle.dwarf_info.specs.declared.kind.Form.{Form}
use Rattle.dwarf_info.specs.declared.kind.Form.TheVariants.{Address, Data1, Data2, Data4, Text, Reference, SectionOffset, LocationList, RangeList, Unsigned}
use Rattle.dwarf_info.specs.declared.kind.Attribute.{Attribute}
use Rattle.dwarf_info.specs.Standard.{DW_TAG_formal_parameter, DW_TAG_compile_unit, DW_TAG_base_type, DW_TAG_subprogram, DW_TAG_variable, DW_CHILDREN_no}
use Rattle.dwarf_info.specs.Standard.{DW_CHILDREN_yes, DW_AT_location, DW_AT_name, DW_AT_byte_size, DW_AT_stmt_list, DW_AT_low_pc, DW_AT_high_pc}
use Rattle.dwarf_info.specs.Standard.{DW_AT_language, DW_AT_comp_dir, DW_AT_encoding, DW_AT_type, DW_AT_loclists_base, DW_FORM_addr, DW_FORM_data1}
use Rattle.dwarf_info.specs.Standard.{DW_FORM_data2, DW_FORM_data4, DW_FORM_ref4, DW_FORM_sec_offset, DW_FORM_loclistx, DW_FORM_rnglistx}
use Rattle.dwarf_info.specs.Standard.{DW_TAG_inlined_subroutine, DW_AT_inline, DW_AT_abstract_origin, DW_AT_ranges, DW_AT_call_file, DW_AT_call_line}
use Rattle.dwarf_info.specs.Standard.{DW_AT_call_column, DW_AT_rnglists_base}

-- the number of a form (section 7.5.6)
abbrev pub form_number : Form → ℕ
form_number Address = DW_FORM_addr
form_number Data1 = DW_FORM_data1
form_number Data2 = DW_FORM_data2
form_number Data4 = DW_FORM_data4
form_number Text = DW_FORM_string
form_number Reference = DW_FORM_ref4
form_number SectionOffset = DW_FORM_sec_offset
form_number LocationList = DW_FORM_loclistx
form_number RangeList = DW_FORM_rnglistx
form_number Unsigned = DW_FORM_udata

-- the code of a kind's abbreviation: its position among the abbreviations, counted from 1. A unit has one of two kinds, with and without ranges
abbrev pub code : DieKind → ℕ
code CompileUnit = 1
code Subprogram = 2
code TypedParameter = 3
code Parameter = 4
code TypedVariable = 5
code Variable = 6
code BaseType = 7
code UnitWithRanges = 1
code AbstractSubprogram = 8
code InlinedSubroutine = 9

-- the tag of a kind (section 7.5.3). It is the same with and without a type
abbrev pub tag : DieKind → ℕ
tag CompileUnit = DW_TAG_compile_unit
tag Subprogram = DW_TAG_subprogram
tag TypedParameter = DW_TAG_formal_parameter
tag Parameter = DW_TAG_formal_parameter
tag TypedVariable = DW_TAG_variable
tag Variable = DW_TAG_variable
tag BaseType = DW_TAG_base_type
tag UnitWithRanges = DW_TAG_compile_unit
tag AbstractSubprogram = DW_TAG_subprogram
tag InlinedSubroutine = DW_TAG_inlined_subroutine

-- whether entries of a kind have children (section 7.5.3): the unit, functions and inlined functions have
abbrev pub children : DieKind → ℕ
children CompileUnit = DW_CHILDREN_yes
children Subprogram = DW_CHILDREN_yes
children TypedParameter = DW_CHILDREN_no
children Parameter = DW_CHILDREN_no
children TypedVariable = DW_CHILDREN_no
children Variable = DW_CHILDREN_no
children BaseType = DW_CHILDREN_no
children UnitWithRanges = DW_CHILDREN_yes
children AbstractSubprogram = DW_CHILDREN_no
children InlinedSubroutine = DW_CHILDREN_yes

abbrev at : ℕ → Form → Attribute
at name form = record { name = name; form = form }

-- the attributes of a kind, in order, each with its form
abbrev pub attributes : DieKind → List Attribute
attributes CompileUnit =
    at DW_AT_language Data2 ∷ at DW_AT_name Text ∷ at DW_AT_comp_dir Text ∷ at DW_AT_stmt_list SectionOffset ∷ at DW_AT_low_pc Address
    ∷ at DW_AT_high_pc Data4 ∷ at DW_AT_loclists_base SectionOffset ∷ []
attributes Subprogram = at DW_AT_name Text ∷ at DW_AT_low_pc Address ∷ at DW_AT_high_pc Data4 ∷ []
attributes TypedParameter = at DW_AT_name Text ∷ at DW_AT_type Reference ∷ at DW_AT_location LocationList ∷ []
attributes Parameter = at DW_AT_name Text ∷ at DW_AT_location LocationList ∷ []
attributes TypedVariable = at DW_AT_name Text ∷ at DW_AT_type Reference ∷ at DW_AT_location LocationList ∷ []
attributes Variable = at DW_AT_name Text ∷ at DW_AT_location LocationList ∷ []
attributes BaseType = at DW_AT_name Text ∷ at DW_AT_byte_size Data1 ∷ at DW_AT_encoding Data1 ∷ []
attributes UnitWithRanges =
    at DW_AT_language Data2 ∷ at DW_AT_name Text ∷ at DW_AT_comp_dir Text ∷ at DW_AT_stmt_list SectionOffset ∷ at DW_AT_low_pc Address
    ∷ at DW_AT_high_pc Data4 ∷ at DW_AT_loclists_base SectionOffset ∷ at DW_AT_rnglists_base SectionOffset ∷ []
attributes AbstractSubprogram = at DW_AT_name Text ∷ at DW_AT_inline Data1 ∷ []
attributes InlinedSubroutine =
    at DW_AT_abstract_origin Reference ∷ at DW_AT_ranges RangeList ∷ at DW_AT_call_file Unsigned ∷ at DW_AT_call_line Unsigned
    ∷ at DW_AT_call_column Unsigned ∷ []

-- all kinds of entries without inlined functions, in the order of their codes
abbrev pub kinds : List DieKind
kinds = CompileUnit ∷ Subprogram ∷ TypedParameter ∷ Parameter ∷ TypedVariable ∷ Variable ∷ BaseType ∷ []

-- all kinds of entries with inlined functions, in the order of their codes
abbrev pub inlined_kinds : List DieKind
inlined_kinds =
    UnitWithRanges ∷ Subprogram ∷ TypedParameter ∷ Parameter ∷ TypedVariable ∷ Variable ∷ BaseType ∷ AbstractSubprogram ∷ InlinedSubroutine ∷ []

-- an attribute in an abbreviation: the number of its name, and that of its form
abbrev pub attribute : Attribute → List ℕ
attribute a = uleb_of a.name ++ uleb_of (form_number a.form)

-- an abbreviation (section 7.5.3): the code, the tag, the children flag, the attributes, and two zero bytes
unfoldable pub abbreviation : DieKind → List ℕ
abbreviation kind = uleb_of (code kind) ++ uleb_of (tag kind) ++ children kind ∷ [] ++ flat_map attribute (attributes kind) ++ 0 ∷ 0 ∷ []

-- the section .debug_abbrev of entries with inlined functions
unfoldable pub inlined_abbreviations : List ℕ
inlined_abbreviations = flat_map abbreviation inlined_kinds ++ 0 ∷ []

-- the section .debug_abbrev: the abbreviations, and a zero byte
unfoldable pub abbreviations : List ℕ
abbreviations = flat_map abbreviation kinds ++ 0 ∷ []

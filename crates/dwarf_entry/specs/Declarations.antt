-- Abbreviations: an entry without its values, and the section .debug_abbrev (DWARF 5 section 7.5.3).
use Rattle.std.specs.Prelude.{ℕ, suc, Bool, true, false, cond, nat_eq, ◌&&◌, List, [], ◌∷◌, ◌++◌, map}
use Rattle.std.specs.List.{flat_map}
use Rattle.dwarf_base.specs.Leb.{uleb_of}
use Rattle.dwarf_base.specs.Standard.{DW_FORM_string, DW_FORM_udata}
use Rattle.dwarf_info.specs.Standard.{DW_FORM_addr, DW_FORM_data1, DW_FORM_data2, DW_FORM_data4, DW_FORM_ref4, DW_FORM_sec_offset}
use Rattle.dwarf_info.specs.Standard.{DW_FORM_loclistx, DW_FORM_rnglistx, DW_CHILDREN_yes, DW_CHILDREN_no}
use Rattle.dwarf_entry.specs.Standard.{DW_FORM_flag, DW_FORM_sdata, DW_FORM_exprloc, DW_FORM_flag_present}
use Rattle.dwarf_entry.specs.declared.tree.Value.{Value}
use Rattle.dwarf_entry.specs.declared.tree.Value.TheVariants.{Address, Data1, Data2, Data4, Unsigned, Signed, Text, Reference, SectionOffset, LocationList}
use Rattle.dwarf_entry.specs.declared.tree.Value.TheVariants.{RangeList, Flag, Present, Expression}
use Rattle.dwarf_entry.specs.declared.tree.Attribute.{Attribute}
use Rattle.dwarf_entry.specs.declared.tree.Entry.{Entry}
use Rattle.dwarf_entry.specs.declared.tree.TreeItem.{TreeItem}
use Rattle.dwarf_entry.specs.declared.tree.TreeItem.TheVariants.{Die, Null}
use Rattle.dwarf_entry.specs.declared.abbreviation.Specification.{Specification}
use Rattle.dwarf_entry.specs.declared.abbreviation.Abbreviation.{Abbreviation}

-- ---- the abbreviation of an entry

-- the form of a value (section 7.5.6)
abbrev pub form_of : Value → ℕ
form_of (Address address) = DW_FORM_addr
form_of (Data1 n) = DW_FORM_data1
form_of (Data2 n) = DW_FORM_data2
form_of (Data4 n) = DW_FORM_data4
form_of (Unsigned n) = DW_FORM_udata
form_of (Signed v) = DW_FORM_sdata
form_of (Text name) = DW_FORM_string
form_of (Reference item) = DW_FORM_ref4
form_of (SectionOffset offset) = DW_FORM_sec_offset
form_of (LocationList list) = DW_FORM_loclistx
form_of (RangeList list) = DW_FORM_rnglistx
form_of (Flag is) = DW_FORM_flag
form_of Present = DW_FORM_flag_present
form_of (Expression bytes) = DW_FORM_exprloc

-- an attribute without its value
abbrev pub specification_of : Attribute → Specification
specification_of a = record { name = a.name; form = form_of a.value }

-- an entry without its values
abbrev pub abbreviation_of : Entry → Abbreviation
abbreviation_of e = record { tag = e.tag; children = e.children; attributes = map specification_of e.attributes }

-- whether children follow (section 7.5.3)
abbrev pub children_flag : Bool → ℕ
children_flag true = DW_CHILDREN_yes
children_flag false = DW_CHILDREN_no

-- ---- abbreviations by their codes

abbrev pub same_specifications : List Specification → List Specification → Bool
same_specifications [] [] = true
same_specifications [] (b ∷ bs) = false
same_specifications (a ∷ xs) [] = false
same_specifications (a ∷ xs) (b ∷ bs) = nat_eq a.name b.name && nat_eq a.form b.form && same_specifications xs bs

-- whether two abbreviations are equal
abbrev pub same : Abbreviation → Abbreviation → Bool
same a b = nat_eq a.tag b.tag && nat_eq (children_flag a.children) (children_flag b.children) && same_specifications a.attributes b.attributes

-- whether one is among others
abbrev pub is_declared : Abbreviation → List Abbreviation → Bool
is_declared a [] = false
is_declared a (b ∷ bs) = cond (same b a) true (is_declared a bs)

-- the code of one among others: the number of the first that it equals, if these are numbered from a number on
abbrev pub code_from : (code : ℕ) → List Abbreviation → Abbreviation → ℕ
code_from code [] a = code
code_from code (b ∷ bs) a = cond (same b a) code (code_from (suc code) bs a)

-- the code of an abbreviation in a section: codes count from 1
abbrev pub code_of : List Abbreviation → Abbreviation → ℕ
code_of abbreviations a = code_from 1 abbreviations a

-- one more abbreviation, if it isn't there
abbrev pub with_one : List Abbreviation → Abbreviation → List Abbreviation
with_one abbreviations a = cond (is_declared a abbreviations) abbreviations (abbreviations ++ a ∷ [])

-- the abbreviations of items behind others
abbrev pub abbreviations_from : List Abbreviation → List TreeItem → List Abbreviation
abbreviations_from before [] = before
abbreviations_from before (Null ∷ rest) = abbreviations_from before rest
abbreviations_from before (Die e ∷ rest) = abbreviations_from (with_one before (abbreviation_of e)) rest

-- the abbreviations of a tree, each once, in order of first use
abbrev pub abbreviations_of : List TreeItem → List Abbreviation
abbreviations_of items = abbreviations_from [] items

-- ---- the section

-- an attribute in a declaration: the number of its name and that of its form
abbrev pub specification : Specification → List ℕ
specification s = uleb_of s.name ++ uleb_of s.form

-- a declaration: the code, the tag, the children flag, the attributes, and two zero bytes
unfoldable pub declaration : (code : ℕ) → Abbreviation → List ℕ
declaration code a = uleb_of code ++ uleb_of a.tag ++ children_flag a.children ∷ [] ++ flat_map specification a.attributes ++ 0 ∷ 0 ∷ []

-- declarations whose codes count from a number on, and the zero byte behind the last one
abbrev pub declarations_from : (code : ℕ) → List Abbreviation → List ℕ
declarations_from code [] = 0 ∷ []
declarations_from code (a ∷ rest) = declaration code a ++ declarations_from (suc code) rest

-- the section .debug_abbrev
abbrev pub abbreviation_section : List Abbreviation → List ℕ
abbreviation_section abbreviations = declarations_from 1 abbreviations

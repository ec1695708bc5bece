-- The words of fields: tags of types, and languages by DWARF's codes, under the standard's names. (DWARF 5, section 7.5.3, "Attribute Encodings", and section
-- 7.12, "Source Languages".)
use Rattle.std.specs.Prelude.{ℕ, if◌then◌else◌, codes, List, Option, Some, None}
use Rattle.std.specs.Str.{bytes_eq}
use Rattle.read_debug_nodes.specs.declared.node.DerivedForm.{DerivedForm}
use Rattle.read_debug_nodes.specs.declared.node.DerivedForm.TheVariants as derived
use Rattle.read_debug_nodes.specs.declared.node.CompositeForm.{CompositeForm}
use Rattle.read_debug_nodes.specs.declared.node.CompositeForm.TheVariants as composite

abbrev pub DW_LANG_C89 : ℕ
DW_LANG_C89 = 0x01

abbrev pub DW_LANG_C : ℕ
DW_LANG_C = 0x02

abbrev pub DW_LANG_C_plus_plus : ℕ
DW_LANG_C_plus_plus = 0x04

abbrev pub DW_LANG_C99 : ℕ
DW_LANG_C99 = 0x0c

abbrev pub DW_LANG_C_plus_plus_11 : ℕ
DW_LANG_C_plus_plus_11 = 0x1a

abbrev pub DW_LANG_Rust : ℕ
DW_LANG_Rust = 0x1c

abbrev pub DW_LANG_C11 : ℕ
DW_LANG_C11 = 0x1d

abbrev pub DW_LANG_C_plus_plus_14 : ℕ
DW_LANG_C_plus_plus_14 = 0x21

abbrev pub DW_LANG_C_plus_plus_20 : ℕ
DW_LANG_C_plus_plus_20 = 0x2a

abbrev pub DW_LANG_C_plus_plus_17 : ℕ
DW_LANG_C_plus_plus_17 = 0x2b

abbrev pub DW_LANG_C17 : ℕ
DW_LANG_C17 = 0x2c

-- what a type is that is made from another one, by its tag
unfoldable pub derived_form : List ℕ → DerivedForm
derived_form word =
    if bytes_eq word (codes "DW_TAG_pointer_type") then derived.Pointer
    else (if bytes_eq word (codes "DW_TAG_reference_type") then derived.Reference
    else (if bytes_eq word (codes "DW_TAG_rvalue_reference_type") then derived.RvalueReference
    else (if bytes_eq word (codes "DW_TAG_const_type") then derived.Const
    else (if bytes_eq word (codes "DW_TAG_volatile_type") then derived.Volatile
    else (if bytes_eq word (codes "DW_TAG_restrict_type") then derived.Restrict
    else (if bytes_eq word (codes "DW_TAG_atomic_type") then derived.Atomic
    else (if bytes_eq word (codes "DW_TAG_typedef") then derived.Typedef
    else (if bytes_eq word (codes "DW_TAG_member") then derived.Member
    else derived.Other))))))))

-- what a type with parts is, by its tag
unfoldable pub composite_form : List ℕ → CompositeForm
composite_form word =
    if bytes_eq word (codes "DW_TAG_structure_type") then composite.Structure
    else (if bytes_eq word (codes "DW_TAG_union_type") then composite.Union
    else (if bytes_eq word (codes "DW_TAG_class_type") then composite.Class
    else (if bytes_eq word (codes "DW_TAG_enumeration_type") then composite.Enumeration
    else (if bytes_eq word (codes "DW_TAG_array_type") then composite.Array
    else composite.Other))))

-- the code of a language
unfoldable pub language_code : List ℕ → Option ℕ
language_code word =
    if bytes_eq word (codes "DW_LANG_C89") then Some DW_LANG_C89
    else (if bytes_eq word (codes "DW_LANG_C") then Some DW_LANG_C
    else (if bytes_eq word (codes "DW_LANG_C_plus_plus") then Some DW_LANG_C_plus_plus
    else (if bytes_eq word (codes "DW_LANG_C99") then Some DW_LANG_C99
    else (if bytes_eq word (codes "DW_LANG_C_plus_plus_11") then Some DW_LANG_C_plus_plus_11
    else (if bytes_eq word (codes "DW_LANG_Rust") then Some DW_LANG_Rust
    else (if bytes_eq word (codes "DW_LANG_C11") then Some DW_LANG_C11
    else (if bytes_eq word (codes "DW_LANG_C_plus_plus_14") then Some DW_LANG_C_plus_plus_14
    else (if bytes_eq word (codes "DW_LANG_C_plus_plus_20") then Some DW_LANG_C_plus_plus_20
    else (if bytes_eq word (codes "DW_LANG_C_plus_plus_17") then Some DW_LANG_C_plus_plus_17
    else (if bytes_eq word (codes "DW_LANG_C17") then Some DW_LANG_C17
    else None))))))))))

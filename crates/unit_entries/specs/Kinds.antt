-- The kinds of entries of a unit as abbreviations.
use Rattle.std.specs.Prelude.{Bool, true, false, List, map}
use Rattle.dwarf_info.specs.declared.kind.DieKind.{DieKind}
use Rattle.dwarf_info.specs.declared.kind.DieKind.TheVariants.{CompileUnit, Subprogram, TypedParameter, Parameter, TypedVariable, Variable, BaseType}
use Rattle.dwarf_info.specs.declared.kind.DieKind.TheVariants.{UnitWithRanges, AbstractSubprogram, InlinedSubroutine}
use Rattle.dwarf_info.specs.declared.kind.Attribute.{Attribute as KindAttribute}
use Rattle.dwarf_info.specs.Kinds.{tag, attributes, form_number, kinds, inlined_kinds}
use Rattle.dwarf_entry.specs.declared.abbreviation.Specification.{Specification}
use Rattle.dwarf_entry.specs.declared.abbreviation.Abbreviation.{Abbreviation}

-- whether entries of a kind have children: the unit, functions and inlined functions have
abbrev pub has_children : DieKind → Bool
has_children CompileUnit = true
has_children Subprogram = true
has_children TypedParameter = false
has_children Parameter = false
has_children TypedVariable = false
has_children Variable = false
has_children BaseType = false
has_children UnitWithRanges = true
has_children AbstractSubprogram = false
has_children InlinedSubroutine = true

abbrev pub specification_by : KindAttribute → Specification
specification_by a = record { name = a.name; form = form_number a.form }

-- the abbreviation of the entries of a kind
abbrev pub abbreviation_by : DieKind → Abbreviation
abbreviation_by kind = record { tag = tag kind; children = has_children kind; attributes = map specification_by (attributes kind) }

-- the abbreviations of a unit without inlined functions, in the order of their codes
abbrev pub plain_abbreviations : List Abbreviation
plain_abbreviations = map abbreviation_by kinds

-- the abbreviations of a unit with inlined functions
abbrev pub all_abbreviations : List Abbreviation
all_abbreviations = map abbreviation_by inlined_kinds

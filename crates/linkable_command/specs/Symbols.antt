-- The symbols of functions and of the names to which their code refers, and the relocations of the code.
use Rattle.std.specs.Prelude.{ℕ, ◌+◌, Bool, true, false, not, Option, Some, None, List, [], ◌∷◌, ◌++◌, map}
use Rattle.std.specs.List.{flat_map, position_or_len}
use Rattle.listing_text.specs.declared.output.ListedFunction.{ListedFunction}
use Rattle.dwarf_line_table.specs.Files.{first_uses}
use Rattle.elf_object.specs.declared.symbols.Symbol.{Symbol}
use Rattle.elf_object.specs.declared.symbols.Binding.{Binding}
use Rattle.elf_object.specs.declared.symbols.Binding.TheVariants.{Local, Global, Weak}
use Rattle.elf_object.specs.declared.symbols.SymbolType.TheVariants.{NoType}
use Rattle.elf_object.specs.declared.relocations.Relocation.{Relocation}
use Rattle.elf_object.specs.Standard.{SHN_UNDEF}
use Rattle.elf_object.specs.Symbols.{is_local}
use Rattle.elf_relocation.specs.Kinds.{number_of}
use Rattle.read_linkage.specs.declared.linkage.Linkage.{Linkage}
use Rattle.read_linkage.specs.declared.linkage.Linkage.TheVariants as linkage
use Rattle.read_linkage.specs.declared.linkage.LinkedName.{LinkedName}
use Rattle.read_linkage.specs.Lines.{linkage_named}
use Rattle.object_command.specs.Object.{defined_symbol, have_one_name}
use Rattle.linkable_command.specs.declared.reference.Reference.{Reference}
use Rattle.linkable_command.specs.References.{references}

-- ---- functions

-- the binding of a function's symbol by its linkage
abbrev pub binding_by : Option Linkage → Binding
binding_by None = Global
binding_by (Some linkage.Local) = Local
binding_by (Some linkage.Weak) = Weak

-- the binding of the symbol of a name
abbrev pub binding_named : List LinkedName → (name : List ℕ) → Binding
binding_named linkages name = binding_by (linkage_named linkages name)

-- a symbol with a binding
abbrev pub with_binding : Binding → Symbol → Symbol
with_binding binding s = record s { binding = binding }

-- whether a symbol is wanted, where local ones are, or all others
abbrev pub is_wanted : (local is : Bool) → Bool
is_wanted true is = is
is_wanted false is = not is

abbrev pub if_wanted : Bool → Symbol → List Symbol
if_wanted true s = s ∷ []
if_wanted false s = []

-- the symbol of a function, if it is wanted
abbrev pub bound_symbol : (local : Bool) → List LinkedName → ListedFunction → List Symbol
bound_symbol local linkages f =
    if_wanted (is_wanted local (is_local (binding_named linkages f.name))) (with_binding (binding_named linkages f.name) (defined_symbol f))

-- those of functions that are
abbrev pub bound_symbols : (local : Bool) → List LinkedName → List ListedFunction → List Symbol
bound_symbols local linkages functions = flat_map (bound_symbol local linkages) functions

-- the symbols of functions, the local ones first
abbrev pub function_symbols : List LinkedName → List ListedFunction → List Symbol
function_symbols linkages functions = bound_symbols true linkages functions ++ bound_symbols false linkages functions

-- ---- all names

-- the symbol of a name that the object doesn't define
abbrev pub undefined_symbol : Reference → Symbol
undefined_symbol r = record { name = r.name; binding = Global; symbol_type = NoType; section = SHN_UNDEF; value = 0; size = 0 }

-- The symbols, one of each name: of the functions, the local ones first, the first of its name; and then of the other names to which code refers, in the order
-- of their first references.
abbrev pub named_symbols : List LinkedName → List ListedFunction → List Symbol
named_symbols linkages functions =
    first_uses have_one_name [] (function_symbols linkages functions ++ map undefined_symbol (references functions))

-- the relocation of a reference, by these symbols, which stand behind so many others. Symbols count from 1
abbrev pub relocation_by : (before : ℕ) → List Symbol → Reference → Relocation
relocation_by before symbols r = record {
  offset = r.address;
  symbol = before + (1 + position_or_len (have_one_name (undefined_symbol r)) symbols);
  relocation_type = number_of r.kind;
  addend = r.addend;
}

-- a relocation for each reference
abbrev pub code_relocations : (before : ℕ) → List LinkedName → List ListedFunction → List Relocation
code_relocations before linkages functions = map (relocation_by before (named_symbols linkages functions)) (references functions)

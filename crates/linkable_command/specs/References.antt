-- The places in the machine code of functions at which a linker fills in addresses, each with the name whose address it is.
use Rattle.std.specs.Prelude.{ℕ, List, [], ◌∷◌, Option, Some, None}
use Rattle.std.specs.List.{flat_map}
use Rattle.rv64_instr.specs.declared.symbol.LinkedAddress.{LinkedAddress}
use Rattle.rv64_instr.specs.declared.symbol.Symbol.{Symbol}
use Rattle.rv64_instr.specs.declared.symbol.Symbol.TheVariants.{Global, Constant}
use Rattle.rv64_instr.specs.Arithmetic.{word}
use Rattle.rv64_instr.specs.LocationEffects.{address_named}
use Rattle.rv64_instr.specs.Row.{Row, row_of}
use Rattle.sem_machine.specs.Image.{CodeLine}
use Rattle.listing_text.specs.declared.output.Line.{Line}
use Rattle.listing_text.specs.declared.output.ListedFunction.{ListedFunction}
use Rattle.listing_meaning.specs.Program.{lines_of, code_lines}
use Rattle.elf_relocation.specs.declared.kind.RelocationKind.{RelocationKind}
use Rattle.elf_relocation.specs.declared.kind.RelocationKind.TheVariants.{Call}
use Rattle.rv64_relocation.specs.Code.{relocation_kind}
use Rattle.text_placement.specs.Placed.{site_name}
use Rattle.linkable_command.specs.declared.reference.Reference.{Reference}

-- the name of a symbol: a constant of a pool has none
abbrev pub symbol_name : Symbol → List ℕ
symbol_name (Global name) = name
symbol_name (Constant n) = []

-- the reference of code that has a half of an address
abbrev pub half_reference : (at : ℕ) → RelocationKind → LinkedAddress → Reference
half_reference a k y = record { address = a; kind = k; name = symbol_name y.symbol; addend = word y.addend }

-- the reference of the two words by which control goes to a function by its name
abbrev pub site_reference : (at : ℕ) → (name : List ℕ) → Reference
site_reference a name = record { address = a; kind = Call; name = name; addend = 0 }

abbrev pub reference_by : (at : ℕ) → Option RelocationKind → Option LinkedAddress → (site : Option (List ℕ)) → List Reference
reference_by a (Some k) (Some y) site = half_reference a k y ∷ []
reference_by a (Some k) None site = []
reference_by a None y (Some name) = site_reference a name ∷ []
reference_by a None y None = []

-- the reference of code at an address, if it has one
abbrev pub code_references : (at : ℕ) → Row → List Reference
code_references a row = reference_by a (relocation_kind row) (address_named row) (site_name row)

abbrev pub line_references : CodeLine → List Reference
line_references l = code_references l.address (row_of l.instruction)

-- those of a line of the listing
abbrev pub references_in : Line → List Reference
references_in l = flat_map line_references (code_lines l)

-- those of functions, in the order of their lines
abbrev pub references : List ListedFunction → List Reference
references functions = flat_map (λ f. flat_map references_in (lines_of f)) functions

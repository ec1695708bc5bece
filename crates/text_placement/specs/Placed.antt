-- Code that a linker places, line by line: its relocations, and what it is then (RISC-V ELF psABI, "Relocations").
use Rattle.std.specs.Prelude.{◌≡◌, ℕ, ◌+◌, ◌-◌, ◌%◌, ◌^◌, ◌<◌, ◌≤◌, List, [], ◌∷◌, length, slice_index, All, Option, Some, None, cond, is_some}
use Rattle.std.specs.List.{flat_map}
use Rattle.rv64_instr.specs.declared.symbol.Half.{Half}
use Rattle.rv64_instr.specs.declared.symbol.LinkedAddress.{LinkedAddress}
use Rattle.rv64_instr.specs.declared.symbol.Symbol.{Symbol}
use Rattle.rv64_instr.specs.declared.symbol.Symbol.TheVariants.{Global}
use Rattle.rv64_instr.specs.Arithmetic.{word}
use Rattle.rv64_instr.specs.LocationEffects.{part_named}
use Rattle.rv64_instr.specs.Row.{Row, Calls, Returns, row_of, Callee, Named, Held, Way, Back, Tail, Never}
use Rattle.rv64_instr.specs.View.{Class, class_of}
use Rattle.rv64_word.specs.Linked.{linked_word}
use Rattle.sem_machine.specs.Image.{CodeLine, word_at}
use Rattle.elf_object.specs.declared.relocations.Relocation.{Relocation}
use Rattle.elf_object.specs.Standard.{R_RISCV_CALL_PLT}
use Rattle.elf_relocation.specs.Kinds.{number_of}
use Rattle.elf_relocation.specs.Applied.{IsInRange}
use Rattle.rv64_relocation.specs.Code.{half_kind}
use Rattle.text_placement.specs.Goes.{Goes, CALL_JUMP, CALL_UPPER, TAIL_JUMP, TAIL_UPPER}

-- ---- where symbols are

-- the number in the symbol table of the symbol that names a symbol, and how many bytes behind it the symbol is: none, or for a constant of a pool its
-- place in the section of constants
pub record SymbolPlaces : Type 0 where
  pub number : Symbol → ℕ
  pub behind : Symbol → ℕ

-- the address of each symbol, where those of the symbol table have these
abbrev pub environment : SymbolPlaces → (addresses : List ℕ) → Symbol → ℕ
environment p addresses s = (slice_index addresses (p.number s - 1) + p.behind s) % 2 ^ 64

-- ---- relocations

-- a line of code, and where its symbols are
pub record PlacedLine : Type 0 where
  pub places : SymbolPlaces
  pub line : CodeLine

abbrev pub row_at : PlacedLine → Row
row_at x = row_of x.line.instruction

-- the name of the function to which control goes by its name
abbrev pub callee_name : Callee → Option (List ℕ)
callee_name (Named name) = Some name
callee_name (Held r) = None

abbrev pub way_name : Way Callee → Option (List ℕ)
way_name Back = None
way_name (Tail callee) = callee_name callee
way_name (Never callee) = callee_name callee

abbrev pub site_name : Row → Option (List ℕ)
site_name (Calls call) = callee_name call.callee
site_name (Returns ending) = way_name ending.way
site_name _ = None

-- the relocation of a word with a half of an address
abbrev pub half_relocation : SymbolPlaces → (at : ℕ) → Class → Half × LinkedAddress → Relocation
half_relocation p a c h = record {
  offset = a;
  symbol = p.number h.1.symbol;
  relocation_type = number_of (half_kind h.0 c);
  addend = (word h.1.addend + p.behind h.1.symbol) % 2 ^ 64;
}

-- the relocation of the two words by which control goes to a function
abbrev pub site_relocation : SymbolPlaces → (at : ℕ) → (name : List ℕ) → Relocation
site_relocation p a name = record { offset = a; symbol = p.number (Global name); relocation_type = R_RISCV_CALL_PLT; addend = 0 }

abbrev pub relocations_by : SymbolPlaces → (at : ℕ) → Class → Option (Half × LinkedAddress) → (site : Option (List ℕ)) → List Relocation
relocations_by p a c (Some h) site = half_relocation p a c h ∷ []
relocations_by p a c None (Some name) = site_relocation p a name ∷ []
relocations_by p a c None None = []

-- the relocations of a line
abbrev pub line_relocations : PlacedLine → List Relocation
line_relocations x = relocations_by x.places x.line.address (class_of (row_at x)) (part_named (row_at x)) (site_name (row_at x))

-- those of lines, in order
abbrev pub text_relocations : List PlacedLine → List Relocation
text_relocations lines = flat_map line_relocations lines

-- ---- lines that fill a text

-- the bytes of a line
abbrev pub line_size : (site : Option (List ℕ)) → ℕ
line_size site = cond (is_some site) 8 4

-- lines lie one after the other, from an address up to another
abbrev pub Lie : (from : ℕ) → List PlacedLine → (end : ℕ) → Type 0
Lie a [] b = a ≡ b
Lie a (x ∷ rest) b = (x.line.address ≡ a) × Lie (a + line_size (site_name (row_at x))) rest b

-- ---- what they are at their places

-- the words of a site as they are written, and the registers that they use
pub record Site : Type 0 where
  pub upper : ℕ
  pub jump : ℕ
  pub scratch : ℕ
  pub link : ℕ

abbrev pub CALL_SITE : Site
CALL_SITE = record { upper = CALL_UPPER; jump = CALL_JUMP; scratch = 1; link = 1 }

abbrev pub TAIL_SITE : Site
TAIL_SITE = record { upper = TAIL_UPPER; jump = TAIL_JUMP; scratch = 6; link = 0 }

abbrev pub way_site : Way Callee → Site
way_site Back = CALL_SITE
way_site (Tail callee) = TAIL_SITE
way_site (Never callee) = CALL_SITE

abbrev pub site_of : Row → Site
site_of (Returns ending) = way_site ending.way
site_of _ = CALL_SITE

-- The bytes that a line has at its place, which begins the text from `base` on: a word is the one that a machine runs in the environment of the placement,
-- and the two words for a function by its name go there, if it is in range.
pub record IsPlacedLine (base : ℕ) (addresses : List ℕ) (text bytes : List ℕ) (x : PlacedLine) : Type 0 where
  pub words : site_name (row_at x) ≡ None → (w : ℕ) → word_at text x.line.address ≡ Some w
      → word_at bytes x.line.address ≡ Some (linked_word (environment x.places addresses) (row_at x) w)
  pub sites : (name : List ℕ) → site_name (row_at x) ≡ Some name
      → IsInRange base addresses (site_relocation x.places x.line.address name)
      → word_at text x.line.address ≡ Some (site_of (row_at x)).upper → word_at text (x.line.address + 4) ≡ Some (site_of (row_at x)).jump
      → Goes bytes base (base + x.line.address) (environment x.places addresses (Global name)) (site_of (row_at x)).scratch (site_of (row_at x)).link

-- a relocation's symbol is in the symbol table
abbrev pub HasNumber : (symbols : ℕ) → Relocation → Type 0
HasNumber symbols r = (0 < r.symbol) × (r.symbol ≤ symbols)

-- functions are named by symbols of their own
abbrev pub NamesFunctions : PlacedLine → Type 0
NamesFunctions x = (name : List ℕ) → x.places.behind (Global name) ≡ 0

-- The lines fill the text, and it and the symbols lie below 2^64.
pub record AreLines (base : ℕ) (addresses : List ℕ) (text : List ℕ) (lines : List PlacedLine) : Type 0 where
  pub lie : Lie 0 lines (length text)
  pub numbers : All (HasNumber (length addresses)) (text_relocations lines)
  pub names : All NamesFunctions lines
  pub addresses_fit : (k : ℕ) → slice_index addresses k < 2 ^ 64
  pub fits : base + length text < 2 ^ 64

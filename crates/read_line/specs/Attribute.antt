-- The attributes at the end of an item's line, each at most once and in any order: `debug-instr-number K` and `debug-location !N`. A location may be
-- written out, as `!DILocation(line: L, column: C, scope: !S, inlinedAt: !I)`.
use Rattle.std.specs.Prelude.{ℕ, zero, suc, Bool, true, false, unwrap_or, if◌then◌else◌, List, [], ◌∷◌, Option, Some, None}
use Rattle.mir_func.specs.declared.location.Loc.{Loc}
use Rattle.mir_func.specs.declared.location.Loc.TheVariants as locs
use Rattle.read_token.specs.declared.lexeme.Word.TheVariants as words
use Rattle.read_token.specs.declared.lexeme.Lexeme.{Lexeme}
use Rattle.read_token.specs.declared.lexeme.Lexeme.TheVariants as lexemes
use Rattle.read_line.specs.declared.attribute.Fields.{Fields}
use Rattle.read_line.specs.declared.attribute.Attributes.{Attributes}
use Rattle.read_token.specs.Word.{case_of}
use Rattle.read_line.specs.Read.{◌>>=◌, behind_comma, behind_close}
use Rattle.read_line.specs.Operand.{counted}

-- the fields of a location before any is read
abbrev pub no_fields : Fields
no_fields = record { line = None; column = None; scope = None; inlined_at = None }

-- the fields and the rest of the lexemes, if this field wasn't read before
abbrev pub once : Option ℕ → Fields → List Lexeme → Option (Fields × List Lexeme)
once None fields ts = Some (fields, ts)
once (Some n) fields ts = None

-- One more field, `key: value`, and the rest. A field may occur once.
unfoldable pub field_at : Fields → List Lexeme → Option (Fields × List Lexeme)
field_at f (lexemes.Word words.Line t ∷ lexemes.Colon ∷ lexemes.Integer n ∷ ts) = once f.line (record f { line = Some (counted n) }) ts
field_at f (lexemes.Word words.Column t ∷ lexemes.Colon ∷ lexemes.Integer n ∷ ts) = once f.column (record f { column = Some (counted n) }) ts
field_at f (lexemes.Word words.Scope t ∷ lexemes.Colon ∷ lexemes.Node n ∷ ts) = once f.scope (record f { scope = Some n }) ts
field_at f (lexemes.Word words.InlinedAt t ∷ lexemes.Colon ∷ lexemes.Node n ∷ ts) = once f.inlined_at (record f { inlined_at = Some n }) ts
field_at f ts = None

-- the debug location with these fields: the line and the scope are required
abbrev pub location_of : Fields → Option Loc
location_of f = do
  line ← f.line
  scope ← f.scope
  Some (locs.Inline (record { line = line; column = unwrap_or f.column 0; scope = scope; inlined_at = f.inlined_at }))

-- the fields, and the rest after the closing bracket
abbrev pub closed : Fields → List Lexeme → Option (Fields × List Lexeme)
closed f ts = behind_close ts >>= λ rest. Some (f, rest)

-- Fields separated by commas up to the closing bracket, at most `n`, and the rest. There are four different ones.
unfoldable pub fields_at : ℕ → Fields → List Lexeme → Option (Fields × List Lexeme)
fields_at zero f ts = None
fields_at (suc n) f ts = do
  g ← field_at f ts
  case_of (behind_comma g.1) (fields_at n g.0) (closed g.0 g.1)

-- a debug location, and the rest
unfoldable pub location_at : List Lexeme → Option (Loc × List Lexeme)
location_at (lexemes.Node n ∷ ts) = Some (locs.Node n, ts)
location_at (lexemes.InlineLocation ∷ lexemes.Open ∷ ts) = do
  f ← fields_at 4 no_fields ts
  loc ← location_of f.0
  Some (loc, f.1)
location_at ts = None

-- an integer that is a number, and the rest
abbrev pub number_at : List Lexeme → Option (ℕ × List Lexeme)
number_at (lexemes.Integer n ∷ ts) = Some (counted n, ts)
number_at ts = None

-- no attributes
abbrev pub no_attributes : Attributes
no_attributes = record { number = None; loc = locs.Absent }

-- the attributes, if nothing follows them
abbrev pub ended : Attributes → List Lexeme → Option Attributes
ended a [] = Some a
ended a ts = None

-- the attributes of a line with this number, from the lexemes after it: nothing, or a location
unfoldable pub behind_number : ℕ → List Lexeme → Option Attributes
behind_number k (lexemes.Comma ∷ lexemes.Word words.Location t ∷ ts) = location_at ts >>= λ l. ended (record { number = Some k; loc = l.0 }) l.1
behind_number k ts = ended (record { number = Some k; loc = locs.Absent }) ts

-- the attributes of a line with this location, from the lexemes after it: nothing, or a number
unfoldable pub behind_location : Loc → List Lexeme → Option Attributes
behind_location loc (lexemes.Comma ∷ lexemes.Word words.InstrNumber t ∷ ts) = number_at ts >>= λ k. ended (record { number = Some k.0; loc = loc }) k.1
behind_location loc ts = ended (record { number = None; loc = loc }) ts

-- one or more attributes, up to the end of the line
unfoldable pub attributes_of : List Lexeme → Option Attributes
attributes_of (lexemes.Word words.InstrNumber t ∷ ts) = number_at ts >>= λ k. behind_number k.0 k.1
attributes_of (lexemes.Word words.Location t ∷ ts) = location_at ts >>= λ l. behind_location l.0 l.1
attributes_of ts = None

-- whether the lexemes begin with an attribute
abbrev pub begins_attribute : List Lexeme → Bool
begins_attribute (lexemes.Word words.InstrNumber t ∷ ts) = true
begins_attribute (lexemes.Word words.Location t ∷ ts) = true
begins_attribute ts = false

-- the attributes after operands: none, or a comma and attributes
abbrev pub attributes_behind : List Lexeme → Option Attributes
attributes_behind [] = Some no_attributes
attributes_behind (lexemes.Comma ∷ ts) = attributes_of ts
attributes_behind ts = None

-- the attributes after an opcode without operands: there the comma is optional
abbrev pub attributes_alone : List Lexeme → Option Attributes
attributes_alone ts = if begins_attribute ts then attributes_of ts else attributes_behind ts

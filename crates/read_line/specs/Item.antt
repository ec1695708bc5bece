-- The line of an item: definitions and `=`, words in lower case that are skipped, an opcode, operands separated by commas, and attributes. (LLVM, Machine
-- IR (MIR) Format Reference Manual, "Machine Instructions".)
use Rattle.std.specs.Prelude.{ℕ, zero, suc, Bool, true, false, length, if◌then◌else◌, List, [], ◌∷◌, Option, Some, None}
use Rattle.read_lexer.specs.declared.parts.Token.{Token}
use Rattle.read_metadata.specs.Token.{text_of}
use Rattle.read_token.specs.declared.lexeme.Flag.TheVariants.{Plain}
use Rattle.read_token.specs.declared.lexeme.Word.{Word}
use Rattle.read_token.specs.declared.lexeme.Word.TheVariants as words
use Rattle.read_token.specs.declared.lexeme.Lexeme.{Lexeme}
use Rattle.read_token.specs.declared.lexeme.Lexeme.TheVariants as lexemes
use Rattle.read_token.specs.Word.{case_of}
use Rattle.read_line.specs.declared.form.RegisterForm.{RegisterForm}
use Rattle.read_line.specs.declared.form.OperandForm.{OperandForm}
use Rattle.read_line.specs.declared.form.ItemForm.{ItemForm}
use Rattle.read_line.specs.declared.attribute.Attributes.{Attributes}
use Rattle.read_line.specs.Read.{◌>>=◌, behind_comma, behind_equals}
use Rattle.read_line.specs.Register.{register_at, begins_register}
use Rattle.read_line.specs.Operand.{operand_at}
use Rattle.read_line.specs.Attribute.{attributes_behind, attributes_alone, begins_attribute}
use Rattle.read_line.specs.Exceeds.{item_exceeds}

-- an element before those that were read, with the rest
abbrev pub before : {A : Type 0} → A → Option (List A × List Lexeme) → Option (List A × List Lexeme)
before x None = None
before x (Some xs) = Some (x ∷ xs.0, xs.1)

-- the definitions, and the rest after the equals sign
abbrev pub with_equals : List RegisterForm → List Lexeme → Option (List RegisterForm × List Lexeme)
with_equals ds ts = behind_equals ts >>= λ rest. Some (ds, rest)

-- Registers separated by commas up to an equals sign, at most `n`, and the rest.
unfoldable pub definitions_at : ℕ → List Lexeme → Option (List RegisterForm × List Lexeme)
definitions_at zero ts = None
definitions_at (suc n) ts = do
  d ← register_at Plain ts
  case_of (behind_comma d.1) (λ rest. before d.0 (definitions_at n rest)) (with_equals (d.0 ∷ []) d.1)

-- definitions and an equals sign, or neither, and the rest
abbrev pub definitions_of : List Lexeme → Option (List RegisterForm × List Lexeme)
definitions_of ts = if begins_register ts then definitions_at (length ts) ts else Some ([], ts)

-- a word that begins with an upper-case letter
abbrev pub is_upper : Word → Bool
is_upper words.Argument = true
is_upper words.Fragment = true
is_upper words.Upper = true
is_upper word = false

-- a word that begins with a lower-case letter
abbrev pub is_lower : Word → Bool
is_lower words.Argument = false
is_lower words.Fragment = false
is_lower words.Upper = false
is_lower words.Underscore = false
is_lower word = true

-- the lexemes after words that begin with a lower-case letter, which are skipped
unfoldable pub behind_words : List Lexeme → List Lexeme
behind_words (lexemes.Word w t ∷ ts) = if is_lower w then behind_words ts else lexemes.Word w t ∷ ts
behind_words ts = ts

-- the word `noreturn`
abbrev pub is_no_return : Word → Bool
is_no_return words.NoReturn = true
is_no_return word = false

-- whether `noreturn` is one of the words that are skipped
unfoldable pub says_no_return : List Lexeme → Bool
says_no_return (lexemes.Word w t ∷ ts) = if is_lower w then (if is_no_return w then true else says_no_return ts) else false
says_no_return ts = false

-- an opcode, a word that begins with an upper-case letter, and the rest
abbrev pub opcode_at : List Lexeme → Option (Token × List Lexeme)
opcode_at (lexemes.Word w t ∷ ts) = if is_upper w then Some (t, ts) else None
opcode_at ts = None

-- the lexemes after a comma, unless an attribute follows it
abbrev pub behind_operand : List Lexeme → Option (List Lexeme)
behind_operand (lexemes.Comma ∷ ts) = if begins_attribute ts then None else Some ts
behind_operand ts = None

-- Operands separated by commas, at most `n`, and the rest.
unfoldable pub operands_at : (linked : Bool) → List ℕ → ℕ → List Lexeme → Option (List OperandForm × List Lexeme)
operands_at linked line zero ts = None
operands_at linked line (suc n) ts = do
  o ← operand_at linked line ts
  case_of (behind_operand o.1) (λ rest. before o.0 (operands_at linked line n rest)) (Some (o.0 ∷ [], o.1))

-- whether an operand has to follow the opcode
abbrev pub begins_operand : List Lexeme → Bool
begins_operand [] = false
begins_operand (lexemes.Comma ∷ ts) = false
begins_operand (lexemes.Word words.InstrNumber t ∷ ts) = false
begins_operand (lexemes.Word words.Location t ∷ ts) = false
begins_operand ts = true

-- operands, or none, and the rest
abbrev pub operands_of : (linked : Bool) → List ℕ → List Lexeme → Option (List OperandForm × List Lexeme)
operands_of linked line ts = if begins_operand ts then operands_at linked line (length ts) ts else Some ([], ts)

-- the attributes, or none, where `tail` are the lexemes after the opcode and `rest` those after the operands
abbrev pub attributes_of_item : List Lexeme → List Lexeme → Option Attributes
attributes_of_item tail rest = if begins_operand tail then attributes_behind rest else attributes_alone tail

-- the form of an item with these parts, without memory operands
abbrev pub item_with : List Lexeme → List RegisterForm → List ℕ → List OperandForm → (no_return : Bool) → Attributes → ItemForm
item_with ts definitions opcode operands no_return attributes = record {
  definitions = definitions;
  opcode = opcode;
  operands = operands;
  no_return = no_return;
  volatile = false;
  number = attributes.number;
  loc = attributes.loc;
  exceeds = item_exceeds ts definitions operands attributes;
}

-- the item of a line with these definitions, where `rest` are the lexemes after them
unfoldable pub defined_item : (linked : Bool) → List ℕ → List Lexeme → List RegisterForm → List Lexeme → Option ItemForm
defined_item linked line ts definitions rest = do
  opcode ← opcode_at (behind_words rest)
  operands ← operands_of linked line opcode.1
  attributes ← attributes_of_item opcode.1 operands.1
  Some (item_with ts definitions (text_of line opcode.0) operands.0 (says_no_return rest) attributes)

-- the item in the lexemes of a line
unfoldable pub item_of : (linked : Bool) → List ℕ → List Lexeme → Option ItemForm
item_of linked line ts = definitions_of ts >>= λ definitions. defined_item linked line ts definitions.0 definitions.1

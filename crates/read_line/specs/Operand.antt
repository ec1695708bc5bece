-- One operand, parsed. (LLVM, Machine IR (MIR) Format Reference Manual, "Machine Operands"; LLVM Language Reference, "DIExpression".)
use Rattle.std.specs.Prelude.{ℕ, ℤ, pos, ◌+◌, ◌/◌, ◌%◌, Bool, false, ◌&&◌, ◌==◌, nat_le, if◌then◌else◌, List, ◌∷◌, Option, Some, None}
use Rattle.mir_func.specs.rv64_instr.declared.symbol.Half.{Half}
use Rattle.mir_func.specs.Limits.{MAX_PART, MAX_PART_END}
use Rattle.mir_func.specs.Parts.{Bytes}
use Rattle.read_token.specs.declared.lexeme.Flag.TheVariants.{Plain}
use Rattle.read_token.specs.declared.lexeme.Number.{Number}
use Rattle.read_token.specs.declared.lexeme.Number.TheVariants.{Fits}
use Rattle.read_token.specs.declared.lexeme.Word.{Word}
use Rattle.read_token.specs.declared.lexeme.Word.TheVariants as words
use Rattle.read_token.specs.declared.lexeme.Lexeme.{Lexeme}
use Rattle.read_token.specs.declared.lexeme.Lexeme.TheVariants as lexemes
use Rattle.read_token.specs.Number.{BEYOND}
use Rattle.read_token.specs.Sentence.{symbol_name}
use Rattle.read_line.specs.declared.form.Expression.{Expression}
use Rattle.read_line.specs.declared.form.Expression.TheVariants as expressions
use Rattle.read_line.specs.declared.form.OperandForm.{OperandForm}
use Rattle.read_line.specs.declared.form.OperandForm.TheVariants as operands
use Rattle.read_line.specs.Read.{◌>>=◌}
use Rattle.read_line.specs.Address.{address_at, half_of}
use Rattle.read_line.specs.Bracket.{behind_bracket}
use Rattle.read_line.specs.Register.{register_at}

-- a natural number, or `BEYOND` for any number above the limit
abbrev pub capped : ℕ → ℕ
capped n = if nat_le n BEYOND then n else BEYOND

-- an integer that is a number or count; `BEYOND` if it is negative or above the limit
abbrev pub counted : Number → ℕ
counted (Fits (pos n)) = capped n
counted number = BEYOND

-- an integer, if it fits 64 bits signed
abbrev pub fitting : Number → Option ℤ
fitting (Fits i) = Some i
fitting number = None

-- whether an integer is 0, the only argument of `DW_OP_LLVM_arg` that is supported
abbrev pub is_zero : Number → Bool
is_zero (Fits (pos n)) = n == 0
is_zero number = false

-- this many bits in bytes, if they are whole bytes
abbrev pub whole : ℕ → Option ℕ
whole bits = if bits % 8 == 0 then Some (bits / 8) else None

-- this many bits in bytes, if they are whole bytes and at most 65,536 bits
abbrev pub whole_bytes : Number → Option ℕ
whole_bytes (Fits (pos n)) = if nat_le n 65536 then whole n else None
whole_bytes number = None

-- whether a fragment may have these bytes: 1 to 8 of them, all before byte 8,192
abbrev pub are_part : ℕ → ℕ → Bool
are_part offset len = (nat_le 1 len && nat_le len MAX_PART) && nat_le (offset + len) MAX_PART_END

-- the bytes of a fragment of `size` bits from bit `offset`, if they are whole bytes that a fragment may have
abbrev pub part_of : Number → Number → Option Bytes
part_of offset size = do
  first ← whole_bytes offset
  len ← whole_bytes size
  if are_part first len then Some (record { offset = first; length = len }) else None

-- an expression that is a fragment alone
abbrev pub plain_part : Option Bytes → Expression
plain_part None = expressions.Other
plain_part (Some part) = expressions.Part part

-- an expression that is a fragment after `DW_OP_LLVM_arg, 0`
abbrev pub argument_part : Option Bytes → Expression
argument_part None = expressions.Other
argument_part (Some part) = expressions.PartOfArgument part

-- an expression, from the lexemes after `DW_OP_LLVM_arg, 0`
abbrev pub argument_expression : List Lexeme → Expression
argument_expression (lexemes.Close ∷ ts) = expressions.Argument
argument_expression (lexemes.Comma ∷ lexemes.Word words.Fragment t ∷ lexemes.Comma ∷ lexemes.Integer o ∷ lexemes.Comma ∷ lexemes.Integer s
    ∷ lexemes.Close ∷ ts) = argument_part (part_of o s)
argument_expression ts = expressions.Other

-- an expression, from the lexemes after its opening bracket
unfoldable pub expression_of : List Lexeme → Expression
expression_of (lexemes.Close ∷ ts) = expressions.Empty
expression_of (lexemes.Word words.Argument t ∷ lexemes.Comma ∷ lexemes.Integer n ∷ ts) = if is_zero n then argument_expression ts else expressions.Other
expression_of (lexemes.Word words.Fragment t ∷ lexemes.Comma ∷ lexemes.Integer o ∷ lexemes.Comma ∷ lexemes.Integer s ∷ lexemes.Close ∷ ts) =
    plain_part (part_of o s)
expression_of ts = expressions.Other

-- an expression operand, from the lexemes after its opening bracket, and the rest
abbrev pub expression_at : List Lexeme → Option (OperandForm × List Lexeme)
expression_at ts = behind_bracket 0 ts >>= λ rest. Some (operands.Expression (expression_of ts), rest)

-- a symbol operand, and the rest
abbrev pub symbol_at : List ℕ → List Lexeme → Option (OperandForm × List Lexeme)
symbol_at line (lexemes.Symbol t ∷ ts) = Some (operands.Symbol (symbol_name line t), ts)
symbol_at line ts = None

-- an operand of a symbol, and the rest. The linked language alone has numbers behind symbols, constants of the pool and halves
abbrev pub symbol_by : (linked : Bool) → List ℕ → Option Half → List Lexeme → Option (OperandForm × List Lexeme)
symbol_by linked line half ts = if linked then address_at line half ts else symbol_at line ts

-- a symbol operand after `target-flags(..)`, whose other flags are skipped, and the rest
abbrev pub flagged_symbol_at : (linked : Bool) → List ℕ → List Lexeme → Option (OperandForm × List Lexeme)
flagged_symbol_at linked line (lexemes.Open ∷ ts) = behind_bracket 0 ts >>= symbol_by linked line (half_of ts)
flagged_symbol_at linked line ts = None

-- the operand `dbg-instr-ref(K, O)`, from the lexemes after its word, and the rest
abbrev pub reference_at : List Lexeme → Option (OperandForm × List Lexeme)
reference_at (lexemes.Open ∷ lexemes.Integer k ∷ lexemes.Comma ∷ lexemes.Integer o ∷ lexemes.Close ∷ ts) =
    Some (operands.Reference (record { number = counted k; operand = counted o }), ts)
reference_at ts = None

-- a register mask, from the lexemes after its word, and the rest: a bracket is skipped
abbrev pub mask_at : List Lexeme → Option (OperandForm × List Lexeme)
mask_at (lexemes.Open ∷ ts) = behind_bracket 0 ts >>= λ rest. Some (operands.Mask, rest)
mask_at ts = Some (operands.Mask, ts)

-- a literal behind its type's name, which code doesn't have, or a register mask, from the lexemes after that name, and the rest
abbrev pub literal_at : List Lexeme → Option (OperandForm × List Lexeme)
literal_at (lexemes.Integer n ∷ ts) = Some (operands.Literal, ts)
literal_at (lexemes.Float ∷ ts) = Some (operands.Literal, ts)
literal_at (lexemes.Word w t ∷ ts) = Some (operands.Literal, ts)
literal_at ts = mask_at ts

-- an operand that begins with a type's name, from the lexemes after it, and the rest. The linked language alone has literals
abbrev pub typed_at : (linked : Bool) → List Lexeme → Option (OperandForm × List Lexeme)
typed_at linked ts = if linked then literal_at ts else mask_at ts

-- a fixed stack object, and the rest. The linked language alone has them
abbrev pub fixed_at : (linked : Bool) → ℕ → List Lexeme → Option (OperandForm × List Lexeme)
fixed_at linked n ts = if linked then Some (operands.Fixed n, ts) else None

-- a register operand, and the rest
abbrev pub register_operand_at : List Lexeme → Option (OperandForm × List Lexeme)
register_operand_at ts = register_at Plain ts >>= λ r. Some (operands.Register r.0, r.1)

-- An operand that begins with a word, from the lexemes after it, and the rest. Attributes and register flags begin none here.
unfoldable pub word_operand_at : (linked : Bool) → List ℕ → Word → List Lexeme → Option (OperandForm × List Lexeme)
word_operand_at linked line (words.Flag f) ts = None
word_operand_at linked line words.InstrNumber ts = None
word_operand_at linked line words.Location ts = None
word_operand_at linked line words.TargetFlags ts = flagged_symbol_at linked line ts
word_operand_at linked line words.InstrRef ts = reference_at ts
word_operand_at linked line words.TypeName ts = typed_at linked ts
word_operand_at linked line word ts = mask_at ts

-- an operand, and the rest; `linked` is whether those of the linked language are read
unfoldable pub operand_at : (linked : Bool) → List ℕ → List Lexeme → Option (OperandForm × List Lexeme)
operand_at linked line (lexemes.Word (words.Flag f) t ∷ ts) = register_operand_at (lexemes.Word (words.Flag f) t ∷ ts)
operand_at linked line (lexemes.Word w t ∷ ts) = word_operand_at linked line w ts
operand_at linked line (lexemes.Register name ∷ ts) = register_operand_at (lexemes.Register name ∷ ts)
operand_at linked line (lexemes.Slot n ∷ ts) = Some (operands.Slot n, ts)
operand_at linked line (lexemes.Block n ∷ ts) = Some (operands.Block n, ts)
operand_at linked line (lexemes.Fixed n ∷ ts) = fixed_at linked n ts
operand_at linked line (lexemes.Constant n ∷ ts) = symbol_by linked line None (lexemes.Constant n ∷ ts)
operand_at linked line (lexemes.Node n ∷ ts) = Some (operands.Node n, ts)
operand_at linked line (lexemes.Expression ∷ lexemes.Open ∷ ts) = expression_at ts
operand_at linked line (lexemes.Integer n ∷ ts) = Some (operands.Integer (fitting n), ts)
operand_at linked line (lexemes.Symbol t ∷ ts) = symbol_by linked line None (lexemes.Symbol t ∷ ts)
operand_at linked line ts = None

-- One line of a function's body, parsed.
use Rattle.std.specs.Prelude.{◌≡◌, ℕ, Bool, true, false, ◌&&◌, ◌||◌, ◌==◌, min, nat_eq, nat_lt, if◌then◌else◌, codes, drop, length, List, [], ◌∷◌, Option}
use Rattle.std.specs.Prelude.{Some, None, Result, Ok, Err}
use Rattle.std.specs.List.{prefix_len, starts_with}
use Rattle.read_lexer.specs.declared.fault.LexError.{LexError}
use Rattle.read_lexer.specs.declared.fault.LexError.TheVariants as lex
use Rattle.read_lexer.specs.declared.parts.Token.{Token}
use Rattle.read_lexer.specs.Bytes.{is_blank}
use Rattle.read_lexer.specs.Comment.{before_comment, before_memory_operands}
use Rattle.read_lexer.specs.Line.{tokens_of}
use Rattle.read_token.specs.declared.lexeme.Word.TheVariants as words
use Rattle.read_token.specs.declared.lexeme.Lexeme.{Lexeme}
use Rattle.read_token.specs.declared.lexeme.Lexeme.TheVariants as lexemes
use Rattle.read_token.specs.Number.{BEYOND}
use Rattle.read_token.specs.Sentence.{lexemes_of}
use Rattle.read_line.specs.declared.form.BodyLine.{BodyLine}
use Rattle.read_line.specs.declared.form.BodyLine.TheVariants.{Passed, Closed, Label, Item}
use Rattle.read_line.specs.declared.form.ItemForm.{ItemForm}
use Rattle.read_line.specs.declared.form.FormError.{FormError}
use Rattle.read_line.specs.declared.form.FormError.TheVariants.{BadByte, UnclosedString, BadLine, Memory}
use Rattle.read_line.specs.Bracket.{behind_bracket}
use Rattle.read_line.specs.Item.{item_of}

-- a line without the spaces and tabs at its front
abbrev pub behind_blanks : List ℕ → List ℕ
behind_blanks text = drop (prefix_len is_blank text) text

-- whether nothing stands on a line, or a comment
abbrev pub is_nothing : List ℕ → Bool
is_nothing [] = true
is_nothing (b ∷ bs) = b == 59

-- a line that lists successors, from the text behind the blanks at its front: what stands behind the colon
abbrev pub behind_successors : List ℕ → List ℕ
behind_successors text = behind_blanks (drop (min 11 (length text)) text)

-- whether a line lists successors, but none (LLVM, Machine IR (MIR) Format Reference Manual, "Block References": a block that control doesn't leave)
unfoldable pub closes_block : List ℕ → Bool
closes_block text = starts_with nat_eq (behind_blanks text) (codes "successors:") && is_nothing (behind_successors (behind_blanks text))

-- a line that lists something; that a block has no successors is said in the linked language alone
abbrev pub listing_of : (linked : Bool) → List ℕ → BodyLine
listing_of linked text = if linked && closes_block text then Closed else Passed

-- whether a line lists successors or live-in registers, whatever follows
unfoldable pub is_listing : List ℕ → Bool
is_listing text = starts_with nat_eq (behind_blanks text) (codes "successors:") || starts_with nat_eq (behind_blanks text) (codes "liveins:")

-- the part of a line that is lexed: without its comment and its memory operands
abbrev pub code_of : List ℕ → List ℕ
code_of text = before_memory_operands (before_comment text)

-- the memory operands of a line, with the `::` before them
abbrev pub memory_operands_of : List ℕ → List ℕ
memory_operands_of text = drop (min (length (code_of text)) (length (before_comment text))) (before_comment text)

-- whether the bytes stand anywhere in a text
unfoldable pub stands_in : List ℕ → List ℕ → Bool
stands_in word [] = false
stands_in word (b ∷ bs) = if starts_with nat_eq (b ∷ bs) word then true else stands_in word bs

-- whether a memory operand of a line is volatile (LLVM, Machine IR (MIR) Format Reference Manual, "Memory Operands"). Several may stand on one line
unfoldable pub is_volatile : List ℕ → Bool
is_volatile text = stands_in (codes "(volatile ") (memory_operands_of text)

-- the parsed line of a volatile access
abbrev pub volatile_line : BodyLine → BodyLine
volatile_line (Item form) = Item (record form { volatile = true })
volatile_line line = line

-- the same, if it has a form
abbrev pub volatile_read : Result BodyLine FormError → Result BodyLine FormError
volatile_read (Ok line) = Ok (volatile_line line)
volatile_read (Err e) = Err e

-- a label of a block, if its number is within the limit; else a label without a number
abbrev pub label_of : ℕ → BodyLine
label_of n = if nat_lt n BEYOND then Label (Some n) else Label None

-- whether the lexemes are a colon alone
abbrev pub is_colon : List Lexeme → Bool
is_colon (lexemes.Colon ∷ []) = true
is_colon ts = false

-- a label with this number, if the rest of the line is a colon
abbrev pub labelled : ℕ → Option (List Lexeme) → Result BodyLine FormError
labelled n None = Err BadLine
labelled n (Some rest) = if is_colon rest then Ok (label_of n) else Err BadLine

-- an item, if there is one
abbrev pub as_item : Option ItemForm → Result BodyLine FormError
as_item None = Err BadLine
as_item (Some item) = Ok (Item item)

-- The parsed line of these lexemes. `bb.N` and a bracket or a colon begin a label.
unfoldable pub sentence_of : (linked : Bool) → List ℕ → List Lexeme → Result BodyLine FormError
sentence_of linked line [] = Ok Passed
sentence_of linked line (lexemes.Word (words.Block n) t ∷ lexemes.Colon ∷ ts) = labelled n (Some (lexemes.Colon ∷ ts))
sentence_of linked line (lexemes.Word (words.Block n) t ∷ lexemes.Open ∷ ts) = labelled n (behind_bracket 0 ts)
sentence_of linked line ts = as_item (item_of linked line ts)

-- the parsed line of these tokens, or the lexical fault
abbrev pub line_of_tokens : (linked : Bool) → List ℕ → Result (List Token) LexError → Result BodyLine FormError
line_of_tokens linked line (Ok ts) = sentence_of linked line (lexemes_of line ts)
line_of_tokens linked line (Err (lex.BadByte at)) = Err BadByte
line_of_tokens linked line (Err (lex.UnclosedString at)) = Err UnclosedString
line_of_tokens linked line (Err lex.Memory) = Err Memory

-- A line of a function's body, parsed, or why it has no form; `linked` is whether the forms of the linked language are read, to which volatile accesses
-- belong.
unfoldable pub body_line_of : (linked : Bool) → List ℕ → Result BodyLine FormError
body_line_of linked text =
    if is_listing text
    then Ok (listing_of linked text)
    else (
    if linked && is_volatile text
    then volatile_read (line_of_tokens linked (code_of text) (tokens_of linked (code_of text)))
    else line_of_tokens linked (code_of text) (tokens_of linked (code_of text))
    )

-- What a call returns is this result, unless memory ran out.
abbrev pub Says : Result BodyLine FormError → Result BodyLine FormError → Type 0
Says (Ok x) read = read ≡ Ok x
Says (Err Memory) read = Unit {0}
Says (Err BadByte) read = read ≡ Err BadByte
Says (Err UnclosedString) read = read ≡ Err UnclosedString
Says (Err BadLine) read = read ≡ Err BadLine

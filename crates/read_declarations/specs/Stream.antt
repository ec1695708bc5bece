-- The tokens of a key's lines, as one stream.
use Rattle.std.specs.Prelude.{false, ℕ, ◌+◌, List, [], ◌∷◌, ◌++◌, map, take, slice_get, Option, Some, None, Result, Ok, Err}
use Rattle.read_lexer.specs.declared.fault.LexError.{LexError}
use Rattle.read_lexer.specs.declared.fault.LexError.TheVariants as errors
use Rattle.read_lexer.specs.declared.line.Line.{Line}
use Rattle.read_lexer.specs.declared.parts.Token.{Token}
use Rattle.read_lexer.specs.Line.{tokens_of}
use Rattle.read_lexer.specs.Comment.{before_comment}
use Rattle.read_metadata.specs.Token.{text_of}
use Rattle.read_refusal.specs.declared.kind.RefusalKind.{RefusalKind}
use Rattle.read_refusal.specs.declared.kind.RefusalKind.TheVariants.{BadByte, UnclosedString}
use Rattle.read_declarations.specs.declared.stream.YamlToken.{YamlToken}
use Rattle.read_declarations.specs.declared.stream.LineTokens.{LineTokens}
use Rattle.read_declarations.specs.declared.stream.TokenStream.{TokenStream}

-- the tokens of bytes, or none if the bytes have a fault
abbrev pub tokens_or_none : Result (List Token) LexError → List Token
tokens_or_none (Ok ts) = ts
tokens_or_none (Err e) = []

-- the bytes before a fault
abbrev pub before_fault : List ℕ → LexError → List ℕ
before_fault text (errors.BadByte at) = take at text
before_fault text (errors.UnclosedString at) = take at text
before_fault text errors.Memory = []

-- The tokens of bytes up to a fault. If the bytes were cut at an unclosed quote, they may end with the `@` or `&` of a quoted symbol, which is no token by
-- itself: then that byte is left out too.
abbrev pub tokens_up_to : List ℕ → Result (List Token) LexError → List Token
tokens_up_to text (Ok ts) = ts
tokens_up_to text (Err e) = tokens_or_none (tokens_of false (before_fault text e))

-- the refusal of a lexical fault; want of memory, which is no fault of the text, is mapped to BadByte
abbrev pub kind_of : LexError → RefusalKind
kind_of (errors.BadByte at) = BadByte
kind_of (errors.UnclosedString at) = UnclosedString
kind_of errors.Memory = BadByte

-- the tokens of a line's bytes up to the first fault, and that fault
abbrev pub line_tokens_of : List ℕ → Result (List Token) LexError → LineTokens
line_tokens_of text (Ok ts) = record { tokens = ts; fault = None }
line_tokens_of text (Err e) = record { tokens = tokens_up_to (before_fault text e) (tokens_of false (before_fault text e)); fault = Some (kind_of e) }

-- a token of the line with index `at` and number `line`
abbrev pub piece_of : ℕ → ℕ → Token → YamlToken
piece_of at line token = record { at = at; line = line; token = token }

-- the tokens of a line before those of the lines after it, which are dropped if the line has a fault
abbrev pub before_lines : List YamlToken → ℕ → Option RefusalKind → TokenStream → TokenStream
before_lines pieces line None others = record { pieces = pieces ++ others.pieces; fault = others.fault }
before_lines pieces line (Some kind) others = record { pieces = pieces; fault = Some (record { line = line; kind = kind }) }

-- the tokens of a line, read so far as it has no fault, before those of the lines after it
abbrev pub with_line : ℕ → ℕ → LineTokens → TokenStream → TokenStream
with_line at line read others = before_lines (map (piece_of at line) read.tokens) line read.fault others

-- The tokens of lines without their comments, up to the first fault, where `at` is the index of the first line. No later fault is at an earlier line.
unfoldable pub stream_from : ℕ → List Line → TokenStream
stream_from at [] = record { pieces = []; fault = None }
stream_from at (line ∷ lines) =
    with_line at line.number (line_tokens_of (before_comment line.text) (tokens_of false (before_comment line.text))) (stream_from (at + 1) lines)

-- the tokens of a key's lines
abbrev pub stream_of : List Line → TokenStream
stream_of lines = stream_from 0 lines

-- the bytes of a line that a token spans; none if there is no line
abbrev pub text_in : Option Line → Token → List ℕ
text_in None token = []
text_in (Some line) token = text_of line.text token

-- the bytes of a token of a key's lines
abbrev pub text_at : List Line → YamlToken → List ℕ
text_at lines piece = text_in (slice_get lines piece.at) piece.token

-- The lexeme of each token.
use Rattle.std.specs.Prelude.{ℕ, ◌==◌, if◌then◌else◌, codes, drop, map, List}
use Rattle.std.specs.Str.{bytes_eq}
use Rattle.read_metadata.specs.read_lexer.declared.parts.Class.{Class}
use Rattle.read_metadata.specs.read_lexer.declared.parts.Class.TheVariants as classes
use Rattle.read_metadata.specs.read_lexer.declared.parts.Token.{Token}
use Rattle.read_metadata.specs.Token.{text_of}
use Rattle.read_metadata.specs.Definition.{name_of}
use Rattle.read_token.specs.declared.lexeme.Lexeme.{Lexeme}
use Rattle.read_token.specs.declared.lexeme.Lexeme.TheVariants as lexemes
use Rattle.read_token.specs.Number.{number_of, limited}
use Rattle.read_token.specs.Word.{word_of}
use Rattle.read_token.specs.Register.{register_of, percent_of}

-- the number of a node, from the text `!N`
abbrev pub node_of : List ℕ → ℕ
node_of text = limited (drop 1 text)

-- the lexeme of a kind of nodes
unfoldable pub kind_of : List ℕ → Lexeme
kind_of text =
    if bytes_eq text (codes "!DIExpression") then lexemes.Expression
    else (if bytes_eq text (codes "!DILocation") then lexemes.InlineLocation
    else lexemes.Other)

-- the lexeme of a byte that is a token by itself
abbrev pub single_of : ℕ → Lexeme
single_of byte =
    if byte == 44 then lexemes.Comma
    else (if byte == 61 then lexemes.Equals
    else (if byte == 40 then lexemes.Open
    else (if byte == 41 then lexemes.Close
    else (if byte == 58 then lexemes.Colon
    else (if byte == 43 then lexemes.Plus
    else (if byte == 45 then lexemes.Minus
    else lexemes.Other))))))

-- the lexeme of a token with this class and this text
abbrev pub lexeme_by : Class → Token → List ℕ → Lexeme
lexeme_by classes.Word t text = lexemes.Word (word_of text) t
lexeme_by classes.Register t text = lexemes.Register (register_of text)
lexeme_by classes.Percent t text = percent_of text
lexeme_by classes.Node t text = lexemes.Node (node_of text)
lexeme_by classes.Kind t text = kind_of text
lexeme_by classes.Symbol t text = lexemes.Symbol t
lexeme_by classes.Integer t text = lexemes.Integer (number_of text)
lexeme_by classes.Float t text = lexemes.Float
lexeme_by classes.Text t text = lexemes.Other
lexeme_by (classes.Single byte) t text = single_of byte

-- the lexeme of a token of a line
unfoldable pub lexeme_of : List ℕ → Token → Lexeme
lexeme_of line t = lexeme_by t.class t (text_of line t)

-- the lexemes of the tokens of a line
abbrev pub lexemes_of : List ℕ → List Token → List Lexeme
lexemes_of line ts = map (lexeme_of line) ts

-- the name of a symbol, without its `@` or `&` and with escapes replaced by their bytes
abbrev pub symbol_name : List ℕ → Token → List ℕ
symbol_name line t = name_of (drop 1 (text_of line t))

-- Parsing from left to right: each parser takes lexemes from the front, and returns what it read and the rest.
use Rattle.std.specs.Prelude.{◌≡◌, List, ◌∷◌, Option, Some, None}
use Rattle.std.specs.Borrow.{Bor}
use Rattle.read_token.specs.declared.lexeme.Lexeme.{Lexeme}
use Rattle.read_token.specs.declared.lexeme.Lexeme.TheVariants.{Comma, Equals, Close}

-- one parser after another
infixl 10 ◌>>=◌
-- none if the first fails, else the second with the first one's result
abbrev pub ◌>>=◌ : {A B : Type 0} → Option A → (A → Option B) → Option B
None >>= f = None
(Some x) >>= f = f x

-- what a function returned, mapped by `view`, is this result of parsing
abbrev pub Gives : {X Y : Type 0} → (X → Y) → Option X → Option Y → Type 0
Gives view None read = read ≡ None
Gives view (Some x) read = read ≡ Some (view x)

-- the lexemes that were borrowed are these
abbrev pub Lends : Option (Bor (List Lexeme)) → Option (List Lexeme) → Type 0
Lends None read = read ≡ None
Lends (Some b) read = read ≡ Some b.now

-- the lexemes after a comma
abbrev pub behind_comma : List Lexeme → Option (List Lexeme)
behind_comma (Comma ∷ ts) = Some ts
behind_comma ts = None

-- the lexemes after an equals sign
abbrev pub behind_equals : List Lexeme → Option (List Lexeme)
behind_equals (Equals ∷ ts) = Some ts
behind_equals ts = None

-- the lexemes after a closing bracket
abbrev pub behind_close : List Lexeme → Option (List Lexeme)
behind_close (Close ∷ ts) = Some ts
behind_close ts = None

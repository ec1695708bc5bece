-- The grammar of a metadata node's fields (LLVM Language Reference Manual, "Specialized Metadata Nodes"). After the opening bracket come
--
--   fields ::= ")"  |  field { "," field } ")"
--   field  ::= word ":" value
--   value  ::= token { token }
--
-- where a value has commas and closing brackets only within brackets that it opens.
use Rattle.std.specs.Prelude.{◌≡◌, true, false, List, [], ◌∷◌, ◌++◌, Option, Some, None}
use Rattle.read_lexer.specs.declared.parts.Token.{Token}
use Rattle.read_metadata.specs.declared.field.Field.{Field}
use Rattle.read_metadata.specs.Token.{is_byte, is_word}
use Rattle.read_metadata.specs.Field.{opens, closes}

-- tokens with balanced brackets, of any kinds
pub data IsClosed : List Token → Type 0 where
  nothing : IsClosed []
  plain : {ts : List Token} → (t : Token) → opens t ≡ false → closes t ≡ false → IsClosed ts → IsClosed (t ∷ ts)
  within : {inside behind : List Token} → (o c : Token) → opens o ≡ true → closes c ≡ true → IsClosed inside → IsClosed behind →
      IsClosed (o ∷ inside ++ c ∷ behind)

-- tokens with balanced brackets, and no comma outside them
pub data IsValue : List Token → Type 0 where
  nothing : IsValue []
  plain : {ts : List Token} → (t : Token) → is_byte 44 t ≡ false → opens t ≡ false → closes t ≡ false → IsValue ts → IsValue (t ∷ ts)
  within : {inside behind : List Token} → (o c : Token) → opens o ≡ true → closes c ≡ true → IsClosed inside → IsValue behind →
      IsValue (o ∷ inside ++ c ∷ behind)

-- the token of a value that is a single token
abbrev pub lone : Token → List Token → Option Token
lone first [] = Some first
lone first (t ∷ ts) = None

-- a field: a word, a colon and a value
pub record IsField (ts : List Token) (f : Field) : Type 0 where
  pub key : Token
  pub colon : Token
  pub first : Token
  pub more : List Token
  pub text : ts ≡ key ∷ colon ∷ first ∷ more
  pub word : is_word key ≡ true
  pub parted : is_byte 58 colon ≡ true
  pub value : IsValue (first ∷ more)
  pub field : f ≡ record { key = key; value = lone first more }

-- fields separated by commas, and the closing bracket
pub data AreFields : List Token → List Field → Type 0 where
  last : {ts : List Token} {f : Field} → (b : Token) → IsField ts f → is_byte 41 b ≡ true → AreFields (ts ++ b ∷ []) (f ∷ [])
  more : {ts us : List Token} {f : Field} {fs : List Field} → (b : Token) → IsField ts f → is_byte 44 b ≡ true → AreFields us fs →
      AreFields (ts ++ b ∷ us) (f ∷ fs)

-- the closing bracket alone, or fields and the closing bracket
pub data IsFieldList : List Token → List Field → Type 0 where
  none : (b : Token) → is_byte 41 b ≡ true → IsFieldList (b ∷ []) []
  some : {ts : List Token} {fs : List Field} → AreFields ts fs → IsFieldList ts fs

-- The metadata reader accepts exactly the grammar.
use Rattle.std.specs.Prelude.{◌≡◌, List, Some}
use Rattle.read_lexer.specs.declared.parts.Token.{Token}
use Rattle.read_metadata.specs.declared.field.Field.{Field}
use Rattle.read_metadata.specs.Field.{fields_of}
use Rattle.read_metadata_proof.specs.Grammar.{IsFieldList}

-- tokens are read as these fields exactly if they are these fields by the grammar
abbrev pub FieldsAreReadByTheirGrammar : Type 0
FieldsAreReadByTheirGrammar = (ts : List Token) (fs : List Field) → (fields_of ts ≡ Some fs → IsFieldList ts fs) × (IsFieldList ts fs → fields_of ts ≡ Some fs)

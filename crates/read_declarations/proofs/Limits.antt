-- The numbers that fields spell are within the limit.
use Rattle.std.proofs.Common.{◌≡◌, ℕ, zero, suc, ◌≤◌, Bool, true, false, cond, ◌&&◌, eqb, leb, List, [], ◌∷◌, Option, Some, None, refl, subst, arith}
use Rattle.std.specs.Prelude.{IfSome}
use Rattle.std.proofs.lemmas.Bool.{leb-true}
use Rattle.read_lexer.specs.declared.line.Line.{Line}
use Rattle.read_metadata.specs.Number.{value_behind, spelled, zero_alone, unsigned_of, integer_of}
use Rattle.read_metadata.specs.Token.{is_integer}
use Rattle.base_ids.specs.Limits.{MAX_NUMBER}
use Rattle.read_declarations.specs.declared.entry.MappingField.{MappingField}
use Rattle.read_declarations.specs.declared.stream.YamlToken.{YamlToken}
use Rattle.read_declarations.specs.Field.{value_at, number_in, needed, positive, negated_of, negated_in, negated}
use Rattle.read_declarations.specs.Stream.{text_at}

-- a number within the limit, if there is one
abbrev pub IsLow : Option ℕ → Type 0
IsLow o = IfSome o (λ n. n ≤ MAX_NUMBER)

one_of : (b : Bool) (o p : Option ℕ) → IsLow o → IsLow p → IsLow (cond b o p)
one_of true o p first other = first
one_of false o p first other = other

within : (b : Bool) (n : ℕ) → leb n MAX_NUMBER ≡ b → IsLow (cond b (Some n) None)
within true n is = leb-true n MAX_NUMBER is
within false n is = tt

pub spelled_low : (base : ℕ) (digits : List ℕ) → IsLow (spelled base digits)
unfolding spelled
spelled_low base digits = within (leb (value_behind base 0 digits) MAX_NUMBER) (value_behind base 0 digits) refl

zero_low : (o : Option ℕ) → IsLow (zero_alone o)
zero_low None = tt
zero_low (Some m) = one_of (eqb m 0) (Some 0) None (omega arith) tt

unsigned_low : (a : ℕ) (bs : List ℕ) → IsLow (unsigned_of a bs)
unsigned_low a [] = spelled_low 10 (a ∷ [])
unsigned_low a (b ∷ bs) =
    one_of (eqb a 48 && eqb b 120) (spelled 16 bs) (spelled 10 (a ∷ b ∷ bs)) (spelled_low 16 bs) (spelled_low 10 (a ∷ b ∷ bs))

pub integer_low : (text : List ℕ) → IsLow (integer_of text)
integer_low [] = spelled_low 10 []
integer_low (a ∷ bs) = one_of (eqb a 45) (zero_alone (spelled 10 bs)) (unsigned_of a bs) (zero_low (spelled 10 bs)) (unsigned_low a bs)

number_low : (lines : List Line) (o : Option YamlToken) → IsLow (number_in lines None o)
number_low lines None = tt
number_low lines (Some value) = one_of (is_integer value.token) (integer_of (text_at lines value)) None (integer_low (text_at lines value)) tt

-- the number of a field
pub needed_low : (lines : List Line) (key : List ℕ) (fields : List MappingField) → IsLow (needed lines key fields)
needed_low lines key fields = number_low lines (value_at lines key fields)

positive_low : (o : Option ℕ) → IsLow o → IsLow (positive o)
positive_low None small = tt
positive_low (Some zero) small = tt
positive_low (Some (suc n)) small = small

negated_of_low : (text : List ℕ) → IsLow (negated_of text)
negated_of_low [] = tt
negated_of_low (a ∷ bs) = one_of (eqb a 45) (positive (spelled 10 bs)) None (positive_low (spelled 10 bs) (spelled_low 10 bs)) tt

negated_in_low : (lines : List Line) (o : Option YamlToken) → IsLow (negated_in lines o)
negated_in_low lines None = tt
negated_in_low lines (Some value) =
    one_of (is_integer value.token) (negated_of (text_at lines value)) None (negated_of_low (text_at lines value)) tt

-- the number behind the minus sign of a field
pub negated_low : (lines : List Line) (key : List ℕ) (fields : List MappingField) → IsLow (negated lines key fields)
negated_low lines key fields = negated_in_low lines (value_at lines key fields)

-- one that is known
pub low_is : (o : Option ℕ) (n : ℕ) → IsLow o → o ≡ Some n → n ≤ MAX_NUMBER
low_is o n low is = subst IsLow is low

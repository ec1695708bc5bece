-- Lists of parts are read from left to right.
use Rattle.std.proofs.Common.{◌≡◌, ℕ, suc, ◌+◌, ◌-◌, ◌<◌, ◌≤◌, Bool, List, [], ◌∷◌, ◌++◌, Option, Some, None, refl, sym, ap, ◌∙◌, append_assoc, arith}
use Rattle.read_token.specs.declared.lexeme.Flag.TheVariants.{Plain}
use Rattle.read_token.specs.declared.lexeme.Lexeme.{Lexeme}
use Rattle.read_line.specs.declared.attribute.Fields.{Fields}
use Rattle.read_line.specs.declared.form.RegisterForm.{RegisterForm}
use Rattle.read_line.specs.declared.form.OperandForm.{OperandForm}
use Rattle.read_line.specs.Read.{behind_comma, behind_equals, ◌>>=◌}
use Rattle.read_line.specs.Register.{register_at}
use Rattle.read_line.specs.Operand.{operand_at}
use Rattle.read_line.specs.Attribute.{closed, field_at, fields_at}
use Rattle.read_line.specs.Item.{before, with_equals, definitions_at, behind_operand, operands_at}

-- parts that were read before others
abbrev pub behind : {A : Type 0} → List A → Option (List A × List Lexeme) → Option (List A × List Lexeme)
behind xs None = None
behind xs (Some r) = Some (xs ++ r.0, r.1)

behind-before : {A : Type 0} (xs : List A) (x : A) (r : Option (List A × List Lexeme)) → behind xs (before x r) ≡ behind (xs ++ x ∷ []) r
behind-before xs x None = refl
behind-before xs x (Some r) = ap (λ (l : List _). Some (l, r.1)) (sym (append_assoc xs (x ∷ []) r.0))

behind-equals : (xs : List RegisterForm) (d : RegisterForm) (ts : List Lexeme) → behind xs (with_equals (d ∷ []) ts) ≡ with_equals (xs ++ d ∷ []) ts
behind-equals xs d ts = by_rest (behind_equals ts)
  where
    by_rest : (r : Option (List Lexeme)) → behind xs (r >>= λ rest. Some (d ∷ [], rest)) ≡ (r >>= λ rest. Some (xs ++ d ∷ [], rest))
    by_rest None = refl
    by_rest (Some rest) = refl

one_left : (n i : ℕ) → i < n → n - i ≡ suc (n - (i + 1))
one_left n i lt = omega arith

-- `n` tells how many parts may be read, of which `i` were.
module _ (n i : ℕ) (rest : List Lexeme) where
  module _ (found : List RegisterForm) (whole : Option (List RegisterForm × List Lexeme)) where
    -- no definition is there
    pub no_definition : i < n → register_at Plain rest ≡ None → behind found (definitions_at (n - i) rest) ≡ whole → whole ≡ None
    unfolding definitions_at
    no_definition lt none read = sym read ∙ rw (one_left n i lt, none) refl

    -- a definition and a comma
    pub next_definition : (d : RegisterForm) (left next : List Lexeme) (now : List RegisterForm) → i < n → register_at Plain rest ≡ Some (d, left)
        → behind_comma left ≡ Some next → now ≡ found ++ d ∷ [] → behind found (definitions_at (n - i) rest) ≡ whole
        → behind now (definitions_at (n - (i + 1)) next) ≡ whole
    unfolding definitions_at
    next_definition d left next now lt some comma is read =
        ap (λ (l : List RegisterForm). behind l (definitions_at (n - (i + 1)) next)) is ∙ sym (behind-before found d (definitions_at (n - (i + 1)) next))
        ∙ sym (rw (one_left n i lt, some, comma) refl) ∙ read

    -- a definition without a comma
    pub last_definition : (d : RegisterForm) (left : List Lexeme) (now : List RegisterForm) → i < n → register_at Plain rest ≡ Some (d, left)
        → behind_comma left ≡ None → now ≡ found ++ d ∷ [] → behind found (definitions_at (n - i) rest) ≡ whole → whole ≡ with_equals now left
    unfolding definitions_at
    last_definition d left now lt some comma is read =
        sym read ∙ rw (one_left n i lt, some, comma) (behind-equals found d left) ∙ sym (ap (λ (l : List RegisterForm). with_equals l left) is)

    -- as many were read as may be
    pub no_more_definitions : n ≤ i → behind found (definitions_at (n - i) rest) ≡ whole → whole ≡ None
    unfolding definitions_at
    no_more_definitions all read = let none : n - i ≡ 0 = omega arith in sym read ∙ rw none refl

  module _ (linked : Bool) (line : List ℕ) (found : List OperandForm) (whole : Option (List OperandForm × List Lexeme)) where
    -- no operand is there
    pub no_operand : i < n → operand_at linked line rest ≡ None → behind found (operands_at linked line (n - i) rest) ≡ whole → whole ≡ None
    unfolding operands_at
    no_operand lt none read = sym read ∙ rw (one_left n i lt, none) refl

    -- an operand, and another one behind it
    pub next_operand : (o : OperandForm) (left next : List Lexeme) (now : List OperandForm) → i < n → operand_at linked line rest ≡ Some (o, left)
        → behind_operand left ≡ Some next → now ≡ found ++ o ∷ [] → behind found (operands_at linked line (n - i) rest) ≡ whole
        → behind now (operands_at linked line (n - (i + 1)) next) ≡ whole
    unfolding operands_at
    next_operand o left next now lt some comma is read =
        ap (λ (l : List OperandForm). behind l (operands_at linked line (n - (i + 1)) next)) is
        ∙ sym (behind-before found o (operands_at linked line (n - (i + 1)) next))
        ∙ sym (rw (one_left n i lt, some, comma) refl) ∙ read

    -- the last operand
    pub last_operand : (o : OperandForm) (left : List Lexeme) (now : List OperandForm) → i < n → operand_at linked line rest ≡ Some (o, left)
        → behind_operand left ≡ None → now ≡ found ++ o ∷ [] → behind found (operands_at linked line (n - i) rest) ≡ whole → whole ≡ Some (now, left)
    unfolding operands_at
    last_operand o left now lt some comma is read =
        sym read ∙ rw (one_left n i lt, some, comma) refl ∙ sym (ap (λ (l : List OperandForm). Some (l, left)) is)

    -- as many were read as may be
    pub no_more_operands : n ≤ i → behind found (operands_at linked line (n - i) rest) ≡ whole → whole ≡ None
    unfolding operands_at
    no_more_operands all read = let none : n - i ≡ 0 = omega arith in sym read ∙ rw none refl

  module _ (f : Fields) (whole : Option (Fields × List Lexeme)) where
    -- no field is there
    pub no_field : i < n → field_at f rest ≡ None → fields_at (n - i) f rest ≡ whole → whole ≡ None
    unfolding fields_at
    no_field lt none read = sym read ∙ rw (one_left n i lt, none) refl

    -- a field and a comma
    pub next_field : (g : Fields) (left next : List Lexeme) → i < n → field_at f rest ≡ Some (g, left) → behind_comma left ≡ Some next
        → fields_at (n - i) f rest ≡ whole → fields_at (n - (i + 1)) g next ≡ whole
    unfolding fields_at
    next_field g left next lt some comma read = sym (rw (one_left n i lt, some, comma) refl) ∙ read

    -- the last field
    pub last_field : (g : Fields) (left : List Lexeme) → i < n → field_at f rest ≡ Some (g, left) → behind_comma left ≡ None
        → fields_at (n - i) f rest ≡ whole → whole ≡ closed g left
    unfolding fields_at
    last_field g left lt some comma read = sym read ∙ rw (one_left n i lt, some, comma) refl

    -- as many were read as may be
    pub no_more_fields : n ≤ i → fields_at (n - i) f rest ≡ whole → whole ≡ None
    unfolding fields_at
    no_more_fields all read = let none : n - i ≡ 0 = omega arith in sym read ∙ rw none refl

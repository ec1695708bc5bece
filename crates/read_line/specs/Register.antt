-- A register with its flags, its class, and `(tied-def N)`. (LLVM, Machine IR (MIR) Format Reference Manual, "Register Operands", "Register Flags",
-- "Virtual Registers".)
use Rattle.std.specs.Prelude.{Bool, true, false, List, ◌∷◌, Option, Some, None}
use Rattle.read_token.specs.declared.lexeme.Flag.{Flag}
use Rattle.read_token.specs.declared.lexeme.Flag.TheVariants.{Plain, Implicit, ImplicitDef}
use Rattle.read_token.specs.declared.lexeme.RegisterName.{RegisterName}
use Rattle.read_token.specs.declared.lexeme.RegisterName.TheVariants.{Virtual}
use Rattle.read_token.specs.declared.lexeme.Word.TheVariants as words
use Rattle.read_token.specs.declared.lexeme.Lexeme.{Lexeme}
use Rattle.read_token.specs.declared.lexeme.Lexeme.TheVariants as lexemes
use Rattle.read_line.specs.declared.form.RegisterForm.{RegisterForm}
use Rattle.read_line.specs.Read.{◌>>=◌}

-- the flag of a register with two flags: it can't be both `implicit` and `implicit-def`
abbrev pub joined : Flag → Flag → Option Flag
joined Plain g = Some g
joined Implicit ImplicitDef = None
joined ImplicitDef Implicit = None
joined f g = Some f

-- the lexemes after a virtual register's class, `:` and a word, which is skipped
abbrev pub behind_class : RegisterName → List Lexeme → Option (List Lexeme)
behind_class (Virtual n) (lexemes.Colon ∷ lexemes.Word w t ∷ ts) = Some ts
behind_class (Virtual n) (lexemes.Colon ∷ ts) = None
behind_class name ts = Some ts

-- the lexemes after `(tied-def N)`, which is skipped; no other bracket may follow a register
abbrev pub behind_tied : List Lexeme → Option (List Lexeme)
behind_tied (lexemes.Open ∷ lexemes.Word words.TiedDef t ∷ lexemes.Integer n ∷ lexemes.Close ∷ ts) = Some ts
behind_tied (lexemes.Open ∷ ts) = None
behind_tied ts = Some ts

-- a register, and the rest after its class and `(tied-def N)`
unfoldable pub named_at : Flag → RegisterName → List Lexeme → Option (RegisterForm × List Lexeme)
named_at flag name ts = do
  class ← behind_class name ts
  rest ← behind_tied class
  Some (record { flag = flag; name = name }, rest)

-- a register with flags, where `flag` is that of the words before, and the rest
unfoldable pub register_at : Flag → List Lexeme → Option (RegisterForm × List Lexeme)
register_at flag (lexemes.Word (words.Flag f) t ∷ ts) = joined flag f >>= λ g. register_at g ts
register_at flag (lexemes.Register name ∷ ts) = named_at flag name ts
register_at flag ts = None

-- whether the lexemes begin with a register or its flags
unfoldable pub begins_register : List Lexeme → Bool
begins_register (lexemes.Word (words.Flag f) t ∷ ts) = begins_register ts
begins_register (lexemes.Register name ∷ ts) = true
begins_register ts = false

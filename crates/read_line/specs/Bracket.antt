-- Brackets whose content is skipped. Only round ones are counted.
use Rattle.std.specs.Prelude.{ℕ, zero, suc, ◌+◌, List, [], ◌∷◌, Option, Some, None}
use Rattle.read_token.specs.declared.lexeme.Lexeme.{Lexeme}
use Rattle.read_token.specs.declared.lexeme.Lexeme.TheVariants.{Open, Close}
use Rattle.read_token.specs.Word.{case_of}

-- one open bracket fewer, unless none is open
abbrev pub one_closed : ℕ → Option ℕ
one_closed zero = None
one_closed (suc inner) = Some inner

-- how many brackets are open inside the outer one after a lexeme; none if the lexeme closes the outer one
abbrev pub inner_behind : ℕ → Lexeme → Option ℕ
inner_behind inner Open = Some (inner + 1)
inner_behind inner Close = one_closed inner
inner_behind inner t = Some inner

-- The lexemes after the closing bracket of the outer one, where `inner` brackets are open inside it.
unfoldable pub behind_bracket : ℕ → List Lexeme → Option (List Lexeme)
behind_bracket inner [] = None
behind_bracket inner (t ∷ ts) = case_of (inner_behind inner t) (λ more. behind_bracket more ts) (Some ts)

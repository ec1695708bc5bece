-- What a function exposes to other code: all of itself, if it calls a function that may return twice, as `setjmp` (LLVM, Machine IR Format Reference Manual:
-- `exposesReturnsTwice`).
use Rattle.std.specs.Prelude.{ℕ, Bool, true, false, ◌&&◌, cond, drop, List, [], ◌∷◌, Result, Ok, Err, codes}
use Rattle.std.specs.Str.{bytes_eq}
use Rattle.mir_exposure.specs.declared.exposure.Exposure.{Exposure}
use Rattle.mir_exposure.specs.declared.exposure.Exposure.TheVariants.{Nothing, Globals, Everything}
use Rattle.read_lexer.specs.declared.fault.LexError.{LexError}
use Rattle.read_lexer.specs.declared.line.Line.{Line}
use Rattle.read_lexer.specs.declared.parts.Token.{Token}
use Rattle.read_lexer.specs.Line.{tokens_of}
use Rattle.read_metadata.specs.Token.{is_word, text_of}

-- the tokens after a key and its colon are the word `true`
abbrev pub are_true : List ℕ → List Token → Bool
are_true line (t ∷ []) = is_word t && bytes_eq (text_of line t) (codes "true")
are_true line _ = false

abbrev pub is_true_read : Line → Result (List Token) LexError → Bool
is_true_read line (Ok ts) = are_true line.text (drop 2 ts)
is_true_read line (Err e) = false

-- the key's own line says `true`; any other value says nothing
unfoldable pub says_true : List Line → Bool
says_true [] = false
says_true (line ∷ lines) = is_true_read line (tokens_of false line.text)

-- what a function with these lines of the key exposes: nothing, but in the linked language the global registers, and all else too if the key says `true`
abbrev pub exposure_of : (linked : Bool) → List Line → Exposure
exposure_of linked lines = cond linked (cond (says_true lines) Everything Globals) Nothing

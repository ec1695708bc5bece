-- What an answer that is exact says besides.
use Rattle.std.specs.Prelude.{Bool}
use Rattle.std.proofs.Common.{◌≡◌, ℕ, List, Result, Ok, Err}
use Rattle.std.specs.Prelude.{IfOk}
use Rattle.read_lexer.specs.declared.fault.LexError.{LexError}
use Rattle.read_lexer.specs.declared.fault.LexError.TheVariants as errors
use Rattle.read_lexer.specs.declared.parts.Token.{Token}
use Rattle.read_lexer.specs.Line.{Gives, tokens_of, AreSpans, IsUnclosed}
use Rattle.std.specs.List.{AllByRecursion}
use Rattle.read_lexer.specs.Spelling.{IsLongest, BeginsNothing}
use Rattle.read_lexer.proofs.Longest.{tokens-longest, tokens-bad}
use Rattle.read_lexer.proofs.Placed.{tokens-placed}
use Rattle.read_lexer.proofs.Unclosed.{tokens-alone}

pub spans_of : (floats : Bool) → (line : List ℕ) (answer : Result (List Token) LexError) → Gives answer (tokens_of floats line) → IfOk answer (λ ts. AreSpans line 0 ts)
spans_of floats line (Ok ts) exact = tokens-placed floats line ts exact
spans_of floats line (Err e) exact = tt

pub longest_of : (floats : Bool) → (line : List ℕ) (answer : Result (List Token) LexError) → Gives answer (tokens_of floats line) →
    IfOk answer (λ ts. AllByRecursion (IsLongest floats line) ts)
longest_of floats line (Ok ts) exact = tokens-longest floats line ts exact
longest_of floats line (Err e) exact = tt

bad_byte_at : (floats : Bool) → (line : List ℕ) (e : LexError) (at : ℕ) → Gives {A = List Token} (Err e) (tokens_of floats line) → e ≡ errors.BadByte at → BeginsNothing floats line at
bad_byte_at floats line errors.Memory at exact is = absurd cc
bad_byte_at floats line (errors.BadByte k) at exact is = tokens-bad floats line at (rw (← is) exact)
bad_byte_at floats line (errors.UnclosedString k) at exact is = absurd cc

pub bad_byte_of : (floats : Bool) → (line : List ℕ) (answer : Result (List Token) LexError) (at : ℕ) → Gives answer (tokens_of floats line) → answer ≡ Err (errors.BadByte at) →
    BeginsNothing floats line at
bad_byte_of floats line (Ok ts) at exact is = absurd cc
bad_byte_of floats line (Err e) at exact is = bad_byte_at floats line e at exact cc

fault_of : (floats : Bool) → (line : List ℕ) (e : LexError) (at : ℕ) → Gives {A = List Token} (Err e) (tokens_of floats line) → e ≡ errors.UnclosedString at → IsUnclosed line at
fault_of floats line errors.Memory at exact is = absurd cc
fault_of floats line (errors.BadByte k) at exact is = absurd cc
fault_of floats line (errors.UnclosedString k) at exact is = tokens-alone floats line at (rw (← is) exact)

pub unclosed_of : (floats : Bool) → (line : List ℕ) (answer : Result (List Token) LexError) (at : ℕ) → Gives answer (tokens_of floats line) → answer ≡ Err (errors.UnclosedString at) →
    IsUnclosed line at
unclosed_of floats line (Ok ts) at exact is = absurd cc
unclosed_of floats line (Err e) at exact is = fault_of floats line e at exact cc

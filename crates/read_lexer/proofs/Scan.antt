-- Reading a line from left to right, as a loop does.
use Rattle.std.specs.Prelude.{Bool}
use Rattle.std.proofs.Common.{◌≡◌, ℕ, zero, suc, ◌+◌, ◌-◌, ◌<◌, ◌≤◌, true, false, List, [], ◌∷◌, ◌++◌, length, get_or, take, drop, Result, Ok, Err, refl, sym}
use Rattle.std.proofs.Common.{ap, ◌∙◌, append_assoc, arith}
use Rattle.std.proofs.lemmas.List.{append-nil, drop_more, drop_all, take_rest, drop-drop, length-drop}
use Rattle.read_lexer.specs.declared.fault.LexError.{LexError}
use Rattle.read_lexer.specs.declared.fault.LexError.TheVariants as errors
use Rattle.read_lexer.specs.declared.parts.Token.{Token}
use Rattle.read_lexer.specs.Bytes.{is_blank}
use Rattle.read_lexer.specs.Front.{token_at}
use Rattle.read_lexer.specs.Line.{followed_by, tokens_from, tokens_of, Gives}
use Rattle.read_lexer.proofs.Spans.{Spans, token_at-ok}

-- the tokens that were read, and those that are still read
abbrev pub behind : List Token → Result (List Token) LexError → Result (List Token) LexError
behind front (Ok ts) = Ok (front ++ ts)
behind front (Err e) = Err e

behind-nil : (read : Result (List Token) LexError) → behind [] read ≡ read
behind-nil (Ok ts) = refl
behind-nil (Err e) = refl

behind-followed_by : (front : List Token) (t : Token) (read : Result (List Token) LexError) → behind front (followed_by t read) ≡ behind (front ++ t ∷ []) read
behind-followed_by front t (Ok ts) = ap (λ (x : List Token). Ok x) (sym (append_assoc front (t ∷ []) ts))
behind-followed_by front t (Err e) = refl

-- the bytes of a token that began before are passed over
skips : (floats : Bool) → (at inside : ℕ) (bs : List ℕ) → inside ≤ length bs → tokens_from floats at inside bs ≡ tokens_from floats (at + inside) 0 (drop inside bs)
unfolding tokens_from
skips floats at zero bs le = ap (λ (n : ℕ). tokens_from floats n 0 bs) (omega arith)
skips floats at (suc inside) [] le = absurd (omega arith)
skips floats at (suc inside) (b ∷ bs) le = skips floats (at + 1) inside bs (omega arith) ∙ ap (λ (n : ℕ). tokens_from floats n 0 (drop inside bs)) (omega arith)

-- at a line's start nothing was read
pub begins : (floats : Bool) → (line : List ℕ) → behind [] (tokens_from floats 0 0 line) ≡ tokens_of floats line
begins floats line = behind-nil (tokens_from floats 0 0 line)

-- one byte that separates tokens
pub passes_blank : (floats : Bool) → (front : List Token) (at : ℕ) (line : List ℕ) → at < length line → is_blank (get_or line at 0) ≡ true
    → behind front (tokens_from floats at 0 (drop at line)) ≡ behind front (tokens_from floats (at + 1) 0 (drop (at + 1) line))
unfolding tokens_from
passes_blank floats front at line lt blank = rw (drop_more line at 0 lt, blank) refl

-- the token at a place, as the code reads it
abbrev pub token_there : (floats : Bool) → ℕ → List ℕ → Result Token LexError
token_there floats at line = token_at floats at (get_or line at 0) (take (length line - (at + 1)) (drop (at + 1) line))

there : (floats : Bool) → (at : ℕ) (line : List ℕ) → token_there floats at line ≡ token_at floats at (get_or line at 0) (drop (at + 1) line)
there floats at line = ap (token_at floats at (get_or line at 0)) (take_rest line (at + 1))

-- a token begins where it was looked for, and ends behind that place and within the line
pub token_there-spans : (floats : Bool) → (at : ℕ) (line : List ℕ) (t : Token) → at < length line → token_there floats at line ≡ Ok t → Spans at (length line) t
token_there-spans floats at line t lt read =
    let len = length-drop (at + 1) line in
    token_at-ok floats at (get_or line at 0) (drop (at + 1) line) (length line) t (omega arith) (sym (there floats at line) ∙ read)

-- a token
pub passes_token : (floats : Bool) → (front : List Token) (at : ℕ) (line : List ℕ) (t : Token) → at < length line → is_blank (get_or line at 0) ≡ false
    → token_there floats at line ≡ Ok t
    → behind front (tokens_from floats at 0 (drop at line)) ≡ behind (front ++ t ∷ []) (tokens_from floats t.end 0 (drop t.end line))
unfolding tokens_from
passes_token floats front at line t lt blank read =
    let len = length-drop (at + 1) line in
    let spans = token_there-spans floats at line t lt read in
    let inside = t.end - (at + 1) in
    let now : token_at floats at (get_or line at 0) (drop (at + 1) line) ≡ Ok t = sym (there floats at line) ∙ read in
    let goes : tokens_from floats (at + 1) inside (drop (at + 1) line) ≡ tokens_from floats t.end 0 (drop t.end line) =
    skips floats (at + 1) inside (drop (at + 1) line) (omega (arith, spans.2)) ∙ rw drop-drop (ap (λ (n : ℕ). tokens_from floats n 0 (drop n line)) (omega (arith, spans.1)))
    in
    let one : behind front (tokens_from floats at 0 (drop at line)) ≡ behind front (followed_by t (tokens_from floats (at + 1) inside (drop (at + 1) line))) =
    rw (drop_more line at 0 lt, blank, now) refl in
    one ∙ ap (λ (r : Result (List Token) LexError). behind front (followed_by t r)) goes ∙ behind-followed_by front t (tokens_from floats t.end 0 (drop t.end line))

-- a fault
pub stops : (floats : Bool) → (front : List Token) (at : ℕ) (line : List ℕ) (e : LexError) → at < length line → is_blank (get_or line at 0) ≡ false
    → token_there floats at line ≡ Err e → behind front (tokens_from floats at 0 (drop at line)) ≡ Err e
unfolding tokens_from
stops floats front at line e lt blank read =
    let now : token_at floats at (get_or line at 0) (drop (at + 1) line) ≡ Err e = sym (there floats at line) ∙ read in
    rw (drop_more line at 0 lt, blank, now) refl

-- the end of a line
pub ends : (floats : Bool) → (front : List Token) (at : ℕ) (line : List ℕ) → length line ≤ at → behind front (tokens_from floats at 0 (drop at line)) ≡ Ok front
unfolding tokens_from
ends floats front at line le = rw (drop_all at line le) (ap (λ (x : List Token). Ok x) (append-nil front))

-- a fault that reading gives is one that a call may answer
pub gives_fault : (e : LexError) (read : Result (List Token) LexError) → read ≡ Err e → Gives {A = List Token} (Err e) read
gives_fault errors.Memory read is = tt
gives_fault (errors.BadByte at) read is = is
gives_fault (errors.UnclosedString at) read is = is

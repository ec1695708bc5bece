-- Where the tokens of a line stand.
use Rattle.std.proofs.Common.{◌≡◌, ℕ, zero, suc, ◌+◌, ◌-◌, ◌≤◌, Bool, true, false, cond, List, [], ◌∷◌, length, get_or, drop, Result, Ok, Err, IsTrue, refl, ap}
use Rattle.std.proofs.Common.{subst, ◌∙◌, arith, inl, inr}
use Rattle.std.proofs.lemmas.Bool.{cases_eq}
use Rattle.std.proofs.lemmas.List.{drop-drop, length-drop, get_or-drop}
use Rattle.read_lexer.specs.declared.fault.LexError.{LexError}
use Rattle.read_lexer.specs.declared.parts.Token.{Token}
use Rattle.read_lexer.specs.Bytes.{is_blank}
use Rattle.read_lexer.specs.Front.{token_at}
use Rattle.read_lexer.specs.Line.{followed_by, and_then, tokens_from, tokens_of, AreSpans}
use Rattle.read_lexer.proofs.Spans.{token_at-ok}

-- from a place on, the tokens that reading gives are spans of the line
abbrev Placed : (floats : Bool) → List ℕ → List ℕ → Type 0
Placed floats line bs = (at inside : ℕ) (ts : List Token) → at ≤ length line → bs ≡ drop at line → inside ≤ length bs → tokens_from floats at inside bs ≡ Ok ts →
    AreSpans line (at + inside) ts

-- a byte that separates tokens may stand in front
AreSpans-wider : (line : List ℕ) (at : ℕ) (ts : List Token) → IsTrue (is_blank (get_or line at 0)) → AreSpans line (at + 1) ts → AreSpans line at ts
AreSpans-wider line at [] blank later = λ i from below. elim (cases_eq i at) [ inl same ↦ rw same blank | inr other ↦ later i (omega arith) below ]
AreSpans-wider line at (t ∷ ts) blank later = (
  omega (arith, later.0),
  (λ i from below. elim (cases_eq i at) [ inl same ↦ rw same blank | inr other ↦ later.1 i (omega arith) below ]),
  later.2,
  later.3,
  later.4,
)

-- the rest behind the byte at a place
pub behind_front : (line : List ℕ) (at b : ℕ) (bs : List ℕ) → b ∷ bs ≡ drop at line → (bs ≡ drop (at + 1) line) × (b ≡ get_or line at 0) ×
    (at + 1 + length bs ≡ length line)
behind_front line at b bs is =
    let len = ap length is in
    let all = length-drop at line in (
      ap (drop 1) is ∙ drop-drop 1 at line,
      ap (λ (x : List ℕ). get_or x 0 0) is ∙ get_or-drop at line 0 0 ∙
          ap (λ (i : ℕ). get_or line i 0) (omega arith),
      omega arith,
    )

-- what follows a token
after_token : (floats : Bool) → (line : List ℕ) (from : ℕ) (t : Token) (ts : List Token) (read : Result (List Token) LexError) → followed_by t read ≡ Ok ts
    → ((others : List Token) → read ≡ Ok others → AreSpans line from (t ∷ others)) → AreSpans line from ts
after_token floats line from t ts (Ok others) is placed = let same : t ∷ others ≡ ts = cc in subst (AreSpans line from) same (placed others refl)
after_token floats line from t ts (Err e) is placed = absurd cc

at_token : (floats : Bool) → (line : List ℕ) (from : ℕ) (there : Result Token LexError) (next : Token → Result (List Token) LexError) (ts : List Token) →
    and_then there (λ t. followed_by t (next t)) ≡ Ok ts
    → ((t : Token) (others : List Token) → there ≡ Ok t → next t ≡ Ok others → AreSpans line from (t ∷ others)) → AreSpans line from ts
at_token floats line from (Ok t) next ts is placed = after_token floats line from t ts (next t) is (λ others o. placed t others refl o)
at_token floats line from (Err e) next ts is placed = absurd cc

-- at a byte that belongs to no token before
at_front : (floats : Bool) → (line : List ℕ) (at b : ℕ) (bs : List ℕ) (ts : List Token) (blank : Bool) → is_blank b ≡ blank → Placed floats line bs → b ∷ bs ≡ drop at line
    → cond blank (tokens_from floats (at + 1) 0 bs) (and_then (token_at floats at b bs) (λ t. followed_by t (tokens_from floats (at + 1) (t.end - (at + 1)) bs))) ≡ Ok ts →
    AreSpans line at ts
at_front floats line at b bs ts true is rest place read =
    let f = behind_front line at b bs place in
    let later : AreSpans line (at + 1) ts = subst (λ (n : ℕ). AreSpans line n ts) (omega arith) (rest (at + 1) 0 ts (omega (arith, f.2)) f.0 (omega arith)
    read) in
    AreSpans-wider line at ts (subst (λ (x : ℕ). IsTrue (is_blank x)) f.1 is) later
at_front floats line at b bs ts false is rest place read =
    let f = behind_front line at b bs place in
    at_token floats line at (token_at floats at b bs) (λ t. tokens_from floats (at + 1) (t.end - (at + 1)) bs) ts read
    (λ t others there next.
    let s = token_at-ok floats at b bs (length line) t (omega (arith, f.2)) there in
    let later : AreSpans line t.end others = subst (λ (n : ℕ). AreSpans line n others) (omega (arith, s.1)) (rest (at + 1) (t.end - (at + 1)) others (omega
    (arith, f.2)) f.0 (omega (arith, s.2, f.2)) next) in
    (omega (arith, s.0), (λ i from below. absurd (omega (arith, s.0))), omega (arith, s.0, s.1), s.2, later))

placed : (floats : Bool) → (line bs : List ℕ) → Placed floats line bs
unfolding tokens_from
placed floats line [] at inside ts within place fits read =
    let same : [] ≡ ts = cc in
    let len = ap length place in
    let all = length-drop at line in
    subst (AreSpans line (at + inside)) same (λ i from below. absurd (omega arith))
placed floats line (b ∷ bs) at (suc inside) ts within place fits read =
    let f = behind_front line at b bs place in
    subst (λ (n : ℕ). AreSpans line n ts) (omega arith) (placed floats line bs (at + 1) inside ts (omega (arith, f.2)) f.0 (omega arith) read)
placed floats line (b ∷ bs) at zero ts within place fits read =
    subst (λ (n : ℕ). AreSpans line n ts) (omega arith) (at_front floats line at b bs ts (is_blank b) refl (placed floats line bs) place read)

pub tokens-placed : (floats : Bool) → (line : List ℕ) (ts : List Token) → tokens_of floats line ≡ Ok ts → AreSpans line 0 ts
tokens-placed floats line ts read = placed floats line line 0 0 ts (omega arith) refl (omega arith) read

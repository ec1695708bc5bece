-- Each token of a line is the longest at its place, and at a byte that begins none nothing is a token.
use Rattle.std.proofs.Common.{◌≡◌, ℕ, zero, suc, ◌+◌, ◌-◌, ◌<◌, ◌≤◌, ◌==◌, ◌&&◌, ◌||◌, Bool, true, false, not, cond, List, [], ◌∷◌, length, take, drop, Option, Some, None}
use Rattle.std.proofs.Common.{Result, Ok, Err, refl, sym, ap, subst, ◌∙◌, arith}
use Rattle.std.specs.Prelude.{slice_range}
use Rattle.std.specs.List.{prefix_len, position, AllByRecursion}
use Rattle.std.specs.Char.{is_ascii_digit}
use Rattle.read_lexer.specs.declared.fault.LexError.{LexError}
use Rattle.read_lexer.specs.declared.fault.LexError.TheVariants.{BadByte, UnclosedString, Memory}
use Rattle.read_lexer.specs.declared.parts.Class.{Class}
use Rattle.read_lexer.specs.declared.parts.Class.TheVariants.{Word, Register, Percent, Node, Kind, Symbol, Integer, Float, Text, Single}
use Rattle.read_lexer.specs.declared.parts.Token.{Token}
use Rattle.read_lexer.specs.Bytes.{is_blank, is_word_start, is_word_byte, is_symbol_byte, is_quote, is_single, word_len, fraction_len}
use Rattle.read_lexer.specs.Front.{token, marked, quoted, closed, symbol_at, hexadecimal_len, decimal_at, integer_at, minus_at, token_at}
use Rattle.read_lexer.specs.Line.{followed_by, and_then, tokens_from, tokens_of}
use Rattle.read_lexer.specs.Spelling.{spells, NoneReaches, IsLongest, BeginsNothing}
use Rattle.read_lexer.proofs.Spans.{token_at-ok}
use Rattle.read_lexer.proofs.Placed.{behind_front}
use Rattle.read_lexer.proofs.Spelled.{Spelled, token_at-spelled}
use Rattle.read_lexer.proofs.Reaches.{end_of, reaches}

-- ---- a byte that begins no token is the one that was looked at

abbrev BadHere : ℕ → Result Token LexError → Type 0
BadHere at read = (k : ℕ) → read ≡ Err (BadByte k) → k ≡ at

module _ (floats : Bool) (at : ℕ) where
  choice : (b : Bool) (x y : Result Token LexError) → BadHere at x → BadHere at y → BadHere at (cond b x y)
  choice true x y p q = p
  choice false x y p q = q

  token-here : (class : Class) (len : ℕ) → BadHere at (token class at len)
  token-here class len = λ k e. absurd cc

  bad-here : BadHere at (Err (BadByte at))
  bad-here = λ k e. cc

  marked-here : (class : Class) (run : ℕ) → BadHere at (marked class at run)
  marked-here class run = choice (run == 0) (Err (BadByte at)) (token class at (1 + run)) bad-here (token-here class (1 + run))

  closed-here : (class : Class) (open_at : ℕ) (found : Option ℕ) → BadHere at (closed class at open_at found)
  closed-here class open_at (Some len) = λ k e. absurd cc
  closed-here class open_at None = λ k e. absurd cc

  symbol-here : (after : List ℕ) → BadHere at (symbol_at at after)
  symbol-here [] = bad-here
  symbol-here (b ∷ bs) = choice (b == 34) (quoted Symbol at (at + 1) 34 bs) (marked Symbol at (prefix_len is_symbol_byte (b ∷ bs))) (closed-here Symbol (at +
      1) (position (λ b. b == 34) bs)) (marked-here Symbol (prefix_len is_symbol_byte (b ∷ bs)))

  decimal-here : (len : ℕ) (behind : List ℕ) → BadHere at (decimal_at floats at len behind)
  decimal-here len behind =
      choice (floats && not (fraction_len behind == 0)) (token Float at (len + fraction_len behind)) (token Integer at len) (token-here Float _)
      (token-here Integer len)

  integer-here : (first : ℕ) (after : List ℕ) → BadHere at (integer_at floats at first after)
  integer-here first after =
      let run = prefix_len is_ascii_digit after in
      choice (hexadecimal_len first after == 0) (decimal_at floats at (1 + run) (drop run after)) (token Integer at (2 + hexadecimal_len first after))
      (decimal-here (1 + run) (drop run after)) (token-here Integer _)

  minus-here : (after : List ℕ) → BadHere at (minus_at floats at after)
  minus-here after =
      let run = prefix_len is_ascii_digit after in
      choice (run == 0) (token (Single 45) at 1) (decimal_at floats at (1 + run) (drop run after)) (token-here (Single 45) 1)
      (decimal-here (1 + run) (drop run after))

  token_at-here : (first : ℕ) (after : List ℕ) → BadHere at (token_at floats at first after)
  unfolding token_at
  token_at-here first after =
      choice (is_word_start first) (token Word at (1 + prefix_len is_word_byte after)) _ (token-here Word _)
      (choice (is_ascii_digit first) _ _ (integer-here first after)
      (choice (first == 45) _ _ (minus-here after)
      (choice (first == 36) _ _ (marked-here Register (prefix_len is_word_byte after))
      (choice (first == 37) _ _ (marked-here Percent (prefix_len is_word_byte after))
      (choice (first == 33) _ _ (choice _ (marked Kind at (word_len after)) (marked Node at (prefix_len is_ascii_digit after)) (marked-here Kind (word_len
      after)) (marked-here Node (prefix_len is_ascii_digit after)))
      (choice (first == 64 || first == 38) _ _ (symbol-here after)
      (choice (is_quote first) _ _ (closed-here Text at (position (λ b. b == first) after))
      (choice (is_single first) (token (Single first) at 1) (Err (BadByte at)) (token-here (Single first) 1) bad-here))))))))

-- ---- the token at a place

not_true : (b : Bool) → (b ≡ true → ⊥) → b ≡ false
not_true true no_way = absurd (no_way refl)
not_true false no_way = refl

module _ (floats : Bool) (line : List ℕ) (at b : ℕ) (bs : List ℕ) (place : b ∷ bs ≡ drop at line) where
  range_is : (end : ℕ) → at < end → slice_range line at end ≡ b ∷ take (end - (at + 1)) bs
  range_is end more = let count : end - at ≡ suc (end - (at + 1)) = omega arith in ap (take (end - at)) (sym place) ∙ ap (λ (n : ℕ). take n (b ∷ bs)) count

  -- nothing that begins here is longer than what is read
  none_past : (last : ℕ) → at ≤ last → end_of at (token_at floats at b bs) ≤ last → NoneReaches floats line at last
  none_past last from read class end more within =
      let f = behind_front line at b bs place in
      not_true (spells floats class (slice_range line at end)) (λ is.
      let range = range_is end (omega arith) in
      let far = reaches floats class at b bs (end - (at + 1)) (omega (arith, f.2)) (subst (λ (text : List ℕ). spells floats class text ≡ true) range is) in
      omega arith)

-- what holds of the token at a place, or of the fault there
abbrev TokenHolds : (floats : Bool) → List ℕ → Result Token LexError → Type 0
TokenHolds floats line (Ok t) = IsLongest floats line t
TokenHolds floats line (Err (BadByte k)) = BeginsNothing floats line k
TokenHolds floats line (Err (UnclosedString k)) = Unit {0}
TokenHolds floats line (Err Memory) = Unit {0}

token_holds : (floats : Bool) → (line : List ℕ) (at b : ℕ) (bs : List ℕ) → b ∷ bs ≡ drop at line → (read : Result Token LexError) → token_at floats at b bs ≡ read → TokenHolds floats line read
token_holds floats line at b bs place (Ok t) is =
    let f = behind_front line at b bs place in
    let s = token_at-ok floats at b bs (length line) t (omega (arith, f.2)) is in
    let past = none_past floats line at b bs place t.end (omega (arith, s.1)) (let e = ap (end_of at) is in omega arith) in
    let text : spells floats t.class (b ∷ take (t.end - (at + 1)) bs) ≡ true = subst (Spelled floats at b bs) is (token_at-spelled floats at b bs) in
    let spelled : spells floats t.class (slice_range line at t.end) ≡ true = ap (spells floats t.class) (range_is floats line at b bs place t.end s.1) ∙ text in
    record {
      spelled = subst (λ (n : ℕ). spells floats t.class (slice_range line n t.end) ≡ true) (sym s.0) spelled;
      longest =
          subst (λ (n : ℕ). NoneReaches floats line n t.end) (sym s.0) past;
    }
token_holds floats line at b bs place (Err (BadByte k)) is =
    let f = behind_front line at b bs place in
    let here = token_at-here floats at b bs k is in
    subst (BeginsNothing floats line) (sym here) (record {
      within = omega (arith, f.2);
      nothing = none_past floats line at b bs place at (omega arith) (let e =
          ap (end_of at) is in omega arith);
    })
token_holds floats line at b bs place (Err (UnclosedString k)) is = tt
token_holds floats line at b bs place (Err Memory) is = tt

-- ---- the tokens of a line

abbrev Holds : (floats : Bool) → List ℕ → Result (List Token) LexError → Type 0
Holds floats line (Ok ts) = AllByRecursion (IsLongest floats line) ts
Holds floats line (Err (BadByte k)) = BeginsNothing floats line k
Holds floats line (Err (UnclosedString k)) = Unit {0}
Holds floats line (Err Memory) = Unit {0}

module _ (floats : Bool) (line : List ℕ) where
  followed_by-holds : (t : Token) (read : Result (List Token) LexError) → IsLongest floats line t → Holds floats line read → Holds floats line (followed_by t read)
  followed_by-holds t (Ok ts) here later = (here, later)
  followed_by-holds t (Err (BadByte k)) here later = later
  followed_by-holds t (Err (UnclosedString k)) here later = later
  followed_by-holds t (Err Memory) here later = later

  and_then-holds : (there : Result Token LexError) (next : Token → Result (List Token) LexError) → TokenHolds floats line there → ((t : Token) →
      Holds floats line (next t)) → Holds floats line (and_then there (λ t. followed_by t (next t)))
  and_then-holds (Ok t) next here later = followed_by-holds t (next t) here (later t)
  and_then-holds (Err (BadByte k)) next here later = here
  and_then-holds (Err (UnclosedString k)) next here later = here
  and_then-holds (Err Memory) next here later = here

  either : (b : Bool) (x y : Result (List Token) LexError) → Holds floats line x → Holds floats line y → Holds floats line (cond b x y)
  either true x y p q = p
  either false x y p q = q

  from_place : (bs : List ℕ) (at inside : ℕ) → bs ≡ drop at line → Holds floats line (tokens_from floats at inside bs)
  unfolding tokens_from
  from_place [] at inside place = tt
  from_place (b ∷ bs) at (suc inside) place = let f = behind_front line at b bs place in from_place bs (at + 1) inside f.0
  from_place (b ∷ bs) at zero place =
      let f = behind_front line at b bs place in
      either (is_blank b) (tokens_from floats (at + 1) 0 bs) _ (from_place bs (at + 1) 0 f.0)
      (and_then-holds (token_at floats at b bs) (λ t. tokens_from floats (at + 1) (t.end - (at + 1)) bs) (token_holds floats line at b bs place _ refl) (λ t. from_place bs (at + 1)
      (t.end - (at + 1)) f.0))

pub tokens-hold : (floats : Bool) → (line : List ℕ) → Holds floats line (tokens_of floats line)
tokens-hold floats line = from_place floats line line 0 0 refl

pub tokens-longest : (floats : Bool) → (line : List ℕ) (ts : List Token) → tokens_of floats line ≡ Ok ts → AllByRecursion (IsLongest floats line) ts
tokens-longest floats line ts is = subst (Holds floats line) is (tokens-hold floats line)

pub tokens-bad : (floats : Bool) → (line : List ℕ) (at : ℕ) → tokens_of floats line ≡ Err (BadByte at) → BeginsNothing floats line at
tokens-bad floats line at is = subst (Holds floats line) is (tokens-hold floats line)

-- Where reading says that a quote isn't closed, it opens a text that nothing closes.
use Rattle.std.proofs.Common.{◌≡◌, ℕ, zero, suc, ◌+◌, ◌-◌, ◌<◌, ◌==◌, ◌&&◌, ◌||◌, Bool, true, false, not, cond, ltb, List, [], ◌∷◌, length, get_or, drop, Some, None}
use Rattle.std.proofs.Common.{Result, Ok, Err, IsTrue, refl, sym, ap, subst, ◌∙◌, arith}
use Rattle.std.specs.List.{prefix_len, position_or_len}
use Rattle.std.specs.Char.{is_ascii_digit}
use Rattle.std.proofs.lemmas.Bool.{ltb-false, eqb-true, eq-eqb}
use Rattle.std.proofs.lemmas.List.{get_or-drop, length-drop}
use Rattle.std.proofs.lemmas.List.Sums.{prefix_len_passes}
use Rattle.read_lexer.specs.declared.fault.LexError.{LexError}
use Rattle.read_lexer.specs.declared.fault.LexError.TheVariants.{BadByte, UnclosedString}
use Rattle.read_lexer.specs.declared.parts.Class.{Class}
use Rattle.read_lexer.specs.declared.parts.Class.TheVariants.{Word, Register, Percent, Node, Kind, Symbol, Integer, Float, Text, Single}
use Rattle.read_lexer.specs.declared.parts.Token.{Token}
use Rattle.read_lexer.specs.Bytes.{is_blank, is_word_start, is_word_byte, is_symbol_byte, is_quote, is_single, word_len, fraction_len}
use Rattle.read_lexer.specs.Front.{token, marked, quoted, closed, metadata_at, symbol_at, hexadecimal_len, decimal_at, integer_at, minus_at, token_at}
use Rattle.read_lexer.specs.Line.{followed_by, and_then, tokens_from, tokens_of, IsUnclosed}
use Rattle.read_lexer.proofs.Placed.{behind_front}

-- where reading ends at a quote, the quote isn't closed
abbrev Alone : {A : Type 0} → List ℕ → Result A LexError → Type 0
Alone {A} line read = (at : ℕ) → read ≡ Err (UnclosedString at) → IsUnclosed line at

by_test : (P : Result Token LexError → Type 0) (b : Bool) (x y : Result Token LexError) → (b ≡ true → P x) → (b ≡ false → P y) → P (cond b x y)
by_test P true x y p q = p refl
by_test P false x y p q = q refl

module _ (floats : Bool) (line : List ℕ) where
  choice : (b : Bool) (x y : Result Token LexError) → Alone line x → Alone line y → Alone line (cond b x y)
  choice b x y p q = by_test (Alone line) b x y (λ _. p) (λ _. q)

  token-alone : (class : Class) (at len : ℕ) → Alone line (token class at len)
  token-alone class at len = λ k e. absurd cc

  bad-alone : (at : ℕ) → Alone {A = Token} line (Err (BadByte at))
  bad-alone at = λ k e. absurd cc

  marked-alone : (class : Class) (at run : ℕ) → Alone line (marked class at run)
  marked-alone class at run = choice (run == 0) (Err (BadByte at)) (token class at (1 + run)) (bad-alone at) (token-alone class at (1 + run))

  -- a quote that is closed is none, and one that isn't stands at `open_at`
  closed-alone : (class : Class) (at open_at len : ℕ) (found : Bool) → (found ≡ false → IsUnclosed line open_at) →
      Alone line (closed class at open_at (cond found (Some len) None))
  closed-alone class at open_at len true lone = λ k e. absurd cc
  closed-alone class at open_at len false lone = λ k e. let same : open_at ≡ k = cc in subst (IsUnclosed line) same (lone refl)

  quoted-alone : (class : Class) (at open_at quote : ℕ) (after : List ℕ) → open_at < length line → IsTrue (is_quote quote) → get_or line open_at 0 ≡ quote →
      after ≡ drop (open_at + 1) line → Alone line (quoted class at open_at quote after)
  quoted-alone class at open_at quote after within is here place =
      let p = λ (b : ℕ). b == quote in
      let len = ap length place in
      let all = length-drop (open_at + 1) line in
      closed-alone class at open_at (position_or_len p after) (ltb (position_or_len p after) (length after)) (λ none.
      let far = ltb-false (position_or_len p after) (length after) none in
      record {
        within = within;
        quote = subst (λ (x : ℕ). IsTrue (is_quote x)) (sym here) is;
        alone = λ i behind below same.
            let passes = prefix_len_passes (λ b. not (b == quote)) after (i - (open_at + 1)) 0 (omega arith) in
            let moved : get_or after (i - (open_at + 1)) 0 ≡ get_or line i 0 = ap (λ (x : List ℕ). get_or x (i - (open_at + 1)) 0) place ∙
            get_or-drop (open_at + 1) line (i - (open_at + 1)) 0 ∙ ap (λ (n : ℕ). get_or line n 0) (omega arith) in
            let equal : (get_or after (i - (open_at + 1)) 0 == quote) ≡ true = eq-eqb _ _ (moved ∙ same ∙ here) in
            let f : not true ≡ true = ap not (sym equal) ∙ passes in
            cc;
      })

  metadata-alone : (at : ℕ) (after : List ℕ) → Alone line (metadata_at at after)
  metadata-alone at after = choice _ (marked Kind at (word_len after)) (marked Node at (prefix_len is_ascii_digit after)) (marked-alone Kind at (word_len
      after)) (marked-alone Node at (prefix_len is_ascii_digit after))

  symbol-alone : (at : ℕ) (after : List ℕ) → after ≡ drop (at + 1) line → Alone line (symbol_at at after)
  symbol-alone at [] place = bad-alone at
  symbol-alone at (b ∷ bs) place =
      let f = behind_front line (at + 1) b bs place in
      by_test (Alone line) (b == 34) (quoted Symbol at (at + 1) 34 bs) (marked Symbol at (prefix_len is_symbol_byte (b ∷ bs)))
      (λ is. quoted-alone Symbol at (at + 1) 34 bs (omega (arith, f.2)) refl (sym f.1 ∙ eqb-true b 34 is) f.0)
      (λ _. marked-alone Symbol at (prefix_len is_symbol_byte (b ∷ bs)))

  decimal-alone : (at len : ℕ) (behind : List ℕ) → Alone line (decimal_at floats at len behind)
  decimal-alone at len behind =
      choice (floats && not (fraction_len behind == 0)) (token Float at (len + fraction_len behind)) (token Integer at len) (token-alone Float at _)
      (token-alone Integer at len)

  integer-alone : (at first : ℕ) (after : List ℕ) → Alone line (integer_at floats at first after)
  integer-alone at first after =
      let run = prefix_len is_ascii_digit after in
      choice (hexadecimal_len first after == 0) (decimal_at floats at (1 + run) (drop run after)) (token Integer at (2 + hexadecimal_len first after))
      (decimal-alone at (1 + run) (drop run after)) (token-alone Integer at _)

  minus-alone : (at : ℕ) (after : List ℕ) → Alone line (minus_at floats at after)
  minus-alone at after =
      let run = prefix_len is_ascii_digit after in
      choice (run == 0) (token (Single 45) at 1) (decimal_at floats at (1 + run) (drop run after)) (token-alone (Single 45) at 1)
      (decimal-alone at (1 + run) (drop run after))

  token_at-alone : (at first : ℕ) (after : List ℕ) → first ∷ after ≡ drop at line → Alone line (token_at floats at first after)
  unfolding token_at
  token_at-alone at first after place =
      let f = behind_front line at first after place in
      choice (is_word_start first) (token Word at (1 + prefix_len is_word_byte after)) _ (token-alone Word at _)
      (choice (is_ascii_digit first) _ _ (integer-alone at first after)
      (choice (first == 45) _ _ (minus-alone at after)
      (choice (first == 36) _ _ (marked-alone Register at (prefix_len is_word_byte after))
      (choice (first == 37) _ _ (marked-alone Percent at (prefix_len is_word_byte after))
      (choice (first == 33) _ _ (metadata-alone at after)
      (choice (first == 64 || first == 38) _ _ (symbol-alone at after f.0)
      (by_test (Alone line) (is_quote first) (quoted Text at at first after) (cond (is_single first) (token (Single first) at 1) (Err (BadByte at)))
      (λ is. quoted-alone Text at at first after (omega (arith, f.2)) is (sym f.1) f.0)
      (λ _. choice (is_single first) (token (Single first) at 1) (Err (BadByte at)) (token-alone (Single first) at 1) (bad-alone at)))))))))

  followed_by-alone : (t : Token) (read : Result (List Token) LexError) → Alone line read → Alone line (followed_by t read)
  followed_by-alone t (Ok ts) alone = λ k e. absurd cc
  followed_by-alone t (Err x) alone = alone

  and_then-alone : (there : Result Token LexError) (next : Token → Result (List Token) LexError) → Alone line there → ((t : Token) → Alone line (next t)) →
      Alone line (and_then there next)
  and_then-alone (Ok t) next alone others = others t
  and_then-alone (Err x) next alone others = λ k e. alone k cc

  choice_of_many : (b : Bool) (x y : Result (List Token) LexError) → Alone line x → Alone line y → Alone line (cond b x y)
  choice_of_many true x y p q = p
  choice_of_many false x y p q = q

  from_place : (bs : List ℕ) (at inside : ℕ) → bs ≡ drop at line → Alone line (tokens_from floats at inside bs)
  unfolding tokens_from
  from_place [] at inside place = λ k e. absurd cc
  from_place (b ∷ bs) at (suc inside) place = let f = behind_front line at b bs place in from_place bs (at + 1) inside f.0
  from_place (b ∷ bs) at zero place =
      let f = behind_front line at b bs place in
      choice_of_many (is_blank b) (tokens_from floats (at + 1) 0 bs) _ (from_place bs (at + 1) 0 f.0)
      (and_then-alone (token_at floats at b bs) (λ t. followed_by t (tokens_from floats (at + 1) (t.end - (at + 1)) bs)) (token_at-alone at b bs place)
      (λ t. followed_by-alone t (tokens_from floats (at + 1) (t.end - (at + 1)) bs) (from_place bs (at + 1) (t.end - (at + 1)) f.0)))

pub tokens-alone : (floats : Bool) → (line : List ℕ) (at : ℕ) → tokens_of floats line ≡ Err (UnclosedString at) → IsUnclosed line at
tokens-alone floats line at e = from_place floats line line 0 0 refl at e

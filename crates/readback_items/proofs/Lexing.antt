-- Pieces of a line, each the text of a token behind spaces: the line's tokens are theirs.
-- Plan: a piece says how the lexer reads it where it stands before what follows. So the tokens come one after the other, and the text of each is its
-- piece's.
use Rattle.std.proofs.Common.{◌≡◌, ℕ, zero, suc, ◌+◌, ◌-◌, Bool, false, cond, List, [], ◌∷◌, ◌++◌, length, take, drop, map, replicate, Result, Ok}
use Rattle.std.proofs.Common.{refl, sym, ap, ◌∙◌, arith, append_assoc}
use Rattle.std.specs.List.{slice_range}
use Rattle.std.proofs.lemmas.List.{length-append}
use Rattle.read_lexer.specs.declared.fault.LexError.{LexError}
use Rattle.read_lexer.specs.declared.parts.Class.{Class}
use Rattle.read_lexer.specs.declared.parts.Token.{Token}
use Rattle.read_lexer.specs.Bytes.{is_blank}
use Rattle.read_lexer.specs.Front.{token_at}
use Rattle.read_lexer.specs.Line.{followed_by, and_then, tokens_from, tokens_of}
use Rattle.read_metadata.specs.Token.{text_of}
use Rattle.read_token.specs.declared.lexeme.Lexeme.{Lexeme}
use Rattle.read_token.specs.Sentence.{lexeme_by, lexeme_of, lexemes_of}

pub record Piece : Type 0 where
  pub blanks : ℕ
  pub class : Class
  pub text : List ℕ

-- the text of pieces
abbrev pub spelled : List Piece → List ℕ
spelled [] = []
spelled (p ∷ ps) = replicate p.blanks 32 ++ (p.text ++ spelled ps)

-- a text is a token of a class where this follows
pub record Reads (class : Class) (text rest : List ℕ) : Type 0 where
  pub first : ℕ
  pub bytes : List ℕ
  pub parts : text ≡ first ∷ bytes
  pub visible : is_blank first ≡ false
  pub token : (at : ℕ) → token_at false at first (bytes ++ rest) ≡ Ok (record { class = class; start = at; end = at + (1 + length bytes) })

-- so are those of all pieces
abbrev pub AllRead : List Piece → Type 0
AllRead [] = Unit {0}
AllRead (p ∷ ps) = Reads p.class p.text (spelled ps) × AllRead ps

-- what lexemes of a line stand for pieces
abbrev pub Lexed : (line : List ℕ) → List Piece → List Lexeme → Type 0
Lexed line [] ls = ls ≡ []
Lexed line (p ∷ ps) ls = (t : Token) × (rest : List Lexeme) × (text_of line t ≡ p.text) × (ls ≡ lexeme_by p.class t p.text ∷ rest) × Lexed line ps rest

-- ---- spans

pub taken : {X : Type 0} (xs ys : List X) → take (length xs) (xs ++ ys) ≡ xs
taken [] [] = refl
taken [] (y ∷ ys) = refl
taken (x ∷ xs) ys = ap (λ zs. x ∷ zs) (taken xs ys)

pub dropped : {X : Type 0} (xs ys : List X) → drop (length xs) (xs ++ ys) ≡ ys
dropped [] [] = refl
dropped [] (y ∷ ys) = refl
dropped (x ∷ xs) ys = dropped xs ys

slice_is : (front text rest : List ℕ) → slice_range (front ++ (text ++ rest)) (length front) (length front + length text) ≡ text
slice_is front text rest =
    let size : length front + length text - length front ≡ length text = omega arith in
    ap (λ (n : ℕ). take n (drop (length front) (front ++ (text ++ rest)))) size
    ∙ ap (take (length text)) (dropped front (text ++ rest)) ∙ taken text rest

-- ---- tokens

pub skips : (at : ℕ) (bytes rest : List ℕ) → tokens_from false at (length bytes) (bytes ++ rest) ≡ tokens_from false (at + length bytes) 0 rest
unfolding tokens_from
skips at [] rest = ap (λ (n : ℕ). tokens_from false n 0 rest) (let e : at ≡ at + 0 = omega arith in e)
skips at (b ∷ bytes) rest = skips (at + 1) bytes rest ∙ ap (λ (n : ℕ). tokens_from false n 0 rest) (let e : at + 1 + length bytes ≡ at + suc
    (length bytes) = omega arith in e)

pub behind_blanks : (at n : ℕ) (rest : List ℕ) → tokens_from false at 0 (replicate n 32 ++ rest) ≡ tokens_from false (at + n) 0 rest
unfolding tokens_from
behind_blanks at zero rest = ap (λ (n : ℕ). tokens_from false n 0 rest) (let e : at ≡ at + 0 = omega arith in e)
behind_blanks at (suc n) rest = behind_blanks (at + 1) n rest ∙ ap (λ (m : ℕ). tokens_from false m 0 rest) (let e : at + 1 + n ≡ at + suc n = omega arith in e)

pub one_token : (at first : ℕ) (bytes rest : List ℕ) (t : Token) → is_blank first ≡ false → token_at false at first (bytes ++ rest) ≡ Ok t →
    t.end ≡ at + (1 + length bytes) → tokens_from false at 0 (first ∷ (bytes ++ rest)) ≡ followed_by t (tokens_from false (at + (1 + length bytes)) 0 rest)
unfolding tokens_from
one_token at first bytes rest t visible is end =
    ap (λ (b : Bool). cond b (tokens_from false (at + 1) 0 (bytes ++ rest))
    (and_then (token_at false at first (bytes ++ rest)) (λ x. followed_by x (tokens_from false (at + 1) (x.end - (at + 1)) (bytes ++ rest))))) visible
    ∙ (ap (λ (r : Result Token LexError). and_then r (λ x. followed_by x (tokens_from false (at + 1) (x.end - (at + 1)) (bytes ++ rest)))) is
    ∙ (ap (λ (n : ℕ). followed_by t (tokens_from false (at + 1) n (bytes ++ rest))) (let e : t.end - (at + 1) ≡ length bytes = omega (arith, end) in e)
    ∙ ap (followed_by t) (skips (at + 1) bytes rest ∙ ap (λ (n : ℕ). tokens_from false n 0 rest) (let e : at + 1 + length bytes ≡ at +
    (1 + length bytes) = omega arith in e))))

-- the tokens of pieces behind what stands before them
record TokensAre (line : List ℕ) (at : ℕ) (ps : List Piece) : Type 0 where
  tokens : List Token
  are : tokens_from false at 0 (spelled ps) ≡ Ok tokens
  lexed : Lexed line ps (map (lexeme_of line) tokens)

more_tokens : (line : List ℕ) (t : Token) (ts : List Token) (p : Piece) (ps : List Piece) → t.class ≡ p.class → text_of line t ≡ p.text →
    Lexed line ps (map (lexeme_of line) ts) → Lexed line (p ∷ ps) (map (lexeme_of line) (t ∷ ts))
unfolding lexeme_of
more_tokens line t ts p ps class text more = (
  t,
  map (lexeme_of line) ts,
  text,
  (λ i. lexeme_by (class i) t (text i) ∷ map (lexeme_of line) ts),
  more,
)

pieces_read : (line front : List ℕ) (ps : List Piece) → line ≡ front ++ spelled ps → AllRead ps → TokensAre line (length front) ps
unfolding tokens_from
pieces_read line front [] is all = record { tokens = []; are = refl; lexed = refl }
pieces_read line front (p ∷ ps) is (here, all) =
    let before : List ℕ = front ++ replicate p.blanks 32 in
    let at = length before in
    let text : length p.text ≡ 1 + length here.bytes = (let e : length p.text ≡ suc (length here.bytes) = ap length here.parts in omega (arith, e)) in
    let t : Token = record { class = p.class; start = at; end = at + (1 + length here.bytes) } in
    let whole : line ≡ before ++ (p.text ++ spelled ps) = is ∙ sym (append_assoc front (replicate p.blanks 32) (p.text ++ spelled ps)) in
    let rest = pieces_read line (before ++ p.text) ps (whole ∙ sym (append_assoc before p.text (spelled ps))) all in
    let places : length front + p.blanks ≡ at = omega (arith, length-append front (replicate p.blanks 32), blanks p.blanks) in
    let next : length (before ++ p.text) ≡ at + (1 + length here.bytes) = omega (arith, length-append before p.text, text) in
    let ends : at + (1 + length here.bytes) ≡ at + length p.text = omega (arith, text) in
    record {
      tokens = t ∷ rest.tokens;
      are = behind_blanks (length front) p.blanks (p.text ++ spelled ps)
          ∙ (ap (λ (n : ℕ). tokens_from false n 0 (p.text ++ spelled ps)) places
          ∙ (ap (λ (x : List ℕ). tokens_from false at 0 (x ++ spelled ps)) here.parts
          ∙ (one_token at here.first here.bytes (spelled ps) t here.visible (here.token at) refl
          ∙ (ap (λ (n : ℕ). followed_by t (tokens_from false n 0 (spelled ps))) (sym next) ∙ ap (followed_by t) rest.are))));
      lexed = more_tokens line t rest.tokens p ps refl
          (ap (λ (x : List ℕ). slice_range x at (at + (1 + length here.bytes))) whole
          ∙ (ap (slice_range (before ++ (p.text ++ spelled ps)) at) ends ∙ slice_is before p.text (spelled ps)))
          rest.lexed;
    }
  where
    blanks : (n : ℕ) → length (let xs : List ℕ = replicate n 32 in xs) ≡ n
    blanks zero = refl
    blanks (suc n) = ap (λ (m : ℕ). suc m) (blanks n)

-- a line of pieces
pub record IsLexed (ps : List Piece) : Type 0 where
  pub tokens : List Token
  pub are : tokens_of false (spelled ps) ≡ Ok tokens
  pub lexed : Lexed (spelled ps) ps (lexemes_of (spelled ps) tokens)

pub pieces_lexed : (ps : List Piece) → AllRead ps → IsLexed ps
pieces_lexed ps all = let is = pieces_read (spelled ps) [] ps refl all in record { tokens = is.tokens; are = is.are; lexed = is.lexed }

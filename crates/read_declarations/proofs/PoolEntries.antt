-- The lines of a constant pool, and the digits of its values.
use Rattle.std.proofs.Common.{◌≡◌, ℕ, ◌+◌, ◌-◌, ◌*◌, ◌<◌, ◌≤◌, Bool, true, false, cond, List, [], ◌∷◌, length, get_or, take, drop, Option}
use Rattle.std.proofs.Common.{Some, None, Ok, refl, sym, ap, ◌∙◌, arith}
use Rattle.std.specs.Prelude.{nat_le}
use Rattle.std.specs.Char.{digit_value}
use Rattle.std.proofs.lemmas.Bool.{lt-leb, le-leb, leb-true, leb-false}
use Rattle.std.proofs.lemmas.List.{drop_more, drop_all, length-drop}
use Rattle.std.proofs.Math.Seq.{take-length}
use Rattle.read_lexer.specs.declared.line.Line.{Line}
use Rattle.read_metadata.specs.Number.{value_behind}
use Rattle.read_metadata.proofs.Numbers.{grows}
use Rattle.read_documents.specs.declared.parts.FunctionDocument.{FunctionDocument}
use Rattle.read_refusal.specs.declared.first.Refusal.{Refusal}
use Rattle.read_declarations.specs.declared.constants.PoolRead.{PoolRead}
use Rattle.read_declarations.specs.declared.declarations.Declarations.{Declarations}
use Rattle.read_declarations.specs.Constants.{within, behind_line, pool_behind, constants_in, pool_of}
use Rattle.read_declarations.specs.Declarations.{refusal_of, declared_of, checked, declarations_of}
use Rattle.read_declarations.specs.Fixed.{fixed_of}
use Rattle.read_declarations.specs.Stack.{stack_of}
use Rattle.mir_substitution.specs.mir_func.Limits.{MAX_SLOTS}

-- ---- digits

pub within_none : (most n : ℕ) → most < n → within most n ≡ None
within_none most n over = ap (λ (b : Bool). cond b (Some n) None) (lt-leb n most over)

pub within_some : (most n : ℕ) → n ≤ most → within most n ≡ Some n
within_some most n small = ap (λ (b : Bool). cond b (Some n) None) (le-leb n most small)

-- what is within the limit
pub within_is : (most n m : ℕ) → Some m ≡ within most n → (m ≡ n) × (n ≤ most)
within_is most n m is = by (nat_le n most) refl is where
  by : (b : Bool) → nat_le n most ≡ b → Some m ≡ cond b (Some n) None → (m ≡ n) × (n ≤ most)
  by true small e = (cc, leb-true n most small)
  by false large e = absurd cc

within_not : (most n : ℕ) → None ≡ within most n → most < n
within_not most n is = by (nat_le n most) refl is where
  by : (b : Bool) → nat_le n most ≡ b → None ≡ cond b (Some n) None → most < n
  by true small e = absurd cc
  by false large e = leb-false n most large

-- one more digit
pub digit_more : (most n d m : ℕ) (ds : List ℕ) (i : ℕ) → i < length ds → d ≡ digit_value (get_or ds i 0) → Some m ≡ within most (n * 10 + d) →
    value_behind 10 n (drop i ds) ≡ value_behind 10 0 ds → (value_behind 10 m (drop (i + 1) ds) ≡ value_behind 10 0 ds) × (m ≤ most)
digit_more most n d m ds i lt digit is read =
    let found = within_is most (n * 10 + d) m is in
    let next : m ≡ n * 10 + digit_value (get_or ds i 0) = found.0 ∙ ap (λ (x : ℕ). n * 10 + x) digit in (
      ap (λ (x : ℕ). value_behind 10 x (drop (i + 1) ds)) next ∙ ap (value_behind 10 n) (sym (drop_more ds i 0 lt)) ∙ read,
      omega (arith, found.0, found.1),
    )

-- a number that is above the limit already
pub digits_above : (most n d : ℕ) (ds : List ℕ) (i : ℕ) → i < length ds → d ≡ digit_value (get_or ds i 0) → None ≡ within most (n * 10 + d) →
    value_behind 10 n (drop i ds) ≡ value_behind 10 0 ds → None ≡ within most (value_behind 10 0 ds)
digits_above most n d ds i lt digit is read =
    let step : value_behind 10 (n * 10 + digit_value (get_or ds i 0)) (drop (i + 1) ds) ≡ value_behind 10 0 ds =
    ap (value_behind 10 n) (sym (drop_more ds i 0 lt)) ∙ read in
    let more = grows 10 (n * 10 + digit_value (get_or ds i 0)) (drop (i + 1) ds) (omega arith) in
    let large = within_not most (n * 10 + d) is in
    let over : most < value_behind 10 0 ds = omega (arith, step, more, digit, large) in
    sym (within_none most (value_behind 10 0 ds) over)

-- all digits are read
pub digits_within : (most n : ℕ) (ds : List ℕ) (i : ℕ) → length ds ≤ i → n ≤ most → value_behind 10 n (drop i ds) ≡ value_behind 10 0 ds →
    Some n ≡ within most (value_behind 10 0 ds)
digits_within most n ds i all small read =
    let same : n ≡ value_behind 10 0 ds = ap (value_behind 10 n) (sym (drop_all i ds all)) ∙ read in
    sym (within_some most n small) ∙ ap (within most) same

-- ---- lines

pub line_more : (lines : List Line) (i : ℕ) (l : Line) (left : List Line) (read next whole : PoolRead) → i < length lines → l ≡ get_or lines i l →
    left ≡ drop i lines → pool_behind read (drop i lines) ≡ whole → next ≡ behind_line read l left → pool_behind next (drop (i + 1) lines) ≡ whole
unfolding pool_behind
line_more lines i l left read next whole lt is here so_far made =
    let parts : drop i lines ≡ l ∷ drop (i + 1) lines = drop_more lines i l lt ∙ ap (λ (x : Line). x ∷ drop (i + 1) lines) (sym is) in
    ap (λ (r : PoolRead). pool_behind r (drop (i + 1) lines)) (made ∙ ap (behind_line read l) (here ∙ parts)) ∙ ap (pool_behind read) (sym parts) ∙ so_far

pub lines_all : (lines : List Line) (i : ℕ) (read whole : PoolRead) → length lines ≤ i → pool_behind read (drop i lines) ≡ whole → read ≡ whole
unfolding pool_behind
lines_all lines i read whole all so_far = ap (pool_behind read) (sym (drop_all i lines all)) ∙ so_far

pub no_constants : (lines : List Line) → length lines < 1 → constants_in lines ≡ record { constants = []; refused = None }
no_constants [] less = refl
no_constants (l ∷ ls) less = absurd (omega (arith, less))

-- a list, by the first of its elements and the others
pub first_and_rest : {X : Type 0} (xs : List X) (x : X) → 1 ≤ length xs → x ≡ get_or xs 0 x → x ∷ take (length xs - 1) (drop 1 xs) ≡ xs
first_and_rest {X} xs x some is =
    ap (λ (n : ℕ). x ∷ take n (drop 1 xs)) (sym (length-drop 1 xs)) ∙ ap (λ (t : List X). x ∷ t) (take-length (drop 1 xs))
    ∙ ap (λ (y : X). y ∷ drop 1 xs) is ∙ sym (drop_more xs 0 x (omega (arith, some)))

-- ---- the language

-- a function that isn't of the linked language has no constants
pub plain_pool : (doc : FunctionDocument) (d : Declarations) → declarations_of doc ≡ Ok d → doc.linked ≡ false → d.pool ≡ []
plain_pool doc d read plain = by (refusal_of doc) read where
  by : (refused : Option Refusal) → checked refused (declared_of doc) ≡ Ok d → d.pool ≡ []
  by (Some r) e = absurd cc
  by None e =
      let same : declared_of doc ≡ d = cc in
      ap (λ (x : Declarations). x.pool) (sym same) ∙ ap (λ (b : Bool). (pool_of b doc.constants).constants) plain

-- nor fixed objects
pub plain_fixed : (doc : FunctionDocument) (d : Declarations) → declarations_of doc ≡ Ok d → doc.linked ≡ false → d.fixed ≡ []
plain_fixed doc d read plain = by (refusal_of doc) read where
  by : (refused : Option Refusal) → checked refused (declared_of doc) ≡ Ok d → d.fixed ≡ []
  by (Some r) e = absurd cc
  by None e =
      let same : declared_of doc ≡ d = cc in
      ap (λ (x : Declarations). x.fixed) (sym same)
      ∙ ap (λ (b : Bool). (fixed_of b (MAX_SLOTS - length (stack_of doc.stack).entries) doc.fixed).entries) plain

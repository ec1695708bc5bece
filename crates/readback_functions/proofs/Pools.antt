-- The lines of constants are read as these constants.
use Rattle.std.proofs.Common.{◌≡◌, ℕ, suc, ◌+◌, ◌-◌, ◌/◌, ◌%◌, ◌^◌, ◌<◌, ◌≤◌, Bool, true, false, cond, not, ◌&&◌, ◌||◌, eqb, List, [], ◌∷◌, ◌++◌, length}
use Rattle.std.proofs.Common.{take, drop, All, Option, Some, None, refl, sym, ap, subst, ◌∙◌, arith, append_assoc, append-nil}
use Rattle.std.specs.Prelude.{codes, nat_lt, option_map}
use Rattle.std.specs.List.{flat_map, list_all, prefix_len}
use Rattle.std.specs.Char.{is_ascii_digit}
use Rattle.std.specs.Fmt.{decimal}
use Rattle.std.proofs.Math.Seq.{take-length}
use Rattle.std.proofs.lemmas.Bool.{and_parts, and_from, not-true, eq-eqb, eqb-true, ne_eqb, false≢true, lt-ltb, le-leb}
use Rattle.std.proofs.lemmas.Fmt.{decimal_digit, decimal_step_wide}
use Rattle.std.proofs.lemmas.List.{drop_all, map-append}
use Rattle.std.proofs.lemmas.List.Concat.{flat_map-append}
use Rattle.std.proofs.lemmas.List.Elements.{All-head, All-tail}
use Rattle.base_ids.specs.Limits.{MAX_NUMBER}
use Rattle.mir_pool.specs.declared.constant.IntegerType.{IntegerType}
use Rattle.mir_pool.specs.declared.constant.IntegerType.TheVariants.{Bits8, Bits16, Bits32, Bits64, Bits128}
use Rattle.mir_pool.specs.declared.constant.PoolConstant.{PoolConstant}
use Rattle.mir_pool.specs.Pool.{bits_of, constant_ids}
use Rattle.mir_func_printer.specs.FuncText.{constant_text, pool_text}
use Rattle.read_lexer.specs.declared.line.Line.{Line}
use Rattle.read_metadata.specs.Number.{value_behind, within_limit, spelled}
use Rattle.read_declarations.specs.declared.constants.PoolRead.{PoolRead}
use Rattle.read_declarations.specs.Stack as stack
use Rattle.read_declarations.specs.Constants.{is_space, behind_spaces, is_quote, is_no_quote, is_closed, behind_quotes, before_quote, unquoted}
use Rattle.read_declarations.specs.Constants.{within, number_up_to, negated, integer_in, of_type, typed_value, is_alignment, alignment_of, id_of, constant_with}
use Rattle.read_declarations.specs.Constants.{entry_constant, if_new, constant_of, lines_before, first_entry, with_constant, pool_behind}
use Rattle.read_declarations.proofs.PoolEntries.{within_some}
use Rattle.read_body.specs.FirstUseOrder.{is_met}
use Rattle.readback_items.proofs.Numbers.{Decimal, decimal_wide, no_digit, prefix_all}
use Rattle.readback_functions.specs.Document.{lines_from, fed, text_of_lines}
use Rattle.readback_functions.specs.Pools.{constant_lines, pool_lines, IsConstant, PoolsReadBack}
use Rattle.readback_functions.proofs.Apart.{Once, once_if_apart, met_between}

-- ---- values behind keys

-- text behind one space
spaced : (t : List ℕ) → prefix_len is_space t ≡ 0 → behind_spaces (32 ∷ t) ≡ t
spaced t none = ap (λ (n : ℕ). drop (1 + n) (32 ∷ t)) none

-- text without quotes is left as it is
no_quote : (t : List ℕ) → list_all is_no_quote t ≡ true → prefix_len is_quote t ≡ 0
no_quote [] all = refl
no_quote (b ∷ bs) all =
    ap (λ (x : Bool). cond x (1 + prefix_len is_quote bs) 0) (not-true (eqb b 39) (and_parts (is_no_quote b) (list_all is_no_quote bs) all).0)

unquoted_is : (t : List ℕ) → list_all is_no_quote t ≡ true → unquoted t ≡ t
unquoted_is t all =
    ap (λ (u : List ℕ). cond (is_closed u) (before_quote u) t) begins
    ∙ (ap (λ (b : Bool). cond b (before_quote t) t) closed
    ∙ (ap (λ (n : ℕ). take n t) whole ∙ take-length t))
  where
    begins : behind_quotes t ≡ t
    begins = ap (λ (n : ℕ). drop n t) (no_quote t all)

    whole : prefix_len is_no_quote t ≡ length t
    whole = ap (prefix_len is_no_quote) (sym (append-nil t)) ∙ prefix_all is_no_quote t [] all tt

    closed : is_closed t ≡ true
    closed = ap (λ (n : ℕ). list_all is_quote (drop n t)) whole ∙ ap (list_all is_quote) (drop_all (length t) t (omega arith))

value_is : (t : List ℕ) → prefix_len is_space t ≡ 0 → list_all is_no_quote t ≡ true → unquoted (behind_spaces (32 ∷ t)) ≡ t
value_is t none all = ap unquoted (spaced t none) ∙ unquoted_is t all

-- ---- numbers

unquoted_digits : (t : List ℕ) → list_all is_ascii_digit t ≡ true → list_all is_no_quote t ≡ true
unquoted_digits [] all = refl
unquoted_digits (b ∷ bs) all =
    let parts = and_parts (is_ascii_digit b) (list_all is_ascii_digit bs) all in
    and_from (is_no_quote b) (list_all is_no_quote bs) (ap not (no_digit b 39 parts.0 refl)) (unquoted_digits bs parts.1)

record IsNumber (n : ℕ) : Type 0 where
  some : nat_lt 0 (length (decimal n)) ≡ true
  digits : list_all is_ascii_digit (decimal n) ≡ true
  unspaced : prefix_len is_space (decimal n) ≡ 0
  plain : list_all is_no_quote (decimal n) ≡ true

number_is : (n : ℕ) → Decimal n → IsNumber n
number_is n is =
    let all : list_all is_ascii_digit (decimal n) ≡ true =
    ap (list_all is_ascii_digit) is.parts ∙ and_from (is_ascii_digit is.first) (list_all is_ascii_digit is.rest) is.digit is.digits in
    record {
      some = ap (λ (t : List ℕ). nat_lt 0 (length t)) is.parts ∙ lt-ltb 0 (suc (length is.rest)) (omega arith);
      digits = all;
      unspaced = ap (prefix_len is_space) is.parts
          ∙ ap (λ (b : Bool). cond b (1 + prefix_len is_space is.rest) 0) (no_digit is.first 32 is.digit refl);
      plain = unquoted_digits (decimal n) all;
    }

both_true : (n : ℕ) → IsNumber n → (nat_lt 0 (length (decimal n)) && list_all is_ascii_digit (decimal n)) ≡ true
both_true n is = and_from (nat_lt 0 (length (decimal n))) (list_all is_ascii_digit (decimal n)) is.some is.digits

spelled_is : (n : ℕ) → n ≤ MAX_NUMBER → Decimal n → spelled 10 (decimal n) ≡ Some n
unfolding spelled
spelled_is n small is = ap within_limit is.value ∙ ap (λ (b : Bool). cond b (Some n) None) (le-leb n MAX_NUMBER small)

id_is : (n : ℕ) → n ≤ MAX_NUMBER → Decimal n → id_of (decimal n) ≡ Some n
id_is n small is = ap (λ (b : Bool). cond b (spelled 10 (decimal n)) None) (both_true n (number_is n is)) ∙ spelled_is n small is

-- ---- values

wide : (t : IntegerType) (v : ℕ) → v < 2 ^ bits_of t → v < 10 ^ 64
wide Bits8 v fits = omega (arith, fits)
wide Bits16 v fits = omega (arith, fits)
wide Bits32 v fits = omega (arith, fits)
wide Bits64 v fits = omega (arith, fits)
wide Bits128 v fits = omega (arith, fits)

number_read : (most v : ℕ) → v ≤ most → Decimal v → number_up_to most (decimal v) ≡ Some v
number_read most v small is =
    ap (λ (b : Bool). cond b (within most (value_behind 10 0 (decimal v))) None) (both_true v (number_is v is))
    ∙ (ap (within most) is.value ∙ within_some most v small)

integer_read : (t : IntegerType) (v : ℕ) → v < 2 ^ bits_of t → integer_in t (decimal v) ≡ Some v
integer_read t v fits =
    let is = decimal_wide v (wide t v fits) in
    ap (integer_in t) is.parts
    ∙ (ap (λ (b : Bool). cond b (option_map (negated t) (number_up_to (2 ^ (bits_of t - 1)) is.rest))
    (number_up_to (2 ^ bits_of t - 1) (is.first ∷ is.rest))) (no_digit is.first 45 is.digit refl)
    ∙ (ap (number_up_to (2 ^ bits_of t - 1)) (sym is.parts) ∙ number_read (2 ^ bits_of t - 1) v (omega (arith, fits)) is))

-- ---- types

two_digits : (n : ℕ) → 10 ≤ n → n < 100 → decimal n ≡ (48 + n / 10) ∷ (48 + n % 10) ∷ []
two_digits n some few =
    decimal_step_wide n some (omega (arith, few)) ∙ ap (λ (t : List ℕ). t ++ (48 + n % 10) ∷ []) (decimal_digit (n / 10) (omega (arith, few)))

abbrev bits_text : IntegerType → List ℕ
bits_text Bits8 = codes "8"
bits_text Bits16 = codes "16"
bits_text Bits32 = codes "32"
bits_text Bits64 = codes "64"
bits_text Bits128 = codes "128"

bits_are : (t : IntegerType) → decimal (bits_of t) ≡ bits_text t
bits_are Bits8 = decimal_digit 8 (omega arith)
bits_are Bits16 = two_digits 16 (omega arith) (omega arith)
bits_are Bits32 = two_digits 32 (omega arith) (omega arith)
bits_are Bits64 = two_digits 64 (omega arith) (omega arith)
bits_are Bits128 = decimal_step_wide 128 (omega arith) (omega arith) ∙ ap (λ (t : List ℕ). t ++ codes "8") (two_digits 12 (omega arith) (omega arith))

-- the type in front of a value
behind_bits : (t : IntegerType) (d : List ℕ) → typed_value (codes "i" ++ (bits_text t ++ (codes " " ++ d))) ≡ of_type t (integer_in t d)
behind_bits Bits8 d = refl
behind_bits Bits16 d = refl
behind_bits Bits32 d = refl
behind_bits Bits64 d = refl
behind_bits Bits128 d = refl

behind_type : (t : IntegerType) (d : List ℕ) → typed_value (codes "i" ++ (decimal (bits_of t) ++ (codes " " ++ d))) ≡ of_type t (integer_in t d)
behind_type t d = ap (λ (b : List ℕ). typed_value (codes "i" ++ (b ++ (codes " " ++ d)))) (bits_are t) ∙ behind_bits t d

unquoted_bits : (t : IntegerType) (d : List ℕ) → list_all is_no_quote (codes "i" ++ (bits_text t ++ (codes " " ++ d))) ≡ list_all is_no_quote d
unquoted_bits Bits8 d = refl
unquoted_bits Bits16 d = refl
unquoted_bits Bits32 d = refl
unquoted_bits Bits64 d = refl
unquoted_bits Bits128 d = refl

unquoted_type : (t : IntegerType) (d : List ℕ) → list_all is_no_quote (codes "i" ++ (decimal (bits_of t) ++ (codes " " ++ d))) ≡ list_all is_no_quote d
unquoted_type t d = ap (λ (b : List ℕ). list_all is_no_quote (codes "i" ++ (b ++ (codes " " ++ d)))) (bits_are t) ∙ unquoted_bits t d

-- ---- alignments

alignment_text : (a : ℕ) → stack.is_alignment a ≡ true → (is_alignment (decimal a) ≡ true) × (a ≤ 16)
alignment_text a is = by (eqb a 1) (eqb a 2) (eqb a 4) (eqb a 8) (eqb a 16) refl refl refl refl refl is where
  at : (n : ℕ) → eqb a n ≡ true → (is_alignment (decimal n) ≡ true) × (n ≤ 16) → (is_alignment (decimal a) ≡ true) × (a ≤ 16)
  at n e known = subst (λ (m : ℕ). (is_alignment (decimal m) ≡ true) × (m ≤ 16)) (sym (eqb-true a n e)) known

  by : (p q r s t : Bool) → eqb a 1 ≡ p → eqb a 2 ≡ q → eqb a 4 ≡ r → eqb a 8 ≡ s → eqb a 16 ≡ t → (p || (q || (r || (s || t)))) ≡ true →
      (is_alignment (decimal a) ≡ true) × (a ≤ 16)
  by true q r s t one two four eight sixteen is = at 1 one (ap is_alignment (decimal_digit 1 (omega arith)), omega arith)
  by false true r s t one two four eight sixteen is = at 2 two (ap is_alignment (decimal_digit 2 (omega arith)), omega arith)
  by false false true s t one two four eight sixteen is = at 4 four (ap is_alignment (decimal_digit 4 (omega arith)), omega arith)
  by false false false true t one two four eight sixteen is = at 8 eight (ap is_alignment (decimal_digit 8 (omega arith)), omega arith)
  by false false false false true one two four eight sixteen is =
      at 16 sixteen (ap is_alignment (two_digits 16 (omega arith) (omega arith)), omega arith)
  by false false false false false one two four eight sixteen is = absurd cc

alignment_is : (a : ℕ) → stack.is_alignment a ≡ true → alignment_of (decimal a) ≡ Some a
alignment_is a is =
    let text = alignment_text a is in
    ap (λ (b : Bool). cond b (spelled 10 (decimal a)) None) text.0 ∙ spelled_is a (omega (arith, text.1)) (decimal_wide a (omega (arith, text.1)))

-- ---- a constant

constant_read : (n : ℕ) (c : PoolConstant) → IsConstant c → entry_constant (lines_from n (constant_lines c)) ≡ Some c
constant_read n c is =
    λ i. constant_with (id i) (typed i) (alignment i)
  where
    number : Decimal c.id
    number = decimal_wide c.id (omega (arith, is.id))

    value : Decimal c.value
    value = decimal_wide c.value (wide c.integer c.value is.fits)

    aligned : Decimal c.alignment
    aligned = decimal_wide c.alignment (let text = alignment_text c.alignment is.aligned in omega (arith, text.1))

    id : id_of (unquoted (behind_spaces (32 ∷ decimal c.id))) ≡ Some c.id
    id =
        let a = number_is c.id number in
        ap id_of (value_is (decimal c.id) a.unspaced a.plain) ∙ id_is c.id is.id number

    typed : typed_value (unquoted (behind_spaces (codes " i" ++ (decimal (bits_of c.integer) ++ (codes " " ++ decimal c.value)))))
        ≡ Some (record { integer = c.integer; value = c.value })
    typed =
        ap typed_value (value_is (codes "i" ++ (decimal (bits_of c.integer) ++ (codes " " ++ decimal c.value))) refl
        (unquoted_type c.integer (decimal c.value) ∙ (number_is c.value value).plain))
        ∙ (behind_type c.integer (decimal c.value) ∙ ap (of_type c.integer) (integer_read c.integer c.value is.fits))

    alignment : alignment_of (unquoted (behind_spaces (32 ∷ decimal c.alignment))) ≡ Some c.alignment
    alignment =
        let a = number_is c.alignment aligned in
        ap alignment_of (value_is (decimal c.alignment) a.unspaced a.plain) ∙ alignment_is c.alignment is.aligned

-- ---- constants

-- no line of another entry stands before the first
at_once : (n : ℕ) (cs : List PoolConstant) → lines_before (lines_from n (flat_map constant_lines cs)) ≡ 0
at_once n [] = refl
at_once n (c ∷ cs) = refl

-- no constant has a number of these
abbrev AreFree : List ℕ → List PoolConstant → Type 0
AreFree ns cs = (m : ℕ) → is_met m (constant_ids cs) ≡ true → is_met m ns ≡ false

module _ (n : ℕ) (c : PoolConstant) (cs done : List PoolConstant) (is : IsConstant c) (once : Once (constant_ids (c ∷ cs)))
    (free : AreFree (constant_ids done) (c ∷ cs)) where
  abbrev lines : List Line
  lines = lines_from n (flat_map constant_lines (c ∷ cs))

  first : first_entry lines ≡ lines_from n (constant_lines c)
  first = ap (λ (k : ℕ). take (suc (1 + (1 + k))) lines) (at_once (n + 1 + 1 + 1) cs)

  new : is_met c.id (constant_ids done) ≡ false
  new = free c.id (ap (λ (b : Bool). b || is_met c.id (constant_ids cs)) (eq-eqb c.id c.id refl))

  taken : constant_of (constant_ids done) (first_entry lines) ≡ Some c
  taken = ap (λ (ls : List Line). constant_of (constant_ids done) ls) first
      ∙ (ap (if_new (constant_ids done)) (constant_read n c is) ∙ ap (λ (b : Bool). cond b None (Some c)) new)

  longer : constant_ids (done ++ c ∷ []) ≡ constant_ids done ++ c.id ∷ []
  longer = map-append (λ (x : PoolConstant). x.id) done (c ∷ [])

  free_more : AreFree (constant_ids (done ++ c ∷ [])) cs
  free_more m there =
      let other : eqb m c.id ≡ false =
      ne_eqb m c.id (λ same. false≢true (sym once.0 ∙ (ap (λ (k : ℕ). is_met k (constant_ids cs)) (sym same) ∙ there))) in
      ap (is_met m) longer
      ∙ met_between m c.id (constant_ids done) [] other (ap (is_met m) (append-nil (constant_ids done)) ∙ free m (later (eqb m c.id) there))
    where
      later : (b : Bool) → is_met m (constant_ids cs) ≡ true → (b || is_met m (constant_ids cs)) ≡ true
      later true e = refl
      later false e = e

-- what was read without a refusal
abbrev held : List PoolConstant → PoolRead
held constants = record { constants = constants; refused = None }

walk : (n : ℕ) (done cs : List PoolConstant) → All IsConstant cs → Once (constant_ids cs) → AreFree (constant_ids done) cs →
    pool_behind (held done) (lines_from n (flat_map constant_lines cs)) ≡ held (done ++ cs)
unfolding pool_behind
walk n done [] all once free = ap held (sym (append-nil done))
walk n done (c ∷ cs) all once free =
    let is = All-head IsConstant c cs all in
    let rest = lines_from (n + 1 + 1 + 1) (flat_map constant_lines cs) in
    ap (λ (o : Option PoolConstant). pool_behind (with_constant (held done) n o) rest) (taken n c cs done is once free)
    ∙ (walk (n + 1 + 1 + 1) (done ++ c ∷ []) cs (All-tail IsConstant c cs all) once.1 (free_more n c cs done is once free)
    ∙ ap held (append_assoc done (c ∷ []) cs))

-- ---- the text

regrouped : (a i b k s v g d e : List ℕ) → ((a ++ i) ++ e) ++ (((b ++ (k ++ (s ++ v))) ++ e) ++ (((g ++ d) ++ e) ++ []))
    ≡ (((a ++ i) ++ e) ++ ((((b ++ k) ++ s) ++ v) ++ e)) ++ ((g ++ d) ++ e)
regrouped a i b k s v g d e = simp (append_assoc, append-nil)

constant_fed : (c : PoolConstant) → text_of_lines (constant_lines c) ≡ constant_text c
constant_fed c =
    regrouped (codes "  - id: ") (decimal c.id) (codes "    value: i") (decimal (bits_of c.integer)) (codes " ") (decimal c.value)
    (codes "    alignment: ") (decimal c.alignment) (10 ∷ [])

constants_fed : (cs : List PoolConstant) → text_of_lines (flat_map constant_lines cs) ≡ flat_map constant_text cs
constants_fed [] = refl
constants_fed (c ∷ cs) =
    flat_map-append fed (constant_lines c) (flat_map constant_lines cs) ∙ (λ i. constant_fed c i ++ constants_fed cs i)

pool_fed : (pool : List PoolConstant) → text_of_lines (pool_lines pool) ≡ pool_text pool
pool_fed [] = refl
pool_fed (c ∷ cs) = ap (λ (l : List ℕ). codes "constants:" ++ 10 ∷ [] ++ l) (constants_fed (c ∷ cs))

pub pools_read_back : PoolsReadBack
pools_read_back n [] are = record { printed = refl; reads = refl }
pools_read_back n (c ∷ cs) are = record {
  printed = pool_fed (c ∷ cs);
  reads = walk (n + 1) [] (c ∷ cs) are.each (once_if_apart (constant_ids (c ∷ cs)) are.apart) (λ m e. refl);
}

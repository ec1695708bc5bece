-- Constants that were read are within the limits of reading, and no number occurs twice.
use Rattle.std.proofs.Common.{◌≡◌, ℕ, zero, suc, ◌+◌, ◌-◌, ◌^◌, ◌<◌, ◌≤◌, Bool, true, false, cond, ◌&&◌, ◌||◌, eqb, List, [], ◌∷◌, ◌++◌, length, drop}
use Rattle.std.proofs.Common.{All, Option, Some, None, Result, Ok, Err, refl, sym, ap, subst, ◌∙◌, arith, append-nil}
use Rattle.std.specs.Prelude.{codes, nat_eq, nat_lt, nat_le, option_map}
use Rattle.std.specs.List.{list_all, list_any, starts_with}
use Rattle.std.specs.Char.{is_ascii_digit}
use Rattle.std.specs.Str.{bytes_eq}
use Rattle.std.proofs.lemmas.Bool.{leb-true}
use Rattle.std.proofs.lemmas.List.{map-append}
use Rattle.std.proofs.lemmas.List.Elements.{All-nil, All-cons, All-push, All-weaker}
use Rattle.base_ids.specs.Limits.{MAX_NUMBER}
use Rattle.mir_pool.specs.declared.constant.IntegerType.{IntegerType}
use Rattle.mir_pool.specs.declared.constant.IntegerType.TheVariants.{Bits8, Bits16, Bits32, Bits64, Bits128}
use Rattle.mir_pool.specs.declared.constant.PoolConstant.{PoolConstant}
use Rattle.mir_pool.specs.Pool.{bits_of, constant_ids}
use Rattle.read_lexer.specs.declared.line.Line.{Line}
use Rattle.read_documents.specs.declared.parts.FunctionDocument.{FunctionDocument}
use Rattle.read_documents.specs.Documents.{documents_of}
use Rattle.read_refusal.specs.declared.first.Refusal.{Refusal}
use Rattle.read_metadata.specs.Maps.{Maps}
use Rattle.read_metadata.specs.Metadata.{metadata_of}
use Rattle.read_metadata.specs.Number.{value_behind, within_limit, spelled}
use Rattle.read_declarations.specs.declared.constant_value.TypedValue.{TypedValue}
use Rattle.read_declarations.specs.declared.constants.PoolRead.{PoolRead}
use Rattle.read_declarations.specs.declared.declarations.Declarations.{Declarations}
use Rattle.read_declarations.specs.Declarations.{refusal_of, declared_of, declarations_of}
use Rattle.read_declarations.specs.Stack as stack
use Rattle.read_declarations.specs.Constants.{within, number_up_to, negated, integer_in, of_type, typed_or, typed_value, is_alignment, alignment_of, id_of}
use Rattle.read_declarations.specs.Constants.{value_in, is_formed, constant_with, entry_constant, if_new, opens, first_entry, with_constant, behind_line}
use Rattle.read_declarations.specs.Constants.{pool_behind, stray, is_no_pool, constants_in, pool_of}
use Rattle.read_declarations.proofs.PoolEntries.{within_is}
use Rattle.read_body.specs.declared.body.Body.{Body}
use Rattle.read_body.specs.FirstUseOrder.{is_met}
use Rattle.read_program.specs.declared.closing.Parsed.{Parsed}
use Rattle.read_program.specs.declared.error.ParseError.{ParseError}
use Rattle.read_program.specs.BodyLines.{body_of}
use Rattle.read_program.specs.Closing.{ParsesParts, Parses}
use Rattle.read_program.specs.Program.{FunctionsFrom}
use Rattle.readback_functions.specs.Pools.{IsConstant, AreConstants, PoolsAreKnown}
use Rattle.readback_functions.proofs.Apart.{Once, apart_if_once, once_between}
use Rattle.readback_functions.proofs.NameFunctions.{WasRead, functions_read, program_is, checked_is}
use Rattle.readback_functions.proofs.Scans.{same_if}

-- ---- values

number_most : (most : ℕ) (ds : List ℕ) (n : ℕ) → number_up_to most ds ≡ Some n → n ≤ most
number_most most ds n e = by (nat_lt 0 (length ds) && list_all is_ascii_digit ds) e where
  by : (b : Bool) → cond b (within most (value_behind 10 0 ds)) None ≡ Some n → n ≤ most
  by true e = let found = within_is most (value_behind 10 0 ds) n (sym e) in omega (arith, found.0, found.1)
  by false e = absurd cc

some : (t : IntegerType) → 0 < 2 ^ bits_of t
some Bits8 = omega arith
some Bits16 = omega arith
some Bits32 = omega arith
some Bits64 = omega arith
some Bits128 = omega arith

negated_fits : (t : IntegerType) (n : ℕ) → negated t n < 2 ^ bits_of t
negated_fits t zero = some t
negated_fits t (suc n) = by (eqb (suc n) 0) where
  by : (b : Bool) → cond b 0 (2 ^ bits_of t - suc n) < 2 ^ bits_of t
  by true = some t
  by false = let positive = some t in omega (arith, positive)

integer_fits : (t : IntegerType) (text : List ℕ) (n : ℕ) → integer_in t text ≡ Some n → n < 2 ^ bits_of t
integer_fits t [] n e = absurd cc
integer_fits t (a ∷ bs) n e = by (eqb a 45) e where
  below : (o : Option ℕ) → option_map (negated t) o ≡ Some n → n < 2 ^ bits_of t
  below None e = absurd cc
  below (Some k) e = let same : negated t k ≡ n = cc in subst (λ (m : ℕ). m < 2 ^ bits_of t) same (negated_fits t k)

  by : (b : Bool) → cond b (option_map (negated t) (number_up_to (2 ^ (bits_of t - 1)) bs)) (number_up_to (2 ^ bits_of t - 1) (a ∷ bs)) ≡ Some n →
      n < 2 ^ bits_of t
  by true e = below (number_up_to (2 ^ (bits_of t - 1)) bs) e
  by false e =
      let small = number_most (2 ^ bits_of t - 1) (a ∷ bs) n e in
      let positive = some t in
      omega (arith, small, positive)

abbrev Fits : TypedValue → Type 0
Fits v = v.value < 2 ^ bits_of v.integer

typed_fits : (name : List ℕ) (t : IntegerType) (text : List ℕ) (other : Option TypedValue) (v : TypedValue) →
    ((w : TypedValue) → other ≡ Some w → Fits w) → typed_or name t text other ≡ Some v → Fits v
typed_fits name t text other v others e = by (starts_with nat_eq text name) e where
  held : (o : Option ℕ) → ((n : ℕ) → o ≡ Some n → n < 2 ^ bits_of t) → of_type t o ≡ Some v → Fits v
  held None each e = absurd cc
  held (Some n) each e =
      let same : ◌≡◌ {A = TypedValue} (record { integer = t; value = n }) v = cc in
      subst Fits same (each n refl)

  by : (b : Bool) → cond b (of_type t (integer_in t (drop (length name) text))) other ≡ Some v → Fits v
  by true e = held (integer_in t (drop (length name) text)) (integer_fits t (drop (length name) text)) e
  by false e = others v e

value_fits : (text : List ℕ) (v : TypedValue) → typed_value text ≡ Some v → Fits v
value_fits text v e = bits8 v e where
  t128 : Option TypedValue
  t128 = typed_or (codes "i128 ") Bits128 text None

  t64 : Option TypedValue
  t64 = typed_or (codes "i64 ") Bits64 text t128

  t32 : Option TypedValue
  t32 = typed_or (codes "i32 ") Bits32 text t64

  t16 : Option TypedValue
  t16 = typed_or (codes "i16 ") Bits16 text t32

  bits128 : (w : TypedValue) → t128 ≡ Some w → Fits w
  bits128 w = typed_fits (codes "i128 ") Bits128 text None w (λ x no. absurd cc)

  bits64 : (w : TypedValue) → t64 ≡ Some w → Fits w
  bits64 w = typed_fits (codes "i64 ") Bits64 text t128 w bits128

  bits32 : (w : TypedValue) → t32 ≡ Some w → Fits w
  bits32 w = typed_fits (codes "i32 ") Bits32 text t64 w bits64

  bits16 : (w : TypedValue) → t16 ≡ Some w → Fits w
  bits16 w = typed_fits (codes "i16 ") Bits16 text t32 w bits32

  bits8 : (w : TypedValue) → typed_or (codes "i8 ") Bits8 text t16 ≡ Some w → Fits w
  bits8 w = typed_fits (codes "i8 ") Bits8 text t16 w bits16

-- ---- numbers

limited : (v n : ℕ) → within_limit v ≡ Some n → n ≤ MAX_NUMBER
limited v n e = by (nat_le v MAX_NUMBER) refl e where
  by : (b : Bool) → nat_le v MAX_NUMBER ≡ b → cond b (Some v) None ≡ Some n → n ≤ MAX_NUMBER
  by true small e = let same : v ≡ n = cc in subst (λ (m : ℕ). m ≤ MAX_NUMBER) same (leb-true v MAX_NUMBER small)
  by false large e = absurd cc

id_small : (text : List ℕ) (n : ℕ) → id_of text ≡ Some n → n ≤ MAX_NUMBER
unfolding spelled
id_small text n e = by (nat_lt 0 (length text) && list_all is_ascii_digit text) e where
  by : (b : Bool) → cond b (within_limit (value_behind 10 0 text)) None ≡ Some n → n ≤ MAX_NUMBER
  by true e = limited (value_behind 10 0 text) n e
  by false e = absurd cc

alignment_known : (text : List ℕ) (n : ℕ) → alignment_of text ≡ Some n → stack.is_alignment n ≡ true
unfolding spelled
alignment_known text n e =
    by (bytes_eq text (codes "1")) (bytes_eq text (codes "2")) (bytes_eq text (codes "4")) (bytes_eq text (codes "8")) (bytes_eq text (codes "16"))
    refl refl refl refl refl e
  where
    at : (digits : List ℕ) (m : ℕ) → bytes_eq text digits ≡ true → within_limit (value_behind 10 0 digits) ≡ Some m →
        stack.is_alignment m ≡ true → within_limit (value_behind 10 0 text) ≡ Some n → stack.is_alignment n ≡ true
    at digits m is value known e =
        let both : Some m ≡ Some n = sym value ∙ (ap (λ (t : List ℕ). within_limit (value_behind 10 0 t)) (sym (same_if text digits is)) ∙ e) in
        let same : m ≡ n = cc in
        subst (λ (k : ℕ). stack.is_alignment k ≡ true) same known

    by : (p q r s t : Bool) → bytes_eq text (codes "1") ≡ p → bytes_eq text (codes "2") ≡ q → bytes_eq text (codes "4") ≡ r →
        bytes_eq text (codes "8") ≡ s → bytes_eq text (codes "16") ≡ t →
        cond (p || (q || (r || (s || t)))) (within_limit (value_behind 10 0 text)) None ≡ Some n → stack.is_alignment n ≡ true
    by true q r s t one two four eight sixteen e = at (codes "1") 1 one refl refl e
    by false true r s t one two four eight sixteen e = at (codes "2") 2 two refl refl e
    by false false true s t one two four eight sixteen e = at (codes "4") 4 four refl refl e
    by false false false true t one two four eight sixteen e = at (codes "8") 8 eight refl refl e
    by false false false false true one two four eight sixteen e = at (codes "16") 16 sixteen refl refl e
    by false false false false false one two four eight sixteen e = absurd cc

-- ---- an entry

constant_known : (id : Option ℕ) (typed : Option TypedValue) (alignment : Option ℕ) (c : PoolConstant) → ((n : ℕ) → id ≡ Some n → n ≤ MAX_NUMBER) →
    ((v : TypedValue) → typed ≡ Some v → Fits v) → ((n : ℕ) → alignment ≡ Some n → stack.is_alignment n ≡ true) →
    constant_with id typed alignment ≡ Some c → IsConstant c
constant_known None typed alignment c ids values alignments e = absurd cc
constant_known (Some n) None alignment c ids values alignments e = absurd cc
constant_known (Some n) (Some v) None c ids values alignments e = absurd cc
constant_known (Some n) (Some v) (Some a) c ids values alignments e =
    let same : ◌≡◌ {A = PoolConstant} (record { id = n; integer = v.integer; value = v.value; alignment = a }) c = cc in
    subst IsConstant same (record { id = ids n refl; fits = values v refl; aligned = alignments a refl })

entry_known : (lines : List Line) (c : PoolConstant) → entry_constant lines ≡ Some c → IsConstant c
entry_known lines c e = by (is_formed lines) e where
  id : List ℕ
  id = value_in (codes "id") lines

  value : List ℕ
  value = value_in (codes "value") lines

  alignment : List ℕ
  alignment = value_in (codes "alignment") lines

  by : (b : Bool) → cond b (constant_with (id_of id) (typed_value value) (alignment_of alignment)) None ≡ Some c → IsConstant c
  by true e = constant_known (id_of id) (typed_value value) (alignment_of alignment) c (id_small id) (value_fits value) (alignment_known alignment) e
  by false e = absurd cc

-- ---- entries

record Known (constants : List PoolConstant) : Type 0 where
  each : All IsConstant constants
  once : Once (constant_ids constants)

once_more : (ns : List ℕ) (n : ℕ) → is_met n ns ≡ false → Once ns → Once (ns ++ n ∷ [])
once_more ns n new once = once_between n ns [] (ap (is_met n) (append-nil ns) ∙ new) (subst Once (sym (append-nil ns)) once)

more_known : (read : PoolRead) (line : ℕ) (o : Option PoolConstant) → ((c : PoolConstant) → o ≡ Some c → IsConstant c) → Known read.constants →
    Known (with_constant read line (if_new (constant_ids read.constants) o)).constants
more_known read line None is known = known
more_known read line (Some c) is known = by (list_any (nat_eq c.id) (constant_ids read.constants)) refl where
  by : (b : Bool) → list_any (nat_eq c.id) (constant_ids read.constants) ≡ b → Known (with_constant read line (cond b None (Some c))).constants
  by true old = known
  by false new = record {
    each = All-push IsConstant read.constants c known.each (is c refl);
    once = subst Once (sym (map-append (λ (x : PoolConstant). x.id) read.constants (c ∷ []))) (once_more (constant_ids read.constants) c.id new known.once);
  }

line_known : (read : PoolRead) (l : Line) (left : List Line) → Known read.constants → Known (behind_line read l left).constants
line_known read l left known = by (opens l.text) where
  by : (b : Bool) → Known (cond b (with_constant read l.number (if_new (constant_ids read.constants) (entry_constant (first_entry left)))) read).constants
  by true = more_known read l.number (entry_constant (first_entry left)) (entry_known (first_entry left)) known
  by false = known

entries_known : (read : PoolRead) (lines : List Line) → Known read.constants → Known (pool_behind read lines).constants
unfolding pool_behind
entries_known read [] known = known
entries_known read (l ∷ ls) known = entries_known (behind_line read l (l ∷ ls)) ls (line_known read l (l ∷ ls) known)

none_known : Known []
none_known = record { each = All-nil IsConstant; once = tt }

lines_known : (lines : List Line) → Known (constants_in lines).constants
lines_known [] = none_known
lines_known (key ∷ lines) = by (is_no_pool key.text) where
  by : (b : Bool) → Known (cond b (record { constants = []; refused = None }) (pool_behind (record { constants = []; refused = stray lines }) lines)).constants
  by true = none_known
  by false = entries_known (record { constants = []; refused = stray lines }) lines none_known

pool_known : (linked : Bool) (lines : List Line) → Known (pool_of linked lines).constants
pool_known true lines = lines_known lines
pool_known false lines = none_known

-- ---- programs

parts_known : (doc : FunctionDocument) (q : Parsed) (d : Result Declarations Refusal) (body : Result Body Refusal) → declarations_of doc ≡ d →
    ParsesParts doc.linked doc.closed d body (Ok q) → Known q.pool
parts_known doc q (Ok d) (Ok body) declared closes =
    let same = checked_is (refusal_of doc) (declared_of doc) d declared in
    subst Known (ap (λ (x : Declarations). x.pool) same ∙ sym closes.5) (pool_known doc.linked doc.constants)
parts_known doc q (Ok d) (Err s) declared refused = absurd refused
parts_known doc q (Err r) (Ok body) declared refused = absurd refused
parts_known doc q (Err r) (Err s) declared refused = absurd refused

abbrev AnyDocument : FunctionDocument → Type 0
AnyDocument doc = Unit {0}

any : (docs : List FunctionDocument) → All AnyDocument docs
any [] = All-nil AnyDocument
any (d ∷ docs) = All-cons AnyDocument d docs tt (any docs)

pub pools_are_known : PoolsAreKnown
pools_are_known linked text p reads =
    let docs = documents_of linked text in
    let meta = metadata_of docs.meta in
    let is = program_is meta docs.bad reads.0 p reads.2 in
    let all = functions_read AnyDocument meta docs.functions [] p.functions (any docs.functions)
    (subst (λ (r : Result (List Parsed) ParseError). FunctionsFrom meta [] docs.functions r) is.read reads.1)
    (omega arith, All-nil (WasRead AnyDocument meta)) in
    All-weaker (WasRead AnyDocument meta) (λ (q : Parsed). AreConstants q.pool)
    (λ q was. constants_are meta was.doc q was.parses) p.functions all.1
  where
    constants_are : (meta : Maps) (doc : FunctionDocument) (q : Parsed) → Parses meta doc (Ok q) → AreConstants q.pool
    constants_are meta doc q parses =
        let known = parts_known doc q (declarations_of doc) (body_of doc.linked meta doc.body) refl parses in
        record { each = known.each; apart = apart_if_once (constant_ids q.pool) known.once }

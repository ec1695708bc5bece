-- The stack entries that a document declares: few, apart, with sizes within the limit and alignments that are some.
use Rattle.std.proofs.Common.{◌≡◌, ℕ, zero, suc, ◌+◌, ◌-◌, ◌≤◌, ℤ, Bool, true, false, cond, not, ◌&&◌, ◌||◌, eqb, leb, List, [], ◌∷◌, map, length, All}
use Rattle.std.proofs.Common.{Option, Some}
use Rattle.std.proofs.Common.{◌++◌, None}
use Rattle.std.proofs.Common.{Result, Ok, Err, refl, sym, ap, subst, ◌∙◌, arith}
use Rattle.std.specs.Prelude.{codes, is_none, unsigned_abs, IfSome}
use Rattle.std.specs.List.{slice_get, list_any}
use Rattle.std.proofs.lemmas.Bool.{or_left, or_right, or_parts, not-false, leb-false, eq-eqb, false≢true}
use Rattle.std.proofs.lemmas.List.{map-append, length-append, length-map}
use Rattle.std.proofs.lemmas.List.Elements.{All-nil, All-push, All-head, All-tail, All-map, All-weaker}
use Rattle.read_refusal.specs.declared.first.Refusal.{Refusal}
use Rattle.read_refusal.specs.declared.kind.RefusalKind.{RefusalKind}
use Rattle.read_refusal.specs.declared.kind.RefusalKind.TheVariants.{StackObject, TooMany}
use Rattle.read_refusal.specs.First.{comes_before, earlier}
use Rattle.read_metadata.specs.Number.{spelled}
use Rattle.read_metadata.specs.Token.{is_integer}
use Rattle.read_documents.specs.declared.parts.FunctionDocument.{FunctionDocument}
use Rattle.mir_func.specs.Objects.{local_count}
use Rattle.mir_func.specs.Sound.{AreApart, IsLocalOffset}
use Rattle.mir_func.specs.Limits.{MAX_SLOTS}
use Rattle.base_ids.specs.Limits.{MAX_NUMBER, FIXED}
use Rattle.read_lexer.specs.declared.line.Line.{Line}
use Rattle.read_body.specs.read_declarations.declared.declarations.Declarations.{Declarations}
use Rattle.read_body.specs.read_declarations.declared.entry.MappingEntry.{MappingEntry}
use Rattle.read_body.specs.read_declarations.declared.entry.MappingField.{MappingField}
use Rattle.read_body.specs.read_declarations.declared.fixed.FixedEntry.{FixedEntry}
use Rattle.read_body.specs.read_declarations.declared.fixed.FixedRead.{FixedRead}
use Rattle.read_body.specs.read_declarations.declared.stack.StackEntry.{StackEntry}
use Rattle.read_body.specs.read_declarations.declared.stack.StackRead.{StackRead}
use Rattle.read_body.specs.read_declarations.declared.stream.YamlToken.{YamlToken}
use Rattle.read_body.specs.read_declarations.Declarations.{fixed_in, refusal_of, declared_of, checked, declarations_of}
use Rattle.read_body.specs.read_declarations.Field.{value_at, needed, given, positive, negated_of, negated_in, negated, is_variable_sized}
use Rattle.read_body.specs.read_declarations.Fixed.{minus, signed, integer_in, fixed_with, fixed_entry_of, fixed_ids, fixed_judged, fixed_behind, fixed_of}
use Rattle.read_body.specs.read_declarations.List.{list_of}
use Rattle.read_body.specs.read_declarations.Name.{name_of}
use Rattle.read_body.specs.read_declarations.Stack.{is_alignment, entry_with, unsized, stack_entry_of, has_id, clash_in, clash, refusal_at, judged}
use Rattle.read_body.specs.read_declarations.Stack.{entry_offsets, without_offset, shared, stack_behind, stack_read, stack_of}
use Rattle.read_body.specs.read_declarations.Stream.{text_at}
use Rattle.read_body.specs.read_declarations.Substitutions.{substitutions_of}
use Rattle.read_body.specs.read_declarations.Constants.{pool_of}
use Rattle.read_body.specs.FirstUseOrder.{is_met, met}
use Rattle.read_body.specs.FixedObjects.{IsFixedEntry}
use Rattle.read_program.specs.Closing.{ids_behind, entry_ids}
use Rattle.read_body.proofs.read_declarations.Limits.{IsLow, spelled_low, needed_low, negated_low}
use Rattle.read_program.proofs.Lists.{apart_push}

pub record IsReadEntry (e : StackEntry) : Type 0 where
  pub id : e.id ≤ MAX_NUMBER
  pub size : e.size ≤ MAX_NUMBER
  pub aligned : is_alignment e.align ≡ true
  pub local : IsLocalOffset e.local_offset

pub record IsReadStack (es : List StackEntry) : Type 0 where
  pub few : length es ≤ MAX_SLOTS
  pub each : All IsReadEntry es
  pub apart : AreApart (map (λ e. e.id) es)
  pub several : local_count (entry_offsets es) ≡ 1 → ⊥

-- the same before the local offset of an entry alone is dropped
record AreJudged (es : List StackEntry) : Type 0 where
  few : length es ≤ MAX_SLOTS
  each : All IsReadEntry es
  apart : AreApart (map (λ e. e.id) es)

-- ---- numbers

positive_local : (o : Option ℕ) → IsLow o → IsLocalOffset (positive o)
positive_local None small = tt
positive_local (Some zero) small = tt
positive_local (Some (suc n)) small = (omega arith, small)

negated_local : (text : List ℕ) → IsLocalOffset (negated_of text)
negated_local [] = tt
negated_local (a ∷ bs) = by (eqb a 45) where
  by : (b : Bool) → IsLocalOffset (cond b (positive (spelled 10 bs)) None)
  by true = positive_local (spelled 10 bs) (spelled_low 10 bs)
  by false = tt

local_read : (lines : List Line) (o : Option YamlToken) → IsLocalOffset (negated_in lines o)
local_read lines None = tt
local_read lines (Some value) = by (is_integer value.token) where
  by : (b : Bool) → IsLocalOffset (cond b (negated_of (text_at lines value)) None)
  by true = negated_local (text_at lines value)
  by false = tt

-- ---- entries

sized_reads : (b : Bool) (id size align : ℕ) (local : Option ℕ) (e : StackEntry) → id ≤ MAX_NUMBER → size ≤ MAX_NUMBER → IsLocalOffset local →
    (variable : Bool) →
    (variable || not (is_alignment align)) ≡ b →
    ◌≡◌ {A = Result StackEntry RefusalKind} (cond b (Err StackObject) (Ok (record { id = id; size = size; align = align; local_offset = local }))) (Ok e) →
    IsReadEntry e
sized_reads true id size align local e low small is_local variable is made = absurd cc
sized_reads false id size align local e low small is_local variable is made =
    let same : record { id = id; size = size; align = align; local_offset = local } ≡ e = cc in
    subst IsReadEntry same (record {
      id = low;
      size = small;
      aligned = not-false (is_alignment align) (or_parts variable (not (is_alignment align)) is).1;
      local = is_local;
    })

with_reads : (variable : Bool) (id size align local : Option ℕ) (e : StackEntry) → IsLow id → IsLow size → IsLocalOffset local →
    entry_with variable id size align local ≡ Ok e → IsReadEntry e
with_reads variable (Some id) (Some size) (Some align) local e low small is_local made =
    sized_reads (variable || not (is_alignment align)) id size align local e low small is_local variable refl made
with_reads variable (Some id) (Some size) None local e low small is_local made = absurd cc
with_reads variable (Some id) None align local e low small is_local made = absurd cc
with_reads variable None size align local e low small is_local made = absurd cc

unsized_none : (id : Option ℕ) (e : StackEntry) → unsized id ≡ Ok e → ⊥
unsized_none (Some id) e made = cc
unsized_none None e made = cc

entry_reads_by : (b : Bool) (lines : List Line) (fields : List MappingField) (e : StackEntry) →
    cond b (unsized (needed lines (codes "id") fields)) (entry_with (is_variable_sized lines fields) (needed lines (codes "id") fields)
    (needed lines (codes "size") fields) (given lines (codes "alignment") 1 fields) (negated lines (codes "local-offset") fields)) ≡ Ok e → IsReadEntry e
entry_reads_by true lines fields e made = absurd (unsized_none (needed lines (codes "id") fields) e made)
entry_reads_by false lines fields e made =
    with_reads (is_variable_sized lines fields) (needed lines (codes "id") fields) (needed lines (codes "size") fields) (given lines
    (codes "alignment") 1 fields) (negated lines (codes "local-offset") fields) e
    (needed_low lines (codes "id") fields) (needed_low lines (codes "size") fields) (local_read lines (value_at lines (codes "local-offset") fields)) made

entry_reads : (lines : List Line) (fields : List MappingField) (e : StackEntry) → stack_entry_of lines fields ≡ Ok e → IsReadEntry e
entry_reads lines fields e made = entry_reads_by (is_variable_sized lines fields && is_none (value_at lines (codes "size") fields)) lines fields e made

-- ---- refusals

chosen_some : (b : Bool) (x y : Refusal) → cond b (Some x) (Some y) ≡ None → ⊥
chosen_some true x y e = cc
chosen_some false x y e = cc

pub earlier_none : (a b : Option Refusal) → earlier a b ≡ None → (a ≡ None) × (b ≡ None)
earlier_none None b e = (refl, e)
earlier_none (Some x) None e = absurd cc
earlier_none (Some x) (Some y) e = absurd (chosen_some (comes_before y x) y x e)

refusal_none : (line : ℕ) (c : Option RefusalKind) → refusal_at line c ≡ None → c ≡ None
refusal_none line None e = refl
refusal_none line (Some kind) e = absurd cc

clash_none : (a b : Bool) → cond a (Some StackObject) (cond b (Some TooMany) None) ≡ None → (a ≡ false) × (b ≡ false)
clash_none true b e = absurd cc
clash_none false true e = absurd cc
clash_none false false e = (refl, refl)

-- ---- stacks

id_at : (es : List StackEntry) (i n : ℕ) → slice_get (map (λ e. e.id) es) i ≡ Some n → has_id es n ≡ true
id_at [] i n e = absurd cc
id_at (x ∷ es) zero n e = let same : n ≡ x.id = cc in or_left (eqb n x.id) (has_id es n) (eq-eqb n x.id same)
id_at (x ∷ es) (suc i) n e = or_right (eqb n x.id) (has_id es n) (id_at es i n e)

one_more : (read : StackRead) (line : ℕ) (r : Result StackEntry RefusalKind) → ((e : StackEntry) → r ≡ Ok e → IsReadEntry e) → AreJudged read.entries →
    (judged read line r).refused ≡ None → AreJudged (judged read line r).entries × (read.refused ≡ None)
one_more read line (Err kind) each is none = let parts = earlier_none read.refused (Some
    (record { line = line; kind = kind })) none in let e = parts.1 in absurd cc
one_more read line (Ok e) each is none =
    let parts = earlier_none read.refused (refusal_at line (clash (has_id read.entries e.id) (length read.entries))) none in
    let free = clash_none (has_id read.entries e.id) (leb MAX_SLOTS (length read.entries)) (refusal_none line _ parts.1) in (
      record {
        few = omega (arith, length-append read.entries (e ∷ []), leb-false MAX_SLOTS (length read.entries) free.1);
        each = All-push IsReadEntry read.entries e is.each (each e refl);
        apart = subst AreApart (sym (map-append (λ (x : StackEntry). x.id) read.entries (e ∷ []))) (apart_push (map (λ x. x.id) read.entries) e.id
            (λ i at. false≢true (sym free.0 ∙ id_at read.entries i e.id at)) is.apart);
      },
      parts.0,
    )

refused_before : (lines : List Line) (read : StackRead) (es : List MappingEntry) → (stack_behind lines read es).refused ≡ None → read.refused ≡ None
unfolding stack_behind
refused_before lines read [] none = none
refused_before lines read (e ∷ es) none =
    before (stack_entry_of lines e.fields) (refused_before lines (judged read e.line (stack_entry_of lines e.fields)) es none) where
      before : (r : Result StackEntry RefusalKind) → (judged read e.line r).refused ≡ None → read.refused ≡ None
      before (Ok x) f = (earlier_none read.refused _ f).0
      before (Err kind) f = (earlier_none read.refused _ f).0

stack_reads : (lines : List Line) (read : StackRead) (es : List MappingEntry) → AreJudged read.entries → (stack_behind lines read es).refused ≡ None →
    AreJudged (stack_behind lines read es).entries
unfolding stack_behind
stack_reads lines read [] is none = is
stack_reads lines read (e ∷ es) is none =
    let next = judged read e.line (stack_entry_of lines e.fields) in
    let step = one_more read e.line (stack_entry_of lines e.fields) (entry_reads lines e.fields) is (refused_before lines next es none) in
    stack_reads lines next es step.0 none

-- ---- a local offset alone is dropped

ids_kept : (es : List StackEntry) → map (λ (e : StackEntry). e.id) (map without_offset es) ≡ map (λ (e : StackEntry). e.id) es
ids_kept [] = refl
ids_kept (e ∷ es) = ap (λ (l : List ℕ). e.id ∷ l) (ids_kept es)

none_counted : (es : List StackEntry) → local_count (entry_offsets (map without_offset es)) ≡ 0
none_counted [] = refl
none_counted (e ∷ es) = let more : 0 + local_count (entry_offsets (map without_offset es)) ≡ 0 = omega (arith, none_counted es) in more

shared_reads : (es : List StackEntry) → AreJudged es → IsReadStack (shared es)
shared_reads es is = by (eqb (local_count (entry_offsets es)) 1) refl where
  by : (b : Bool) → eqb (local_count (entry_offsets es)) 1 ≡ b → IsReadStack (cond b (map without_offset es) es)
  by true one = record {
    few = omega (arith, length-map es without_offset, is.few);
    each = All-map IsReadEntry without_offset es (All-weaker IsReadEntry (λ e. IsReadEntry (without_offset e))
        (λ e read. record { id = read.id; size = read.size; aligned = read.aligned; local = tt }) es is.each);
    apart = subst AreApart (sym (ids_kept es)) is.apart;
    several = λ e. omega (arith, none_counted es, e);
  }
  by false other = record {
    few = is.few;
    each = is.each;
    apart = is.apart;
    several = λ e. false≢true (sym other ∙ eq-eqb (local_count (entry_offsets es)) 1 e);
  }

checked_ok : (refused : Option Refusal) (declared d : Declarations) → checked refused declared ≡ Ok d → (refused ≡ None) × (declared ≡ d)
checked_ok None declared d e = (refl, cc)
checked_ok (Some r) declared d e = absurd cc

-- ---- fixed objects

pub record IsReadFixed (room : ℕ) (es : List FixedEntry) : Type 0 where
  pub few : length es ≤ room
  pub each : All IsFixedEntry es
  pub great : All (λ n. (FIXED ≤ n) × (n ≤ FIXED + MAX_NUMBER)) (fixed_ids es)
  pub apart : AreApart (fixed_ids es)

-- the same of one entry
record IsReadOne (e : FixedEntry) : Type 0 where
  entry : IsFixedEntry e
  number : (FIXED ≤ e.id) × (e.id ≤ FIXED + MAX_NUMBER)

minus_low : (n : ℕ) → n ≤ MAX_NUMBER → unsigned_abs (minus n) ≤ MAX_NUMBER
minus_low zero small = small
minus_low (suc n) small = small

abbrev IsSmallOffset : Option ℤ → Type 0
IsSmallOffset o = IfSome o (λ d. unsigned_abs d ≤ MAX_NUMBER)

signed_low : (number negated : Option ℕ) → IsLow number → IsLow negated → IsSmallOffset (signed number negated)
signed_low (Some n) m first second = first
signed_low None (Some m) first second = minus_low m second
signed_low None None first second = tt

fixed_with_reads : (number size : Option ℕ) (offset : Option ℤ) (e : FixedEntry) → IsLow number → IsLow size → IsSmallOffset offset →
    fixed_with number size offset ≡ Ok e → IsReadOne e
fixed_with_reads (Some n) (Some size) (Some offset) e low small near made =
    let same : record { id = FIXED + n; size = size; offset = offset } ≡ e = cc in
    subst IsReadOne same (record { entry = record { size = small; offset = near }; number = (omega arith, omega (arith, low)) })
fixed_with_reads (Some n) (Some size) None e low small near made = absurd cc
fixed_with_reads (Some n) None offset e low small near made = absurd cc
fixed_with_reads None size offset e low small near made = absurd cc

fixed_entry_reads : (lines : List Line) (fields : List MappingField) (e : FixedEntry) → fixed_entry_of lines fields ≡ Ok e → IsReadOne e
fixed_entry_reads lines fields e made =
    fixed_with_reads (needed lines (codes "id") fields) (needed lines (codes "size") fields) (integer_in lines (codes "offset") fields) e
    (needed_low lines (codes "id") fields) (needed_low lines (codes "size") fields)
    (signed_low (needed lines (codes "offset") fields) (negated lines (codes "offset") fields) (needed_low lines (codes "offset") fields)
    (negated_low lines (codes "offset") fields)) made

fixed_at : (es : List FixedEntry) (i n : ℕ) → slice_get (fixed_ids es) i ≡ Some n → list_any (eqb n) (fixed_ids es) ≡ true
fixed_at [] i n e = absurd cc
fixed_at (x ∷ es) zero n e = let same : n ≡ x.id = cc in or_left (eqb n x.id) (list_any (eqb n) (fixed_ids es)) (eq-eqb n x.id same)
fixed_at (x ∷ es) (suc i) n e = or_right (eqb n x.id) (list_any (eqb n) (fixed_ids es)) (fixed_at es i n e)

one_more_fixed : (room : ℕ) (read : FixedRead) (line : ℕ) (r : Result FixedEntry RefusalKind) → ((e : FixedEntry) → r ≡ Ok e → IsReadOne e) →
    IsReadFixed room read.entries → (fixed_judged room read line r).refused ≡ None →
    IsReadFixed room (fixed_judged room read line r).entries × (read.refused ≡ None)
one_more_fixed room read line (Err kind) each is none = let parts = earlier_none read.refused (Some
    (record { line = line; kind = kind })) none in let e = parts.1 in absurd cc
one_more_fixed room read line (Ok e) each is none =
    let there = list_any (eqb e.id) (fixed_ids read.entries) in
    let parts = earlier_none read.refused (refusal_at line (clash_in room there (length read.entries))) none in
    let free = clash_none there (leb room (length read.entries)) (refusal_none line _ parts.1) in
    let one = each e refl in
    let ids = map-append (λ (x : FixedEntry). x.id) read.entries (e ∷ []) in (
      record {
        few = omega (arith, length-append read.entries (e ∷ []), leb-false room (length read.entries) free.1);
        each = All-push IsFixedEntry read.entries e is.each one.entry;
        great = subst (λ (ns : List ℕ). All (λ n. (FIXED ≤ n) × (n ≤ FIXED + MAX_NUMBER)) ns) (sym ids)
            (All-push (λ n. (FIXED ≤ n) × (n ≤ FIXED + MAX_NUMBER)) (fixed_ids read.entries) e.id is.great one.number);
        apart = subst AreApart (sym ids) (apart_push (fixed_ids read.entries) e.id
            (λ i at. false≢true (sym free.0 ∙ fixed_at read.entries i e.id at)) is.apart);
      },
      parts.0,
    )

fixed_refused_before : (room : ℕ) (lines : List Line) (read : FixedRead) (es : List MappingEntry) → (fixed_behind room lines read es).refused ≡ None →
    read.refused ≡ None
unfolding fixed_behind
fixed_refused_before room lines read [] none = none
fixed_refused_before room lines read (e ∷ es) none =
    before (fixed_entry_of lines e.fields) (fixed_refused_before room lines (fixed_judged room read e.line (fixed_entry_of lines e.fields)) es none) where
      before : (r : Result FixedEntry RefusalKind) → (fixed_judged room read e.line r).refused ≡ None → read.refused ≡ None
      before (Ok x) f = (earlier_none read.refused _ f).0
      before (Err kind) f = (earlier_none read.refused _ f).0

fixed_reads : (room : ℕ) (lines : List Line) (read : FixedRead) (es : List MappingEntry) → IsReadFixed room read.entries →
    (fixed_behind room lines read es).refused ≡ None → IsReadFixed room (fixed_behind room lines read es).entries
unfolding fixed_behind
fixed_reads room lines read [] is none = is
fixed_reads room lines read (e ∷ es) is none =
    let next = fixed_judged room read e.line (fixed_entry_of lines e.fields) in
    let step = one_more_fixed room read e.line (fixed_entry_of lines e.fields) (fixed_entry_reads lines e.fields) is
    (fixed_refused_before room lines next es none) in
    fixed_reads room lines next es step.0 none

no_fixed_read : (room : ℕ) → IsReadFixed room []
no_fixed_read room = record {
  few = omega arith;
  each = All-nil IsFixedEntry;
  great = All-nil (λ n. (FIXED ≤ n) × (n ≤ FIXED + MAX_NUMBER));
  apart = λ i j n e f. absurd cc;
}

fixed_of_reads : (linked : Bool) (room : ℕ) (lines : List Line) → (fixed_of linked room lines).refused ≡ None →
    IsReadFixed room (fixed_of linked room lines).entries
fixed_of_reads true room lines none =
    fixed_reads room lines (record { entries = []; refused = (list_of lines).refused }) (list_of lines).entries (no_fixed_read room) none
fixed_of_reads false room lines none = no_fixed_read room

-- ---- documents

-- what is declared where nothing is refused
record AreUnrefused (doc : FunctionDocument) : Type 0 where
  stack : (stack_of doc.stack).refused ≡ None
  fixed : (fixed_in doc).refused ≡ None

unrefused : (doc : FunctionDocument) → refusal_of doc ≡ None → AreUnrefused doc
unrefused doc none =
    let all = earlier_none (earlier (earlier (name_of doc.name).refused (stack_of doc.stack).refused)
    (earlier (fixed_in doc).refused (substitutions_of doc.substitutions).refused)) (pool_of doc.linked doc.constants).refused none in
    let first = earlier_none (earlier (name_of doc.name).refused (stack_of doc.stack).refused)
    (earlier (fixed_in doc).refused (substitutions_of doc.substitutions).refused) all.0 in
    record {
      stack = (earlier_none (name_of doc.name).refused (stack_of doc.stack).refused first.0).1;
      fixed = (earlier_none (fixed_in doc).refused (substitutions_of doc.substitutions).refused first.1).0;
    }

-- the fixed objects of a document that is read
pub declared_fixed : (doc : FunctionDocument) (d : Declarations) → declarations_of doc ≡ Ok d → IsReadFixed (MAX_SLOTS - length d.stack) d.fixed
declared_fixed doc d e =
    let is = checked_ok (refusal_of doc) (declared_of doc) d e in
    subst (λ (x : Declarations). IsReadFixed (MAX_SLOTS - length x.stack) x.fixed) is.1
    (fixed_of_reads doc.linked (MAX_SLOTS - length (stack_of doc.stack).entries) doc.fixed (unrefused doc is.0).fixed)

-- the stack entries of a document that is read
pub declared_stack : (doc : FunctionDocument) (d : Declarations) → declarations_of doc ≡ Ok d → IsReadStack d.stack
declared_stack doc d e =
    let is = checked_ok (refusal_of doc) (declared_of doc) d e in
    subst (λ (x : Declarations). IsReadStack x.stack) is.1 (shared_reads (stack_read doc.stack).entries
    (stack_reads doc.stack (record { entries = []; refused = (list_of doc.stack).refused })
    (list_of doc.stack).entries (record { few = omega arith; each = All-nil IsReadEntry; apart = λ i j n e f. absurd cc }) (unrefused doc is.0).stack))

-- the numbers of stack entries are small
low_behind : (ids : List ℕ) (es : List StackEntry) → All (λ n. n ≤ MAX_NUMBER) ids → All IsReadEntry es → All (λ n. n ≤ MAX_NUMBER) (ids_behind ids es)
unfolding ids_behind
low_behind ids [] low each = low
low_behind ids (e ∷ es) low each =
    low_behind (met e.id ids) es (by (is_met e.id ids)) (All-tail IsReadEntry e es each) where
      by : (b : Bool) → All (λ n. n ≤ MAX_NUMBER) (cond b ids (ids ++ e.id ∷ []))
      by true = low
      by false = All-push (λ n. n ≤ MAX_NUMBER) ids e.id low (All-head IsReadEntry e es each).id

pub entries_low : {es : List StackEntry} → IsReadStack es → All (λ n. n ≤ MAX_NUMBER) (entry_ids es)
entries_low {es} is = low_behind [] es (All-nil (λ n. n ≤ MAX_NUMBER)) is.each

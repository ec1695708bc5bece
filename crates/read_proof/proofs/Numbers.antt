-- The numbers that a document declares are within their limits: those of stack entries, so of slots and objects, and those of substitutions.
use Rattle.std.proofs.Common.{◌≡◌, ℕ, ◌+◌, ◌≤◌, Bool, true, false, cond, ◌&&◌, ◌||◌, not, eqb, List, [], ◌∷◌, ◌++◌, map, All, Option, Some, None, Result, Ok}
use Rattle.std.proofs.Common.{Err}
use Rattle.std.proofs.Common.{sym, subst, arith}
use Rattle.std.specs.Prelude.{IfSome, codes, is_none, is_some}
use Rattle.std.proofs.lemmas.List.Elements.{All-nil, All-cons, All-push, All-head, All-tail, All-map, All-weaker, All-append}
use Rattle.read_refusal.specs.declared.first.Refusal.{Refusal}
use Rattle.read_refusal.specs.declared.kind.RefusalKind.{RefusalKind}
use Rattle.read_refusal.specs.declared.kind.RefusalKind.TheVariants.{StackObject}
use Rattle.read_metadata.specs.Number.{integer_of}
use Rattle.read_metadata.specs.Token.{is_integer}
use Rattle.read_documents.specs.declared.parts.FunctionDocument.{FunctionDocument}
use Rattle.mir_func.specs.declared.debug_substitution.DebugSubstitution as func
use Rattle.mir_func.specs.declared.debug_substitution.OperandPair.{OperandPair}
use Rattle.mir_func.specs.declared.object.Object.{Object}
use Rattle.mir_func.specs.Objects.{local_count}
use Rattle.mir_func.specs.Resolve.{entry_of}
use Rattle.base_ids.specs.Limits.{MAX_NUMBER, FIXED}
use Rattle.read_lexer.specs.declared.line.Line.{Line}
use Rattle.read_declarations.specs.declared.declarations.Declarations.{Declarations}
use Rattle.read_declarations.specs.declared.entry.MappingEntry.{MappingEntry}
use Rattle.read_declarations.specs.declared.entry.MappingField.{MappingField}
use Rattle.read_declarations.specs.declared.fixed.FixedEntry.{FixedEntry}
use Rattle.read_declarations.specs.declared.stack.StackEntry.{StackEntry}
use Rattle.read_declarations.specs.declared.stack.StackRead.{StackRead}
use Rattle.read_declarations.specs.declared.stream.YamlToken.{YamlToken}
use Rattle.read_declarations.specs.declared.substitutions.SubstitutionsRead.{SubstitutionsRead}
use Rattle.read_declarations.specs.Declarations.{refusal_of, declared_of, checked, declarations_of}
use Rattle.read_declarations.specs.Field.{value_at, number_in, needed, given, negated, is_variable_sized}
use Rattle.read_declarations.specs.Fixed.{fixed_ids}
use Rattle.read_declarations.specs.List.{list_of}
use Rattle.read_declarations.specs.Stack.{is_alignment, entry_with, unsized, stack_entry_of, judged, stack_behind, stack_read, entry_offsets, without_offset}
use Rattle.read_declarations.specs.Stack.{shared}
use Rattle.read_declarations.specs.Stream.{text_at}
use Rattle.read_declarations.specs.Substitutions.{pair_of, substitution_with, substitution_of, substituted, substitutions_behind}
use Rattle.read_program.specs.read_body.declared.stack_entry_kind.ObjectLayout.{ObjectLayout}
use Rattle.read_program.specs.read_body.StackEntryKind.{is_stack_object, with_slot, slots_behind, slots_of, laid_at, with_object, objects_behind, local_block, objects_of}
use Rattle.read_program.specs.read_body.FixedObjects.{fixed_object, area_with}
use Rattle.read_program.specs.Closing.{all_objects}
use Rattle.read_program.proofs.FixedObjects.{with_is}
use Rattle.read_proof.specs.Read.{PairIsLimited, EntryIsLimited, IsObjectNumber}
use Rattle.read_proof.proofs.Nodes.{Small, one_of, integer_small}

-- ---- fields

number_small : (lines : List Line) (missing : Option ℕ) (value : Option YamlToken) → IfSome missing Small → IfSome (number_in lines missing value) Small
number_small lines missing None small = small
number_small lines missing (Some value) small =
    one_of Small (is_integer value.token) (integer_of (text_at lines value)) None (integer_small (text_at lines value)) tt

needed_small : (lines : List Line) (key : List ℕ) (fields : List MappingField) → IfSome (needed lines key fields) Small
needed_small lines key fields = number_small lines None (value_at lines key fields) tt

-- ---- stack entries

abbrev pub HasSmallId : StackEntry → Type 0
HasSmallId e = e.id ≤ MAX_NUMBER

-- an entry that is read
abbrev IfRead : Result StackEntry RefusalKind → Type 0
IfRead (Ok e) = HasSmallId e
IfRead (Err kind) = Unit {0}

either : (b : Bool) (x y : Result StackEntry RefusalKind) → IfRead x → IfRead y → IfRead (cond b x y)
either true x y p q = p
either false x y p q = q

with_small : (variable : Bool) (id size align local : Option ℕ) → IfSome id Small → IfRead (entry_with variable id size align local)
with_small variable (Some id) (Some size) (Some align) local small =
    either (variable || not (is_alignment align)) (Err StackObject) (Ok (record { id = id; size = size; align = align; local_offset = local })) tt small
with_small variable (Some id) (Some size) None local small = tt
with_small variable (Some id) None align local small = tt
with_small variable None size align local small = tt

unsized_small : (id : Option ℕ) → IfRead (unsized id)
unsized_small (Some id) = tt
unsized_small None = tt

entry_small : (lines : List Line) (fields : List MappingField) → IfRead (stack_entry_of lines fields)
entry_small lines fields =
    either (is_variable_sized lines fields && is_none (value_at lines (codes "size") fields)) (unsized (needed lines (codes "id") fields))
    (entry_with (is_variable_sized lines fields) (needed lines (codes "id") fields) (needed lines (codes "size") fields) (given lines (codes "alignment") 1
    fields) (negated lines (codes "local-offset") fields))
    (unsized_small (needed lines (codes "id") fields))
    (with_small (is_variable_sized lines fields) (needed lines (codes "id") fields) (needed lines (codes "size") fields) (given lines (codes "alignment") 1
    fields) (negated lines (codes "local-offset") fields) (needed_small lines (codes "id") fields))

one_more : (read : StackRead) (line : ℕ) (r : Result StackEntry RefusalKind) → IfRead r → All HasSmallId read.entries →
    All HasSmallId (judged read line r).entries
one_more read line (Err kind) small all = all
one_more read line (Ok e) small all = All-push HasSmallId read.entries e all small

stack_small : (lines : List Line) (read : StackRead) (es : List MappingEntry) → All HasSmallId read.entries →
    All HasSmallId (stack_behind lines read es).entries
unfolding stack_behind
stack_small lines read [] all = all
stack_small lines read (e ∷ es) all = stack_small lines (judged read e.line (stack_entry_of lines e.fields)) es
    (one_more read e.line (stack_entry_of lines e.fields) (entry_small lines e.fields) all)

-- entries without local offsets have the same numbers
shared_small : (es : List StackEntry) → All HasSmallId es → All HasSmallId (shared es)
shared_small es all = by (eqb (local_count (entry_offsets es)) 1) where
  by : (b : Bool) → All HasSmallId (cond b (map without_offset es) es)
  by true = All-map HasSmallId without_offset es (All-weaker HasSmallId (λ e. HasSmallId (without_offset e)) (λ e small. small) es all)
  by false = all

-- ---- substitutions

abbrev MayPair : Option OperandPair → Type 0
MayPair q = IfSome q PairIsLimited

pair_small : (number operand : Option ℕ) → IfSome number Small → IfSome operand Small → MayPair (pair_of number operand)
pair_small (Some number) (Some operand) n o = (n, o)
pair_small (Some number) None n o = tt
pair_small None operand n o = tt

substitution_small : (src dst : Option OperandPair) (subreg : Option ℕ) → MayPair src → MayPair dst → IfSome subreg Small →
    IfSome (substitution_with src dst subreg) EntryIsLimited
substitution_small (Some src) (Some dst) (Some subreg) s d r = record { src = s; dst = d; subreg = r }
substitution_small (Some src) (Some dst) None s d r = tt
substitution_small (Some src) None subreg s d r = tt
substitution_small None dst subreg s d r = tt

fields_small : (lines : List Line) (fields : List MappingField) → IfSome (substitution_of lines fields) EntryIsLimited
fields_small lines fields =
    substitution_small (pair_of (needed lines (codes "srcinst") fields) (needed lines (codes "srcop") fields))
    (pair_of (needed lines (codes "dstinst") fields) (needed lines (codes "dstop") fields)) (given lines (codes "subreg") 0 fields)
    (pair_small (needed lines (codes "srcinst") fields) (needed lines (codes "srcop") fields) (needed_small lines (codes "srcinst") fields)
    (needed_small lines (codes "srcop") fields))
    (pair_small (needed lines (codes "dstinst") fields) (needed lines (codes "dstop") fields) (needed_small lines (codes "dstinst") fields)
    (needed_small lines (codes "dstop") fields))
    (number_small lines (Some 0) (value_at lines (codes "subreg") fields) (omega arith))

added_small : (b : Bool) (subs : List func.DebugSubstitution) (e : func.DebugSubstitution) → All EntryIsLimited subs → EntryIsLimited e → All EntryIsLimited
    (cond b subs (subs ++ e ∷ []))
added_small true subs e all is = all
added_small false subs e all is = All-push EntryIsLimited subs e all is

substituted_small : (read : SubstitutionsRead) (line : ℕ) (e : Option func.DebugSubstitution) → IfSome e EntryIsLimited → All EntryIsLimited read.entries →
    All EntryIsLimited (substituted read line e).entries
substituted_small read line (Some e) is all = added_small (is_some (entry_of read.entries e.src)) read.entries e all is
substituted_small read line None is all = all

substitutions_small : (lines : List Line) (read : SubstitutionsRead) (es : List MappingEntry) → All EntryIsLimited read.entries →
    All EntryIsLimited (substitutions_behind lines read es).entries
unfolding substitutions_behind
substitutions_small lines read [] all = all
substitutions_small lines read (e ∷ es) all = substitutions_small lines (substituted read e.line (substitution_of lines e.fields)) es
    (substituted_small read e.line (substitution_of lines e.fields) (fields_small lines e.fields) all)

-- ---- what a document declares

pub record DeclaresSmall (d : Declarations) : Type 0 where
  pub stack : All HasSmallId d.stack
  pub substitutions : All EntryIsLimited d.substitutions

declared_small : (doc : FunctionDocument) → DeclaresSmall (declared_of doc)
declared_small doc = record {
  stack = shared_small (stack_read doc.stack).entries
      (stack_small doc.stack (record { entries = []; refused = (list_of doc.stack).refused }) (list_of doc.stack).entries (All-nil HasSmallId));
  substitutions = substitutions_small doc.substitutions (record { entries = []; refused = (list_of doc.substitutions).refused })
      (list_of doc.substitutions).entries (All-nil EntryIsLimited);
}

checked_small : (refused : Option Refusal) (declared d : Declarations) → checked refused declared ≡ Ok d → DeclaresSmall declared → DeclaresSmall d
checked_small None declared d e small = let same : declared ≡ d = cc in subst DeclaresSmall same small
checked_small (Some r) declared d e small = absurd cc

pub declares_small : (doc : FunctionDocument) (d : Declarations) → declarations_of doc ≡ Ok d → DeclaresSmall d
declares_small doc d e = checked_small (refusal_of doc) (declared_of doc) d e (declared_small doc)

-- ---- objects

abbrev IsSmall : Object → Type 0
IsSmall o = IsObjectNumber o.id o.fixed_offset

object_more : (b : Bool) (laid : ObjectLayout) (o : Object) (end : ℕ) → IsSmall o → All IsSmall laid.objects →
    All IsSmall (cond b (record { objects = laid.objects ++ o ∷ []; end = end }) laid).objects
object_more true laid o end small all = All-push IsSmall laid.objects o all small
object_more false laid o end small all = all

objects_more : (named : List ℕ) (block : ℕ) (laid : ObjectLayout) (es : List StackEntry) → All HasSmallId es → All IsSmall laid.objects →
    All IsSmall (objects_behind named block laid es).objects
unfolding objects_behind
objects_more named block laid [] small all = all
objects_more named block laid (e ∷ es) small all = objects_more named block (with_object named block laid e) es (All-tail HasSmallId e es small)
    (object_more (is_stack_object named e) laid (laid_at block laid.end e) _ (All-head HasSmallId e es small) all)

own_small : (named : List ℕ) (es : List StackEntry) → All HasSmallId es → All IsSmall (objects_of named es).objects
own_small named es small = objects_more named (local_block es) (record { objects = []; end = local_block es }) es small (All-nil IsSmall)

fixed_small : (area : ℕ) (es : List FixedEntry) → All (λ n. (FIXED ≤ n) × (n ≤ FIXED + MAX_NUMBER)) (fixed_ids es) → All IsSmall (map (fixed_object area) es)
fixed_small area [] great = All-nil IsSmall
fixed_small area (e ∷ es) great =
    All-cons IsSmall (fixed_object area e) (map (fixed_object area) es) (All-head (λ n. (FIXED ≤ n) × (n ≤ FIXED + MAX_NUMBER)) e.id (fixed_ids es) great)
    (fixed_small area es (All-tail (λ n. (FIXED ≤ n) × (n ≤ FIXED + MAX_NUMBER)) e.id (fixed_ids es) great))

-- the objects of stack entries with small numbers and of fixed objects
pub objects_small : (named : List ℕ) (es : List StackEntry) (fixed : List FixedEntry) → All HasSmallId es →
    All (λ n. (FIXED ≤ n) × (n ≤ FIXED + MAX_NUMBER)) (fixed_ids fixed) → All IsSmall (all_objects named es fixed)
objects_small named es fixed small great =
    let own = (objects_of named es).objects in
    subst (All IsSmall) (sym (with_is own fixed))
    (All-append IsSmall own (map (fixed_object (area_with own fixed)) fixed) (own_small named es small) (fixed_small (area_with own fixed) fixed great))

-- ---- slots

slot_more : (b : Bool) (slots : List ℕ) (n : ℕ) → n ≤ MAX_NUMBER → All (λ k. k ≤ MAX_NUMBER) slots → All (λ k. k ≤ MAX_NUMBER) (cond b slots (slots ++ n ∷ []))
slot_more true slots n small all = all
slot_more false slots n small all = All-push (λ k. k ≤ MAX_NUMBER) slots n all small

slots_more : (named slots : List ℕ) (es : List StackEntry) → All HasSmallId es → All (λ k. k ≤ MAX_NUMBER) slots →
    All (λ k. k ≤ MAX_NUMBER) (slots_behind named slots es)
unfolding slots_behind
slots_more named slots [] small all = all
slots_more named slots (e ∷ es) small all = slots_more named (with_slot named slots e) es (All-tail HasSmallId e es small)
    (slot_more (is_stack_object named e) slots e.id (All-head HasSmallId e es small) all)

-- the slots among stack entries with small numbers
pub slots_small : (named : List ℕ) (es : List StackEntry) → All HasSmallId es → All (λ k. k ≤ MAX_NUMBER) (slots_of named es)
slots_small named es small = slots_more named [] es small (All-nil (λ k. k ≤ MAX_NUMBER))

-- What the items of generated functions are read as: themselves.
use Rattle.std.proofs.Common.{◌≡◌, ℕ, zero, suc, ◌+◌, ◌%◌, ◌^◌, ◌<◌, ◌≤◌, List, [], ◌∷◌, map, length, Option, Some, None, Bool, true, false, cond, ◌||◌}
use Rattle.std.proofs.Common.{refl, sym, ap, ◌∙◌, subst, eqb, eq-eqb, lit≤, inl, inr, arith}
use Rattle.std.specs.Prelude.{IfSome}
use Rattle.std.specs.List.{All}
use Rattle.std.specs.Option.{option_map_or}
use Rattle.std.proofs.lemmas.Bool.{cases_lt}
use Rattle.rv64_instr.specs.declared.op.Op.{Op}
use Rattle.rv64_instr.specs.declared.operand.Operand.{Operand}
use Rattle.rv64_instr.specs.declared.operand.Operand.TheVariants.{Slot, Object}
use Rattle.rv64_instr.specs.declared.place.Place.{Place}
use Rattle.rv64_instr.specs.declared.place.Place.TheVariants as places
use Rattle.rv64_instr.specs.Form.{has_form}
use Rattle.rv64_instr.specs.Instruction.{Instruction}
use Rattle.read_metadata.specs.Maps.{Maps}
use Rattle.mir_func.specs.declared.item.Item.{Item}
use Rattle.mir_func.specs.declared.item.ItemKind.{ItemKind}
use Rattle.mir_func.specs.declared.item.ItemKind.TheVariants.{Code, Mark, Phi}
use Rattle.mir_func.specs.declared.location.Loc.TheVariants.{Absent}
use Rattle.mir_func.specs.declared.variable.VarId.{VarId}
use Rattle.mir_func.specs.Sound.{HasForm, LeavesPointer, number_of}
use Rattle.read_item.specs.Code.{MAX_OPERANDS}
use Rattle.read_body.specs.Body.{constant_of, object_named}
use Rattle.read_body.specs.FirstUseOrder.{is_met}
use Rattle.read_program.specs.Limited.{KindIsLimited, IsOperandOf, IsOfLanguage}
use Rattle.read_program.specs.Objects.{operand_as, operands_as, instr_as, kind_as, kind_stays}
use Rattle.read_program.proofs.Items.{KindNamesAmong}
use Rattle.read_program.proofs.Operands.{NamesAmong}
use Rattle.mir_printer.specs.Printable.{as_slot}
use Rattle.gen_function.specs.Items.{variable_of, copy, mark}
use Rattle.gen_program.proofs.Made.{IsMade, adds, copies, gives, sets, stores, loads, phis, marks, branches, jumps, returns}
use Rattle.gen_program.proofs.ReadLemmas.{one, two, three}
use Rattle.gen_program.proofs.Steps.{TOP}
use Rattle.readback_items.specs.Code.{judged_operands, judged_instruction, judged_kind, IsReadable}
use Rattle.readback_items.specs.Laws.{NameIsBytes, HasByteNames}
use Rattle.readback_items.specs.Body.{names_object, judged_constant, VariableIn}
use Rattle.readback_functions.proofs.FunctionCodes.{IsKnownCode, KnownKind}
use Rattle.theorem_gen_text.proofs.Phis.{PhiIsKept}

-- ---- lists

-- the numbers up to this one
pub upto : ℕ → List ℕ
upto zero = 0 ∷ []
upto (suc n) = suc n ∷ upto n

pub length_upto : (n : ℕ) → length (upto n) ≡ n + 1
unfolding upto
length_upto zero = refl
length_upto (suc n) = let rest = length_upto n in omega (arith, rest)

or_true : (a b : Bool) → b ≡ true → (a || b) ≡ true
or_true true b e = refl
or_true false b e = e

pub met_upto : (n k : ℕ) → k ≤ n → is_met k (upto n) ≡ true
unfolding upto
met_upto zero k l = ap (λ (b : Bool). b || false) (eq-eqb k 0 (omega (arith, l)))
met_upto (suc n) k l = elim (cases_lt n k) as (λ _. is_met k (upto (suc n)) ≡ true) [
  | inl above ↦ ap (λ (b : Bool). b || is_met k (upto n)) (eq-eqb k (suc n) (omega (arith, l, above)))
  | inr low ↦ or_true _ (is_met k (upto n)) (met_upto n k low)
]

-- ---- slots and objects

-- the slots
abbrev pub SLOTS : List ℕ
SLOTS = 0 ∷ 1 ∷ 2 ∷ 3 ∷ []

pub slot_met : (n : ℕ) → n < 4 → is_met n SLOTS ≡ true
slot_met zero l = refl
slot_met (suc zero) l = refl
slot_met (suc (suc zero)) l = refl
slot_met (suc (suc (suc zero))) l = refl
slot_met (suc (suc (suc (suc n)))) l = absurd (omega (arith, l))

slot_among : (n : ℕ) → n < 4 → NamesAmong SLOTS (Slot n)
slot_among n l = (omega (arith, l), slot_met n l)

as_slot_as : (ids : List ℕ) (o : Operand) → as_slot (operand_as ids o) ≡ as_slot o
as_slot_as ids (Slot n) = by (is_met n ids) where
  by : (b : Bool) → as_slot (cond b (Object n) (Slot n)) ≡ Slot n
  by true = refl
  by false = refl
as_slot_as ids _ = refl

slots_as : (ids : List ℕ) (os : List Operand) → map as_slot (operands_as ids os) ≡ map as_slot os
slots_as ids [] = refl
slots_as ids (o ∷ os) = λ i. as_slot_as ids o i ∷ slots_as ids os i

-- where only the operands change, they are judged as those without objects
judged_by : (op : Op) (xs os : List Operand) → map as_slot xs ≡ os → has_form op os ≡ true → judged_operands op xs ≡ os
judged_by op xs os same form =
    ap (λ (ys : List Operand). cond (has_form op ys) ys xs) same ∙ ap (λ (b : Bool). cond b os xs) form

judged_again : (ids : List ℕ) (volatile : Bool) (op : Op) (os : List Operand) → has_form op os ≡ true → map as_slot os ≡ os →
    judged_instruction (instr_as ids (record { op = op; operands = os; volatile = volatile })) ≡ record { op = op; operands = os; volatile = volatile }
judged_again ids volatile op os form same = by (has_form op (operands_as ids os)) where
  by : (b : Bool) → judged_instruction (cond b (record { op = op; operands = operands_as ids os; volatile = volatile }) (record { op = op; operands = os; volatile = volatile }))
      ≡ record { op = op; operands = os; volatile = volatile }
  by true = ap (λ (xs : List Operand). record { op = op; operands = xs; volatile = volatile }) (judged_by op (operands_as ids os) os (slots_as ids os ∙ same) form)
  by false = ap (λ (xs : List Operand). record { op = op; operands = xs; volatile = volatile }) (judged_by op os os same form)

-- without objects operands stay
operand_plain : (o : Operand) → operand_as [] o ≡ o
operand_plain (Slot n) = refl
operand_plain _ = refl

operands_plain : (os : List Operand) → operands_as [] os ≡ os
operands_plain [] = refl
operands_plain (o ∷ os) = λ i. operand_plain o i ∷ operands_plain os i

instr_plain : (c : Instruction) → instr_as [] c ≡ c
instr_plain c = by (has_form c.op (operands_as [] c.operands)) where
  by : (b : Bool) → cond b (record c { operands = operands_as [] c.operands }) c ≡ c
  by true = ap (λ (xs : List Operand). record c { operands = xs }) (operands_plain c.operands)
  by false = refl

pub kind_plain : {kind : ItemKind} → IsMade TOP kind → kind_as [] kind ≡ kind
kind_plain (adds rd rs rt k a b c l) = ap (λ (i : Instruction). Code i (Some k)) (instr_plain _)
kind_plain (copies rd rs k a b l) = ap (λ (i : Instruction). Code i (Some k)) (instr_plain _)
kind_plain gives = ap (λ (i : Instruction). Code i None) (instr_plain _)
kind_plain (sets rd n k a l m) = ap (λ (i : Instruction). Code i (Some k)) (instr_plain _)
kind_plain (stores rs n a l) = ap (λ (i : Instruction). Code i None) (instr_plain _)
kind_plain (loads rd n k a l m) = ap (λ (i : Instruction). Code i (Some k)) (instr_plain _)
kind_plain (phis rs k a l) = refl
kind_plain (marks n k l m) = refl
kind_plain (branches rs n a l) = ap (λ (i : Instruction). Code i None) (instr_plain _)
kind_plain (jumps n l) = ap (λ (i : Instruction). Code i None) (instr_plain _)
kind_plain returns = ap (λ (i : Instruction). Code i None) (instr_plain _)

-- ---- what is known of code

code_known : (c : Instruction) (k : Option ℕ) → HasForm (Code c k) → KindIsLimited (Code c k) → IsOfLanguage false (Code c k) → LeavesPointer (Code c k) →
    map as_slot c.operands ≡ c.operands → All (NamesAmong SLOTS) c.operands → length c.operands ≤ MAX_OPERANDS → IsKnownCode SLOTS c
code_known c k form limited language pointer same named few = record {
  again = λ ids. judged_again ids c.volatile c.op c.operands form same;
  form = form;
  limited = limited.0;
  language = language.0;
  named = named;
  pointer = pointer;
  few = few;
  read = language.1;
  plain = language.2;
}

pub known_made : {kind : ItemKind} → IsMade TOP kind → HasForm kind → KindIsLimited kind → IsOfLanguage false kind → LeavesPointer kind → KnownKind SLOTS kind
known_made (adds rd rs rt k a b c l) f m g p = code_known _ (Some k) f m g p refl (three (NamesAmong SLOTS) _ _ _ tt tt tt) (lit≤ tt)
known_made (copies rd rs k a b l) f m g p = code_known _ (Some k) f m g p refl (two (NamesAmong SLOTS) _ _ tt tt) (lit≤ tt)
known_made gives f m g p = code_known _ None f m g p refl (two (NamesAmong SLOTS) _ _ tt tt) (lit≤ tt)
known_made (sets rd n k a l q) f m g p = code_known _ (Some k) f m g p refl (three (NamesAmong SLOTS) _ _ _ tt tt tt) (lit≤ tt)
known_made (stores rs n a l) f m g p = code_known _ None f m g p refl (three (NamesAmong SLOTS) _ _ _ tt (slot_among n l) tt) (lit≤ tt)
known_made (loads rd n k a l q) f m g p = code_known _ (Some k) f m g p refl (three (NamesAmong SLOTS) _ _ _ tt (slot_among n l) tt) (lit≤ tt)
known_made (phis rs k a l) f m g p = tt
known_made (marks n k l q) f m g p = tt
known_made (branches rs n a l) f m g p = code_known _ None f m g p refl (three (NamesAmong SLOTS) _ _ _ tt tt tt) (lit≤ tt)
known_made (jumps n l) f m g p = code_known _ None f m g p refl (one (NamesAmong SLOTS) _ tt) (lit≤ tt)
known_made returns f m g p = code_known _ None f m g p refl (one (NamesAmong SLOTS) _ tt) (lit≤ tt)

pub language_made : {kind : ItemKind} → IsMade TOP kind → IsOfLanguage false kind
language_made (adds rd rs rt k a b c l) = (three (IsOperandOf false) _ _ _ tt tt tt, refl, λ e. e)
language_made (copies rd rs k a b l) = (two (IsOperandOf false) _ _ tt tt, refl, λ e. e)
language_made gives = (two (IsOperandOf false) _ _ tt tt, refl, λ e. e)
language_made (sets rd n k a l m) = (three (IsOperandOf false) _ _ _ tt tt tt, refl, λ e. e)
language_made (stores rs n a l) = (three (IsOperandOf false) _ _ _ tt tt tt, refl, λ e. e)
language_made (loads rd n k a l m) = (three (IsOperandOf false) _ _ _ tt tt tt, refl, λ e. e)
language_made (phis rs k a l) = tt
language_made (marks n k l m) = tt
language_made (branches rs n a l) = (three (IsOperandOf false) _ _ _ tt tt tt, refl, λ e. e)
language_made (jumps n l) = (one (IsOperandOf false) _ tt, refl, λ e. e)
language_made returns = (one (IsOperandOf false) _ tt, refl, λ e. e)

pub named_made : {kind : ItemKind} → IsMade TOP kind → KindNamesAmong SLOTS kind
named_made (adds rd rs rt k a b c l) = three (NamesAmong SLOTS) _ _ _ tt tt tt
named_made (copies rd rs k a b l) = two (NamesAmong SLOTS) _ _ tt tt
named_made gives = two (NamesAmong SLOTS) _ _ tt tt
named_made (sets rd n k a l m) = three (NamesAmong SLOTS) _ _ _ tt tt tt
named_made (stores rs n a l) = three (NamesAmong SLOTS) _ _ _ tt (slot_among n l) tt
named_made (loads rd n k a l m) = three (NamesAmong SLOTS) _ _ _ tt (slot_among n l) tt
named_made (phis rs k a l) = tt
named_made (marks n k l m) = tt
named_made (branches rs n a l) = three (NamesAmong SLOTS) _ _ _ tt tt tt
named_made (jumps n l) = one (NamesAmong SLOTS) _ tt
named_made returns = one (NamesAmong SLOTS) _ tt

-- ---- conditions of reading

pub bytes_made : {kind : ItemKind} → IsMade TOP kind → HasByteNames kind
bytes_made (adds rd rs rt k a b c l) = three NameIsBytes _ _ _ tt tt tt
bytes_made (copies rd rs k a b l) = two NameIsBytes _ _ tt tt
bytes_made gives = two NameIsBytes _ _ tt tt
bytes_made (sets rd n k a l m) = three NameIsBytes _ _ _ tt tt tt
bytes_made (stores rs n a l) = three NameIsBytes _ _ _ tt tt tt
bytes_made (loads rd n k a l m) = three NameIsBytes _ _ _ tt tt tt
bytes_made (phis rs k a l) = tt
bytes_made (marks n k l m) = tt
bytes_made (branches rs n a l) = three NameIsBytes _ _ _ tt tt tt
bytes_made (jumps n l) = one NameIsBytes _ tt
bytes_made returns = one NameIsBytes _ tt

code_readable : (meta : Maps) (c : Instruction) (k : Option ℕ) → KnownKind SLOTS (Code c k) → IsReadable meta Absent (Code c k)
code_readable meta c k known = record { form = known.form; pointer = known.pointer; few = known.few }

pub readable_made : (meta : Maps) {kind : ItemKind} → IsMade TOP kind → KnownKind SLOTS kind → PhiIsKept kind → IsReadable meta Absent kind
readable_made meta (adds rd rs rt k a b c l) known kept = code_readable meta _ (Some k) known
readable_made meta (copies rd rs k a b l) known kept = code_readable meta _ (Some k) known
readable_made meta gives known kept = code_readable meta _ None known
readable_made meta (sets rd n k a l m) known kept = code_readable meta _ (Some k) known
readable_made meta (stores rs n a l) known kept = code_readable meta _ None known
readable_made meta (loads rd n k a l m) known kept = code_readable meta _ (Some k) known
readable_made meta (phis rs k a l) known kept = kept
readable_made meta (marks n k l m) known kept = (refl, tt)
readable_made meta (branches rs n a l) known kept = code_readable meta _ None known
readable_made meta (jumps n l) known kept = code_readable meta _ None known
readable_made meta returns known kept = code_readable meta _ None known

-- ---- numbers, constants and variables

pub number_made : {kind : ItemKind} → IsMade TOP kind → IfSome (number_of kind) (λ k. is_met k (upto TOP) ≡ true)
number_made (adds rd rs rt k a b c l) = met_upto TOP k l
number_made (copies rd rs k a b l) = met_upto TOP k l
number_made gives = tt
number_made (sets rd n k a l m) = met_upto TOP k m
number_made (stores rs n a l) = tt
number_made (loads rd n k a l m) = met_upto TOP k m
number_made (phis rs k a l) = met_upto TOP k l
number_made (marks n k l m) = tt
number_made (branches rs n a l) = tt
number_made (jumps n l) = tt
number_made returns = tt

abbrev pub HasLow : Option ℕ → Type 0
HasLow o = IfSome o (λ k. is_met k (upto 63) ≡ true)

constant_copied : (rd rs : ℕ) (k : Option ℕ) → HasLow (constant_of (copy rd rs k))
constant_copied rd zero k = met_upto 63 0 (lit≤ tt)
constant_copied rd (suc rs) k = tt

constant_made : {kind : ItemKind} → IsMade TOP kind → HasLow (constant_of kind)
constant_made (adds rd rs rt k a b c l) = tt
constant_made (copies rd rs k a b l) = constant_copied rd rs (Some k)
constant_made gives = tt
constant_made (sets rd n k a l m) = met_upto 63 (n % 2 ^ 64) (omega (arith, l))
constant_made (stores rs n a l) = tt
constant_made (loads rd n k a l m) = tt
constant_made (phis rs k a l) = tt
constant_made (marks n k l m) = tt
constant_made (branches rs n a l) = tt
constant_made (jumps n l) = tt
constant_made returns = tt

-- code is judged as itself
judged_same : (kind : ItemKind) → KnownKind SLOTS kind → judged_kind (kind_as [] kind) ≡ kind
judged_same (Code c k) known = ap (λ (i : Instruction). Code i k) (known.again [])
judged_same (Mark v m) known = refl
judged_same (Phi p k) known = place p where
  place : (q : Option Place) → judged_kind (kind_as [] (Phi q k)) ≡ Phi q k
  place None = refl
  place (Some (places.Register r)) = refl
  place (Some (places.Slot n)) = refl
  place (Some (places.Const c)) = refl

pub judged_made : {kind : ItemKind} → IsMade TOP kind → KnownKind SLOTS kind → judged_kind kind ≡ kind
judged_made {kind = kind} made known = ap judged_kind (sym (kind_plain made)) ∙ judged_same kind known

pub low_constant : {kind : ItemKind} → IsMade TOP kind → KnownKind SLOTS kind → HasLow (judged_constant kind)
low_constant {kind = kind} made known = subst (λ (k : ItemKind). HasLow (constant_of k)) (sym (judged_made made known)) (constant_made made)

-- the four variables
abbrev pub VARIABLES : List VarId
VARIABLES = variable_of 0 ∷ variable_of 1 ∷ variable_of 2 ∷ variable_of 3 ∷ []

variable_met : (n k : ℕ) → n < 4 → VariableIn VARIABLES (mark (variable_of n) k)
variable_met zero k l = refl
variable_met (suc zero) k l = refl
variable_met (suc (suc zero)) k l = refl
variable_met (suc (suc (suc zero))) k l = refl
variable_met (suc (suc (suc (suc n)))) k l = absurd (omega (arith, l))

pub variable_made : {kind : ItemKind} → IsMade TOP kind → VariableIn VARIABLES kind
variable_made (adds rd rs rt k a b c l) = tt
variable_made (copies rd rs k a b l) = tt
variable_made gives = tt
variable_made (sets rd n k a l m) = tt
variable_made (stores rs n a l) = tt
variable_made (loads rd n k a l m) = tt
variable_made (phis rs k a l) = tt
variable_made (marks n k l m) = variable_met n k l
variable_made (branches rs n a l) = tt
variable_made (jumps n l) = tt
variable_made returns = tt

-- ---- no object is named, and none is accessed

object_copied : (rd rs : ℕ) (k : Option ℕ) → object_named (copy rd rs k) ≡ None
object_copied rd zero k = refl
object_copied rd (suc rs) k = refl

object_made : {kind : ItemKind} → IsMade TOP kind → object_named kind ≡ None
object_made (adds rd rs rt k a b c l) = refl
object_made (copies rd rs k a b l) = object_copied rd rs (Some k)
object_made gives = refl
object_made (sets rd n k a l m) = refl
object_made (stores rs n a l) = refl
object_made (loads rd n k a l m) = refl
object_made (phis rs k a l) = refl
object_made (marks n k l m) = refl
object_made (branches rs n a l) = refl
object_made (jumps n l) = refl
object_made returns = refl

pub names_none : (m : ℕ) (i : Item) → IsMade TOP i.kind → KnownKind SLOTS i.kind → names_object m i ≡ false
names_none m i made known =
    ap (λ (k : ItemKind). option_map_or (λ n. eqb m n) (object_named k) false) (judged_made made known)
    ∙ ap (λ (o : Option ℕ). option_map_or (λ n. eqb m n) o false) (object_made made)

stays_copied : (rd rs : ℕ) (k : Option ℕ) → kind_stays false [] (copy rd rs k) ≡ true
stays_copied rd zero k = refl
stays_copied rd (suc rs) k = refl

pub stays_made : {kind : ItemKind} → IsMade TOP kind → kind_stays false [] kind ≡ true
stays_made (adds rd rs rt k a b c l) = refl
stays_made (copies rd rs k a b l) = stays_copied rd rs (Some k)
stays_made gives = refl
stays_made (sets rd n k a l m) = refl
stays_made (stores rs n a l) = refl
stays_made (loads rd n k a l m) = refl
stays_made (phis rs k a l) = refl
stays_made (marks n k l m) = refl
stays_made (branches rs n a l) = refl
stays_made (jumps n l) = refl
stays_made returns = refl

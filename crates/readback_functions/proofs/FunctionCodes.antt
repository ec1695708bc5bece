-- What is known of each item of a function that was read, and what is left of it without its debug items.
use Rattle.std.proofs.Common.{◌≡◌, ℕ, ◌≤◌, Bool, true, false, cond, ◌||◌, List, [], ◌∷◌, length, All, Option, Some, None, Result, Ok, Err}
use Rattle.std.proofs.Common.{refl, sym, ap, subst, ◌∙◌, arith}
use Rattle.std.specs.Prelude.{IsTrue}
use Rattle.std.specs.List.{list_any}
use Rattle.std.proofs.lemmas.Bool.{false≢true}
use Rattle.std.proofs.lemmas.List.{length-map}
use Rattle.std.proofs.lemmas.List.Elements.{All-map, All-weaker}
use Rattle.read_refusal.specs.declared.kind.RefusalKind.{RefusalKind}
use Rattle.rv64_instr.specs.declared.op.Op.{Op}
use Rattle.rv64_instr.specs.declared.operand.Operand.{Operand}
use Rattle.rv64_instr.specs.declared.operand.Operand.TheVariants.{Slot, Object}
use Rattle.rv64_instr.specs.Form.{has_form}
use Rattle.rv64_instr.specs.Instruction.{Instruction}
use Rattle.read_metadata.specs.Maps.{Maps}
use Rattle.mir_func.specs.declared.item.Item.{Item}
use Rattle.mir_func.specs.declared.item.ItemKind.{ItemKind}
use Rattle.mir_func.specs.declared.item.ItemKind.TheVariants.{Code, Mark, Phi}
use Rattle.mir_func.specs.declared.location.Loc.{Loc}
use Rattle.mir_func.specs.Sound.{IsNotPointer}
use Rattle.read_line.specs.declared.form.BodyLine.TheVariants.{Item as OfItem}
use Rattle.read_line.specs.declared.form.ItemForm.{ItemForm}
use Rattle.read_line.specs.declared.form.OperandForm.{OperandForm}
use Rattle.read_line.specs.declared.form.OperandForm.TheVariants as form
use Rattle.read_line.specs.Body.{body_line_of}
use Rattle.read_item.specs.declared.judged.Judged.TheVariants as judged_as
use Rattle.read_item.specs.declared.judged.JudgedItem.{JudgedItem}
use Rattle.read_item.specs.declared.debug.MarkForm.{MarkForm}
use Rattle.read_item.specs.declared.debug.PhiForm.{PhiForm}
use Rattle.read_item.specs.declared.opcode.DebugOpcode.{DebugOpcode}
use Rattle.read_item.specs.declared.opcode.DebugOpcode.TheVariants as debug
use Rattle.read_item.specs.declared.opcode.Opcode.{Opcode}
use Rattle.read_item.specs.declared.opcode.Opcode.TheVariants as opcodes
use Rattle.read_item.specs.Code.{MAX_OPERANDS, code_of}
use Rattle.read_item.specs.Debug.{value_mark, reference_mark, list_mark, phi_of, inlined_at, mark_kind, phi_kind, debug_kind, debug_of}
use Rattle.read_item.specs.Judge.{entries_of, numbered, item_of, two_of, passed_if, judged_by, judged}
use Rattle.read_item.specs.Address.{address_of}
use Rattle.read_item.specs.Opcode.{opcode_of, is_read}
use Rattle.read_body.specs.FirstUseOrder.{is_met}
use Rattle.read_program.specs.Limited.{IsLimited, IsOperandOf, LocIsLimited}
use Rattle.read_program.specs.Objects.{operand_as, operands_as, instr_as}
use Rattle.read_program.proofs.Forms.{AllOf, FormFits, line_fits}
use Rattle.read_program.proofs.Items.{IsReadItem, item_reads}
use Rattle.read_program.proofs.Judged.{code_line, debug_line, judged_line, Judges, judges_one}
use Rattle.read_program.proofs.Lists.{both}
use Rattle.read_program.proofs.Operands.{NamesAmong, small_text}
use Rattle.read_program.proofs.Printed.{form_kept, renamed}
use Rattle.readback_items.specs.Again.{is_fixed}
use Rattle.readback_items.specs.Code.{judged_instruction, IsCode}
use Rattle.readback_items.proofs.Again.{code_is_judged_again}
use Rattle.readback_items.proofs.Few.{few_operands}

-- ---- code of a line

-- some opcode and line mean this code
pub record IsMeant (line : ItemForm) (c : Instruction) : Type 0 where
  pub op : Op
  pub is : code_of op line ≡ Ok c

module _ (line : ItemForm) (c : Instruction) (k : Option ℕ) where
  numbered_code : (op : Op) (read : Result Instruction RefusalKind) → code_of op line ≡ read → (j : JudgedItem) →
      item_of line (numbered line.number read) ≡ Ok (judged_as.Item j) → j.kind ≡ Code c k → IsMeant line c
  numbered_code op (Err refusal) is j e kind = absurd cc
  numbered_code op (Ok i) is j e kind =
      let item : record { kind = Code i line.number; loc = line.loc; entries = entries_of line.operands } ≡ j = cc in
      let both : Code i line.number ≡ Code c k = ap (λ (x : JudgedItem). x.kind) item ∙ kind in
      let same : i ≡ c = cc in
      record { op = op; is = is ∙ ap (λ (x : Instruction). Ok x) same }

  no_mark : (inlined : Option ℕ) (m : Option MarkForm) → mark_kind inlined m ≡ Some (Code c k) → ⊥
  no_mark inlined None e = cc
  no_mark inlined (Some m) e = cc

  no_phi : (p : Option PhiForm) → phi_kind p ≡ Some (Code c k) → ⊥
  no_phi None e = cc
  no_phi (Some p) e = cc

  no_debug_kind : (meta : Maps) (op : DebugOpcode) → debug_kind op meta line ≡ Some (Code c k) → ⊥
  no_debug_kind meta debug.Value e = no_mark (inlined_at meta line.loc) (value_mark line.operands) e
  no_debug_kind meta debug.InstrRef e = no_mark (inlined_at meta line.loc) (reference_mark line.operands) e
  no_debug_kind meta debug.ValueList e = no_mark (inlined_at meta line.loc) (list_mark line.operands) e
  no_debug_kind meta debug.Phi e = no_phi (phi_of line.operands) e

  no_debug : (meta : Maps) (op : DebugOpcode) (read : Result ItemKind RefusalKind) → debug_of op meta line ≡ read → (j : JudgedItem) →
      item_of line read ≡ Ok (judged_as.Item j) → j.kind ≡ Code c k → ⊥
  no_debug meta op (Err refusal) is j e kind = cc
  no_debug meta op (Ok i) is j e kind =
      let item : record { kind = i; loc = line.loc; entries = entries_of line.operands } ≡ j = cc in
      let same : i ≡ Code c k = ap (λ (x : JudgedItem). x.kind) item ∙ kind in
      no_debug_kind meta op ((debug_line op meta line i is).kind_is ∙ ap (λ (x : ItemKind). Some x) same)

  no_item : (b : Bool) (j : JudgedItem) → passed_if b ≡ Ok (judged_as.Item j) → ⊥
  no_item true j e = cc
  no_item false j e = cc

  no_two : (read : Result (Instruction × Instruction) RefusalKind) (j : JudgedItem) → two_of line read ≡ Ok (judged_as.Item j) → ⊥
  no_two (Ok halves) j e = cc
  no_two (Err refusal) j e = cc

  meant_by : (meta : Maps) (op : Option Opcode) (j : JudgedItem) → judged_by false op meta line ≡ Ok (judged_as.Item j) → j.kind ≡ Code c k → IsMeant line c
  meant_by meta None j e kind = absurd cc
  meant_by meta (Some (opcodes.Code op)) j e kind = numbered_code op (code_of op line) refl j e kind
  meant_by meta (Some opcodes.Address) j e kind = absurd (no_two (address_of line) j e)
  meant_by meta (Some (opcodes.Debug op)) j e kind = absurd (no_debug meta op (debug_of op meta line) refl j e kind)
  meant_by meta (Some opcodes.Label) j e kind = absurd (no_item _ j e)
  meant_by meta (Some opcodes.Pseudo) j e kind = absurd cc
  meant_by meta (Some opcodes.CallFrame) j e kind = absurd (no_item _ j e)

  pub meant : (meta : Maps) (j : JudgedItem) → judged false meta line ≡ Ok (judged_as.Item j) → j.kind ≡ Code c k → IsMeant line c
  unfolding judged
  meant meta j e kind = meant_by meta (opcode_of false line.opcode) j e kind

-- ---- what is known of code

-- code that was read, but not in the linked language, by the stack entries that lines name
pub record IsKnownCode (entries : List ℕ) (c : Instruction) : Type 0 where
  pub again : (ids : List ℕ) → judged_instruction (instr_as ids c) ≡ c
  pub form : has_form c.op c.operands ≡ true
  pub limited : All IsLimited c.operands
  pub language : All (IsOperandOf false) c.operands
  pub named : All (NamesAmong entries) c.operands
  pub pointer : All IsNotPointer c.operands
  pub few : length c.operands ≤ MAX_OPERANDS
  pub read : IsTrue (is_read false c.op)
  pub plain : c.volatile ≡ true → false ≡ true

abbrev pub KnownKind : List ℕ → ItemKind → Type 0
KnownKind entries (Code c k) = IsKnownCode entries c
KnownKind entries (Mark v m) = Unit {0}
KnownKind entries (Phi p k) = Unit {0}

pub record IsKnownItem (entries : List ℕ) (kind : ItemKind) (loc : Loc) : Type 0 where
  pub kind_is : KnownKind entries kind
  pub place : LocIsLimited loc

-- no fixed stack object is read but in the linked language
plain_forms : (os : List OperandForm) → AllOf (FormFits false) os → list_any is_fixed os ≡ false
plain_forms [] fits = refl
plain_forms (o ∷ os) fits = ap (λ (b : Bool). b || list_any is_fixed os) (by o fits.0) ∙ plain_forms os fits.1 where
  by : (x : OperandForm) → FormFits false x → is_fixed x ≡ false
  by (form.Fixed n) other = absurd (false≢true other)
  by x fits = refl

pub item_known : (meta : Maps) (end : List ℕ) (kind : ItemKind) (loc : Loc) (line : ItemForm) (j : JudgedItem) (text : List ℕ) →
    body_line_of false text ≡ Ok (OfItem line) → Judges (judged false meta line) j → j.kind ≡ kind → j.loc ≡ loc →
    ((n : ℕ) → is_met n j.entries ≡ true → is_met n end ≡ true) → IsKnownItem end kind loc
item_known meta end kind loc line j text says means kind_is loc_is entries =
    let read = item_reads false meta end line j (line_fits false text line says) (judged_line false meta line j means) entries in
    record { kind_is = by kind kind_is; place = subst LocIsLimited loc_is read.place }
  where
    by : (x : ItemKind) → j.kind ≡ x → KnownKind end x
    by (Mark v m) e = tt
    by (Phi p k) e = tt
    by (Code c k) e =
        let read = item_reads false meta end line j (line_fits false text line says) (judged_line false meta line j means) entries in
        let is = meant line c k meta j (judges_one meta line j means) e in
        let all = subst (λ (x : ItemKind). IsReadItem false meta end x j.loc) e read in
        record {
          again = λ ids. code_is_judged_again is.op line c ids (plain_forms line.operands (line_fits false text line says).operands) is.is;
          form = all.form;
          limited = all.limited.0;
          language = all.language.0;
          named = all.named;
          pointer = all.pointer;
          few = few_operands is.op line c (code_line is.op line c is.is);
          read = all.language.1;
          plain = all.language.2;
        }

-- ---- code where stack entries are objects

operand_limited : (ids : List ℕ) (o : Operand) → IsLimited o → IsLimited (operand_as ids o)
operand_limited ids (Slot n) small = by (is_met n ids) where
  by : (b : Bool) → IsLimited (cond b (Object n) (Slot n))
  by true = small_text n small
  by false = small
operand_limited ids _ small = small

operand_language : (ids : List ℕ) (o : Operand) → IsOperandOf false o × IsLimited o → IsOperandOf false (operand_as ids o)
operand_language ids (Slot n) is = by (is_met n ids) where
  by : (b : Bool) → IsOperandOf false (cond b (Object n) (Slot n))
  by true = λ great. absurd (omega (arith, is.1, great))
  by false = tt
operand_language ids _ is = is.0

operand_named : (ids entries : List ℕ) (o : Operand) → NamesAmong entries o → NamesAmong entries (operand_as ids o)
operand_named ids entries (Slot n) is = by (is_met n ids) where
  by : (b : Bool) → NamesAmong entries (cond b (Object n) (Slot n))
  by true = is.1
  by false = is
operand_named ids entries _ is = is

operand_pointer : (ids : List ℕ) (o : Operand) → IsNotPointer o → IsNotPointer (operand_as ids o)
operand_pointer ids (Slot n) is = by (is_met n ids) where
  by : (b : Bool) → IsNotPointer (cond b (Object n) (Slot n))
  by true = tt
  by false = tt
operand_pointer ids _ is = is

-- what holds of each operand where entries are objects
all_as : (P : Operand → Type 0) (ids : List ℕ) (c : Instruction) → has_form c.op c.operands ≡ true → ((o : Operand) → P o → P (operand_as ids o)) →
    All P c.operands → All P (instr_as ids c).operands
all_as P ids c form each all = subst (λ (i : Instruction). All P i.operands) (sym (renamed ids c form))
    (All-map P (operand_as ids) c.operands (All-weaker P (λ o. P (operand_as ids o)) each c.operands all))

module _ (ids entries : List ℕ) (c : Instruction) (is : IsKnownCode entries c) where
  pub code_limited : All IsLimited (instr_as ids c).operands
  code_limited = all_as IsLimited ids c is.form (operand_limited ids) is.limited

  pub code_language : All (IsOperandOf false) (instr_as ids c).operands
  code_language = subst (λ (i : Instruction). All (IsOperandOf false) i.operands) (sym (renamed ids c is.form))
      (All-map (IsOperandOf false) (operand_as ids) c.operands (All-weaker (λ o. IsOperandOf false o × IsLimited o)
      (λ o. IsOperandOf false (operand_as ids o)) (operand_language ids) c.operands (both (IsOperandOf false) IsLimited c.operands is.language is.limited)))

  pub code_read : IsTrue (is_read false (instr_as ids c).op)
  code_read = subst (λ (i : Instruction). IsTrue (is_read false i.op)) (sym (renamed ids c is.form)) is.read

  pub code_plain : (instr_as ids c).volatile ≡ true → false ≡ true
  code_plain = subst (λ (i : Instruction). i.volatile ≡ true → false ≡ true) (sym (renamed ids c is.form)) is.plain

  pub code_named : All (NamesAmong entries) (instr_as ids c).operands
  code_named = all_as (NamesAmong entries) ids c is.form (operand_named ids entries) is.named

  pub code_is : IsCode (instr_as ids c)
  code_is = subst IsCode (sym (renamed ids c is.form)) (record {
    form = form_kept ids c.op c.operands is.form;
    pointer = All-map IsNotPointer (operand_as ids) c.operands
        (All-weaker IsNotPointer (λ o. IsNotPointer (operand_as ids o)) (operand_pointer ids) c.operands is.pointer);
    few = (let same = length-map c.operands (operand_as ids) in omega (arith, same, is.few));
  })

-- the same entries are objects
same_operand : (ids others : List ℕ) → ((n : ℕ) → is_met n ids ≡ is_met n others) → (o : Operand) → operand_as ids o ≡ operand_as others o
same_operand ids others same (Slot n) = ap (λ (b : Bool). cond b (Object n) (Slot n)) (same n)
same_operand ids others same _ = refl

same_operands : (ids others : List ℕ) → ((n : ℕ) → is_met n ids ≡ is_met n others) → (os : List Operand) → operands_as ids os ≡ operands_as others os
same_operands ids others same [] = refl
same_operands ids others same (o ∷ os) = λ i. same_operand ids others same o i ∷ same_operands ids others same os i

pub same_code : (ids others : List ℕ) → ((n : ℕ) → is_met n ids ≡ is_met n others) → (c : Instruction) → instr_as ids c ≡ instr_as others c
same_code ids others same c =
    ap (λ (os : List Operand). cond (has_form c.op os) (record c { operands = os }) c) (same_operands ids others same c.operands)

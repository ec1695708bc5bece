-- The form of an item's line is judged as the item.
use Rattle.std.proofs.Common.{◌≡◌, ℕ, ◌+◌, Bool, true, false, cond, not, ◌&&◌, ◌||◌, List, [], ◌∷◌, length, drop, Option, Some, None, Result, Ok, refl, sym, ap}
use Rattle.std.proofs.Common.{subst, ◌∙◌, arith}
use Rattle.std.specs.List.{list_any, zip}
use Rattle.std.proofs.lemmas.Bool.{le-ltb, or_parts}
use Rattle.std.proofs.lemmas.List.Elements.{All-weaker}
use Rattle.read_refusal.specs.declared.kind.RefusalKind.{RefusalKind}
use Rattle.read_refusal.specs.declared.kind.RefusalKind.TheVariants as kinds
use Rattle.rv64_instr.specs.declared.op.Op.{Op}
use Rattle.rv64_instr.specs.declared.operand.Operand.{Operand}
use Rattle.std.specs.Prelude.{All, IsTrue}
use Rattle.rv64_instr.specs.Instruction.{Instruction}
use Rattle.rv64_instr.specs.Mnemonic.{mnemonic_of}
use Rattle.rv64_instr.proofs.Names.{mnemonic_of-injective}
use Rattle.read_metadata.specs.Maps.{Maps}
use Rattle.mir_func.specs.declared.item.Item.{Item}
use Rattle.mir_func.specs.declared.item.ItemKind.{ItemKind}
use Rattle.mir_func.specs.declared.item.ItemKind.TheVariants.{Code, Mark, Phi}
use Rattle.mir_func.specs.declared.location.Loc.{Loc}
use Rattle.mir_func.specs.declared.position.Origin.{Origin}
use Rattle.read_line.specs.declared.form.BodyLine.{BodyLine}
use Rattle.read_line.specs.declared.form.BodyLine.TheVariants.{Item as OfItem}
use Rattle.read_line.specs.declared.form.ItemForm.{ItemForm}
use Rattle.read_line.specs.declared.form.OperandForm.{OperandForm}
use Rattle.read_line.specs.declared.form.OperandForm.TheVariants as form
use Rattle.read_line.specs.declared.form.FormError.{FormError}
use Rattle.read_item.specs.declared.judged.Judged.TheVariants as judged_as
use Rattle.read_item.specs.declared.opcode.Opcode.{Opcode}
use Rattle.read_item.specs.declared.opcode.Opcode.TheVariants as opcodes
use Rattle.read_item.specs.Code.{refusal_by, joined, definitions, placed, names_slot, places_of, fits, is_refused_virtual, is_refused_operand, is_pointer}
use Rattle.read_item.specs.Code.{begins_with_virtual, names_refused}
use Rattle.read_item.specs.Code.{is_pointer_operand, is_misplaced, is_long, code_rules, operands_of, instruction, unless_refused, code_of}
use Rattle.read_item.specs.Code.{placed_behind_callee, has_implicit_callee}
use Rattle.read_item.specs.Judge.{entries_of, numbered, item_of, judged_by, judged}
use Rattle.read_item.specs.Opcode.{debug_opcode_of, opcode_or, opcode_of, is_read}
use Rattle.read_item.specs.Place.{places}
use Rattle.read_item.proofs.Named.{named_op}
use Rattle.readback_items.specs.Debug.{IsDebug}
use Rattle.readback_items.specs.Forms.{code_form, kind_form, form_of}
use Rattle.read_program.specs.Limited.{IsLimited}
use Rattle.read_program.proofs.Operands.{IsLimitedIn, limited_in, all_in_language, not_volatile}
use Rattle.readback_items.specs.Laws.{IsWritable}
use Rattle.readback_items.proofs.Judged.{debug_lines_read_back}
use Rattle.readback_items.proofs.Opcodes.{no_callee}
use Rattle.readback_items.proofs.Said.{lines_say_forms}
use Rattle.readback_items.specs.Code.{judged_operands, judged_instruction, judged_kind, IsCode, IsReadable, FormsAreJudged}
use Rattle.readback_items.proofs.Clean.{sets_of, uses_of, Clean, clean}
use Rattle.readback_items.proofs.Forms.{Given, operands_given}

-- ---- code

none_broken : (a b c d f : Bool) (j k l m n : RefusalKind) → a ≡ false → b ≡ false → c ≡ false → d ≡ false → f ≡ false →
    cond a (Some j) (cond b (Some k) (cond c (Some l) (cond d (Some m) (cond f (Some n) None)))) ≡ None
none_broken false false false false false j k l m n p q r s t = refl
none_broken true b c d f j k l m n p q r s t = absurd cc
none_broken false true c d f j k l m n p q r s t = absurd cc
none_broken false false true d f j k l m n p q r s t = absurd cc
none_broken false false false true f j k l m n p q r s t = absurd cc
none_broken false false false false true j k l m n p q r s t = absurd cc

module _ (i : Instruction) (number : Option ℕ) (loc : Loc) (is : IsCode i) (small : All (IsLimitedIn false) i.operands) (read : IsTrue (is_read false i.op))
    (language : i.volatile ≡ true → false ≡ true) where
  abbrev line : ItemForm
  line = code_form i number loc

  given : Given i.op i.operands
  given = operands_given i.op i.operands is.form small read

  plain : Clean (sets_of i.operands) (uses_of i.operands) (length i.operands)
  plain = clean i.operands (All-weaker (IsLimitedIn false) IsLimited (limited_in false) i.operands small) is.pointer

  by_slot : (b : Bool) → names_slot i.op (uses_of i.operands) ≡ b →
      joined (definitions (sets_of i.operands)) (placed (places i.op b) (uses_of i.operands)) ≡ Some (judged_operands i.op i.operands) →
      joined (definitions (sets_of i.operands)) (placed (places i.op (names_slot i.op (uses_of i.operands))) (uses_of i.operands)) ≡
      Some (judged_operands i.op i.operands)
  by_slot b same e = ap (λ (s : Bool). joined (definitions (sets_of i.operands)) (placed (places i.op s) (uses_of i.operands))) same ∙ e

  operands_are : operands_of i.op line ≡ Some (judged_operands i.op i.operands)
  unfolding operands_of
  operands_are =
      ap (λ (b : Bool). joined (definitions (sets_of i.operands)) (cond b (placed_behind_callee (places i.op (names_slot i.op (uses_of i.operands)))
      (uses_of i.operands)) (placed (places i.op (names_slot i.op (uses_of i.operands))) (uses_of i.operands)))) (no_callee i.op read)
      ∙ by_slot given.slot given.slot_is given.operands

  in_place : list_any is_misplaced (zip (places_of i.op line) (uses_of i.operands)) ≡ false
  in_place = ap (λ (s : Bool). list_any is_misplaced (zip (places i.op s) (uses_of i.operands))) given.slot_is ∙ given.in_place

  fits_all : (not (fits i.op (operands_of i.op line)) || false) ≡ false
  fits_all = ap (λ (b : Bool). b || false) (ap (λ (o : Option (List Operand)). not (fits i.op o)) operands_are ∙ ap not given.form)

  known : (list_any is_refused_virtual (sets_of i.operands) || list_any is_refused_operand (uses_of i.operands)) ≡ false
  known = ap (λ (b : Bool). b || list_any is_refused_operand (uses_of i.operands)) plain.set_known ∙ plain.used_known

  -- no register that is refused is virtual
  physical : names_refused i.op line ≡ false
  physical =
      ap (λ (b : Bool). b || (has_implicit_callee i.op && begins_with_virtual (uses_of i.operands))) known
      ∙ ap (λ (b : Bool). b && begins_with_virtual (uses_of i.operands)) (no_callee i.op read)

  others : (list_any is_pointer (sets_of i.operands) || list_any is_pointer_operand (uses_of i.operands)) ≡ false
  others = ap (λ (b : Bool). b || list_any is_pointer_operand (uses_of i.operands)) plain.set_others ∙ plain.used_others

  short : is_long line ≡ false
  short = le-ltb 64 (length (sets_of i.operands) + length (uses_of i.operands)) (omega (arith, plain.count, is.few))

  unbroken : refusal_by (code_rules i.op line) ≡ None
  unbroken = none_broken (not (fits i.op (operands_of i.op line)) || false) (names_refused i.op line)
      (list_any is_pointer (sets_of i.operands) || list_any is_pointer_operand (uses_of i.operands))
      (list_any is_misplaced (zip (places_of i.op line) (uses_of i.operands))) (is_long line) kinds.BadOperands kinds.VirtualRegister
      kinds.StackPointerUse kinds.StackObject kinds.TooMany fits_all physical others in_place short

  code_is : code_of i.op line ≡ Ok (judged_instruction i)
  unfolding code_of
  code_is =
      ap (λ (o : Option RefusalKind). unless_refused o (instruction i.op false (operands_of i.op line))) unbroken
      ∙ (ap (λ (o : Option (List Operand)). Ok (instruction i.op false o)) operands_are
      ∙ (λ j. Ok (record { op = i.op; operands = judged_operands i.op i.operands; volatile = sym (not_volatile i.volatile language) j })))

  opcode_is : opcode_of false (mnemonic_of i.op) ≡ Some (opcodes.Code i.op)
  unfolding opcode_of
  opcode_is = ap (λ (o : Option Op). opcode_or o (debug_opcode_of (mnemonic_of i.op)))
      (sym (ap (λ (b : Bool). cond b (Some i.op) None) (sym read) ∙ named_op false (mnemonic_of i.op) (Some i.op) refl
      (λ op e. ap (λ (x : Op). Some x) (mnemonic_of-injective i.op op e))))

  pub code_judged : (meta : Maps) → judged false meta line ≡
      Ok (judged_as.Item (record { kind = Code (judged_instruction i) number; loc = loc; entries = entries_of line.operands }))
  unfolding judged
  code_judged meta =
      ap (λ (o : Option Opcode). judged_by false o meta line) opcode_is
      ∙ ap (λ (r : Result Instruction RefusalKind). item_of line (numbered number r)) code_is

-- ---- debug items

same_form : (a b : ItemForm) → ◌≡◌ {A = Result BodyLine FormError} (Ok (OfItem a)) (Ok (OfItem b)) → a ≡ b
same_form a b e = cc

debug_judged : (meta : Maps) (i : Item) → IsWritable i → IsDebug meta i.loc i.kind →
    judged false meta (form_of i) ≡ Ok (judged_as.Item (record { kind = i.kind; loc = i.loc; entries = entries_of (form_of i).operands }))
debug_judged meta i writable is =
    let read = debug_lines_read_back meta i writable is in
    subst (λ (f : ItemForm). judged false meta f ≡ Ok (judged_as.Item (record { kind = i.kind; loc = i.loc; entries = entries_of f.operands })))
    (same_form read.form (form_of i) (sym read.says ∙ lines_say_forms i writable)) read.means

-- ---- all

by_kind : (meta : Maps) (kind : ItemKind) (origin : Origin) (loc : Loc) → IsWritable (record { kind = kind; origin = origin; loc = loc }) →
    IsReadable meta loc kind → judged false meta (kind_form kind loc) ≡
    Ok (judged_as.Item (record { kind = judged_kind kind; loc = loc; entries = entries_of (kind_form kind loc).operands }))
by_kind meta (Code i k) origin loc writable is =
    code_judged i k loc is (all_in_language false i.operands writable.kind.0 writable.language.0) writable.language.1 writable.language.2 meta
by_kind meta (Mark v m) origin loc writable is = debug_judged meta (record { kind = Mark v m; origin = origin; loc = loc }) writable is
by_kind meta (Phi p k) origin loc writable is = debug_judged meta (record { kind = Phi p k; origin = origin; loc = loc }) writable is

pub forms_are_judged : FormsAreJudged
forms_are_judged meta i writable is = by_kind meta i.kind i.origin i.loc writable is

-- The operands of a printed line, each in its place.
use Rattle.std.proofs.Common.{◌≡◌, Bool, true, false, cond, not, List, ◌++◌, Some, map, refl, sym, ap, subst, ◌∙◌}
use Rattle.std.specs.Prelude.{filter}
use Rattle.std.specs.List.{list_any, zip}
use Rattle.std.proofs.lemmas.List.{map-append, append-nil}
use Rattle.std.proofs.lemmas.List.Concat.{flat_map-append}
use Rattle.std.proofs.lemmas.List.Elements.{filter-append}
use Rattle.rv64_instr.specs.declared.op.Op.{Op}
use Rattle.rv64_instr.specs.declared.operand.Operand.{Operand}
use Rattle.rv64_instr.specs.Form.{has_form}
use Rattle.read_line.specs.declared.form.OperandForm.{OperandForm}
use Rattle.read_line.specs.declared.form.RegisterForm.{RegisterForm}
use Rattle.read_item.specs.Code.{joined, definitions, placed, names_slot, is_misplaced}
use Rattle.read_item.specs.Place.{places}
use Rattle.mir_printer.specs.Printable.{as_slot}
use Rattle.mir_printer.specs.Spelling.{is_definition}
use Rattle.readback_items.specs.Forms.{operand_form, set_register}
use Rattle.readback_items.specs.Code.{judged_operands}
use Rattle.readback_items.proofs.Clean.{sets_of, uses_of}
use Rattle.readback_items.proofs.Tails.{Tail}

-- the operands of a line give these operands
pub record Gives (op : Op) (sets : List RegisterForm) (uses : List OperandForm) (made : List Operand) : Type 0 where
  pub slot : Bool
  pub slot_is : names_slot op uses ≡ slot
  pub operands : joined (definitions sets) (placed (places op slot) uses) ≡ Some made
  pub in_place : list_any is_misplaced (zip (places op slot) uses) ≡ false
  pub form : has_form op made ≡ true

either : {A : Type 0} (b : Bool) (x : A) → cond b x x ≡ x
either true x = refl
either false x = refl

module _ (op : Op) (front rest : List Operand) (t : Tail rest) where
  sets_are : sets_of (front ++ rest) ≡ sets_of front
  sets_are =
      flat_map-append set_register front rest ∙ ap (λ (fs : List RegisterForm). sets_of front ++ fs) t.sets ∙ append-nil (sets_of front)

  abbrev is_use : Operand → Bool
  is_use o = not (is_definition o)

  uses_are : uses_of (front ++ rest) ≡ uses_of front ++ map operand_form rest
  uses_are =
      ap (map operand_form) (filter-append is_use front rest)
      ∙ map-append operand_form (filter is_use front) (filter is_use rest)
      ∙ ap (λ (os : List Operand). uses_of front ++ map operand_form os) t.uses

  slots_are : (as_slots : List Operand) → map as_slot front ≡ as_slots → map as_slot (front ++ rest) ≡ as_slots ++ rest
  slots_are as_slots same =
      map-append as_slot front rest ∙ ap (λ (os : List Operand). map as_slot front ++ os) t.slots ∙ ap (λ (os : List Operand). os ++ rest) same

  -- no object among the front
  same_operands : map as_slot front ≡ front → judged_operands op (front ++ rest) ≡ front ++ rest
  same_operands same =
      ap (λ (os : List Operand). cond (has_form op os) os (front ++ rest)) (slots_are front same) ∙ either (has_form op (front ++ rest)) (front ++ rest)

  pub given : (made : List Operand) → judged_operands op (front ++ rest) ≡ made →
      Gives op (sets_of front) (uses_of front ++ map operand_form rest) made →
      Gives op (sets_of (front ++ rest)) (uses_of (front ++ rest)) (judged_operands op (front ++ rest))
  given made is g =
      subst (λ (fs : List RegisterForm). Gives op fs (uses_of (front ++ rest)) (judged_operands op (front ++ rest))) (sym sets_are)
      (subst (λ (fs : List OperandForm). Gives op (sets_of front) fs (judged_operands op (front ++ rest))) (sym uses_are)
      (subst (Gives op (sets_of front) (uses_of front ++ map operand_form rest)) (sym is) g))

  pub given_same : map as_slot front ≡ front → Gives op (sets_of front) (uses_of front ++ map operand_form rest) (front ++ rest) →
      Gives op (sets_of (front ++ rest)) (uses_of (front ++ rest)) (judged_operands op (front ++ rest))
  given_same same = given (front ++ rest) (same_operands same)

  -- an object among the front, where a slot has the form, and where it hasn't
  pub given_slots : (as_slots : List Operand) → map as_slot front ≡ as_slots → has_form op (as_slots ++ rest) ≡ true →
      Gives op (sets_of front) (uses_of front ++ map operand_form rest) (as_slots ++ rest) →
      Gives op (sets_of (front ++ rest)) (uses_of (front ++ rest)) (judged_operands op (front ++ rest))
  given_slots as_slots same form = given (as_slots ++ rest)
      (ap (λ (os : List Operand). cond (has_form op os) os (front ++ rest)) (slots_are as_slots same)
      ∙ ap (λ (b : Bool). cond b (as_slots ++ rest) (front ++ rest)) form)

  pub given_objects : (as_slots : List Operand) → map as_slot front ≡ as_slots → has_form op (as_slots ++ rest) ≡ false →
      Gives op (sets_of front) (uses_of front ++ map operand_form rest) (front ++ rest) →
      Gives op (sets_of (front ++ rest)) (uses_of (front ++ rest)) (judged_operands op (front ++ rest))
  given_objects as_slots same form = given (front ++ rest)
      (ap (λ (os : List Operand). cond (has_form op os) os (front ++ rest)) (slots_are as_slots same)
      ∙ ap (λ (b : Bool). cond b (as_slots ++ rest) (front ++ rest)) form)

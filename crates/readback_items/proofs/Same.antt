-- Operands that no stack entry changes.
use Rattle.std.proofs.Common.{◌≡◌, ℕ, Bool, true, false, cond, List, [], ◌∷◌, map, refl, ap, ◌∙◌}
use Rattle.std.specs.List.{list_all}
use Rattle.std.proofs.lemmas.Bool.{and_parts}
use Rattle.rv64_instr.specs.declared.op.Op.{Op}
use Rattle.rv64_instr.specs.declared.operand.Operand.{Operand}
use Rattle.rv64_instr.specs.declared.operand.Operand.TheVariants.{Def, Use, ImplicitDef, ImplicitUse, Imm, Slot, Object, Part, Outgoing, Block, Symbol, Mask}
use Rattle.rv64_instr.specs.declared.operand.Operand.TheVariants.{GlobalRegisters}
use Rattle.rv64_instr.specs.Form.{is_implicit, is_argument, is_result, has_form, is_held_tail_use}
use Rattle.read_body.specs.FirstUseOrder.{is_met}
use Rattle.read_program.specs.Objects.{operand_as, operands_as}
use Rattle.mir_printer.specs.Printable.{as_slot}
use Rattle.readback_items.specs.Code.{judged_operands}

-- an operand that is the same as a slot, and where entries are objects
pub record Stays (ids : List ℕ) (os : List Operand) : Type 0 where
  pub slots : map as_slot os ≡ os
  pub named : operands_as ids os ≡ os

abbrev pub IsPlain : Operand → Type 0
IsPlain (Slot n) = ⊥
IsPlain (Object n) = ⊥
IsPlain _ = Unit {0}

module _ (ids : List ℕ) where
  pub stays_none : Stays ids []
  stays_none = record { slots = refl; named = refl }

  pub stays_more : (o : Operand) (os : List Operand) → IsPlain o → Stays ids os → Stays ids (o ∷ os)
  stays_more (Slot n) os is s = absurd is
  stays_more (Object n) os is s = absurd is
  stays_more (Part half y) os is s =
      record { slots = ap (λ (l : List Operand). Part half y ∷ l) s.slots; named = ap (λ (l : List Operand). Part half y ∷ l) s.named }
  stays_more (Outgoing n) os is s =
      record { slots = ap (λ (l : List Operand). Outgoing n ∷ l) s.slots; named = ap (λ (l : List Operand). Outgoing n ∷ l) s.named }
  stays_more GlobalRegisters os is s =
      record { slots = ap (λ (l : List Operand). GlobalRegisters ∷ l) s.slots; named = ap (λ (l : List Operand). GlobalRegisters ∷ l) s.named }
  stays_more (Def r) os is s = record { slots = ap (λ (l : List Operand). Def r ∷ l) s.slots; named = ap (λ (l : List Operand). Def r ∷ l) s.named }
  stays_more (Use r) os is s = record { slots = ap (λ (l : List Operand). Use r ∷ l) s.slots; named = ap (λ (l : List Operand). Use r ∷ l) s.named }
  stays_more (ImplicitDef r) os is s =
      record { slots = ap (λ (l : List Operand). ImplicitDef r ∷ l) s.slots; named = ap (λ (l : List Operand). ImplicitDef r ∷ l) s.named }
  stays_more (ImplicitUse r) os is s =
      record { slots = ap (λ (l : List Operand). ImplicitUse r ∷ l) s.slots; named = ap (λ (l : List Operand). ImplicitUse r ∷ l) s.named }
  stays_more (Imm i) os is s = record { slots = ap (λ (l : List Operand). Imm i ∷ l) s.slots; named = ap (λ (l : List Operand). Imm i ∷ l) s.named }
  stays_more (Block n) os is s = record { slots = ap (λ (l : List Operand). Block n ∷ l) s.slots; named = ap (λ (l : List Operand). Block n ∷ l) s.named }
  stays_more (Symbol name) os is s =
      record { slots = ap (λ (l : List Operand). Symbol name ∷ l) s.slots; named = ap (λ (l : List Operand). Symbol name ∷ l) s.named }
  stays_more Mask os is s = record { slots = ap (λ (l : List Operand). Mask ∷ l) s.slots; named = ap (λ (l : List Operand). Mask ∷ l) s.named }

  all_stay : (p : Operand → Bool) → ((o : Operand) → p o ≡ true → IsPlain o) → (os : List Operand) → list_all p os ≡ true → Stays ids os
  all_stay p each [] e = stays_none
  all_stay p each (o ∷ os) e = let parts = and_parts (p o) (list_all p os) e in stays_more o os (each o parts.0) (all_stay p each os parts.1)

  implicit_plain : (o : Operand) → is_implicit o ≡ true → IsPlain o
  implicit_plain (Slot n) e = absurd cc
  implicit_plain (Object n) e = absurd cc
  implicit_plain o e = tt

  argument_plain : (o : Operand) → is_argument o ≡ true → IsPlain o
  argument_plain (Slot n) e = absurd cc
  argument_plain (Object n) e = absurd cc
  argument_plain o e = tt

  result_plain : (o : Operand) → is_result o ≡ true → IsPlain o
  result_plain (Slot n) e = absurd cc
  result_plain (Object n) e = absurd cc
  result_plain o e = tt

  tail_plain : (o : Operand) → is_held_tail_use o ≡ true → IsPlain o
  tail_plain (Slot n) e = absurd cc
  tail_plain (Object n) e = absurd cc
  tail_plain o e = tt

  pub implicits_stay : (os : List Operand) → list_all is_implicit os ≡ true → Stays ids os
  implicits_stay = all_stay is_implicit implicit_plain

  pub arguments_stay : (os : List Operand) → list_all is_argument os ≡ true → Stays ids os
  arguments_stay = all_stay is_argument argument_plain

  pub results_stay : (os : List Operand) → list_all is_result os ≡ true → Stays ids os
  results_stay = all_stay is_result result_plain

  pub tails_stay : (os : List Operand) → list_all is_held_tail_use os ≡ true → Stays ids os
  tails_stay = all_stay is_held_tail_use tail_plain

  either : (b : Bool) (os : List Operand) → cond b os os ≡ os
  either true os = refl
  either false os = refl

  -- operands that stay are judged again so
  pub stays_judged : (op : Op) (os : List Operand) → Stays ids os → judged_operands op (operands_as ids os) ≡ os
  stays_judged op os s =
      ap (judged_operands op) s.named ∙ ap (λ (l : List Operand). cond (has_form op l) l os) s.slots ∙ either (has_form op os) os

  -- a slot among the operands, which may be read as an object
  pub slot_named : (n : ℕ) → as_slot (operand_as ids (Slot n)) ≡ Slot n
  slot_named n = by (is_met n ids) where
    by : (b : Bool) → as_slot (cond b (Object n) (Slot n)) ≡ Slot n
    by true = refl
    by false = refl

  -- operands that have their form as slots are judged so
  pub slots_judged : (op : Op) (os named : List Operand) → map as_slot named ≡ os → has_form op os ≡ true → judged_operands op named ≡ os
  slots_judged op os named is form =
      ap (λ (l : List Operand). cond (has_form op l) l named) is ∙ ap (λ (b : Bool). cond b os named) form

  -- and those that don't have it stay
  pub objects_judged : (op : Op) (os : List Operand) → has_form op (map as_slot os) ≡ false → judged_operands op os ≡ os
  objects_judged op os form = ap (λ (b : Bool). cond b (map as_slot os) os) form

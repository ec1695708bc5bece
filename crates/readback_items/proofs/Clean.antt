-- No register of a printed line is a virtual one that is refused or the stack pointer, and no operand is lost.
use Rattle.std.proofs.Common.{◌≡◌, ℕ, suc, ◌+◌, ◌<◌, Bool, false, not, ◌||◌, List, [], ◌∷◌, All, length, map, refl, ap, ◌∙◌, arith}
use Rattle.std.specs.Prelude.{filter}
use Rattle.std.specs.List.{flat_map, list_any}
use Rattle.std.proofs.lemmas.List.Elements.{All-head, All-tail}
use Rattle.rv64_instr.specs.declared.operand.Operand.{Operand}
use Rattle.rv64_instr.specs.declared.operand.Operand.TheVariants.{Def, Use, ImplicitDef, ImplicitUse, Imm, Slot, Object, Part, Outgoing, Block, Symbol, Mask}
use Rattle.rv64_instr.specs.declared.operand.Operand.TheVariants.{GlobalRegisters}
use Rattle.mir_func.specs.Sound.{IsNotPointer}
use Rattle.read_token.specs.declared.lexeme.Flag.TheVariants as flags
use Rattle.read_line.specs.declared.form.OperandForm.{OperandForm}
use Rattle.read_line.specs.declared.form.RegisterForm.{RegisterForm}
use Rattle.read_item.specs.Code.{is_refused_virtual, is_refused_operand, is_pointer, is_pointer_operand}
use Rattle.mir_printer.specs.Spelling.{is_definition}
use Rattle.read_program.specs.Limited.{IsLimited}
use Rattle.readback_items.specs.Forms.{register_form, operand_form, set_register}
use Rattle.readback_items.proofs.Registers.{register_known, register_other}

pub record Clean (sets : List RegisterForm) (uses : List OperandForm) (n : ℕ) : Type 0 where
  pub set_known : list_any is_refused_virtual sets ≡ false
  pub used_known : list_any is_refused_operand uses ≡ false
  pub set_others : list_any is_pointer sets ≡ false
  pub used_others : list_any is_pointer_operand uses ≡ false
  pub count : length sets + length uses ≡ n

module _ (sets : List RegisterForm) (uses : List OperandForm) (n : ℕ) (c : Clean sets uses n) where
  set_more : (r : ℕ) → r < 4128 → (r ≡ 2 → ⊥) → Clean (register_form flags.Plain r ∷ sets) uses (suc n)
  set_more r small other = record {
    set_known = ap (λ (b : Bool). b || list_any is_refused_virtual sets) (register_known flags.Plain r small) ∙ c.set_known;
    used_known = c.used_known;
    set_others = ap (λ (b : Bool). b || list_any is_pointer sets) (register_other r other) ∙ c.set_others;
    used_others = c.used_others;
    count = omega (arith, c.count);
  }

  use_more : (f : OperandForm) → is_refused_operand f ≡ false → is_pointer_operand f ≡ false → Clean sets (f ∷ uses) (suc n)
  use_more f known other = record {
    set_known = c.set_known;
    used_known = ap (λ (b : Bool). b || list_any is_refused_operand uses) known ∙ c.used_known;
    set_others = c.set_others;
    used_others = ap (λ (b : Bool). b || list_any is_pointer_operand uses) other ∙ c.used_others;
    count = omega (arith, c.count);
  }

abbrev pub sets_of : List Operand → List RegisterForm
sets_of os = flat_map set_register os

abbrev pub uses_of : List Operand → List OperandForm
uses_of os = map operand_form (filter (λ o. not (is_definition o)) os)

clean_more : (o : Operand) (os : List Operand) → IsLimited o → IsNotPointer o → Clean (sets_of os) (uses_of os) (length os) →
    Clean (sets_of (o ∷ os)) (uses_of (o ∷ os)) (length (o ∷ os))
clean_more (Def r) os small other c = set_more (sets_of os) (uses_of os) (length os) c r small other
clean_more (Use r) os small other c =
    use_more (sets_of os) (uses_of os) (length os) c (operand_form (Use r)) (register_known flags.Plain r small) (register_other r other)
clean_more (ImplicitDef r) os small other c =
    use_more (sets_of os) (uses_of os) (length os) c (operand_form (ImplicitDef r)) (register_known flags.ImplicitDef r small) refl
clean_more (ImplicitUse r) os small other c =
    use_more (sets_of os) (uses_of os) (length os) c (operand_form (ImplicitUse r)) (register_known flags.Implicit r small) refl
clean_more (Imm i) os small other c = use_more (sets_of os) (uses_of os) (length os) c (operand_form (Imm i)) refl refl
clean_more (Slot n) os small other c = use_more (sets_of os) (uses_of os) (length os) c (operand_form (Slot n)) refl refl
clean_more (Object n) os small other c = use_more (sets_of os) (uses_of os) (length os) c (operand_form (Object n)) refl refl
clean_more (Part half y) os small other c = use_more (sets_of os) (uses_of os) (length os) c (operand_form (Part half y)) refl refl
clean_more (Outgoing n) os small other c = use_more (sets_of os) (uses_of os) (length os) c (operand_form (Outgoing n)) refl refl
clean_more GlobalRegisters os small other c = use_more (sets_of os) (uses_of os) (length os) c (operand_form GlobalRegisters) refl refl
clean_more (Block n) os small other c = use_more (sets_of os) (uses_of os) (length os) c (operand_form (Block n)) refl refl
clean_more (Symbol name) os small other c = use_more (sets_of os) (uses_of os) (length os) c (operand_form (Symbol name)) refl refl
clean_more Mask os small other c = use_more (sets_of os) (uses_of os) (length os) c (operand_form Mask) refl refl

pub clean : (os : List Operand) → All IsLimited os → All IsNotPointer os → Clean (sets_of os) (uses_of os) (length os)
clean [] small all = record { set_known = refl; used_known = refl; set_others = refl; used_others = refl; count = refl }
clean (o ∷ os) small all = clean_more o os (All-head IsLimited o os small) (All-head IsNotPointer o os all)
    (clean os (All-tail IsLimited o os small) (All-tail IsNotPointer o os all))

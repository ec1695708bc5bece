-- The symbols that a line's instruction names are those of its operands.
use Rattle.std.proofs.Common.{◌≡◌, ℕ, ℤ, pos, ◌<◌, Bool, true, false, cond, eqb, List, [], ◌∷◌, ◌++◌, All, Option, Some, None, Ok}
use Rattle.std.proofs.Common.{refl, subst}
use Rattle.std.proofs.lemmas.List.Elements.{All-nil, All-cons, All-append, All-map, All-weaker}
use Rattle.rv64_instr.specs.declared.op.Op.{Op}
use Rattle.rv64_instr.specs.declared.operand.Operand.{Operand}
use Rattle.rv64_instr.specs.declared.operand.Operand.TheVariants.{Def, Use, ImplicitDef, ImplicitUse, Imm, Slot, Object, Part, Block as OfBlock, Symbol}
use Rattle.rv64_instr.specs.declared.operand.Operand.TheVariants.{Mask}
use Rattle.rv64_instr.specs.declared.symbol.Half.{Half}
use Rattle.rv64_instr.specs.declared.symbol.Symbol.{Symbol as Linked}
use Rattle.rv64_instr.specs.Form.{has_form}
use Rattle.read_metadata.specs.Maps.{Maps}
use Rattle.mir_func.specs.declared.item.ItemKind.{ItemKind}
use Rattle.mir_func.specs.declared.item.ItemKind.TheVariants.{Code, Mark, Phi}
use Rattle.read_token.specs.declared.lexeme.Flag.{Flag}
use Rattle.read_token.specs.declared.lexeme.Flag.TheVariants as flags
use Rattle.read_token.specs.declared.lexeme.RegisterName.{RegisterName}
use Rattle.read_line.specs.declared.form.ItemForm.{ItemForm}
use Rattle.read_line.specs.declared.form.OperandForm.{OperandForm}
use Rattle.read_line.specs.declared.form.OperandForm.TheVariants as form
use Rattle.read_line.specs.declared.form.RegisterForm.{RegisterForm}
use Rattle.read_item.specs.declared.judged.Judged.TheVariants as judged_as
use Rattle.read_item.specs.declared.judged.JudgedItem.{JudgedItem}
use Rattle.read_item.specs.declared.place.OperandKind.{OperandKind}
use Rattle.read_item.specs.declared.place.OperandKind.TheVariants as place
use Rattle.read_item.specs.Code.{number_of, used, stack_operand, fixed_number, fixed_operand, number_operand, operand_at, before, joined, set_by, definition}
use Rattle.read_item.specs.Code.{definitions, placed, places_of}
use Rattle.read_item.specs.Code.{operands_of, stand_in, half_operand, called, callee_register, callee_operand, placed_behind_callee}
use Rattle.read_item.specs.Code.{has_implicit_callee, placed_by}
use Rattle.read_item.specs.Judge.{judged}
use Rattle.read_item.specs.Place.{front, behind}
use Rattle.read_body.specs.FirstUseOrder.{is_met}
use Rattle.read_program.specs.Objects.{operand_as, operands_as, kind_as}
use Rattle.read_program.proofs.Forms.{AllOf}
use Rattle.read_program.proofs.Judged.{code_line}
use Rattle.readback_items.specs.Laws.{NameIsBytes, HasByteNames}
use Rattle.readback_functions.proofs.FunctionCodes.{meant}
use Rattle.readback_functions.proofs.Forms.{FormBytes}

-- ---- one operand

is_named : (o x : Operand) → Some o ≡ Some x → NameIsBytes o → NameIsBytes x
is_named o x e is = let same : o ≡ x = cc in subst NameIsBytes same is

used_is : (flag : Flag) (n : Option ℕ) (x : Operand) → used flag n ≡ Some x → NameIsBytes x
used_is flag None x e = absurd cc
used_is flags.Plain (Some r) x e = is_named (Use r) x e tt
used_is flags.Implicit (Some r) x e = is_named (ImplicitUse r) x e tt
used_is flags.ImplicitDef (Some r) x e = is_named (ImplicitDef r) x e tt

stack_is : (p : OperandKind) (n : ℕ) (x : Operand) → stack_operand p n ≡ Some x → NameIsBytes x
stack_is place.Object n x e = is_named (Object n) x e tt
stack_is place.Slot n x e = is_named (Slot n) x e tt
stack_is place.Register n x e = is_named (Use 10) x e tt
stack_is place.Number n x e = is_named (Imm (pos 0)) x e tt
stack_is place.Block n x e = is_named (OfBlock 0) x e tt
stack_is place.Symbol n x e = is_named (Symbol []) x e (All-nil (λ (b : ℕ). b < 256))
stack_is place.Mask n x e = is_named Mask x e tt
stack_is place.Implicit n x e = absurd cc

stand_in_is : (p : OperandKind) (x : Operand) → stand_in p ≡ Some x → NameIsBytes x
stand_in_is place.Object x e = is_named (Use 10) x e tt
stand_in_is place.Slot x e = is_named (Use 10) x e tt
stand_in_is place.Register x e = is_named (Use 10) x e tt
stand_in_is place.Number x e = is_named (Imm (pos 0)) x e tt
stand_in_is place.Block x e = is_named (OfBlock 0) x e tt
stand_in_is place.Symbol x e = is_named (Symbol []) x e (All-nil (λ (b : ℕ). b < 256))
stand_in_is place.Mask x e = is_named Mask x e tt
stand_in_is place.Implicit x e = absurd cc

fixed_is : (p : OperandKind) (n : ℕ) (x : Operand) → fixed_operand p n ≡ Some x → NameIsBytes x
fixed_is place.Object n x e = is_named (Object (fixed_number n)) x e tt
fixed_is place.Slot n x e = is_named (Object (fixed_number n)) x e tt
fixed_is place.Register n x e = stand_in_is place.Register x e
fixed_is place.Number n x e = stand_in_is place.Number x e
fixed_is place.Block n x e = stand_in_is place.Block x e
fixed_is place.Symbol n x e = stand_in_is place.Symbol x e
fixed_is place.Mask n x e = stand_in_is place.Mask x e
fixed_is place.Implicit n x e = stand_in_is place.Implicit x e

half_is : (half : Half) (symbol : Linked) (addend : Option ℤ) (x : Operand) → half_operand half symbol addend ≡ Some x → NameIsBytes x
half_is half symbol None x e = absurd cc
half_is half symbol (Some i) x e = is_named (Part half (record { symbol = symbol; addend = i })) x e tt

number_is : (i : Option ℤ) (x : Operand) → number_operand i ≡ Some x → NameIsBytes x
number_is None x e = absurd cc
number_is (Some i) x e = is_named (Imm i) x e tt

operand_is : (p : OperandKind) (o : OperandForm) (x : Operand) → FormBytes o → operand_at p o ≡ Some x → NameIsBytes x
operand_is p (form.Register r) x is e = used_is r.flag (number_of r.flag r.name) x e
operand_is p (form.Integer i) x is e = number_is i x e
operand_is p (form.Slot n) x is e = stack_is p n x e
operand_is p (form.Fixed n) x is e = fixed_is p n x e
operand_is p (form.Part half a) x is e = half_is half a.symbol a.addend x e
operand_is p (form.Address a) x is e = absurd cc
operand_is p form.Literal x is e = absurd cc
operand_is p (form.Block n) x is e = is_named (OfBlock n) x e tt
operand_is p (form.Symbol name) x is e = is_named (Symbol name) x e is
operand_is p form.Mask x is e = is_named Mask x e tt
operand_is p (form.Node n) x is e = absurd cc
operand_is p (form.Expression y) x is e = absurd cc
operand_is p (form.Reference r) x is e = absurd cc

set_is : (flag : Flag) (n : Option ℕ) (x : Operand) → set_by flag n ≡ Some x → NameIsBytes x
set_is flags.Plain (Some r) x e = is_named (Def r) x e tt
set_is flags.Plain None x e = absurd cc
set_is flags.Implicit n x e = absurd cc
set_is flags.ImplicitDef n x e = absurd cc

-- ---- all operands

before_are : (o : Option Operand) (rest : Option (List Operand)) (xs : List Operand) → before o rest ≡ Some xs → ((x : Operand) → o ≡ Some x → NameIsBytes x) →
    ((ys : List Operand) → rest ≡ Some ys → All NameIsBytes ys) → All NameIsBytes xs
before_are None rest xs e first more = absurd cc
before_are (Some o) None xs e first more = absurd cc
before_are (Some o) (Some ys) xs e first more =
    let same : o ∷ ys ≡ xs = cc in subst (All NameIsBytes) same (All-cons NameIsBytes o ys (first o refl) (more ys refl))

none_are : (xs : List Operand) → ◌≡◌ {A = Option (List Operand)} (Some []) (Some xs) → All NameIsBytes xs
none_are xs e = let none : List Operand = [] in let same : none ≡ xs = cc in subst (All NameIsBytes) same (All-nil NameIsBytes)

definitions_are : (rs : List RegisterForm) (xs : List Operand) → definitions rs ≡ Some xs → All NameIsBytes xs
unfolding definitions
definitions_are [] xs e = none_are xs e
definitions_are (r ∷ rs) xs e =
    before_are (definition r) (definitions rs) xs e (λ x is. set_is r.flag (number_of r.flag r.name) x is) (λ ys is. definitions_are rs ys is)

placed_are : (ps : List OperandKind) (os : List OperandForm) (xs : List Operand) → AllOf FormBytes os → placed ps os ≡ Some xs → All NameIsBytes xs
unfolding placed
placed_are ps [] xs is e = none_are xs e
placed_are ps (o ∷ os) xs is e =
    before_are (operand_at (front ps) o) (placed (behind ps) os) xs e (λ x from. operand_is (front ps) o x is.0 from)
    (λ ys from. placed_are (behind ps) os ys is.1 from)

callee_is : (n : Option ℕ) (x : Operand) → called n ≡ Some x → NameIsBytes x
callee_is None x e = absurd cc
callee_is (Some r) x e = is_named (ImplicitUse (cond (eqb r 2) 10 r)) x e tt

callee_register_is : (flag : Flag) (name : RegisterName) (x : Operand) → callee_register flag name ≡ Some x → NameIsBytes x
callee_register_is flags.Plain name x e = callee_is (number_of flags.Implicit name) x e
callee_register_is flags.Implicit name x e = absurd cc
callee_register_is flags.ImplicitDef name x e = absurd cc

callee_operand_is : (o : OperandForm) (x : Operand) → callee_operand o ≡ Some x → NameIsBytes x
callee_operand_is (form.Register r) x e = callee_register_is r.flag r.name x e
callee_operand_is (form.Slot n) x e = is_named (ImplicitUse 10) x e tt
callee_operand_is (form.Fixed n) x e = is_named (ImplicitUse 10) x e tt
callee_operand_is o x e = absurd cc

behind_callee_are : (ps : List OperandKind) (os : List OperandForm) (xs : List Operand) → AllOf FormBytes os → placed_behind_callee ps os ≡ Some xs →
    All NameIsBytes xs
behind_callee_are ps [] xs is e = none_are xs e
behind_callee_are ps (o ∷ os) xs is e =
    before_are (callee_operand o) (placed (behind ps) os) xs e (λ x from. callee_operand_is o x from) (λ ys from. placed_are (behind ps) os ys is.1 from)

placed_by_are : (op : Op) (ps : List OperandKind) (os : List OperandForm) (xs : List Operand) → AllOf FormBytes os → placed_by op ps os ≡ Some xs →
    All NameIsBytes xs
placed_by_are op ps os xs is e = by (has_implicit_callee op) e where
  by : (b : Bool) → cond b (placed_behind_callee ps os) (placed ps os) ≡ Some xs → All NameIsBytes xs
  by true e = behind_callee_are ps os xs is e
  by false e = placed_are ps os xs is e

joined_are : (a b : Option (List Operand)) (xs : List Operand) → joined a b ≡ Some xs → ((ys : List Operand) → a ≡ Some ys → All NameIsBytes ys) →
    ((ys : List Operand) → b ≡ Some ys → All NameIsBytes ys) → All NameIsBytes xs
joined_are None b xs e first more = absurd cc
joined_are (Some os) None xs e first more = absurd cc
joined_are (Some os) (Some bs) xs e first more =
    let same : os ++ bs ≡ xs = cc in subst (All NameIsBytes) same (All-append NameIsBytes os bs (first os refl) (more bs refl))

operands_are : (op : Op) (line : ItemForm) (xs : List Operand) → AllOf FormBytes line.operands → operands_of op line ≡ Some xs → All NameIsBytes xs
unfolding operands_of
operands_are op line xs is e =
    joined_are (definitions line.definitions) (placed_by op (places_of op line) line.operands) xs e (λ ys from. definitions_are line.definitions ys from)
    (λ ys from. placed_by_are op (places_of op line) line.operands ys is from)

-- ---- items

-- the symbols of an item that a line means
pub kind_bytes : (meta : Maps) (line : ItemForm) (j : JudgedItem) → AllOf FormBytes line.operands → judged false meta line ≡ Ok (judged_as.Item j) →
    (kind : ItemKind) → j.kind ≡ kind → HasByteNames kind
kind_bytes meta line j is means (Mark v m) e = tt
kind_bytes meta line j is means (Phi p k) e = tt
kind_bytes meta line j is means (Code c k) e =
    let code = meant line c k meta j means e in operands_are code.op line c.operands is (code_line code.op line c code.is).operands

operand_as_is : (ids : List ℕ) (o : Operand) → NameIsBytes o → NameIsBytes (operand_as ids o)
operand_as_is ids (Slot n) is = by (is_met n ids) where
  by : (b : Bool) → NameIsBytes (cond b (Object n) (Slot n))
  by true = tt
  by false = tt
operand_as_is ids _ is = is

-- the symbols of an item where stack entries are objects
pub kind_as_bytes : (ids : List ℕ) (kind : ItemKind) → HasByteNames kind → HasByteNames (kind_as ids kind)
kind_as_bytes ids (Mark v m) all = tt
kind_as_bytes ids (Phi p k) all = tt
kind_as_bytes ids (Code c k) all = by (has_form c.op (operands_as ids c.operands)) where
  by : (b : Bool) → All NameIsBytes (cond b (record c { operands = operands_as ids c.operands }) c).operands
  by true = All-map NameIsBytes (operand_as ids) c.operands (All-weaker NameIsBytes (λ o. NameIsBytes (operand_as ids o)) (operand_as_is ids) c.operands all)
  by false = all

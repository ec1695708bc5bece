-- What an item keeps that was judged, and that is then read where stack entries are objects.
use Rattle.std.proofs.Common.{◌≡◌, ℕ, ◌+◌, ◌≤◌, Bool, true, false, cond, eqb, ltb, List, [], ◌∷◌, length, Option, Some, None, refl, sym, subst, arith}
use Rattle.std.specs.Prelude.{pos, IfSome}
use Rattle.std.proofs.lemmas.Bool.{eqb-false}
use Rattle.std.proofs.lemmas.List.{length-map}
use Rattle.rv64_instr.specs.declared.place.Place.{Place}
use Rattle.rv64_instr.specs.declared.place.Place.TheVariants as place
use Rattle.rv64_instr.specs.Form.{has_form}
use Rattle.rv64_instr.specs.Instruction.{Instruction}
use Rattle.read_metadata.specs.Maps.{Maps}
use Rattle.mir_func.specs.declared.item.ItemKind.{ItemKind}
use Rattle.mir_func.specs.declared.item.ItemKind.TheVariants.{Code, Mark, Phi}
use Rattle.mir_func.specs.declared.location.Loc.{Loc}
use Rattle.mir_func.specs.declared.variable.MarkValue.{MarkValue}
use Rattle.mir_func.specs.declared.variable.MarkValue.TheVariants.{Nothing, Constant, At}
use Rattle.mir_func.specs.Sound.{LeavesPointer}
use Rattle.read_token.specs.declared.lexeme.Flag.{Flag}
use Rattle.read_token.specs.declared.lexeme.Flag.TheVariants.{Plain, Implicit, ImplicitDef}
use Rattle.read_token.specs.declared.lexeme.RegisterName.{RegisterName}
use Rattle.read_token.specs.declared.lexeme.RegisterName.TheVariants.{Physical, Absent, Other, Virtual}
use Rattle.read_line.specs.declared.form.ItemForm.{ItemForm}
use Rattle.read_line.specs.declared.form.OperandForm.{OperandForm}
use Rattle.read_line.specs.declared.form.OperandForm.TheVariants as form
use Rattle.read_item.specs.declared.debug.MarkForm.{MarkForm}
use Rattle.read_item.specs.declared.debug.PhiForm.{PhiForm}
use Rattle.read_item.specs.declared.opcode.DebugOpcode.{DebugOpcode}
use Rattle.read_item.specs.declared.opcode.DebugOpcode.TheVariants as debug
use Rattle.read_item.specs.Code.{MAX_OPERANDS, VIRTUALS}
use Rattle.read_item.specs.Debug.{content_value, register_value, operand_value, is_plain, is_direct, is_argument, value_mark, pair_value}
use Rattle.read_item.specs.Debug.{reference_mark, list_mark, content_place, register_place, phi_place, phi_by, if_counted, count_in, phi_of, inlined_at}
use Rattle.read_item.specs.Debug.{virtual_value, virtual_place, mark_kind, phi_kind, debug_kind}
use Rattle.read_program.specs.Objects.{operand_as, instr_as, is_object, place_as, kind_as}
use Rattle.read_program.proofs.Judged.{IsItemLine, of_code, of_debug, of_upper, of_lower}
use Rattle.read_program.proofs.Printed.{form_kept, renamed}
use Rattle.readback_items.specs.Debug.{IsKept, ValueIsKept, PlaceIsKept}
use Rattle.readback_items.specs.Code.{IsReadable}
use Rattle.readback_items.proofs.Few.{few_operands, halves_fit}

pub record IsShort (i : Instruction) : Type 0 where
  pub form : has_form i.op i.operands ≡ true
  pub few : length i.operands ≤ MAX_OPERANDS

abbrev pub Kept : Maps → Loc → ItemKind → Type 0
Kept meta loc (Code i k) = IsShort i
Kept meta loc (Mark v m) = (v.inlined_at ≡ inlined_at meta loc) × ValueIsKept m
Kept meta loc (Phi p k) = PlaceIsKept p

-- ---- the values of marks

content_kept : (r : ℕ) → ValueIsKept (content_value r)
content_kept r = by (eqb r 0) (eqb r 2) refl refl where
  by : (a b : Bool) → eqb r 0 ≡ a → eqb r 2 ≡ b → ValueIsKept (cond a (Constant (pos 0)) (cond b Nothing (At r)))
  by true b p q = tt
  by false true p q = tt
  by false false p q = (eqb-false r 0 p, eqb-false r 2 q)

-- a virtual register is none of x0 and x2
virtual_kept : (n : ℕ) → IsKept (32 + n)
virtual_kept n = (λ e. omega (arith, e), λ e. omega (arith, e))

register_kept : (flag : Flag) (name : RegisterName) → ValueIsKept (register_value flag name)
register_kept Plain (Physical r) = content_kept r
register_kept Plain Absent = tt
register_kept Plain Other = tt
register_kept Plain (Virtual n) = by (ltb n VIRTUALS) where
  by : (b : Bool) → ValueIsKept (virtual_value (cond b (Some (32 + n)) None))
  by true = virtual_kept n
  by false = tt
register_kept Implicit name = tt
register_kept ImplicitDef name = tt

operand_kept : (o : OperandForm) → ValueIsKept (operand_value o)
operand_kept (form.Register r) = register_kept r.flag r.name
operand_kept (form.Integer None) = tt
operand_kept (form.Integer (Some i)) = tt
operand_kept o = tt

one_value : (a b : Bool) (m : MarkValue) → ValueIsKept m → ValueIsKept (cond a (cond b m Nothing) Nothing)
one_value true true m kept = kept
one_value true false m kept = tt
one_value false b m kept = tt

abbrev MarkKept : MarkForm → Type 0
MarkKept m = ValueIsKept m.value

value_kept : (os : List OperandForm) → IfSome (value_mark os) MarkKept
value_kept (p ∷ q ∷ form.Node v ∷ form.Expression e ∷ []) = one_value (is_plain e) (is_direct q) (operand_value p) (operand_kept p)
value_kept os = tt

pair_kept : (os : List OperandForm) → ValueIsKept (pair_value os)
pair_kept (form.Reference p ∷ []) = tt
pair_kept os = tt

reference_kept : (os : List OperandForm) → IfSome (reference_mark os) MarkKept
reference_kept (form.Node v ∷ form.Expression e ∷ rest) = one_value (is_argument e) true (pair_value rest) (pair_kept rest)
reference_kept os = tt

list_kept : (os : List OperandForm) → IfSome (list_mark os) MarkKept
list_kept (form.Node v ∷ form.Expression e ∷ rest) = tt
list_kept os = tt

mark_kept : (meta : Maps) (loc : Loc) (m : Option MarkForm) (kind : ItemKind) → mark_kind (inlined_at meta loc) m ≡ Some kind → IfSome m MarkKept →
    Kept meta loc kind
mark_kept meta loc None kind e kept = absurd cc
mark_kept meta loc (Some m) kind e kept =
    let same : Mark (record { node = m.node; inlined_at = inlined_at meta loc; fragment = m.fragment }) m.value ≡ kind = cc in
    subst (Kept meta loc) same (refl, kept)

-- ---- the places of phis

abbrev MayBePlace : Option (Option Place) → Type 0
MayBePlace None = Unit {0}
MayBePlace (Some p) = PlaceIsKept p

content_place_kept : (r : ℕ) → PlaceIsKept (content_place r)
content_place_kept r = by (eqb r 0) (eqb r 2) refl refl where
  by : (a b : Bool) → eqb r 0 ≡ a → eqb r 2 ≡ b → PlaceIsKept (cond a (Some (place.Const (pos 0))) (cond b None (Some (place.Register r))))
  by true b p q = tt
  by false true p q = tt
  by false false p q = (eqb-false r 0 p, eqb-false r 2 q)

register_place_kept : (flag : Flag) (name : RegisterName) → MayBePlace (register_place flag name)
register_place_kept Plain (Physical r) = content_place_kept r
register_place_kept Plain Absent = tt
register_place_kept Plain Other = tt
register_place_kept Plain (Virtual n) = by (ltb n VIRTUALS) where
  by : (b : Bool) → MayBePlace (virtual_place (cond b (Some (32 + n)) None))
  by true = virtual_kept n
  by false = tt
register_place_kept Implicit name = tt
register_place_kept ImplicitDef name = tt

place_kept : (o : OperandForm) → MayBePlace (phi_place o)
place_kept (form.Register r) = register_place_kept r.flag r.name
place_kept o = tt

abbrev PhiKept : PhiForm → Type 0
PhiKept p = PlaceIsKept p.place

phi_by_kept : (p : Option (Option Place)) (n : Option ℕ) → MayBePlace p → IfSome (phi_by p n) PhiKept
phi_by_kept None n kept = tt
phi_by_kept (Some p) None kept = tt
phi_by_kept (Some p) (Some n) kept = kept

if_kept : (n : Option ℕ) (p : Option PhiForm) → IfSome p PhiKept → IfSome (if_counted n p) PhiKept
if_kept None p kept = tt
if_kept (Some n) p kept = kept

phi_kept : (os : List OperandForm) → IfSome (phi_of os) PhiKept
phi_kept (p ∷ k ∷ []) = phi_by_kept (phi_place p) (count_in k) (place_kept p)
phi_kept (p ∷ k ∷ bits ∷ []) = if_kept (count_in bits) (phi_by (phi_place p) (count_in k)) (phi_by_kept (phi_place p) (count_in k) (place_kept p))
phi_kept os = tt

phi_item_kept : (meta : Maps) (loc : Loc) (p : Option PhiForm) (kind : ItemKind) → phi_kind p ≡ Some kind → IfSome p PhiKept → Kept meta loc kind
phi_item_kept meta loc None kind e kept = absurd cc
phi_item_kept meta loc (Some p) kind e kept = let same : Phi p.place p.number ≡ kind = cc in subst (Kept meta loc) same kept

-- ---- items

debug_kept : (op : DebugOpcode) (meta : Maps) (line : ItemForm) (kind : ItemKind) → debug_kind op meta line ≡ Some kind → Kept meta line.loc kind
debug_kept debug.Value meta line kind e = mark_kept meta line.loc (value_mark line.operands) kind e (value_kept line.operands)
debug_kept debug.InstrRef meta line kind e = mark_kept meta line.loc (reference_mark line.operands) kind e (reference_kept line.operands)
debug_kept debug.ValueList meta line kind e = mark_kept meta line.loc (list_mark line.operands) kind e (list_kept line.operands)
debug_kept debug.Phi meta line kind e = phi_item_kept meta line.loc (phi_of line.operands) kind e (phi_kept line.operands)

pub line_kept : (linked : Bool) (meta : Maps) (line : ItemForm) (entries : List ℕ) (kind : ItemKind) → IsItemLine linked meta line entries kind →
    Kept meta line.loc kind
line_kept linked meta line entries _ (of_code {op} {instr} named may code) = record { form = code.form; few = few_operands op line instr code }
line_kept linked meta line entries kind (of_debug {op} named said) = debug_kept op meta line kind said.kind_is
line_kept linked meta line entries _ (of_upper {p} is said) =
    let fit = halves_fit line p said in record { form = fit.upper_form; few = fit.upper_few }
line_kept linked meta line entries _ (of_lower {p} is said) =
    let fit = halves_fit line p said in record { form = fit.lower_form; few = fit.lower_few }

-- ---- where stack entries are objects

code_as_kept : (ids : List ℕ) (i : Instruction) → IsShort i → IsShort (instr_as ids i)
code_as_kept ids i is = subst IsShort (sym (renamed ids i is.form)) (record {
  form = form_kept ids i.op i.operands is.form;
  few = (let same = length-map i.operands (operand_as ids) in omega (arith, same, is.few));
})

place_as_kept : (ids : List ℕ) (p : Option Place) → PlaceIsKept p → PlaceIsKept (place_as ids p)
place_as_kept ids None kept = tt
place_as_kept ids (Some p) kept = by (is_object ids p) where
  by : (b : Bool) → PlaceIsKept (cond b None (Some p))
  by true = tt
  by false = kept

pub kept_as : (ids : List ℕ) (meta : Maps) (loc : Loc) (kind : ItemKind) → Kept meta loc kind → Kept meta loc (kind_as ids kind)
kept_as ids meta loc (Code i k) kept = code_as_kept ids i kept
kept_as ids meta loc (Mark v m) kept = kept
kept_as ids meta loc (Phi p k) kept = place_as_kept ids p kept

pub readable : (meta : Maps) (loc : Loc) (kind : ItemKind) → Kept meta loc kind → LeavesPointer kind → IsReadable meta loc kind
readable meta loc (Code i k) kept pointer = record { form = kept.form; pointer = pointer; few = kept.few }
readable meta loc (Mark v m) kept pointer = kept
readable meta loc (Phi p k) kept pointer = kept

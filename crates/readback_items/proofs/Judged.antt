-- The form of a debug item is judged as the item.
use Rattle.std.proofs.Common.{◌≡◌, ℕ, ℤ, pos, ◌-◌, ◌<◌, ◌≤◌, Bool, true, false, cond, eqb, ltb, [], ◌∷◌, Option, Some, None, Ok}
use Rattle.std.proofs.Common.{refl, sym, ap, ◌∙◌}
use Rattle.std.specs.Prelude.{codes}
use Rattle.std.proofs.lemmas.Bool.{ne_eqb, le-leb, ltb-false}
use Rattle.rv64_instr.specs.declared.place.Place.{Place}
use Rattle.rv64_instr.specs.declared.place.Place.TheVariants as place
use Rattle.read_metadata.specs.Maps.{Maps}
use Rattle.mir_func.specs.declared.debug_substitution.OperandPair.{OperandPair}
use Rattle.mir_func.specs.declared.item.ItemKind.{ItemKind}
use Rattle.mir_func.specs.declared.item.ItemKind.TheVariants.{Code, Mark, Phi}
use Rattle.mir_func.specs.declared.location.Loc.{Loc}
use Rattle.mir_func.specs.declared.variable.MarkValue.{MarkValue}
use Rattle.mir_func.specs.declared.variable.MarkValue.TheVariants.{Nothing, Constant, At, Pair}
use Rattle.mir_func.specs.declared.variable.VarId.{VarId}
use Rattle.mir_func.specs.Parts.{Bytes}
use Rattle.base_ids.specs.Limits.{MAX_NUMBER}
use Rattle.read_item.specs.declared.debug.PhiForm.{PhiForm}
use Rattle.read_item.specs.declared.judged.Judged.TheVariants as judged_as
use Rattle.read_item.specs.declared.opcode.DebugOpcode.{DebugOpcode}
use Rattle.read_item.specs.declared.opcode.DebugOpcode.TheVariants as debug
use Rattle.read_item.specs.declared.opcode.Opcode.{Opcode}
use Rattle.read_item.specs.declared.opcode.Opcode.TheVariants as opcodes
use Rattle.read_item.specs.Debug.{virtual_value, register_value, virtual_place, register_place}
use Rattle.read_item.specs.Debug.{operand_value, phi_place, counted, phi_by, phi_of, inlined_at, phi_kind, debug_rules, kind_unless, debug_of}
use Rattle.read_item.specs.Code.{refusal_by}
use Rattle.read_item.specs.Judge.{entries_of, item_of, judged_by, judged}
use Rattle.read_item.specs.Opcode.{ops, op_named, debug_opcode_of, opcode_of}
use Rattle.read_token.specs.declared.lexeme.Flag.TheVariants as flags
use Rattle.read_token.specs.declared.lexeme.RegisterName.TheVariants.{Physical, Virtual}
use Rattle.read_line.specs.declared.form.ItemForm.{ItemForm}
use Rattle.read_line.specs.declared.form.OperandForm.{OperandForm}
use Rattle.read_line.specs.declared.form.OperandForm.TheVariants as form
use Rattle.read_program.specs.Limited.{ValueIsLimited, PlaceIsLimited, KindIsLimited}
use Rattle.readback_items.specs.Debug.{IsKept, ValueIsKept, PlaceIsKept, IsDebug, DebugLinesReadBack}
use Rattle.readback_items.specs.Forms.{register_form, no_register, value_form, mark_form, place_form, kind_form, form_of}
use Rattle.readback_items.proofs.Registers.{plain_register}
use Rattle.readback_items.proofs.Said.{lines_say_forms}

-- ---- opcodes

value_opcode : opcode_of false (codes "DBG_VALUE") ≡ Some (opcodes.Debug debug.Value)
unfolding opcode_of op_named ops debug_opcode_of
value_opcode = refl

reference_opcode : opcode_of false (codes "DBG_INSTR_REF") ≡ Some (opcodes.Debug debug.InstrRef)
unfolding opcode_of op_named ops debug_opcode_of
reference_opcode = refl

phi_opcode : opcode_of false (codes "DBG_PHI") ≡ Some (opcodes.Debug debug.Phi)
unfolding opcode_of op_named ops debug_opcode_of
phi_opcode = refl

-- a debug line, by its opcode
by_opcode : (meta : Maps) (op : DebugOpcode) (line : ItemForm) → opcode_of false line.opcode ≡ Some (opcodes.Debug op) →
    judged false meta line ≡ item_of line (debug_of op meta line)
unfolding judged
by_opcode meta op line is = ap (λ (o : Option Opcode). judged_by false o meta line) is

-- ---- marks

kept_value : (r : ℕ) → r < 4128 → IsKept r → operand_value (form.Register (register_form flags.Plain r)) ≡ At r
kept_value r small is = by (ltb r 32) refl where
  by : (b : Bool) → ltb r 32 ≡ b → register_value flags.Plain (cond b (Physical r) (Virtual (r - 32))) ≡ At r
  by true low =
      ap (λ (b : Bool). cond b (Constant (pos 0)) (cond (eqb r 2) Nothing (At r))) (ne_eqb r 0 is.0)
      ∙ ap (λ (b : Bool). cond b Nothing (At r)) (ne_eqb r 2 is.1)
  by false high = ap virtual_value (plain_register r small (ltb-false r 32 high))

-- a value mark, by its fragment
value_read : (meta : Maps) (value : OperandForm) (node : ℕ) (at : Option ℕ) (fragment : Option Bytes) (loc : Loc) →
    debug_of debug.Value meta (value_form value (record { node = node; inlined_at = at; fragment = fragment }) loc) ≡
    Ok (Mark (record { node = node; inlined_at = inlined_at meta loc; fragment = fragment }) (operand_value value))
unfolding debug_of
value_read meta value node at None loc = refl
value_read meta value node at (Some b) loc = refl

reference_read : (meta : Maps) (q : OperandPair) (node : ℕ) (at : Option ℕ) (fragment : Option Bytes) (loc : Loc) →
    debug_of debug.InstrRef meta (mark_form (record { node = node; inlined_at = at; fragment = fragment }) (Pair q) loc) ≡
    Ok (Mark (record { node = node; inlined_at = inlined_at meta loc; fragment = fragment }) (Pair q))
unfolding debug_of
reference_read meta q node at None loc = refl
reference_read meta q node at (Some b) loc = refl

value_means : (meta : Maps) (value : OperandForm) (v : VarId) (m : MarkValue) (loc : Loc) → v.inlined_at ≡ inlined_at meta loc → operand_value value ≡ m →
    judged false meta (value_form value v loc) ≡ Ok (judged_as.Item (record {
      kind = Mark v m;
      loc = loc;
      entries =
          entries_of (value_form value v loc).operands;
    }))
value_means meta value v m loc inlined is =
    by_opcode meta debug.Value (value_form value v loc) value_opcode
    ∙ (ap (item_of (value_form value v loc)) (value_read meta value v.node v.inlined_at v.fragment loc)
    ∙ (λ i. Ok (judged_as.Item (record {
      kind = Mark (record { node = v.node; inlined_at = sym inlined i; fragment = v.fragment }) (is i);
      loc = loc;
      entries = entries_of (value_form value v loc).operands;
    }))))

mark_means : (meta : Maps) (v : VarId) (m : MarkValue) (loc : Loc) → v.inlined_at ≡ inlined_at meta loc → ValueIsLimited m → ValueIsKept m →
    judged false meta (mark_form v m loc) ≡ Ok (judged_as.Item (record { kind = Mark v m; loc = loc; entries = entries_of (mark_form v m loc).operands }))
mark_means meta v Nothing loc inlined small is = value_means meta no_register v Nothing loc inlined refl
mark_means meta v (Constant c) loc inlined small is = value_means meta (form.Integer (Some c)) v (Constant c) loc inlined refl
mark_means meta v (At r) loc inlined small is =
    value_means meta (form.Register (register_form flags.Plain r)) v (At r) loc inlined (kept_value r small is)
mark_means meta v (Pair q) loc inlined small is =
    by_opcode meta debug.InstrRef (mark_form v (Pair q) loc) reference_opcode
    ∙ (ap (item_of (mark_form v (Pair q) loc)) (reference_read meta q v.node v.inlined_at v.fragment loc)
    ∙ (λ i. Ok (judged_as.Item (record {
      kind = Mark (record { node = v.node; inlined_at = sym inlined i; fragment = v.fragment }) (Pair q);
      loc = loc;
      entries = entries_of (mark_form v (Pair q) loc).operands;
    }))))

-- ---- phis

kept_place : (r : ℕ) → r < 4128 → IsKept r → phi_place (form.Register (register_form flags.Plain r)) ≡ Some (Some (place.Register r))
kept_place r small is = by (ltb r 32) refl where
  by : (b : Bool) → ltb r 32 ≡ b → register_place flags.Plain (cond b (Physical r) (Virtual (r - 32))) ≡ Some (Some (place.Register r))
  by true low =
      ap (λ (b : Bool). Some (cond b (Some (place.Const (pos 0))) (cond (eqb r 2) None (Some (place.Register r))))) (ne_eqb r 0 is.0)
      ∙ ap (λ (b : Bool). Some (cond b None (Some (place.Register r)))) (ne_eqb r 2 is.1)
  by false high = ap virtual_place (plain_register r small (ltb-false r 32 high))

place_read : (p : Option Place) → PlaceIsLimited p → PlaceIsKept p → phi_place (place_form p) ≡ Some p
place_read None small is = refl
place_read (Some (place.Register r)) small is = kept_place r small.1 is
place_read (Some (place.Slot n)) small is = refl
place_read (Some (place.Const c)) small is = ap (λ (x : ℤ). Some (Some (place.Const x))) (sym small)

phi_read : (p : Option Place) (k : ℕ) → PlaceIsLimited p → PlaceIsKept p → k ≤ MAX_NUMBER →
    phi_of (place_form p ∷ form.Integer (Some (pos k)) ∷ []) ≡ Some (record { place = p; number = k })
phi_read p k small is few =
    ap (λ (o : Option (Option Place)). phi_by o (counted (pos k))) (place_read p small is)
    ∙ ap (λ (b : Bool). phi_by (Some p) (cond b (Some k) None)) (le-leb k MAX_NUMBER few)

phi_item : (meta : Maps) (p : Option Place) (k : ℕ) (loc : Loc) (o : Option PhiForm) → phi_of (place_form p ∷ form.Integer (Some (pos k)) ∷ []) ≡ o →
    (f : PhiForm) → o ≡ Some f → debug_of debug.Phi meta (kind_form (Phi p k) loc) ≡ Ok (Phi f.place f.number)
unfolding debug_of
phi_item meta p k loc o is f same =
    ap (λ (x : Option PhiForm). kind_unless (refusal_by (debug_rules (phi_kind x) (kind_form (Phi p k) loc))) (phi_kind x)) (is ∙ same)

phi_means : (meta : Maps) (p : Option Place) (k : ℕ) (loc : Loc) → PlaceIsLimited p → PlaceIsKept p → k ≤ MAX_NUMBER →
    judged false meta (kind_form (Phi p k) loc) ≡ Ok (judged_as.Item (record {
      kind = Phi p k;
      loc = loc;
      entries =
          entries_of (kind_form (Phi p k) loc).operands;
    }))
phi_means meta p k loc small is few =
    by_opcode meta debug.Phi (kind_form (Phi p k) loc) phi_opcode
    ∙ ap (item_of (kind_form (Phi p k) loc))
    (phi_item meta p k loc (phi_of (place_form p ∷ form.Integer (Some (pos k)) ∷ [])) refl (record { place = p; number = k }) (phi_read p k small is few))

-- ---- all

debug_means : (meta : Maps) (kind : ItemKind) (loc : Loc) → KindIsLimited kind → IsDebug meta loc kind →
    judged false meta (kind_form kind loc) ≡ Ok (judged_as.Item (record { kind = kind; loc = loc; entries = entries_of (kind_form kind loc).operands }))
debug_means meta (Code i k) loc small is = absurd is
debug_means meta (Mark v m) loc small is = mark_means meta v m loc is.0 small.1 is.1
debug_means meta (Phi p k) loc small is = phi_means meta p k loc small.0 is small.1

pub debug_lines_read_back : DebugLinesReadBack
debug_lines_read_back meta i writable is =
    record { form = form_of i; says = lines_say_forms i writable; means = debug_means meta i.kind i.loc writable.kind is }

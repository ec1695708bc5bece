-- What an item that leaves a place and a part alone does to their tokens: they were there before it. Case by case over rows, kinds
-- of items and places.
use Rattle.std.proofs.Common.{◌≡◌, ℕ, zero, suc, refl, sym, ap, ◌∙◌, subst, inl, inr}
use Rattle.std.proofs.lemmas.Bool.Decides.{eqb_tells}
use Rattle.std.specs.Prelude.{Option, Some, None, Bool, true, false, cond, nat_eq, ◌||◌}
use Rattle.rv64_instr.specs.declared.place.Place.{Place}
use Rattle.rv64_instr.specs.declared.place.Place.TheVariants.{Register, Slot, Const}
use Rattle.rv64_instr.specs.Instruction.{Instruction}
use Rattle.rv64_instr.specs.LocationEffects.{defines_of}
use Rattle.rv64_instr.specs.Row.{Row, Fixes, Moves, Sets, Addresses, Loads, LoadsSlot, StoresSlot, Calls, row_of}
use Rattle.mir_func.specs.declared.debug_substitution.OperandPair.{OperandPair}
use Rattle.mir_func.specs.declared.variable.VarId.{VarId}
use Rattle.mir_func.specs.declared.variable.MarkValue.{MarkValue}
use Rattle.mir_func.specs.declared.variable.MarkValue.TheVariants.{Nothing, Constant, At, Pair}
use Rattle.mir_func.specs.declared.item.ItemKind.{ItemKind}
use Rattle.mir_func.specs.declared.item.ItemKind.TheVariants.{Code, Mark, Phi}
use Rattle.mir_func.specs.Variables.{overlaps}
use Rattle.sem_mir.specs.ValueId.{Tokens, mark_token, pair_token, place_token}
use Rattle.sem_mir.proofs.Assignments.{same_refl}
use Rattle.sem_value_ids.specs.Pullback.{
  Tracked,
  InRegister,
  InSlot,
  OfPair,
  OfVariable,
  OfNumber,
  token_of,
  token_back,
  Back,
  Was,
  New,
  Nameless,
  back,
  put_back,
  back_register,
  slot_stored,
  back_row,
  back_code,
  back_pair,
  back_value,
  back_mark,
}
use Rattle.value_proof.specs.PreferredByClass.{thing_at}
use Rattle.value_proof.specs.Kept.{LeavesPlace, LeavesAlone}

-- ---- registers

left_false : (b : Bool) → (b || false) ≡ false → b ≡ false
left_false true e = e
left_false false e = refl

put_kept : (rd : ℕ) (b : Back) (r : ℕ) → (nat_eq r rd || false) ≡ false → put_back rd b r ≡ Was (InRegister r)
put_kept rd b zero e = refl
put_kept zero b (suc r) e = refl
put_kept (suc rd) b (suc r) e =
    ap (λ (z : Bool). cond z (cond (nat_eq rd 1) Nameless b) (Was (InRegister (suc r)))) (left_false (nat_eq (suc r) (suc rd)) e)

register_kept : (row : Row) (r : ℕ) → defines_of row (Register r) ≡ false → back_register 0 row r ≡ Was (InRegister r)
register_kept (Fixes rd c) r e = put_kept rd (Was (OfNumber c)) r e
register_kept (Moves rd rs) r e = put_kept rd (Was (InRegister rs)) r e
register_kept (Sets rd op a b) r e = put_kept rd (New 0 rd) r e
register_kept (Addresses rd n offset) r e = put_kept rd (New 0 rd) r e
register_kept (Loads rd op base offset) r e = put_kept rd (New 0 rd) r e
register_kept (LoadsSlot rd n) r e = put_kept rd (Was (InSlot n)) r e
register_kept (Calls call) r e = ap (λ (z : Bool). cond z (New 0 r) (Was (InRegister r))) e
register_kept _ r e = refl

-- ---- slots

stored_kept : (row : Row) (k : ℕ) → defines_of row (Slot k) ≡ false → slot_stored row k ≡ Was (InSlot k)
stored_kept (StoresSlot rs n) k e = elim (eqb_tells k n) [
  | inl h ↦ absurd (same (subst (λ (z : ℕ). nat_eq n z ≡ false) h.1 e))
  | inr h ↦ ap (λ (z : Bool). cond z (Was (InRegister rs)) (Was (InSlot k))) h.0
] where
  same : nat_eq n n ≡ false → ⊥
  same off = elim (eqb_tells n n) [
    | inl h ↦ let is : true ≡ false = sym h.0 ∙ off in cc
    | inr h ↦ h.1 refl
  ]
stored_kept (Calls call) k e = ap (λ (z : Bool). cond z Nameless (Was (InSlot k))) e
stored_kept _ k e = refl

row_kept : (row : Row) (place : Place) → LeavesPlace row place → back_row 0 row (thing_at place) ≡ Was (thing_at place)
row_kept row (Register r) e = register_kept row r e
row_kept row (Slot k) (e, off) = ap (λ (z : Bool). cond z Nameless (slot_stored row k)) off ∙ stored_kept row k e
row_kept row (Const c) e = refl

code_kept : (i : Instruction) (j : Option ℕ) (place : Place) → LeavesPlace (row_of i) place → back_code 0 i j (thing_at place) ≡ Was (thing_at place)
code_kept i None place e = row_kept (row_of i) place e
code_kept i (Some j) (Register r) e = row_kept (row_of i) (Register r) e
code_kept i (Some j) (Slot k) e = row_kept (row_of i) (Slot k) e
code_kept i (Some j) (Const c) e = refl

-- ---- places and parts past an item

debug_kept : (resolve : OperandPair → Option OperandPair) (v : VarId) (m : MarkValue) (place : Place) →
    back_mark resolve v m (thing_at place) ≡ Was (thing_at place)
debug_kept resolve v m (Register r) = refl
debug_kept resolve v m (Slot k) = refl
debug_kept resolve v m (Const c) = refl

phi_kept : (resolve : OperandPair → Option OperandPair) (p : Option Place) (k : ℕ) (place : Place) →
    back resolve 0 (Phi p k) (thing_at place) ≡ Was (thing_at place)
phi_kept resolve p k (Register r) = refl
phi_kept resolve p k (Slot n) = refl
phi_kept resolve p k (Const c) = refl

pub place_kept : (resolve : OperandPair → Option OperandPair) (v : VarId) (place : Place) (kind : ItemKind) → LeavesAlone v place kind →
    back resolve 0 kind (thing_at place) ≡ Was (thing_at place)
place_kept resolve v place (Code i j) e = code_kept i j place e
place_kept resolve v place (Mark w m) e = debug_kept resolve w m place
place_kept resolve v place (Phi p k) e = phi_kept resolve p k place

pub part_kept : (resolve : OperandPair → Option OperandPair) (v : VarId) (place : Place) (kind : ItemKind) → LeavesAlone v place kind →
    back resolve 0 kind (OfVariable v) ≡ Was (OfVariable v)
part_kept resolve v place (Code i None) e = refl
part_kept resolve v place (Code i (Some j)) e = refl
part_kept resolve v place (Mark w m) (differs, apart) =
    ap (λ (z : Bool). cond z (back_value resolve m) (cond (overlaps v w) Nameless (Was (OfVariable v)))) differs
    ∙ ap (λ (z : Bool). cond z Nameless (Was (OfVariable v))) apart
part_kept resolve v place (Phi p k) e = refl

-- ---- a mark

value_told : (resolve : OperandPair → Option OperandPair) (n : ℕ) (t : Tokens) (m : MarkValue) →
    token_back n t (back_value resolve m) ≡ mark_token resolve m t
value_told resolve n t Nothing = refl
value_told resolve n t (Constant c) = refl
value_told resolve n t (At r) = refl
value_told resolve n t (Pair q) = pair_told (resolve q) where
  pair_told : (o : Option OperandPair) → token_back n t (back_pair o) ≡ pair_token o t
  pair_told None = refl
  pair_told (Some r) = refl

pub mark_told : (resolve : OperandPair → Option OperandPair) (n : ℕ) (t : Tokens) (v : VarId) (m : MarkValue) →
    token_back n t (back resolve 0 (Mark v m) (OfVariable v)) ≡ mark_token resolve m t
mark_told resolve n t v m =
    ap (λ (z : Bool). token_back n t (cond z (back_value resolve m) (cond (overlaps v v) Nameless (Was (OfVariable v))))) (same_refl v)
    ∙ value_told resolve n t m

pub mark_keeps : (resolve : OperandPair → Option OperandPair) (v : VarId) (m : MarkValue) (place : Place) →
    back resolve 0 (Mark v m) (thing_at place) ≡ Was (thing_at place)
mark_keeps = debug_kept

-- what a place has as token
pub place_thing : (place : Place) (t : Tokens) → token_of (thing_at place) t ≡ place_token (Some place) t
place_thing (Register r) t = refl
place_thing (Slot n) t = refl
place_thing (Const c) t = refl

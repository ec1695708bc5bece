-- A function that breaks no other rule, and whose blocks end well, is sound.
use Rattle.std.proofs.Common.{◌≡◌, ℕ, ◌≤◌, zero, suc, ◌+◌, ◌<◌, Bool, true, false, cond, leb, List, [], ◌∷◌, ◌++◌, map, All, Option, Some, None}
use Rattle.std.proofs.Common.{refl, sym, ap, subst, ◌∙◌, nat_eq, arith}
use Rattle.std.specs.Prelude.{Contains}
use Rattle.std.specs.List.{slice_get, list_all}
use Rattle.std.specs.Option.{option_map_or}
use Rattle.std.proofs.lemmas.Bool.{and_parts, leb-true}
use Rattle.std.proofs.lemmas.List.{map-append}
use Rattle.std.proofs.lemmas.List.Elements.{All-nil, All-cons, All-map, All-weaker, All-head, All-tail}
use Rattle.std.proofs.lemmas.Option.{slice_get-get_or}
use Rattle.rv64_instr.specs.Row.{Base, PointedBy, ObjectAt, BesidePart}
use Rattle.rv64_instr.specs.declared.op.Op.{Op}
use Rattle.rv64_instr.specs.declared.op.Op.TheVariants.{Registers, Immediate, Lui, Branch, Load, Store, Copy}
use Rattle.rv64_instr.specs.declared.op.Op.TheVariants.{PseudoBr, PseudoCall, PseudoRet, PseudoCallIndirect}
use Rattle.rv64_instr.specs.declared.op.Op.TheVariants.{PseudoTail, PseudoTailIndirect, NoReturnCall, NoReturnCallIndirect}
use Rattle.rv64_instr.specs.declared.op.ImmediateOp.{ImmediateOp}
use Rattle.rv64_instr.specs.declared.op.ImmediateOp.TheVariants.{Addi}
use Rattle.rv64_instr.specs.declared.op.LoadOp.{LoadOp}
use Rattle.rv64_instr.specs.declared.op.StoreOp.{StoreOp}
use Rattle.rv64_instr.specs.declared.operand.Operand.{Operand}
use Rattle.rv64_instr.specs.declared.operand.Operand.TheVariants.{Def, Use, Imm, Slot, Object as OfObject, Part, Block as OfBlock}
use Rattle.rv64_instr.specs.declared.symbol.Half.TheVariants.{Upper, Lower}
use Rattle.rv64_instr.specs.declared.operand.Operand.TheVariants.{Symbol, Mask, ImplicitUse, Outgoing, GlobalRegisters}
use Rattle.rv64_instr.specs.declared.place.Place.{Place}
use Rattle.rv64_instr.specs.declared.place.Place.TheVariants as place
use Rattle.rv64_instr.specs.Arithmetic.{word, load_width, store_width}
use Rattle.rv64_instr.specs.Form.{has_form, fits_immediate, fits_load, fits_store}
use Rattle.rv64_instr.specs.Instruction.{Instruction}
use Rattle.rv64_instr.specs.Row.{Row, Addresses, Loads, Stores, Branches, Jumps}
use Rattle.rv64_instr.specs.Row.{row_of, immediate_row, object_row}
use Rattle.rv64_instr.specs.Row.{move_row, implicit_uses, outgoing_words, held_tail, held_gone}
use Rattle.base_ids.specs.Limits.{MAX_NUMBER}
use Rattle.mir_func.specs.declared.block.Block.{Block}
use Rattle.mir_func.specs.declared.exit.Exit.TheVariants.{Onward}
use Rattle.mir_func.specs.declared.item.Item.{Item}
use Rattle.mir_func.specs.declared.item.ItemKind.{ItemKind}
use Rattle.mir_func.specs.declared.item.ItemKind.TheVariants.{Code, Mark, Phi}
use Rattle.mir_func.specs.declared.location.Loc.{Loc}
use Rattle.mir_func.specs.declared.object.Object.{Object}
use Rattle.mir_func.specs.Exits.{row_exit, exit_of}
use Rattle.mir_func.specs.Objects.{object_of}
use Rattle.mir_func.specs.Sound.{items_of, AllItems, TargetIn, TargetsIn, SlotIn, PlaceIn, SlotsIn, HasBytes, BaseHasBytes, ObjectIn, ObjectsIn, IsNotPointer}
use Rattle.mir_func.specs.Sound.{LeavesPointer, number_of, code_number, NumbersOnce, OriginIn, PassesFirst, KindPassesFirst}
use Rattle.mir_func.specs.Sound.{HasForm, PassedIn}
use Rattle.mir_func.proofs.Passed.{passes_none}
use Rattle.read_body.specs.read_declarations.declared.stack.StackEntry.{StackEntry}
use Rattle.read_body.specs.Closing.{goes_to_one_of, item_goes_to, block_goes_to, blocks_go_to}
use Rattle.read_body.specs.StackEntryKind.{slots_of, ids_of_objects}
use Rattle.read_body.specs.FirstUseOrder.{is_met}
use Rattle.read_program.specs.Closing.{entry_ids}
use Rattle.read_program.specs.Objects.{operand_as, operands_as, place_as, kind_as, item_as, blocks_as, base_has_bytes, row_stays, kind_stays}
use Rattle.read_program.specs.Objects.{block_stays, blocks_stay}
use Rattle.read_program.proofs.Bodies.{IsReadBlock}
use Rattle.read_program.proofs.Frames.{slot_if_no_object}
use Rattle.read_program.proofs.Items.{KindNamesAmong}
use Rattle.read_program.proofs.Operands.{NamesAmong}
use Rattle.read_program.proofs.Printed.{renamed}

-- ---- lists

pub all_true : {X : Type 0} (p : X → Bool) (xs : List X) → list_all p xs ≡ true → All (λ x. p x ≡ true) xs
all_true p [] e = All-nil (λ x. p x ≡ true)
all_true p (x ∷ xs) e = let parts = and_parts (p x) (list_all p xs) e in All-cons (λ y. p y ≡ true) x xs parts.0 (all_true p xs parts.1)

-- ---- branches

targets_in : (ids all : List ℕ) → ((n : ℕ) → is_met n ids ≡ true → Contains all n) → (r : Row) → goes_to_one_of ids (row_exit r) ≡ true → TargetIn all r
targets_in ids all has (Branches op a b target) e = has target e
targets_in ids all has (Jumps target) e = has target e
targets_in ids all has _ e = tt

module _ (ids : List ℕ) where
  abbrev row_as : Op → List Operand → Row
  row_as op os = row_of (record { op = op; operands = operands_as ids os; volatile = false })

  abbrev row : Op → List Operand → Row
  row op os = row_of (record { op = op; operands = os; volatile = false })

  exit_immediate : (op : ImmediateOp) (os : List Operand) → fits_immediate op os ≡ true → row_exit (row_as (Immediate op) os) ≡ row_exit (row (Immediate op) os)
  exit_immediate op (Def rd ∷ Use a ∷ Imm i ∷ rest) e = refl
  exit_immediate op (Def rd ∷ OfObject n ∷ Imm i ∷ rest) e = refl
  exit_immediate op (Def rd ∷ Use a ∷ Part Lower y ∷ rest) e = refl
  exit_immediate op os e = absurd cc

  exit_load : (op : LoadOp) (os : List Operand) → fits_load op os ≡ true → row_exit (row_as (Load op) os) ≡ row_exit (row (Load op) os)
  exit_load op (Def rd ∷ Use a ∷ Imm i ∷ rest) e = refl
  exit_load op (Def rd ∷ Slot n ∷ Imm i ∷ rest) e = by (is_met n ids) where
    by : (b : Bool) → row_exit (row_of (record { op = Load op; operands = Def rd ∷ cond b (OfObject n) (Slot n) ∷ Imm i ∷ operands_as ids rest; volatile = false })) ≡ Onward
    by true = refl
    by false = refl
  exit_load op (Def rd ∷ OfObject n ∷ Imm i ∷ rest) e = refl
  exit_load op (Def rd ∷ Use a ∷ Part Lower y ∷ rest) e = refl
  exit_load op os e = absurd cc

  exit_store : (op : StoreOp) (os : List Operand) → fits_store op os ≡ true → row_exit (row_as (Store op) os) ≡ row_exit (row (Store op) os)
  exit_store op (Use rs ∷ Use a ∷ Imm i ∷ rest) e = refl
  exit_store op (Use rs ∷ Slot n ∷ Imm i ∷ rest) e = by (is_met n ids) where
    by : (b : Bool) → row_exit (row_of (record { op = Store op; operands = Use rs ∷ cond b (OfObject n) (Slot n) ∷ Imm i ∷ operands_as ids rest; volatile = false })) ≡ Onward
    by true = refl
    by false = refl
  exit_store op (Use rs ∷ OfObject n ∷ Imm i ∷ rest) e = refl
  exit_store op (Use rs ∷ Use a ∷ Part Lower y ∷ rest) e = refl
  exit_store op os e = absurd cc

  uses_as : (os : List Operand) → implicit_uses (operands_as ids os) ≡ implicit_uses os
  uses_as [] = refl
  uses_as (Slot n ∷ os) = by (is_met n ids) (uses_as os) where
    by : (b : Bool) → implicit_uses (operands_as ids os) ≡ implicit_uses os →
        implicit_uses (cond b (OfObject n) (Slot n) ∷ operands_as ids os) ≡ implicit_uses os
    by true e = e
    by false e = e
  uses_as (ImplicitUse r ∷ os) = ap (λ (z : List ℕ). cond (nat_eq r 2) z (r ∷ z)) (uses_as os)
  uses_as (_ ∷ os) = uses_as os

  -- control leaves it as before
  exit_as : (op : Op) (os : List Operand) → has_form op os ≡ true → row_exit (row_as op os) ≡ row_exit (row op os)
  exit_as (Registers op) (Def rd ∷ Use a ∷ Use b ∷ rest) e = refl
  exit_as (Immediate op) os e = exit_immediate op os e
  exit_as Lui (Def rd ∷ Imm i ∷ rest) e = refl
  exit_as Lui (Def rd ∷ Part Upper y ∷ rest) e = refl
  exit_as (Branch op) (Use a ∷ Use b ∷ OfBlock n ∷ rest) e = refl
  exit_as (Load op) os e = exit_load op os e
  exit_as (Store op) os e = exit_store op os e
  exit_as Copy (Def rd ∷ Use rs ∷ rest) e = refl
  exit_as PseudoBr (OfBlock n ∷ rest) e = refl
  exit_as PseudoCall (Symbol name ∷ Mask ∷ rest) e = refl
  exit_as PseudoRet os e = refl
  exit_as PseudoCallIndirect (Use r ∷ Mask ∷ rest) e = refl
  exit_as PseudoTail (Symbol name ∷ rest) e = refl
  exit_as PseudoTailIndirect os e = ap (λ (xs : List ℕ). row_exit (held_tail xs)) (uses_as os)
  exit_as NoReturnCall (Symbol name ∷ Mask ∷ rest) e = refl
  exit_as NoReturnCallIndirect os e = ap (λ (xs : List ℕ). row_exit (held_gone xs)) (uses_as os)
  exit_as _ os e = absurd cc

  pub targets_as : (bids all : List ℕ) → ((n : ℕ) → is_met n bids ≡ true → Contains all n) → (kind : ItemKind) → HasForm kind →
      goes_to_one_of bids (exit_of kind) ≡ true → TargetsIn all (kind_as ids kind)
  targets_as bids all has (Code i k) form e = subst (λ (j : Instruction). TargetIn all (row_of j)) (sym (renamed ids i form))
      (targets_in bids all has (row_as i.op i.operands) (ap (goes_to_one_of bids) (exit_as i.op i.operands form) ∙ e))
  targets_as bids all has (Mark v m) form e = tt
  targets_as bids all has (Phi p k) form e = tt

-- ---- slots

immediate_slot : (slots : List ℕ) (op : ImmediateOp) (rd a n : ℕ) → SlotIn slots (immediate_row op rd a n)
immediate_slot slots Addi rd zero n = tt
immediate_slot slots Addi rd (suc r) zero = tt
immediate_slot slots Addi rd (suc r) (suc n) = tt
immediate_slot slots op rd a n = tt

object_slot : (slots : List ℕ) (op : ImmediateOp) (rd n offset : ℕ) → SlotIn slots (object_row op rd n offset)
object_slot slots Addi rd n offset = tt
object_slot slots op rd n offset = tt

move_slot : (slots : List ℕ) (rd rs : ℕ) → SlotIn slots (move_row rd rs)
move_slot slots rd zero = tt
move_slot slots rd (suc r) = tt

module _ (named : List ℕ) (es : List StackEntry) (entries : List ℕ)
    (all : (n : ℕ) → n ≤ MAX_NUMBER → is_met n entries ≡ true → is_met n (entry_ids es) ≡ true) where
  abbrev ids : List ℕ
  ids = ids_of_objects named es

  abbrev slots : List ℕ
  slots = slots_of named es

  in_slots : (n : ℕ) → (n ≤ MAX_NUMBER) × (is_met n entries ≡ true) → is_met n ids ≡ false → Contains slots n
  in_slots n is none = slot_if_no_object named es n (all n is.0 is.1) none

  slot_immediate : (op : ImmediateOp) (os : List Operand) → fits_immediate op os ≡ true → SlotIn slots (row_as ids (Immediate op) os)
  slot_immediate op (Def rd ∷ Use a ∷ Imm i ∷ rest) e = immediate_slot slots op rd a (word i)
  slot_immediate op (Def rd ∷ OfObject n ∷ Imm i ∷ rest) e = object_slot slots op rd n (word i)
  slot_immediate op (Def rd ∷ Use a ∷ Part Lower y ∷ rest) e = tt
  slot_immediate op os e = absurd cc

  second : (a b : Operand) (rest : List Operand) → All (NamesAmong entries) (a ∷ b ∷ rest) → NamesAmong entries b
  second a b rest names = All-head (NamesAmong entries) b rest (All-tail (NamesAmong entries) a (b ∷ rest) names)

  slot_load : (op : LoadOp) (os : List Operand) → fits_load op os ≡ true → All (NamesAmong entries) os → SlotIn slots (row_as ids (Load op) os)
  slot_load op (Def rd ∷ Use a ∷ Imm i ∷ rest) e names = tt
  slot_load op (Def rd ∷ Slot n ∷ Imm i ∷ rest) e names = by (is_met n ids) refl where
    by : (b : Bool) → is_met n ids ≡ b → SlotIn slots (row_of (record {
      op = Load op;
      operands = Def rd ∷ cond b (OfObject n)
          (Slot n) ∷ Imm i ∷ operands_as ids rest;
      volatile = false;
    }))
    by true is = tt
    by false is = in_slots n (second (Def rd) (Slot n) (Imm i ∷ rest) names) is
  slot_load op (Def rd ∷ OfObject n ∷ Imm i ∷ rest) e names = tt
  slot_load op (Def rd ∷ Use a ∷ Part Lower y ∷ rest) e names = tt
  slot_load op os e names = absurd cc

  slot_store : (op : StoreOp) (os : List Operand) → fits_store op os ≡ true → All (NamesAmong entries) os → SlotIn slots (row_as ids (Store op) os)
  slot_store op (Use rs ∷ Use a ∷ Imm i ∷ rest) e names = tt
  slot_store op (Use rs ∷ Slot n ∷ Imm i ∷ rest) e names = by (is_met n ids) refl where
    by : (b : Bool) → is_met n ids ≡ b → SlotIn slots (row_of (record {
      op = Store op;
      operands = Use rs ∷ cond b (OfObject n)
          (Slot n) ∷ Imm i ∷ operands_as ids rest;
      volatile = false;
    }))
    by true is = tt
    by false is = in_slots n (second (Use rs) (Slot n) (Imm i ∷ rest) names) is
  slot_store op (Use rs ∷ OfObject n ∷ Imm i ∷ rest) e names = tt
  slot_store op (Use rs ∷ Use a ∷ Part Lower y ∷ rest) e names = tt
  slot_store op os e names = absurd cc

  held_tail_slot : (xs : List ℕ) → SlotIn slots (held_tail xs)
  held_tail_slot [] = tt
  held_tail_slot (r ∷ xs) = tt

  held_gone_slot : (xs : List ℕ) → SlotIn slots (held_gone xs)
  held_gone_slot [] = tt
  held_gone_slot (r ∷ xs) = tt

  slot_in_row : (op : Op) (os : List Operand) → has_form op os ≡ true → All (NamesAmong entries) os → SlotIn slots (row_as ids op os)
  slot_in_row (Registers op) (Def rd ∷ Use a ∷ Use b ∷ rest) e names = tt
  slot_in_row (Immediate op) os e names = slot_immediate op os e
  slot_in_row Lui (Def rd ∷ Imm i ∷ rest) e names = tt
  slot_in_row Lui (Def rd ∷ Part Upper y ∷ rest) e names = tt
  slot_in_row (Branch op) (Use a ∷ Use b ∷ OfBlock n ∷ rest) e names = tt
  slot_in_row (Load op) os e names = slot_load op os e names
  slot_in_row (Store op) os e names = slot_store op os e names
  slot_in_row Copy (Def rd ∷ Use rs ∷ rest) e names = move_slot slots rd rs
  slot_in_row PseudoBr (OfBlock n ∷ rest) e names = tt
  slot_in_row PseudoCall (Symbol name ∷ Mask ∷ rest) e names = tt
  slot_in_row PseudoRet os e names = tt
  slot_in_row PseudoCallIndirect (Use r ∷ Mask ∷ rest) e names = tt
  slot_in_row PseudoTail (Symbol name ∷ rest) e names = tt
  slot_in_row PseudoTailIndirect os e names = held_tail_slot (implicit_uses (operands_as ids os))
  slot_in_row NoReturnCall (Symbol name ∷ Mask ∷ rest) e names = tt
  slot_in_row NoReturnCallIndirect os e names = held_gone_slot (implicit_uses (operands_as ids os))
  slot_in_row _ os e names = absurd cc

  slot_in_place : (p : Option Place) (k : ℕ) → KindNamesAmong entries (Phi p k) → PlaceIn slots (place_as ids p)
  slot_in_place None k names = tt
  slot_in_place (Some (place.Register r)) k names = tt
  slot_in_place (Some (place.Const c)) k names = tt
  slot_in_place (Some (place.Slot n)) k names = by (is_met n ids) refl where
    by : (b : Bool) → is_met n ids ≡ b → PlaceIn slots (cond b None (Some (place.Slot n)))
    by true is = tt
    by false is = in_slots n names is

  passed_as : (o : Operand) → NamesAmong entries o → PassedIn slots (operand_as ids o)
  passed_as (Slot n) is = by (is_met n ids) where
    by : (b : Bool) → PassedIn slots (cond b (OfObject n) (Slot n))
    by true = tt
    by false = tt
  passed_as (Outgoing n) is = absurd is
  passed_as GlobalRegisters is = absurd is
  passed_as _ is = tt

  pub slots_as : (kind : ItemKind) → HasForm kind → KindNamesAmong entries kind → SlotsIn slots (kind_as ids kind)
  slots_as (Code i k) form names =
      subst (λ (j : Instruction). SlotIn slots (row_of j) × All (PassedIn slots) j.operands) (sym (renamed ids i form)) (
        slot_in_row i.op i.operands form names,
        All-map (PassedIn slots) (operand_as ids) i.operands
            (All-weaker (NamesAmong entries) (λ o. PassedIn slots (operand_as ids o)) passed_as i.operands names),
      )
  slots_as (Mark v m) form names = tt
  slots_as (Phi p k) form names = slot_in_place p k names

  -- what is read passes no slot
  no_words : (os : List Operand) → All (NamesAmong entries) os → outgoing_words (operands_as ids os) ≡ []
  no_words [] names = refl
  no_words (Slot n ∷ os) names = by (is_met n ids) (no_words os (All-tail (NamesAmong entries) (Slot n) os names)) where
    by : (b : Bool) → outgoing_words (operands_as ids os) ≡ [] → outgoing_words (cond b (OfObject n) (Slot n) ∷ operands_as ids os) ≡ []
    by true e = e
    by false e = e
  no_words (Outgoing n ∷ os) names = absurd (All-head (NamesAmong entries) (Outgoing n) os names)
  no_words (GlobalRegisters ∷ os) names = absurd (All-head (NamesAmong entries) GlobalRegisters os names)
  no_words (o ∷ os) names = no_words os (All-tail (NamesAmong entries) o os names)

  pub first_as : (kind : ItemKind) → HasForm kind → KindNamesAmong entries kind → KindPassesFirst slots (kind_as ids kind)
  first_as (Code i k) form names =
      subst (λ (j : Instruction). PassesFirst slots (row_of j)) (sym (renamed ids i form))
      (passes_none slots (record i { operands = operands_as ids i.operands }) (no_words i.operands names))
  first_as (Mark v m) form names = tt
  first_as (Phi p k) form names = tt

  -- ---- the stack pointer

  pointer_operand : (o : Operand) → IsNotPointer o → IsNotPointer (operand_as ids o)
  pointer_operand (Slot n) is = by (is_met n ids) where
    by : (b : Bool) → IsNotPointer (cond b (OfObject n) (Slot n))
    by true = tt
    by false = tt
  pointer_operand (Def r) is = is
  pointer_operand (Use r) is = is
  pointer_operand _ is = tt

  pub pointer_as : (kind : ItemKind) → HasForm kind → LeavesPointer kind → LeavesPointer (kind_as ids kind)
  pointer_as (Code i k) form is = subst (λ (j : Instruction). All IsNotPointer j.operands) (sym (renamed ids i form))
      (All-map IsNotPointer (operand_as ids) i.operands (All-weaker IsNotPointer (λ o. IsNotPointer (operand_as ids o)) pointer_operand i.operands is))
  pointer_as (Mark v m) form is = tt
  pointer_as (Phi p k) form is = tt

-- ---- objects

bytes_in : (objects : List Object) (n bytes : ℕ) (o : Option Object) → object_of objects n ≡ o →
    option_map_or (λ (x : Object). leb bytes x.size) o false ≡ true → HasBytes objects n bytes
bytes_in objects n bytes None is e = absurd cc
bytes_in objects n bytes (Some o) is e = (o, is, leb-true bytes o.size e)

base_in : (objects : List Object) (base : Base) (bytes : ℕ) → base_has_bytes objects base bytes ≡ true → BaseHasBytes objects base bytes
base_in objects (PointedBy r) bytes e = tt
base_in objects (ObjectAt n) bytes e = bytes_in objects n bytes (object_of objects n) refl e
base_in objects (BesidePart r y) bytes e = tt

object_in : (linked : Bool) (objects : List Object) (r : Row) → row_stays linked objects r ≡ true → ObjectIn objects r
object_in linked objects (Addresses rd n offset) e =
    let is = bytes_in objects n (cond linked 0 offset) (object_of objects n) refl e in (is.0, is.1, omega arith)
object_in linked objects (Loads rd op base offset) e = base_in objects base (offset + load_width op) e
object_in linked objects (Stores op rs base offset) e = base_in objects base (offset + store_width op) e
object_in linked objects _ e = tt

objects_in : (linked : Bool) (objects : List Object) (kind : ItemKind) → kind_stays linked objects kind ≡ true → ObjectsIn objects kind
objects_in linked objects (Code i k) e = object_in linked objects (row_of i) e
objects_in linked objects (Mark v m) e = tt
objects_in linked objects (Phi p k) e = tt

pub all_objects_in : (linked : Bool) (objects : List Object) (bs : List Block) → blocks_stay linked objects bs ≡ true → AllItems (λ i. ObjectsIn objects i.kind) bs
all_objects_in linked objects bs e = All-weaker (λ b. block_stays linked objects b ≡ true) (λ (b : Block). All (λ i. ObjectsIn objects i.kind) b.items)
    (λ b stays. All-weaker (λ i. kind_stays linked objects i.kind ≡ true) (λ i. ObjectsIn objects i.kind) (λ i is. objects_in linked objects i.kind is) b.items
    (all_true (λ (i : Item). kind_stays linked objects i.kind) b.items stays)) bs (all_true (block_stays linked objects) bs e)

-- ---- numbers

code_number_as : (named : List ℕ) (kind : ItemKind) → code_number (kind_as named kind) ≡ code_number kind
code_number_as named (Code i k) = refl
code_number_as named (Mark v m) = refl
code_number_as named (Phi p k) = refl

number_as : (named : List ℕ) (kind : ItemKind) → number_of (kind_as named kind) ≡ number_of kind
number_as named (Code i k) = refl
number_as named (Mark v m) = refl
number_as named (Phi p k) = refl

items_map : (named : List ℕ) (bs : List Block) → items_of (blocks_as named bs) ≡ map (item_as named) (items_of bs)
items_map named [] = refl
items_map named (b ∷ bs) = ap (λ (l : List Item). map (item_as named) b.items ++ l) (items_map named bs)
    ∙ sym (map-append (item_as named) b.items (items_of bs))

renamed_at : (named : List ℕ) (xs : List Item) (i : ℕ) (x : Item) → slice_get (map (item_as named) xs) i ≡ Some x →
    (y : Item) × (slice_get xs i ≡ Some y) × (item_as named y ≡ x)
renamed_at named [] i x e = absurd cc
renamed_at named (y ∷ xs) zero x e = (y, refl, cc)
renamed_at named (y ∷ xs) (suc i) x e = renamed_at named xs i x e

pub once_as : (named : List ℕ) (bs : List Block) → NumbersOnce (items_of bs) → NumbersOnce (items_of (blocks_as named bs))
once_as named bs once = subst NumbersOnce (sym (items_map named bs)) (λ i j x y k ex cx ey ny.
    let a = renamed_at named (items_of bs) i x ex in
    let b = renamed_at named (items_of bs) j y ey in
    once i j a.0 b.0 k a.1 (sym (code_number_as named a.0.kind) ∙ ap (λ (z : Item). code_number z.kind) a.2 ∙ cx) b.1
    (sym (number_as named b.0.kind) ∙ ap (λ (z : Item). number_of z.kind) b.2 ∙ ny))

-- ---- origins

pub origins_in : (P : ItemKind → Loc → Type 0) (b : Block) → IsReadBlock P b → All (λ i. OriginIn b i.origin) b.items
origins_in P b is = λ k d lt.
    subst (OriginIn b) (sym (is.items k _ (slice_get-get_or b.items k d lt))) (refl, subst (λ (n : ℕ). k < n) (sym is.source_end) lt)

-- ---- branches of blocks

pub all_go : (bids : List ℕ) (bs : List Block) → blocks_go_to bids bs ≡ true → AllItems (λ i. item_goes_to bids i ≡ true) bs
all_go bids bs e = All-weaker (λ b. block_goes_to bids b ≡ true) (λ (b : Block). All (λ i. item_goes_to bids i ≡ true) b.items)
    (λ b goes. all_true (item_goes_to bids) b.items goes) bs (all_true (block_goes_to bids) bs e)

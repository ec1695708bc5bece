-- Tracked things as they are gathered: one more thing, more things, and what is known of items where they are there.
use Rattle.std.proofs.Common.{◌≡◌, ◌⊎◌, ℕ, zero, suc, ◌+◌, ◌<◌, ◌≤◌, List, [], ◌∷◌, ◌++◌, map, length, refl, sym, ap, ◌∙◌, subst, arith, inl, inr, get_or}
use Rattle.std.proofs.Common.{append_assoc}
use Rattle.std.specs.Prelude.{Contains, All, Option, Some, None, Bool, true, false, cond, not, slice_get, take}
use Rattle.std.specs.HashSet.{contains}
use Rattle.std.proofs.lemmas.List.{append-nil, length-append}
use Rattle.std.proofs.lemmas.Bool.Decides.{eqb_tells}
use Rattle.std.proofs.lemmas.List.Elements.{Contains-append_left, Contains-append_right}
use Rattle.std.proofs.lemmas.Option.{slice_get_within, slice_get-get_or, get_or_from_slice_get, slice_get_read}
use Rattle.rv64_instr.specs.Arithmetic.{word}
use Rattle.rv64_instr.specs.Instruction.{Instruction}
use Rattle.rv64_instr.specs.declared.op.Op.{Op}
use Rattle.rv64_instr.specs.declared.op.ImmediateOp.{ImmediateOp}
use Rattle.rv64_instr.specs.declared.op.ImmediateOp.TheVariants.{Addi}
use Rattle.rv64_instr.specs.declared.op.Op.TheVariants.{Registers, Immediate, Lui, Branch, Load, Store, Copy}
use Rattle.rv64_instr.specs.declared.op.Op.TheVariants.{PseudoBr, PseudoCall, PseudoRet, PseudoCallIndirect}
use Rattle.rv64_instr.specs.declared.op.Op.TheVariants.{PseudoTail, PseudoTailIndirect, NoReturnCall, NoReturnCallIndirect}
use Rattle.rv64_instr.specs.declared.operand.Operand.{Operand}
use Rattle.rv64_instr.specs.declared.operand.Operand.TheVariants.{Def, Use, ImplicitDef, Imm, Slot as OfSlot, Object, Block as ToBlock, Symbol}
use Rattle.rv64_instr.specs.declared.place.Place.{Place}
use Rattle.rv64_instr.specs.declared.place.Place.TheVariants.{Register as AtRegister, Slot as AtSlot, Const}
use Rattle.rv64_instr.specs.Row.{Row, Fixes, Moves, LoadsSlot, StoresSlot, row_of, row_by, immediate_row, object_row, move_row, implicit_uses, outgoing_words}
use Rattle.rv64_instr.specs.Row.{held_tail, held_gone}
use Rattle.mir_func.specs.declared.debug_substitution.OperandPair.{OperandPair}
use Rattle.mir_func.specs.declared.item.Item.{Item}
use Rattle.mir_func.specs.declared.item.ItemKind.{ItemKind}
use Rattle.mir_func.specs.declared.item.ItemKind.TheVariants.{Code, Mark, Phi}
use Rattle.mir_func.specs.declared.variable.VarId.{VarId}
use Rattle.mir_func.specs.declared.variable.MarkValue.{MarkValue}
use Rattle.mir_func.specs.declared.variable.MarkValue.TheVariants.{Nothing, Constant, At, Pair as OfPairValue}
use Rattle.mir_func.specs.declared.block.Block.{Block}
use Rattle.mir_func.specs.Sound.{AllItems}
use Rattle.mir_func.specs.SoundFrame.{IsPhysical}
use Rattle.sem_mir.specs.Step.{defined}
use Rattle.sem_value_ids.specs.Pullback as path
use Rattle.sem_value_ids.specs.Pullback.{InSlot, OfPair, OfVariable, OfNumber}
use Rattle.value_proof.specs.Classes.{KnowsRow, KnowsPair, KnowsValue, KnowsPlace, DefinePhysical, KnowsItem, known_past}
use Rattle.value_proof.proofs.Pairs.{row_more, value_more, place_more, past_keeps, past_more}
use Rattle.value_solver.specs.declared.tracked.Tracked.{Tracked}
use Rattle.value_solver.specs.declared.tracked.Tracked.TheVariants.{Register, Slot, Part, Number}
use Rattle.value_solver.specs.Entry.{thing}
use Rattle.value_tracker.specs.Things.{AreThings}
use Rattle.value_live_ins.specs.declared.gather.TrackedItemSet.{TrackedItemSet}
use Rattle.value_live_ins.specs.Keys.{Key, key_of, is_key}
use Rattle.value_live_ins.specs.Gathering.{MayTrack, AreOnce, IsGathered, IsNoPart, Grows, KnowsPassed, HasPart, HasRegister, HasRegistersBelow}
use Rattle.value_live_ins.specs.Gathering.{KnowsPassedItems, KnowsPassedBlocks, KnowsBlocks}
use Rattle.value_live_ins.specs.Walking.{AreTracked}
use Rattle.value_live_ins.proofs.Keys.{key_itself, key_tells}

-- ---- what is in a list

pub is_in : {A : Type 0} (xs : List A) (i : ℕ) (x : A) → slice_get xs i ≡ Some x → Contains xs x
is_in xs i x e = (i, slice_get_within xs i x e, get_or_from_slice_get xs i x x e)

pub stands_at : {A : Type 0} (xs : List A) (x : A) → Contains xs x → (i : ℕ) × (slice_get xs i ≡ Some x)
stands_at xs x (k, lt, e) = (k, slice_get-get_or xs k x lt ∙ ap (λ z. Some z) e)

pub last_in : {A : Type 0} (xs : List A) (x : A) → Contains (xs ++ x ∷ []) x
last_in xs x = Contains-append_right xs (x ∷ []) x (zero, omega arith, refl)

-- what stands in a list with one more at its end
pub push_cases : {A : Type 0} (xs : List A) (x : A) (i : ℕ) (y : A) → slice_get (xs ++ x ∷ []) i ≡ Some y →
    (slice_get xs i ≡ Some y) ⊎ ((i ≡ length xs) × (x ≡ y))
push_cases [] x zero y e = let is : x ≡ y = cc in inr (refl, is)
push_cases [] x (suc i) y e = cc
push_cases (z ∷ zs) x zero y e = inl e
push_cases (z ∷ zs) x (suc i) y e = elim (push_cases zs x i y e) [ inl h ↦ inl h | inr h ↦ inr (ap suc h.0, h.1) ]

once_push : (xs : List Tracked) (x : Tracked) → AreOnce xs → (Contains xs x → ⊥) → AreOnce (xs ++ x ∷ [])
once_push xs x once none i j y e f = by_cases (push_cases xs x i y e) (push_cases xs x j y f) where
  by_cases : ((slice_get xs i ≡ Some y) ⊎ ((i ≡ length xs) × (x ≡ y))) → ((slice_get xs j ≡ Some y) ⊎ ((j ≡ length xs) × (x ≡ y))) → i ≡ j
  by_cases (inl a) (inl b) = once i j y a b
  by_cases (inl a) (inr b) = absurd (none (subst (Contains xs) (sym b.1) (is_in xs i y a)))
  by_cases (inr a) (inl b) = absurd (none (subst (Contains xs) (sym a.1) (is_in xs j y b)))
  by_cases (inr a) (inr b) = a.0 ∙ sym b.0

-- ---- one more thing

pub add_new : (old new : TrackedItemSet) (x : Tracked) → IsGathered old → MayTrack x → contains is_key old.seen (key_of x) ≡ false →
    new.things ≡ old.things ++ x ∷ [] →
    ((q : Key) → contains is_key new.seen q ≡ cond (is_key (key_of x) q) true (contains is_key old.seen q)) → IsGathered new
add_new old new x is may off things seen = record {
  once = subst AreOnce (sym things) (once_push old.things x is.once none);
  may = λ i y e. by_may i y (push_cases old.things x i y (ap (λ (z : List Tracked). slice_get z i) (sym things) ∙ e));
  seen = λ y. (to_things y, to_seen y);
} where
  none : Contains old.things x → ⊥
  none h = let both : true ≡ false = sym ((is.seen x).1 h) ∙ off in cc

  by_may : (i : ℕ) (y : Tracked) → ((slice_get old.things i ≡ Some y) ⊎ ((i ≡ length old.things) × (x ≡ y))) → MayTrack y
  by_may i y (inl h) = is.may i y h
  by_may i y (inr h) = subst MayTrack h.1 may

  by_test : (y : Tracked) (z : Bool) → is_key (key_of x) (key_of y) ≡ z → cond z true (contains is_key old.seen (key_of y)) ≡ true →
      Contains new.things y
  by_test y true h e = subst (λ (zs : List Tracked). Contains zs y) (sym things) (subst (Contains (old.things ++ x ∷ [])) (key_tells x y h)
      (last_in old.things x))
  by_test y false h e = subst (λ (zs : List Tracked). Contains zs y) (sym things) (Contains-append_left old.things (x ∷ []) y ((is.seen y).0 e))

  to_things : (y : Tracked) → contains is_key new.seen (key_of y) ≡ true → Contains new.things y
  to_things y e = by_test y (is_key (key_of x) (key_of y)) refl (sym (seen (key_of y)) ∙ e)

  or_true : (z : Bool) (b : Bool) → b ≡ true → cond z true b ≡ true
  or_true true b e = refl
  or_true false b e = e

  to_seen : (y : Tracked) → Contains new.things y → contains is_key new.seen (key_of y) ≡ true
  to_seen y h =
      let s = stands_at new.things y h in
      seen (key_of y) ∙ by_place (push_cases old.things x s.0 y (ap (λ (z : List Tracked). slice_get z s.0) (sym things) ∙ s.1)) s.0 where
        by_place : {y : Tracked} → {i : ℕ} → ((slice_get old.things i ≡ Some y) ⊎ ((i ≡ length old.things) × (x ≡ y))) → (j : ℕ) →
            cond (is_key (key_of x) (key_of y)) true (contains is_key old.seen (key_of y)) ≡ true
        by_place {y = y} {i = i} (inl a) j =
            or_true (is_key (key_of x) (key_of y)) (contains is_key old.seen (key_of y)) ((is.seen y).1 (is_in old.things i y a))
        by_place {y = y} {i = i} (inr a) j =
            ap (λ (z : Bool). cond z true (contains is_key old.seen (key_of y)))
            (ap (λ (z : Tracked). is_key (key_of x) (key_of z)) (sym a.1) ∙ key_itself (key_of x))

-- ---- more things

pub grows_none : (xs : List Tracked) → Grows xs xs
grows_none xs = record { more = []; is = sym (append-nil xs); others = λ i x e. absurd cc }

pub grows_one : (xs ys : List Tracked) (x : Tracked) → IsNoPart x → ys ≡ xs ++ x ∷ [] → Grows xs ys
grows_one xs ys x other e = record { more = x ∷ []; is = e; others = only } where
  only : (i : ℕ) (y : Tracked) → slice_get (x ∷ []) i ≡ Some y → IsNoPart y
  only zero y at = let same : x ≡ y = cc in subst IsNoPart same other
  only (suc i) y at = absurd cc

append_get : (xs ys : List Tracked) (i : ℕ) (x : Tracked) → slice_get (xs ++ ys) i ≡ Some x →
    (slice_get xs i ≡ Some x) ⊎ ((j : ℕ) × (slice_get ys j ≡ Some x))
append_get [] ys i x e = inr (i, e)
append_get (z ∷ zs) ys zero x e = inl e
append_get (z ∷ zs) ys (suc i) x e = append_get zs ys i x e

pub grows_then : (xs ys zs : List Tracked) → Grows xs ys → Grows ys zs → Grows xs zs
grows_then xs ys zs a b = record {
  more = a.more ++ b.more;
  is = b.is ∙ ap (λ (z : List Tracked). z ++ b.more) a.is ∙ append_assoc xs a.more b.more;
  others = λ i x e. elim (append_get a.more b.more i x e) [ inl h ↦ a.others i x h | inr h ↦ b.others h.0 x h.1 ];
}

pub grows_has : (xs ys : List Tracked) (x : Tracked) → Grows xs ys → Contains xs x → Contains ys x
grows_has xs ys x g h = subst (λ (z : List Tracked). Contains z x) (sym g.is) (Contains-append_left xs g.more x h)

-- ---- things as the laws of tokens name them

pub thing_in : (xs : List Tracked) (x : Tracked) → Contains xs x → Contains (map thing xs) (thing x)
thing_in [] x (k, lt, e) = absurd (let no : k < 0 = lt in omega (arith, no))
thing_in (y ∷ ys) x (zero, lt, e) = (zero, omega arith, ap thing e)
thing_in (y ∷ ys) x (suc k, lt, e) =
    let less : suc k < suc (length ys) = lt in
    let (j, l, at) = thing_in ys x (k, omega (arith, less), e) in
    (suc j, omega (arith, l), at)

map_append : (xs ys : List Tracked) → map thing (xs ++ ys) ≡ map thing xs ++ map thing ys
map_append [] ys = refl
map_append (x ∷ xs) ys = ap (λ (z : List path.Tracked). thing x ∷ z) (map_append xs ys)

pub more_in : (xs ys : List Tracked) → Grows xs ys → (y : path.Tracked) → Contains (map thing xs) y → Contains (map thing ys) y
more_in xs ys g y h =
    subst (λ (z : List path.Tracked). Contains z y) (sym (ap (map thing) g.is ∙ map_append xs g.more))
    (Contains-append_left (map thing xs) (map thing g.more) y h)

-- where more is known
module _ (xs ys : List path.Tracked) (more : (y : path.Tracked) → Contains xs y → Contains ys y) where
  pub passed_more : (resolve : OperandPair → Option OperandPair) (kind : ItemKind) → KnowsPassed xs resolve kind → KnowsPassed ys resolve kind
  passed_more resolve (Code i k) h = (row_more xs ys more (row_of i) h.0, h.1)
  passed_more resolve (Mark v m) h = value_more xs ys more resolve m h
  passed_more resolve (Phi p k) h = place_more xs ys more p h

-- what an item copies is known where it was known before the items above it
pub passed_past : (known : List path.Tracked) (items : List Item) (resolve : OperandPair → Option OperandPair) (kind : ItemKind) →
    KnowsPassed known resolve kind → KnowsPassed (known_past known items) resolve kind
passed_past known items = passed_more known (known_past known items) (past_keeps known items)

pub passed_grows : (old new : List Tracked) (resolve : OperandPair → Option OperandPair) (kind : ItemKind) → Grows old new →
    KnowsPassed (map thing old) resolve kind → KnowsPassed (map thing new) resolve kind
passed_grows old new resolve kind g h = passed_more (map thing old) (map thing new) (more_in old new g) resolve kind h

pub items_grow : (old new : List Tracked) (resolve : OperandPair → Option OperandPair) (items : List Item) → Grows old new →
    KnowsPassedItems (map thing old) resolve items → KnowsPassedItems (map thing new) resolve items
items_grow old new resolve items g knows k item at =
    passed_more (known_past (map thing old) (take k items)) (known_past (map thing new) (take k items))
    (past_more (map thing old) (map thing new) (take k items) (more_in old new g)) resolve item.kind (knows k item at)

-- of the first so many items
pub record PassedBelow (known : List path.Tracked) (resolve : OperandPair → Option OperandPair) (items : List Item) (n : ℕ) : Type 0 where
  pub each : (k : ℕ) (item : Item) → k < n → slice_get items k ≡ Some item → KnowsPassed (known_past known (take k items)) resolve item.kind

pub passed_none : (known : List path.Tracked) (resolve : OperandPair → Option OperandPair) (items : List Item) → PassedBelow known resolve items 0
passed_none known resolve items = record { each = λ k item lt at. absurd (omega (arith, lt)) }

pub passed_next : (old new : List Tracked) (resolve : OperandPair → Option OperandPair) (items : List Item) (n : ℕ) (item : Item) → Grows old new →
    PassedBelow (map thing old) resolve items n → n < length items → item ≡ get_or items n item →
    KnowsPassed (known_past (map thing new) (take n items)) resolve item.kind → PassedBelow (map thing new) resolve items (n + 1)
passed_next old new resolve items n item g below lt is here = record { each = each } where
  at_this : slice_get items n ≡ Some item
  at_this = slice_get_read items (length items) n item refl lt is

  each : (k : ℕ) (x : Item) → k < n + 1 → slice_get items k ≡ Some x → KnowsPassed (known_past (map thing new) (take k items)) resolve x.kind
  each k x less at = elim (eqb_tells k n) [
    | inl e ↦
        let both : Some item ≡ Some x = sym at_this ∙ (ap (slice_get items) (sym e.1) ∙ at) in
        let same : item ≡ x = cc in
        subst (λ (m : ℕ). KnowsPassed (known_past (map thing new) (take m items)) resolve x.kind) (sym e.1)
        (subst (λ (z : Item). KnowsPassed (known_past (map thing new) (take n items)) resolve z.kind) same here)
    | inr e ↦
        passed_more (known_past (map thing old) (take k items)) (known_past (map thing new) (take k items))
        (past_more (map thing old) (map thing new) (take k items) (more_in old new g)) resolve x.kind
        (below.each k x (let ne = e.1 in omega (arith, less, ne)) at)
  ]

pub passed_all : (known : List path.Tracked) (resolve : OperandPair → Option OperandPair) (items : List Item) (n : ℕ) → length items ≤ n →
    PassedBelow known resolve items n → KnowsPassedItems known resolve items
passed_all known resolve items n le below k item at = below.each k item (let lt = slice_get_within items k item at in omega (arith, lt, le)) at

-- with its part of a variable, all is known of an item
pub knows_all : (known : List path.Tracked) (variables : List VarId) (resolve : OperandPair → Option OperandPair) (kind : ItemKind) →
    ((v : VarId) → Contains variables v → Contains known (OfVariable v)) → HasPart variables kind → KnowsPassed known resolve kind →
    KnowsItem known resolve kind
knows_all known variables resolve (Code i k) parts has h = h
knows_all known variables resolve (Mark v m) parts has h = (h, parts v has)
knows_all known variables resolve (Phi p k) parts has h = h

-- ---- physical registers

abbrev ReadsPhysical : Row → Type 0
ReadsPhysical (Moves rd rs) = rs < 32
ReadsPhysical (StoresSlot rs n) = rs < 32
ReadsPhysical _ = Unit {0}

immediate_reads : (op : ImmediateOp) (rd a n : ℕ) → a < 32 → ReadsPhysical (immediate_row op rd a n)
immediate_reads Addi rd zero n h = tt
immediate_reads Addi rd (suc r) zero h = h
immediate_reads Addi rd (suc r) (suc n) h = tt
immediate_reads _ rd a n h = tt

object_reads : (op : ImmediateOp) (rd n o : ℕ) → ReadsPhysical (object_row op rd n o)
object_reads Addi rd n o = tt
object_reads _ rd n o = tt

move_reads : (rd rs : ℕ) → rs < 32 → ReadsPhysical (move_row rd rs)
move_reads rd zero h = tt
move_reads rd (suc r) h = h

held_tail_reads : (xs : List ℕ) → ReadsPhysical (held_tail xs)
held_tail_reads [] = tt
held_tail_reads (r ∷ xs) = tt

held_gone_reads : (xs : List ℕ) → ReadsPhysical (held_gone xs)
held_gone_reads [] = tt
held_gone_reads (r ∷ xs) = tt

reads_by : (op : Op) (os : List Operand) → All IsPhysical os → ReadsPhysical (row_by op os)
reads_by (Registers op) (Def rd ∷ Use a ∷ Use b ∷ rest) h = tt
reads_by (Immediate op) (Def rd ∷ Use a ∷ Imm i ∷ rest) h = immediate_reads op rd a (word i) (h 1 (Use a) (omega arith))
reads_by (Immediate op) (Def rd ∷ Object n ∷ Imm i ∷ rest) h = object_reads op rd n (word i)
reads_by Lui (Def rd ∷ Imm i ∷ rest) h = tt
reads_by (Branch op) (Use a ∷ Use b ∷ ToBlock target ∷ rest) h = tt
reads_by (Load op) (Def rd ∷ Use base ∷ Imm i ∷ rest) h = tt
reads_by (Load op) (Def rd ∷ OfSlot n ∷ rest) h = tt
reads_by (Load op) (Def rd ∷ Object n ∷ Imm i ∷ rest) h = tt
reads_by (Store op) (Use rs ∷ Use base ∷ Imm i ∷ rest) h = tt
reads_by (Store op) (Use rs ∷ OfSlot n ∷ rest) h = h 0 (Use rs) (omega arith)
reads_by (Store op) (Use rs ∷ Object n ∷ Imm i ∷ rest) h = tt
reads_by Copy (Def rd ∷ Use rs ∷ rest) h = move_reads rd rs (h 1 (Use rs) (omega arith))
reads_by PseudoBr (ToBlock target ∷ rest) h = tt
reads_by PseudoCall (Symbol name ∷ rest) h = tt
reads_by PseudoRet os h = tt
reads_by PseudoCallIndirect (Use r ∷ rest) h = tt
reads_by PseudoTail (Symbol name ∷ rest) h = tt
reads_by PseudoTailIndirect os h = held_tail_reads (implicit_uses os)
reads_by NoReturnCall (Symbol name ∷ rest) h = tt
reads_by NoReturnCallIndirect os h = held_gone_reads (implicit_uses os)
reads_by _ _ h = tt

pub moves_physical : (i : Instruction) (rd rs : ℕ) → All IsPhysical i.operands → row_of i ≡ Moves rd rs → rs < 32
moves_physical i rd rs h e = let P : Row → Type 0 = λ r. ReadsPhysical r in subst P e (reads_by i.op i.operands h)

pub stores_physical : (i : Instruction) (rs n : ℕ) → All IsPhysical i.operands → row_of i ≡ StoresSlot rs n → rs < 32
stores_physical i rs n h e = let P : Row → Type 0 = λ r. ReadsPhysical r in subst P e (reads_by i.op i.operands h)

defined_below : (call : Bool) (x : Operand) (r : ℕ) → IsPhysical x → defined call (Some x) ≡ Some r → r < 32
defined_below call (Def q) r h e = let same : q ≡ r = cc in subst (λ (z : ℕ). z < 32) same h
defined_below true (ImplicitDef q) r h e = let same : q ≡ r = cc in subst (λ (z : ℕ). z < 32) same h
defined_below false (ImplicitDef q) r h e = cc
defined_below true _ r h e = cc
defined_below false _ r h e = cc

pub define_physical : (call : Bool) (os : List Operand) → All IsPhysical os → DefinePhysical call os
define_physical call os h o r e = by_operand (slice_get os o) refl e where
  by_operand : (x : Option Operand) → slice_get os o ≡ x → defined call x ≡ Some r → r < 32
  by_operand (Some x) at d =
      defined_below call x r (subst IsPhysical (get_or_from_slice_get os o x x at) (h o x (slice_get_within os o x at))) d
  by_operand None at d = none call d where
    none : (b : Bool) → defined b None ≡ Some r → r < 32
    none true k = cc
    none false k = cc

-- ---- all things

part_first : (vs : List VarId) (more : List Tracked) (j : ℕ) (v : VarId) → slice_get vs j ≡ Some v → slice_get (map Part vs ++ more) j ≡ Some (Part v)
part_first [] more j v e = cc
part_first (w ∷ vs) more zero v e = let same : w ≡ v = cc in ap (λ (z : VarId). Some (Part z)) same
part_first (w ∷ vs) more (suc j) v e = part_first vs more j v e

part_only : (vs : List VarId) (more : List Tracked) (j : ℕ) (v : VarId) → ((i : ℕ) (x : Tracked) → slice_get more i ≡ Some x → IsNoPart x) →
    slice_get (map Part vs ++ more) j ≡ Some (Part v) → slice_get vs j ≡ Some v
part_only [] more j v others e = absurd (others j (Part v) e)
part_only (w ∷ vs) more zero v others e = let same : w ≡ v = cc in ap (λ (z : VarId). Some z) same
part_only (w ∷ vs) more (suc j) v others e = part_only vs more j v others e

map_length : (vs : List VarId) → length (map Part vs) ≡ length vs
map_length [] = refl
map_length (v ∷ vs) = ap suc (map_length vs)

module _ (variables : List VarId) (things : List Tracked) (g : Grows (map Part variables) things) where
  pub are_things : HasRegistersBelow 32 things → Contains things (Number 0) →
      ((i : ℕ) (x : Tracked) → slice_get things i ≡ Some x → MayTrack x) → AreThings variables things
  are_things registers nil may = record {
    variables_first = λ j v e. ap (λ (z : List Tracked). slice_get z j) g.is ∙ part_first variables g.more j v e;
    parts = λ j v e. part_only variables g.more j v g.others (ap (λ (z : List Tracked). slice_get z j) (sym g.is) ∙ e);
    registers = λ r lt none two. stands_at things (Register r) (registers r lt (lt, none, two));
    zero = stands_at things (Number 0) nil;
    slots = λ j n e. may j (Slot n) e;
  }

  pub parts_in : (v : VarId) → Contains variables v → Contains (map thing things) (OfVariable v)
  parts_in v h =
      let s = stands_at variables v h in
      thing_in things (Part v) (is_in things s.0 (Part v)
      (ap (λ (z : List Tracked). slice_get z s.0) g.is ∙ part_first variables g.more s.0 v s.1))

pub are_tracked : (g : TrackedItemSet) → IsGathered g → AreTracked g.things
are_tracked g is = record {
  once = is.once;
  registers = λ i r e. is.may i (Register r) e;
}

-- ---- what code passes on

module _ (i : Instruction) where
  pub row_knows_number : (rd c : ℕ) (things : List Tracked) → row_of i ≡ Fixes rd c → Contains things (Number c) → KnowsRow (map thing things) (row_of i)
  row_knows_number rd c things e h = subst (KnowsRow (map thing things)) (sym e) (thing_in things (Number c) h)

  pub row_knows_loaded : (rd n : ℕ) (things : List Tracked) → row_of i ≡ LoadsSlot rd n → Contains things (Slot n) → KnowsRow (map thing things) (row_of i)
  row_knows_loaded rd n things e h = subst (KnowsRow (map thing things)) (sym e) (thing_in things (Slot n) h)

  pub row_knows_stored : (rs n : ℕ) (things : List Tracked) → All IsPhysical i.operands → row_of i ≡ StoresSlot rs n → Contains things (Slot n) →
      KnowsRow (map thing things) (row_of i)
  row_knows_stored rs n things physical e h =
      subst (KnowsRow (map thing things)) (sym e) (stores_physical i rs n physical e, thing_in things (Slot n) h)

  pub row_knows_moved : (rd rs : ℕ) (things : List Tracked) → All IsPhysical i.operands → row_of i ≡ Moves rd rs → KnowsRow (map thing things) (row_of i)
  row_knows_moved rd rs things physical e = subst (KnowsRow (map thing things)) (sym e) (moves_physical i rd rs physical e)

pub not_is : (b c : Bool) → not b ≡ c → b ≡ not c
not_is true c e = ap not e
not_is false c e = ap not e

-- ---- what stays known

pub part_kept : (old new : List VarId) (kind : ItemKind) → ((v : VarId) → Contains old v → Contains new v) → HasPart old kind → HasPart new kind
part_kept old new (Code i k) kept h = h
part_kept old new (Mark v m) kept h = kept v h
part_kept old new (Phi p k) kept h = h

pub registers_more : (n : ℕ) (old new : List Tracked) → Grows old new → HasRegistersBelow n old → HasRegister n new → HasRegistersBelow (n + 1) new
registers_more n old new g below here m less is = elim (eqb_tells m n) [
  | inl e ↦ subst (λ (z : ℕ). HasRegister z new) (sym e.1) here is
  | inr e ↦ grows_has old new (Register m) g (below m (let ne = e.1 in omega (arith, less, ne)) is)
]

pub registers_kept : (n : ℕ) (old new : List Tracked) → Grows old new → HasRegistersBelow n old → HasRegistersBelow n new
registers_kept n old new g below m less is = grows_has old new (Register m) g (below m less is)

-- ---- the things of a function

module _ (variables : List VarId) (parts registers zero all : TrackedItemSet) (things : List Tracked) (first : parts.things ≡ map Part variables)
    (more : Grows parts.things registers.things) (then_zero : Grows registers.things zero.things) (rest : Grows zero.things all.things)
    (is : things ≡ all.things) where
  pub grows_all : Grows (map Part variables) things
  grows_all =
      subst (λ (z : List Tracked). Grows (map Part variables) z) (sym is) (subst (λ (z : List Tracked). Grows z all.things) first
      (grows_then parts.things zero.things all.things (grows_then parts.things registers.things zero.things more then_zero) rest))

  pub things_done : HasRegistersBelow 32 registers.things → Contains zero.things (Number 0) → IsGathered all → AreThings variables things
  things_done have nil gathered = are_things variables things grows_all
      (subst (HasRegistersBelow 32) (sym is) (registers_kept 32 zero.things all.things rest (registers_kept 32 registers.things zero.things then_zero have)))
      (subst (λ (z : List Tracked). Contains z (Number 0)) (sym is) (grows_has zero.things all.things (Number 0) rest nil))
      (λ i x e. gathered.may i x (ap (λ (z : List Tracked). slice_get z i) (sym is) ∙ e))

  pub tracked_done : IsGathered all → AreTracked things
  tracked_done gathered = subst AreTracked (sym is) (are_tracked all gathered)

  pub knows_done : (resolve : OperandPair → Option OperandPair) (blocks : List Block) → AllItems (λ i. HasPart variables i.kind) blocks →
      KnowsPassedBlocks (map thing all.things) resolve blocks → KnowsBlocks (map thing things) resolve blocks
  knows_done resolve blocks have passed b block lt k item at =
      let items = (get_or blocks b block).items in
      let within = slice_get_within items k item at in
      let known = known_past (map thing things) (take k items) in
      knows_all known variables resolve item.kind
      (λ v h. past_keeps (map thing things) (take k items) (OfVariable v) (parts_in variables things grows_all v h))
      (subst (λ (z : Item). HasPart variables z.kind) (get_or_from_slice_get items k item item at) (have b block lt k item within))
      (subst (λ (z : List Tracked). KnowsPassed (known_past (map thing z) (take k items)) resolve item.kind) (sym is) (passed b block lt k item at))

  pub all_known : (resolve : OperandPair → Option OperandPair) (blocks : List Block) → AllItems (λ i. HasPart variables i.kind) blocks →
      AllItems (λ i. KnowsPassed (map thing all.things) resolve i.kind) blocks → AllItems (λ i. KnowsItem (map thing things) resolve i.kind) blocks
  all_known resolve blocks have passed b block lt k item less =
      let kind = (get_or (get_or blocks b block).items k item).kind in
      knows_all (map thing things) variables resolve kind (parts_in variables things grows_all) (have b block lt k item less)
      (subst (λ (z : List Tracked). KnowsPassed (map thing z) resolve kind) (sym is) (passed b block lt k item less))

  pub fewer_variables : length variables ≤ length things
  fewer_variables =
      let long : length things ≡ length (map Part variables) + length grows_all.more =
      ap length grows_all.is ∙ length-append (map Part variables) grows_all.more in
      let same = map_length variables in
      omega (arith, long, same)

-- What is live or touched is named, so its number is at most the greatest one.
use Rattle.std.proofs.Common.{◌≡◌, ◌⊎◌, inl, inr, ◌↔◌, ℕ, zero, suc, ◌<◌, ◌≤◌, List, [], ◌∷◌, drop, Contains, Option, Some, None, Bool, true, false, cond}
use Rattle.std.proofs.Common.{◌++◌, ◌&&◌, ◌||◌, not, nat_eq, max, refl, sym, ap, ◌∙◌, subst, arith}
use Rattle.std.specs.List.{list_any}
use Rattle.std.specs.Prelude.{All, IsTrue}
use Rattle.std.proofs.Math.Nat.{le-max_left, le-max_right, le_trans}
use Rattle.std.proofs.lemmas.Bool.{eqb-true, eq-eqb, and_parts, or_left, or_right}
use Rattle.std.proofs.lemmas.List.Elements.{All-nil, All-cons, All-append, All-head, All-tail}
use Rattle.rv64_instr.specs.declared.operand.Operand.{Operand}
use Rattle.rv64_instr.specs.declared.operand.Operand.TheVariants.{Def, Use, ImplicitDef, ImplicitUse, GlobalRegisters}
use Rattle.rv64_instr.specs.declared.place.Place.{Place}
use Rattle.rv64_instr.specs.declared.place.Place.TheVariants.{Register}
use Rattle.rv64_instr.specs.DefsAndUses.{reads, input_reads, base_reads, callee_reads}
use Rattle.rv64_instr.specs.Form.{has_form}
use Rattle.rv64_instr.specs.Instruction.{Instruction}
use Rattle.rv64_instr.proofs.Tails.{global_low}
use Rattle.rv64_instr.specs.LocationEffects.{callee_place, first_use, second_use, is_register, is_implicit_use, has_implicit_uses, uses_of, defines_of}
use Rattle.rv64_instr.specs.Row.{Row, Fixes, Moves, Sets, Addresses, Loads, Stores, LoadsSlot, StoresSlot, Branches, Jumps, Calls, Returns, Unfit, row_of}
use Rattle.rv64_instr.specs.Row.{Callee, Named, Held, Content, Number, PartOf, PointedBy, ObjectAt, BesidePart}
use Rattle.mir_func.specs.declared.block.Block.{Block}
use Rattle.mir_func.specs.declared.debug_substitution.OperandPair.{OperandPair}
use Rattle.mir_func.specs.declared.item.Item.{Item}
use Rattle.mir_func.specs.declared.item.ItemKind.{ItemKind}
use Rattle.mir_func.specs.declared.item.ItemKind.TheVariants.{Code, Mark, Phi}
use Rattle.mir_func.specs.declared.position.Pos.{Pos}
use Rattle.mir_func.specs.declared.exit.Exit.{Exit}
use Rattle.mir_func.specs.declared.exit.Exit.TheVariants.{Onward, Perhaps, Always, Final}
use Rattle.mir_func.specs.Exits.{exit_of}
use Rattle.mir_func.specs.Graph.{Fetch, Here, EndOfBlock, Outside, front, end_of, fetch_in, from_block, program_of}
use Rattle.mir_func.specs.Sound.{AllItems, HasForm}
use Rattle.sem_mir.specs.Live.{Live, Uses, KindUses, used, later}
use Rattle.sem_mir.proofs.Implicit.{implicit}
use Rattle.pass_trait.specs.Causes.{is_of_register, names}
use Rattle.pass_liveness.specs.Walk.{live_before, live_across, live_past, live_from}
use Rattle.scan_allocation.proofs.Named.{set_is_named}
use Rattle.scan_intervals.specs.Liveness.{at_starts}
use Rattle.scan_intervals.specs.Points.{CodePoint, next_of, with_point, is_live_before, is_live_after, points_in, points_of}
use Rattle.scan_intervals.specs.Intervals.{touches}
use Rattle.scan_allocation.specs.spill_simulation.MaySpill.{uses_in, implicits_in}
use Rattle.scan_allocation.proofs.spill_simulation.Explicit.{explicit}
use Rattle.scan_allocation.proofs.spill_simulation.Near.{reads_implicit, reads_either}
use Rattle.scan_liveness.specs.Registers.{register_of, greatest_operand, greatest_of, greatest_in, greatest_register}

or_cases : (x y : Bool) → (x || y) ≡ true → (x ≡ true) ⊎ (y ≡ true)
or_cases true y e = inl refl
or_cases false y e = inr e

three_cases : (x y z : Bool) → (x || y || z) ≡ true → (x ≡ true) ⊎ ((y ≡ true) ⊎ (z ≡ true))
three_cases true y z e = inl refl
three_cases false true z e = inr (inl refl)
three_cases false false z e = inr (inr e)

-- ---- operands

of_operand : (counts : Bool) (o : Operand) (r : ℕ) → is_of_register counts r o ≡ true → register_of o ≡ r
of_operand counts (Def s) r e = eqb-true s r e
of_operand counts (Use s) r e = eqb-true s r e
of_operand counts (ImplicitDef s) r e = eqb-true s r (and_parts counts (nat_eq s r) e).1
of_operand counts (ImplicitUse s) r e = eqb-true s r (and_parts counts (nat_eq s r) e).1
of_operand counts _ r e = cc

-- some operand is the register
abbrev pub among : ℕ → List Operand → Bool
among r os = list_any (λ o. nat_eq (register_of o) r) os

here_among : (o : Operand) (os : List Operand) (r : ℕ) → register_of o ≡ r → among r (o ∷ os) ≡ true
here_among o os r e = or_left (nat_eq (register_of o) r) (among r os) (eq-eqb (register_of o) r e)

later_among : (o : Operand) (os : List Operand) (r : ℕ) → among r os ≡ true → among r (o ∷ os) ≡ true
later_among o os r e = or_right (nat_eq (register_of o) r) (among r os) e

among_most : (os : List Operand) (r : ℕ) → among r os ≡ true → r ≤ greatest_operand os
among_most [] r e = cc
among_most (o ∷ os) r e = elim (or_cases (nat_eq (register_of o) r) (among r os) e) [
  | inl h ↦ subst (λ (n : ℕ). n ≤ greatest_operand (o ∷ os)) (eqb-true (register_of o) r h) (le-max_left (register_of o) (greatest_operand os))
  | inr h ↦ le_trans (among_most os r h) (le-max_right (register_of o) (greatest_operand os))
]

pub named_among : (counts : Bool) (os : List Operand) (r : ℕ) → list_any (is_of_register counts r) os ≡ true → among r os ≡ true
named_among counts [] r e = cc
named_among counts (o ∷ os) r e = elim (or_cases (is_of_register counts r o) (list_any (is_of_register counts r) os) e) [
  | inl h ↦ here_among o os r (of_operand counts o r h)
  | inr h ↦ later_among o os r (named_among counts os r h)
]

used_among : (os : List Operand) (r : ℕ) → Contains (uses_in os) r → among r os ≡ true
used_among [] r (k, lt, e) = absurd (omega (arith, lt))
used_among (Use s ∷ os) r (zero, lt, e) = here_among (Use s) os r e
used_among (Use s ∷ os) r (suc k, lt, e) = later_among (Use s) os r (used_among os r (k, omega (arith, lt), e))
used_among (o ∷ os) r k = later_among o os r (used_among os r k)

implicit_among : (os : List Operand) (r : ℕ) → Contains (implicits_in os) r → among r os ≡ true
implicit_among [] r (k, lt, e) = absurd (omega (arith, lt))
implicit_among (ImplicitDef s ∷ os) r (zero, lt, e) = here_among (ImplicitDef s) os r e
implicit_among (ImplicitDef s ∷ os) r (suc k, lt, e) = later_among (ImplicitDef s) os r (implicit_among os r (k, omega (arith, lt), e))
implicit_among (ImplicitUse s ∷ os) r (zero, lt, e) = here_among (ImplicitUse s) os r e
implicit_among (ImplicitUse s ∷ os) r (suc k, lt, e) = later_among (ImplicitUse s) os r (implicit_among os r (k, omega (arith, lt), e))
implicit_among (o ∷ os) r k = later_among o os r (implicit_among os r k)

of_implicit : (o : Operand) (r : ℕ) → 32 ≤ r → is_implicit_use r o ≡ true → register_of o ≡ r
of_implicit (ImplicitUse s) r low e = eqb-true s r e
of_implicit GlobalRegisters r low e = let small = global_low r e in absurd (omega (arith, low, small))
of_implicit _ r low e = cc

any_implicit_among : (os : List Operand) (r : ℕ) → 32 ≤ r → list_any (is_implicit_use r) os ≡ true → among r os ≡ true
any_implicit_among [] r low e = cc
any_implicit_among (o ∷ os) r low e = elim (or_cases (is_implicit_use r o) (list_any (is_implicit_use r) os) e) [
  | inl h ↦ here_among o os r (of_implicit o r low h)
  | inr h ↦ later_among o os r (any_implicit_among os r low h)
]

-- ---- code

is_head : (a r : ℕ) (rs : List ℕ) → nat_eq r a ≡ true → Contains (a ∷ rs) r
is_head a r rs e = (0, omega arith, sym (eqb-true r a e))

is_second : (a b r : ℕ) (rs : List ℕ) → nat_eq r b ≡ true → Contains (a ∷ b ∷ rs) r
is_second a b r rs e = (1, omega arith, sym (eqb-true r b e))

first_read : (row : Row) (r : ℕ) → is_register r (first_use row) ≡ true → Contains (reads row) r
first_read (Moves rd rs) r e = is_head rs r [] e
first_read (Sets rd op a b) r e = is_head a r (input_reads b) e
first_read (Loads rd op (PointedBy a) o) r e = is_head a r [] e
first_read (Loads rd op (ObjectAt n) o) r e = cc
first_read (Loads rd op (BesidePart a y) o) r e = is_head a r [] e
first_read (Stores op rs base o) r e = is_head rs r (base_reads base) e
first_read (StoresSlot rs n) r e = is_head rs r [] e
first_read (Branches op a b target) r e = is_head a r (b ∷ []) e
first_read (Calls call) r e = by_callee call.callee e where
  by_callee : (callee : Callee) → is_register r (callee_place callee) ≡ true → Contains (callee_reads callee ++ call.args) r
  by_callee (Named name) e = cc
  by_callee (Held a) e = is_head a r call.args e
first_read _ r e = cc

second_read : (row : Row) (r : ℕ) → is_register r (second_use row) ≡ true → Contains (reads row) r
second_read (Sets rd op a (Content b)) r e = is_second a b r [] e
second_read (Sets rd op a (Number n)) r e = cc
second_read (Sets rd op a (PartOf half y)) r e = cc
second_read (Stores op rs (PointedBy a) o) r e = is_second rs a r [] e
second_read (Stores op rs (ObjectAt n) o) r e = cc
second_read (Stores op rs (BesidePart a y) o) r e = is_second rs a r [] e
second_read (Branches op a b target) r e = is_second a b r [] e
second_read _ r e = cc

read_among : (i : Instruction) (r : ℕ) → IsTrue (has_form i.op i.operands) → (r ≡ 0 → ⊥) → Contains (reads (row_of i)) r → among r i.operands ≡ true
read_among i r form ne c = elim (reads_either (row_of i) r c) [
  | inl u ↦ used_among i.operands r ((explicit i form).explicit_used r u ne)
  | inr u ↦ implicit_among i.operands r (reads_implicit (row_of i) i.operands r (implicit i) u)
]

-- a virtual register that code reads
pub code_among : (i : Instruction) (r : ℕ) → IsTrue (has_form i.op i.operands) → 32 ≤ r → uses_of i (Register r) ≡ true → among r i.operands ≡ true
code_among i r form low e =
    elim (three_cases (is_register r (first_use (row_of i))) (is_register r (second_use (row_of i)))
    (has_implicit_uses (row_of i) && list_any (is_implicit_use r) i.operands) e) as (λ _. among r i.operands ≡ true) [
      | inl h ↦ read_among i r form real (first_read (row_of i) r h)
      | inr other ↦ elim other as (λ _. among r i.operands ≡ true) [
        | inl g ↦ read_among i r form real (second_read (row_of i) r g)
        | inr g ↦ any_implicit_among i.operands r low (and_parts (has_implicit_uses (row_of i)) (list_any (is_implicit_use r) i.operands) g).1
      ]
    ] where
      real : r ≡ 0 → ⊥
      real z = omega (arith, low, z)

-- a virtual register that code sets
pub set_among : (i : Instruction) (r : ℕ) → IsTrue (has_form i.op i.operands) → 32 ≤ r → defines_of (row_of i) (Register r) ≡ true →
    among r i.operands ≡ true
set_among i r form low e = elim (set_is_named i r form e) as (λ _. among r i.operands ≡ true) [
  | inl named ↦ named_among (has_implicit_uses (row_of i)) i.operands r named
  | inr small ↦ absurd (omega (arith, small, low))
]

-- a virtual register that code reads or names has a number up to the greatest one
code_most : (i : Instruction) (r : ℕ) → IsTrue (has_form i.op i.operands) → 32 ≤ r → uses_of i (Register r) ≡ true → r ≤ greatest_operand i.operands
code_most i r form low e = among_most i.operands r (code_among i r form low e)

named_most : (counts : Bool) (os : List Operand) (r : ℕ) → list_any (is_of_register counts r) os ≡ true → r ≤ greatest_operand os
named_most counts os r e = among_most os r (named_among counts os r e)

-- ---- positions

-- what is said of all items is said of what stands at a position
front_item : (P : Item → Type 0) (is : List Item) (n : ℕ) (k : ℕ) (bs : List Block) (i : Item) → All P is → front (drop n is) k bs ≡ Here i → P i
front_item P [] zero k [] i all e = cc
front_item P [] (suc n) k [] i all e = cc
front_item P [] zero k (b ∷ bs) i all e = cc
front_item P [] (suc n) k (b ∷ bs) i all e = cc
front_item P (x ∷ is) zero k bs i all e = let same : x ≡ i = cc in subst P same (All-head P x is all)
front_item P (x ∷ is) (suc n) k bs i all e = front_item P is n k bs i (All-tail P x is all) e

pub fetched_item : (P : Item → Type 0) (bs : List Block) (n k : ℕ) (i : Item) → AllItems P bs → fetch_in (from_block bs n) k ≡ Here i → P i
fetched_item P [] n k i all e = cc
fetched_item P (b ∷ bs) n k i all e =
    by_test (nat_eq b.id n) e (λ h. fetched_item P bs n k i (All-tail (λ (c : Block). All P c.items) b bs all) h) where
      by_test : (z : Bool) → fetch_in (cond z (b ∷ bs) (from_block bs n)) k ≡ Here i → (fetch_in (from_block bs n) k ≡ Here i → P i) → P i
      by_test true h more = front_item P b.items k b.source_end bs i (All-head (λ (c : Block). All P c.items) b bs all) h
      by_test false h more = more h

-- an item in form, whose registers have numbers up to a limit
abbrev pub IsUpTo : (most : ℕ) → Item → Type 0
IsUpTo most i = HasForm i.kind × (greatest_of i.kind ≤ most)

items_up_to : (is : List Item) (most : ℕ) → All (λ i. HasForm i.kind) is → greatest_in is ≤ most → All (IsUpTo most) is
items_up_to [] most forms le = All-nil (IsUpTo most)
items_up_to (i ∷ is) most forms le =
    All-cons (IsUpTo most) i is
    (All-head (λ (x : Item). HasForm x.kind) i is forms, le_trans (le-max_left (greatest_of i.kind) (greatest_in is)) le)
    (items_up_to is most (All-tail (λ (x : Item). HasForm x.kind) i is forms) (le_trans (le-max_right (greatest_of i.kind) (greatest_in is)) le))

blocks_up_to : (bs : List Block) (most : ℕ) → AllItems (λ i. HasForm i.kind) bs → greatest_register bs ≤ most → AllItems (IsUpTo most) bs
blocks_up_to [] most forms le = All-nil (λ (b : Block). All (IsUpTo most) b.items)
blocks_up_to (b ∷ bs) most forms le =
    All-cons (λ (c : Block). All (IsUpTo most) c.items) b bs
    (items_up_to b.items most (All-head (λ (c : Block). All (λ i. HasForm i.kind) c.items) b bs forms)
    (le_trans (le-max_left (greatest_in b.items) (greatest_register bs)) le))
    (blocks_up_to bs most (All-tail (λ (c : Block). All (λ i. HasForm i.kind) c.items) b bs forms)
    (le_trans (le-max_right (greatest_in b.items) (greatest_register bs)) le))

pub up_to : (bs : List Block) → AllItems (λ i. HasForm i.kind) bs → AllItems (IsUpTo (greatest_register bs)) bs
up_to bs forms = blocks_up_to bs (greatest_register bs) forms (omega arith)

-- ---- what is live

module _ (bs : List Block) (resolve : OperandPair → Option OperandPair) (most : ℕ) (each : AllItems (IsUpTo most) bs) (r : ℕ) (low : 32 ≤ r) where
  kind_most : (k : ItemKind) → HasForm k → greatest_of k ≤ most → KindUses k (Register r) → r ≤ most
  kind_most (Code i n) form le u = le_trans (code_most i r form low u) le
  kind_most (Mark v m) form le u = absurd u
  kind_most (Phi p n) form le u = absurd u

  uses_most : (p : Pos) (x : Fetch) → fetch_in (from_block bs p.block) p.item ≡ x → Uses x (Register r) → r ≤ most
  uses_most p (Here i) e u = let k = fetched_item (IsUpTo most) bs p.block p.item i each e in kind_most i.kind k.0 k.1 u
  uses_most p (EndOfBlock k n) e u = absurd u
  uses_most p Outside e u = absurd u

  -- a virtual register that is live somewhere
  pub live_most : (p : Pos) → Live (program_of false bs resolve) (Register r) p → r ≤ most
  live_most p (used u) = uses_most p (fetch_in (from_block bs p.block) p.item) refl u
  live_most p (later unset edge alive) = live_most _ alive

-- ---- what is touched

module _ (live : ℕ → ℕ → Bool) (most r : ℕ) (low : 32 ≤ r) (none : (n : ℕ) → live n r ≡ true → r ≤ most) where
  past_most : (next : Option ℕ) → live_past (at_starts live) next (Register r) ≡ true → r ≤ most
  past_most None e = cc
  past_most (Some n) e = none n e

  across_most : (x : Exit) (b : Bool) → (b ≡ true → r ≤ most) → live_across (at_starts live) x b (Register r) ≡ true → r ≤ most
  across_most Onward b h e = h e
  across_most (Perhaps n) b h e = elim (or_cases b (live n r) e) [ inl t ↦ h t | inr t ↦ none n t ]
  across_most (Always n) b h e = none n e
  across_most Final b h e = cc

  before_most : (k : ItemKind) (b : Bool) → HasForm k → greatest_of k ≤ most → (b ≡ true → r ≤ most) → live_before k b (Register r) ≡ true → r ≤ most
  before_most (Code i n) b form le h e = elim (or_cases (uses_of i (Register r)) (b && not (defines_of (row_of i) (Register r))) e) [
    | inl u ↦ le_trans (code_most i r form low u) le
    | inr t ↦ h (and_parts b (not (defines_of (row_of i) (Register r))) t).0
  ]
  before_most (Mark v m) b form le h e = h e
  before_most (Phi p n) b form le h e = h e

  from_most : (is : List Item) (next : Option ℕ) → All (IsUpTo most) is → live_from (at_starts live) is next (Register r) ≡ true → r ≤ most
  from_most [] next each e = past_most next e
  from_most (i ∷ is) next each e =
      let here = All-head (IsUpTo most) i is each in
      before_most i.kind (live_across (at_starts live) (exit_of i.kind) (live_from (at_starts live) is next (Register r)) (Register r)) here.0 here.1
      (across_most (exit_of i.kind) (live_from (at_starts live) is next (Register r)) (from_most is next (All-tail (IsUpTo most) i is each))) e

  -- a point touches the register
  abbrev Touched : CodePoint → Type 0
  Touched p = touches r p ≡ true → r ≤ most

  point_most : (k : ItemKind) (before after : ℕ → Bool) (ps : List CodePoint) → HasForm k → greatest_of k ≤ most →
      (before r ≡ true → r ≤ most) → (after r ≡ true → r ≤ most) → All Touched ps →
      All Touched (with_point k (λ code. record { code = code; before = before; after = after }) ps)
  point_most (Code i n) before after ps form le b a each =
      All-cons Touched (record { code = i; before = before; after = after }) ps
      (λ e. elim (three_cases (names r (Code i None)) (before r) (after r) (turned (names r (Code i None)) (before r) (after r) ∙ e)) [
        | inl h ↦ le_trans (named_most (has_implicit_uses (row_of i)) i.operands r h) le
        | inr other ↦ elim other [ inl h ↦ b h | inr h ↦ a h ]
      ]) each where
        turned : (x y z : Bool) → (x || y || z) ≡ (x || (y || z))
        turned true y z = refl
        turned false y z = refl
  point_most (Mark v m) before after ps form le b a each = each
  point_most (Phi p n) before after ps form le b a each = each

  in_most : (is : List Item) (next : Option ℕ) → All (IsUpTo most) is → All Touched (points_in (at_starts live) is next)
  in_most [] next each = All-nil Touched
  in_most (i ∷ is) next each =
      let here = All-head (IsUpTo most) i is each in
      let rest = All-tail (IsUpTo most) i is each in
      point_most i.kind (is_live_before (at_starts live) (i ∷ is) next) (is_live_after (at_starts live) i.kind is next)
      (points_in (at_starts live) is next) here.0 here.1 (from_most (i ∷ is) next each)
      (across_most (exit_of i.kind) (live_from (at_starts live) is next (Register r)) (from_most is next rest)) (in_most is next rest)

  pub of_most : (bs : List Block) → AllItems (IsUpTo most) bs → All Touched (points_of (at_starts live) bs)
  of_most [] each = All-nil Touched
  of_most (b ∷ bs) each =
      All-append Touched (points_in (at_starts live) b.items (next_of bs)) (points_of (at_starts live) bs)
      (in_most b.items (next_of bs) (All-head (λ (c : Block). All (IsUpTo most) c.items) b bs each))
      (of_most bs (All-tail (λ (c : Block). All (IsUpTo most) c.items) b bs each))

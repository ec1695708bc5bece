-- What the rule chooses may be spilled: the scratch registers are free, homes are slots of their own, no call names a spilled register in an
-- implicit operand and no code that was added names one, and those that are live at the start are stored there, if no branch goes there.
use Rattle.std.proofs.Common.{◌≡◌, ◌⊎◌, ℕ, zero, suc, ◌+◌, ◌<◌, ◌≤◌, List, []}
use Rattle.std.proofs.Common.{◌∷◌, filter, take, length, All, Contains, Option, Some, None, Bool}
use Rattle.std.proofs.Common.{true, false, cond, not, ◌&&◌, nat_eq, refl, sym}
use Rattle.std.proofs.Common.{ap, ◌∙◌, subst, inl, inr, eq-eqb, eqb-true, ne_eqb, lt-ltb, get_or, arith}
use Rattle.std.specs.List.{list_any}
use Rattle.std.specs.Prelude.{IsTrue}
use Rattle.std.proofs.lemmas.Bool.{cases_lt, and_parts, and_from, or_left, or_right}
use Rattle.std.proofs.lemmas.List.Elements.{Contains-append_left, Contains-append_right}
use Rattle.std.proofs.lemmas.List.Concat.{flat_map-cons}
use Rattle.rv64_instr.specs.declared.operand.Operand.{Operand}
use Rattle.rv64_instr.specs.declared.operand.Operand.TheVariants.{Def, Use, ImplicitDef, ImplicitUse}
use Rattle.rv64_instr.specs.declared.place.Place.{Place}
use Rattle.rv64_instr.specs.declared.place.Place.TheVariants.{Register, Slot, Const}
use Rattle.rv64_instr.specs.Form.{has_form}
use Rattle.rv64_instr.specs.Instruction.{Instruction}
use Rattle.rv64_instr.specs.LocationEffects.{has_implicit_uses}
use Rattle.rv64_instr.proofs.Tails.{global_low}
use Rattle.rv64_instr.specs.Row.{Row, Branches, Jumps, row_of}
use Rattle.mir_func.specs.declared.debug_substitution.OperandPair.{OperandPair}
use Rattle.mir_func.specs.declared.position.Pos.{Pos}
use Rattle.mir_func.specs.declared.position.Origin.{Origin}
use Rattle.mir_func.specs.declared.variable.MarkValue.TheVariants.{Nothing, Constant, At, Pair}
use Rattle.mir_func.specs.declared.block.Block.{Block}
use Rattle.mir_func.specs.declared.item.Item.{Item}
use Rattle.mir_func.specs.declared.item.ItemKind.{ItemKind}
use Rattle.mir_func.specs.declared.item.ItemKind.TheVariants.{Code, Mark, Phi}
use Rattle.mir_func.specs.Function.{Function}
use Rattle.mir_func.specs.Graph.{Here, program_of}
use Rattle.mir_func.specs.Sound.{items_of, HasForm}
use Rattle.pass_trait.specs.sem_mir.InitialState.{first_of}
use Rattle.pass_trait.specs.sem_mir.Follow.{OnRow, GoesTo}
use Rattle.pass_trait.specs.sem_mir.Live.{Live, used, later}
use Rattle.pass_trait.specs.declared.loss.Reason.TheVariants.{NoScratch, CallNamed, EntryLoop}
use Rattle.pass_trait.specs.Causes.{is_of_register, is_implicit_of, names, names_implicitly, is_named, scratch_of}
use Rattle.pass_trait.specs.Sizes.{greatest}
use Rattle.spill_simulation.specs.spill_code.declared.spilling.SlotAssignment.{SlotAssignment}
use Rattle.spill_simulation.specs.spill_code.declared.spilling.Spilling.{Spilling}
use Rattle.spill_simulation.specs.spill_code.Rewrite.{slot_of}
use Rattle.spill_simulation.specs.MaySpill.{uses_in, defs_in, implicits_in, IsNoScratch, FitsCode, Fits, AreHomes}
use Rattle.spill_simulation.specs.Follows.{MaySpill}
use Rattle.spill_simulation.proofs.Places.{stands_at, contains_at}
use Rattle.spill_rule.specs.Choice.{is_added, binds, is_bound, row_goes, goes, is_looped}
use Rattle.spill_rule.specs.Choice.{lacks_scratch, reason_of, is_free, candidates, room, chosen, next_slot}
use Rattle.spill_rule.specs.Choice.{homes_from, homes_of, spilling_of, entry_of}
use Rattle.spill_rule.specs.Chosen.{IsReservable, AreDistinct, AsksElsewhere, ChosenMaySpill}
use Rattle.spill_rule.specs.Rule.{Decides}
use Rattle.spill_rule.proofs.Scratch.{kept_by, Two, two, saved, kept_registers, reservable_real, not_small}

-- ---- lists

head_in : {A : Type 0} (x : A) (xs : List A) → Contains (x ∷ xs) x
head_in x xs = (0, omega arith, refl)

tail_in : {A : Type 0} (x y : A) (xs : List A) → Contains xs y → Contains (x ∷ xs) y
tail_in x y xs (k, lt, e) = (suc k, omega (arith, lt), e)

any_by : {A : Type 0} (test : A → Bool) (xs : List A) (x : A) → Contains xs x → test x ≡ true → list_any test xs ≡ true
any_by test [] x (k, lt, e) h = absurd (omega (arith, lt))
any_by test (y ∷ ys) x (zero, lt, e) h = or_left (test y) (list_any test ys) (ap test e ∙ h)
any_by test (y ∷ ys) x (suc k, lt, e) h = or_right (test y) (list_any test ys) (any_by test ys x (k, omega (arith, lt), e) h)

none_by : {A : Type 0} (test : A → Bool) (xs : List A) (x : A) → list_any test xs ≡ false → Contains xs x → test x ≡ true → ⊥
none_by test xs x none k h = let bad : false ≡ true = sym none ∙ any_by test xs x k h in cc

pub item_in : (bs : List Block) (b : Block) (i : Item) → Contains bs b → Contains b.items i → Contains (items_of bs) i
item_in [] b i (k, lt, e) h = absurd (omega (arith, lt))
item_in (c ∷ bs) b i (zero, lt, e) h =
    subst (λ (z : List Item). Contains z i) (sym (flat_map-cons (λ (c : Block). c.items) c bs))
    (Contains-append_left c.items (items_of bs) i (subst (λ (z : Block). Contains z.items i) (sym e) h))
item_in (c ∷ bs) b i (suc k, lt, e) h =
    subst (λ (z : List Item). Contains z i) (sym (flat_map-cons (λ (c : Block). c.items) c bs))
    (Contains-append_right c.items (items_of bs) i (item_in bs b i (k, omega (arith, lt), e) h))

from_take : (n : ℕ) (xs : List ℕ) (x : ℕ) → Contains (take n xs) x → Contains xs x
from_take zero [] x k = k
from_take zero (y ∷ ys) x (k, lt, e) = absurd (omega (arith, lt))
from_take (suc n) [] x k = k
from_take (suc n) (y ∷ ys) x (zero, lt, e) = (0, omega arith, e)
from_take (suc n) (y ∷ ys) x (suc k, lt, e) = let w = from_take n ys x (k, omega (arith, lt), e) in tail_in y x ys w

greatest_above : (ns : List ℕ) (n : ℕ) → Contains ns n → n ≤ greatest ns
greatest_above [] n (k, lt, e) = absurd (omega (arith, lt))
greatest_above (m ∷ ns) n (zero, lt, e) = omega (arith, e)
greatest_above (m ∷ ns) n (suc k, lt, e) = let h = greatest_above ns n (k, omega (arith, lt), e) in omega (arith, h)

pub next_above : (ns : List ℕ) (n : ℕ) → Contains ns n → n < next_slot ns
next_above [] n (k, lt, e) = absurd (omega (arith, lt))
next_above (m ∷ ns) n k = let h = greatest_above (m ∷ ns) n k in omega (arith, h)

pub contains_nth : {A : Type 0} (xs : List A) (k : ℕ) (d : A) → k < length xs → Contains xs (get_or xs k d)
contains_nth [] k d lt = absurd (omega (arith, lt))
contains_nth (x ∷ xs) zero d lt = head_in x xs
contains_nth (x ∷ xs) (suc k) d lt = tail_in x (get_or xs k d) xs (contains_nth xs k d (omega (arith, lt)))

-- ---- homes

pub home_from : (m : ℕ) (rs : List ℕ) (r n : ℕ) → slot_of (homes_from m rs) r ≡ Some n → Contains rs r × (m ≤ n)
home_from m [] r n e = cc
home_from m (a ∷ rs) r n e = by_test (nat_eq a r) refl e (λ k. home_from (m + 1) rs r n k) where
  by_test : (z : Bool) → nat_eq a r ≡ z → cond z (Some m) (slot_of (homes_from (m + 1) rs) r) ≡ Some n →
      (slot_of (homes_from (m + 1) rs) r ≡ Some n → Contains rs r × (m + 1 ≤ n)) → Contains (a ∷ rs) r × (m ≤ n)
  by_test true z e more =
      let mn : m ≡ n = cc in
      (subst (λ (x : ℕ). Contains (a ∷ rs) x) (eqb-true a r z) (head_in a rs), omega (arith, mn))
  by_test false z e more = let w = more e in let le = w.1 in (tail_in a r rs w.0, omega (arith, le))

pub home_own : (m : ℕ) (rs : List ℕ) (q r n : ℕ) → slot_of (homes_from m rs) q ≡ Some n → slot_of (homes_from m rs) r ≡ Some n → q ≡ r
home_own m [] q r n e f = cc
home_own m (a ∷ rs) q r n e f = by_tests (nat_eq a q) (nat_eq a r) refl refl e f (λ h k. home_own (m + 1) rs q r n h k) where
  by_tests : (x y : Bool) → nat_eq a q ≡ x → nat_eq a r ≡ y → cond x (Some m) (slot_of (homes_from (m + 1) rs) q) ≡ Some n →
      cond y (Some m) (slot_of (homes_from (m + 1) rs) r) ≡ Some n →
      (slot_of (homes_from (m + 1) rs) q ≡ Some n → slot_of (homes_from (m + 1) rs) r ≡ Some n → q ≡ r) → q ≡ r
  by_tests true true x y e f more = sym (eqb-true a q x) ∙ eqb-true a r y
  by_tests true false x y e f more = let mn : m ≡ n = cc in let le = (home_from (m + 1) rs r n f).1 in absurd (omega (arith, mn, le))
  by_tests false true x y e f more = let mn : m ≡ n = cc in let le = (home_from (m + 1) rs q n e).1 in absurd (omega (arith, mn, le))
  by_tests false false x y e f more = more e f

-- each home is found by its register, where registers differ; here: by a register, some home
home_there : (m : ℕ) (rs : List ℕ) (r n : ℕ) → slot_of (homes_from m rs) r ≡ Some n → (h : SlotAssignment) × Contains (homes_from m rs) h × (h.register ≡ r) ×
    (h.slot ≡ n)
home_there m [] r n e = cc
home_there m (a ∷ rs) r n e = by_test (nat_eq a r) refl e (λ k. home_there (m + 1) rs r n k) where
  by_test : (z : Bool) → nat_eq a r ≡ z → cond z (Some m) (slot_of (homes_from (m + 1) rs) r) ≡ Some n →
      (slot_of (homes_from (m + 1) rs) r ≡ Some n → (h : SlotAssignment) × Contains (homes_from (m + 1) rs) h × (h.register ≡ r) × (h.slot ≡ n)) →
      (h : SlotAssignment) × Contains (homes_from m (a ∷ rs)) h × (h.register ≡ r) × (h.slot ≡ n)
  by_test true z e more = (record { register = a; slot = m }, head_in _ _, eqb-true a r z, cc)
  by_test false z e more = let w = more e in (w.0, tail_in _ w.0 _ w.1, w.2, w.3)

-- ---- what operands name

pub use_named : (counts : Bool) (os : List Operand) (r : ℕ) → Contains (uses_in os) r → list_any (is_of_register counts r) os ≡ true
use_named counts [] r (k, lt, e) = absurd (omega (arith, lt))
use_named counts (Use q ∷ os) r (zero, lt, e) = or_left (nat_eq q r) (list_any (is_of_register counts r) os) (eq-eqb q r e)
use_named counts (Use q ∷ os) r (suc k, lt, e) =
    or_right (nat_eq q r) (list_any (is_of_register counts r) os) (use_named counts os r (k, omega (arith, lt), e))
use_named counts (x ∷ os) r k = or_right (is_of_register counts r x) (list_any (is_of_register counts r) os) (use_named counts os r k)

pub def_named : (counts : Bool) (os : List Operand) (r : ℕ) → Contains (defs_in os) r → list_any (is_of_register counts r) os ≡ true
def_named counts [] r (k, lt, e) = absurd (omega (arith, lt))
def_named counts (Def q ∷ os) r (zero, lt, e) = or_left (nat_eq q r) (list_any (is_of_register counts r) os) (eq-eqb q r e)
def_named counts (Def q ∷ os) r (suc k, lt, e) =
    or_right (nat_eq q r) (list_any (is_of_register counts r) os) (def_named counts os r (k, omega (arith, lt), e))
def_named counts (x ∷ os) r k = or_right (is_of_register counts r x) (list_any (is_of_register counts r) os) (def_named counts os r k)

pub implicit_named : (os : List Operand) (r : ℕ) → Contains (implicits_in os) r → list_any (is_of_register true r) os ≡ true
implicit_named [] r (k, lt, e) = absurd (omega (arith, lt))
implicit_named (ImplicitDef q ∷ os) r (zero, lt, e) = or_left (nat_eq q r) (list_any (is_of_register true r) os) (eq-eqb q r e)
implicit_named (ImplicitDef q ∷ os) r (suc k, lt, e) =
    or_right (nat_eq q r) (list_any (is_of_register true r) os) (implicit_named os r (k, omega (arith, lt), e))
implicit_named (ImplicitUse q ∷ os) r (zero, lt, e) = or_left (nat_eq q r) (list_any (is_of_register true r) os) (eq-eqb q r e)
implicit_named (ImplicitUse q ∷ os) r (suc k, lt, e) =
    or_right (nat_eq q r) (list_any (is_of_register true r) os) (implicit_named os r (k, omega (arith, lt), e))
implicit_named (x ∷ os) r k = or_right (is_of_register true r x) (list_any (is_of_register true r) os) (implicit_named os r k)

implicit_operand : (os : List Operand) (r : ℕ) → Contains (implicits_in os) r → list_any (is_implicit_of r) os ≡ true
implicit_operand [] r (k, lt, e) = absurd (omega (arith, lt))
implicit_operand (ImplicitDef q ∷ os) r (zero, lt, e) = or_left (nat_eq q r) (list_any (is_implicit_of r) os) (eq-eqb q r e)
implicit_operand (ImplicitDef q ∷ os) r (suc k, lt, e) =
    or_right (nat_eq q r) (list_any (is_implicit_of r) os) (implicit_operand os r (k, omega (arith, lt), e))
implicit_operand (ImplicitUse q ∷ os) r (zero, lt, e) = or_left (nat_eq q r) (list_any (is_implicit_of r) os) (eq-eqb q r e)
implicit_operand (ImplicitUse q ∷ os) r (suc k, lt, e) =
    or_right (nat_eq q r) (list_any (is_implicit_of r) os) (implicit_operand os r (k, omega (arith, lt), e))
implicit_operand (x ∷ os) r k = or_right (is_implicit_of r x) (list_any (is_implicit_of r) os) (implicit_operand os r k)

-- ---- more of lists

kept_home : (p : ℕ → Bool) (hs : List SlotAssignment) (h : SlotAssignment) → Contains (filter (λ (x : SlotAssignment). p x.register) hs) h →
    Contains hs h × (p h.register ≡ true)
kept_home p [] h (k, lt, e) = absurd (omega (arith, lt))
kept_home p (y ∷ ys) h k = by_test (p y.register) refl k (λ j. kept_home p ys h j) where
  later : Contains ys h × (p h.register ≡ true) → Contains (y ∷ ys) h × (p h.register ≡ true)
  later (k, e) = (tail_in y h ys k, e)

  by_test : (z : Bool) → p y.register ≡ z →
      Contains (cond z (y ∷ filter (λ (x : SlotAssignment). p x.register) ys) (filter (λ (x : SlotAssignment). p x.register) ys)) h →
      (Contains (filter (λ (x : SlotAssignment). p x.register) ys) h → Contains ys h × (p h.register ≡ true)) → Contains (y ∷ ys) h × (p h.register ≡ true)
  by_test true z (zero, lt, e) more = ((0, omega arith, e), subst (λ (x : SlotAssignment). p x.register ≡ true) e z)
  by_test true z (suc k, lt, e) more = later (more (k, omega (arith, lt), e))
  by_test false z k more = later (more k)

keeps_home : (p : ℕ → Bool) (hs : List SlotAssignment) (h : SlotAssignment) → Contains hs h → p h.register ≡ true →
    Contains (filter (λ (x : SlotAssignment). p x.register) hs) h
keeps_home p [] h (k, lt, e) t = absurd (omega (arith, lt))
keeps_home p (y ∷ ys) h (zero, lt, e) t =
    let here : p y.register ≡ true = ap (λ (x : SlotAssignment). p x.register) e ∙ t in
    subst (λ (z : Bool). Contains (cond z (y ∷ filter (λ (x : SlotAssignment). p x.register) ys) (filter (λ (x : SlotAssignment). p x.register) ys)) h)
    (sym here)
    (0, omega arith, e)
keeps_home p (y ∷ ys) h (suc k, lt, e) t = by_test (p y.register) (keeps_home p ys h (k, omega (arith, lt), e) t) where
  by_test : (z : Bool) → Contains (filter (λ (x : SlotAssignment). p x.register) ys) h →
      Contains (cond z (y ∷ filter (λ (x : SlotAssignment). p x.register) ys) (filter (λ (x : SlotAssignment). p x.register) ys)) h
  by_test true more = tail_in y h _ more
  by_test false more = more

no_home : (p : ℕ → Bool) (hs : List SlotAssignment) → ((h : SlotAssignment) → Contains hs h → p h.register ≡ false) →
    filter (λ (x : SlotAssignment). p x.register) hs ≡ []
no_home p [] h = refl
no_home p (y ∷ ys) h =
    ap (λ (z : Bool). cond z (y ∷ filter (λ (x : SlotAssignment). p x.register) ys) (filter (λ (x : SlotAssignment). p x.register) ys)) (h y (head_in y ys)) ∙
    no_home p ys (λ x k. h x (tail_in y x ys k))

distinct_filter : (p : ℕ → Bool) (xs : List ℕ) → AreDistinct xs → AreDistinct (filter p xs)
distinct_filter p [] h = tt
distinct_filter p (x ∷ xs) h = by_test (p x) (distinct_filter p xs h.1) where
  by_test : (z : Bool) → AreDistinct (filter p xs) → AreDistinct (cond z (x ∷ filter p xs) (filter p xs))
  by_test true more = (λ k. h.0 (kept_by p xs x k).0, more)
  by_test false more = more

distinct_take : (n : ℕ) (xs : List ℕ) → AreDistinct xs → AreDistinct (take n xs)
distinct_take zero [] h = tt
distinct_take zero (x ∷ xs) h = tt
distinct_take (suc n) [] h = tt
distinct_take (suc n) (x ∷ xs) h = (λ k. h.0 (from_take n xs x k), distinct_take n xs h.1)

home_register : (m : ℕ) (rs : List ℕ) (h : SlotAssignment) → Contains (homes_from m rs) h → Contains rs h.register
home_register m [] h (k, lt, e) = absurd (omega (arith, lt))
home_register m (r ∷ rs) h (zero, lt, e) = (0, omega arith, ap (λ (z : SlotAssignment). z.register) e)
home_register m (r ∷ rs) h (suc k, lt, e) = tail_in r h.register rs (home_register (m + 1) rs h (k, omega (arith, lt), e))

home_slot : (m : ℕ) (rs : List ℕ) → AreDistinct rs → (h : SlotAssignment) → Contains (homes_from m rs) h → slot_of (homes_from m rs) h.register ≡ Some h.slot
home_slot m [] d h (k, lt, e) = absurd (omega (arith, lt))
home_slot m (r ∷ rs) d h (zero, lt, e) =
    let reg : r ≡ h.register = ap (λ (z : SlotAssignment). z.register) e in
    ap (λ (t : Bool). cond t (Some m) (slot_of (homes_from (m + 1) rs) h.register)) (eq-eqb r h.register reg) ∙ ap (λ (z : SlotAssignment). Some z.slot) e
home_slot m (r ∷ rs) d h (suc k, lt, e) =
    let inside : Contains (homes_from (m + 1) rs) h = (k, omega (arith, lt), e) in
    let ne : r ≡ h.register → ⊥ = λ z. d.0 (subst (λ (x : ℕ). Contains rs x) (sym z) (home_register (m + 1) rs h inside)) in
    ap (λ (t : Bool). cond t (Some m) (slot_of (homes_from (m + 1) rs) h.register)) (ne_eqb r h.register ne) ∙ home_slot (m + 1) rs d.1 h inside

-- ---- liveness doesn't look at substitutions

live_any : (blocks : List Block) (j k : OperandPair → Option OperandPair) (x : Place) {p : Pos} → Live (program_of false blocks j) x p →
    Live (program_of false blocks k) x p
live_any blocks j k x (used h) = used h
live_any blocks j k x (later none edge more) = later none edge (live_any blocks j k x more)

not_true : (b : Bool) → not b ≡ true → b ≡ false
not_true true e = cc
not_true false e = refl

free_parts : (a b c : Bool) → is_free (cond a (Some NoScratch) (cond b (Some CallNamed) (cond c (Some EntryLoop) None))) ≡ true →
    (a ≡ false) × (b ≡ false) × (c ≡ false)
free_parts true b c e = cc
free_parts false true c e = cc
free_parts false false true e = cc
free_parts false false false e = (refl, refl, refl)

module _ (reserve : List ℕ) (live : ℕ → Bool) (f : Function) (resolve : OperandPair → Option OperandPair)
    (forms : All (λ (b : Block). All (λ (i : Item). HasForm i.kind) b.items) f.blocks) (real : (r : ℕ) → Contains reserve r → IsReservable r)
    (distinct : AreDistinct reserve) (decides : Decides reserve f live)
    (asks : All (λ (b : Block). All (λ (i : Item). AsksElsewhere (spilling_of reserve live f) i.kind) b.items) f.blocks)
    (some : homes_of reserve live f ≡ [] → ⊥) where
  abbrev s : Spilling
  s = spilling_of reserve live f

  abbrev hs : List SlotAssignment
  hs = homes_of reserve live f

  abbrev entry : List SlotAssignment
  entry = entry_of live hs

  -- what holds of each register that is spilled
  record Taken (r : ℕ) : Type 0 where
    reserved : Contains reserve r
    scratch : lacks_scratch f ≡ false
    unbound : is_bound f r ≡ false
    once : (live r && is_looped f) ≡ false

  taken_of : (r : ℕ) → Contains (chosen reserve live f) r → Taken r
  taken_of r k =
      let c = kept_by (λ r. is_named f r && is_free (reason_of f live r)) reserve r (from_take (room f) (candidates reserve live f) r k) in
      let t = and_parts (is_named f r) (is_free (reason_of f live r)) c.1 in
      let p = free_parts (lacks_scratch f) (is_bound f r) (live r && is_looped f) t.1 in
      record { reserved = c.0; scratch = p.0; unbound = p.1; once = p.2 }

  taken : (r n : ℕ) → slot_of hs r ≡ Some n → Taken r
  taken r n e = taken_of r (home_from (next_slot f.slots) (chosen reserve live f) r n e).0

  reserved : (r n : ℕ) → slot_of hs r ≡ Some n → IsReservable r
  reserved r n e = real r (taken r n e).reserved

  -- the scratch registers
  enough : 2 ≤ length (scratch_of f)
  enough = by_chosen (chosen reserve live f) refl where
    by_scratch : lacks_scratch f ≡ false → 2 ≤ length (scratch_of f)
    by_scratch e = elim (cases_lt (length (scratch_of f)) 2) as (λ _. 2 ≤ length (scratch_of f)) [
      | inl lt ↦ (let bad : false ≡ true = sym e ∙ lt-ltb (length (scratch_of f)) 2 lt in cc)
      | inr ge ↦ ge
    ]

    by_chosen : (rs : List ℕ) → chosen reserve live f ≡ rs → 2 ≤ length (scratch_of f)
    by_chosen [] e = absurd (some (ap (homes_from (next_slot f.slots)) e))
    by_chosen (r ∷ rs) e = by_scratch (taken_of r (subst (λ (xs : List ℕ). Contains xs r) (sym e) (head_in r rs))).scratch

  pair : Two (λ r. not (is_named f r)) s.first s.second
  pair = two (λ r. not (is_named f r)) enough

  homes : AreHomes s f.slots
  homes = record {
    first = saved s.first pair.first.0;
    second = saved s.second pair.second.0;
    apart = λ e. (let lt = pair.apart in omega (arith, lt, e));
    kept = λ r n e. kept_registers r (reserved r n e);
    no_zero = small 0 (omega arith);
    no_pointer = small 2 (omega arith);
    no_global = λ r e. (let low = global_low r e in small r (omega (arith, low)));
    own = home_own (next_slot f.slots) (chosen reserve live f);
    fresh = λ r n e k. (let lt = next_above f.slots n k in let le = (home_from (next_slot f.slots) (chosen reserve live f) r n e).1 in omega (arith, lt, le));
  } where
    small : (m : ℕ) → m < 8 → slot_of hs m ≡ None
    small m lt = by_slot (slot_of hs m) refl where
      by_slot : (x : Option ℕ) → slot_of hs m ≡ x → x ≡ None
      by_slot None e = refl
      by_slot (Some n) e = absurd (not_small m m (reserved m n e) refl lt)

  -- ---- items

  clash : (r q : ℕ) → is_named f q ≡ false → (i : Item) → Contains (items_of f.blocks) i → names r i.kind ≡ true → r ≡ q → ⊥
  clash r q none i k named e =
      none_by (λ (x : Item). names q x.kind) (items_of f.blocks) i none k (ap (λ (z : ℕ). names z i.kind) (sym e) ∙ named)

  scratch_free : (r : ℕ) (i : Item) → Contains (items_of f.blocks) i → names r i.kind ≡ true → IsNoScratch s r
  scratch_free r i k named = (
    clash r s.first (not_true (is_named f s.first) pair.first.1) i k named,
    clash r s.second (not_true (is_named f s.second) pair.second.1) i k named,
  )

  -- a call and code that ends the function name no spilled register in an implicit operand, and code that was added names none
  unspilled : (r : ℕ) (i : Item) → Contains (items_of f.blocks) i → binds r i ≡ true → slot_of hs r ≡ None
  unspilled r i k binding = by_slot (slot_of hs r) refl where
    by_slot : (x : Option ℕ) → slot_of hs r ≡ x → x ≡ None
    by_slot None e = refl
    by_slot (Some n) e = absurd (none_by (binds r) (items_of f.blocks) i (taken r n e).unbound k binding)

  code_fits : (ins : Instruction) (num : Option ℕ) (o : Origin) (i : Item) → i.kind ≡ Code ins num → i.origin ≡ o → Contains (items_of f.blocks) i →
      IsTrue (has_form ins.op ins.operands) → FitsCode s ins o
  code_fits ins num o i is at k form = record {
    form = form;
    uses = λ r u. scratch_free r i k (by_use r u);
    defs = λ r d. scratch_free r i k (by_def r d);
    implicits = λ z r m. (by_implicit z r m, scratch_free r i k (by_name z r m));
    kept = λ p e r m. unspilled r i k (or_right (names_implicitly r i.kind) (names r i.kind && is_added i.origin)
        (and_from (names r i.kind) (is_added i.origin)
        (elim m as (λ _. names r i.kind ≡ true) [ inl u ↦ by_use r u | inr d ↦ by_def r d ]) (ap is_added (at ∙ e))));
  } where
    abbrev_names : (r : ℕ) → names r i.kind ≡ list_any (is_of_register (has_implicit_uses (row_of ins)) r) ins.operands
    abbrev_names r = ap (names r) is

    by_use : (r : ℕ) → Contains (uses_in ins.operands) r → names r i.kind ≡ true
    by_use r u = abbrev_names r ∙ use_named (has_implicit_uses (row_of ins)) ins.operands r u

    by_def : (r : ℕ) → Contains (defs_in ins.operands) r → names r i.kind ≡ true
    by_def r d = abbrev_names r ∙ def_named (has_implicit_uses (row_of ins)) ins.operands r d

    by_name : has_implicit_uses (row_of ins) ≡ true → (r : ℕ) → Contains (implicits_in ins.operands) r → names r i.kind ≡ true
    by_name z r m =
        abbrev_names r ∙ ap (λ (t : Bool). list_any (is_of_register t r) ins.operands) z ∙ implicit_named ins.operands r m

    by_implicit : has_implicit_uses (row_of ins) ≡ true → (r : ℕ) → Contains (implicits_in ins.operands) r → slot_of hs r ≡ None
    by_implicit z r m = unspilled r i k (or_left (names_implicitly r i.kind) (names r i.kind && is_added i.origin) (ap (names_implicitly r) is ∙
        and_from (has_implicit_uses (row_of ins)) (list_any (is_implicit_of r) ins.operands) z (implicit_operand ins.operands r m)))

  item_fits : (i : Item) → Contains (items_of f.blocks) i → HasForm i.kind → AsksElsewhere s i.kind → Fits s i.kind i.origin
  item_fits i k form ask = by_kind i.kind refl form ask where
    by_kind : (y : ItemKind) → i.kind ≡ y → HasForm y → AsksElsewhere s y → Fits s y i.origin
    by_kind (Code ins num) is form ask = code_fits ins num i.origin i is refl k form
    by_kind (Mark v Nothing) is form ask = tt
    by_kind (Mark v (Constant n)) is form ask = tt
    by_kind (Mark v (At r)) is form ask = ask
    by_kind (Mark v (Pair q)) is form ask = tt
    by_kind (Phi None n) is form ask = tt
    by_kind (Phi (Some (Register r)) n) is form ask = ask
    by_kind (Phi (Some (Slot m)) n) is form ask = tt
    by_kind (Phi (Some (Const z)) n) is form ask = tt

  -- ---- the start

  looping : (b : Bool) → is_looped f ≡ b → (entry ≡ []) ⊎ ((p : Pos) (i : Item) → (program_of false f.blocks resolve).fetch p ≡ Here i →
      OnRow (GoesTo (first_of f.blocks)) i.kind → ⊥)
  looping true e = inl (no_home live hs (λ h k. (let t = taken_of h.register (home_register (next_slot f.slots) (chosen reserve live f) h k) in
      false_left (live h.register) (ap (λ (z : Bool). live h.register && z) (sym e) ∙ t.once)))) where
        false_left : (a : Bool) → (a && true) ≡ false → a ≡ false
        false_left true e = cc
        false_left false e = refl
  looping false e = inr (λ p i at leads.
      (let v = stands_at false f.blocks resolve p i at in
      none_by (λ (x : Item). goes (first_of f.blocks) x.kind) (items_of f.blocks) i e
      (item_in f.blocks v.block i v.member (contains_at v.block.items p.item i v.at)) (by_kind i.kind leads))) where
        by_row : (r : Row) → GoesTo (first_of f.blocks) r → row_goes (first_of f.blocks) r ≡ true
        by_row (Branches op a b t) h = eq-eqb t (first_of f.blocks) h
        by_row (Jumps t) h = eq-eqb t (first_of f.blocks) h
        by_row _ h = absurd h

        by_kind : (k : ItemKind) → OnRow (GoesTo (first_of f.blocks)) k → goes (first_of f.blocks) k ≡ true
        by_kind (Code ins n) h = by_row (row_of ins) h
        by_kind (Mark v m) h = absurd h
        by_kind (Phi a n) h = absurd h

  pub may_spill : MaySpill s entry f resolve
  may_spill = record {
    homes = homes;
    fits = λ k d lt j e within.
        (let b : Block = get_or f.blocks k d in
        item_fits (get_or b.items j e) (item_in f.blocks b (get_or b.items j e) (contains_nth f.blocks k d lt) (contains_nth b.items j e within))
        (forms k d lt j e within) (asks k d lt j e within));
    stored = λ h k. home_slot (next_slot f.slots) (chosen reserve live f)
        (distinct_take (room f) (candidates reserve live f) (distinct_filter (λ r. is_named f r && is_free (reason_of f live r)) reserve distinct)) h
        (kept_home live hs h k).0;
    real = λ h k.
        (let w = kept_home live hs h k in
        let r = taken_of h.register (home_register (next_slot f.slots) (chosen reserve live f) h w.0) in
        reservable_real h.register (real h.register r.reserved));
    lives = λ h k.
        (let w = kept_home live hs h k in
        let r = taken_of h.register (home_register (next_slot f.slots) (chosen reserve live f) h w.0) in
        live_any f.blocks (λ q. None) resolve (Register h.register) ((decides h.register r.reserved).0 w.1));
    all = λ r n e lt alive.
        (let w = home_there (next_slot f.slots) (chosen reserve live f) r n e in
        let t : live r ≡ true = (decides r (taken r n e).reserved).1 (live_any f.blocks resolve (λ q. None) (Register r) alive) in
        (w.0, keeps_home live hs w.0 w.1 (ap live w.2 ∙ t), w.2));
    once = looping (is_looped f) refl;
  }

pub chosen_may_spill : ChosenMaySpill
chosen_may_spill reserve live f resolve sound forms real distinct decides asks some = may_spill reserve live f resolve forms real distinct decides asks some

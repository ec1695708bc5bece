-- A register is left for the first reason that applies.
use Rattle.std.proofs.Common.{◌≡◌, ◌⊎◌, inl, inr, ℕ, zero, suc, ◌+◌, ◌-◌, ◌<◌, ◌≤◌, List, [], ◌∷◌, map, filter, take, length, min, Contains, Option}
use Rattle.std.proofs.Common.{Some, None, Bool, true, false, cond, ◌&&◌, ◌||◌, nat_eq, eqb-true, eq-eqb, refl, sym, ap, ◌∙◌, subst, arith, length-append}
use Rattle.std.proofs.lemmas.Bool.{and_parts, and_from, or_left, or_right, lt-ltb, ltb-true}
use Rattle.std.proofs.lemmas.List.Kept.{AllPairs-filter}
use Rattle.rv64_instr.specs.declared.place.Place.{Place}
use Rattle.rv64_instr.specs.declared.place.Place.TheVariants.{Register}
use Rattle.rv64_instr.specs.Row.{Row, Branches, Jumps, row_of}
use Rattle.mir_func.specs.declared.block.Block.{Block}
use Rattle.mir_func.specs.declared.debug_substitution.DebugSubstitution.{DebugSubstitution}
use Rattle.mir_func.specs.declared.debug_substitution.OperandPair.{OperandPair}
use Rattle.mir_func.specs.declared.item.Item.{Item}
use Rattle.mir_func.specs.declared.item.ItemKind.{ItemKind}
use Rattle.mir_func.specs.declared.item.ItemKind.TheVariants.{Code, Mark, Phi}
use Rattle.mir_func.specs.declared.position.Origin.{Origin}
use Rattle.mir_func.specs.declared.position.Origin.TheVariants.{Kept, Before}
use Rattle.mir_func.specs.declared.position.Pos.{Pos}
use Rattle.mir_func.specs.Function.{Function}
use Rattle.mir_func.specs.Graph.{program_of}
use Rattle.mir_func.specs.Limits.{MAX_SLOTS}
use Rattle.mir_func.specs.Resolve.{resolve}
use Rattle.mir_func.specs.Sound.{IsSound, items_of}
use Rattle.mir_func.specs.Positions.{position_of}
use Rattle.sem_mir.specs.InitialState.{first_of}
use Rattle.sem_mir.specs.Follow.{OnRow, GoesTo}
use Rattle.sem_mir.specs.Live.{Live, used, later}
use Rattle.pass_trait.specs.declared.loss.Reason.{Reason}
use Rattle.pass_trait.specs.declared.loss.Reason.TheVariants.{Removed, WrongPlace, Scratch, Bypassed, Unreachable, NoScratch, CallNamed, EntryLoop, NoSlot}
use Rattle.pass_trait.specs.Causes.{names, names_implicitly, is_named, scratch_of, Prevents, IsFirstCause}
use Rattle.pass_trait.specs.Change.{Change}
use Rattle.pass_trait.specs.Order.{reason_rank}
use Rattle.pass_trait.specs.Rule.{Rule}
use Rattle.spill_code.specs.declared.spilling.SlotAssignment.{SlotAssignment}
use Rattle.spill_code.specs.Rewrite.{slot_of}
use Rattle.spill_select.specs.spill_rule.Choice.{is_added, binds, is_bound, row_goes, goes, is_looped, lacks_scratch, reason_of, is_free, candidates, room, chosen}
use Rattle.spill_select.specs.spill_rule.Choice.{next_slot}
use Rattle.spill_select.specs.spill_rule.Choice.{homes_from, homes_of, spilling_of, entry_of}
use Rattle.spill_select.specs.spill_rule.Rule.{Decides}
use Rattle.spill_proof.specs.Whole.{spilled_by, where_spilled}
use Rattle.spill_proof.proofs.Slots.{how_many}
use Rattle.spill_select.specs.Left.{first_reason, or_no_slot, why_left}
use Rattle.spill_proof.specs.Step.{spill_debug}
use Rattle.spill_proof.proofs.Agree.{agree, homes_same}
use Rattle.spill_proof.specs.Causes.{spilling_of_all, IsAscending, LeftHaveFirstCauses}
use Rattle.spill_proof.proofs.Standing.{any_by, some_by, among, standing}

-- ---- the first of a list in ascending order

ascending_later : (x : ℕ) (xs : List ℕ) → IsAscending (x ∷ xs) → IsAscending xs
ascending_later x xs up i j d lt within = up (suc i) (suc j) d (omega (arith, lt)) (omega (arith, within))

ascending_first : (x : ℕ) (xs : List ℕ) → IsAscending (x ∷ xs) → (y : ℕ) → Contains xs y → x < y
ascending_first x xs up y (k, lt, e) = subst (λ (n : ℕ). x < n) e (up zero (suc k) y (omega arith) (omega (arith, lt)))

later_in : (x : ℕ) (xs : List ℕ) (y : ℕ) → Contains xs y → Contains (x ∷ xs) y
later_in x xs y (k, lt, e) = (suc k, omega (arith, lt), e)

-- what isn't taken comes behind all that is
taken_before : (n : ℕ) (xs : List ℕ) → IsAscending xs → (r s : ℕ) → Contains xs r → (Contains (take n xs) r → ⊥) → Contains (take n xs) s → s < r
taken_before zero [] up r s k none (j, lt, e) = absurd (omega (arith, lt))
taken_before zero (x ∷ xs) up r s k none (j, lt, e) = absurd (omega (arith, lt))
taken_before (suc n) [] up r s k none (j, lt, e) = absurd (omega (arith, lt))
taken_before (suc n) (x ∷ xs) up r s (zero, lt, e) none taken = absurd (none (0, omega arith, e))
taken_before (suc n) (x ∷ xs) up r s (suc k, lt, e) none (zero, less, is) =
    subst (λ (m : ℕ). m < r) is (ascending_first x xs up r (k, omega (arith, lt), e))
taken_before (suc n) (x ∷ xs) up r s (suc k, lt, e) none (suc j, less, is) =
    taken_before n xs (ascending_later x xs up) r s (k, omega (arith, lt), e) (λ t. none (later_in x (take n xs) r t)) (j, omega (arith, less), is)

-- and then there are as many as may be taken
taken_all : (n : ℕ) (xs : List ℕ) (r : ℕ) → Contains xs r → (Contains (take n xs) r → ⊥) → n ≤ length xs
taken_all zero xs r k none = omega arith
taken_all (suc n) [] r (k, lt, e) none = absurd (omega (arith, lt))
taken_all (suc n) (x ∷ xs) r (zero, lt, e) none = absurd (none (0, omega arith, e))
taken_all (suc n) (x ∷ xs) r (suc k, lt, e) none =
    let le = taken_all n xs r (k, omega (arith, lt), e) (λ t. none (later_in x (take n xs) r t)) in omega (arith, le)

keeps : (p : ℕ → Bool) (xs : List ℕ) (r : ℕ) → Contains xs r → p r ≡ true → Contains (filter p xs) r
keeps p [] r (k, lt, e) is = absurd (omega (arith, lt))
keeps p (x ∷ xs) r (zero, lt, e) is =
    subst (λ (z : Bool). Contains (cond z (x ∷ filter p xs) (filter p xs)) r) (sym (ap p e ∙ is)) (0, omega arith, e)
keeps p (x ∷ xs) r (suc k, lt, e) is = by_test (p x) (keeps p xs r (k, omega (arith, lt), e) is) where
  by_test : (z : Bool) → Contains (filter p xs) r → Contains (cond z (x ∷ filter p xs) (filter p xs)) r
  by_test true more = later_in x (filter p xs) r more
  by_test false more = more

-- ---- homes

-- a register that has a home is of the list
homed : (m : ℕ) (rs : List ℕ) (r n : ℕ) → slot_of (homes_from m rs) r ≡ Some n → Contains rs r
homed m [] r n e = cc
homed m (q ∷ rs) r n e = by_test (nat_eq q r) refl e (homed (m + 1) rs r n) where
  by_test : (z : Bool) → nat_eq q r ≡ z → cond z (Some m) (slot_of (homes_from (m + 1) rs) r) ≡ Some n →
      (slot_of (homes_from (m + 1) rs) r ≡ Some n → Contains rs r) → Contains (q ∷ rs) r
  by_test true is e more = (0, omega arith, eqb-true q r is)
  by_test false is e more = later_in q rs r (more e)

-- and each of the list has one
homeless : (m : ℕ) (rs : List ℕ) (r : ℕ) → slot_of (homes_from m rs) r ≡ None → Contains rs r → ⊥
homeless m [] r none (k, lt, e) = omega (arith, lt)
homeless m (q ∷ rs) r none (zero, lt, e) =
    let there : Some m ≡ None = sym (ap (λ (z : Bool). cond z (Some m) (slot_of (homes_from (m + 1) rs) r)) (eq-eqb q r e)) ∙ none in cc
homeless m (q ∷ rs) r none (suc k, lt, e) = by_test (nat_eq q r) none (homeless (m + 1) rs r) where
  by_test : (z : Bool) → cond z (Some m) (slot_of (homes_from (m + 1) rs) r) ≡ None → (slot_of (homes_from (m + 1) rs) r ≡ None → Contains rs r → ⊥) → ⊥
  by_test true e' more = (let bad : ◌≡◌ {A = Option ℕ} (Some m) None = e' in cc)
  by_test false e' more = more e' (k, omega (arith, lt), e)

-- ---- liveness doesn't look at substitutions

live_any : (blocks : List Block) (j k : OperandPair → Option OperandPair) (x : Place) {p : Pos} → Live (program_of false blocks j) x p →
    Live (program_of false blocks k) x p
live_any blocks j k x (used h) = used h
live_any blocks j k x (later none edge more) = later none edge (live_any blocks j k x more)

-- ---- branches to the first block

row_leads : (n : ℕ) (r : Row) → row_goes n r ≡ true → GoesTo n r
row_leads n (Branches op a b t) h = eqb-true t n h
row_leads n (Jumps t) h = eqb-true t n h
row_leads n _ h = cc

row_led : (n : ℕ) (r : Row) → GoesTo n r → row_goes n r ≡ true
row_led n (Branches op a b t) h = eq-eqb t n h
row_led n (Jumps t) h = eq-eqb t n h
row_led n _ h = absurd h

kind_leads : (n : ℕ) (k : ItemKind) → goes n k ≡ true → OnRow (GoesTo n) k
kind_leads n (Code i m) h = row_leads n (row_of i) h
kind_leads n (Mark v m) h = cc
kind_leads n (Phi p m) h = cc

kind_led : (n : ℕ) (k : ItemKind) → OnRow (GoesTo n) k → goes n k ≡ true
kind_led n (Code i m) h = row_led n (row_of i) h
kind_led n (Mark v m) h = absurd h
kind_led n (Phi p m) h = absurd h

-- ---- code that was added

was_added : (o : Origin) → is_added o ≡ true → o ≡ Before (position_of o)
was_added (Before p) h = refl
was_added (Kept p) h = cc

or_cases : (a b : Bool) → (a || b) ≡ true → (a ≡ true) ⊎ (b ≡ true)
or_cases true b e = inl refl
or_cases false b e = inr e

not_both : (b : Bool) → b ≡ false → b ≡ true → ⊥
not_both b e h = (let bad : false ≡ true = sym e ∙ h in cc)

full : (a b c l : ℕ) → a + b ≤ MAX_SLOTS → c ≡ min (MAX_SLOTS - (a + b)) l → MAX_SLOTS - (a + b) ≤ l → a + c + b ≡ MAX_SLOTS
full a b c l le is more = omega (arith, le, is, more)

-- whatever decides what is live at the start, a register is left for the same reason
pub same_reasons : (reserve : List ℕ) (live live' : ℕ → Bool) (f : Function) → Decides reserve f live → Decides reserve f live' → (r : ℕ) →
    Contains reserve r → why_left f live (homes_of reserve live f) r ≡ why_left f live' (homes_of reserve live' f) r
same_reasons reserve live live' f decides decides' r inside =
    let e = agree reserve f live live' decides decides' r inside in
    let homes_are = homes_same reserve f live live' decides decides' in
    λ i. cond (is_named f r) (or_no_slot (first_reason (lacks_scratch f) (is_bound f r) (e i && is_looped f)) (slot_of (homes_are i) r)) None

module _ (reserve : List ℕ) (live : ℕ → Bool) (k : ℕ) (f : Function) (subs : List DebugSubstitution) (up : IsAscending reserve) (sound : IsSound f)
    (decides : Decides reserve f live) where
  abbrev c : Change
  c = spilling_of_all reserve live k f subs

  abbrev rule : Rule
  rule = spill_debug reserve

  abbrev homes : List SlotAssignment
  homes = homes_of reserve live f

  abbrev new_slots : List ℕ
  new_slots = map (λ (h : SlotAssignment). h.slot) homes

  abbrev Holds : Reason → ℕ → Type 0
  Holds why r = Prevents rule c why r

  -- ---- what prevents it, and the tests

  few_scratch : (r : ℕ) → lacks_scratch f ≡ true → Holds NoScratch r
  few_scratch r e = ltb-true (length (scratch_of f)) 2 e

  no_few : (r : ℕ) → lacks_scratch f ≡ false → Holds NoScratch r → ⊥
  no_few r e lt = not_both (lacks_scratch f) e (lt-ltb (length (scratch_of f)) 2 lt)

  bound : (r : ℕ) → is_bound f r ≡ true → Holds CallNamed r
  bound r e =
      let w = some_by (binds r) (items_of f.blocks) e in
      let i : Item = w.0 in
      let how : (names_implicitly r i.kind ≡ true) ⊎ ((names r i.kind ≡ true) × (i.origin ≡ Before (position_of i.origin))) =
      elim (or_cases (names_implicitly r i.kind) (names r i.kind && is_added i.origin) w.2) [
        | inl h ↦ inl h
        | inr h ↦ (let t = and_parts (names r i.kind) (is_added i.origin) h in inr (t.0, was_added i.origin t.1))
      ] in
      (i, w.1, how)

  unbound : (r : ℕ) → is_bound f r ≡ false → Holds CallNamed r → ⊥
  unbound r e (i, at, how) = not_both (is_bound f r) e (any_by (binds r) (items_of f.blocks) i at (binding how)) where
    binding : (names_implicitly r i.kind ≡ true) ⊎ ((names r i.kind ≡ true) × (i.origin ≡ Before (position_of i.origin))) → binds r i ≡ true
    binding (inl h) = or_left (names_implicitly r i.kind) (names r i.kind && is_added i.origin) h
    binding (inr (named, added)) = or_right (names_implicitly r i.kind) (names r i.kind && is_added i.origin)
        (and_from (names r i.kind) (is_added i.origin) named (ap is_added added))

  looped : (r : ℕ) → Contains reserve r → (live r && is_looped f) ≡ true → Holds EntryLoop r
  looped r in_reserve e =
      let t = and_parts (live r) (is_looped f) e in
      let w = some_by (λ (i : Item). goes (first_of f.blocks) i.kind) (items_of f.blocks) t.1 in
      let v = standing f sound.blocks_apart w.0 w.1 in (
        live_any f.blocks (λ q. None) (resolve subs) (Register r) ((decides r in_reserve).0 t.0),
        (v.0, w.0, v.1, kind_leads (first_of f.blocks) w.0.kind w.2),
      )

  unlooped : (r : ℕ) → Contains reserve r → (live r && is_looped f) ≡ false → Holds EntryLoop r → ⊥
  unlooped r in_reserve e (alive, (p, i, there, leads)) = not_both (live r && is_looped f) e
      (and_from (live r) (is_looped f) ((decides r in_reserve).1 (live_any f.blocks (resolve subs) (λ q. None) (Register r) alive))
      (any_by (λ (i : Item). goes (first_of f.blocks) i.kind) (items_of f.blocks) i (among f p i there) (kind_led (first_of f.blocks) i.kind leads)))

  -- ---- as many slots as there may be

  candidate : (r : ℕ) → Contains reserve r → is_named f r ≡ true → reason_of f live r ≡ None → Contains (candidates reserve live f) r
  candidate r in_reserve named free = keeps (λ (r : ℕ). is_named f r && is_free (reason_of f live r)) reserve r in_reserve
      (and_from (is_named f r) (is_free (reason_of f live r)) named (ap is_free free))

  slots_by : (hs : List SlotAssignment) → homes ≡ hs → length (where_spilled hs f (spilled_by (spilling_of reserve live f) (entry_of live homes) k f)).slots ≡
      length f.slots + length new_slots
  slots_by [] e = (let none : length new_slots ≡ 0 = ap (λ (hs : List SlotAssignment). length (map (λ (h : SlotAssignment). h.slot) hs)) e in omega
      (arith, none))
  slots_by (h ∷ hs) e = length-append f.slots new_slots

  objects_by : (hs : List SlotAssignment) →
      length (where_spilled hs f (spilled_by (spilling_of reserve live f) (entry_of live homes) k f)).objects ≡ length f.objects
  objects_by [] = refl
  objects_by (h ∷ hs) = refl

  crowded : (r : ℕ) → Contains (candidates reserve live f) r → slot_of homes r ≡ None → Holds NoSlot r
  crowded r there none =
      let left : Contains (chosen reserve live f) r → ⊥ = homeless (next_slot f.slots) (chosen reserve live f) r none in
      let a = slots_by homes refl in
      let b = objects_by homes in
      let le = sound.few_slots in
      let total = full (length f.slots) (length f.objects) (length new_slots) (length (candidates reserve live f)) le (how_many reserve live f)
      (taken_all (room f) (candidates reserve live f) r there left) in (
        omega (arith, a, b, total),
        λ s slot (live', d, e).
            taken_before (room f) (candidates reserve live f)
            (AllPairs-filter (λ (r s : ℕ). r < s) (λ (r : ℕ). is_named f r && is_free (reason_of f live r)) reserve up) r s there left
            (homed (next_slot f.slots) (chosen reserve live f) s slot
            (ap (λ (hs : List SlotAssignment). slot_of hs s) (sym (homes_same reserve f live' live d decides)) ∙ e)),
      )

  -- ---- the first that applies

  -- of the reasons before the one with a rank none applies
  none_before : (r n : ℕ) → (5 < n → Holds NoScratch r → ⊥) → (6 < n → Holds CallNamed r → ⊥) → (7 < n → Holds EntryLoop r → ⊥) → n ≤ 8 →
      (earlier : Reason) → reason_rank earlier < n → Holds earlier r → ⊥
  none_before r n scratch call loop le Removed lt h = h
  none_before r n scratch call loop le WrongPlace lt h = h
  none_before r n scratch call loop le Scratch lt h = h
  none_before r n scratch call loop le Bypassed lt h = h
  none_before r n scratch call loop le Unreachable lt h = h
  none_before r n scratch call loop le NoScratch lt h = scratch lt h
  none_before r n scratch call loop le CallNamed lt h = call lt h
  none_before r n scratch call loop le EntryLoop lt h = loop lt h
  none_before r n scratch call loop le NoSlot lt h = omega (arith, lt, le)

  abbrev IsWhy : ℕ → Reason → Type 0
  IsWhy r why = IsFirstCause rule c r why

  first_by : (r : ℕ) (why : Reason) → Contains reserve r → (named lacks binding loops : Bool) (home : Option ℕ) → is_named f r ≡ named →
      lacks_scratch f ≡ lacks → is_bound f r ≡ binding → (live r && is_looped f) ≡ loops → slot_of homes r ≡ home →
      cond named (or_no_slot (first_reason lacks binding loops) home) None ≡ Some why → IsWhy r why
  first_by r why inside false lacks binding loops home a b d e g is = cc
  first_by r why inside true true binding loops home a b d e g is =
      (let same : NoScratch ≡ why = cc in subst (IsWhy r) same (record {
        named = a;
        prevents = few_scratch r b;
        first = none_before r 5 (λ lt h. omega (arith, lt)) (λ lt h. omega (arith, lt)) (λ lt h. omega (arith, lt)) (omega arith);
      }))
  first_by r why inside true false true loops home a b d e g is =
      (let same : CallNamed ≡ why = cc in subst (IsWhy r) same (record {
        named = a;
        prevents = bound r d;
        first = none_before r 6 (λ lt h. no_few r b h) (λ lt h. omega (arith, lt)) (λ lt h. omega (arith, lt)) (omega arith);
      }))
  first_by r why inside true false false true home a b d e g is =
      (let same : EntryLoop ≡ why = cc in subst (IsWhy r) same (record {
        named = a;
        prevents = looped r inside e;
        first = none_before r 7 (λ lt h. no_few r b h) (λ lt h. unbound r d h) (λ lt h. omega (arith, lt)) (omega arith);
      }))
  first_by r why inside true false false false None a b d e g is =
      (let same : NoSlot ≡ why = cc in
      let free : reason_of f live r ≡ None = λ i. first_reason (b i) (d i) (e i) in
      subst (IsWhy r) same (record {
        named = a;
        prevents = crowded r (candidate r inside a free) g;
        first = none_before r 8 (λ lt h. no_few r b h) (λ lt h. unbound r d h) (λ lt h. unlooped r inside e h) (omega arith);
      }))
  first_by r why inside true false false false (Some n) a b d e g is = cc

  pub first_cause : (r : ℕ) (why : Reason) → rule.leaves c r why → IsWhy r why
  first_cause r why (live', h) =
      let is : why_left f live homes r ≡ Some why = same_reasons reserve live live' f decides h.decides r h.reserved ∙ h.reason in
      first_by r why h.reserved (is_named f r) (lacks_scratch f) (is_bound f r) (live r && is_looped f) (slot_of homes r) refl refl refl refl refl is

pub left_have_first_causes : LeftHaveFirstCauses
left_have_first_causes reserve live k f subs up sound decides = first_cause reserve live k f subs up sound decides

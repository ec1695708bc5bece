-- The first place of a part's class, of those that a callee keeps, is the one that is required in a suspended frame.
--
-- What a callee doesn't keep has no class, so a location has the part's class then exactly if it has it and is kept.
use Rattle.std.proofs.Common.{◌≡◌, ◌≢◌, ℕ, ◌-◌, ◌*◌, ◌%◌, ◌<◌, ◌≤◌, List, map, length, arith, refl, sym, ◌∙◌, ap, subst, inl, inr}
use Rattle.std.specs.Prelude.{ℤ, Option, Some, None, Bool, true, false, not, cond, IsSome, ◌&&◌, nat_eq, Contains, slice_get, slice_index, slice_index_or}
use Rattle.std.specs.List.{list_any}
use Rattle.std.specs.HashMap.{get}
use Rattle.std.proofs.lemmas.Bool.{cases_lt, lt-leb, le-leb}
use Rattle.std.proofs.lemmas.Bool.Decides.{nat_tests}
use Rattle.std.proofs.lemmas.Option.{slice_get_within, slice_get_cases, get_or_from_slice_get}
use Rattle.std.proofs.lemmas.List.{get_or_past}
use Rattle.rv64_instr.specs.declared.place.Place.{Place}
use Rattle.rv64_instr.specs.declared.place.Place.TheVariants.{Register, Slot, Const}
use Rattle.rv64_instr.specs.DefsAndUses.{caller_saved}
use Rattle.mir_func.specs.declared.block.Block.{Block}
use Rattle.mir_func.specs.declared.position.Pos.{Pos}
use Rattle.mir_func.specs.declared.variable.VarId.{VarId}
use Rattle.mir_func.specs.Graph.{Program, block_start}
use Rattle.mir_func.specs.Successors.{pos_in}
use Rattle.mir_substitution.specs.Index.{is_key}
use Rattle.sem_value_ids.specs.Pullback as path
use Rattle.sem_value_ids.specs.Pullback.{InRegister, InSlot, OfPair, OfVariable, OfNumber}
use Rattle.value_solver.specs.declared.tracked.Tracked.{Tracked}
use Rattle.value_solver.specs.declared.tracked.Tracked.TheVariants.{Part}
use Rattle.value_solver.specs.Entry.{thing}
use Rattle.value_proof.specs.Classes.{Classes, IsKnown, AreClasses}
use Rattle.value_proof.specs.PreferredByClass.{HasItsClass, IsFirstByClass, AreEnoughFor}
use Rattle.value_proof.proofs.Wanted.{not_without_class, class_sits}
use Rattle.value_tracker.specs.declared.index.TrackedIndex.{TrackedIndex}
use Rattle.value_tracker.specs.declared.location_tracker.LocationTracker.{LocationTracker}
use Rattle.value_tracker.specs.LocationTracker.{slot_place, is_slot_at, class_at, given_or, pair_class, Holds}
use Rattle.value_tracker.specs.Start.{ConstantsNow}
use Rattle.value_tracker.specs.ClassLocation.{place_of}
use Rattle.value_tracker.proofs.Constants.{place_is_first}
use Rattle.dwarf_loclists.specs.Ranges.{IsListed}
use Rattle.location_of_variable.specs.VariableLocation.{AreWantedPlaces}
use Rattle.location_ranges.specs.declared.transfer_tracker.TransferTracker.{TransferTracker}
use Rattle.location_ranges.specs.declared.values.Values.{Values}
use Rattle.location_ranges.specs.Stands.{program, AreValuesOf, Reaches, Stands}
use Rattle.location_ranges.proofs.Looking.{thing_at}
use Rattle.kept_ranges.specs.Kept.{is_kept, NoneIsKept}
use Rattle.kept_ranges.specs.steps.Places.{KeepsClasses, AreKeptPlacesAt, IsKeptOrNone, AreKeptPlaces}

-- ---- tests

no_slot : (ns : List ℕ) (r : ℕ) → r < 32 → is_slot_at ns r ≡ false
no_slot ns r lt = ap (λ (b : Bool). b && list_any (nat_eq (8 * (r - 32))) ns) (lt-leb 32 r lt)

at_slot : (ns : List ℕ) (n : ℕ) → n % 8 ≡ 0 → is_slot_at ns (slot_place n) ≡ list_any (nat_eq n) ns
at_slot ns n e =
    let same : 8 * (slot_place n - 32) ≡ n = omega (arith, e) in
    ap (λ (b : Bool). b && list_any (nat_eq (8 * (slot_place n - 32))) ns) (le-leb 32 (slot_place n) (omega arith))
    ∙ ap (λ (k : ℕ). list_any (nat_eq k) ns) same

no_register : (i : ℕ) → 32 ≤ i → list_any (nat_eq i) caller_saved ≡ false
no_register i le = grind (arith, nat_tests)

zero_either : (b c : Bool) (x : ℕ) → x ≡ 0 → cond b 0 (cond c 0 x) ≡ 0
zero_either true c x e = refl
zero_either false true x e = refl
zero_either false false x e = e

less_either : (b : Bool) (x n : ℕ) → x < n → cond b 0 x < n
less_either true x n lt = omega (arith, lt)
less_either false x n lt = lt

-- a class that isn't 0 is that of what is kept
pub unmasked : (b : Bool) (c x : ℕ) → c ≡ cond b 0 x → c ≢ 0 → (not b ≡ true) × (c ≡ x)
unmasked true c x e some = absurd (some e)
unmasked false c x e some = (refl, e)

masked : (b : Bool) (x : ℕ) → not b ≡ true → x ≡ cond b 0 x
masked true x e = cc
masked false x e = refl

-- ---- classes of what is kept

module _ (passed : List ℕ) where
  abbrev pub kept_only : Classes → path.Tracked → ℕ
  kept_only class (InRegister r) = cond (list_any (nat_eq r) caller_saved) 0 (class (InRegister r))
  kept_only class (InSlot n) = cond (list_any (nat_eq n) passed) 0 (class (InSlot n))
  kept_only class (OfPair k o) = class (OfPair k o)
  kept_only class (OfVariable v) = class (OfVariable v)
  kept_only class (OfNumber c) = class (OfNumber c)

  below_kept : (known : List path.Tracked) (class : Classes) (n : ℕ) → ((x : path.Tracked) → IsKnown known x → class x < n) → (x : path.Tracked) →
      IsKnown known x → kept_only class x < n
  below_kept known class n below (InRegister r) is = less_either (list_any (nat_eq r) caller_saved) (class (InRegister r)) n (below (InRegister r) is)
  below_kept known class n below (InSlot m) is = less_either (list_any (nat_eq m) passed) (class (InSlot m)) n (below (InSlot m) is)
  below_kept known class n below (OfPair k o) is = below (OfPair k o) is
  below_kept known class n below (OfVariable v) is = below (OfVariable v) is
  below_kept known class n below (OfNumber c) is = below (OfNumber c) is

  module _ (variables : List VarId) (known : List path.Tracked) (index : TrackedIndex) (settled : List ℕ) (s kept : TransferTracker) (class : Classes)
      (keeps : KeepsClasses passed s kept) (holds : Holds variables known index settled s.held class) where
    pub kept_holds : Holds variables known index settled kept.held (kept_only class)
    kept_holds = record {
      count = keeps.for_all ∙ holds.count;
      registers = λ r lt. keeps.classes r
          ∙ (ap (λ (b : Bool). cond b 0 (cond (list_any (nat_eq r) caller_saved) 0 (slice_index s.held.places.items r))) (no_slot passed r lt)
          ∙ ap (λ (c : ℕ). cond (list_any (nat_eq r) caller_saved) 0 c) (holds.registers r lt));
      slots = λ n c. keeps.classes (slot_place n)
          ∙ (ap (λ (b : Bool). cond b 0 (cond (list_any (nat_eq (slot_place n)) caller_saved) 0 (slice_index s.held.places.items (slot_place n))))
          (at_slot passed n (holds.offsets n c).0)
          ∙ (ap (λ (b : Bool). cond (list_any (nat_eq n) passed) 0 (cond b 0 (slice_index s.held.places.items (slot_place n))))
          (no_register (slot_place n) (omega arith))
          ∙ ap (λ (c : ℕ). cond (list_any (nat_eq n) passed) 0 c) (holds.slots n c)));
      offsets = holds.offsets;
      slots_known = λ i le some. holds.slots_known i le (λ none. some (keeps.classes i
          ∙ zero_either (is_slot_at passed i) (list_any (nat_eq i) caller_saved) (slice_index s.held.places.items i) none));
      pairs = λ k o c.
          let same : pair_class index settled kept.held k o ≡ pair_class index settled s.held k o =
          λ i. given_or (get is_key (keeps.pairs i) (k, o)) (class_at settled (get is_key index.pairs (k, o))) in
          same ∙ holds.pairs k o c;
      parts = λ j v e.
          let same : slice_get kept.held.parts.items j ≡ slice_get s.held.parts.items j = λ i. slice_get (keeps.parts i).items j in
          same ∙ holds.parts j v e;
      numbers = holds.numbers;
      below = λ x is. subst (λ (n : ℕ). kept_only class x < n) (sym keeps.next) (below_kept known class s.held.next holds.below x is);
      zero = holds.zero;
      pointer = holds.pointer;
    }

  -- ---- by classes

  module _ (things : List path.Tracked) (class : Classes) (w : VarId) where
    has_kept : (place : Place) → HasItsClass things (kept_only class) w place → (is_kept passed place ≡ true) × HasItsClass things class w place
    has_kept (Register r) has =
        let h = unmasked (list_any (nat_eq r) caller_saved) (class (OfVariable w)) (class (InRegister r)) has.one.0 has.one.1 in
        (h.0, record { named = has.named; known = has.known; one = (h.1, has.one.1) })
    has_kept (Slot n) has =
        let h = unmasked (list_any (nat_eq n) passed) (class (OfVariable w)) (class (InSlot n)) has.one.0 has.one.1 in
        (h.0, record { named = has.named; known = has.known; one = (h.1, has.one.1) })
    has_kept (Const c) has = (refl, record { named = has.named; known = has.known; one = has.one })

    kept_has : (place : Place) → is_kept passed place ≡ true → HasItsClass things class w place → HasItsClass things (kept_only class) w place
    kept_has (Register r) kept has = record {
      named = has.named;
      known = has.known;
      one = (has.one.0 ∙ masked (list_any (nat_eq r) caller_saved) (class (InRegister r)) kept, has.one.1);
    }
    kept_has (Slot n) kept has = record {
      named = has.named;
      known = has.known;
      one = (has.one.0 ∙ masked (list_any (nat_eq n) passed) (class (InSlot n)) kept, has.one.1);
    }
    kept_has (Const c) kept has = record { named = has.named; known = has.known; one = has.one }

    module _ (g : Program) (start p : Pos) (of : AreEnoughFor g things) (are : AreClasses g start p things class)
        (tracked : Contains things (OfVariable w)) where
      first_kept : (o : Option Place) → IsFirstByClass things (kept_only class) w o → IsKeptOrNone g start passed w p o
      first_kept None none = λ place named kept sits.
          not_without_class g start p things class of are w tracked place named sits (λ has. none place (kept_has place kept has))
      first_kept (Some place) first =
          let has = has_kept place first.0 in
          record {
            named = first.0.named;
            kept = has.0;
            sits = class_sits g start p things class of are w tracked place has.1;
            first = λ other named kept before sits.
                not_without_class g start p things class of are w tracked other named sits (λ h. first.1 other before (kept_has other kept h));
          }

-- ---- the places of parts

listed : (variables : List VarId) (things : List path.Tracked) (index : TrackedIndex) (settled : List ℕ) (h : LocationTracker) (class : Classes) (w : VarId) →
    Holds variables things index settled h class → (place : Place) → HasItsClass things class w place → IsListed place
listed variables things index settled h class w holds (Register q) has =
    let named = has.named in
    let low = named.0 in
    let positive = named.1 in
    (omega (arith, positive), omega (arith, low), named.2)
listed variables things index settled h class w holds (Slot n) has = holds.offsets n has.known
listed variables things index settled h class w holds (Const c) has = tt

first_listed : (variables : List VarId) (things : List path.Tracked) (index : TrackedIndex) (settled : List ℕ) (h : LocationTracker) (class : Classes)
    (w : VarId) → Holds variables things index settled h class → (o : Option Place) → IsFirstByClass things class w o → (place : Place) → o ≡ Some place →
    IsListed place
first_listed variables things index settled h class w holds None first place e = absurd (let no : None ≡ Some place = e in cc)
first_listed variables things index settled h class w holds (Some q) first place e =
    let same : q ≡ place = cc in
    subst IsListed same (listed variables things index settled h class w holds q first.0)

module _ (blocks : List Block) (v : Values) (index : TrackedIndex) (are : AreValuesOf blocks v) (passed : List ℕ) (s : TransferTracker)
    (stands : Stands blocks v index s) (found : List (Option Place)) (count : length found ≡ length v.variables.now) (at : AreKeptPlacesAt passed s found)
    (places : List (Option Place))
    (wanted : AreWantedPlaces (program blocks v.subs.now) (block_start 0) (pos_in s.block s.item) v.variables.now places) where
  abbrev g : Program
  g = program blocks v.subs.now

  abbrev here : Pos
  here = pos_in s.block s.item

  abbrev found_at : ℕ → Option Place
  found_at j = slice_index_or found j None

  abbrev known : List path.Tracked
  known = map thing v.things.now

  none_past : (j : ℕ) → length found ≤ j → found_at j ≡ None
  none_past j le = get_or_past found j None le

  -- where some path leads
  module _ (on : s.reached ≡ true) where
    r : Reaches g v index s
    r = stands.reached on

    holds : Holds v.variables.now known index s.settled.items at.kept.held (kept_only passed r.class)
    holds = kept_holds passed v.variables.now known index s.settled.items s at.kept r.class at.keeps r.held

    same_constants : at.kept.constants.items ≡ s.constants.items
    same_constants = λ i. (at.keeps.constants i).items

    constants : ConstantsNow v.things.now (kept_only passed r.class) at.kept.constants.items
    constants = record {
      each = λ n c.
          subst (λ (cs : List (Option ℤ)). IsSome (slice_index_or cs (r.class (OfNumber n)) None)) (sym same_constants) (r.constants.each n c);
      only = λ k c e. r.constants.only k c (subst (λ (cs : List (Option ℤ)). slice_index_or cs k None ≡ Some c) same_constants e);
    }

    first : (w : VarId) → IsFirstByClass known (kept_only passed r.class) w (place_of at.are.firsts at.kept.constants.items (r.class (OfVariable w)))
    first w = place_is_first v.variables.now v.things.now index s.settled.items at.kept.held (kept_only passed r.class) holds at.are.firsts
        at.kept.constants.items at.are.are constants w (r.class (OfVariable w)) refl

    found_is : (j : ℕ) (w : VarId) → slice_get v.variables.now j ≡ Some w →
        (o : Option Place) × (found_at j ≡ o) × IsFirstByClass known (kept_only passed r.class) w o
    found_is j w e =
        let lt = slice_get_within v.variables.now j w e in
        let class = get_or_from_slice_get at.kept.held.parts.items j (r.class (OfVariable w)) 0 (holds.parts j w e) in (
          place_of at.are.firsts at.kept.constants.items (r.class (OfVariable w)),
          at.are.each j (omega (arith, lt, count))
              ∙ (ap (λ (b : Bool). cond b (place_of at.are.firsts at.kept.constants.items (slice_index at.kept.held.parts.items j)) None) (at.keeps.reached ∙ on)
              ∙ ap (place_of at.are.firsts at.kept.constants.items) class),
          first w,
        )

    reached_each : (j : ℕ) (w : VarId) → slice_get v.variables.now j ≡ Some w → IsKeptOrNone g (block_start 0) passed w here (found_at j)
    reached_each j w e =
        let f = found_is j w e in
        let tracked = thing_at v.things.now j (Part w) (are.things.variables_first j w e) in
        subst (IsKeptOrNone g (block_start 0) passed w here) (sym f.1)
        (first_kept passed known r.class w g (block_start 0) here are.of r.classes tracked f.0 f.2)

    reached_listed : (j : ℕ) (place : Place) → found_at j ≡ Some place → IsListed place
    reached_listed j place e = elim (slice_get_cases v.variables.now j).1 [
      | inl h ↦
          let f = found_is j h.0 h.2 in
          first_listed v.variables.now known index s.settled.items at.kept.held (kept_only passed r.class) h.0 holds f.0 f.2 place (sym f.1 ∙ e)
      | inr h ↦ absurd (let le = h.0 in let none = none_past j (omega (arith, le, count)) in let no : None ≡ Some place = sym none ∙ e in cc)
    ]

  -- where none does
  module _ (off : s.reached ≡ false) where
    nowhere : (w : VarId) → NoneIsKept g (block_start 0) passed w here
    nowhere w place named kept sits = stands.unreached off sits.reached

    found_none : (j : ℕ) → found_at j ≡ None
    found_none j = elim (cases_lt j (length found)) [
      | inl lt ↦ at.are.each j lt
          ∙ ap (λ (b : Bool). cond b (place_of at.are.firsts at.kept.constants.items (slice_index at.kept.held.parts.items j)) None) (at.keeps.reached ∙ off)
      | inr le ↦ none_past j le
    ]

  others : (w : VarId) → (Contains v.variables.now w → ⊥) → NoneIsKept g (block_start 0) passed w here
  others w not place named kept sits = wanted.others w not place named sits

  kept_by : (b : Bool) → s.reached ≡ b → AreKeptPlaces g (block_start 0) here passed v.variables.now found
  kept_by true on = record { each = reached_each on; listed = reached_listed on; others = others }
  kept_by false off = record {
    each = λ j w e. subst (IsKeptOrNone g (block_start 0) passed w here) (sym (found_none off j)) (nowhere off w);
    listed = λ j place e. absurd (let no : None ≡ Some place = sym (found_none off j) ∙ e in cc);
    others = others;
  }

  -- what was looked up are the places that are required in a suspended frame
  pub places_kept : AreKeptPlaces g (block_start 0) here passed v.variables.now found
  places_kept = kept_by s.reached refl

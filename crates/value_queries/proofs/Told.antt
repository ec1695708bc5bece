-- The classes that the walk tells where it stands, of parts of variables, pairs and places; and so what sits in a place there.
use Rattle.std.proofs.Common.{◌≡◌, ◌≢◌, ℕ, zero, suc, ◌-◌, ◌*◌, ◌%◌}
use Rattle.std.proofs.Common.{List, map, arith, refl, sym, ap, ◌∙◌, subst, eqb-true, eq-eqb, lt-ltb, ltb-true}
use Rattle.std.proofs.Math.Nat.{div-add-mod}
use Rattle.std.proofs.lemmas.Option.{slice_get_within, get_or_from_slice_get, slice_get-get_or}
use Rattle.std.proofs.lemmas.Bool.{true≢false}
use Rattle.std.proofs.lemmas.Bool.Decides.{nat_tests}
use Rattle.std.specs.Prelude.{ℤ, Option, Some, None, Bool, true, false, cond, nat_eq}
use Rattle.std.specs.Prelude.{nat_lt, ◌↔◌, IsTrue, IsSome, is_some, IfSome, IfNone, Contains, slice_get, slice_index}
use Rattle.std.specs.HashMap.{get}
use Rattle.rv64_instr.specs.declared.place.Place.{Place}
use Rattle.rv64_instr.specs.declared.place.Place.TheVariants.{Register, Slot, Const}
use Rattle.rv64_instr.specs.Arithmetic.{word}
use Rattle.mir_func.specs.declared.block.Block.{Block}
use Rattle.mir_func.specs.declared.debug_substitution.OperandPair.{OperandPair}
use Rattle.mir_func.specs.declared.position.Pos.{Pos}
use Rattle.mir_func.specs.declared.variable.VarId.{VarId}
use Rattle.mir_func.specs.Graph.{Program, block_start}
use Rattle.mir_func.specs.Successors.{pos_in}
use Rattle.mir_substitution.specs.Index.{is_key}
use Rattle.sem_mir.specs.ValueId.{Fixed, Sits, place_token}
use Rattle.sem_mir.specs.PreferredLocation.{IsPlace}
use Rattle.sem_value_ids.specs.Pullback.{InRegister, InSlot, OfPair, OfVariable, OfNumber, token_of}
use Rattle.sem_value_ids.specs.Pullback as path
use Rattle.value_solver.specs.declared.tracked.Tracked.{Tracked}
use Rattle.value_solver.specs.declared.tracked.Tracked.TheVariants.{Pair, Part, Number}
use Rattle.value_solver.specs.Entry.{thing}
use Rattle.value_proof.proofs.Known.{slot, variable}
use Rattle.value_tracker.specs.declared.index.TrackedIndex.{TrackedIndex}
use Rattle.value_tracker.specs.Things.{Indexes}
use Rattle.value_tracker.specs.LocationTracker.{SLOTS_FROM, slot_place, class_at, pair_class}
use Rattle.value_tracker.proofs.Starting.{stands as stand_of, contained, is_part}
use Rattle.location_ranges.specs.declared.transfer_tracker.TransferTracker.{TransferTracker}
use Rattle.location_ranges.specs.declared.values.Values.{Values}
use Rattle.location_ranges.specs.Stands.{program, AreValuesOf, Reaches, Stands}
use Rattle.value_queries.specs.Sitting.{IsFit, SitsAt, SitsByClass, named_class, place_number}
use Rattle.value_queries.proofs.Sitting.{Told, PlaceTold, sits_by_class, class_by_sits}

module _ (v : Values) (index : TrackedIndex) (s : TransferTracker) (g : Program) (r : Reaches g v index s) (indexes : Indexes v.things.now index) where
  abbrev things : List path.Tracked
  things = map thing v.things.now

  register_told : (q : ℕ) → PlaceTold things r.class (Register q) (named_class index s.settled.items s.held (Register q))
  register_told zero = record {
    known = λ named known. absurd (named.1 refl);
    named = λ some. absurd (some refl);
    others = λ some. absurd (some refl);
  }
  register_told (suc q) = subst (λ (z : Bool). PlaceTold things r.class (Register (suc q))
      (cond z 0 (cond (nat_lt (suc q) 32) (slice_index s.held.places.items (suc q)) 0))) (sym off) (by_test (nat_lt (suc q) 32) refl) where
        off : nat_eq (suc q) 0 ≡ false
        off = grind (arith, nat_tests)

        by_test : (b : Bool) → nat_lt (suc q) 32 ≡ b → PlaceTold things r.class (Register (suc q)) (cond b (slice_index s.held.places.items (suc q)) 0)
        by_test true e = let low = ltb-true (suc q) 32 e in record {
          known = λ named known. r.held.registers (suc q) low;
          named = λ some. (
            low,
            λ z. cc,
            λ two. some (r.held.registers (suc q) low ∙ (ap (λ (z : ℕ). r.class (InRegister z)) two ∙ r.held.pointer)),
          );
          others = λ some. low;
        }
        by_test false e = record {
          known = λ named known. absurd (let on = lt-ltb (suc q) 32 named.0 in true≢false (sym on ∙ e));
          named = λ some. absurd (some refl);
          others = λ some. absurd (some refl);
        }

  whole : (n : ℕ) → n % 8 ≡ 0 → 8 * (slot_place n - SLOTS_FROM) ≡ n
  whole n e = omega (arith, div-add-mod n 8, e)

  slot_told : (n : ℕ) → PlaceTold things r.class (Slot n) (named_class index s.settled.items s.held (Slot n))
  slot_told n = by_test (nat_eq (n % 8) 0) refl where
    by_test : (b : Bool) → nat_eq (n % 8) 0 ≡ b → PlaceTold things r.class (Slot n) (cond b (slice_index s.held.places.items (slot_place n)) 0)
    by_test true e = record {
      known = λ named known. r.held.slots n known;
      named = λ some. tt;
      others = λ some. subst (λ (z : ℕ). Contains things (InSlot z)) (whole n (eqb-true (n % 8) 0 e))
          (r.held.slots_known (slot_place n) (omega arith) some);
    }
    by_test false e = record {
      known = λ named known. absurd (true≢false (sym (eq-eqb (n % 8) 0 (r.held.offsets n known).0) ∙ e));
      named = λ some. absurd (some refl);
      others = λ some. absurd (some refl);
    }

  number_others : (c : ℕ) (o : Option ℕ) → get nat_eq index.numbers c ≡ o → class_at s.settled.items o ≢ 0 → Contains things (OfNumber c)
  number_others c None e some = absurd (some refl)
  number_others c (Some i) e some = contained v.things.now i (Number c) (indexes.numbers c i e).1

  number_told : (c : ℤ) → IsPlace (Const c) → PlaceTold things r.class (Const c) (named_class index s.settled.items s.held (Const c))
  number_told c fit = record {
    known = λ named known. r.held.numbers (word c) known;
    named = λ some. fit;
    others = λ some. number_others (word c) (get nat_eq index.numbers (word c)) refl some;
  }

  pub place_told : (place : Place) → IsFit place → PlaceTold things r.class place (named_class index s.settled.items s.held place)
  place_told (Register q) fit = register_told q
  place_told (Slot n) fit = slot_told n
  place_told (Const c) fit = number_told c fit

-- what sits in a place holds what the place does
pub turned : (g : Program) (a b : Place) (p : Pos) → IsPlace a × SitsAt g (place_token (Some a)) b p → IsPlace b × SitsAt g (place_token (Some b)) a p
turned g a b p (named, (other, sits)) = (other, (named, record { reached = sits.reached; same = λ n t path. let k = sits.same n t path in (k.0, k.2, k.1) }))

-- a pair is found where it is tracked
module _ (things : List Tracked) (index : TrackedIndex) (indexes : Indexes things index) where
  pub pair_tracked : (k o : ℕ) → IsSome (get is_key index.pairs (k, o)) ↔ Contains things (Pair (record { number = k; operand = o }))
  pair_tracked k o = (
    at (get is_key index.pairs (k, o)) refl,
    λ h. indexes.each_pair k o h.0 h.1
        (slice_get-get_or things h.0 (Pair (record { number = k; operand = o })) h.1 ∙ ap (λ (z : Tracked). Some z) h.2),
  ) where
    at : (z : Option ℕ) → get is_key index.pairs (k, o) ≡ z → IsSome z → Contains things (Pair (record { number = k; operand = o }))
    at None e some = cc
    at (Some i) e some =
        let h = indexes.pairs k o i e in
        (i, h.0, get_or_from_slice_get things i (Pair (record { number = k; operand = o })) (Pair (record { number = k; operand = o })) h.1)

  pub untracked : (q : OperandPair) (b : Bool) → b ≡ is_some (get is_key index.pairs (q.number, q.operand)) → b ≡ false → Contains things (Pair q) → ⊥
  untracked q b is off h = true≢false (sym (is ∙ (pair_tracked q.number q.operand).1 h) ∙ off)

  pub tracked_by : (q : OperandPair) (b : Bool) → b ≡ is_some (get is_key index.pairs (q.number, q.operand)) → b ≡ true → Contains things (Pair q)
  tracked_by q b is on = (pair_tracked q.number q.operand).0 (sym is ∙ on)

module _ (blocks : List Block) (v : Values) (index : TrackedIndex) (s : TransferTracker) (are : AreValuesOf blocks v) (stands : Stands blocks v index s)
    (indexes : Indexes v.things.now index) where
  abbrev g : Program
  g = program blocks v.subs.now

  abbrev here : Pos
  here = pos_in s.block s.item

  abbrev tracked : List path.Tracked
  tracked = map thing v.things.now

  -- a thing of which the walk tells a class sits in a place exactly where they have one class
  pub sits_where : (x : path.Tracked) (place : Place) (c : ℕ) → IsFit place → ((r : Reaches g v index s) → Told tracked r.class x c) →
      (b : Bool) → (IsTrue b ↔ SitsByClass s index c place) → IsTrue b ↔ SitsAt g (token_of x) place here
  sits_where x place c fit told b by = (forward, backward b refl) where
    forward : IsTrue b → SitsAt g (token_of x) place here
    forward t =
        let h = by.0 t in
        let r = stands.reached h.reached in
        sits_by_class g (block_start 0) here tracked r.class are.of r.classes x place c (named_class index s.settled.items s.held place) (told r)
        (place_told v index s g r indexes place fit) h.some h.one

    never : (z : Bool) → s.reached ≡ z → b ≡ false → SitsAt g (token_of x) place here → ⊥
    never false off e at = stands.unreached off at.1.reached
    never true on e at =
        let r = stands.reached on in
        class_by_sits g (block_start 0) here tracked r.class are.of r.classes x place c (named_class index s.settled.items s.held place) (told r)
        (place_told v index s g r indexes place fit) at.0 at.1
        (λ some one. true≢false (sym (by.1 (record { reached = on; some = some; one = one })) ∙ e))

    backward : (z : Bool) → b ≡ z → SitsAt g (token_of x) place here → IsTrue b
    backward true e at = e
    backward false e at = absurd (never s.reached refl e at)

  -- ---- parts of variables

  part_known : (w : VarId) → Contains tracked (OfVariable w) → Contains v.variables.now w
  part_known w h =
      let st = stand_of v.things.now (OfVariable w) h in
      let at : slice_get v.things.now st.index ≡ Some (Part w) = st.at ∙ ap (λ (z : Tracked). Some z) (is_part st.item w st.is) in
      let e = are.things.parts st.index w at in
      (st.index, slice_get_within v.variables.now st.index w e, get_or_from_slice_get v.variables.now st.index w w e)

  known_part : (w : VarId) → Contains v.variables.now w → Contains tracked (OfVariable w)
  known_part w h =
      contained v.things.now h.0 (Part w) (are.things.variables_first h.0 w (slice_get-get_or v.variables.now h.0 w h.1 ∙ ap (λ (z : VarId). Some z) h.2))

  pub part_told : (w : VarId) (c : ℕ) →
      (Contains v.variables.now w → (j : ℕ) × (slice_get v.variables.now j ≡ Some w) × (c ≡ slice_index s.held.parts.items j)) →
      (c ≢ 0 → Contains v.variables.now w) → (r : Reaches g v index s) → Told tracked r.class (OfVariable w) c
  part_told w c held none r = record {
    known = λ known. let h = held (part_known w known) in
        h.2 ∙ get_or_from_slice_get s.held.parts.items h.0 (r.class (OfVariable w)) 0 (r.held.parts h.0 w h.1);
    others = λ some. known_part w (none some);
    bare = λ no. variable w no;
  }

  -- ---- pairs

  pub pair_told : (k o c : ℕ) → Contains v.things.now (Pair (record { number = k; operand = o })) → c ≡ pair_class index s.settled.items s.held k o →
      (r : Reaches g v index s) → Told tracked r.class (OfPair k o) c
  pair_told k o c h is r =
      let known : Contains tracked (OfPair k o) =
      contained v.things.now h.0 (Pair (record { number = k; operand = o }))
      (slice_get-get_or v.things.now h.0 (Pair (record { number = k; operand = o })) h.1 ∙ ap (λ (z : Tracked). Some z) h.2) in
      record {
        known = λ e. is ∙ r.held.pairs k o known;
        others = λ some. known;
        bare = λ no. absurd (no known);
      }

  -- ---- places

  spot_told : (a : Place) → IsFit a → (r : Reaches g v index s) → PlaceTold tracked r.class a (named_class index s.settled.items s.held a)
  spot_told a fit r = place_told v index s g r indexes a fit

  register_as_thing : (q : ℕ) → IsPlace (Register q) → (r : Reaches g v index s) →
      Told tracked r.class (InRegister q) (named_class index s.settled.items s.held (Register q))
  register_as_thing q named r = let told = spot_told (Register q) tt r in record {
    known = λ known. told.known named known;
    others = told.others;
    bare = λ no. absurd (no named.0);
  }

  slot_as_thing : (n : ℕ) → (r : Reaches g v index s) → Told tracked r.class (InSlot n) (named_class index s.settled.items s.held (Slot n))
  slot_as_thing n r = let told = spot_told (Slot n) tt r in record {
    known = λ known. told.known tt known;
    others = told.others;
    bare = λ no. slot n no;
  }

  -- a register or a slot, and a place
  pub register_same : (q : ℕ) (b : Place) → IsFit b → (z : Bool) →
      (IsTrue z ↔ SitsByClass s index (named_class index s.settled.items s.held (Register q)) b) →
      IsTrue z ↔ (IsPlace (Register q) × SitsAt g (place_token (Some (Register q))) b here)
  register_same q b fit z by = (
    λ t. let h = by.0 t in
        let named = (spot_told (Register q) tt (stands.reached h.reached)).named h.some in
        (named, (at named).0 t),
    λ (named, (other, sits)). (at named).1 (other, sits),
  ) where
    at : IsPlace (Register q) → IsTrue z ↔ SitsAt g (token_of (InRegister q)) b here
    at named = sits_where (InRegister q) b (named_class index s.settled.items s.held (Register q)) fit (register_as_thing q named) z by

  pub slot_same : (n : ℕ) (b : Place) → IsFit b → (z : Bool) →
      (IsTrue z ↔ SitsByClass s index (named_class index s.settled.items s.held (Slot n)) b) →
      IsTrue z ↔ (IsPlace (Slot n) × SitsAt g (place_token (Some (Slot n))) b here)
  slot_same n b fit z by = (λ t. (tt, at.0 t), λ (named, (other, sits)). at.1 (other, sits)) where
    at : IsTrue z ↔ SitsAt g (token_of (InSlot n)) b here
    at = sits_where (InSlot n) b (named_class index s.settled.items s.held (Slot n)) fit (slot_as_thing n) z by

  -- two numbers
  pub numbers_same : (c d : ℤ) → IsPlace (Const c) → IsPlace (Const d) → (z : Bool) → (IsTrue z ↔ ((s.reached ≡ true) × (word c ≡ word d))) →
      IsTrue z ↔ (IsPlace (Const c) × SitsAt g (place_token (Some (Const c))) (Const d) here)
  numbers_same c d fit_c fit_d z by = (
    λ t. (fit_c, both (by.0 t).0 (by.0 t).1),
    λ (named, (other, sits)). by.1 (on s.reached refl sits, one sits),
  ) where
    both : s.reached ≡ true → word c ≡ word d → SitsAt g (place_token (Some (Const c))) (Const d) here
    both reached same = (
      fit_d,
      record {
        reached = (stands.reached reached).classes.reached;
        same = λ n t path. (Fixed (word c), refl, ap (λ (m : ℕ). Some (Fixed m)) (sym same));
      },
    )

    on : (b : Bool) → s.reached ≡ b → Sits g (block_start 0) (place_token (Some (Const c))) (place_token (Some (Const d))) here → b ≡ true
    on true e sits = refl
    on false e sits = absurd (stands.unreached e sits.reached)

    one : Sits g (block_start 0) (place_token (Some (Const c))) (place_token (Some (Const d))) here → word c ≡ word d
    one sits =
        let k = sits.same sits.reached.0 sits.reached.1 sits.reached.2 in
        let a : Some (Fixed (word c)) ≡ Some k.0 = k.1 in
        let b : Some (Fixed (word d)) ≡ Some k.0 = k.2 in
        cc

  pub not_number_same : (a b : Place) → place_number a ≡ None → IsFit b → (z : Bool) →
      (IsTrue z ↔ SitsByClass s index (named_class index s.settled.items s.held a) b) →
      IsTrue z ↔ (IsPlace a × SitsAt g (place_token (Some a)) b here)
  not_number_same (Register q) b e fit z by = register_same q b fit z by
  not_number_same (Slot n) b e fit z by = slot_same n b fit z by
  not_number_same (Const c) b e fit z by = absurd (let no : Some (word c) ≡ None = e in cc)

  turned_same : (a b : Place) (z : Bool) → (IsTrue z ↔ (IsPlace b × SitsAt g (place_token (Some b)) a here)) →
      IsTrue z ↔ (IsPlace a × SitsAt g (place_token (Some a)) b here)
  turned_same a b z by = (λ t. turned g b a here (by.0 t), λ h. by.1 (turned g a b here h))

  pub number_same : (a b : Place) (m : ℕ) → place_number a ≡ Some m → IsFit a → IsFit b → (z : Bool) →
      IfSome (place_number b) (λ n. IsTrue z ↔ ((s.reached ≡ true) × (m ≡ n))) →
      IfNone (place_number b) (IsTrue z ↔ SitsByClass s index (named_class index s.settled.items s.held b) a) →
      IsTrue z ↔ (IsPlace a × SitsAt g (place_token (Some a)) b here)
  number_same (Register q) b m e fit_a fit_b z number place = absurd (let no : None ≡ Some m = e in cc)
  number_same (Slot n) b m e fit_a fit_b z number place = absurd (let no : None ≡ Some m = e in cc)
  number_same (Const c) (Const d) m e fit_a fit_b z number place =
      let is : word c ≡ m = cc in
      numbers_same c d fit_a fit_b z (λ t. let h = number.0 t in (h.0, is ∙ h.1), λ h. number.1 (h.0, sym is ∙ h.1))
  number_same (Const c) (Register q) m e fit_a fit_b z number place =
      turned_same (Const c) (Register q) z (register_same q (Const c) fit_a z place)
  number_same (Const c) (Slot n) m e fit_a fit_b z number place = turned_same (Const c) (Slot n) z (slot_same n (Const c) fit_a z place)

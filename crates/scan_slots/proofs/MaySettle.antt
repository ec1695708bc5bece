-- The registers that are left may be put into slots: scratch registers are free, homes are slots of their own, and calls, returns and added code name no
-- virtual register.
use Rattle.std.proofs.Common.{◌≡◌, ◌⊎◌, inl, inr, ℕ, zero, suc, ◌+◌, ◌<◌, ◌≤◌, List, [], ◌∷◌, map, length, Contains, Option, Some, None, Bool, true, false}
use Rattle.std.proofs.Common.{not, ◌&&◌, ◌||◌, nat_lt, nat_le, get_or, lt-ltb, refl, sym, ap, ◌∙◌, subst, arith}
use Rattle.std.specs.List.{list_any}
use Rattle.std.specs.Prelude.{IsTrue}
use Rattle.std.proofs.lemmas.Bool.{cases_lt, and_from, or_left, or_right, le-leb}
use Rattle.rv64_instr.specs.declared.operand.Operand.{Operand}
use Rattle.rv64_instr.specs.declared.operand.Operand.TheVariants.{Def, Use}
use Rattle.rv64_instr.specs.declared.place.Place.TheVariants.{Register, Slot, Const}
use Rattle.rv64_instr.specs.Form.{has_form}
use Rattle.rv64_instr.specs.Instruction.{Instruction}
use Rattle.rv64_instr.specs.LocationEffects.{has_implicit_uses}
use Rattle.rv64_instr.proofs.Tails.{global_low}
use Rattle.rv64_instr.specs.Row.{row_of}
use Rattle.mir_func.specs.declared.block.Block.{Block}
use Rattle.mir_func.specs.declared.debug_substitution.OperandPair.{OperandPair}
use Rattle.mir_func.specs.declared.item.Item.{Item}
use Rattle.mir_func.specs.declared.item.ItemKind.{ItemKind}
use Rattle.mir_func.specs.declared.item.ItemKind.TheVariants.{Code, Mark, Phi}
use Rattle.mir_func.specs.declared.position.Origin.TheVariants.{Before}
use Rattle.mir_func.specs.declared.position.Pos.{Pos}
use Rattle.mir_func.specs.declared.variable.MarkValue.TheVariants.{Nothing, Constant, At, Pair}
use Rattle.mir_func.specs.Function.{Function}
use Rattle.mir_func.specs.Limits.{MAX_SLOTS}
use Rattle.mir_func.specs.Sound.{items_of, HasForm, AllItems}
use Rattle.mir_func.specs.Strip.{stripped}
use Rattle.pass_trait.specs.Causes.{is_of_register, names, is_named, scratch_of}
use Rattle.spill_code.specs.declared.spilling.SlotAssignment.{SlotAssignment}
use Rattle.spill_code.specs.declared.spilling.Spilling.{Spilling}
use Rattle.spill_code.specs.Rewrite.{slot_of}
use Rattle.scan_rule.proofs.spill_proof.Bare.{named_bare}
use Rattle.scan_rule.specs.spill_rule.Choice.{is_added, lacks_scratch, next_slot}
use Rattle.scan_rule.specs.spill_rule.Chosen.{AsksElsewhere}
use Rattle.scan_rule.proofs.spill_rule.Chosen.{item_in, home_from, home_own, next_above, use_named, def_named, implicit_named, contains_nth}
use Rattle.scan_rule.proofs.spill_rule.Scratch.{Two, two, saved}
use Rattle.scan_rule.specs.spill_simulation.MaySpill.{uses_in, defs_in, implicits_in, IsNoScratch, FitsCode, Fits, AreHomes}
use Rattle.scan_rule.specs.spill_simulation.Follows.{MaySpill}
use Rattle.scan_rule.specs.scan_allocation.Allocation.{is_virtual, names_virtual, adds_virtual}
use Rattle.scan_rule.proofs.scan_allocation.Named.{saved_small, implicits_small}
use Rattle.scan_rule.specs.scan_intervals.declared.interval.LiveInterval.{LiveInterval}
use Rattle.scan_rule.proofs.Bare.{adds_bare}
use Rattle.scan_slots.specs.Choice.{stays, all_homes, homes_unless, settling_of}
use Rattle.scan_slots.specs.Rule.{AreLeft}

not_both : {b : Bool} → b ≡ false → b ≡ true → ⊥
not_both e f = cc

or_parts : (x y z : Bool) → (x || (y || z)) ≡ false → (x ≡ false) × (y ≡ false) × (z ≡ false)
or_parts true y z e = cc
or_parts false true z e = cc
or_parts false false z e = (refl, refl, e)

any_by : (test : Item → Bool) (xs : List Item) (x : Item) → Contains xs x → test x ≡ true → list_any test xs ≡ true
any_by test [] x (k, lt, e) h = absurd (omega (arith, lt))
any_by test (y ∷ ys) x (zero, lt, e) h = or_left (test y) (list_any test ys) (ap test e ∙ h)
any_by test (y ∷ ys) x (suc k, lt, e) h = or_right (test y) (list_any test ys) (any_by test ys x (k, omega (arith, lt), e) h)

-- a virtual register among explicit operands
use_virtual : (os : List Operand) (r : ℕ) → Contains (uses_in os) r → 32 ≤ r → list_any is_virtual os ≡ true
use_virtual [] r (k, lt, at) le = absurd (omega (arith, lt))
use_virtual (Use q ∷ os) r (zero, lt, at) le = or_left (nat_le 32 q) (list_any is_virtual os) (le-leb 32 q (omega (arith, at, le)))
use_virtual (Use q ∷ os) r (suc k, lt, at) le = or_right (nat_le 32 q) (list_any is_virtual os) (use_virtual os r (k, omega (arith, lt), at) le)
use_virtual (x ∷ os) r c le = or_right (is_virtual x) (list_any is_virtual os) (use_virtual os r c le)

def_virtual : (os : List Operand) (r : ℕ) → Contains (defs_in os) r → 32 ≤ r → list_any is_virtual os ≡ true
def_virtual [] r (k, lt, at) le = absurd (omega (arith, lt))
def_virtual (Def q ∷ os) r (zero, lt, at) le = or_left (nat_le 32 q) (list_any is_virtual os) (le-leb 32 q (omega (arith, at, le)))
def_virtual (Def q ∷ os) r (suc k, lt, at) le = or_right (nat_le 32 q) (list_any is_virtual os) (def_virtual os r (k, omega (arith, lt), at) le)
def_virtual (x ∷ os) r c le = or_right (is_virtual x) (list_any is_virtual os) (def_virtual os r c le)

register_of : (is : List LiveInterval) (r : ℕ) → Contains (map (λ (i : LiveInterval). i.register) is) r → (i : LiveInterval) × Contains is i × (i.register ≡ r)
register_of [] r (k, lt, e) = absurd (omega (arith, lt))
register_of (i ∷ is) r (zero, lt, e) = (i, (0, omega arith, refl), e)
register_of (i ∷ is) r (suc k, lt, e) =
    let w = register_of is r (k, omega (arith, lt), e) in
    (w.0, (suc w.1.0, (let within = w.1.1 in omega (arith, within)), w.1.2), w.2)

by_homes : (z : Bool) (hs : List SlotAssignment) (r n : ℕ) → slot_of (homes_unless z hs) r ≡ Some n → (z ≡ false) × (slot_of hs r ≡ Some n)
by_homes true hs r n e = cc
by_homes false hs r n e = (refl, e)

module _ (f : Function) (intervals : List LiveInterval) (left : AreLeft f intervals) where
  abbrev s : Spilling
  s = settling_of f intervals

  -- a register with a slot is virtual
  pub home_is : (r n : ℕ) → slot_of s.homes r ≡ Some n → (stays f intervals ≡ false) × (slot_of (all_homes f intervals) r ≡ Some n)
  home_is r n e = by_homes (stays f intervals) (all_homes f intervals) r n e

  pub virtual : (r n : ℕ) → slot_of s.homes r ≡ Some n → 32 ≤ r
  virtual r n e =
      let c = (home_from (next_slot f.slots) (map (λ (i : LiveInterval). i.register) intervals) r n (home_is r n e).1).0 in
      let w = register_of intervals r c in
      let le = ((left.are.each w.0).0 w.1).0 in
      let same = w.2 in
      omega (arith, le, same)

  plain : (r : ℕ) → r < 32 → slot_of s.homes r ≡ None
  plain r lt = by_home (slot_of s.homes r) refl where
    by_home : (x : Option ℕ) → slot_of s.homes r ≡ x → x ≡ None
    by_home None e = refl
    by_home (Some n) e = let le = virtual r n e in absurd (omega (arith, lt, le))

  -- where some register gets a slot
  module _ (goes : stays f intervals ≡ false) where
    pub parts : (lacks_scratch f ≡ false) × (adds_virtual f ≡ false) × (nat_lt MAX_SLOTS (length f.slots + length f.objects + length intervals) ≡ false)
    parts = or_parts (lacks_scratch f) (adds_virtual f) (nat_lt MAX_SLOTS (length f.slots + length f.objects + length intervals)) goes

    pub enough : 2 ≤ length (scratch_of f)
    enough = elim (cases_lt (length (scratch_of f)) 2) as (λ _. 2 ≤ length (scratch_of f)) [
      | inl lt ↦ absurd (not_both parts.0 (lt-ltb (length (scratch_of f)) 2 lt))
      | inr ge ↦ ge
    ]

    pair : Two (λ r. not (is_named f r)) s.first s.second
    pair = two (λ r. not (is_named f r)) enough

    homes : AreHomes s f.slots
    homes = record {
      first = saved s.first pair.first.0;
      second = saved s.second pair.second.0;
      apart = λ e. (let lt = pair.apart in omega (arith, lt, e));
      kept = λ r n e c. (let lt = saved_small r c in let le = virtual r n e in omega (arith, lt, le));
      no_zero = plain 0 (omega arith);
      no_pointer = plain 2 (omega arith);
      no_global = λ r e. (let low = global_low r e in plain r (omega (arith, low)));
      own = λ q r n e h.
          home_own (next_slot f.slots) (map (λ (i : LiveInterval). i.register) intervals) q r n (home_is q n e).1 (home_is r n h).1;
      fresh = λ r n e c.
          (let lt = next_above f.slots n c in
          let le = (home_from (next_slot f.slots) (map (λ (i : LiveInterval). i.register) intervals) r n (home_is r n e).1).1 in
          omega (arith, lt, le));
    }

    pub apart_scratch : (r n : ℕ) → slot_of s.homes r ≡ Some n → IsNoScratch s r
    apart_scratch r n e =
        let le = virtual r n e in
        let first = saved_small s.first homes.first in
        let second = saved_small s.second homes.second in
        (λ z. omega (arith, le, first, z), λ z. omega (arith, le, second, z))

    -- ---- a function with the same code

    module _ (g : Function) (same : stripped g ≡ stripped f) where
      named_same : (r : ℕ) → is_named g r ≡ is_named f r
      named_same r = sym (named_bare g r) ∙ ap (λ (h : Function). is_named h r) same ∙ named_bare f r

      adds_same : adds_virtual g ≡ adds_virtual f
      adds_same = sym (adds_bare g) ∙ ap adds_virtual same ∙ adds_bare f

      not_named : (b : Bool) → not b ≡ true → b ≡ false
      not_named true e = cc
      not_named false e = refl

      clash : (r q : ℕ) → not (is_named f q) ≡ true → (i : Item) → Contains (items_of g.blocks) i → names r i.kind ≡ true → r ≡ q → ⊥
      clash r q free i c named e =
          not_both (named_same q ∙ not_named (is_named f q) free)
          (any_by (λ (x : Item). names q x.kind) (items_of g.blocks) i c (ap (λ (z : ℕ). names z i.kind) (sym e) ∙ named))

      scratch_free : (r : ℕ) (i : Item) → Contains (items_of g.blocks) i → names r i.kind ≡ true → IsNoScratch s r
      scratch_free r i c named = (clash r s.first pair.first.1 i c named, clash r s.second pair.second.1 i c named)

      code_fits : (ins : Instruction) (num : Option ℕ) (i : Item) → i.kind ≡ Code ins num → Contains (items_of g.blocks) i →
          IsTrue (has_form ins.op ins.operands) → FitsCode s ins i.origin
      code_fits ins num i is c form = record {
        form = form;
        uses = λ r u. scratch_free r i c (by_use r u);
        defs = λ r d. scratch_free r i c (by_def r d);
        implicits = λ z r m. (plain r (implicits_small ins form z r m), scratch_free r i c (by_name z r m));
        kept = λ p e r m. by_home r (slot_of s.homes r) refl p e m;
      } where
        names_is : (r : ℕ) → names r i.kind ≡ list_any (is_of_register (has_implicit_uses (row_of ins)) r) ins.operands
        names_is r = ap (names r) is

        by_use : (r : ℕ) → Contains (uses_in ins.operands) r → names r i.kind ≡ true
        by_use r u = names_is r ∙ use_named (has_implicit_uses (row_of ins)) ins.operands r u

        by_def : (r : ℕ) → Contains (defs_in ins.operands) r → names r i.kind ≡ true
        by_def r d = names_is r ∙ def_named (has_implicit_uses (row_of ins)) ins.operands r d

        by_name : has_implicit_uses (row_of ins) ≡ true → (r : ℕ) → Contains (implicits_in ins.operands) r → names r i.kind ≡ true
        by_name z r m = names_is r ∙ ap (λ (t : Bool). list_any (is_of_register t r) ins.operands) z ∙ implicit_named ins.operands r m

        named_virtual : (r : ℕ) → 32 ≤ r → Contains (uses_in ins.operands) r ⊎ Contains (defs_in ins.operands) r → list_any is_virtual ins.operands ≡ true
        named_virtual r le (inl u) = use_virtual ins.operands r u le
        named_virtual r le (inr d) = def_virtual ins.operands r d le

        by_home : (r : ℕ) (x : Option ℕ) → slot_of s.homes r ≡ x → (p : Pos) → i.origin ≡ Before p →
            Contains (uses_in ins.operands) r ⊎ Contains (defs_in ins.operands) r → x ≡ None
        by_home r None e p o m = refl
        by_home r (Some n) e p o m =
            let named : names_virtual i.kind ≡ true = ap names_virtual is ∙ named_virtual r (virtual r n e) m in
            let added : is_added i.origin ≡ true = ap is_added o in
            absurd (not_both (adds_same ∙ parts.1) (any_by (λ (x : Item). is_added x.origin && names_virtual x.kind) (items_of g.blocks) i c
            (and_from (is_added i.origin) (names_virtual i.kind) added named)))

      item_fits : (i : Item) → Contains (items_of g.blocks) i → HasForm i.kind → AsksElsewhere s i.kind → Fits s i.kind i.origin
      item_fits i c form ask = by_kind i.kind refl form ask where
        by_kind : (y : ItemKind) → i.kind ≡ y → HasForm y → AsksElsewhere s y → Fits s y i.origin
        by_kind (Code ins num) is form ask = code_fits ins num i is c form
        by_kind (Mark v Nothing) is form ask = tt
        by_kind (Mark v (Constant n)) is form ask = tt
        by_kind (Mark v (At r)) is form ask = ask
        by_kind (Mark v (Pair q)) is form ask = tt
        by_kind (Phi None n) is form ask = tt
        by_kind (Phi (Some (Register r)) n) is form ask = ask
        by_kind (Phi (Some (Slot m)) n) is form ask = tt
        by_kind (Phi (Some (Const z)) n) is form ask = tt

      none_in : (h : SlotAssignment) → Contains [] h → ⊥
      none_in h (k, lt, e) = omega (arith, lt)

      pub may_settle : (resolve : OperandPair → Option OperandPair) → g.slots ≡ f.slots → AllItems (λ i. HasForm i.kind) g.blocks →
          AllItems (λ i. AsksElsewhere s i.kind) g.blocks → MaySpill s [] g resolve
      may_settle resolve slots forms asks = record {
        homes = subst (AreHomes s) (sym slots) homes;
        fits = λ k d lt j e within.
            (let b : Block = get_or g.blocks k d in
            item_fits (get_or b.items j e) (item_in g.blocks b (get_or b.items j e) (contains_nth g.blocks k d lt) (contains_nth b.items j e within))
            (forms k d lt j e within) (asks k d lt j e within));
        stored = λ h k. absurd (none_in h k);
        real = λ h k. absurd (none_in h k);
        lives = λ h k. absurd (none_in h k);
        all = λ r n e lt alive. (let le = virtual r n e in absurd (omega (arith, lt, le)));
        once = inl refl;
      }

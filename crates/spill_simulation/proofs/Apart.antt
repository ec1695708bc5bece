-- With a slot store at a block's end goes other code: what counts in the function has something that counts in the function with spilled
-- registers, and a path to a use of a register that is stored at the start leads to its load.
use Rattle.std.proofs.Common.{◌≡◌, ◌⊎◌, ℕ, suc, List, [], ◌∷◌, ◌++◌, length, Contains, Option, Some, None, Bool}
use Rattle.std.proofs.Common.{true, false, ◌||◌, ◌&&◌, nat_eq, refl, sym, ap, ◌∙◌, subst, inl, inr, eqb-true, slice_get, arith}
use Rattle.std.specs.List.{list_any}
use Rattle.std.proofs.lemmas.Bool.{and_parts}
use Rattle.rv64_instr.specs.Row.{Input, Content, Number, PartOf}
use Rattle.rv64_instr.specs.Row.{Base, PointedBy, ObjectAt, BesidePart}
use Rattle.rv64_instr.specs.declared.operand.Operand.{Operand}
use Rattle.rv64_instr.specs.declared.operand.Operand.TheVariants.{ImplicitDef, ImplicitUse, GlobalRegisters}
use Rattle.rv64_instr.specs.declared.place.Place.{Place}
use Rattle.rv64_instr.specs.declared.place.Place.TheVariants.{Register, Slot, Const}
use Rattle.rv64_instr.specs.Instruction.{Instruction}
use Rattle.rv64_instr.specs.LocationEffects.{has_implicit_uses, first_use, second_use, input_place, base_place, is_register, is_implicit_use, uses_of}
use Rattle.rv64_instr.specs.LocationEffects.{is_global_register, callee_place}
use Rattle.rv64_instr.specs.DefsAndUses.{reads, sets, input_reads, base_reads, callee_reads}
use Rattle.rv64_instr.specs.Row.{Row, Moves, Sets, Loads, Stores, StoresSlot, Branches, Jumps, Calls, Returns, Unfit, row_of}
use Rattle.rv64_instr.specs.Row.{Callee, Named, Held}
use Rattle.mir_func.specs.declared.position.Pos.{Pos}
use Rattle.mir_func.specs.declared.position.Origin.{Origin}
use Rattle.mir_func.specs.declared.location.Loc.{Loc}
use Rattle.mir_func.specs.declared.item.Item.{Item}
use Rattle.mir_func.specs.declared.item.ItemKind.TheVariants.{Code}
use Rattle.mir_func.specs.Graph.{Program, below, Leads, stay, go}
use Rattle.mir_func.specs.Positions.{position_of}
use Rattle.sem_mir.specs.Follow.{OnRow, Counts}
use Rattle.rv64_instr.specs.View.{Plain, class_of}
use Rattle.sem_mir.specs.Live.{Live, used, later, Uses}
use Rattle.sem_mir.proofs.Places.{contains_head, contains_tail}
use Rattle.spill_code.specs.declared.spilling.Spilling.{Spilling}
use Rattle.spill_code.specs.Rewrite.{slot_of, set_in, stand_in, use_now, def_now, first_used, first_defined, spilled_code, load, added}
use Rattle.spill_code.specs.Rewrite.{two_loads, stores, code_items}
use Rattle.spill_simulation.specs.MaySpill.{uses_in, defs_in, implicits_in, FitsCode, AreHomes}
use Rattle.rv64_instr.proofs.Moves.{moves_by}
use Rattle.spill_simulation.proofs.Explicit.{explicit, explicit_reads, first_from, used_is, defined_is, found_of}
use Rattle.spill_simulation.proofs.Near.{none_in, keeps_zero}
use Rattle.spill_simulation.proofs.Rows.{renamed_row, row_renamed}
use Rattle.spill_simulation.proofs.Steps.{setting_plain, sets_one}
use Rattle.spill_simulation.proofs.Views.{none_of}

counts_renamed : (u d : ℕ → ℕ) (r : Row) → Counts r → ((rd rs : ℕ) → r ≡ Moves rd rs → d rd ≡ u rs → rd ≡ rs) → Counts (renamed_row u d r)
counts_renamed u d (Moves rd rs) h k = λ e. h (k rd rs refl e)
counts_renamed u d (Branches op a b t) h k = absurd h
counts_renamed u d (Jumps t) h k = absurd h
counts_renamed u d _ h k = tt

plain_counts : (u d : ℕ → ℕ) (r : Row) → class_of r ≡ Plain → ((rd rs : ℕ) → r ≡ Moves rd rs → d rd ≡ u rs → ⊥) → Counts (renamed_row u d r)
plain_counts u d (Moves rd rs) h k = λ e. k rd rs refl e
plain_counts u d (Stores op rs b o) h k = cc
plain_counts u d (Branches op a b t) h k = cc
plain_counts u d (Jumps t) h k = cc
plain_counts u d (Calls call) h k = cc
plain_counts u d (Returns v) h k = cc
plain_counts u d Unfit h k = cc
plain_counts u d _ h k = tt

-- ---- what is used is read

is_one : (q : ℕ) (x : Option Place) → is_register q x ≡ true → x ≡ Some (Register q)
is_one q (Some (Register r)) e = ap (λ (z : ℕ). Some (Register z)) (sym (eqb-true q r e))
is_one q (Some (Slot n)) e = cc
is_one q (Some (Const z)) e = cc
is_one q None e = cc

from_input : (b : Input) (q : ℕ) → is_register q (input_place b) ≡ true → Contains (input_reads b) q
from_input (Content r) q e = subst (λ (z : ℕ). Contains (r ∷ []) z) (sym (eqb-true q r e)) (contains_head r [])
from_input (Number n) q e = cc
from_input (PartOf half y) q e = cc

from_base : (b : Base) (q : ℕ) → is_register q (base_place b) ≡ true → Contains (base_reads b) q
from_base (PointedBy r) q e = subst (λ (z : ℕ). Contains (r ∷ []) z) (sym (eqb-true q r e)) (contains_head r [])
from_base (ObjectAt n) q e = cc
from_base (BesidePart r y) q e = subst (λ (z : ℕ). Contains (r ∷ []) z) (sym (eqb-true q r e)) (contains_head r [])

head_is : (r q : ℕ) (rs : List ℕ) → is_register q (Some (Register r)) ≡ true → Contains (r ∷ rs) q
head_is r q rs e = subst (λ (z : ℕ). Contains (r ∷ rs) z) (sym (eqb-true q r e)) (contains_head r rs)

first_read : (r : Row) (q : ℕ) → is_register q (first_use r) ≡ true → Contains (reads r) q
first_read (Moves rd rs) q e = head_is rs q [] e
first_read (Sets rd op a b) q e = head_is a q (input_reads b) e
first_read (Loads rd op b o) q e = from_base b q e
first_read (Stores op rs b o) q e = head_is rs q (base_reads b) e
first_read (StoresSlot rs n) q e = head_is rs q [] e
first_read (Branches op a b t) q e = head_is a q (b ∷ []) e
first_read (Calls call) q e = by_callee call.callee e where
  by_callee : (callee : Callee) → is_register q (callee_place callee) ≡ true → Contains (callee_reads callee ++ call.args) q
  by_callee (Named name) e = cc
  by_callee (Held r) e = head_is r q call.args e
first_read _ q e = cc

second_read : (r : Row) (q : ℕ) → is_register q (second_use r) ≡ true → Contains (reads r) q
second_read (Sets rd op a b) q e = contains_tail a q (input_reads b) (from_input b q e)
second_read (Stores op rs b o) q e = contains_tail rs q (base_reads b) (from_base b q e)
second_read (Branches op a b t) q e = contains_tail a q (b ∷ []) (head_is b q [] e)
second_read _ q e = cc

-- a row with implicit uses has no explicit use but a callee's
explicit_row : (r : Row) (q : ℕ) → has_implicit_uses r ≡ true → (is_register q (first_use r) || is_register q (second_use r)) ≡ true →
    Contains (explicit_reads r) q
explicit_row (Calls call) q i e = by_callee call.callee e where
  by_test : (r : ℕ) (b : Bool) → nat_eq q r ≡ b → (b || false) ≡ true → Contains (r ∷ []) q
  by_test r true is h = subst (λ (z : ℕ). Contains (r ∷ []) z) (sym (eqb-true q r is)) (contains_head r [])
  by_test r false is h = cc

  by_callee : (callee : Callee) → (is_register q (callee_place callee) || false) ≡ true → Contains (callee_reads callee) q
  by_callee (Named name) e = cc
  by_callee (Held r) e = by_test r (nat_eq q r) refl e
explicit_row (Returns v) q i e = cc
explicit_row _ q i e = cc

either_true : (x y : Bool) → (x || y) ≡ true → (x ≡ true) ⊎ (y ≡ true)
either_true true y e = inl refl
either_true false y e = inr e

implicit_in : (os : List Operand) (q : ℕ) → is_global_register q ≡ false → list_any (is_implicit_use q) os ≡ true → Contains (implicits_in os) q
implicit_in [] q own e = cc
implicit_in (ImplicitUse r ∷ os) q own e =
    elim (either_true (nat_eq r q) (list_any (is_implicit_use q) os) e) as (λ _. Contains (r ∷ implicits_in os) q) [
      | inl k ↦ subst (λ (z : ℕ). Contains (r ∷ implicits_in os) z) (eqb-true r q k) (contains_head r (implicits_in os))
      | inr k ↦ contains_tail r q (implicits_in os) (implicit_in os q own k)
    ]
implicit_in (ImplicitDef r ∷ os) q own e = contains_tail r q (implicits_in os) (implicit_in os q own e)
implicit_in (GlobalRegisters ∷ os) q own e =
    elim (either_true (is_global_register q) (list_any (is_implicit_use q) os) e) as (λ _. Contains (implicits_in os) q) [
      | inl k ↦ (let bad : false ≡ true = sym own ∙ k in cc)
      | inr k ↦ implicit_in os q own k
    ]
implicit_in (_ ∷ os) q own e = implicit_in os q own e

-- a live register has a use
pub live_use : {f : Program} {x : Place} {p : Pos} → Live f x p → (w : Pos) × Leads f p w × Uses (f.fetch w) x
live_use {p = p} (used h) = (p, stay, h)
live_use (later d edge live) = let k = live_use live in (k.0, go edge k.1, k.2)

module _ (s : Spilling) (slots : List ℕ) (homes : AreHomes s slots) where
  -- code that uses a spilled register loads it
  pub used_loads : (i : Instruction) (o : Origin) → FitsCode s i o → (r n : ℕ) → slot_of s.homes r ≡ Some n → uses_of i (Register r) ≡ true →
      (m : ℕ) × (first_used s.homes i.operands ≡ Some m)
  used_loads i o fits r n home u =
      elim (either_true (is_register r (first_use (row_of i)) || is_register r (second_use (row_of i)))
      (has_implicit_uses (row_of i) && list_any (is_implicit_use r) i.operands) u)
      as (λ _. (m : ℕ) × (first_used s.homes i.operands ≡ Some m)) [
        | inl k ↦ by_row k (has_implicit_uses (row_of i)) refl
        | inr k ↦
            (let w = and_parts (has_implicit_uses (row_of i)) (list_any (is_implicit_use r) i.operands) k in
            let none = (fits.implicits w.0 r (implicit_in i.operands r (own (is_global_register r) refl) w.1)).0 in
            let bad : None ≡ Some n = sym none ∙ home in cc)
      ] where
        own : (b : Bool) → is_global_register r ≡ b → b ≡ false
        own true g = let bad : None ≡ Some n = sym (homes.no_global r g) ∙ home in cc
        own false g = refl

        by_found : Contains (uses_in i.operands) r → (m : ℕ) × (first_used s.homes i.operands ≡ Some m)
        by_found k =
            elim (found_of s.homes (uses_in i.operands) (explicit i fits.form).few r n k home)
            as (λ _. (m : ℕ) × (first_used s.homes i.operands ≡ Some m)) [
              | inl e ↦ (n, used_is s.homes i.operands ∙ e)
              | inr e ↦ (e.0, used_is s.homes i.operands ∙ e.1)
            ]

        by_row : (is_register r (first_use (row_of i)) || is_register r (second_use (row_of i))) ≡ true → (z : Bool) → has_implicit_uses (row_of i) ≡ z →
            (m : ℕ) × (first_used s.homes i.operands ≡ Some m)
        by_row k true z = by_found ((explicit i fits.form).explicit_used r (explicit_row (row_of i) r z k)
            (λ e. (let bad : None ≡ Some n = sym homes.no_zero ∙ ap (slot_of s.homes) (sym e) ∙ home in cc)))
        by_row k false z = by_found ((explicit i fits.form).reads_used z r
            (elim (either_true (is_register r (first_use (row_of i))) (is_register r (second_use (row_of i))) k) as (λ _. Contains (reads (row_of i)) r) [
              | inl h ↦ first_read (row_of i) r h
              | inr h ↦ second_read (row_of i) r h
            ]) (λ e. (let bad : None ≡ Some n = sym homes.no_zero ∙ ap (slot_of s.homes) (sym e) ∙ home in cc)))

  -- the registers of a copy of which nothing is loaded
  copy_apart : (i : Instruction) (o : Origin) → FitsCode s i o → first_used s.homes i.operands ≡ None → (rd rs : ℕ) → row_of i ≡ Moves rd rs →
      def_now s rd ≡ use_now s (first_used s.homes i.operands) rs → (rd ≡ rs) × (slot_of s.homes rd ≡ None)
  copy_apart i o fits none rd rs is same = by_slot (slot_of s.homes rd) refl where
    plain : has_implicit_uses (row_of i) ≡ false
    plain = ap has_implicit_uses is

    used_rs : Contains (uses_in i.operands) rs
    used_rs = (explicit i fits.form).reads_used plain rs (subst (λ (r : Row). Contains (reads r) rs) (sym is) (contains_head rs []))
        (λ e. (let bad : 0 ≡ suc (moves_by i rd rs is).real.0 = sym e ∙ (moves_by i rd rs is).real.1 in omega (arith, bad)))

    free : slot_of s.homes rs ≡ None
    free = none_of s.homes (uses_in i.operands) rs (sym (used_is s.homes i.operands) ∙ none) used_rs

    stays : use_now s (first_used s.homes i.operands) rs ≡ rs
    stays = ap (stand_in s (first_used s.homes i.operands) rs) free

    by_slot : (x : Option ℕ) → slot_of s.homes rd ≡ x → (rd ≡ rs) × (slot_of s.homes rd ≡ None)
    by_slot None e = (sym (ap (set_in s rd) e) ∙ same ∙ stays, e)
    by_slot (Some n) e =
        let scratch : rs ≡ s.first = sym stays ∙ sym same ∙ ap (set_in s rd) e in
        absurd ((fits.uses rs used_rs).0 scratch)

  renames : (i : Instruction) → row_of (spilled_code s i) ≡ renamed_row (use_now s (first_used s.homes i.operands)) (def_now s) (row_of i)
  renames i =
      row_renamed (use_now s (first_used s.homes i.operands)) (def_now s) (keeps_zero s slots homes (first_used s.homes i.operands)) i

  -- what counts, or sets a spilled register, counts still where nothing is loaded
  pub counts_now : (i : Instruction) (o : Origin) → FitsCode s i o → first_used s.homes i.operands ≡ None →
      Counts (row_of i) ⊎ ((n : ℕ) × (first_defined s.homes i.operands ≡ Some n)) → Counts (row_of (spilled_code s i))
  counts_now i o fits none (inl h) =
      subst Counts (sym (renames i)) (counts_renamed (use_now s (first_used s.homes i.operands)) (def_now s) (row_of i) h
      (λ rd rs is same. (copy_apart i o fits none rd rs is same).0))
  counts_now i o fits none (inr (n, some)) =
      subst Counts (sym (renames i)) (by_def (first_from s.homes (defs_in i.operands) n (sym (defined_is s.homes i.operands) ∙ some))) where
        by_def : (r : ℕ) × Contains (defs_in i.operands) r × (slot_of s.homes r ≡ Some n) →
            Counts (renamed_row (use_now s (first_used s.homes i.operands)) (def_now s) (row_of i))
        by_def (r, k, home) = by_row (has_implicit_uses (row_of i)) refl where
          by_row : (z : Bool) → has_implicit_uses (row_of i) ≡ z →
              Counts (renamed_row (use_now s (first_used s.homes i.operands)) (def_now s) (row_of i))
          by_row true z = absurd (none_in r (subst (λ (xs : List ℕ). Contains xs r) ((explicit i fits.form).implicit_none z) k))
          by_row false z =
              let set = subst (λ (xs : List ℕ). Contains xs r) (sym ((explicit i fits.form).sets_defs z)) k in
              plain_counts (use_now s (first_used s.homes i.operands)) (def_now s) (row_of i) (setting_plain (row_of i) r z set)
              (λ rd rs is same.
              (let one : r ≡ rd = sets_one (row_of i) r rd z set (subst (λ (q : Row). Contains (sets q) rd) (sym is) (contains_head rd [])) in
              let bad : None ≡ Some n = sym (copy_apart i o fits none rd rs is same).1 ∙ ap (slot_of s.homes) (sym one) ∙ home in cc))

  -- a piece of code that counts
  pub record Piece (i : Instruction) (k : Option ℕ) (o : Origin) (l : Loc) : Type 0 where
    pub item : Item
    pub index : ℕ
    pub at : slice_get (code_items s i k o l) index ≡ Some item
    pub counts : OnRow Counts item.kind
    pub pos : position_of item.origin ≡ position_of o

  get_mid : (us bs : List Item) (y : Item) → slice_get (us ++ (y ∷ bs)) (length us) ≡ Some y
  get_mid [] bs y = refl
  get_mid (u ∷ us) bs y = get_mid us bs y

  pub main_piece : (i : Instruction) (k : Option ℕ) (o : Origin) (l : Loc) →
      slice_get (code_items s i k o l) (length (two_loads s (position_of o) i.operands (first_used s.homes i.operands))) ≡
      Some (record { kind = Code (spilled_code s i) k; origin = o; loc = l })
  main_piece i k o l = get_mid (two_loads s (position_of o) i.operands (first_used s.homes i.operands)) _ _

  pub piece_of : (i : Instruction) (k : Option ℕ) (o : Origin) (l : Loc) → FitsCode s i o →
      Counts (row_of i) ⊎ ((n : ℕ) × (first_defined s.homes i.operands ≡ Some n)) → Piece i k o l
  piece_of i k o l fits h = by_first (first_used s.homes i.operands) refl where
    by_first : (z : Option ℕ) → first_used s.homes i.operands ≡ z → Piece i k o l
    by_first None e = record {
      item = record { kind = Code (spilled_code s i) k; origin = o; loc = l };
      index = length (two_loads s (position_of o) i.operands (first_used s.homes i.operands));
      at = main_piece i k o l;
      counts = counts_now i o fits e h;
      pos = refl;
    }
    by_first (Some n) e = record {
      item = added (position_of o) (load s.first n);
      index = 0;
      at = ap (λ (z : Option ℕ). slice_get (two_loads s (position_of o) i.operands z ++
          (record { kind = Code (spilled_code s i) k; origin = o; loc = l } ∷
          stores (below (position_of o)) s.first (first_defined s.homes i.operands))) 0) e;
      counts = tt;
      pos = refl;
    }

-- What the parts of an instruction tell of its runs.
use Rattle.std.proofs.Common.{◌≡◌, ℕ, ℤ, zero, suc, ◌^◌, List, [], ◌∷◌, ◌++◌, Contains, Option, Some, None, Bool, true, false, cond, ◌&&◌, ◌||◌, nat_eq, is_some}
use Rattle.std.proofs.Common.{eq-eqb, lt-ltb, le-ltb, refl, sym, ap, ◌∙◌, subst, inl, inr, ◌⊎◌, arith}
use Rattle.std.specs.List.{list_any}
use Rattle.std.proofs.lemmas.Bool.{cases_eq, cases_lt, eqb-true, or_left, or_right}
use Rattle.std.proofs.lemmas.Map.Made.{Contains-tail}
use Rattle.mir_func.specs.rv64_instr.declared.operand.Operand.{Operand}
use Rattle.mir_func.specs.rv64_instr.declared.operand.Operand.TheVariants.{ImplicitUse, GlobalRegisters}
use Rattle.mir_func.specs.rv64_instr.declared.place.Place.{Place}
use Rattle.mir_func.specs.rv64_instr.declared.place.Place.TheVariants.{Register, Slot, Const}
use Rattle.mir_func.specs.rv64_instr.Instruction.{Instruction}
use Rattle.mir_func.specs.rv64_instr.Arithmetic.{word, signed, load_width, extended}
use Rattle.mir_func.specs.rv64_instr.Row.{Row, Fixes, Moves, Sets, Addresses, Loads, Stores, LoadsSlot, StoresSlot, Branches, Jumps, Calls, Returns, Unfit, row_of}
use Rattle.mir_func.specs.rv64_instr.Row.{implicit_uses, Callee, Named, Held}
use Rattle.mir_func.specs.rv64_instr.Row.{Content, Number, PartOf}
use Rattle.mir_func.specs.rv64_instr.Row.{PointedBy, ObjectAt, BesidePart}
use Rattle.mir_func.specs.rv64_instr.DefsAndUses.{reads, sets, callee_reads}
use Rattle.mir_func.specs.rv64_instr.LocationEffects.{place_set, set_by, moved_by, constant_of, is_pure, is_call as calls, uses_of, defines_of, first_use, second_use}
use Rattle.mir_func.specs.rv64_instr.LocationEffects.{is_register, has_implicit_uses, is_implicit_use, is_outgoing, names_slot, slot_read, is_call}
use Rattle.mir_func.specs.rv64_instr.LocationEffects.{is_global_register, callee_place}
use Rattle.mir_func.proofs.Passed.{passed_by}
use Rattle.mir_func.specs.declared.item.ItemKind.{ItemKind}
use Rattle.mir_func.specs.declared.item.ItemKind.TheVariants.{Code, Mark, Phi}
use Rattle.sem_mir.specs.Live.{KindDefines}
use Rattle.sem_mir.specs.State.{Core, content, updated, spelled}
use Rattle.sem_mir.specs.Step.{Outcome, Falls, Goes, Gives, Traps, Asks, Breaks, with_core, numbered, do_item, read, or_zero, address_at, is_fault}
use Rattle.sem_mir.specs.Step.{set_register, slot_loaded, does, are_written, act}
use Rattle.mir_func.specs.Graph.{Program}
use Rattle.sem_mir.specs.Effects.{held_in, OnCore, EndAlike, SameWorld, FallsInto, AreHeldAlike, EffectsHold}
use Rattle.sem_mir.proofs.Places.{in_any, any_in, put_same, updated_same}
use Rattle.sem_mir.proofs.Outcomes.{alike_weaker}
use Rattle.sem_mir.proofs.Implicit.{AreImplicit, implicit}
use Rattle.sem_mir.proofs.Range.{IsWord}
use Rattle.sem_mir.proofs.InRange.{RowInRange, row_in_range}
use Rattle.sem_mir.proofs.Effects.{RowUses, RowDefines, Keeps, Agreeing, act_keeps, act_alike}

-- ---- what is defined

pub row_defines : (r : Row) (x : Place) → RowDefines r x → defines_of r x ≡ true
row_defines r (Register q) k = in_any q (sets r) k
row_defines (StoresSlot rs m) (Slot n) k = eq-eqb m n k
row_defines (Calls call) (Slot n) k = in_any n call.outgoing k
row_defines _ (Slot n) k = absurd k
row_defines r (Const z) k = absurd k

pub defines_row : (r : Row) (x : Place) → defines_of r x ≡ true → RowDefines r x
defines_row r (Register q) e = any_in q (sets r) e
defines_row (StoresSlot rs m) (Slot n) e = eqb-true m n e
defines_row (Calls call) (Slot n) e = any_in n call.outgoing e
defines_row _ (Slot n) e = cc
defines_row r (Const z) e = cc

is_not : {b : Bool} → b ≡ false → b ≡ true → ⊥
is_not e f = cc

keeps : (i : Instruction) (x : Place) (c : Core) → defines_of (row_of i) x ≡ false → OnCore (λ d. held_in x d ≡ held_in x c) (act (row_of i) c)
keeps i x c e = act_keeps x c (row_of i) (λ k. is_not e (row_defines (row_of i) x k))

-- ---- what is used

implicit_any : (q : ℕ) (os : List Operand) → Contains (implicit_uses os) q → list_any (is_implicit_use q) os ≡ true
implicit_any q [] k = absurd (omega (arith, k.1))
implicit_any q (ImplicitUse r ∷ os) k = by_test (λ h. or_right (nat_eq r q) (list_any (is_implicit_use q) os) (implicit_any q os h)) (nat_eq r 2) k where
  by_test : (Contains (implicit_uses os) q → (nat_eq r q || list_any (is_implicit_use q) os) ≡ true) → (z : Bool) →
      Contains (cond z (implicit_uses os) (r ∷ implicit_uses os)) q → (nat_eq r q || list_any (is_implicit_use q) os) ≡ true
  by_test later true k = later k
  by_test later false k =
      elim (cases_eq r q) as (λ _. (nat_eq r q || list_any (is_implicit_use q) os) ≡ true) [
        | inl e ↦ or_left (nat_eq r q) (list_any (is_implicit_use q) os) (eq-eqb r q e)
        | inr ne ↦ later (Contains-tail r (implicit_uses os) q ne k)
      ]
implicit_any q (GlobalRegisters ∷ os) k = or_right (is_global_register q) (list_any (is_implicit_use q) os) (implicit_any q os k)
implicit_any q (_ ∷ os) k = implicit_any q os k

only_one : (r q : ℕ) → Contains (r ∷ []) q → nat_eq q r ≡ true
only_one r q k = let h = in_any q (r ∷ []) k in by_test (nat_eq q r) h where
  by_test : (z : Bool) → (z || false) ≡ true → z ≡ true
  by_test true e = refl
  by_test false e = e

-- the callee's register is one that is read, and so are those behind it
callee_used : (q : ℕ) (callee : Callee) (rest : List ℕ) (b : Bool) → (Contains rest q → b ≡ true) → Contains (callee_reads callee ++ rest) q →
    (is_register q (callee_place callee) || false || b) ≡ true
callee_used q (Named name) rest b h k = h k
callee_used q (Held r) rest b h k =
    elim (cases_eq r q) as (λ _. (nat_eq q r || false || b) ≡ true) [
      | inl e ↦ rw (eq-eqb q r (sym e)) refl
      | inr ne ↦ or_right (nat_eq q r || false) b (h (Contains-tail r rest q ne k))
    ]

-- the registers that a row reads are those of its operands
register_used : (os : List Operand) (r : Row) (q : ℕ) → AreImplicit os r → Contains (reads r) q →
    (is_register q (first_use r) || is_register q (second_use r) || (has_implicit_uses r && list_any (is_implicit_use q) os)) ≡ true
register_used os (Moves rd rs) q a k = rw (only_one rs q k) refl
register_used os (Sets rd op a (Content b)) q h k =
    elim (cases_eq a q) as (λ _. (nat_eq q a || nat_eq q b || false) ≡ true) [
      | inl e ↦ rw (eq-eqb q a (sym e)) refl
      | inr ne ↦ rw (only_one b q (Contains-tail a (b ∷ []) q ne k)) (or_left (nat_eq q a || true) false (or_right (nat_eq q a) true refl))
    ]
register_used os (Sets rd op a (Number n)) q h k = rw (only_one a q k) refl
register_used os (Sets rd op a (PartOf half y)) q h k = rw (only_one a q k) refl
register_used os (Loads rd op (PointedBy b) o) q h k = rw (only_one b q k) refl
register_used os (Loads rd op (ObjectAt n) o) q h k = absurd (omega (arith, k.1))
register_used os (Loads rd op (BesidePart b y) o) q h k = rw (only_one b q k) refl
register_used os (Stores op rs (ObjectAt n) o) q h k = rw (only_one rs q k) refl
register_used os (Stores op rs (PointedBy b) o) q h k =
    elim (cases_eq rs q) as (λ _. (nat_eq q rs || nat_eq q b || false) ≡ true) [
      | inl e ↦ rw (eq-eqb q rs (sym e)) refl
      | inr ne ↦ rw (only_one b q (Contains-tail rs (b ∷ []) q ne k)) (or_left (nat_eq q rs || true) false (or_right (nat_eq q rs) true refl))
    ]
register_used os (Stores op rs (BesidePart b y) o) q h k =
    elim (cases_eq rs q) as (λ _. (nat_eq q rs || nat_eq q b || false) ≡ true) [
      | inl e ↦ rw (eq-eqb q rs (sym e)) refl
      | inr ne ↦ rw (only_one b q (Contains-tail rs (b ∷ []) q ne k)) (or_left (nat_eq q rs || true) false (or_right (nat_eq q rs) true refl))
    ]
register_used os (StoresSlot rs n) q h k = rw (only_one rs q k) refl
register_used os (Branches op a b t) q h k =
    elim (cases_eq a q) as (λ _. (nat_eq q a || nat_eq q b || false) ≡ true) [
      | inl e ↦ rw (eq-eqb q a (sym e)) refl
      | inr ne ↦ rw (only_one b q (Contains-tail a (b ∷ []) q ne k)) (or_left (nat_eq q a || true) false (or_right (nat_eq q a) true refl))
    ]
register_used os (Calls call) q h k =
    callee_used q call.callee call.args (list_any (is_implicit_use q) os) (λ m. implicit_any q os (subst (λ (qs : List ℕ). Contains qs q) h m)) k
register_used os (Returns ending) q h k = implicit_any q os (subst (λ (qs : List ℕ). Contains qs q) h k)
register_used os _ q h k = absurd (omega (arith, k.1))

pub row_uses : (i : Instruction) (x : Place) → RowUses (row_of i) x → uses_of i x ≡ true
row_uses i (Register q) k = register_used i.operands (row_of i) q (implicit i) k
row_uses i (Slot n) k = by_row (row_of i) refl k where
  by_row : (r : Row) → row_of i ≡ r → RowUses r (Slot n) → (names_slot (slot_read r) n || (has_implicit_uses r && list_any (is_outgoing n) i.operands)) ≡ true
  by_row (LoadsSlot rd m) e k = or_left (nat_eq m n) false (eq-eqb m n k)
  by_row (Calls call) e k = passed_by i call e n ∙ in_any n call.outgoing k
  by_row _ e k = absurd k
row_uses i (Const z) k = absurd k

alike : (i : Instruction) (c d : Core) → SameWorld c d → ((x : Place) → uses_of i x ≡ true → held_in x c ≡ held_in x d) →
    EndAlike (AreHeldAlike i c d) (act (row_of i) c) (act (row_of i) d)
alike i c d w u = alike_weaker (Agreeing (row_of i) c d) (AreHeldAlike i c d) weaker (act (row_of i) c) (act (row_of i) d)
    (act_alike (row_of i) c d w (λ x k. u x (row_uses i x k))) where
      weaker : (c' d' : Core) → Agreeing (row_of i) c d c' d' → AreHeldAlike i c d c' d'
      weaker c' d' h = (
        h.0,
        λ x k. h.1 x (elim k as (λ _. RowDefines (row_of i) x ⊎ (held_in x c ≡ held_in x d)) [
          | inl e ↦ inl (defines_row (row_of i) x e)
          | inr e ↦ inr e
        ]),
      )

-- ---- what is set, moved and fixed

by_register : (rd q : ℕ) → Contains (rd ∷ []) q → (Register q ≡ Register 0) ⊎ (place_set rd ≡ Some (Register q))
by_register zero q k = inl (ap Register (eqb-true q 0 (only_one 0 q k)))
by_register (suc r) q k = inr (ap (λ (z : ℕ). Some (Register z)) (sym (eqb-true q (suc r) (only_one (suc r) q k))))

-- but for calls and x0, the place that a row sets is the one that it defines
one_set : (r : Row) (x : Place) → calls r ≡ false → RowDefines r x → (x ≡ Register 0) ⊎ (set_by r ≡ Some x)
one_set (Fixes rd n) (Register q) e k = by_register rd q k
one_set (Moves rd rs) (Register q) e k = by_register rd q k
one_set (Sets rd op a b) (Register q) e k = by_register rd q k
one_set (Addresses rd n o) (Register q) e k = by_register rd q k
one_set (Loads rd op b o) (Register q) e k = by_register rd q k
one_set (LoadsSlot rd n) (Register q) e k = by_register rd q k
one_set (StoresSlot rs n) (Slot m) e k = inr (ap (λ (z : ℕ). Some (Slot z)) k)
one_set (Calls call) x e k = cc
one_set (Stores op rs b o) (Register q) e k = absurd (omega (arith, k.1))
one_set (StoresSlot rs n) (Register q) e k = absurd (omega (arith, k.1))
one_set (Branches op a b t) (Register q) e k = absurd (omega (arith, k.1))
one_set (Jumps t) (Register q) e k = absurd (omega (arith, k.1))
one_set (Returns v) (Register q) e k = absurd (omega (arith, k.1))
one_set Unfit (Register q) e k = absurd (omega (arith, k.1))
one_set _ (Slot m) e k = absurd k
one_set _ (Const z) e k = absurd k

sets_one : (i : Instruction) (x : Place) → calls (row_of i) ≡ false → defines_of (row_of i) x ≡ true → (x ≡ Register 0) ⊎ (set_by (row_of i) ≡ Some x)
sets_one i x e k = one_set (row_of i) x e (defines_row (row_of i) x k)

-- code that reads what isn't written stops, and the rest does as its row says
acts : (P : Outcome → Type 0) → P Traps → (r : Row) (c : Core) → (are_written c (reads r) ≡ true → P (does r c)) → P (act r c)
unfolding act
acts P t r c h = by_test (are_written c (reads r)) refl where
  by_test : (z : Bool) → are_written c (reads r) ≡ z → P (cond z (does r c) Traps)
  by_test true e = h e
  by_test false e = t

-- what a register holds that is written
is_held : (x : Option ℕ) → is_some x ≡ true → Some (or_zero x) ≡ x
is_held None e = cc
is_held (Some v) e = refl

first_held : (c : Core) (r : ℕ) → are_written c (r ∷ []) ≡ true → Some (read c r) ≡ content c.regs r
first_held c r e = is_held (content c.regs r) (and_left (is_some (content c.regs r)) true e) where
  and_left : (a b : Bool) → (a && b) ≡ true → a ≡ true
  and_left true b e = refl
  and_left false b e = e

set_holds : (rd v : ℕ) (to : Place) (c : Core) → place_set rd ≡ Some to → held_in to (set_register rd v c) ≡ Some v
set_holds zero v to c e = cc
set_holds (suc r) v to c e =
    let k : Register (suc r) ≡ to = cc in
    subst (λ (x : Place). held_in x (set_register (suc r) v c) ≡ Some v) k (put_same (suc r) v c.regs (λ z. cc))

row_moves : (r : Row) (from to : Place) (c : Core) → moved_by r ≡ Some from → set_by r ≡ Some to → are_written c (reads r) ≡ true →
    OnCore (λ d. held_in to d ≡ held_in from c) (does r c)
unfolding does
row_moves (Moves zero rs) from to c m s w = cc
row_moves (Moves (suc rd) rs) from to c m s w =
    let f : Register rs ≡ from = cc in
    subst (λ (x : Place). held_in to (set_register (suc rd) (read c rs) c) ≡ held_in x c) f (set_holds (suc rd) (read c rs) to c s ∙ first_held c rs w)
row_moves (LoadsSlot rd n) from to c m s w =
    let f : Slot n ≡ from = cc in
    subst (λ (x : Place). OnCore (λ d. held_in to d ≡ held_in x c) (slot_loaded rd c (c.slots n))) f (by_slot (c.slots n)) where
      by_slot : (x : Option ℕ) → OnCore (λ d. held_in to d ≡ x) (slot_loaded rd c x)
      by_slot None = tt
      by_slot (Some v) = set_holds rd v to c s
row_moves (StoresSlot rs n) from to c m s w =
    let f : Register rs ≡ from = cc in
    let t : Slot n ≡ to = cc in
    let d : Core = record c { slots = updated n (Some (read c rs)) c.slots } in
    subst (λ (x : Place). held_in to d ≡ held_in x c) f (subst (λ (x : Place). held_in x d ≡ content c.regs rs) t
    (updated_same n (Some (read c rs)) c.slots ∙ first_held c rs w))
row_moves _ from to c m s w = cc

moves : (i : Instruction) (from to : Place) (c : Core) → moved_by (row_of i) ≡ Some from → set_by (row_of i) ≡ Some to →
    OnCore (λ d. held_in to d ≡ held_in from c) (act (row_of i) c)
moves i from to c m s = acts (OnCore (λ d. held_in to d ≡ held_in from c)) tt (row_of i) c (λ w. row_moves (row_of i) from to c m s w)

-- 64 bits as a signed number, and back
word_signed : (n : ℕ) → IsWord n → word (signed n) ≡ n
word_signed n lt =
    elim (cases_lt n (2 ^ 63)) as (λ z. word (signed n) ≡ n) [
      | inl h ↦ rw (lt-ltb n (2 ^ 63) h) (omega (arith, h, lt))
      | inr h ↦ rw (le-ltb n (2 ^ 63) h) (omega (arith, h, lt))
    ]

row_fixes : (r : Row) (z : ℤ) (to : Place) (c : Core) → RowInRange r → constant_of r ≡ Some z → set_by r ≡ Some to →
    OnCore (λ d. held_in to d ≡ Some (word z)) (does r c)
unfolding does
row_fixes (Fixes rd n) z to c k e s =
    let f : signed n ≡ z = cc in
    set_holds rd n to c s ∙ ap Some (sym (word_signed n k)) ∙ ap (λ (y : ℤ). Some (word y)) f
row_fixes _ z to c k e s = cc

fixes : (i : Instruction) (z : ℤ) (to : Place) (c : Core) → constant_of (row_of i) ≡ Some z → set_by (row_of i) ≡ Some to →
    OnCore (λ d. held_in to d ≡ Some (word z)) (act (row_of i) c)
fixes i z to c e s = acts (OnCore (λ d. held_in to d ≡ Some (word z))) tt (row_of i) c (λ w. row_fixes (row_of i) z to c (row_in_range i) e s)

-- ---- pure code

same_world : (c : Core) → SameWorld c c
same_world c = record { entry = refl; area = refl; objects = refl; symbols = refl; memory = refl; script = refl; events = refl }

falls_either : (P : Core → Type 0) (b : Bool) (x y : Outcome) → FallsInto P x → FallsInto P y → FallsInto P (cond b x y)
falls_either P true x y h k = h
falls_either P false x y h k = k

row_pure : (r : Row) (c : Core) → is_pure r ≡ true → FallsInto (SameWorld c) (does r c)
unfolding does
row_pure (Loads rd op b o) c e =
    let a = address_at c b o in
    let d : Core = set_register rd (extended op (spelled c.memory a (load_width op))) c in
    falls_either (SameWorld c) (is_fault b c a (load_width op)) Traps (Falls d) tt (record {
      entry = refl;
      area = refl;
      objects = refl;
      symbols = refl;
      memory = refl;
      script = refl;
      events = refl;
    })
row_pure (LoadsSlot rd n) c e = by_slot (c.slots n) where
  by_slot : (x : Option ℕ) → FallsInto (SameWorld c) (slot_loaded rd c x)
  by_slot None = tt
  by_slot (Some v) = record { entry = refl; area = refl; objects = refl; symbols = refl; memory = refl; script = refl; events = refl }
row_pure Unfit c e = tt
row_pure (Stores op rs b o) c e = cc
row_pure (Branches op a b t) c e = cc
row_pure (Jumps t) c e = cc
row_pure (Calls call) c e = cc
row_pure (Returns v) c e = cc
row_pure _ c e = record { entry = refl; area = refl; objects = refl; symbols = refl; memory = refl; script = refl; events = refl }

pure : (i : Instruction) (c : Core) → is_pure (row_of i) ≡ true → FallsInto (SameWorld c) (act (row_of i) c)
pure i c e = acts (FallsInto (SameWorld c)) tt (row_of i) c (λ w. row_pure (row_of i) c e)

pub effects_hold : EffectsHold
effects_hold = record { defines = keeps; uses = alike; sets = sets_one; moves = moves; fixes = fixes; pure = pure }

-- ---- items

keeps_with : (x : Place) (c : Core) (k : Core → Core) → ((d : Core) → held_in x (k d) ≡ held_in x d) → (o : Outcome) → OnCore (Keeps x c) o →
    OnCore (Keeps x c) (with_core k o)
keeps_with x c k f (Falls d) h = f d ∙ h
keeps_with x c k f (Goes n d) h = f d ∙ h
keeps_with x c k f (Gives v) h = tt
keeps_with x c k f Traps h = tt
keeps_with x c k f Asks h = tt
keeps_with x c k f Breaks h = tt

numbers_keep : (x : Place) (sp call : Bool) (n : Option ℕ) (os : List Operand) (d : Core) → held_in x (numbered sp call n os d) ≡ held_in x d
numbers_keep (Register r) sp call None os d = refl
numbers_keep (Register r) sp call (Some n) os d = refl
numbers_keep (Slot k) sp call None os d = refl
numbers_keep (Slot k) sp call (Some n) os d = refl
numbers_keep (Const z) sp call n os d = refl

-- what an item doesn't define, stays: debug items define no place
pub item_keeps : (g : Program) (k : ItemKind) (x : Place) (c : Core) → (KindDefines k x → ⊥) → OnCore (Keeps x c) (do_item g k c)
item_keeps g (Code i n) x c ne =
    keeps_with x c (numbered g.sees_pointer (is_call (row_of i)) n i.operands) (λ d. numbers_keep x g.sees_pointer (is_call (row_of i)) n i.operands d)
    (act (row_of i) c) (act_keeps x c (row_of i) (λ k. ne (row_defines (row_of i) x k)))
item_keeps g (Mark v m) (Register r) c ne = refl
item_keeps g (Mark v m) (Slot n) c ne = refl
item_keeps g (Mark v m) (Const z) c ne = refl
item_keeps g (Phi p n) (Register r) c ne = refl
item_keeps g (Phi p n) (Slot k) c ne = refl
item_keeps g (Phi p n) (Const z) c ne = refl

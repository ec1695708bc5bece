-- Code in whose place a constant is set does the same, where what is known holds; and then what is known after it holds.
use Rattle.std.proofs.Common.{◌≡◌, ℕ, zero, suc, [], ◌∷◌, filter, Option, Some, None, Bool, true, false, cond, nat_eq, refl, sym, ap, ◌∙◌, subst}
use Rattle.std.proofs.lemmas.Bool.{eqb-true}
use Rattle.rv64_instr.specs.declared.place.Place.{Place}
use Rattle.rv64_instr.specs.declared.place.Place.TheVariants.{Register, Slot, Const}
use Rattle.rv64_instr.specs.Instruction.{Instruction}
use Rattle.rv64_instr.specs.Form.{has_form, is_implicit}
use Rattle.rv64_instr.specs.Row.{Row, Fixes, Moves, LoadsSlot, StoresSlot, row_of}
use Rattle.rv64_instr.specs.LocationEffects.{is_call, defines_of}
use Rattle.mir_func.specs.declared.item.ItemKind.{ItemKind}
use Rattle.mir_func.specs.declared.item.ItemKind.TheVariants.{Code, Mark, Phi}
use Rattle.mir_func.specs.Graph.{Program}
use Rattle.mir_func.specs.Sound.{HasForm}
use Rattle.sem_mir.specs.State.{Core, content, updated}
use Rattle.sem_mir.specs.Step.{Falls, Traps, act, does, are_written, or_zero, read, set_register, with_core, numbered, do_item}
use Rattle.sem_mir.specs.Effects.{held_in, OnCore}
use Rattle.sem_mir.proofs.Outcomes.{on_weaker}
use Rattle.sem_mir.proofs.Parts.{effects_hold}
use Rattle.sem_mir.proofs.Places.{updated_same}
use Rattle.pass_salvage.proofs.sem_agreement.Outcomes.{on_with, on_all, on_given, held_told, held_numbered}
use Rattle.remat_pass.specs.Known.{Known, number_in, with_register, with_slot, forgotten, learned, known_past}
use Rattle.remat_pass.specs.Remat.{constant_for, set_or_same, set_in}
use Rattle.remat_pass.proofs.Constants.{IsConstant, constant_zero, constant_of_form}
use Rattle.remat_pass.proofs.Replaced.{Replaced, same, moved, loaded, replaced}
use Rattle.remat_pass.proofs.Pairs.{numbered_replaced}

-- each number that is known can be set by one constant definition
abbrev pub AreConstants : Known → Type 0
AreConstants known = (x : Place) (n : ℕ) → known x ≡ Some n → IsConstant n

-- each place that is known holds its number
abbrev pub Holds : Known → Core → Type 0
Holds known d = (x : Place) (n : ℕ) → known x ≡ Some n → held_in x d ≡ Some n

pub holds_register : (known : Known) (d : Core) → Holds known d → (r n : ℕ) → number_in known r ≡ Some n → content d.regs r ≡ Some n
holds_register known d h zero n e = e
holds_register known d h (suc r) n e = h (Register (suc r)) n e

number_constant : (known : Known) → AreConstants known → (r n : ℕ) → number_in known r ≡ Some n → IsConstant n
number_constant known h zero n e = let w : 0 ≡ n = cc in subst IsConstant w constant_zero
number_constant known h (suc r) n e = h (Register (suc r)) n e

-- ---- the numbers that are known are constants

forgotten_constants : (r : Row) (known : Known) → AreConstants known → AreConstants (forgotten r known)
forgotten_constants r known h x n e = by_test (defines_of r x) e where
  by_test : (z : Bool) → cond z None (known x) ≡ Some n → IsConstant n
  by_test true e = cc
  by_test false e = h x n e

at_register : (rd : ℕ) (v : Option ℕ) (known : Known) → AreConstants known → ((n : ℕ) → v ≡ Some n → IsConstant n) → AreConstants (with_register rd v known)
at_register rd v known h k (Register q) n e = by_test (nat_eq rd q) e where
  by_test : (z : Bool) → cond z v (known (Register q)) ≡ Some n → IsConstant n
  by_test true e = k n e
  by_test false e = h (Register q) n e
at_register rd v known h k (Slot s) n e = h (Slot s) n e
at_register rd v known h k (Const c) n e = h (Const c) n e

at_slot : (s : ℕ) (v : Option ℕ) (known : Known) → AreConstants known → ((n : ℕ) → v ≡ Some n → IsConstant n) → AreConstants (with_slot s v known)
at_slot s v known h k (Register q) n e = h (Register q) n e
at_slot s v known h k (Slot t) n e = by_test (nat_eq s t) e where
  by_test : (z : Bool) → cond z v (known (Slot t)) ≡ Some n → IsConstant n
  by_test true e = k n e
  by_test false e = h (Slot t) n e
at_slot s v known h k (Const c) n e = h (Const c) n e

learned_constants : (r : Row) (known : Known) → ((rd n : ℕ) → r ≡ Fixes rd n → IsConstant n) → AreConstants known → AreConstants (learned r known)
learned_constants (Fixes zero n) known fixed h = h
learned_constants (Fixes (suc rd) n) known fixed h =
    at_register (suc rd) (Some n) known h (λ m e. (let w : n ≡ m = cc in subst IsConstant w (fixed (suc rd) n refl)))
learned_constants (StoresSlot rs s) known fixed h = at_slot s (number_in known rs) known h (λ m e. number_constant known h rs m e)
learned_constants _ known fixed h = h

fixed_constant : (known : Known) (i j : Instruction) → AreConstants known → has_form i.op i.operands ≡ true → Replaced known i j → (rd n : ℕ) →
    row_of j ≡ Fixes rd n → IsConstant n
fixed_constant known i j h f same rd n e = constant_of_form i f rd n e
fixed_constant known i j h f (moved {rd} {rs} {n} plain row w) r m e =
    let c = number_constant known h rs n w in
    let k : Fixes (suc rd) n ≡ Fixes r m = sym (c (suc rd) (filter is_implicit i.operands)) ∙ e in
    let v : n ≡ m = cc in
    subst IsConstant v c
fixed_constant known i j h f (loaded {rd} {s} {n} plain row w) r m e =
    let c = h (Slot s) n w in
    let k : Fixes rd n ≡ Fixes r m = sym (c rd (filter is_implicit i.operands)) ∙ e in
    let v : n ≡ m = cc in
    subst IsConstant v c

pub past_constants : (known : Known) (k : ItemKind) → AreConstants known → HasForm k → AreConstants (known_past (set_in known k) known)
past_constants known (Code i n) h f =
    let j = set_or_same (constant_for known i) i in
    learned_constants (row_of j) (forgotten (row_of j) known) (fixed_constant known i j h f (replaced known i)) (forgotten_constants (row_of j) known h)
past_constants known (Mark v m) h f = h
past_constants known (Phi p n) h f = h

-- ---- the places that are known hold their numbers

move_acts : (rd rs n : ℕ) (d : Core) → content d.regs rs ≡ Some n → act (Fixes rd n) d ≡ act (Moves rd rs) d
unfolding act does
move_acts rd rs n d e = rw e refl

load_acts : (rd s n : ℕ) (d : Core) → d.slots s ≡ Some n → act (Fixes rd n) d ≡ act (LoadsSlot rd s) d
unfolding act does
load_acts rd s n d e = rw e refl

act_replaced : (known : Known) (d : Core) → AreConstants known → Holds known d → (i j : Instruction) → Replaced known i j → act (row_of j) d ≡ act (row_of i) d
act_replaced known d k h i j same = refl
act_replaced known d k h i j (moved {rd} {rs} {n} plain row w) =
    ap (λ (r : Row). act r d) (number_constant known k rs n w (suc rd) (filter is_implicit i.operands)) ∙
    (move_acts (suc rd) rs n d (holds_register known d h rs n w) ∙ ap (λ (r : Row). act r d) (sym row))
act_replaced known d k h i j (loaded {rd} {s} {n} plain row w) =
    ap (λ (r : Row). act r d) (k (Slot s) n w rd (filter is_implicit i.operands)) ∙ (load_acts rd s n d (h (Slot s) n w) ∙ ap (λ (r : Row). act r d) (sym row))

-- the constant does what the code did
pub does_the_same : (g : Program) (known : Known) (d : Core) → AreConstants known → Holds known d → (k : ItemKind) → HasForm k →
    do_item g (set_in known k) d ≡ do_item g k d
does_the_same g known d c h (Code i n) f =
    let j = set_or_same (constant_for known i) i in
    let acts = act_replaced known d c h i j (replaced known i) in
    let numbers : (e : Core) → numbered g.sees_pointer (is_call (row_of j)) n j.operands e ≡ numbered g.sees_pointer (is_call (row_of i)) n i.operands e =
    numbered_replaced g.sees_pointer known i j n f (replaced known i) in
    λ t. with_core (λ e. numbers e t) (acts t)
does_the_same g known d c h (Mark v m) f = refl
does_the_same g known d c h (Phi p n) f = refl

forgotten_holds : (i : Instruction) (known : Known) (d : Core) → Holds known d → OnCore (Holds (forgotten (row_of i) known)) (act (row_of i) d)
forgotten_holds i known d h =
    on_weaker (λ e. (x : Place) → defines_of (row_of i) x ≡ false → held_in x e ≡ held_in x d) (Holds (forgotten (row_of i) known)) weaker (act (row_of i) d)
    (on_all (λ x e. defines_of (row_of i) x ≡ false → held_in x e ≡ held_in x d) (act (row_of i) d)
    (λ x. on_given (defines_of (row_of i) x ≡ false) (λ e. held_in x e ≡ held_in x d) (act (row_of i) d) (λ ne. effects_hold.defines i x d ne))) where
      weaker : (e : Core) → ((x : Place) → defines_of (row_of i) x ≡ false → held_in x e ≡ held_in x d) → Holds (forgotten (row_of i) known) e
      weaker e stays x n w = by_test (defines_of (row_of i) x) refl w where
        by_test : (z : Bool) → defines_of (row_of i) x ≡ z → cond z None (known x) ≡ Some n → held_in x e ≡ Some n
        by_test true t w = cc
        by_test false t w = stays x t ∙ h x n w

-- a register that was set
set_holds : (rd n : ℕ) (known : Known) (d : Core) → Holds known (set_register (suc rd) n d) →
    Holds (with_register (suc rd) (Some n) known) (set_register (suc rd) n d)
set_holds rd n known d h (Register q) m e = by_test (nat_eq (suc rd) q) refl e where
  by_test : (z : Bool) → nat_eq (suc rd) q ≡ z → cond z (Some n) (known (Register q)) ≡ Some m → held_in (Register q) (set_register (suc rd) n d) ≡ Some m
  by_test true t e =
      let is : suc rd ≡ q = eqb-true (suc rd) q t in
      subst (λ (r : ℕ). held_in (Register r) (set_register (suc rd) n d) ≡ Some m) is (updated_same (suc rd) (Some n) d.regs ∙ e)
  by_test false t e = h (Register q) m e
set_holds rd n known d h (Slot s) m e = h (Slot s) m e
set_holds rd n known d h (Const c) m e = h (Const c) m e

abbrev stores : (rs s : ℕ) → Core → Core
stores rs s d = record d { slots = updated s (Some (read d rs)) d.slots }

-- a slot that was stored into
stored_holds : (rs s : ℕ) (known : Known) (d : Core) → Holds known (stores rs s d) → Holds (with_slot s (number_in known rs) known) (stores rs s d)
stored_holds rs s known d h (Register q) m e = h (Register q) m e
stored_holds rs s known d h (Slot t) m e = by_test (nat_eq s t) refl e where
  by_test : (z : Bool) → nat_eq s t ≡ z → cond z (number_in known rs) (known (Slot t)) ≡ Some m → held_in (Slot t) (stores rs s d) ≡ Some m
  by_test true t' e =
      let is : s ≡ t = eqb-true s t t' in
      let c : content d.regs rs ≡ Some m = holds_register known (stores rs s d) h rs m e in
      subst (λ (n : ℕ). held_in (Slot n) (stores rs s d) ≡ Some m) is (updated_same s (Some (read d rs)) d.slots ∙ ap (λ (x : Option ℕ). Some (or_zero x)) c)
  by_test false t' e = h (Slot t) m e
stored_holds rs s known d h (Const c) m e = h (Const c) m e

learned_holds : (r : Row) (known : Known) (d : Core) → OnCore (Holds known) (act r d) → OnCore (Holds (learned r known)) (act r d)
unfolding act does
learned_holds (Fixes zero n) known d h = h
learned_holds (Fixes (suc rd) n) known d h = set_holds rd n known d h
learned_holds (StoresSlot rs s) known d h = by_written (are_written d (rs ∷ [])) h where
  by_written : (z : Bool) → OnCore (Holds known) (cond z (Falls (stores rs s d)) Traps) →
      OnCore (Holds (learned (StoresSlot rs s) known)) (cond z (Falls (stores rs s d)) Traps)
  by_written true h = stored_holds rs s known d h
  by_written false h = tt
learned_holds _ known d h = h

-- past an item what is known holds
pub holds_past : (g : Program) (known : Known) (k : ItemKind) (d : Core) → Holds known d → OnCore (Holds (known_past k known)) (do_item g k d)
holds_past g known (Code i n) d h =
    let now = learned (row_of i) (forgotten (row_of i) known) in
    on_with (Holds now) (Holds now) (numbered g.sees_pointer (is_call (row_of i)) n i.operands)
    (λ e k x m w. held_numbered x g.sees_pointer (is_call (row_of i)) n i.operands e ∙ k x m w) (act (row_of i) d)
    (learned_holds (row_of i) (forgotten (row_of i) known) d (forgotten_holds i known d h))
holds_past g known (Mark v m) d h = λ x n w. held_told x d.pairs _ d ∙ h x n w
holds_past g known (Phi p m) d h = λ x n w. held_told x _ d.marks d ∙ h x n w

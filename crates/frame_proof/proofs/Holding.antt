-- What the frame holds at a step, and what each kind of code does to it.
use Rattle.std.proofs.Common.{◌≡◌, ℕ, zero, suc, ◌+◌, ◌-◌, ◌%◌, ◌^◌, ◌<◌, ◌≤◌, pos, negsuc, ◌-ℤ◌, List, [], ◌∷◌, map, All, Contains, Some}
use Rattle.std.proofs.Common.{Bool, true, false, cond, nat_eq, nat_le, le-leb, ◌||◌, ◌&&◌, refl, sym, ap, ◌∙◌, subst, eq-eqb, arith}
use Rattle.std.specs.List.{list_any}
use Rattle.std.proofs.lemmas.List.Elements.{All-head, All-tail}
use Rattle.rv64_instr.specs.declared.place.Place.TheVariants.{Register, Slot}
use Rattle.rv64_instr.specs.Arithmetic.{word, computed}
use Rattle.rv64_instr.specs.Row.{Row, LoadsSlot, StoresSlot, Calls, row_of}
use Rattle.rv64_instr.specs.Row.{add_row}
use Rattle.rv64_instr.specs.DefsAndUses.{sets}
use Rattle.mir_func.specs.declared.framed.SavedRegister.{SavedRegister}
use Rattle.mir_func.specs.declared.item.ItemKind.{ItemKind}
use Rattle.mir_func.specs.declared.item.ItemKind.TheVariants.{Code, Mark, Phi}
use Rattle.mir_func.specs.Graph.{Program}
use Rattle.mir_func.specs.Sound.{SlotIn, SlotsIn}
use Rattle.mir_func.proofs.Passed.{slots_passed, passed_slots}
use Rattle.sem_mir.specs.State.{Core, content}
use Rattle.sem_mir.specs.Step.{Outcome, Falls, Goes, act, does, set_register, do_item}
use Rattle.sem_mir.specs.Live.{KindDefines}
use Rattle.sem_mir.specs.Effects.{OnCore}
use Rattle.sem_mir.proofs.Effects.{RowDefines, Keeps}
use Rattle.sem_mir.proofs.Parts.{defines_row, item_keeps}
use Rattle.frame_rule.specs.Rule.{slot_offset, renamed_kind, never_returns, sets_register}
use Rattle.frame_rule.proofs.Rows.{renamed_row, row_renamed}

-- x2's content, the registers that are in their places, and those that are as at entry
pub record Holds (e : Core) (x2 : ℕ) (InPlace : SavedRegister → Type 0) (Same : ℕ → Type 0) (d : Core) : Type 0 where
  pub pointer : content d.regs 2 ≡ Some x2
  pub places : (s : SavedRegister) → InPlace s → d.slots s.offset ≡ content e.regs s.register
  pub same : (r : ℕ) → Same r → content d.regs r ≡ content e.regs r

-- ---- arithmetic of x2

minus : (z : ℕ) → pos 0 -ℤ pos (suc z) ≡ negsuc z
minus z =
    let t : nat_le 1 (suc z) ≡ true = le-leb 1 (suc z) (omega arith) in
    let q : suc z - 1 ≡ z = omega arith in
    ap (λ (b : Bool). cond b (negsuc (suc z - 1)) (pos (0 - suc z))) t ∙ ap negsuc q

pub lowers_to : (entry size z : ℕ) → size ≡ suc z → size ≤ 2032 → 2048 ≤ entry → entry < 2 ^ 64 →
    (entry + word (pos 0 -ℤ pos size)) % 2 ^ 64 ≡ entry - size
lowers_to entry size z e small room top =
    let w : word (pos 0 -ℤ pos size) ≡ 2 ^ 64 - 1 - z % 2 ^ 64 = ap (λ (n : ℕ). word (pos 0 -ℤ pos n)) e ∙ ap word (minus z) in
    omega (arith, e, small, room, top, w)

pub raises_to : (entry size : ℕ) → size ≤ 2032 → 2048 ≤ entry → entry < 2 ^ 64 → ((entry - size) + word (pos size)) % 2 ^ 64 ≡ entry
raises_to entry size small room top = let w : word (pos size) ≡ size % 2 ^ 64 = refl in omega (arith, small, room, top, w)

-- `ADDI x2, x2, n` adds to x2
pub adds_to : (n : ℕ) (d : Core) (v : ℕ) → content d.regs 2 ≡ Some v → v < 2 ^ 64 → act (add_row 2 2 n) d ≡ Falls (set_register 2 ((v + n) % 2 ^ 64) d)
unfolding act does computed
adds_to zero d v e lt = let w : v ≡ (v + 0) % 2 ^ 64 = omega (arith, lt) in rw e (ap (λ (x : ℕ). Falls (set_register 2 x d)) w)
adds_to (suc n) d v e lt = rw e refl

-- ---- what items leave alone

pub not_any : (n : ℕ) (rs : List ℕ) → list_any (nat_eq n) rs ≡ false → Contains rs n → ⊥
not_any n [] h (k, lt, e) = absurd (omega (arith, lt))
not_any n (r ∷ rs) h c = by_test (nat_eq n r) refl h c (not_any n rs) where
  by_test : (b : Bool) → nat_eq n r ≡ b → (b || list_any (nat_eq n) rs) ≡ false → Contains (r ∷ rs) n → (list_any (nat_eq n) rs ≡ false → Contains rs n → ⊥) → ⊥
  by_test true w h c more = cc
  by_test false w h (zero, lt, e) more = let bad : false ≡ true = sym w ∙ eq-eqb n r (sym e) in cc
  by_test false w h (suc k, lt, e) more = more h (k, omega (arith, lt), e)

same_sets : (slots : List ℕ) (r : Row) → sets (renamed_row slots r) ≡ sets r
same_sets slots (LoadsSlot rd n) = refl
same_sets slots _ = refl

neither : (a b : Bool) → (a || b) ≡ false → a ≡ false
neither false b h = refl
neither true b h = h

-- an item sets a register only where the same item with its slots by number does
pub leaves_register : (slots : List ℕ) (k : ItemKind) (r : ℕ) → sets_register r k ≡ false → KindDefines (renamed_kind slots k) (Register r) → ⊥
leaves_register slots (Code i n) r none h =
    let row : RowDefines (renamed_row slots (row_of i)) (Register r) =
    subst (λ (z : Row). RowDefines z (Register r)) (row_renamed slots i) (defines_row _ (Register r) h) in
    let left = neither (list_any (nat_eq r) (sets (row_of i))) (nat_eq r 1 && never_returns (row_of i)) none in
    not_any r (sets (row_of i)) left (subst (λ (z : List ℕ). Contains z r) (same_sets slots (row_of i)) row)
leaves_register slots (Mark v m) r none h = h
leaves_register slots (Phi p n) r none h = h

row_leaves : (slots : List ℕ) (r : Row) (o : ℕ) → SlotIn slots r → All (Contains slots) (slots_passed r) →
    ((n : ℕ) → Contains slots n → slot_offset slots n ≡ o → ⊥) → RowDefines (renamed_row slots r) (Slot o) → ⊥
row_leaves slots (StoresSlot rs n) o j p far h = far n j h
row_leaves slots (Calls call) o j p far h = among call.outgoing p h where
  among : (ns : List ℕ) → All (Contains slots) ns → Contains (map (slot_offset slots) ns) o → ⊥
  among [] k (i, lt, e) = absurd (omega (arith, lt))
  among (n ∷ ns) k (zero, lt, e) = far n (All-head (Contains slots) n ns k) e
  among (n ∷ ns) k (suc i, lt, e) = among ns (All-tail (Contains slots) n ns k) (i, omega (arith, lt), e)
row_leaves slots _ o j p far h = h

-- and it stores to the offsets of declared slots alone
pub leaves_place : (slots : List ℕ) (k : ItemKind) (o : ℕ) → SlotsIn slots k → ((n : ℕ) → Contains slots n → slot_offset slots n ≡ o → ⊥) →
    KindDefines (renamed_kind slots k) (Slot o) → ⊥
leaves_place slots (Code i n) o j far h =
    row_leaves slots (row_of i) o j.0 (passed_slots slots i j.1) far
    (subst (λ (z : Row). RowDefines z (Slot o)) (row_renamed slots i) (defines_row _ (Slot o) h))
leaves_place slots (Mark v m) o j far h = h
leaves_place slots (Phi p n) o j far h = h

-- what an item leaves alone is held after it
pub still_holds : (g : Program) (k : ItemKind) (e : Core) (x2 : ℕ) (InPlace : SavedRegister → Type 0) (Same : ℕ → Type 0) (d : Core) →
    Holds e x2 InPlace Same d → (KindDefines k (Register 2) → ⊥) → ((s : SavedRegister) → InPlace s → KindDefines k (Slot s.offset) → ⊥) →
    ((r : ℕ) → Same r → KindDefines k (Register r) → ⊥) → OnCore (Holds e x2 InPlace Same) (do_item g k d)
still_holds g k e x2 InPlace Same d h two places same =
    by_outcome (do_item g k d) (item_keeps g k (Register 2) d two) (λ s j. item_keeps g k (Slot s.offset) d (places s j))
    (λ r j. item_keeps g k (Register r) d (same r j)) where
      held : (c : Core) → Keeps (Register 2) d c → ((s : SavedRegister) → InPlace s → Keeps (Slot s.offset) d c) →
          ((r : ℕ) → Same r → Keeps (Register r) d c) → Holds e x2 InPlace Same c
      held c a p q = record { pointer = a ∙ h.pointer; places = λ s j. p s j ∙ h.places s j; same = λ r j. q r j ∙ h.same r j }

      by_outcome : (x : Outcome) → OnCore (Keeps (Register 2) d) x → ((s : SavedRegister) → InPlace s → OnCore (Keeps (Slot s.offset) d) x) →
          ((r : ℕ) → Same r → OnCore (Keeps (Register r) d) x) → OnCore (Holds e x2 InPlace Same) x
      by_outcome (Falls c) a p q = held c a p q
      by_outcome (Goes n c) a p q = held c a p q
      by_outcome _ a p q = tt

-- Where the frame stands, the rules of its state find the values that registers had at the function's start.
use Rattle.std.specs.List.{list_any}
use Rattle.std.proofs.Common.{◌≡◌, ℕ, zero, suc, ◌+◌, ◌-◌, ◌%◌, ◌^◌, ◌<◌, ◌≤◌, Bool, true, false, not, cond, ◌||◌, nat_eq, List, [], ◌∷◌, length, get_or}
use Rattle.std.proofs.Common.{All, Contains}
use Rattle.std.proofs.Common.{Option, Some, None, IsSome, replicate, refl, sym, ap, ◌∙◌, arith, eqb-true, eq-eqb}
use Rattle.std.proofs.lemmas.Bool.{true≢false, ne_eqb}
use Rattle.std.proofs.lemmas.List.Elements.{All-cons, All-weaker, All-contains, All-contains_itself, All-from_recursion}
use Rattle.mir_func.specs.declared.framed.SavedRegister.{SavedRegister}
use Rattle.mir_func.specs.declared.position.Pos.{Pos}
use Rattle.mir_func.specs.Function.{FramedFunction}
use Rattle.mir_func.specs.SoundFrame.{SAVED, IsFramed, IsSlotOffset}
use Rattle.sem_mir.specs.State.{Core, content, spelled}
use Rattle.sem_mir.specs.Step.{or_zero}
use Rattle.sem_machine.specs.Headline.{KEPT}
use Rattle.sem_machine.specs.Machine.{Machine, register}
use Rattle.machine_steps_proof.specs.Beside.{frame_low}
use Rattle.frame_proof.specs.Stands.{is_as_found, frame_state}
use Rattle.dwarf_frame.specs.declared.table.FrameRow.{FrameRow}
use Rattle.dwarf_frame.specs.declared.table.RegisterRule.{RegisterRule}
use Rattle.dwarf_frame.specs.declared.table.RegisterRule.TheVariants.{SameValue, Below, FrameAddress, Undefined}
use Rattle.dwarf_frame.specs.Rows.{rule_of, rules_from, unwinding}
use Rattle.dwarf_frame.specs.Table.{none_saved}
use Rattle.frame_table.specs.Table.{distance_in, distances_from, frame_row}
use Rattle.frame_table.proofs.Said.{IsGood, all_good, said}
use Rattle.frame_table.proofs.Standing.{state}
use Rattle.frame_theorem.specs.Unwinding.{frame_address, found_by, found}
use Rattle.frame_theorem.specs.Laws.{SparesKept, BeginsWith, StandsBeside, StandingUnwinds}

-- ---- the rule of a register

rules_at : (undefined : List ℕ) (saved : List (Option ℕ)) (register k : ℕ) → k < length saved
    → get_or (rules_from undefined register saved) k Undefined ≡ rule_of undefined (register + k) (get_or saved k None)
rules_at undefined [] register k inside = absurd (omega (arith, inside))
rules_at undefined (o ∷ saved) register zero inside = ap (λ n. rule_of undefined n o) (omega arith)
rules_at undefined (o ∷ saved) register (suc k) inside =
    rules_at undefined saved (suc register) k (omega (arith, inside)) ∙ ap (λ n. rule_of undefined n (get_or saved k None)) (omega arith)

distance_at : (f : FramedFunction) (register count k : ℕ) → k < count
    → get_or (distances_from f register count) k None ≡ distance_in f.size f.saved (register + k)
distance_at f register zero k inside = absurd (omega (arith, inside))
distance_at f register (suc count) zero inside = ap (distance_in f.size f.saved) (omega arith)
distance_at f register (suc count) (suc k) inside =
    distance_at f (suc register) count k (omega (arith, inside)) ∙ ap (distance_in f.size f.saved) (omega arith)

not_lost : (undefined : List ℕ) (r : ℕ) → (Contains undefined r → ⊥) → list_any (λ lost. nat_eq lost r) undefined ≡ false
not_lost [] r none = refl
not_lost (u ∷ undefined) r none = by (not_lost undefined r (λ c. none (suc c.0, omega (arith, c.1), c.2))) (nat_eq u r) refl where
  by : list_any (λ lost. nat_eq lost r) undefined ≡ false → (b : Bool) → nat_eq u r ≡ b
      → (b || list_any (λ lost. nat_eq lost r) undefined) ≡ false
  by rest true same = absurd (none (0, omega arith, eqb-true u r same))
  by rest false other = rest

kept_rule : (undefined : List ℕ) (r : ℕ) → (r ≡ 2 → ⊥) → (Contains undefined r → ⊥) → rule_of undefined r None ≡ SameValue
kept_rule undefined r ne none =
    ap (λ b. cond b FrameAddress (cond (list_any (λ lost. nat_eq lost r) undefined) Undefined SameValue)) (ne_eqb r 2 ne)
    ∙ ap (λ b. cond b Undefined SameValue) (not_lost undefined r none)

abbrev nothing : Option ℕ
nothing = None

nowhere_at : (count k : ℕ) → get_or (replicate count nothing) k nothing ≡ nothing
nowhere_at zero k = refl
nowhere_at (suc count) zero = refl
nowhere_at (suc count) (suc k) = nowhere_at count k

written_value : (x : Option ℕ) → IsSome x → (v : ℕ) × (x ≡ Some v)
written_value None is = cc
written_value (Some v) is = (v, refl)

-- ---- where it is saved

-- a register is saved at a distance, or isn't saved
data IsPlaced (f : FramedFunction) (saved : List SavedRegister) (r : ℕ) : Type 0 where
  at : (s : SavedRegister) → Contains saved s → s.register ≡ r → distance_in f.size saved r ≡ Some (f.size - s.offset) → IsPlaced f saved r
  nowhere : ((s : SavedRegister) → Contains saved s → s.register ≡ r → ⊥) → distance_in f.size saved r ≡ None → IsPlaced f saved r

placed : (f : FramedFunction) (saved : List SavedRegister) (r : ℕ) → IsPlaced f saved r
placed f [] r = nowhere (λ s among same. absurd (omega (arith, among.1))) refl
placed f (s ∷ saved) r = by (nat_eq s.register r) refl (placed f saved r) where
  choice : Bool → Option ℕ
  choice b = cond b (Some (f.size - s.offset)) (distance_in f.size saved r)

  by : (b : Bool) → nat_eq s.register r ≡ b → IsPlaced f saved r → IsPlaced f (s ∷ saved) r
  by true same rest = at s (0, omega arith, refl) (eqb-true s.register r same) (ap choice same)
  by false other (at q among is distance) = at q (suc among.0, omega (arith, among.1), among.2) is (ap choice other ∙ distance)
  by false other (nowhere none distance) = nowhere (λ q among is. no_one q among is) (ap choice other ∙ distance) where
    no_one : (q : SavedRegister) → Contains (s ∷ saved) q → q.register ≡ r → ⊥
    no_one q (zero, inside, same) is = true≢false (sym (eq-eqb s.register r (ap (λ (x : SavedRegister). x.register) same ∙ is)) ∙ other)
    no_one q (suc k, inside, same) is = none q (k, omega (arith, inside), same) is

-- ---- what the rules find

pub below_32 : (r : ℕ) → Contains SAVED r → r < 32
below_32 r (k, inside, is) = grind (arith, k, inside, is)

no_two : (r : ℕ) → Contains SAVED r → r ≡ 2 → ⊥
no_two r (k, inside, is) same = grind (arith, k, inside, is, same)

low_state : (f : FramedFunction) (p : Pos) → (frame_state f p).lowered ≤ f.size
low_state f p = by (is_as_found f p) where
  by : (b : Bool) → (cond b (state 0 false) (state f.size (not (nat_eq p.block 0)))).lowered ≤ f.size
  by true = omega arith
  by false = omega arith

module _ (undefined : List ℕ) (spares : SparesKept undefined) (f : FramedFunction) (framed : IsFramed f) (e : Core) (m0 : Machine) (begins : BeginsWith e m0)
    (p : Pos) (m : Machine) (is : StandsBeside f e p m) where
  abbrev row : FrameRow
  row = frame_row f (frame_state f p)

  abbrev Finds : ℕ → Type 0
  Finds r = found (unwinding undefined row) m r ≡ Some (register m0 r)

  rule_is : (r : ℕ) → r < 32 → get_or (unwinding undefined row).registers r Undefined ≡ rule_of undefined r (get_or row.saved r None)
  rule_is r small =
      let count : length row.saved ≡ 32 = (said f framed p).are.registers in
      let from : 0 + r ≡ r = omega arith in
      rules_at undefined row.saved 0 r (omega (arith, small, count)) ∙ ap (λ n. rule_of undefined n (get_or row.saved r None)) from

  pointer_is : register m 2 + row.cfa_offset ≡ e.entry
  pointer_is =
      let at : register m 2 ≡ e.entry - (frame_state f p).lowered = is.beside.regs 2 ∙ ap or_zero is.stands.pointer in
      let low = low_state f p in
      omega (arith, at, low, framed.small, begins.entered.room)

  address_is : frame_address (unwinding undefined row) m ≡ e.entry
  address_is = let sum = pointer_is in ap (λ n. n % 2 ^ 64) sum ∙ omega (arith, begins.entered.top)

  found_as : (r : ℕ) (rule : RegisterRule) → get_or (unwinding undefined row).registers r Undefined ≡ rule → found_by rule e.entry m r ≡ Some (register m0 r)
      → Finds r
  found_as r rule same finds =
      ap (λ x. found_by x (frame_address (unwinding undefined row) m) m r) same ∙ ap (λ a. found_by rule a m r) address_is ∙ finds

  finds_pointer : Finds 2
  finds_pointer =
      found_as 2 FrameAddress (rule_is 2 (omega arith) ∙ ap (rule_of undefined 2) (said f framed p).are.pointer)
      (ap Some (sym (begins.registers 2 ∙ ap or_zero begins.entered.pointer)))

  -- a register that isn't saved is as at the start
  finds_same : (r : ℕ) → Contains SAVED r → get_or row.saved r None ≡ None → content is.core.regs r ≡ content e.regs r → Finds r
  finds_same r among none same =
      found_as r SameValue
      (rule_is r (below_32 r among) ∙ ap (rule_of undefined r) none
      ∙ kept_rule undefined r (no_two r among) (All-contains (λ x. Contains undefined x → ⊥) SAVED r spares among))
      (ap Some (is.beside.regs r ∙ ap or_zero same ∙ sym (begins.registers r)))

  -- and one that is saved is in its slot
  finds_saved : (r : ℕ) → Contains SAVED r → (s : SavedRegister) → Contains f.saved s → s.register ≡ r → get_or row.saved r None ≡ Some (f.size - s.offset)
      → is.core.slots s.offset ≡ content e.regs s.register → Finds r
  finds_saved r among s listed same placed slot =
      let v = written_value (content e.regs r) (begins.written r among) in
      let offset : IsSlotOffset f s.offset = (All-contains (IsGood f) f.saved s (All-from_recursion (IsGood f) f.saved (all_good f framed)) listed).offset in
      let holds : is.core.slots s.offset ≡ Some v.0 = slot ∙ ap (content e.regs) same ∙ v.1 in
      let spells : v.0 ≡ spelled m.memory (frame_low f is.core + s.offset) 8 = is.beside.slots s.offset v.0 offset holds in
      let address : ((e.entry + 2 ^ 64) - (f.size - s.offset)) % 2 ^ 64 ≡ frame_low f is.core + s.offset =
      omega (arith, is.entry, offset.1, framed.small, begins.entered.room, begins.entered.top) in
      found_as r (Below (f.size - s.offset)) (rule_is r (below_32 r among) ∙ ap (rule_of undefined r) placed)
      (ap (λ a. Some (spelled m.memory a 8)) address ∙ ap Some (sym spells) ∙ ap Some (sym (begins.registers r ∙ ap or_zero v.1)))

  finds_kept : (r : ℕ) → Contains SAVED r → Finds r
  finds_kept r among = by (frame_state f p).saved refl where
    not_saved : (frame_state f p).saved ≡ false → get_or row.saved r None ≡ None
    not_saved none = ap (λ b. get_or (cond b (distances_from f 0 32) none_saved) r None) none ∙ nowhere_at 32 r

    saved_at : (frame_state f p).saved ≡ true → get_or row.saved r None ≡ distance_in f.size f.saved r
    saved_at some =
        let from : 0 + r ≡ r = omega arith in
        ap (λ b. get_or (cond b (distances_from f 0 32) none_saved) r None) some ∙ distance_at f 0 32 r (below_32 r among)
        ∙ ap (distance_in f.size f.saved) from

    by_place : (frame_state f p).saved ≡ true → IsPlaced f f.saved r → Finds r
    by_place some (at s listed same distance) = finds_saved r among s listed same (saved_at some ∙ distance) (is.stands.in_places some s listed)
    by_place some (nowhere none distance) =
        finds_same r among (saved_at some ∙ distance) (is.stands.others some r among (λ found_in. none found_in.0 found_in.1 found_in.2))

    by : (b : Bool) → (frame_state f p).saved ≡ b → Finds r
    by true some = by_place some (placed f f.saved r)
    by false none = finds_same r among (not_saved none) (is.stands.kept none r among)

  pub finds : All (λ r. found (unwinding undefined (frame_row f (frame_state f p))) m r ≡ Some (register m0 r)) KEPT
  finds = All-cons Finds 2 SAVED finds_pointer (All-weaker (Contains SAVED) Finds finds_kept SAVED (All-contains_itself SAVED))

pub standing_unwinds : StandingUnwinds
standing_unwinds undefined spares f framed e m0 begins p m is = finds undefined spares f framed e m0 begins p m is

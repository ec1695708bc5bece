-- A core of the function beside one of the function with spilled registers, and what one item keeps of it.
--
-- Registers that aren't touched, and the slots that were there, are alike. What a new slot holds is what its register holds; and where
-- the register is live, the slot holds it. A register that is owed to its slot is exempt. Code does alike in both where the registers
-- that it reads are loaded.
use Rattle.std.proofs.Common.{◌≡◌, ◌⊎◌, ℕ, zero, suc, List, [], ◌∷◌, map, Contains, Option, Some, None, Bool, true, false, cond, nat_eq, refl, sym, ap, ◌∙◌}
use Rattle.std.proofs.Common.{subst, inl, inr, eq-eqb, ne_eqb, slice_get, arith, All}
use Rattle.std.specs.List.{list_any}
use Rattle.std.specs.Prelude.{◌++◌, ◌&&◌, is_some}
use Rattle.std.proofs.lemmas.Bool.{cases_eq, or_left, or_right}
use Rattle.std.proofs.lemmas.List.Elements.{All-contains}
use Rattle.rv64_instr.specs.declared.operand.Operand.{Operand}
use Rattle.rv64_instr.specs.declared.operand.Operand.TheVariants.{Def, Use, ImplicitDef, ImplicitUse}
use Rattle.rv64_instr.specs.declared.place.Place.{Place}
use Rattle.rv64_instr.specs.declared.place.Place.TheVariants.{Register, Slot, Const}
use Rattle.rv64_instr.specs.declared.start.CallTarget.TheVariants.{Address}
use Rattle.rv64_instr.specs.DefsAndUses.{caller_saved, reads, sets, callee_reads, way_reads}
use Rattle.rv64_instr.specs.Instruction.{Instruction}
use Rattle.rv64_instr.specs.LocationEffects.{has_implicit_uses, names_slot, slot_read, slot_set}
use Rattle.rv64_instr.specs.Row.{Row, Fixes, Moves, Sets, Addresses, Loads, LoadsSlot, StoresSlot, Calls, Returns, row_of}
use Rattle.rv64_instr.specs.Row.{implicit_uses, Callee, Named, Held}
use Rattle.mir_func.specs.declared.position.Origin.{Origin}
use Rattle.mir_func.specs.declared.variable.VarId.{VarId}
use Rattle.mir_func.specs.declared.item.ItemKind.TheVariants.{Code}
use Rattle.mir_func.specs.Sound.{SlotIn, SlotsIn}
use Rattle.mir_func.proofs.Passed.{slots_passed, passed_slots}
use Rattle.sem_mir.specs.Effects.{held_in, OnCore, EndAlike, SameWorld}
use Rattle.sem_mir.specs.State.{Core, content, assigned}
use Rattle.sem_mir.specs.Step.{Outcome, Falls, Goes, Gives, Traps, Asks, Breaks, act, with_core, seen, defined, given, or_zero, called_at, are_written}
use Rattle.sem_mir.proofs.Effects.{RowUses, RowDefines, Agreeing, told_by, act_apart, act_keeps, act_alike}
use Rattle.sem_mir.proofs.Implicit.{AreImplicit, implicit}
use Rattle.sem_mir.proofs.Outcomes.{alike_weaker}
use Rattle.sem_mir.proofs.Places.{contains_head, contains_tail}
use Rattle.sem_mir.proofs.Told.{Below}
use Rattle.spill_code.specs.declared.spilling.Spilling.{Spilling}
use Rattle.spill_code.specs.Rewrite.{slot_of, use_now, set_in, def_now, stand_in, renamed_operand}
use Rattle.spill_simulation.specs.MaySpill.{defs_in, implicits_in, IsNoScratch, IsUntouched, FitsCode, AreHomes}
use Rattle.spill_simulation.proofs.Acting.{SetsZero, Made, ReadsAlike, act_renamed}
use Rattle.spill_simulation.proofs.Called.{call_alike}
use Rattle.spill_simulation.proofs.Explicit.{explicit_reads, plain_reads}
use Rattle.spill_simulation.proofs.Rows.{KeepsZero, renamed_row, renamed_callee}

pub none_in : (q : ℕ) → Contains [] q → ⊥
none_in q (k, lt, e) = absurd (omega (arith, lt))

-- a number is in a list or not
pub cases_in : (xs : List ℕ) (q : ℕ) → Contains xs q ⊎ (Contains xs q → ⊥)
cases_in [] q = inr (none_in q)
cases_in (x ∷ xs) q =
    elim (cases_eq x q) as (λ _. Contains (x ∷ xs) q ⊎ (Contains (x ∷ xs) q → ⊥)) [
      | inl e ↦ inl (subst (λ (z : ℕ). Contains (x ∷ xs) z) e (contains_head x xs))
      | inr ne ↦ elim (cases_in xs q) as (λ _. Contains (x ∷ xs) q ⊎ (Contains (x ∷ xs) q → ⊥)) [
        | inl k ↦ inl (contains_tail x q xs k)
        | inr out ↦ inr (not_either ne out)
      ]
    ] where
      not_either : (x ≡ q → ⊥) → (Contains xs q → ⊥) → Contains (x ∷ xs) q → ⊥
      not_either ne out (zero, lt, e) = ne e
      not_either ne out (suc k, lt, e) = out (k, omega (arith, lt), e)

-- ---- outcomes

pub alike_and : (R : Core → Core → Type 0) (P Q : Core → Type 0) (x y : Outcome) → EndAlike R x y → OnCore P x → OnCore Q y →
    EndAlike (λ c d. R c d × P c × Q d) x y
alike_and R P Q (Falls c) (Falls d) h p q = (h, p, q)
alike_and R P Q (Goes m c) (Goes n d) h p q = (h.0, (h.1, p, q))
alike_and R P Q (Gives v) (Gives w) h p q = h
alike_and R P Q Traps Traps h p q = tt
alike_and R P Q Asks Asks h p q = tt
alike_and R P Q Breaks Breaks h p q = tt
alike_and R P Q _ _ h p q = absurd h

on_all : (I : Type 0) (P : I → Core → Type 0) (x : Outcome) → ((j : I) → OnCore (P j) x) → OnCore (λ c. (j : I) → P j c) x
on_all I P (Falls c) h = h
on_all I P (Goes n c) h = h
on_all I P (Gives v) h = tt
on_all I P Traps h = tt
on_all I P Asks h = tt
on_all I P Breaks h = tt

pub on_both : (P Q : Core → Type 0) (x : Outcome) → OnCore P x → OnCore Q x → OnCore (λ c. P c × Q c) x
on_both P Q (Falls c) p q = (p, q)
on_both P Q (Goes n c) p q = (p, q)
on_both P Q (Gives v) p q = tt
on_both P Q Traps p q = tt
on_both P Q Asks p q = tt
on_both P Q Breaks p q = tt

-- pairs and marks stay
abbrev pub Untold : Core → Core → Type 0
Untold c e = (e.pairs ≡ c.pairs) × (e.marks ≡ c.marks)

pub act_untold : (r : Row) (c : Core) → OnCore (Untold c) (act r c)
act_untold r c = by_outcome (act r c) (act_apart c.pairs c.marks r c) where
  by_core : (e : Core) → e ≡ told_by c.pairs c.marks e → Untold c e
  by_core e k = (ap (λ (z : Core). z.pairs) k, ap (λ (z : Core). z.marks) k)

  by_outcome : (x : Outcome) → x ≡ with_core (told_by c.pairs c.marks) x → OnCore (Untold c) x
  by_outcome (Falls e) k = let w : e ≡ told_by c.pairs c.marks e = cc in by_core e w
  by_outcome (Goes t e) k = let w : e ≡ told_by c.pairs c.marks e = cc in by_core e w
  by_outcome (Gives v) k = tt
  by_outcome Traps k = tt
  by_outcome Asks k = tt
  by_outcome Breaks k = tt

-- what a row doesn't set, stays: all at once
abbrev pub Kept : Row → Core → Core → Type 0
Kept r c e = (x : Place) → (RowDefines r x → ⊥) → held_in x e ≡ held_in x c

keeps_unless : (r : Row) (c : Core) (x : Place) → OnCore (λ e. (RowDefines r x → ⊥) → held_in x e ≡ held_in x c) (act r c)
keeps_unless r c x = by_outcome (act r c) (act_keeps x c r) where
  by_outcome : (y : Outcome) → ((RowDefines r x → ⊥) → OnCore (λ e. held_in x e ≡ held_in x c) y) →
      OnCore (λ e. (RowDefines r x → ⊥) → held_in x e ≡ held_in x c) y
  by_outcome (Falls e) h = h
  by_outcome (Goes t e) h = h
  by_outcome (Gives v) h = tt
  by_outcome Traps h = tt
  by_outcome Asks h = tt
  by_outcome Breaks h = tt

pub act_kept : (r : Row) (c : Core) → OnCore (Kept r c) (act r c)
act_kept r c = on_all Place (λ x e. (RowDefines r x → ⊥) → held_in x e ≡ held_in x c) (act r c) (keeps_unless r c)

pub slot_defined_row : (r : Row) (n : ℕ) → has_implicit_uses r ≡ false → RowDefines r (Slot n) → slot_set r ≡ Some n
slot_defined_row (StoresSlot rs m) n i k = ap Some k
slot_defined_row (Calls call) n i k = cc
slot_defined_row _ n i k = absurd k

-- a row with other registers sets the same slots
pub slots_renamed : (u d : ℕ → ℕ) (r : Row) (n : ℕ) → RowDefines (renamed_row u d r) (Slot n) → RowDefines r (Slot n)
slots_renamed u d (StoresSlot rs m) n k = k
slots_renamed u d (Calls call) n k = k
slots_renamed u d _ n k = absurd k

-- the slots that a row sets, and those that it reads, are among those that it names
slot_set_in : (slots : List ℕ) (r : Row) (n : ℕ) → SlotIn slots r → All (Contains slots) (slots_passed r) → RowDefines r (Slot n) → Contains slots n
slot_set_in slots (StoresSlot rs m) n h passed k = subst (λ (x : ℕ). Contains slots x) k h
slot_set_in slots (Calls call) n h passed k = All-contains (Contains slots) call.outgoing n passed k
slot_set_in slots _ n h passed k = absurd k

slot_used_in : (slots : List ℕ) (r : Row) (n : ℕ) → SlotIn slots r → All (Contains slots) (slots_passed r) → RowUses r (Slot n) → Contains slots n
slot_used_in slots (LoadsSlot rd m) n h passed k = subst (λ (x : ℕ). Contains slots x) k h
slot_used_in slots (Calls call) n h passed k = All-contains (Contains slots) call.outgoing n passed k
slot_used_in slots _ n h passed k = absurd k

slot_read_in : (slots : List ℕ) (r : Row) (n : ℕ) → SlotIn slots r → slot_read r ≡ Some n → Contains slots n
slot_read_in slots (LoadsSlot rd m) n h e = let z : m ≡ n = cc in subst (λ (x : ℕ). Contains slots x) z h
slot_read_in slots _ n h e = cc

pub sets_renamed : (u d : ℕ → ℕ) (r : Row) → has_implicit_uses r ≡ false → (q : ℕ) → Contains (sets (renamed_row u d r)) q →
    (p : ℕ) × Contains (sets r) p × (q ≡ d p)
sets_renamed u d r i q k = by_row r i k where
  one : (rd : ℕ) → Contains (d rd ∷ []) q → (p : ℕ) × Contains (rd ∷ []) p × (q ≡ d p)
  one rd (zero, lt, e) = (rd, contains_head rd [], sym e)
  one rd (suc j, lt, e) = absurd (omega (arith, lt))

  by_row : (r : Row) → has_implicit_uses r ≡ false → Contains (sets (renamed_row u d r)) q → (p : ℕ) × Contains (sets r) p × (q ≡ d p)
  by_row (Fixes rd n) i k = one rd k
  by_row (Moves rd rs) i k = one rd k
  by_row (Sets rd op a b) i k = one rd k
  by_row (Addresses rd n o) i k = one rd k
  by_row (Loads rd op b o) i k = one rd k
  by_row (LoadsSlot rd n) i k = one rd k
  by_row (Calls call) i k = cc
  by_row (Returns v) i k = cc
  by_row _ i k = absurd (none_in q k)

-- what isn't read explicitly
pub uses_implicit : (os : List Operand) (q : ℕ) → Contains (implicit_uses os) q → Contains (implicits_in os) q
uses_implicit [] q k = k
uses_implicit (ImplicitUse r ∷ os) q k = by_test (nat_eq r 2) (λ j. uses_implicit os q j) k where
  by_test : (b : Bool) → (Contains (implicit_uses os) q → Contains (implicits_in os) q) → Contains (cond b (implicit_uses os) (r ∷ implicit_uses os)) q →
      Contains (r ∷ implicits_in os) q
  by_test true more k = contains_tail r q (implicits_in os) (more k)
  by_test false more (zero, lt, e) = subst (λ (z : ℕ). Contains (r ∷ implicits_in os) z) e (contains_head r (implicits_in os))
  by_test false more (suc j, lt, e) = contains_tail r q (implicits_in os) (more (j, omega (arith, lt), e))
uses_implicit (ImplicitDef r ∷ os) q k = contains_tail r q (implicits_in os) (uses_implicit os q k)
uses_implicit (_ ∷ os) q k = uses_implicit os q k

-- the registers that a row reads by implicit operands
abbrev pub implicit_reads : Row → List ℕ
implicit_reads (Calls call) = call.args
implicit_reads (Returns v) = way_reads v.way ++ v.values
implicit_reads _ = []

-- they are implicit uses
pub implicit_used : (r : Row) (os : List Operand) (q : ℕ) → AreImplicit os r → Contains (implicit_reads r) q → Contains (implicit_uses os) q
implicit_used (Calls call) os q e k = subst (λ (xs : List ℕ). Contains xs q) e k
implicit_used (Returns v) os q e k = subst (λ (xs : List ℕ). Contains xs q) e k
implicit_used _ os q e k = absurd (none_in q k)

pub reads_implicit : (r : Row) (os : List Operand) (q : ℕ) → AreImplicit os r → Contains (implicit_reads r) q → Contains (implicits_in os) q
reads_implicit r os q e k = uses_implicit os q (implicit_used r os q e k)

-- a row reads by explicit operands or by implicit ones
pub reads_either : (r : Row) (q : ℕ) → Contains (reads r) q → Contains (explicit_reads r) q ⊎ Contains (implicit_reads r) q
reads_either (Calls call) q k = by_callee call.callee k where
  by_callee : (callee : Callee) → Contains (callee_reads callee ++ call.args) q → Contains (callee_reads callee) q ⊎ Contains call.args q
  by_callee (Named name) k = inr k
  by_callee (Held r) (zero, lt, e) = inl (subst (λ (z : ℕ). Contains (r ∷ []) z) e (contains_head r []))
  by_callee (Held r) (suc j, lt, e) = inr (j, omega (arith, lt), e)
reads_either (Returns v) q k = inr k
reads_either _ q k = inl k

pub explicit_read : (r : Row) (q : ℕ) → Contains (explicit_reads r) q → Contains (reads r) q
explicit_read (Calls call) q k = by_callee call.callee k where
  by_callee : (callee : Callee) → Contains (callee_reads callee) q → Contains (callee_reads callee ++ call.args) q
  by_callee (Named name) k = absurd (none_in q k)
  by_callee (Held r) (zero, lt, e) = subst (λ (z : ℕ). Contains (r ∷ call.args) z) e (contains_head r call.args)
  by_callee (Held r) (suc j, lt, e) = absurd (omega (arith, lt))
explicit_read (Returns v) q k = absurd (none_in q k)
explicit_read _ q k = k

pub implicit_read : (r : Row) (q : ℕ) → Contains (implicit_reads r) q → Contains (reads r) q
implicit_read (Calls call) q k = by_callee call.callee where
  by_callee : (callee : Callee) → Contains (callee_reads callee ++ call.args) q
  by_callee (Named name) = k
  by_callee (Held r) = contains_tail r q call.args k
implicit_read (Returns v) q k = k
implicit_read _ q k = absurd (none_in q k)

-- with other registers it sets what it did
pub sets_implicit : (u d : ℕ → ℕ) (r : Row) → has_implicit_uses r ≡ true → sets (renamed_row u d r) ≡ sets r
sets_implicit u d (Calls call) i = refl
sets_implicit u d (Returns v) i = refl
sets_implicit u d _ i = cc

pub row_uses_reads : (r : Row) (x : Place) (P : Place → Type 0) → RowUses r x → ((q : ℕ) → Contains (reads r) q → P (Register q)) →
    ((n : ℕ) → RowUses r (Slot n) → P (Slot n)) → P x
row_uses_reads r (Register q) P k f g = f q k
row_uses_reads r (Slot n) P k f g = g n k
row_uses_reads r (Const z) P k f g = absurd k

-- a call and a return, and such code with other explicit registers, do alike where they read alike
pub act_implicit : (u e : ℕ → ℕ) (r : Row) (c d : Core) → SameWorld c d → has_implicit_uses r ≡ true →
    ((q : ℕ) → Contains (explicit_reads r) q → content c.regs q ≡ content d.regs (u q)) →
    ((q : ℕ) → Contains (implicit_reads r) q → content c.regs q ≡ content d.regs q) →
    ((n : ℕ) → RowUses r (Slot n) → c.slots n ≡ d.slots n) → EndAlike (Agreeing r c d) (act r c) (act (renamed_row u e r) d)
act_implicit u e (Calls call) c d world i loaded same slots =
    call_alike call (renamed_callee u e call.callee) c d world (target call.callee loaded) (written call.callee loaded) same slots where
      target : (callee : Callee) → ((q : ℕ) → Contains (callee_reads callee) q → content c.regs q ≡ content d.regs (u q)) →
          called_at c callee ≡ called_at d (renamed_callee u e callee)
      target (Named name) h = refl
      target (Held r) h = ap (λ (o : Option ℕ). Address (or_zero o)) (h r (contains_head r []))

      written : (callee : Callee) → ((q : ℕ) → Contains (callee_reads callee) q → content c.regs q ≡ content d.regs (u q)) →
          are_written c (callee_reads callee) ≡ are_written d (callee_reads (renamed_callee u e callee))
      written (Named name) h = refl
      written (Held r) h = ap (λ (o : Option ℕ). is_some o && true) (h r (contains_head r []))
act_implicit u e (Returns v) c d world i loaded same slots = act_alike (Returns v) c d world (λ x k. row_uses_reads (Returns v) x
    (λ y. held_in y c ≡ held_in y d) k same slots)
act_implicit u e _ c d world i loaded same slots = cc

-- calls set the caller-saved registers, and returns none
pub implicit_sets : (r : Row) → has_implicit_uses r ≡ true → (q : ℕ) → Contains (sets r) q → Contains caller_saved q
implicit_sets (Calls call) i q k = k
implicit_sets (Returns v) i q k = absurd (none_in q k)
implicit_sets _ i q k = cc

-- the two cores
pub record Near (s : Spilling) (slots : List ℕ) (Alive Owed : ℕ → Type 0) (c d : Core) : Type 0 where
  pub world : SameWorld c d
  pub regs : (r : ℕ) → IsUntouched s r → content c.regs r ≡ content d.regs r
  pub slots_alike : (n : ℕ) → Contains slots n → c.slots n ≡ d.slots n
  pub under : (r n : ℕ) → slot_of s.homes r ≡ Some n → (Owed r → ⊥) → Below (content c.regs r) (d.slots n)
  pub alive : (r n : ℕ) → slot_of s.homes r ≡ Some n → (Owed r → ⊥) → Alive r → d.slots n ≡ content c.regs r
  pub pairs : (k o : ℕ) → Below (c.pairs k o) (d.pairs k o)
  pub marks : (v : VarId) → Below (assigned v c.marks) (assigned v d.marks)

-- what is in a list passes the test for it
any_in : (q : ℕ) (xs : List ℕ) → Contains xs q → list_any (nat_eq q) xs ≡ true
any_in q [] k = absurd (none_in q k)
any_in q (x ∷ xs) (zero, lt, e) = or_left (nat_eq q x) (list_any (nat_eq q) xs) (eq-eqb q x (sym e))
any_in q (x ∷ xs) (suc k, lt, e) = or_right (nat_eq q x) (list_any (nat_eq q) xs) (any_in q xs (k, omega (arith, lt), e))

pub no_zero_saved : Contains caller_saved 0 → ⊥
no_zero_saved k = let bad : false ≡ true = any_in 0 caller_saved k in cc

pub no_pointer_saved : Contains caller_saved 2 → ⊥
no_pointer_saved k = let bad : false ≡ true = any_in 2 caller_saved k in cc

module _ (s : Spilling) where
  abbrev pub renamed_def : Option ℕ → Option ℕ
  renamed_def None = None
  renamed_def (Some r) = Some (def_now s r)

module _ (s : Spilling) (slots : List ℕ) (homes : AreHomes s slots) where
  not_saved : (q r : ℕ) → (Contains caller_saved q → ⊥) → Contains caller_saved r → r ≡ q → ⊥
  not_saved q r out k e = out (subst (λ (z : ℕ). Contains caller_saved z) e k)

  -- a spilled register is no scratch register
  pub no_scratch : (r n : ℕ) → slot_of s.homes r ≡ Some n → IsNoScratch s r
  no_scratch r n e = (
    λ z. homes.kept r n e (subst (λ (x : ℕ). Contains caller_saved x) (sym z) homes.first),
    λ z. homes.kept r n e (subst (λ (x : ℕ). Contains caller_saved x) (sym z) homes.second),
  )

  pub untouched_def : (q : ℕ) → IsUntouched s q → def_now s q ≡ q
  untouched_def q h = ap (set_in s q) h.0

  pub spilled_def : (q n : ℕ) → slot_of s.homes q ≡ Some n → def_now s q ≡ s.first
  spilled_def q n e = ap (set_in s q) e

  pub sets_zero : SetsZero (def_now s)
  sets_zero = record { zero_stays = ap (set_in s 0) homes.no_zero; no_other = λ r e. by_slot r (slot_of s.homes r) e } where
    by_slot : (r : ℕ) (x : Option ℕ) → set_in s r x ≡ 0 → r ≡ 0
    by_slot r None e = e
    by_slot r (Some n) e = absurd (not_saved 0 s.first no_zero_saved homes.first e)

  pub keeps_zero : (u : Option ℕ) → KeepsZero (use_now s u) (def_now s)
  keeps_zero u = record { zero_stays = ap (stand_in s u 0) homes.no_zero; no_other = λ r e. by_slot r (slot_of s.homes (suc r)) e } where
    by_test : (b : Bool) → cond b s.first s.second ≡ 0 → ⊥
    by_test true e = not_saved 0 s.first no_zero_saved homes.first e
    by_test false e = not_saved 0 s.second no_zero_saved homes.second e

    by_slot : (r : ℕ) (x : Option ℕ) → stand_in s u (suc r) x ≡ 0 → ⊥
    by_slot r None e = cc
    by_slot r (Some n) e = by_test (names_slot u n) e

  -- code beside code with scratch registers
  module _ (i : Instruction) (o : Origin) (fits : FitsCode s i o) (held : SlotsIn slots (Code i None)) (u : Option ℕ) where
    abbrev row : Row
    row = row_of i

    abbrev row' : Row
    row' = renamed_row (use_now s u) (def_now s) row

    -- what stays and what is set
    pub record Acted (c d c' d' : Core) : Type 0 where
      pub world : SameWorld c' d'
      pub regs : (r : ℕ) → IsUntouched s r → content c'.regs r ≡ content d'.regs r
      pub slots_alike : (n : ℕ) → Contains slots n → c'.slots n ≡ d'.slots n
      pub homes_stay : (r n : ℕ) → slot_of s.homes r ≡ Some n → d'.slots n ≡ d.slots n
      pub regs_stay : (r : ℕ) → (Contains (sets row) r → ⊥) → content c'.regs r ≡ content c.regs r
      pub set : has_implicit_uses row ≡ false → (r : ℕ) → Contains (sets row) r → content c'.regs r ≡ content d'.regs (def_now s r)
      pub told : Untold c c'
      pub told' : Untold d d'

    -- both read alike: explicit registers under their names in each
    abbrev pub Loaded : Core → Core → Type 0
    Loaded c d = (q : ℕ) → Contains (explicit_reads row) q → content c.regs q ≡ content d.regs (use_now s u q)

    -- nothing that stays in the first is set in the second
    unset_untouched : has_implicit_uses row ≡ false → (q : ℕ) → IsUntouched s q → (Contains (sets row) q → ⊥) → Contains (sets row') q → ⊥
    unset_untouched plain q h out k = by_slot (sets_renamed (use_now s u) (def_now s) row plain q k) where
      by_home : (p : ℕ) (x : Option ℕ) → slot_of s.homes p ≡ x → Contains (sets row) p → q ≡ def_now s p → ⊥
      by_home p None z k e = out (subst (λ (y : ℕ). Contains (sets row) y) (sym (e ∙ ap (set_in s p) z)) k)
      by_home p (Some n) z k e = h.1.0 (e ∙ ap (set_in s p) z)

      by_slot : (p : ℕ) × Contains (sets row) p × (q ≡ def_now s p) → ⊥
      by_slot (p, k, e) = by_home p (slot_of s.homes p) refl k e

    no_home_set : (r n : ℕ) → slot_of s.homes r ≡ Some n → RowDefines row' (Slot n) → ⊥
    no_home_set r n e k =
        homes.fresh r n e (slot_set_in slots row n held.0 (passed_slots slots i held.1) (slots_renamed (use_now s u) (def_now s) row n k))

    explicit_acted : (Alive Owed : ℕ → Type 0) → has_implicit_uses row ≡ false → (c d c' d' : Core) → Near s slots Alive Owed c d →
        Made (use_now s u) (def_now s) sets_zero row c' d' →
        Kept row c c' × Untold c c' → Kept row' d d' × Untold d d' → Acted c d c' d'
    explicit_acted Alive Owed plain c d c' d' near made (kc, tc) (kd, td) = record {
      world = made.world;
      regs = λ r h. elim (cases_in (sets row) r) as (λ _. content c'.regs r ≡ content d'.regs r) [
        | inl k ↦ made.regs r k ∙ ap (content d'.regs) (untouched_def r h)
        | inr out ↦ kc (Register r) out ∙ near.regs r h ∙ sym (kd (Register r) (unset_untouched plain r h out))
      ];
      slots_alike = λ n k. slot_by (slot_set row) refl n k;
      homes_stay = λ r n e. kd (Slot n) (no_home_set r n e);
      regs_stay = λ r out. kc (Register r) out;
      set = λ _ r k. made.regs r k;
      told = tc;
      told' = td;
    } where
      stays : (n : ℕ) → Contains slots n → (slot_set row ≡ Some n → ⊥) → c'.slots n ≡ d'.slots n
      stays n k ne = kc (Slot n) (λ h. ne (slot_defined_row row n plain h)) ∙ near.slots_alike n k ∙
          sym (kd (Slot n) (λ h. ne (slot_defined_row row n plain (slots_renamed (use_now s u) (def_now s) row n h))))

      slot_by : (x : Option ℕ) → slot_set row ≡ x → (n : ℕ) → Contains slots n → c'.slots n ≡ d'.slots n
      slot_by None z n k = stays n k (λ e. (let bad : None ≡ Some n = sym z ∙ e in cc))
      slot_by (Some m) z n k =
          elim (cases_eq m n) as (λ _. c'.slots n ≡ d'.slots n) [
            | inl e ↦ made.slots n (z ∙ ap Some e)
            | inr ne ↦ stays n k (λ e. (let same : Some m ≡ Some n = sym z ∙ e in let mn : m ≡ n = cc in ne mn))
          ]

    abbrev implicit_agree : (c d c' d' : Core) → Type 0
    implicit_agree c d c' d' = SameWorld c' d' × ((x : Place) → RowDefines row x ⊎ (held_in x c ≡ held_in x d) → held_in x c' ≡ held_in x d')

    implicit_acted : (Alive Owed : ℕ → Type 0) → has_implicit_uses row ≡ true → (c d c' d' : Core) → Near s slots Alive Owed c d → implicit_agree c d c' d' →
        Kept row c c' × Untold c c' → Kept row' d d' × Untold d d' → Acted c d c' d'
    implicit_acted Alive Owed implied c d c' d' near (world, held_alike) (kc, tc) (kd, td) = record {
      world = world;
      regs = λ r h. held_alike (Register r) (inr (near.regs r h));
      slots_alike = λ n k. held_alike (Slot n) (inr (near.slots_alike n k));
      homes_stay = λ r n e. kd (Slot n) (no_home_set r n e);
      regs_stay = λ r out. kc (Register r) out;
      set = λ plain r k. (let bad : true ≡ false = sym implied ∙ plain in cc);
      told = tc;
      told' = td;
    }

    pub acted : (Alive Owed : ℕ → Type 0) (c d : Core) → Near s slots Alive Owed c d → Loaded c d → EndAlike (Acted c d) (act row c) (act row' d)
    acted Alive Owed c d near loaded = by_row (has_implicit_uses row) refl where
      both : (r : Row) (e : Core) → OnCore (λ e'. Kept r e e' × Untold e e') (act r e)
      both r e = on_both (Kept r e) (Untold e) (act r e) (act_kept r e) (act_untold r e)

      read : has_implicit_uses row ≡ false → ReadsAlike (use_now s u) (def_now s) sets_zero row c d
      read plain = record { regs = λ q k. loaded q (subst (λ (xs : List ℕ). Contains xs q) (sym (plain_reads row plain)) k); slots = λ n k. near.slots_alike n (slot_read_in slots row n held.0 k) }

      by_row : (z : Bool) → has_implicit_uses row ≡ z → EndAlike (Acted c d) (act row c) (act row' d)
      by_row false z =
          let m = act_renamed (use_now s u) (def_now s) sets_zero row c d near.world z (read z) in
          alike_weaker (λ c' d'. Made (use_now s u) (def_now s) sets_zero row c' d' × (Kept row c c' × Untold c c') × (Kept row' d d' × Untold d d'))
          (Acted c d) (λ c' d' h. explicit_acted Alive Owed z c d c' d' near h.0 h.1 h.2) (act row c) (act row' d)
          (alike_and (Made (use_now s u) (def_now s) sets_zero row) (λ e. Kept row c e × Untold c e) (λ e. Kept row' d e × Untold d e)
          (act row c) (act row' d) m (both row c) (both row' d))
      by_row true z =
          let m = act_implicit (use_now s u) (def_now s) row c d near.world z loaded
          (λ q j. near.regs q (fits.implicits z q (reads_implicit row i.operands q (implicit i) j)))
          (λ n j. near.slots_alike n (slot_used_in slots row n held.0 (passed_slots slots i held.1) j)) in
          alike_weaker (λ c' d'. implicit_agree c d c' d' × (Kept row c c' × Untold c c') × (Kept row' d d' × Untold d d'))
          (Acted c d) (λ c' d' h. implicit_acted Alive Owed z c d c' d' near h.0 h.1 h.2) (act row c) (act row' d)
          (alike_and (implicit_agree c d) (λ e. Kept row c e × Untold c e) (λ e. Kept row' d e × Untold d e)
          (act row c) (act row' d) m (both row c) (both row' d))

    -- ---- pairs

    pub renamed_at : (os : List Operand) (p : ℕ) → defined false (slice_get (map (renamed_operand (use_now s u) (def_now s)) os) p) ≡
        renamed_def s (defined false (slice_get os p))
    renamed_at [] p = refl
    renamed_at (Def r ∷ os) zero = refl
    renamed_at (Use r ∷ os) zero = refl
    renamed_at (ImplicitDef r ∷ os) zero = refl
    renamed_at (ImplicitUse r ∷ os) zero = refl
    renamed_at (_ ∷ os) zero = refl
    renamed_at (x ∷ os) (suc p) = renamed_at os p

    -- of a call, which has no explicit definition
    pub call_at : (os : List Operand) (p : ℕ) → defs_in os ≡ [] → defined true (slice_get (map (renamed_operand (use_now s u) (def_now s)) os) p) ≡
        defined true (slice_get os p)
    call_at [] p e = refl
    call_at (Def r ∷ os) p e = cc
    call_at (Use r ∷ os) zero e = refl
    call_at (ImplicitDef r ∷ os) zero e = refl
    call_at (ImplicitUse r ∷ os) zero e = refl
    call_at (_ ∷ os) zero e = refl
    call_at (Use r ∷ os) (suc p) e = call_at os p e
    call_at (_ ∷ os) (suc p) e = call_at os p e

    pub call_defines : (os : List Operand) (p r : ℕ) → defs_in os ≡ [] → defined true (slice_get os p) ≡ Some r → Contains (implicits_in os) r
    call_defines [] p r e k = cc
    call_defines (Def q ∷ os) p r e k = cc
    call_defines (ImplicitDef q ∷ os) zero r e k =
        let z : q ≡ r = cc in subst (λ (x : ℕ). Contains (q ∷ implicits_in os) x) z (contains_head q (implicits_in os))
    call_defines (ImplicitDef q ∷ os) (suc p) r e k = contains_tail q r (implicits_in os) (call_defines os p r e k)
    call_defines (ImplicitUse q ∷ os) zero r e k = cc
    call_defines (ImplicitUse q ∷ os) (suc p) r e k = contains_tail q r (implicits_in os) (call_defines os p r e k)
    call_defines (_ ∷ os) zero r e k = cc
    call_defines (_ ∷ os) (suc p) r e k = call_defines os p r e k

    -- what debug items see of a register in each
    pub seen_under : (q q' : ℕ) (c d : Core) → (q ≡ 2 → q' ≡ 2) → content c.regs q ≡ content d.regs q' → Below (seen false q c) (seen false q' d)
    seen_under q q' c d two e v k =
        elim (cases_eq q 2) as (λ _. seen false q c ≡ Some v) [
          | inl z ↦ (let none : None ≡ Some v = ap (λ (t : Bool). cond t None (content d.regs q')) (sym (eq-eqb q' 2 (two z))) ∙ k in cc)
          | inr ne ↦ ap (λ (t : Bool). cond t None (content c.regs q)) (ne_eqb q 2 ne) ∙ e ∙ full (nat_eq q' 2) k
        ] where
          full : (t : Bool) → cond t None (content d.regs q') ≡ Some v → content d.regs q' ≡ Some v
          full true k = cc
          full false k = k

    pub given_under : (x : Option ℕ) (c d : Core) (a b : Option ℕ) → Below a b → ((r : ℕ) → x ≡ Some r → Below (seen false r c) (seen false (def_now s r) d)) →
        Below (given false x a c) (given false (renamed_def s x) b d)
    given_under None c d a b k h = k
    given_under (Some r) c d a b k h = h r refl

    pub call_under : (x : Option ℕ) (c d : Core) (a b : Option ℕ) → Below a b → ((r : ℕ) → x ≡ Some r → Below (seen false r c) (seen false r d)) →
        Below (given false x a c) (given false x b d)
    call_under None c d a b k h = k
    call_under (Some r) c d a b k h = h r refl

    pub two_stays : (r : ℕ) → r ≡ 2 → def_now s r ≡ 2
    two_stays r e = ap (def_now s) e ∙ ap (set_in s 2) homes.no_pointer

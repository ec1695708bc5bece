-- What is kept of roots: none is x0, and none is a copy itself; and that copies hold what their roots hold.
use Rattle.std.proofs.Common.{◌≡◌, ◌⊎◌, inl, inr, ℕ, zero, suc, List, [], ◌∷◌, filter, Contains, Some, None, Bool, true, false, cond}
use Rattle.std.proofs.Common.{not, nat_eq}
use Rattle.std.proofs.Common.{eq-eqb, ne_eqb, eqb-true, ◌||◌, refl, sym, ap, ◌∙◌, subst, arith}
use Rattle.std.proofs.lemmas.Bool.{and_parts, not-true, cases_eq}
use Rattle.std.proofs.lemmas.List.Elements.{Contains-append_cases}
use Rattle.rv64_instr.specs.declared.place.Place.{Place}
use Rattle.rv64_instr.specs.declared.place.Place.TheVariants.{Register, Slot, Const}
use Rattle.rv64_instr.specs.Instruction.{Instruction}
use Rattle.rv64_instr.specs.Row.{Row, Fixes, Moves, Sets, Addresses, Loads, Stores, LoadsSlot, StoresSlot, Branches, Jumps, Calls, Returns, Unfit, row_of}
use Rattle.rv64_instr.specs.LocationEffects.{defines_of, moved_by, set_by}
use Rattle.sem_mir.specs.State.{Core, content}
use Rattle.sem_mir.specs.Step.{act}
use Rattle.sem_mir.specs.Effects.{held_in, OnCore}
use Rattle.sem_mir.proofs.Parts.{effects_hold}
use Rattle.sem_mir.proofs.Places.{contains_head, contains_tail}
use Rattle.sem_mir.proofs.Outcomes.{on_weaker}
use Rattle.sem_agreement.proofs.Outcomes.{on_all, on_given}
use Rattle.pass_salvage.proofs.NumberOff.{on_both}
use Rattle.copyprop_block.specs.declared.roots.Root.{Root}
use Rattle.copyprop_block.specs.Roots.{root_of, known_source, outlives, roots_after}
use Rattle.copyprop_rule.proofs.Rows.{KeepsZero}

-- ---- lists

pub contains_none : {A : Type 0} (x : A) → Contains [] x → ⊥
contains_none x h = let lt = h.1 in absurd (omega (arith, lt))

pub contains_first : {A : Type 0} (x : A) (xs : List A) (y : A) → Contains (x ∷ xs) y → (x ≡ y) ⊎ Contains xs y
contains_first x xs y (zero, lt, at) = inl at
contains_first x xs y (suc k, lt, at) = inr (k, omega (arith, lt), at)

pub filter_from : {A : Type 0} (p : A → Bool) (xs : List A) (y : A) → Contains (filter p xs) y → Contains xs y × (p y ≡ true)
filter_from p [] y h = absurd (contains_none y h)
filter_from {A} p (x ∷ xs) y h = by_test (p x) refl h (filter_from p xs y) where
  by_test : (z : Bool) → p x ≡ z → Contains (cond z (x ∷ filter p xs) (filter p xs)) y → (Contains (filter p xs) y → Contains xs y × (p y ≡ true)) →
      Contains (x ∷ xs) y × (p y ≡ true)
  by_test true e h later = elim (contains_first x (filter p xs) y h) as (λ z. Contains (x ∷ xs) y × (p y ≡ true)) [
    | inl same ↦ (subst (Contains (x ∷ xs)) same (contains_head x xs), sym (ap p same) ∙ e)
    | inr k ↦ (contains_tail x y xs (later k).0, (later k).1)
  ]
  by_test false e h later = (contains_tail x y xs (later h).0, (later h).1)

-- ---- roots

pub record IsClean (e : List Root) : Type 0 where
  pub copies : (x : Root) → Contains e x → (m : ℕ) × (x.copy ≡ suc m)
  pub roots : (x : Root) → Contains e x → (m : ℕ) × (x.root ≡ suc m)
  pub apart : (x y : Root) → Contains e x → Contains e y → x.root ≡ y.copy → ⊥

pub clean_none : IsClean []
clean_none = record {
  copies = λ x h. absurd (contains_none x h);
  roots = λ x h. absurd (contains_none x h);
  apart = λ x y h k e. contains_none x h;
}

-- a register is no copy, or it is and has that root
pub root_cases : (e : List Root) (r : ℕ) → ((root_of e r ≡ r) × ((x : Root) → Contains e x → x.copy ≡ r → ⊥)) ⊎
    ((x : Root) × Contains e x × (x.copy ≡ r) × (root_of e r ≡ x.root))
root_cases [] r = inl (refl, λ x h k. contains_none x h)
root_cases (y ∷ e) r = by_test (nat_eq y.copy r) refl (root_cases e r) where
  by_test : (z : Bool) → nat_eq y.copy r ≡ z → ((root_of e r ≡ r) × ((x : Root) → Contains e x → x.copy ≡ r → ⊥)) ⊎
      ((x : Root) × Contains e x × (x.copy ≡ r) × (root_of e r ≡ x.root)) →
      ((cond z y.root (root_of e r) ≡ r) × ((x : Root) → Contains (y ∷ e) x → x.copy ≡ r → ⊥)) ⊎
      ((x : Root) × Contains (y ∷ e) x × (x.copy ≡ r) × (cond z y.root (root_of e r) ≡ x.root))
  by_test true is later = inr (y, contains_head y e, eqb-true y.copy r is, refl)
  by_test false is (inl w) = inl (w.0, λ x h k. not_any x (contains_first y e x h) k) where
    not_any : (x : Root) → (y ≡ x) ⊎ Contains e x → x.copy ≡ r → ⊥
    not_any x (inl same) k = (let bad : false ≡ true = sym is ∙ eq-eqb y.copy r (ap (λ (z : Root). z.copy) same ∙ k) in cc)
    not_any x (inr h) k = w.1 x h k
  by_test false is (inr w) = inr (w.0, contains_tail y w.0 e w.1, w.2, w.3)

module _ (e : List Root) (clean : IsClean e) where
  pub keeps_zero : KeepsZero e
  keeps_zero = record { zero_stays = at_zero (root_cases e 0); no_other = λ r. at_more r (root_cases e (suc r)) } where
    at_zero : ((root_of e 0 ≡ 0) × ((x : Root) → Contains e x → x.copy ≡ 0 → ⊥)) ⊎ ((x : Root) × Contains e x × (x.copy ≡ 0) × (root_of e 0 ≡ x.root)) →
        root_of e 0 ≡ 0
    at_zero (inl w) = w.0
    at_zero (inr w) = let m = clean.copies w.0 w.1 in let a = m.1 in let b = w.2 in absurd (omega (arith, a, b))

    at_more : (r : ℕ) → ((root_of e (suc r) ≡ suc r) × ((x : Root) → Contains e x → x.copy ≡ suc r → ⊥)) ⊎
        ((x : Root) × Contains e x × (x.copy ≡ suc r) × (root_of e (suc r) ≡ x.root)) → root_of e (suc r) ≡ 0 → ⊥
    at_more r (inl w) z = let a = w.0 in omega (arith, a, z)
    at_more r (inr w) z = let m = clean.roots w.0 w.1 in let a = m.1 in let b = w.3 in omega (arith, a, b, z)

  -- a root is no copy
  pub root_is_none : (r : ℕ) (x : Root) → Contains e x → x.copy ≡ root_of e r → ⊥
  root_is_none r x h = by_case (root_cases e r) where
    by_case : ((root_of e r ≡ r) × ((y : Root) → Contains e y → y.copy ≡ r → ⊥)) ⊎ ((y : Root) × Contains e y × (y.copy ≡ r) × (root_of e r ≡ y.root)) →
        x.copy ≡ root_of e r → ⊥
    by_case (inl w) k = w.1 x h (k ∙ w.0)
    by_case (inr w) k = clean.apart w.0 x w.1 h (sym w.3 ∙ sym k)

  pub root_twice : (r : ℕ) → root_of e (root_of e r) ≡ root_of e r
  root_twice r = by_case (root_cases e (root_of e r)) where
    by_case : ((root_of e (root_of e r) ≡ root_of e r) × ((y : Root) → Contains e y → y.copy ≡ root_of e r → ⊥)) ⊎
        ((y : Root) × Contains e y × (y.copy ≡ root_of e r) × (root_of e (root_of e r) ≡ y.root)) → root_of e (root_of e r) ≡ root_of e r
    by_case (inl w) = w.0
    by_case (inr w) = absurd (root_is_none r w.0 w.1 w.2)

  pub clean_fewer : (p : Root → Bool) → IsClean (filter p e)
  clean_fewer p = record {
    copies = λ x h. clean.copies x (filter_from p e x h).0;
    roots = λ x h. clean.roots x (filter_from p e x h).0;
    apart = λ x y h k. clean.apart x y (filter_from p e x h).0 (filter_from p e y k).0;
  }

-- what outlives a row is defined by it on neither side
pub outlives_copy : (r : Row) (x : Root) → outlives r x ≡ true → defines_of r (Register x.copy) ≡ false
outlives_copy r x h = not-true (defines_of r (Register x.copy)) (and_parts (not (defines_of r (Register x.copy))) (not (defines_of r (Register x.root))) h).0

pub outlives_root : (r : Row) (x : Root) → outlives r x ≡ true → defines_of r (Register x.root) ≡ false
outlives_root r x h = not-true (defines_of r (Register x.root)) (and_parts (not (defines_of r (Register x.copy))) (not (defines_of r (Register x.root))) h).1

moves_defines : (rd s r : ℕ) → r ≡ rd → defines_of (Moves rd s) (Register r) ≡ true
moves_defines rd s r same = ap (λ (z : Bool). z || false) (eq-eqb r rd same)

-- code of a row whose source is a root, and which isn't known, leaves roots clean
module _ (e : List Root) (clean : IsClean e) where
  abbrev new : (rd s : ℕ) → Root
  new rd s = record { copy = suc rd; root = s }

  abbrev old : (rd s : ℕ) → List Root
  old rd s = filter (outlives (Moves (suc rd) s)) e

  -- a copy of a register to itself is known
  pub not_itself : (rd s t : ℕ) → s ≡ root_of e t → known_source e (Moves (suc rd) s) ≡ None → s ≡ suc rd → ⊥
  not_itself rd s t is unknown same =
      let twice : root_of e (suc rd) ≡ s = ap (root_of e) (sym same ∙ is) ∙ root_twice e clean t ∙ sym is in
      let bad : Some s ≡ None = sym (ap (λ (z : Bool). cond z (Some s) None) (eq-eqb (root_of e (suc rd)) s twice)) ∙ unknown in
      cc

  moves_clean : (rd s t : ℕ) → s ≡ root_of e t → ((m : ℕ) × (s ≡ suc m)) → known_source e (Moves (suc rd) s) ≡ None → IsClean (roots_after (Moves (suc rd) s) e)
  moves_clean rd s t is real unknown = record {
    copies = λ x h. copies x (Contains-append_cases (old rd s) ((new rd s) ∷ []) x h);
    roots = λ x h. roots x (Contains-append_cases (old rd s) ((new rd s) ∷ []) x h);
    apart = λ x y h k. apart x y (Contains-append_cases (old rd s) ((new rd s) ∷ []) x h) (Contains-append_cases (old rd s) ((new rd s) ∷ []) y k);
  } where
    less : IsClean (old rd s)
    less = clean_fewer e clean (outlives (Moves (suc rd) s))

    last : (x : Root) → Contains ((new rd s) ∷ []) x → (new rd s) ≡ x
    last x h = elim (contains_first (new rd s) [] x h) as (λ z. (new rd s) ≡ x) [ inl same ↦ same | inr k ↦ absurd (contains_none x k) ]

    copies : (x : Root) → Contains (old rd s) x ⊎ Contains ((new rd s) ∷ []) x → (m : ℕ) × (x.copy ≡ suc m)
    copies x (inl h) = less.copies x h
    copies x (inr h) = (rd, sym (ap (λ (z : Root). z.copy) (last x h)))

    roots : (x : Root) → Contains (old rd s) x ⊎ Contains ((new rd s) ∷ []) x → (m : ℕ) × (x.root ≡ suc m)
    roots x (inl h) = less.roots x h
    roots x (inr h) = (real.0, sym (ap (λ (z : Root). z.root) (last x h)) ∙ real.1)

    apart : (x y : Root) → Contains (old rd s) x ⊎ Contains ((new rd s) ∷ []) x → Contains (old rd s) y ⊎ Contains ((new rd s) ∷ []) y → x.root ≡ y.copy → ⊥
    apart x y (inl h) (inl k) same = less.apart x y h k same
    apart x y (inl h) (inr k) same =
        let out = outlives_root (Moves (suc rd) s) x (filter_from (outlives (Moves (suc rd) s)) e x h).1 in
        let bad : true ≡ false = sym (moves_defines (suc rd) s x.root (same ∙ sym (ap (λ (z : Root). z.copy) (last y k)))) ∙ out in
        cc
    apart x y (inr h) (inl k) same =
        root_is_none e clean t y (filter_from (outlives (Moves (suc rd) s)) e y k).0 (sym same ∙ sym (ap (λ (z : Root). z.root) (last x h)) ∙ is)
    apart x y (inr h) (inr k) same = not_itself rd s t is unknown (ap (λ (z : Root). z.root) (last x h) ∙ same ∙ sym (ap (λ (z : Root). z.copy) (last y k)))

  pub clean_after : (r : Row) → ((rd s : ℕ) → r ≡ Moves rd s → ((t : ℕ) × (s ≡ root_of e t)) × ((m : ℕ) × (s ≡ suc m))) → known_source e r ≡ None →
      IsClean (roots_after r e)
  clean_after (Moves (suc rd) s) h unknown = let w = h (suc rd) s refl in moves_clean rd s w.0.0 w.0.1 w.1 unknown
  clean_after (Moves zero s) h unknown = clean_fewer e clean (outlives (Moves zero s))
  clean_after (Fixes rd n) h unknown = clean_fewer e clean (outlives (Fixes rd n))
  clean_after (Sets rd op a b) h unknown = clean_fewer e clean (outlives (Sets rd op a b))
  clean_after (Addresses rd n o) h unknown = clean_fewer e clean (outlives (Addresses rd n o))
  clean_after (Loads rd op b o) h unknown = clean_fewer e clean (outlives (Loads rd op b o))
  clean_after (Stores op rs b o) h unknown = clean_fewer e clean (outlives (Stores op rs b o))
  clean_after (LoadsSlot rd n) h unknown = clean_fewer e clean (outlives (LoadsSlot rd n))
  clean_after (StoresSlot rs n) h unknown = clean_fewer e clean (outlives (StoresSlot rs n))
  clean_after (Branches op a b t) h unknown = clean_fewer e clean (outlives (Branches op a b t))
  clean_after (Jumps t) h unknown = clean_fewer e clean (outlives (Jumps t))
  clean_after (Calls call) h unknown = clean_fewer e clean (outlives (Calls call))
  clean_after (Returns v) h unknown = clean_fewer e clean (outlives (Returns v))
  clean_after Unfit h unknown = clean_fewer e clean (outlives Unfit)

-- ---- contents

-- copies hold what their roots hold
abbrev pub Holds : List Root → Core → Type 0
Holds e c = (x : Root) → Contains e x → content c.regs x.copy ≡ content c.regs x.root

pub holds_none : (c : Core) → Holds [] c
holds_none c x h = absurd (contains_none x h)

pub holds_root : (e : List Root) (c : Core) → Holds e c → (r : ℕ) → content c.regs r ≡ content c.regs (root_of e r)
holds_root e c holds r = by_case (root_cases e r) where
  by_case : ((root_of e r ≡ r) × ((y : Root) → Contains e y → y.copy ≡ r → ⊥)) ⊎ ((y : Root) × Contains e y × (y.copy ≡ r) × (root_of e r ≡ y.root)) →
      content c.regs r ≡ content c.regs (root_of e r)
  by_case (inl w) = ap (content c.regs) (sym w.0)
  by_case (inr w) = ap (content c.regs) (sym w.2) ∙ holds w.0 w.1 ∙ ap (content c.regs) (sym w.3)

-- what code leaves
abbrev pub Leaves : Instruction → Core → Core → Type 0
Leaves i c d = (x : Place) → defines_of (row_of i) x ≡ false → held_in x d ≡ held_in x c

pub leaves : (i : Instruction) (c : Core) → OnCore (Leaves i c) (act (row_of i) c)
leaves i c = on_all (λ (x : Place) (d : Core). defines_of (row_of i) x ≡ false → held_in x d ≡ held_in x c) (act (row_of i) c)
    (λ x. on_given (defines_of (row_of i) x ≡ false) (λ d. held_in x d ≡ held_in x c) (act (row_of i) c) (λ n. effects_hold.defines i x c n))

module _ (e : List Root) (i : Instruction) (c : Core) (holds : Holds e c) where
  -- what outlives it is held still
  less_holds : (r : Row) → row_of i ≡ r → (d : Core) → Leaves i c d → Holds (filter (outlives r) e) d
  less_holds r is d stay x h =
      let w = filter_from (outlives r) e x h in
      let at : (y : ℕ) → defines_of r (Register y) ≡ false → content d.regs y ≡ content c.regs y =
      λ y out. stay (Register y) (ap (λ (z : Row). defines_of z (Register y)) is ∙ out) in
      at x.copy (outlives_copy r x w.1) ∙ holds x w.0 ∙ sym (at x.root (outlives_root r x w.1))

  -- and a copy holds its source
  moves_holds : (rd s : ℕ) → row_of i ≡ Moves (suc rd) s → (s ≡ suc rd → ⊥) → (d : Core) → Leaves i c d → content d.regs (suc rd) ≡ content c.regs s →
      Holds (roots_after (Moves (suc rd) s) e) d
  moves_holds rd s is other d stay moved x h =
      by_case (Contains-append_cases (filter (outlives (Moves (suc rd) s)) e) (record { copy = suc rd; root = s } ∷ []) x h) where
        out : defines_of (row_of i) (Register s) ≡ false
        out = ap (λ (z : Row). defines_of z (Register s)) is ∙ ap (λ (z : Bool). z || false) (ne_eqb s (suc rd) other)

        by_new : record { copy = suc rd; root = s } ≡ x → content d.regs x.copy ≡ content d.regs x.root
        by_new same = ap (content d.regs) (sym (ap (λ (z : Root). z.copy) same)) ∙ moved ∙ sym (stay (Register s) out) ∙
            ap (content d.regs) (ap (λ (z : Root). z.root) same)

        by_case : Contains (filter (outlives (Moves (suc rd) s)) e) x ⊎ Contains (record { copy = suc rd; root = s } ∷ []) x →
            content d.regs x.copy ≡ content d.regs x.root
        by_case (inl k) = less_holds (Moves (suc rd) s) is d stay x k
        by_case (inr k) = elim (contains_first (record { copy = suc rd; root = s }) [] x k) as (λ z. content d.regs x.copy ≡ content d.regs x.root) [
          | inl same ↦ by_new same
          | inr none ↦ absurd (contains_none x none)
        ]

  pub act_holds : (r : Row) → row_of i ≡ r → ((rd s : ℕ) → r ≡ Moves (suc rd) s → s ≡ suc rd → ⊥) → OnCore (Holds (roots_after r e)) (act (row_of i) c)
  act_holds (Moves (suc rd) s) is other =
      on_weaker (λ d. Leaves i c d × (held_in (Register (suc rd)) d ≡ held_in (Register s) c)) (Holds (roots_after (Moves (suc rd) s) e))
      (λ d w. moves_holds rd s is (other rd s refl) d w.0 w.1) (act (row_of i) c)
      (on_both (Leaves i c) (λ d. held_in (Register (suc rd)) d ≡ held_in (Register s) c) (act (row_of i) c) (leaves i c)
      (effects_hold.moves i (Register s) (Register (suc rd)) c (ap moved_by is) (ap set_by is)))
  act_holds (Moves zero s) is other = on_weaker (Leaves i c) (Holds (filter (outlives (Moves zero s)) e)) (less_holds (Moves zero s) is) (act (row_of i) c)
      (leaves i c)
  act_holds (Fixes rd n) is other = on_weaker (Leaves i c) (Holds (filter (outlives (Fixes rd n)) e)) (less_holds (Fixes rd n) is) (act (row_of i) c)
      (leaves i c)
  act_holds (Sets rd op a b) is other =
      on_weaker (Leaves i c) (Holds (filter (outlives (Sets rd op a b)) e)) (less_holds (Sets rd op a b) is) (act (row_of i) c) (leaves i c)
  act_holds (Addresses rd n o) is other =
      on_weaker (Leaves i c) (Holds (filter (outlives (Addresses rd n o)) e)) (less_holds (Addresses rd n o) is) (act (row_of i) c) (leaves i c)
  act_holds (Loads rd op b o) is other =
      on_weaker (Leaves i c) (Holds (filter (outlives (Loads rd op b o)) e)) (less_holds (Loads rd op b o) is) (act (row_of i) c) (leaves i c)
  act_holds (Stores op rs b o) is other =
      on_weaker (Leaves i c) (Holds (filter (outlives (Stores op rs b o)) e)) (less_holds (Stores op rs b o) is) (act (row_of i) c) (leaves i c)
  act_holds (LoadsSlot rd n) is other =
      on_weaker (Leaves i c) (Holds (filter (outlives (LoadsSlot rd n)) e)) (less_holds (LoadsSlot rd n) is) (act (row_of i) c) (leaves i c)
  act_holds (StoresSlot rs n) is other =
      on_weaker (Leaves i c) (Holds (filter (outlives (StoresSlot rs n)) e)) (less_holds (StoresSlot rs n) is) (act (row_of i) c) (leaves i c)
  act_holds (Branches op a b t) is other =
      on_weaker (Leaves i c) (Holds (filter (outlives (Branches op a b t)) e)) (less_holds (Branches op a b t) is) (act (row_of i) c) (leaves i c)
  act_holds (Jumps t) is other = on_weaker (Leaves i c) (Holds (filter (outlives (Jumps t)) e)) (less_holds (Jumps t) is) (act (row_of i) c) (leaves i c)
  act_holds (Calls call) is other =
      on_weaker (Leaves i c) (Holds (filter (outlives (Calls call)) e)) (less_holds (Calls call) is) (act (row_of i) c) (leaves i c)
  act_holds (Returns v) is other = on_weaker (Leaves i c) (Holds (filter (outlives (Returns v)) e)) (less_holds (Returns v) is) (act (row_of i) c) (leaves i c)
  act_holds Unfit is other = on_weaker (Leaves i c) (Holds (filter (outlives Unfit) e)) (less_holds Unfit is) (act (row_of i) c) (leaves i c)

  -- a copy that is known sets what is there
  pub known_leaves : (rd s : ℕ) → row_of i ≡ Moves (suc rd) s → root_of e (suc rd) ≡ s →
      OnCore (λ d. (x : Place) → held_in x d ≡ held_in x c) (act (row_of i) c)
  known_leaves rd s is root =
      on_weaker (λ d. Leaves i c d × (held_in (Register (suc rd)) d ≡ held_in (Register s) c)) (λ d. (x : Place) → held_in x d ≡ held_in x c) by_core
      (act (row_of i) c)
      (on_both (Leaves i c) (λ d. held_in (Register (suc rd)) d ≡ held_in (Register s) c) (act (row_of i) c) (leaves i c)
      (effects_hold.moves i (Register s) (Register (suc rd)) c (ap moved_by is) (ap set_by is))) where
        by_core : (d : Core) → Leaves i c d × (held_in (Register (suc rd)) d ≡ held_in (Register s) c) → (x : Place) → held_in x d ≡ held_in x c
        by_core d w (Register r) = by_register (cases_eq r (suc rd)) where
          by_register : (r ≡ suc rd) ⊎ (r ≡ suc rd → ⊥) → content d.regs r ≡ content c.regs r
          by_register (inl same) =
              ap (content d.regs) same ∙ w.1 ∙ ap (content c.regs) (sym root) ∙ sym (holds_root e c holds (suc rd)) ∙ ap (content c.regs) (sym same)
          by_register (inr ne) =
              w.0 (Register r) (ap (λ (z : Row). defines_of z (Register r)) is ∙ ap (λ (z : Bool). z || false) (ne_eqb r (suc rd) ne))
        by_core d w (Slot n) = w.0 (Slot n) (ap (λ (z : Row). defines_of z (Slot n)) is)
        by_core d w (Const z) = refl

-- what is held at all places holds the same of roots
pub holds_same : (e : List Root) (c d : Core) → ((x : Place) → held_in x d ≡ held_in x c) → Holds e c → Holds e d
holds_same e c d same holds x h = same (Register x.copy) ∙ holds x h ∙ sym (same (Register x.root))

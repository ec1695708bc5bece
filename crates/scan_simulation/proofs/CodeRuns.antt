-- What code does in each: where it reads no unwritten register that gets another, it does alike. Else it stops in the first alone.
use Rattle.std.proofs.Common.{◌≡◌, ◌⊎◌, inl, inr, ℕ, List, [], Contains, Option, Some, None, Bool, true, false, cond}
use Rattle.std.proofs.Common.{is_some, refl, sym, ap, ◌∙◌, subst, arith}
use Rattle.std.specs.Prelude.{IsTrue}
use Rattle.std.proofs.lemmas.Bool.{cases_eq}
use Rattle.rv64_instr.specs.declared.place.Place.{Place}
use Rattle.rv64_instr.specs.declared.place.Place.TheVariants.{Register, Slot}
use Rattle.rv64_instr.specs.DefsAndUses.{reads, sets}
use Rattle.rv64_instr.specs.Form.{has_form}
use Rattle.rv64_instr.specs.Instruction.{Instruction}
use Rattle.rv64_instr.specs.LocationEffects.{has_implicit_uses, slot_set}
use Rattle.rv64_instr.specs.Row.{Row, Returns, row_of}
use Rattle.mir_func.specs.declared.item.Item.{Item}
use Rattle.mir_func.specs.declared.item.ItemKind.{ItemKind}
use Rattle.mir_func.specs.declared.item.ItemKind.TheVariants.{Code}
use Rattle.mir_func.specs.declared.position.Pos.{Pos}
use Rattle.mir_func.specs.declared.position.Origin.{Origin}
use Rattle.mir_func.specs.declared.position.Origin.TheVariants.{Kept as KeptFrom, Before}
use Rattle.mir_func.specs.Graph.{Program, Fetch, Here}
use Rattle.sem_mir.specs.Effects.{held_in, OnCore, EndAlike, SameWorld}
use Rattle.sem_mir.specs.Live.{Defines, KindDefines}
use Rattle.sem_mir.specs.State.{Core, content}
use Rattle.sem_mir.specs.Step.{Outcome, Falls, Goes, Gives, Traps, Asks, Breaks, act}
use Rattle.sem_mir.specs.Step.{does as runs, are_written}
use Rattle.sem_mir.proofs.Effects.{RowDefines}
use Rattle.sem_mir.proofs.Implicit.{implicit}
use Rattle.sem_mir.proofs.Outcomes.{alike_weaker}
use Rattle.sem_mir.proofs.Parts.{row_defines, defines_row}
use Rattle.scan_rule.specs.spill_code.Rewrite.{renamed_code}
use Rattle.scan_rule.proofs.spill_simulation.Acting.{SetsZero, Made, ReadsAlike, act_renamed}
use Rattle.scan_rule.proofs.spill_simulation.Explicit.{explicit_reads}
use Rattle.scan_rule.proofs.spill_simulation.Items.{AreSet, act_written}
use Rattle.scan_rule.proofs.spill_simulation.Near.{alike_and, on_both, Untold, act_untold, Kept, act_kept, sets_renamed, slot_defined_row}
use Rattle.scan_rule.proofs.spill_simulation.Near.{slots_renamed, implicit_sets, sets_implicit, act_implicit, implicit_used, explicit_read, implicit_read}
use Rattle.scan_rule.proofs.spill_simulation.Rows.{renamed_row}
use Rattle.scan_rule.specs.scan_allocation.Coloring.{now, IsColoring}
use Rattle.scan_rule.proofs.scan_allocation.Named.{saved_small}
use Rattle.scan_rule.proofs.scan_allocation.AllocationOrder.{all_by}
use Rattle.scan_rule.specs.Silence.{Overwritten}
use Rattle.scan_simulation.proofs.Near.{Near, read_clear}
use Rattle.scan_simulation.proofs.Renaming.{now_plain, now_given, physical, sets_zero}

none_in : (q : ℕ) → Contains [] q → ⊥
none_in q (k, lt, e) = omega (arith, lt)

-- a register that is read in code that doesn't stop is written
some_of : (x : Option ℕ) → is_some x ≡ true → (v : ℕ) × (x ≡ Some v)
some_of None e = cc
some_of (Some v) e = (v, refl)

written_read : (c : Core) (rs : List ℕ) (q : ℕ) → are_written c rs ≡ true → Contains rs q → (v : ℕ) × (content c.regs q ≡ Some v)
written_read c rs q e k = some_of (content c.regs q) (all_by (λ r. is_some (content c.regs r)) rs q e k)

-- code whose registers aren't all written stops
act_stops : (r : Row) (c : Core) → are_written c (reads r) ≡ false → act r c ≡ Traps
unfolding act
act_stops r c e = ap (λ (b : Bool). cond b (runs r c) Traps) e

-- what is no return
abbrev pub GoesOn : Row → Type 0
GoesOn (Returns ending) = ⊥
GoesOn _ = Unit {0}

-- a return reads by implicit operands alone
goes_on_or_returns : (r : Row) → GoesOn r ⊎ ((has_implicit_uses r ≡ true) × (explicit_reads r ≡ []))
goes_on_or_returns (Returns ending) = inr (refl, refl)
goes_on_or_returns _ = inl tt

-- whether an item was added
abbrev is_before : Origin → Bool
is_before (Before p) = true
is_before (KeptFrom p) = false

before_of : (o : Origin) → is_before o ≡ true → (p : Pos) × (o ≡ Before p)
before_of (Before p) e = (p, refl)
before_of (KeptFrom p) e = cc

module _ (f : Program) (given : ℕ → Option ℕ) (col : IsColoring f given) (start : Pos) (p : Pos) (item : Item) (i : Instruction) (n : Option ℕ)
    (at : f.fetch p ≡ Here item) (kind : item.kind ≡ Code i n) (form : IsTrue (has_form i.op i.operands)) where
  abbrev row : Row
  row = row_of i

  abbrev u : ℕ → ℕ
  u = now given

  abbrev row' : Row
  row' = renamed_row u u row

  abbrev pub i' : Instruction
  i' = renamed_code u u i

  abbrev zeros : SetsZero u
  zeros = sets_zero f given col

  abbrev N : Pos → Core → Core → Type 0
  N = Near f given col start

  -- what code sets, it defines
  pub set_defines : (r : ℕ) → Contains (sets row) r → Defines (f.fetch p) (Register r)
  set_defines r k =
      subst (λ (x : Fetch). Defines x (Register r)) (sym at)
      (subst (λ (x : ItemKind). KindDefines x (Register r)) (sym kind) (row_defines row (Register r) k))

  pub defines_set : (r : ℕ) → Defines (f.fetch p) (Register r) → Contains (sets row) r
  defines_set r d =
      defines_row row (Register r)
      (subst (λ (x : ItemKind). KindDefines x (Register r)) kind (subst (λ (x : Fetch). Defines x (Register r)) at d))

  -- ---- what stays and what is set

  pub record Acted (c d c' d' : Core) : Type 0 where
    pub world : SameWorld c' d'
    pub slots : (m : ℕ) → c'.slots m ≡ d'.slots m
    pub set : (r : ℕ) → Contains (sets row) r → content c'.regs r ≡ content d'.regs (u r)
    pub stays : (r : ℕ) → (Contains (sets row) r → ⊥) → content c'.regs r ≡ content c.regs r
    pub stays' : (r : ℕ) → (Contains (sets row') r → ⊥) → content d'.regs r ≡ content d.regs r
    pub is_written : (r q : ℕ) → given r ≡ Some q → Contains (sets row) r → content c'.regs r ≡ None → ⊥
    pub told : Untold c c'
    pub told' : Untold d d'

  -- what is set in the second is set under its old name in the first
  pub set_from : (q : ℕ) → Contains (sets row') q → (s : ℕ) × Contains (sets row) s × (q ≡ u s)
  set_from q k = by_row (has_implicit_uses row) refl where
    by_row : (z : Bool) → has_implicit_uses row ≡ z → (s : ℕ) × Contains (sets row) s × (q ≡ u s)
    by_row false z = sets_renamed u u row z q k
    by_row true z =
        let there : Contains (sets row) q = subst (λ (xs : List ℕ). Contains xs q) (sets_implicit u u row z) k in
        let small = saved_small q (implicit_sets row z q there) in
        (q, there, sym (now_plain given q (physical f given col q small)))

  explicit_acted : (c d c' d' : Core) → N p c d → has_implicit_uses row ≡ false → Made u u zeros row c' d' → Kept row c c' × Untold c c' × AreSet row c' →
      Kept row' d d' × Untold d d' → Acted c d c' d'
  explicit_acted c d c' d' near plain made (kc, tc, written) (kd, td) = record {
    world = made.world;
    slots = λ m. slot_by (slot_set row) refl m;
    set = λ r k. made.regs r k;
    stays = λ r out. kc (Register r) out;
    stays' = λ r out. kd (Register r) out;
    is_written = λ r q some k e. (let bad : false ≡ true = sym (ap is_some e) ∙ written r k in cc);
    told = tc;
    told' = td;
  } where
    unset : (m : ℕ) → (slot_set row ≡ Some m → ⊥) → c'.slots m ≡ d'.slots m
    unset m ne = kc (Slot m) (λ h. ne (slot_defined_row row m plain h)) ∙ near.slots m ∙
        sym (kd (Slot m) (λ h. ne (slot_defined_row row m plain (slots_renamed u u row m h))))

    slot_by : (x : Option ℕ) → slot_set row ≡ x → (m : ℕ) → c'.slots m ≡ d'.slots m
    slot_by None z m = unset m (λ e. (let bad : ◌≡◌ {A = Option ℕ} None (Some m) = sym z ∙ e in cc))
    slot_by (Some k) z m =
        elim (cases_eq k m) as (λ _. c'.slots m ≡ d'.slots m) [
          | inl e ↦ made.slots m (z ∙ ap Some e)
          | inr ne ↦ unset m (λ e. (let same : Some k ≡ Some m = sym z ∙ e in let km : k ≡ m = cc in ne km))
        ]

  abbrev Agree : (c d c' d' : Core) → Type 0
  Agree c d c' d' = SameWorld c' d' × ((x : Place) → RowDefines row x ⊎ (held_in x c ≡ held_in x d) → held_in x c' ≡ held_in x d')

  -- what calls and returns set has no new name
  saved_plain : has_implicit_uses row ≡ true → (r : ℕ) → Contains (sets row) r → given r ≡ None
  saved_plain z r k = physical f given col r (saved_small r (implicit_sets row z r k))

  implicit_acted : (c d c' d' : Core) → N p c d → has_implicit_uses row ≡ true → Agree c d c' d' → Kept row c c' × Untold c c' →
      Kept row' d d' × Untold d d' → Acted c d c' d'
  implicit_acted c d c' d' near z (world, held) (kc, tc) (kd, td) = record {
    world = world;
    slots = λ m. held (Slot m) (inr (near.slots m));
    set = λ r k. held (Register r) (inl k) ∙ ap (content d'.regs) (sym (now_plain given r (saved_plain z r k)));
    stays = λ r out. kc (Register r) out;
    stays' = λ r out. kd (Register r) out;
    is_written = λ r q some k e. (let bad : ◌≡◌ {A = Option ℕ} None (Some q) = sym (saved_plain z r k) ∙ some in cc);
    told = tc;
    told' = td;
  }

  -- both read alike
  abbrev ReadsPlain : Type 0
  ReadsPlain = (r : ℕ) → Contains (reads row) r → given r ≡ None

  clear : (r : ℕ) → Contains (reads row) r → Overwritten f given r p → ⊥
  clear r k = read_clear f given col start p item i n at kind r k

  plain_reads : (c d : Core) → N p c d → ReadsPlain → (r : ℕ) → Contains (reads row) r → content c.regs r ≡ content d.regs (u r)
  plain_reads c d near none r k = near.plain r (none r k) (clear r k) ∙ ap (content d.regs) (sym (now_plain given r (none r k)))

  written_reads : (c d : Core) → N p c d → are_written c (reads row) ≡ true → (r : ℕ) → Contains (reads row) r →
      content c.regs r ≡ content d.regs (u r)
  written_reads c d near w r k = by_given (given r) refl where
    v : (x : ℕ) × (content c.regs r ≡ Some x)
    v = written_read c (reads row) r w k

    by_given : (x : Option ℕ) → given r ≡ x → content c.regs r ≡ content d.regs (u r)
    by_given None e = near.plain r e (clear r k) ∙ ap (content d.regs) (sym (now_plain given r e))
    by_given (Some q) e =
        v.1 ∙ sym (near.renamed r q v.0 e (clear r k) v.1) ∙ ap (content d.regs) (sym (now_given given r q e))

  both : (r : Row) (e : Core) → OnCore (λ e'. Kept r e e' × Untold e e') (act r e)
  both r e = on_both (Kept r e) (Untold e) (act r e) (act_kept r e) (act_untold r e)

  -- explicit operands: under their names in each
  explicit_does : (c d : Core) → N p c d → has_implicit_uses row ≡ false → ((r : ℕ) → Contains (reads row) r → content c.regs r ≡ content d.regs (u r)) →
      EndAlike (Acted c d) (act row c) (act row' d)
  explicit_does c d near z alike =
      let reading : ReadsAlike u u zeros row c d = record { regs = alike; slots = λ m k. near.slots m } in
      let m = act_renamed u u zeros row c d near.world z reading in
      let first : OnCore (λ e. Kept row c e × Untold c e × AreSet row e) (act row c) =
      three row c (both row c) (act_written row c z) in
      alike_weaker
      (λ c' d'. Made u u zeros row c' d' × (Kept row c c' × Untold c c' × AreSet row c') × (Kept row' d d' × Untold d d'))
      (Acted c d) (λ c' d' h. explicit_acted c d c' d' near z h.0 h.1 h.2) (act row c) (act row' d)
      (alike_and (Made u u zeros row) (λ e. Kept row c e × Untold c e × AreSet row e) (λ e. Kept row' d e × Untold d e)
      (act row c) (act row' d) m first (both row' d)) where
        three : (r : Row) (e : Core) → OnCore (λ e'. Kept r e e' × Untold e e') (act r e) → OnCore (AreSet r) (act r e) →
            OnCore (λ e'. Kept r e e' × Untold e e' × AreSet r e') (act r e)
        three r e h k = by_outcome (act r e) h k where
          by_outcome : (x : Outcome) → OnCore (λ e'. Kept r e e' × Untold e e') x → OnCore (AreSet r) x →
              OnCore (λ e'. Kept r e e' × Untold e e' × AreSet r e') x
          by_outcome (Falls e') h k = (h.0, h.1, k)
          by_outcome (Goes t e') h k = (h.0, h.1, k)
          by_outcome (Gives v) h k = tt
          by_outcome Traps h k = tt
          by_outcome Asks h k = tt
          by_outcome Breaks h k = tt

  -- calls and returns read physical registers by implicit operands
  implicit_does : (c d : Core) → N p c d → has_implicit_uses row ≡ true →
      ((r : ℕ) → Contains (explicit_reads row) r → content c.regs r ≡ content d.regs (u r)) → EndAlike (Acted c d) (act row c) (act row' d)
  implicit_does c d near z alike =
      let m = act_implicit u u row c d near.world z alike
      (λ q j. near.plain q (col.implicit p item i n at kind z q (implicit_used row i.operands q (implicit i) j)) (clear q (implicit_read row q j)))
      (λ q j. near.slots q) in
      alike_weaker (λ c' d'. Agree c d c' d' × (Kept row c c' × Untold c c') × (Kept row' d d' × Untold d d'))
      (Acted c d) (λ c' d' h. implicit_acted c d c' d' near z h.0 h.1 h.2) (act row c) (act row' d)
      (alike_and (Agree c d) (λ e. Kept row c e × Untold c e) (λ e. Kept row' d e × Untold d e)
      (act row c) (act row' d) m (both row c) (both row' d))

  -- code, where it reads alike
  reads_alike : (c d : Core) → N p c d → ((r : ℕ) → Contains (reads row) r → content c.regs r ≡ content d.regs (u r)) →
      EndAlike (Acted c d) (act row c) (act row' d)
  reads_alike c d near alike = by_row (has_implicit_uses row) refl where
    by_row : (z : Bool) → has_implicit_uses row ≡ z → EndAlike (Acted c d) (act row c) (act row' d)
    by_row true z = implicit_does c d near z (λ r k. alike r (explicit_read row r k))
    by_row false z = explicit_does c d near z alike

  -- all code, where it reads alike; or the first stops, at code of the source that is no return
  pub does : (c d : Core) → N p c d → EndAlike (Acted c d) (act row c) (act row' d) ⊎
      ((act row c ≡ Traps) × GoesOn row × ((o : Pos) → item.origin ≡ Before o → ⊥))
  does c d near = by_end (goes_on_or_returns row) where
    Goal : Type 0
    Goal = EndAlike (Acted c d) (act row c) (act row' d) ⊎ ((act row c ≡ Traps) × GoesOn row × ((o : Pos) → item.origin ≡ Before o → ⊥))

    stops : (z : Bool) → are_written c (reads row) ≡ z → GoesOn row → ((o : Pos) → item.origin ≡ Before o → ⊥) → Goal
    stops true w on kept = inl (reads_alike c d near (written_reads c d near w))
    stops false w on kept = inr (act_stops row c w, on, kept)

    by_origin : (z : Bool) → is_before item.origin ≡ z → GoesOn row → Goal
    by_origin true b on =
        let o = before_of item.origin b in
        inl (reads_alike c d near (plain_reads c d near (λ r k. col.added p item i n o.0 at kind o.1 r k)))
    by_origin false b on = stops (are_written c (reads row)) refl on (λ o e. (let bad : false ≡ true = sym b ∙ ap is_before e in cc))

    by_end : GoesOn row ⊎ ((has_implicit_uses row ≡ true) × (explicit_reads row ≡ [])) → Goal
    by_end (inl on) = by_origin (is_before item.origin) refl on
    by_end (inr (z, none)) =
        inl (implicit_does c d near z (λ r k. absurd (none_in r (subst (λ (xs : List ℕ). Contains xs r) none k))))

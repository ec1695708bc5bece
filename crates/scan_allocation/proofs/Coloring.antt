-- The allocation is a coloring: where code sets a register, each other register that is live after it is elsewhere.
use Rattle.std.proofs.Common.{◌≡◌, inl, inr, ℕ, zero, suc, ◌<◌, ◌≤◌, List, []}
use Rattle.std.proofs.Common.{◌∷◌, drop, Contains, Option, Some, None, Bool, true, false, ◌&&◌, ◌||◌}
use Rattle.std.proofs.Common.{nat_le, nat_eq, eq-eqb, slice_get, refl, sym, ap, ◌∙◌, subst, arith}
use Rattle.std.specs.List.{list_any}
use Rattle.std.proofs.lemmas.Bool.{cases_eq, or_left, or_right, le-leb, and_from}
use Rattle.rv64_instr.specs.declared.operand.Operand.{Operand}
use Rattle.rv64_instr.specs.declared.operand.Operand.TheVariants.{Use}
use Rattle.rv64_instr.specs.declared.place.Place.{Place}
use Rattle.rv64_instr.specs.declared.place.Place.TheVariants.{Register}
use Rattle.rv64_instr.specs.DefsAndUses.{reads}
use Rattle.rv64_instr.specs.Instruction.{Instruction}
use Rattle.rv64_instr.specs.LocationEffects.{has_implicit_uses, defines_of}
use Rattle.rv64_instr.specs.Row.{Row, Moves, row_of, implicit_uses}
use Rattle.mir_func.specs.declared.block.Block.{Block}
use Rattle.mir_func.specs.declared.debug_substitution.OperandPair.{OperandPair}
use Rattle.mir_func.specs.declared.item.Item.{Item}
use Rattle.mir_func.specs.declared.item.ItemKind.{ItemKind}
use Rattle.mir_func.specs.declared.item.ItemKind.TheVariants.{Code, Mark, Phi}
use Rattle.mir_func.specs.declared.position.Pos.{Pos}
use Rattle.mir_func.specs.declared.position.Origin.TheVariants.{Before}
use Rattle.mir_func.specs.Function.{Function}
use Rattle.mir_func.specs.Graph.{Program, Fetch, Here, EndOfBlock, Outside, fetch_in, from_block, program_of}
use Rattle.mir_func.specs.Sound.{items_of, HasForm, AllItems}
use Rattle.scan_intervals.specs.sem_mir.Live.{Defines, KindDefines}
use Rattle.scan_intervals.specs.pass_liveness.Liveness.{LivePast}
use Rattle.scan_intervals.specs.pass_trait.Causes.{names, scratch_of}
use Rattle.scan_intervals.proofs.pass_trait.Thinning.{first_of_front}
use Rattle.spill_select.specs.spill_rule.Choice.{is_added, lacks_scratch}
use Rattle.spill_select.proofs.spill_rule.Chosen.{item_in}
use Rattle.spill_select.specs.spill_simulation.MaySpill.{uses_in}
use Rattle.spill_select.proofs.spill_simulation.Explicit.{explicit}
use Rattle.spill_select.proofs.spill_simulation.Near.{uses_implicit, reads_either}
use Rattle.spill_select.proofs.spill_simulation.Places.{stands_at, holds_at, contains_at}
use Rattle.scan_intervals.specs.declared.interval.LiveInterval.{LiveInterval}
use Rattle.scan_intervals.specs.Liveness.{at_starts}
use Rattle.scan_intervals.specs.Points.{CodePoint, points_of}
use Rattle.scan_intervals.specs.Intervals.{touches, is_blocked}
use Rattle.scan_intervals.proofs.Indices.{touched_within, clear_at}
use Rattle.scan_intervals.proofs.Standing.{point_at}
use Rattle.scan_intervals.proofs.After.{decided_starts, after_live}
use Rattle.scan_allocation.specs.declared.assignment.RegisterAssignment.{RegisterAssignment}
use Rattle.scan_allocation.specs.Walk.{order_without, given_to}
use Rattle.scan_allocation.specs.Allocation.{is_virtual, names_virtual, adds_virtual, is_crowded, stays, assignments_of, given_unless, IsAllocation}
use Rattle.scan_allocation.specs.Coloring.{now_by, now, IsColoring}
use Rattle.scan_allocation.specs.Laws.{AllocationIsColoring}
use Rattle.scan_allocation.proofs.Walking.{Gets, given_gets, gets_clear, one_register, all_proper}
use Rattle.scan_allocation.proofs.AllocationOrder.{order_real}
use Rattle.scan_allocation.proofs.Explicit.{use_named}
use Rattle.scan_allocation.proofs.Named.{set_is_named, implicits_small, implicit_small}

not_both : {b : Bool} → b ≡ false → b ≡ true → ⊥
not_both e f = cc

-- ---- the code that stands at a position

record CodeAt (bs : List Block) (p : Pos) (i : Item) : Type 0 where
  block : Block
  others : List Block
  rest : List Item
  found : from_block bs p.block ≡ block ∷ others
  at : drop p.item block.items ≡ i ∷ rest

code_at : (bs : List Block) (p : Pos) (i : Item) → fetch_in (from_block bs p.block) p.item ≡ Here i → CodeAt bs p i
code_at bs p i e = by_blocks (from_block bs p.block) refl e where
  by_blocks : (fbs : List Block) → from_block bs p.block ≡ fbs → fetch_in fbs p.item ≡ Here i → CodeAt bs p i
  by_blocks [] h e = cc
  by_blocks (b ∷ cs) h e =
      let t = first_of_front (drop p.item b.items) b.source_end cs i e in
      record { block = b; others = cs; rest = t.0; found = h; at = t.1 }

-- what sets a place is code
record SetsAt (x : Fetch) (y : Place) : Type 0 where
  item : Item
  code : Instruction
  number : Option ℕ
  here : x ≡ Here item
  kind : item.kind ≡ Code code number
  sets : defines_of (row_of code) y ≡ true

sets_at : (x : Fetch) (y : Place) → Defines x y → SetsAt x y
sets_at (Here i) y d = by_kind i.kind refl d where
  by_kind : (k : ItemKind) → i.kind ≡ k → KindDefines k y → SetsAt (Here i) y
  by_kind (Code c n) e d = record { item = i; code = c; number = n; here = refl; kind = e; sets = d }
  by_kind (Mark v m) e d = absurd d
  by_kind (Phi q n) e d = absurd d
sets_at (EndOfBlock k n) y d = absurd d
sets_at Outside y d = absurd d

module _ (reserve : List ℕ) (f : Function) (resolve : OperandPair → Option OperandPair) (forms : AllItems (λ i. HasForm i.kind) f.blocks)
    (given : ℕ → Option ℕ) (a : IsAllocation reserve f given) where
  abbrev g : Program
  g = program_of false f.blocks resolve

  abbrev points : List CodePoint
  points = points_of (at_starts a.live) f.blocks

  abbrev order : List ℕ
  order = order_without reserve (scratch_of f)

  abbrev assignments : List RegisterAssignment
  assignments = assignments_of reserve points a.intervals f

  abbrev none_held : ℕ → ℕ
  none_held r = 0

  -- where a register gets another, the function doesn't stay as it is
  by_stays : (z : Bool) (r q : ℕ) → given_unless z assignments r ≡ Some q → (z ≡ false) × (given_to assignments r ≡ Some q)
  by_stays true r q e = cc
  by_stays false r q e = (refl, e)

  given_is : (r q : ℕ) → given r ≡ Some q → (stays f assignments ≡ false) × (given_to assignments r ≡ Some q)
  given_is r q e = by_stays (stays f assignments) r q (sym (ap (λ (h : ℕ → Option ℕ). h r) a.is) ∙ e)

  -- the interval of a register that gets one
  record Held (r q : ℕ) : Type 0 where
    interval : LiveInterval
    gets : Gets points order none_held a.intervals interval q
    member : Contains a.intervals interval
    register : interval.register ≡ r

  held : (r q : ℕ) → given r ≡ Some q → Held r q
  held r q e =
      let w = given_gets points order none_held a.intervals r q (given_is r q e).1 in
      record { interval = w.0; gets = w.1; member = w.2; register = w.3 }

  is_real : (r q : ℕ) → given r ≡ Some q → (32 ≤ r) × (4 < q) × (q < 32)
  is_real r q e =
      let h = held r q e in
      let virtual = ((a.are.each h.interval).0 h.member).0 in
      let same = h.register in
      let real = order_real reserve (scratch_of f) q (gets_clear points order none_held a.intervals h.interval q h.gets).1 in
      (omega (arith, virtual, same), real.0, real.1)

  -- ---- at a point

  module _ (k : ℕ) (p : CodePoint) (at : slice_get points k ≡ Some p) where
    -- a register that gets another has the point in its interval, where it touches it
    within : (r q : ℕ) (h : Held r q) → touches r p ≡ true → (h.interval.start ≤ k) × (k ≤ h.interval.end)
    within r q h t =
        touched_within points h.interval k p ((a.are.each h.interval).0 h.member).1 at (ap (λ (s : ℕ). touches s p) h.register ∙ t)

    -- and then its physical register isn't blocked there
    unblocked : (r q : ℕ) → given r ≡ Some q → touches r p ≡ true → is_blocked q p ≡ true → ⊥
    unblocked r q e t b =
        let h = held r q e in
        let w = within r q h t in
        let clear = (gets_clear points order none_held a.intervals h.interval q h.gets).0 in
        not_both (clear_at points h.interval q k p clear w.0 w.1 at) b

    -- two registers that touch the point don't get one register
    two_apart : (r s q : ℕ) → given r ≡ Some q → given s ≡ Some q → touches r p ≡ true → touches s p ≡ true → r ≡ s
    two_apart r s q e e' t t' =
        let h = held r q e in
        let h' = held s q e' in
        let w = within r q h t in
        let w' = within s q h' t' in
        let low = w.0 in
        let high = w.1 in
        let low' = w'.0 in
        let high' = w'.1 in
        elim (one_register points order none_held a.intervals h.interval h'.interval q (all_proper points a.intervals a.are) h.gets h'.gets)
        as (λ _. r ≡ s) [
          | inl same ↦ sym h.register ∙ ap (λ (i : LiveInterval). i.register) same ∙ h'.register
          | inr ends ↦ elim ends as (λ _. r ≡ s) [
            | inl lt ↦ absurd (omega (arith, lt, high, low'))
            | inr lt ↦ absurd (omega (arith, lt, high', low))
          ]
        ]

    -- two registers that touch the point if they are virtual, and block it if they are physical, are in two places
    apart_by : (s r : ℕ) (x y : Option ℕ) → given s ≡ x → given r ≡ y → ((q : ℕ) → given s ≡ Some q → touches s p ≡ true) →
        ((q : ℕ) → given r ≡ Some q → touches r p ≡ true) → is_blocked s p ≡ true → is_blocked r p ≡ true → (s ≡ r → ⊥) → now_by s x ≡ now_by r y → ⊥
    apart_by s r None None e e' t t' b b' other same = other same
    apart_by s r (Some q) None e e' t t' b b' other same = unblocked s q e (t q e) (subst (λ (z : ℕ). is_blocked z p ≡ true) (sym same) b')
    apart_by s r None (Some q) e e' t t' b b' other same = unblocked r q e' (t' q e') (subst (λ (z : ℕ). is_blocked z p ≡ true) same b)
    apart_by s r (Some q) (Some q') e e' t t' b b' other same =
        other (two_apart s r q e (e' ∙ ap Some (sym same)) (t q e) (t' q' e'))

    named_blocks : (r : ℕ) → names r (Code p.code None) ≡ true → is_blocked r p ≡ true
    named_blocks r e = or_left (names r (Code p.code None)) (defines_of (row_of p.code) (Register r) || p.after r) e

    named_touches : (r : ℕ) → names r (Code p.code None) ≡ true → touches r p ≡ true
    named_touches r e = or_left (names r (Code p.code None)) (p.before r || p.after r) e

    set_blocks : (s : ℕ) → defines_of (row_of p.code) (Register s) ≡ true → is_blocked s p ≡ true
    set_blocks s sets = or_right (names s (Code p.code None)) (defines_of (row_of p.code) (Register s) || p.after s)
        (or_left (defines_of (row_of p.code) (Register s)) (p.after s) sets)

    set_touches : (s q : ℕ) → HasForm (Code p.code None) → defines_of (row_of p.code) (Register s) ≡ true → given s ≡ Some q → touches s p ≡ true
    set_touches s q form sets e = elim (set_is_named p.code s form sets) as (λ _. touches s p ≡ true) [
      | inl named ↦ named_touches s named
      | inr small ↦ (let virtual = (is_real s q e).0 in absurd (omega (arith, small, virtual)))
    ]

    -- s is set at the point, and r is live after it
    live_apart : (s r : ℕ) → HasForm (Code p.code None) → defines_of (row_of p.code) (Register s) ≡ true → p.after r ≡ true → (s ≡ r → ⊥) →
        now given s ≡ now given r → ⊥
    live_apart s r form sets alive other same =
        apart_by s r (given s) (given r) refl refl (λ q e. set_touches s q form sets e)
        (λ q e. or_right (names r (Code p.code None)) (p.before r || p.after r) (or_right (p.before r) (p.after r) alive))
        (set_blocks s sets)
        (or_right (names r (Code p.code None)) (defines_of (row_of p.code) (Register r) || p.after r)
        (or_right (defines_of (row_of p.code) (Register r)) (p.after r) alive))
        other same

    -- nothing else gets x0
    zero_apart : (s : ℕ) → (s ≡ 0 → ⊥) → now given s ≡ now given 0 → ⊥
    zero_apart s other same = by_given (given s) (given 0) refl refl same where
      by_given : (x y : Option ℕ) → given s ≡ x → given 0 ≡ y → now_by s x ≡ now_by 0 y → ⊥
      by_given x (Some q) e e' same = let bad = (is_real 0 q e').0 in omega (arith, bad)
      by_given None None e e' same = other same
      by_given (Some q) None e e' same = let is : q ≡ 0 = same in let above = (is_real s q e).1 in omega (arith, is, above)

    -- s is set by a copy of r
    copy_apart : (s r : ℕ) → HasForm (Code p.code None) → row_of p.code ≡ Moves s r → (s ≡ r → ⊥) → now given s ≡ now given r → ⊥
    copy_apart s r form copy other same =
        elim (cases_eq r 0) as (λ _. ⊥) [
          | inl z ↦ zero_apart s (λ e. other (e ∙ sym z)) (same ∙ ap (now given) z)
          | inr ne ↦ named_copy ne
        ] where
          sets : defines_of (row_of p.code) (Register s) ≡ true
          sets = ap (λ (x : Row). defines_of x (Register s)) copy ∙ or_left (nat_eq s s) false (eq-eqb s s refl)

          plain : has_implicit_uses (row_of p.code) ≡ false
          plain = ap has_implicit_uses copy

          reading : Contains (reads (row_of p.code)) r
          reading = subst (λ (x : Row). Contains (reads x) r) (sym copy) (0, omega arith, refl)

          named_copy : (r ≡ 0 → ⊥) → ⊥
          named_copy ne =
              let read : names r (Code p.code None) ≡ true =
              use_named (has_implicit_uses (row_of p.code)) p.code.operands r ((explicit p.code form).reads_used plain r reading ne) in
              apart_by s r (given s) (given r) refl refl (λ q e. set_touches s q form sets e) (λ q e. named_touches r read) (set_blocks s sets)
              (named_blocks r read) other same

  -- ---- at a position

  form_at : (p : Pos) (i : Item) → g.fetch p ≡ Here i → HasForm i.kind
  form_at p i e = holds_at (λ b x. HasForm x.kind) f.blocks forms p i (stands_at false f.blocks resolve p i e)

  is_apart : (p : Pos) (s r : ℕ) → Defines (g.fetch p) (Register s) → (Defines (g.fetch p) (Register r) → ⊥) → LivePast g (Register r) p →
      now given s ≡ now given r → ⊥
  is_apart p s r d none alive same =
      let here = sets_at (g.fetch p) (Register s) d in
      let w = code_at f.blocks p here.item here.here in
      let point = point_at (at_starts a.live) f.blocks p.block p.item w.block w.others here.item w.rest here.code here.number w.found w.at here.kind in
      let after = after_live f.blocks resolve a.live (decided_starts f a.live resolve a.decides) r p w.block w.others here.item w.rest w.found w.at alive in
      let form : HasForm (Code here.code None) = subst HasForm here.kind (form_at p here.item here.here) in
      live_apart point.index point.point point.at s r
      (subst (λ (c : Instruction). HasForm (Code c None)) (sym point.code_is) form)
      (ap (λ (c : Instruction). defines_of (row_of c) (Register s)) point.code_is ∙ here.sets)
      (ap (λ (h : ℕ → Bool). h r) point.after_is ∙ after)
      (λ e. none (subst (λ (t : ℕ). Defines (g.fetch p) (Register t)) e d)) same

  is_copied : (p : Pos) (i : Item) (code : Instruction) (k : Option ℕ) (rd rs : ℕ) → g.fetch p ≡ Here i → i.kind ≡ Code code k →
      row_of code ≡ Moves rd rs → (rd ≡ rs → ⊥) → now given rd ≡ now given rs → ⊥
  is_copied p i code k rd rs at kind copy other same =
      let w = code_at f.blocks p i at in
      let point = point_at (at_starts a.live) f.blocks p.block p.item w.block w.others i w.rest code k w.found w.at kind in
      let form : HasForm (Code code None) = subst HasForm kind (form_at p i at) in
      copy_apart point.index point.point point.at rd rs
      (subst (λ (c : Instruction). HasForm (Code c None)) (sym point.code_is) form)
      (ap (λ (c : Instruction). row_of c) point.code_is ∙ copy) other same

  -- ---- what calls, returns and added code read

  use_virtual : (os : List Operand) (r : ℕ) → Contains (uses_in os) r → 32 ≤ r → list_any is_virtual os ≡ true
  use_virtual [] r (k, lt, at) le = absurd (omega (arith, lt))
  use_virtual (Use q ∷ os) r (zero, lt, at) le = or_left (nat_le 32 q) (list_any is_virtual os) (le-leb 32 q (omega (arith, at, le)))
  use_virtual (Use q ∷ os) r (suc k, lt, at) le =
      or_right (nat_le 32 q) (list_any is_virtual os) (use_virtual os r (k, omega (arith, lt), at) le)
  use_virtual (x ∷ os) r c le = or_right (is_virtual x) (list_any is_virtual os) (use_virtual os r c le)

  any_by : (test : Item → Bool) (xs : List Item) (x : Item) → Contains xs x → test x ≡ true → list_any test xs ≡ true
  any_by test [] x (k, lt, e) h = absurd (omega (arith, lt))
  any_by test (y ∷ ys) x (zero, lt, e) h = or_left (test y) (list_any test ys) (ap test e ∙ h)
  any_by test (y ∷ ys) x (suc k, lt, e) h = or_right (test y) (list_any test ys) (any_by test ys x (k, omega (arith, lt), e) h)

  second_false : (x y z : Bool) → (x || (y || z)) ≡ false → y ≡ false
  second_false true y z e = cc
  second_false false true z e = cc
  second_false false false z e = refl

  -- added code reads no virtual register, where some register gets another
  added_plain : (p : Pos) (i : Item) (code : Instruction) (k : Option ℕ) (o : Pos) (r q : ℕ) → g.fetch p ≡ Here i → i.kind ≡ Code code k →
      i.origin ≡ Before o → Contains (reads (row_of code)) r → given r ≡ Some q → ⊥
  added_plain p i code k o r q at kind origin c e =
      elim (reads_either (row_of code) r c) as (λ _. ⊥) [
        | inl u ↦ by_use ((explicit code form).explicit_used r u (λ z. omega (arith, z, virtual)))
        | inr u ↦ (let small = implicit_small code form r u in omega (arith, small, virtual))
      ] where
        form : HasForm (Code code k)
        form = subst HasForm kind (form_at p i at)

        virtual : 32 ≤ r
        virtual = (is_real r q e).0

        by_use : Contains (uses_in code.operands) r → ⊥
        by_use used =
            let v = stands_at false f.blocks resolve p i at in
            let member = item_in f.blocks v.block i v.member (contains_at v.block.items p.item i v.at) in
            let named : names_virtual i.kind ≡ true = ap names_virtual kind ∙ use_virtual code.operands r used virtual in
            let added : is_added i.origin ≡ true = ap is_added origin in
            let some : adds_virtual f ≡ true =
            any_by (λ (x : Item). is_added x.origin && names_virtual x.kind) (items_of f.blocks) i member
            (and_from (is_added i.origin) (names_virtual i.kind) added named)
            in
            not_both (second_false (lacks_scratch f) (adds_virtual f) (is_crowded f assignments) (given_is r q e).0) some

  unless_given : (r : ℕ) → ((q : ℕ) → given r ≡ Some q → ⊥) → given r ≡ None
  unless_given r none = by_given (given r) refl where
    by_given : (x : Option ℕ) → given r ≡ x → x ≡ None
    by_given None e = refl
    by_given (Some q) e = absurd (none q e)

  is_implicit : (p : Pos) (i : Item) (code : Instruction) (k : Option ℕ) → g.fetch p ≡ Here i → i.kind ≡ Code code k →
      has_implicit_uses (row_of code) ≡ true → (r : ℕ) → Contains (implicit_uses code.operands) r → given r ≡ None
  is_implicit p i code k at kind implied r c = unless_given r (λ q e. by_some q e) where
    by_some : (q : ℕ) → given r ≡ Some q → ⊥
    by_some q e =
        let form : HasForm (Code code k) = subst HasForm kind (form_at p i at) in
        let small = implicits_small code form implied r (uses_implicit code.operands r c) in
        let virtual = (is_real r q e).0 in
        omega (arith, small, virtual)

  is_added_plain : (p : Pos) (i : Item) (code : Instruction) (k : Option ℕ) (o : Pos) → g.fetch p ≡ Here i → i.kind ≡ Code code k →
      i.origin ≡ Before o → (r : ℕ) → Contains (reads (row_of code)) r → given r ≡ None
  is_added_plain p i code k o at kind origin r c = unless_given r (λ q e. added_plain p i code k o r q at kind origin c e)

  pub is_coloring : IsColoring g given
  is_coloring = record { real = is_real; apart = is_apart; copies = is_copied; implicit = is_implicit; added = is_added_plain }

pub allocation_is_coloring : AllocationIsColoring
allocation_is_coloring reserve f given resolve forms a = is_coloring reserve f resolve forms given a

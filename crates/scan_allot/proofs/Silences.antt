-- A register is stale where the rule says that its place may have another value.
use Rattle.std.proofs.Common.{◌≡◌, ◌⊎◌, inl, inr, ◌↔◌, ℕ, zero, suc, ◌≤◌, List, [], ◌∷◌, Contains, Option, Some, None, is_some, Bool, true, false}
use Rattle.std.proofs.Common.{◌&&◌, ◌||◌, not, nat_eq, nat_le, refl, sym, ap, ◌∙◌, subst, arith}
use Rattle.std.specs.List.{list_any}
use Rattle.std.proofs.lemmas.Bool.{and_parts, eq-eqb, eqb-true, leb-true, le-leb}
use Rattle.rv64_instr.specs.declared.place.Place.{Place}
use Rattle.rv64_instr.specs.declared.place.Place.TheVariants.{Register}
use Rattle.rv64_instr.specs.DefsAndUses.{sets}
use Rattle.rv64_instr.specs.Row.{row_of}
use Rattle.mir_func.specs.declared.debug_substitution.DebugSubstitution.{DebugSubstitution}
use Rattle.mir_func.specs.declared.debug_substitution.OperandPair.{OperandPair}
use Rattle.mir_func.specs.declared.item.Item.{Item}
use Rattle.mir_func.specs.declared.item.ItemKind.{ItemKind}
use Rattle.mir_func.specs.declared.item.ItemKind.TheVariants.{Code, Mark, Phi}
use Rattle.mir_func.specs.declared.position.Pos.{Pos}
use Rattle.mir_func.specs.Function.{Function}
use Rattle.mir_func.specs.Graph.{Program, Fetch, Here, EndOfBlock, Outside, Edge, block_start, program_of}
use Rattle.mir_func.specs.Resolve.{resolve}
use Rattle.sem_mir.specs.InitialState.{first_of}
use Rattle.sem_mir.specs.Live.{Defines, KindDefines}
use Rattle.sem_mir.proofs.Places.{in_any, any_in}
use Rattle.pass_trait.specs.Causes.{is_named, Comes, begins, goes_on}
use Rattle.pass_trait.specs.Change.{change}
use Rattle.scan_debug.specs.scan_allocation.Coloring.{now}
use Rattle.scan_debug.specs.scan_rule.Rewrite.{allotted}
use Rattle.scan_debug.specs.scan_rule.Silence.{SetsAnother, Overwritten, Unset, IsSilent}
use Rattle.scan_debug.specs.scan_rule.Step.{DecidesSilence}
use Rattle.scan_stale.specs.Flow.{Places, takes_place, sets_other, is_unset, takes_at, BeginsStale, IsStale}
use Rattle.scan_stale.specs.Sets.{stale_of, StaleSets, starts_of, AreStaleSets}
use Rattle.scan_allot.specs.Silent.{is_silent, silent_by}

or_cases : (a b : Bool) → (a || b) ≡ true → (a ≡ true) ⊎ (b ≡ true)
or_cases true b e = inl refl
or_cases false b e = inr e

or_left : (a b : Bool) → a ≡ true → (a || b) ≡ true
or_left true b e = refl
or_left false b e = absurd cc

or_right : (a b : Bool) → b ≡ true → (a || b) ≡ true
or_right true b e = refl
or_right false b e = e

and_both : (a b : Bool) → a ≡ true → b ≡ true → (a && b) ≡ true
and_both true true e f = refl
and_both true false e f = f
and_both false b e f = e

not_true : (b : Bool) → (not b) ≡ true → b ≡ true → ⊥
not_true true e h = cc
not_true false e h = cc

true_not : (b : Bool) → (b ≡ true → ⊥) → (not b) ≡ true
true_not true h = absurd (h refl)
true_not false h = refl

is_false : (b : Bool) → (not b) ≡ true → b ≡ false
is_false true e = cc
is_false false e = refl

none_true : (b : Bool) → b ≡ false → (not b) ≡ true
none_true true e = cc
none_true false e = refl

-- ---- what takes a register's place

module _ (given : ℕ → Option ℕ) (r : ℕ) where
  abbrev Another : List ℕ → Type 0
  Another rs = (s : ℕ) × Contains rs s × (now given s ≡ now given r)

  another : (rs : List ℕ) → list_any (λ s. nat_eq (now given s) (now given r)) rs ≡ true → Another rs
  another [] e = cc
  another (s ∷ rs) e =
      elim (or_cases (nat_eq (now given s) (now given r)) (list_any (λ s. nat_eq (now given s) (now given r)) rs) e) as (λ _. Another (s ∷ rs)) [
        | inl h ↦ (s, (0, omega arith, refl), eqb-true (now given s) (now given r) h)
        | inr h ↦ (let w = another rs h in let c = w.1 in (w.0, (suc c.0, (let lt = c.1 in omega (arith, lt)), c.2), w.2))
      ]

  any_another : (rs : List ℕ) (s : ℕ) → Contains rs s → now given s ≡ now given r → list_any (λ s. nat_eq (now given s) (now given r)) rs ≡ true
  any_another [] s (k, lt, e) same = absurd (omega (arith, lt))
  any_another (q ∷ rs) s (zero, lt, e) same =
      or_left (nat_eq (now given q) (now given r)) (list_any (λ s. nat_eq (now given s) (now given r)) rs)
      (eq-eqb (now given q) (now given r) (ap (now given) e ∙ same))
  any_another (q ∷ rs) s (suc k, lt, e) same =
      or_right (nat_eq (now given q) (now given r)) (list_any (λ s. nat_eq (now given s) (now given r)) rs)
      (any_another rs s (k, omega (arith, lt), e) same)

  -- of an item's kind
  kind_sets : (k : ItemKind) → sets_other given k (Register r) ≡ true →
      (s : ℕ) × (now given s ≡ now given r) × KindDefines k (Register s) × (KindDefines k (Register r) → ⊥)
  kind_sets (Code i n) e =
      let rs : List ℕ = sets (row_of i) in
      let both = and_parts (list_any (λ s. nat_eq (now given s) (now given r)) rs) (not (list_any (nat_eq r) rs)) e in
      let w = another rs both.0 in
      (w.0, w.2, in_any w.0 rs w.1, (λ d. not_true (list_any (nat_eq r) rs) both.1 d))
  kind_sets (Mark v m) e = cc
  kind_sets (Phi p n) e = cc

  sets_kind : (k : ItemKind) (s : ℕ) → now given s ≡ now given r → KindDefines k (Register s) → (KindDefines k (Register r) → ⊥) →
      sets_other given k (Register r) ≡ true
  sets_kind (Code i n) s same d unset =
      let rs : List ℕ = sets (row_of i) in
      and_both (list_any (λ s. nat_eq (now given s) (now given r)) rs) (not (list_any (nat_eq r) rs)) (any_another rs s (any_in s rs d) same)
      (true_not (list_any (nat_eq r) rs) (λ h. unset h))
  sets_kind (Mark v m) s same d unset = absurd d
  sets_kind (Phi p n) s same d unset = absurd d

  fetch_sets : (z : Fetch) → takes_at given z (Register r) ≡ true →
      (s : ℕ) × (now given s ≡ now given r) × Defines z (Register s) × (Defines z (Register r) → ⊥)
  fetch_sets (Here i) e = kind_sets i.kind e
  fetch_sets (EndOfBlock k n) e = cc
  fetch_sets Outside e = cc

  sets_fetch : (z : Fetch) (s : ℕ) → now given s ≡ now given r → Defines z (Register s) → (Defines z (Register r) → ⊥) → takes_at given z (Register r) ≡ true
  sets_fetch (Here i) s same d unset = sets_kind i.kind s same d unset
  sets_fetch (EndOfBlock k n) s same d unset = absurd d
  sets_fetch Outside s same d unset = absurd d

some_given : (o : Option ℕ) → is_some o ≡ true → (q : ℕ) × (o ≡ Some q)
some_given None e = cc
some_given (Some q) e = (q, refl)

given_some : (o : Option ℕ) (q : ℕ) → o ≡ Some q → is_some o ≡ true
given_some None q e = cc
given_some (Some p) q e = refl

-- ---- paths

module _ (g : Program) (Stops : Pos → Type 0) where
  -- a path from either
  split : {A B : Pos → Type 0} {at : Pos} → Comes g (λ q. A q ⊎ B q) Stops at → Comes g A Stops at ⊎ Comes g B Stops at
  split {A} {B} {at} (begins (inl h)) = inl (begins h)
  split {A} {B} {at} (begins (inr h)) = inr (begins h)
  split {A} {B} {at} (goes_on {p} before stays edge) = elim (split before) as (λ _. Comes g A Stops at ⊎ Comes g B Stops at) [
    | inl c ↦ inl (goes_on c stays edge)
    | inr c ↦ inr (goes_on c stays edge)
  ]

  mapped : {A B : Pos → Type 0} → ((q : Pos) → A q → B q) → {at : Pos} → Comes g A Stops at → Comes g B Stops at
  mapped to {at} (begins h) = begins (to at h)
  mapped to {at} (goes_on {p} before stays edge) = goes_on (mapped to before) stays edge

  -- what holds wherever it begins
  begun_with : {A : Pos → Type 0} (U : Type 0) → ((q : Pos) → A q → U) → {at : Pos} → Comes g A Stops at → U
  begun_with U holds {at} (begins h) = holds at h
  begun_with U holds {at} (goes_on {p} before stays edge) = begun_with U holds before

-- ---- the rule

module _ (f : Function) (given : ℕ → Option ℕ) (pairs : OperandPair → Option OperandPair) (r : ℕ) where
  abbrev g : Program
  g = program_of false f.blocks pairs

  abbrev start : Pos
  start = block_start (first_of f.blocks)

  abbrev Stops : Pos → Type 0
  Stops p = Defines ((program_of false f.blocks pairs).fetch p) (Register r)

  stale_is : (at : Pos) → IsStale (program_of false f.blocks pairs) (block_start (first_of f.blocks)) given (Register r) at →
      ((q : ℕ) × (given r ≡ Some q) × Unset (program_of false f.blocks pairs) given (block_start (first_of f.blocks)) r at) ⊎
      Overwritten (program_of false f.blocks pairs) given r at
  stale_is at c = elim (split g Stops c)
      as (λ _. ((q : ℕ) × (given r ≡ Some q) × Unset (program_of false f.blocks pairs) given (block_start (first_of f.blocks)) r at) ⊎
      Overwritten (program_of false f.blocks pairs) given r at) [
        | inl h ↦
            let w = some_given (given r) (begun_with g Stops (is_unset given (Register r) ≡ true) (λ q b. b.0) h) in
            inl (w.0, w.1, mapped g Stops (λ q b. b.1) h)
        | inr h ↦ inr (mapped g Stops (λ q b. (b.0, fetch_sets given r (g.fetch b.0) b.1, b.2)) h)
      ]

  is_stale : (at : Pos) → ((q : ℕ) × (given r ≡ Some q) × Unset (program_of false f.blocks pairs) given (block_start (first_of f.blocks)) r at) ⊎
      Overwritten (program_of false f.blocks pairs) given r at →
      IsStale (program_of false f.blocks pairs) (block_start (first_of f.blocks)) given (Register r) at
  is_stale at (inl (q, e, c)) = mapped g Stops (λ p is. inl (given_some (given r) q e, is)) c
  is_stale at (inr c) =
      mapped g Stops (λ p b. (let w = b.1 in inr (b.0, sets_fetch given r (g.fetch b.0) w.0 w.1 w.2 w.3, b.2))) c

-- the test is right of debug values and DBG_PHIs
pub decides : (f : Function) (given : ℕ → Option ℕ) (w : StaleSets) → AreStaleSets f given w → (subs : List DebugSubstitution) →
    DecidesSilence (change f subs (allotted given (silent_by f given (starts_of f given w)) f) subs) given (silent_by f given (starts_of f given w))
decides f given w sets subs at i r stands asks = (there, back) where
  there : (is_silent f (stale_of given f (starts_of f given w) at) r ≡ true) →
      IsSilent (program_of false f.blocks (resolve subs)) f given r at
  there e = elim (or_cases (nat_le 32 r && not (is_named f r)) (stale_of given f (starts_of f given w) at (Register r)) e)
      as (λ _. IsSilent (program_of false f.blocks (resolve subs)) f given r at) [
        | inl h ↦
            let both = and_parts (nat_le 32 r) (not (is_named f r)) h in
            inl (leb-true 32 r both.0, is_false (is_named f r) both.1)
        | inr h ↦ inr (stale_is f given (resolve subs) r at ((sets.exact at (Register r) (resolve subs)).0 h))
      ]

  back : IsSilent (program_of false f.blocks (resolve subs)) f given r at → is_silent f (stale_of given f (starts_of f given w) at) r ≡ true
  back (inl (low, none)) =
      or_left (nat_le 32 r && not (is_named f r)) (stale_of given f (starts_of f given w) at (Register r))
      (and_both (nat_le 32 r) (not (is_named f r)) (le-leb 32 r low) (none_true (is_named f r) none))
  back (inr h) =
      or_right (nat_le 32 r && not (is_named f r)) (stale_of given f (starts_of f given w) at (Register r))
      ((sets.exact at (Register r) (resolve subs)).1 (is_stale f given (resolve subs) r at h))

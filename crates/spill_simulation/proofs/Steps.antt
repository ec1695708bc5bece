-- Single steps: where control goes from an item, what is live before it, and what plain code and added code may do.
use Rattle.std.proofs.Common.{◌≡◌, ◌⊎◌, ℕ, zero, suc, [], ◌∷◌, Contains, Option, Some, None, Bool, true, false, cond, ◌||◌, ◌&&◌, nat_eq, refl, sym, ap, ◌∙◌}
use Rattle.std.proofs.Common.{subst, inl, inr, eq-eqb, eqb-true, arith}
use Rattle.std.specs.List.{list_any}
use Rattle.std.proofs.lemmas.Bool.{or_left, or_right}
use Rattle.std.proofs.lemmas.Map.Views.{Contains-from_any}
use Rattle.rv64_instr.specs.Row.{Input, Content, Number, PartOf}
use Rattle.rv64_instr.specs.Row.{Base, PointedBy, ObjectAt, BesidePart}
use Rattle.rv64_instr.specs.Row.{Callee, Named, Held}
use Rattle.rv64_instr.specs.declared.place.Place.{Place}
use Rattle.rv64_instr.specs.declared.place.Place.TheVariants.{Register}
use Rattle.rv64_instr.specs.DefsAndUses.{reads, sets, input_reads, base_reads, callee_reads}
use Rattle.rv64_instr.specs.Instruction.{Instruction}
use Rattle.rv64_instr.specs.LocationEffects.{is_call, has_implicit_uses, first_use, second_use, input_place, base_place, callee_place, is_register, is_implicit_use}
use Rattle.rv64_instr.specs.Row.{Row, Fixes, Moves, Sets, Addresses, Loads, Stores, LoadsSlot, StoresSlot, Branches, Jumps, Calls, Returns, Unfit, row_of}
use Rattle.mir_func.specs.declared.position.Pos.{Pos}
use Rattle.mir_func.specs.declared.item.Item.{Item}
use Rattle.mir_func.specs.declared.item.ItemKind.{ItemKind}
use Rattle.mir_func.specs.declared.item.ItemKind.TheVariants.{Code, Mark, Phi}
use Rattle.mir_func.specs.Graph.{Program, Fetch, Here, below, block_start, Edge, FetchEdge}
use Rattle.sem_mir.specs.Align.{is_code, is_jump_row}
use Rattle.sem_mir.specs.Effects.{OnCore}
use Rattle.sem_mir.specs.Follow.{HasClass, ItemHasClass}
use Rattle.rv64_instr.specs.View.{Plain, class_of}
use Rattle.sem_mir.specs.Live.{Live, used, later, Uses, Defines, KindUses, KindDefines}
use Rattle.sem_mir.specs.State.{Core, State}
use Rattle.sem_mir.specs.Step.{Outcome, Falls, Goes, Gives, Traps, Asks, Breaks, Went}
use Rattle.sem_mir.specs.Step.{Faulted, moved, act, does, are_written, with_core, numbered, slot_loaded}
use Rattle.sem_mir.specs.Step.{do_item, step}
use Rattle.sem_mir.proofs.Edges.{step_edge}
use Rattle.sem_mir.proofs.Outcomes.{step_item}
use Rattle.sem_simulation.specs.Added.{IsPlain}
use Rattle.spill_simulation.proofs.Explicit.{explicit_reads}
use Rattle.spill_simulation.proofs.Near.{none_in, Untold, act_untold}
use Rattle.spill_simulation.proofs.Rows.{renamed_row}

-- ---- edges

module _ (f : Program) (p : Pos) (x : Item) (at : f.fetch p ≡ Here x) (c : Core) where
  pub falls_edge : (e : Core) → do_item f x.kind c ≡ Falls e → Edge f p (below p)
  falls_edge e go = step_edge f (record { pos = p; core = c }) (record { pos = below p; core = e })
      (step_item f (record { pos = p; core = c }) x (Falls e) at go)

  pub goes_edge : (n : ℕ) (e : Core) → do_item f x.kind c ≡ Goes n e → Edge f p (block_start (f.enter n))
  goes_edge n e go =
      step_edge f (record { pos = p; core = c }) (record { pos = block_start (f.enter n); core = e })
      (step_item f (record { pos = p; core = c }) x (Goes n e) at go)

pub debug_edge : (f : Program) (p : Pos) (x : Item) → f.fetch p ≡ Here x → is_code x.kind ≡ false → Edge f p (below p)
debug_edge f p x at z = subst (λ (y : Fetch). FetchEdge f.enter y p (below p)) (sym at) (by_kind x.kind z) where
  by_kind : (k : ItemKind) → is_code k ≡ false → FetchEdge f.enter (Here (record x { kind = k })) p (below p)
  by_kind (Code i n) e = cc
  by_kind (Mark v m) e = refl
  by_kind (Phi q n) e = refl

-- ---- liveness

pub live_on : (f : Program) (r : ℕ) (p q : Pos) (x : Item) → f.fetch p ≡ Here x → (KindDefines x.kind (Register r) → ⊥) → Edge f p q → Live f (Register r) q →
    Live f (Register r) p
live_on f r p q x at none edge live = later (λ d. none (subst (λ (y : Fetch). Defines y (Register r)) at d)) edge live

pub debug_defines : (k : ItemKind) (x : Place) → is_code k ≡ false → KindDefines k x → ⊥
debug_defines (Code i n) x z d = cc
debug_defines (Mark v m) x z d = d
debug_defines (Phi p n) x z d = d

pub not_defined : (i : Instruction) (n : Option ℕ) (r : ℕ) → (Contains (sets (row_of i)) r → ⊥) → KindDefines (Code i n) (Register r) → ⊥
not_defined i n r out d = out (Contains-from_any {eq = nat_eq} eqb-true r (sets (row_of i)) d)

register_is : (q r : ℕ) → r ≡ q → is_register q (Some (Register r)) ≡ true
register_is q r e = eq-eqb q r (sym e)

one_is : (r q : ℕ) → Contains (r ∷ []) q → r ≡ q
one_is r q (zero, lt, e) = e
one_is r q (suc k, lt, e) = absurd (omega (arith, lt))

input_used : (b : Input) (q : ℕ) → Contains (input_reads b) q → is_register q (input_place b) ≡ true
input_used (Content r) q k = register_is q r (one_is r q k)
input_used (Number n) q k = absurd (none_in q k)
input_used (PartOf half y) q k = absurd (none_in q k)

base_used : (b : Base) (q : ℕ) → Contains (base_reads b) q → is_register q (base_place b) ≡ true
base_used (PointedBy r) q k = register_is q r (one_is r q k)
base_used (ObjectAt n) q k = absurd (none_in q k)
base_used (BesidePart r y) q k = register_is q r (one_is r q k)

-- the first place that it reads, or the second
explicit_used : (r : Row) (q : ℕ) → Contains (explicit_reads r) q → (is_register q (first_use r) || is_register q (second_use r)) ≡ true
explicit_used (Moves rd rs) q k = or_left (is_register q (Some (Register rs))) _ (register_is q rs (one_is rs q k))
explicit_used (Sets rd op a b) q (zero, lt, e) = or_left (is_register q (Some (Register a))) _ (register_is q a e)
explicit_used (Sets rd op a b) q (suc k, lt, e) =
    or_right (is_register q (Some (Register a))) (is_register q (input_place b)) (input_used b q (k, omega (arith, lt), e))
explicit_used (Loads rd op b o) q k = or_left (is_register q (base_place b)) _ (base_used b q k)
explicit_used (Stores op rs b o) q (zero, lt, e) = or_left (is_register q (Some (Register rs))) _ (register_is q rs e)
explicit_used (Stores op rs b o) q (suc k, lt, e) =
    or_right (is_register q (Some (Register rs))) (is_register q (base_place b)) (base_used b q (k, omega (arith, lt), e))
explicit_used (StoresSlot rs n) q k = or_left (is_register q (Some (Register rs))) _ (register_is q rs (one_is rs q k))
explicit_used (Branches op a b t) q (zero, lt, e) = or_left (is_register q (Some (Register a))) _ (register_is q a e)
explicit_used (Branches op a b t) q (suc k, lt, e) =
    or_right (is_register q (Some (Register a))) (is_register q (Some (Register b))) (register_is q b (one_is b q (k, omega (arith, lt), e)))
explicit_used (Calls call) q k = by_callee call.callee k where
  by_callee : (callee : Callee) → Contains (callee_reads callee) q → (is_register q (callee_place callee) || false) ≡ true
  by_callee (Named name) k = absurd (none_in q k)
  by_callee (Held r) k = or_left (is_register q (Some (Register r))) false (register_is q r (one_is r q k))
explicit_used (Returns v) q k = absurd (none_in q k)
explicit_used _ q k = absurd (none_in q k)

pub live_used : (f : Program) (r : ℕ) (p : Pos) (x : Item) (i : Instruction) (n : Option ℕ) → f.fetch p ≡ Here x → x.kind ≡ Code i n →
    Contains (explicit_reads (row_of i)) r → Live f (Register r) p
live_used f r p x i n at is k =
    used (subst (λ (y : Fetch). Uses y (Register r)) (sym at) (subst (λ (y : ItemKind). KindUses y (Register r)) (sym is)
    (or_left (is_register r (first_use (row_of i)) || is_register r (second_use (row_of i)))
    (has_implicit_uses (row_of i) && list_any (is_implicit_use r) i.operands) (explicit_used (row_of i) r k))))

-- ---- plain code

-- it falls through with the events that were, or stops
abbrev Quiet : Core → Outcome → Type 0
Quiet c (Falls e) = e.events ≡ c.events
Quiet c Traps = Unit {0}
Quiet c _ = ⊥

quiet_either : (c : Core) (b : Bool) (x y : Outcome) → Quiet c x → Quiet c y → Quiet c (cond b x y)
quiet_either c true x y a b = a
quiet_either c false x y a b = b

does_quiet : (r : Row) (c : Core) → class_of r ≡ Plain → Quiet c (does r c)
unfolding does
does_quiet (Fixes rd n) c e = refl
does_quiet (Moves rd rs) c e = refl
does_quiet (Sets rd op a b) c e = refl
does_quiet (Addresses rd n o) c e = refl
does_quiet (Loads rd op b o) c e = quiet_either c _ Traps (Falls _) tt refl
does_quiet (LoadsSlot rd n) c e = by_slot (c.slots n) where
  by_slot : (x : Option ℕ) → Quiet c (slot_loaded rd c x)
  by_slot None = tt
  by_slot (Some v) = refl
does_quiet (StoresSlot rs n) c e = refl
does_quiet _ c e = cc

pub act_quiet : (r : Row) (c : Core) → class_of r ≡ Plain → Quiet c (act r c)
unfolding act
act_quiet r c e = quiet_either c (are_written c (reads r)) (does r c) Traps (does_quiet r c e) tt

-- what sets a register and calls nothing is plain
pub setting_plain : (r : Row) (q : ℕ) → has_implicit_uses r ≡ false → Contains (sets r) q → class_of r ≡ Plain
setting_plain (Stores op rs b o) q i k = absurd (none_in q k)
setting_plain (StoresSlot rs n) q i k = absurd (none_in q k)
setting_plain (Branches op a b t) q i k = absurd (none_in q k)
setting_plain (Jumps t) q i k = absurd (none_in q k)
setting_plain (Calls call) q i k = cc
setting_plain (Returns v) q i k = cc
setting_plain Unfit q i k = absurd (none_in q k)
setting_plain _ q i k = refl

-- and it sets one
pub sets_one : (r : Row) (p q : ℕ) → has_implicit_uses r ≡ false → Contains (sets r) p → Contains (sets r) q → p ≡ q
sets_one (Fixes rd n) p q i k l = sym (one_is rd p k) ∙ one_is rd q l
sets_one (Moves rd rs) p q i k l = sym (one_is rd p k) ∙ one_is rd q l
sets_one (Sets rd op a b) p q i k l = sym (one_is rd p k) ∙ one_is rd q l
sets_one (Addresses rd n o) p q i k l = sym (one_is rd p k) ∙ one_is rd q l
sets_one (Loads rd op b o) p q i k l = sym (one_is rd p k) ∙ one_is rd q l
sets_one (LoadsSlot rd n) p q i k l = sym (one_is rd p k) ∙ one_is rd q l
sets_one (Calls call) p q i k l = cc
sets_one (Returns v) p q i k l = cc
sets_one _ p q i k l = absurd (none_in p k)

-- of the code itself, with its number
abbrev QuietMarks : Core → Outcome → Type 0
QuietMarks c (Falls e) = (e.events ≡ c.events) × (e.marks ≡ c.marks)
QuietMarks c Traps = Unit {0}
QuietMarks c _ = ⊥

pub plain_quiet : (g : Program) (i : Instruction) (n : Option ℕ) (c : Core) → class_of (row_of i) ≡ Plain → QuietMarks c (do_item g (Code i n) c)
plain_quiet g i n c e = by_outcome (act (row_of i) c) (act_quiet (row_of i) c e) (act_untold (row_of i) c) where
  by_number : (m : Option ℕ) (x : Core) → x.events ≡ c.events → x.marks ≡ c.marks →
      ((numbered g.sees_pointer (is_call (row_of i)) m i.operands x).events ≡ c.events) ×
      ((numbered g.sees_pointer (is_call (row_of i)) m i.operands x).marks ≡ c.marks)
  by_number None x a b = (a, b)
  by_number (Some k) x a b = (a, b)

  by_outcome : (x : Outcome) → Quiet c x → OnCore (Untold c) x → QuietMarks c (with_core (numbered g.sees_pointer (is_call (row_of i)) n i.operands) x)
  by_outcome (Falls x) a b = by_number n x a b.1
  by_outcome Traps a b = tt
  by_outcome (Goes t x) a b = absurd a
  by_outcome (Gives v) a b = absurd a
  by_outcome Asks a b = absurd a
  by_outcome Breaks a b = absurd a

pub quiet_falls : (c e : Core) (x : Outcome) → QuietMarks c x → x ≡ Falls e → (e.events ≡ c.events) × (e.marks ≡ c.marks)
quiet_falls c e (Falls d) h k = let z : d ≡ e = cc in subst (λ (y : Core). (y.events ≡ c.events) × (y.marks ≡ c.marks)) z h
quiet_falls c e Traps h k = cc
quiet_falls c e (Goes t d) h k = absurd h
quiet_falls c e (Gives v) h k = absurd h
quiet_falls c e Asks h k = absurd h
quiet_falls c e Breaks h k = absurd h

pub quiet_goes : (c e : Core) (n : ℕ) (x : Outcome) → QuietMarks c x → x ≡ Goes n e → ⊥
quiet_goes c e n (Falls d) h k = cc
quiet_goes c e n Traps h k = cc
quiet_goes c e n (Goes t d) h k = h
quiet_goes c e n (Gives v) h k = h
quiet_goes c e n Asks h k = h
quiet_goes c e n Breaks h k = h

-- the source does one quiet step where code like plain code is kept
pub source_plain : (src : Program) (p : Pos) (r : Row) → class_of r ≡ Plain → HasClass r (src.fetch p) → IsPlain src p
source_plain src p r plain has s at = by_fetch (src.fetch p) refl has where
  by_core : (x : Outcome) → QuietMarks s.core x → step src s ≡ moved src.enter s.pos x →
      ((u : State) × (step src s ≡ Went u) × (u.pos ≡ below p) × (u.core.events ≡ s.core.events) × (u.core.marks ≡ s.core.marks)) ⊎ (step src s ≡ Faulted)
  by_core (Falls e) h k = inl (record { pos = below s.pos; core = e }, k, ap below at, h.0, h.1)
  by_core Traps h k = inr k
  by_core (Goes t e) h k = absurd h
  by_core (Gives v) h k = absurd h
  by_core Asks h k = absurd h
  by_core Breaks h k = absurd h

  by_kind : (j : Item) (k : ItemKind) → j.kind ≡ k → src.fetch p ≡ Here j → ItemHasClass r k →
      ((u : State) × (step src s ≡ Went u) × (u.pos ≡ below p) × (u.core.events ≡ s.core.events) × (u.core.marks ≡ s.core.marks)) ⊎ (step src s ≡ Faulted)
  by_kind j (Code i n) e f has =
      by_core (do_item src (Code i n) s.core) (plain_quiet src i n s.core (has ∙ plain))
      (step_item src s j (do_item src (Code i n) s.core) (ap src.fetch at ∙ f) (ap (λ (z : ItemKind). do_item src z s.core) e))
  by_kind j (Mark v m) e f has = absurd has
  by_kind j (Phi q n) e f has = absurd has

  by_fetch : (x : Fetch) → src.fetch p ≡ x → HasClass r x →
      ((u : State) × (step src s ≡ Went u) × (u.pos ≡ below p) × (u.core.events ≡ s.core.events) × (u.core.marks ≡ s.core.marks)) ⊎ (step src s ≡ Faulted)
  by_fetch (Here j) f has = by_kind j j.kind refl f has
  by_fetch _ f has = absurd has

-- ---- code that was added and isn't a jump goes on below

pub jump_renamed : (u d : ℕ → ℕ) (r : Row) → is_jump_row (renamed_row u d r) ≡ is_jump_row r
jump_renamed u d (Jumps t) = refl
jump_renamed u d _ = refl

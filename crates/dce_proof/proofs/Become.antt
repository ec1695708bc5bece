-- What each item becomes in a round.
use Rattle.std.proofs.Common.{◌≡◌, ℤ, ◌↔◌, inl, inr, ℕ, zero, suc, ◌+◌, List, [], ◌∷◌, Option, Some, None, Bool, true, false, cond}
use Rattle.std.proofs.Common.{◌||◌, nat_eq, eq-eqb, refl, sym, ap, ◌∙◌, subst, arith}
use Rattle.std.proofs.lemmas.Bool.{eqb-true}
use Rattle.rv64_instr.specs.declared.place.Place.{Place}
use Rattle.rv64_instr.specs.declared.place.Place.TheVariants.{Register, Slot, Const}
use Rattle.rv64_instr.specs.Instruction.{Instruction}
use Rattle.rv64_instr.specs.Row.{Row, Moves, row_of}
use Rattle.rv64_instr.specs.LocationEffects.{defines_of}
use Rattle.mir_func.specs.declared.position.Pos.{Pos}
use Rattle.mir_func.specs.declared.position.Origin.{Origin}
use Rattle.mir_func.specs.declared.location.Loc.{Loc}
use Rattle.mir_func.specs.declared.variable.VarId.{VarId}
use Rattle.mir_func.specs.declared.variable.MarkValue.TheVariants.{Nothing, Constant, At, Pair}
use Rattle.mir_func.specs.declared.debug_substitution.DebugSubstitution.{DebugSubstitution}
use Rattle.mir_func.specs.declared.item.Item.{Item}
use Rattle.mir_func.specs.declared.item.ItemKind.{ItemKind}
use Rattle.mir_func.specs.declared.item.ItemKind.TheVariants.{Code, Mark, Phi}
use Rattle.mir_func.specs.Function.{Function}
use Rattle.mir_func.specs.Graph.{Fetch, Here, below, block_start, RowEdge, FetchEdge, Edge}
use Rattle.mir_func.specs.Resolve.{entry_of}
use Rattle.mir_func.specs.Sound.{IsSound}
use Rattle.sem_mir.specs.Align.{is_code}
use Rattle.sem_mir.specs.Live.{Defines, KindDefines}
use Rattle.pass_trait.specs.declared.loss.Reason.TheVariants.{Removed, WrongPlace}
use Rattle.pass_trait.specs.declared.loss.Loss.{Loss}
use Rattle.pass_trait.specs.Change.{Change}
use Rattle.pass_trait.specs.Rule.{IsCopy, StandsAt, item, item_before, number_lost, mark_lost, first_operand}
use Rattle.pass_trait.specs.Causes.{IsWrong, removed, HasCause, code_removed, place_wrong, salvage_wrong, IsRemoved}
use Rattle.pass_trait.specs.Debug.{RegisterStays, PlaceStays, Becomes, mark_stays, phi_stays, code_stays, code_numbered, code_unnumbered, code_goes}
use Rattle.pass_trait.specs.Debug.{number_goes, substituted, salvaged, salvaged_wrong, mark_silenced, phi_silenced}
use Rattle.dce_round.specs.dce_rule.Dead.{Places, Ends, is_dead, needed_at, paths_of}
use Rattle.dce_round.specs.dce_rule.Wrong.{silenced, is_dead_at, IsWrongAt, made, on}
use Rattle.dce_round.proofs.dce_rule.Lists.{quiet}
use Rattle.dce_round.specs.dce_analysis.Judge.{AreJudged}
use Rattle.dce_salvage.specs.declared.salvage_numbers.Copied.{Copied}
use Rattle.dce_salvage.specs.SalvageNumbers.{copied_by, numbered_copy, phi_by_own, salvage_phi}
use Rattle.dce_round.specs.dce_salvage_proof.SalvageLaws.{all_off}
use Rattle.dce_round.proofs.dce_salvage_proof.Copy.{copy_of}
use Rattle.dce_proof.specs.SalvageLedger.{Line, line_of}
use Rattle.dce_proof.specs.DebugRule.{HasLine, Loses, number, copy, mark, phi, IsNumbered, dead_rule}
use Rattle.dce_proof.proofs.Lines.{LineIs, as_it_was, by_entry, by_phi}
use Rattle.dce_proof.proofs.Places.{edge_ways}
use Rattle.dce_proof.proofs.Here.{c, dead_one, PlaceLine, place_line, one_line, removed_at, comes_wrong}

-- ---- copies

pub copied_not : (i : Instruction) (k : ℕ) → numbered_copy (Code i (Some k)) ≡ None → IsCopy (row_of i) → ⊥
copied_not i k e = by_row (row_of i) e where
  by_row : (r : Row) → copied_by r k ≡ None → IsCopy r → ⊥
  by_row (Moves zero s) e h = h
  by_row (Moves (suc rd) s) e h = cc
  by_row _ e h = h

pub is_copy : (i : Instruction) (rd s : ℕ) → row_of i ≡ Moves (suc rd) s → IsCopy (row_of i)
is_copy i rd s row = subst (λ (r : Row). IsCopy r) (sym row) tt

-- a copy has a verdict as such
copy_is_copied : (i : Instruction) (k : ℕ) → IsCopy (row_of i) → (d : Copied) × (numbered_copy (Code i (Some k)) ≡ Some d)
copy_is_copied i k h = by_row (row_of i) h where
  by_row : (r : Row) → IsCopy r → (d : Copied) × (copied_by r k ≡ Some d)
  by_row (Moves zero s) h = absurd h
  by_row (Moves (suc rd) s) h = (record { number = k; source = s; own = nat_eq (suc rd) s }, refl)
  by_row _ h = absurd h

pub is_not : (b : Bool) → b ≡ true → b ≡ false → ⊥
is_not b t e = let bad : true ≡ false = sym t ∙ e in cc

below_one : (p q : Pos) → below p ≡ below q → p ≡ q
below_one p q e =
    let a : p.item + 1 ≡ q.item + 1 = ap (λ (r : Pos). r.item) e in
    let b : p.item ≡ q.item = omega (arith, a) in
    let d : p.block ≡ q.block = ap (λ (r : Pos). r.block) e in
    λ t. record { block = d t; item = b t }

start_not : (n : ℕ) (p : Pos) → block_start n ≡ below p → ⊥
start_not n p e = let k : 0 ≡ p.item + 1 = ap (λ (q : Pos). q.item) e in omega (arith, k)

-- what is wrong below a place that doesn't define it is wrong there
pub wrong_above : (f : Function) (ends : Ends) (x : Place) (at q : Pos) → q ≡ below at → (Defines ((paths_of f).fetch at) x → ⊥) → IsWrongAt ends f x q →
    IsWrongAt ends f x at
wrong_above f ends x at q is none (made p dead d edge) = elim (edge_ways ((paths_of f).fetch p) p q edge) [
  | inl e ↦ absurd (none (subst (λ (r : Pos). Defines ((paths_of f).fetch r) x) (below_one p at (sym e ∙ is)) d))
  | inr w ↦ absurd (start_not w.0 at (sym w.1 ∙ is))
]
wrong_above f ends x at q is none (on p w ne edge) = elim (edge_ways ((paths_of f).fetch p) p q edge) [
  | inl e ↦ subst (IsWrongAt ends f x) (below_one p at (sym e ∙ is)) w
  | inr v ↦ absurd (start_not v.0 at (sym v.1 ∙ is))
]

pub copy_defines : (i : Instruction) (n : Option ℕ) (rd s : ℕ) (x : ℕ) → row_of i ≡ Moves (suc rd) s → KindDefines (Code i n) (Register x) → x ≡ suc rd
copy_defines i n rd s x row d =
    let k : (nat_eq x (suc rd) || false) ≡ true = ap (λ (r : Row). defines_of r (Register x)) (sym row) ∙ d in
    eqb-true x (suc rd) (or_left (nat_eq x (suc rd)) k) where
      or_left : (a : Bool) → (a || false) ≡ true → a ≡ true
      or_left true e = refl
      or_left false e = e

defines_copy : (i : Instruction) (n : Option ℕ) (rd s : ℕ) (x : ℕ) → row_of i ≡ Moves (suc rd) s → x ≡ suc rd → KindDefines (Code i n) (Register x)
defines_copy i n rd s x row e =
    let t : nat_eq x (suc rd) ≡ true = eq-eqb x (suc rd) e in
    ap (λ (r : Row). defines_of r (Register x)) row ∙ ap (λ (z : Bool). z || false) t

module _ (f : Function) (subs : List DebugSubstitution) (dead : List (List Bool)) (sound : IsSound f) (judged : AreJudged f dead) (wrong : Pos → Places) where
  abbrev pub it : Change
  it = c f subs dead sound judged wrong

  -- a loss at a place is one of what stands there
  pub lost_here : (at : Pos) (x : Item) (loss : Loss) → StandsAt f at x → dead_rule.loses (c f subs dead sound judged wrong) at loss →
      Loses (c f subs dead sound judged wrong) at x.kind x.origin loss
  lost_here at x loss stands (i, there, h) =
      let e : Here i ≡ Here x = sym there ∙ stands in
      let same : i ≡ x = cc in
      subst (λ (z : Item). Loses (c f subs dead sound judged wrong) at z.kind z.origin loss) same h

  -- what is known of a place, what stands for it, and where that stands
  pub record Stood (at : Pos) (x : Item) (l : Line) (q : Pos) : Type 0 where
    pub stands : StandsAt f at x
    pub has : HasLine (c f subs dead sound judged wrong) at l
    pub wrongs : (p : Place) → (wrong q p ≡ true) ↔ IsWrongAt judged.ends f p at

  abbrev B : Pos → Item → List Item → Type 0
  B at x ys = Becomes dead_rule (c f subs dead sound judged wrong) at x ys

  register_stays : (r : ℕ) → RegisterStays dead_rule (c f subs dead sound judged wrong) r
  register_stays r = (λ slot h. h, λ now h. h)

  place_stays : (p : Option Place) → PlaceStays dead_rule (c f subs dead sound judged wrong) p
  place_stays None = tt
  place_stays (Some (Register r)) = register_stays r
  place_stays (Some (Slot n)) = tt
  place_stays (Some (Const z)) = tt

  pub ends_are : (dead' : List (List Bool)) (j : AreJudged f dead') → j.ends ≡ judged.ends
  ends_are dead' j = (dead_one f dead dead' judged j).1

  -- no number where the line has none
  no_number : (at : Pos) (l : Line) → HasLine (c f subs dead sound judged wrong) at l →
      ((i : Instruction) (k : ℕ) (o : Origin) (d : Loc) → l.now ≡ item (Code i (Some k)) o d ∷ [] → ⊥) → (k : ℕ) →
      IsNumbered (c f subs dead sound judged wrong) at k → ⊥
  no_number at l has none k (m, has', i, o, d, stands, now) =
      none i k o d (ap (λ (z : Line). z.now) (one_line f subs dead sound judged wrong at l m has has') ∙ now)

  bare_not : (j : Instruction) (q : Origin) (r : Loc) (i : Instruction) (k : ℕ) (o : Origin) (d : Loc) →
      item (Code j None) q r ∷ [] ≡ item (Code i (Some k)) o d ∷ [] → ⊥
  bare_not j q r i k o d e =
      let head : item (Code j None) q r ≡ item (Code i (Some k)) o d = cc in
      let kind : Code j None ≡ Code i (Some k) = ap (λ (z : Item). z.kind) head in
      cc

  -- ---- what is lost of code

  -- nothing is lost of code that stays
  code_unlost : (at : Pos) (i : Instruction) (n : Option ℕ) (o : Origin) (l : Line) → HasLine (c f subs dead sound judged wrong) at l → l.phi ≡ None →
      is_dead_at judged.ends f at ≡ false → (loss : Loss) → Loses (c f subs dead sound judged wrong) at (Code i n) o loss → ⊥
  code_unlost at i n o l has none stay loss (number d j dies no_copy) =
      is_not (is_dead_at judged.ends f at) (ap (λ (e : Ends). is_dead_at e f at) (sym (ends_are d j)) ∙ dies) stay
  code_unlost at i n o l has none stay loss (copy {s = s} m has' asks w) =
      let bad : None ≡ Some s = sym none ∙ ap (λ (z : Line). z.phi) (one_line f subs dead sound judged wrong at l m has has') ∙ asks in
      cc

  -- nothing is lost of a copy whose number an entry stands for
  entry_unlost : (at : Pos) (i : Instruction) (n : Option ℕ) (o : Origin) (l : Line) → HasLine (c f subs dead sound judged wrong) at l → l.phi ≡ None →
      IsCopy (row_of i) → (loss : Loss) → Loses (c f subs dead sound judged wrong) at (Code i n) o loss → ⊥
  entry_unlost at i n o l has none is loss (number d j dies no_copy) = no_copy is
  entry_unlost at i n o l has none is loss (copy {s = s} m has' asks w) =
      let bad : None ≡ Some s = sym none ∙ ap (λ (z : Line). z.phi) (one_line f subs dead sound judged wrong at l m has has') ∙ asks in
      cc

  -- nor of one whose phi asks for a place that is right
  phi_unlost : (at : Pos) (i : Instruction) (n : Option ℕ) (o : Origin) (l : Line) (s : ℕ) → HasLine (c f subs dead sound judged wrong) at l →
      l.phi ≡ Some s → IsCopy (row_of i) → (IsWrongAt judged.ends f (Register s) (below at) → ⊥) → (loss : Loss) →
      Loses (c f subs dead sound judged wrong) at (Code i n) o loss → ⊥
  phi_unlost at i n o l s has some is right loss (number d j dies no_copy) = no_copy is
  phi_unlost at i n o l s has some is right loss (copy {s = t} m has' asks w) =
      let both : Some s ≡ Some t = sym some ∙ ap (λ (z : Line). z.phi) (one_line f subs dead sound judged wrong at l m has has') ∙ asks in
      let same : t ≡ s = cc in
      right (subst (λ (r : ℕ). IsWrongAt judged.ends f (Register r) (below at)) same
      (subst (λ (e : Ends). IsWrongAt e f (Register t) (below at)) (ends_are has'.dead has'.judged) w))

  mark_wrong : (at : Pos) (v : VarId) (r : ℕ) (o : Origin) (loss : Loss) → Loses (c f subs dead sound judged wrong) at (Mark v (At r)) o loss →
      IsWrongAt judged.ends f (Register r) at × (loss ≡ mark_lost o WrongPlace)
  mark_wrong at v r o loss (mark d j w) = (subst (λ (e : Ends). IsWrongAt e f (Register r) at) (ends_are d j) w, refl)

  phi_wrong : (at : Pos) (x : Place) (k : ℕ) (o : Origin) (loss : Loss) → Loses (c f subs dead sound judged wrong) at (Phi (Some x) k) o loss →
      IsWrongAt judged.ends f x at × (loss ≡ number_lost k WrongPlace)
  phi_wrong at x k o loss (phi d j w) = (subst (λ (e : Ends). IsWrongAt e f x at) (ends_are d j) w, refl)

  nothing_lost : (at : Pos) (v : VarId) (o : Origin) (loss : Loss) → Loses (c f subs dead sound judged wrong) at (Mark v Nothing) o loss → ⊥
  nothing_lost at v o loss h = elim h [ ]

  constant_lost : (at : Pos) (v : VarId) (z : ℤ) (o : Origin) (loss : Loss) → Loses (c f subs dead sound judged wrong) at (Mark v (Constant z)) o loss → ⊥
  constant_lost at v z o loss h = elim h [ ]

  phi_lost : (at : Pos) (k : ℕ) (o : Origin) (loss : Loss) → Loses (c f subs dead sound judged wrong) at (Phi None k) o loss → ⊥
  phi_lost at k o loss h = elim h [ ]

  -- ---- an item that stays as it is

  pub kept : (at : Pos) (k : ItemKind) (o : Origin) (d : Loc) (q : Pos) → Stood at (item k o d) (line_of (item k o d)) q → is_dead_at judged.ends f at ≡ false →
      Becomes dead_rule (c f subs dead sound judged wrong) at (item k o d) (item (silenced (wrong q) k) o d ∷ [])
  kept at (Code i None) o d q w stay = code_unnumbered (no_number at (line_of (item (Code i None) o d)) w.has (bare_not i o d))
  kept at (Code i (Some n)) o d q w stay =
      code_stays (λ why h. code_unlost at i (Some n) o (line_of (item (Code i (Some n)) o d)) w.has refl stay (number_lost n why)
      (lost_here at (item (Code i (Some n)) o d) (number_lost n why) w.stands h))
  kept at (Mark v Nothing) o d q w stay =
      mark_stays (λ why h. nothing_lost at v o (mark_lost o why) (lost_here at (item (Mark v Nothing) o d) (mark_lost o why) w.stands h)) tt
  kept at (Mark v (Constant z)) o d q w stay =
      mark_stays (λ why h. constant_lost at v z o (mark_lost o why) (lost_here at (item (Mark v (Constant z)) o d) (mark_lost o why) w.stands h)) tt
  kept at (Mark v (Pair z)) o d q w stay =
      mark_stays (λ why h. (let l = lost_here at (item (Mark v (Pair z)) o d) (mark_lost o why) w.stands h in elim l [ ])) tt
  kept at (Mark v (At r)) o d q w stay = by_test (wrong q (Register r)) refl where
    by_test : (z : Bool) → wrong q (Register r) ≡ z →
        Becomes dead_rule (c f subs dead sound judged wrong) at (item (Mark v (At r)) o d) (item (cond z (Mark v Nothing) (Mark v (At r))) o d ∷ [])
    by_test true e = mark_silenced WrongPlace refl (item (Mark v (At r)) o d, w.stands, mark dead judged ((w.wrongs (Register r)).0 e))
    by_test false e = mark_stays (λ why h. is_not (wrong q (Register r)) ((w.wrongs (Register r)).1
        (mark_wrong at v r o (mark_lost o why) (lost_here at (item (Mark v (At r)) o d) (mark_lost o why) w.stands h)).0) e) (register_stays r)
  kept at (Phi None n) o d q w stay =
      phi_stays (λ why h. phi_lost at n o (number_lost n why) (lost_here at (item (Phi None n) o d) (number_lost n why) w.stands h)) tt
  kept at (Phi (Some x) n) o d q w stay = by_test (wrong q x) refl where
    by_test : (z : Bool) → wrong q x ≡ z →
        Becomes dead_rule (c f subs dead sound judged wrong) at (item (Phi (Some x) n) o d) (item (cond z (Phi None n) (Phi (Some x) n)) o d ∷ [])
    by_test true e = phi_silenced WrongPlace refl (item (Phi (Some x) n) o d, w.stands, phi dead judged ((w.wrongs x).0 e))
    by_test false e = phi_stays (λ why h. is_not (wrong q x) ((w.wrongs x).1
        (phi_wrong at x n o (number_lost n why) (lost_here at (item (Phi (Some x) n) o d) (number_lost n why) w.stands h)).0) e) (place_stays (Some x))

  -- ---- code that goes

  pub gone : (at : Pos) (k : ItemKind) (o : Origin) (d : Loc) (q : Pos) → Stood at (item k o d) (line_of (item k o d)) q → is_dead_at judged.ends f at ≡ true →
      is_code k ≡ true → numbered_copy k ≡ None → Becomes dead_rule (c f subs dead sound judged wrong) at (item k o d) []
  gone at (Code i None) o d q w dies coded no_copy = code_goes (no_number at (line_of (item (Code i None) o d)) w.has (bare_not i o d))
      (inl (removed_at f subs dead sound judged wrong at (item (Code i None) o d) w.stands dies).0)
  gone at (Code i (Some n)) o d q w dies coded no_copy =
      number_goes n Removed refl refl (item (Code i (Some n)) o d, w.stands, number dead judged dies (copied_not i n no_copy))
  gone at (Mark v m) o d q w dies coded no_copy = cc
  gone at (Phi p n) o d q w dies coded no_copy = cc

  pub gets_number : (at : Pos) (i : Instruction) (k : ℕ) (o : Origin) (d : Loc) (q : Pos) →
      Stood at (item (Code i None) o d) (record { now = item (Code i (Some k)) o d ∷ []; phi = None }) q →
      Becomes dead_rule (c f subs dead sound judged wrong) at (item (Code i None) o d) (item (Code i (Some k)) o d ∷ [])
  gets_number at i k o d q w = code_numbered (record { now = item (Code i (Some k)) o d ∷ []; phi = None }, w.has, i, o, d, w.stands, refl)

  pub entered_goes : (at : Pos) (i : Instruction) (k rd s : ℕ) (o : Origin) (d : Loc) (q : Pos) (e : DebugSubstitution) → row_of i ≡ Moves (suc rd) s →
      Stood at (item (Code i (Some k)) o d) (record { now = item (Code i None) o d ∷ []; phi = None }) q → is_dead_at judged.ends f at ≡ true →
      entry_of (all_off f subs dead).subs (first_operand k) ≡ Some e →
      Becomes dead_rule (c f subs dead sound judged wrong) at (item (Code i (Some k)) o d) []
  entered_goes at i k rd s o d q e row w dies entry =
      substituted k e (is_copy i rd s row) (removed_at f subs dead sound judged wrong at (item (Code i (Some k)) o d) w.stands dies) refl entry
      (λ why h. entry_unlost at i (Some k) o (record { now = item (Code i None) o d ∷ []; phi = None }) w.has refl (is_copy i rd s row) (number_lost k why)
      (lost_here at (item (Code i (Some k)) o d) (number_lost k why) w.stands h))

  -- the copy's source is wrong below it
  pub own_wrong : (at : Pos) (i : Instruction) (k rd s : ℕ) (o : Origin) (d : Loc) → row_of i ≡ Moves (suc rd) s → s ≡ suc rd →
      StandsAt f at (item (Code i (Some k)) o d) → is_dead_at judged.ends f at ≡ true → IsWrongAt judged.ends f (Register s) (below at)
  own_wrong at i k rd s o d row same stands dies =
      made at dies (subst (λ (z : Fetch). Defines z (Register s)) (sym stands) (defines_copy i (Some k) rd s s row same))
      (edge_below at i k rd s o d row stands) where
        edge_below : (at : Pos) (i : Instruction) (k rd s : ℕ) (o : Origin) (d : Loc) → row_of i ≡ Moves (suc rd) s →
            StandsAt f at (item (Code i (Some k)) o d) → Edge (paths_of f) at (below at)
        edge_below at i k rd s o d row stands =
            subst (λ (z : Fetch). FetchEdge (λ m. m) z at (below at)) (sym stands) (subst (λ (r : Row). RowEdge (λ m. m) r at (below at)) (sym row) refl)

  pub wrong_below : (at : Pos) (i : Instruction) (k rd s : ℕ) (o : Origin) (d : Loc) → row_of i ≡ Moves (suc rd) s →
      StandsAt f at (item (Code i (Some k)) o d) → is_dead_at judged.ends f at ≡ true → IsWrongAt judged.ends f (Register s) at →
      IsWrongAt judged.ends f (Register s) (below at)
  wrong_below at i k rd s o d row stands dies w =
      on at w (λ stay. absurd (is_not (is_dead_at judged.ends f at) dies stay))
      (subst (λ (z : Fetch). FetchEdge (λ m. m) z at (below at)) (sym stands) (subst (λ (r : Row). RowEdge (λ m. m) r at (below at)) (sym row) refl))

  pub phi_put : (at : Pos) (i : Instruction) (k rd s : ℕ) (o : Origin) (d : Loc) (q : Pos) (z : Copied) → z.number ≡ k → z.source ≡ s →
      z.own ≡ nat_eq (suc rd) s → row_of i ≡ Moves (suc rd) s →
      Stood at (item (Code i (Some k)) o d) (record { now = salvage_phi z o ∷ item (Code i None) o d ∷ []; phi = Some z.source }) q →
      is_dead_at judged.ends f at ≡ true → Becomes dead_rule (c f subs dead sound judged wrong) at (item (Code i (Some k)) o d)
      (quiet (wrong q) (phi_by_own (nat_eq (suc rd) s) k s o) ∷ [])
  phi_put at i k rd s o d q z num src own row w dies = by_own (nat_eq (suc rd) s) refl where
    l : Line
    l = record { now = salvage_phi z o ∷ item (Code i None) o d ∷ []; phi = Some z.source }

    some : Some z.source ≡ Some s
    some = ap Some src

    gone_copy : IsRemoved (c f subs dead sound judged wrong) o
    gone_copy = removed_at f subs dead sound judged wrong at (item (Code i (Some k)) o d) w.stands dies

    wrong_phi : IsWrongAt judged.ends f (Register s) (below at) →
        Becomes dead_rule (c f subs dead sound judged wrong) at (item (Code i (Some k)) o d) (item_before (Phi None k) o ∷ [])
    wrong_phi bad =
        salvaged_wrong (is_copy i rd s row) gone_copy refl (
          record { now = salvage_phi z o ∷ item (Code i None) o d ∷ []; phi = Some z.source },
          w.has,
          s,
          some,
          refl,
        ) (
          item (Code i (Some k)) o d,
          w.stands,
          copy (record { now = salvage_phi z o ∷ item (Code i None) o d ∷ []; phi = Some z.source }) w.has some
              (subst (λ (e : Ends). IsWrongAt e f (Register s) (below at)) (sym (ends_are w.has.dead w.has.judged)) bad),
        )

    by_own : (b : Bool) → nat_eq (suc rd) s ≡ b →
        Becomes dead_rule (c f subs dead sound judged wrong) at (item (Code i (Some k)) o d) (quiet (wrong q) (phi_by_own b k s o) ∷ [])
    by_own true e = wrong_phi (own_wrong at i k rd s o d row (sym (eqb-true (suc rd) s e)) w.stands dies)
    by_own false e = by_test (wrong q (Register s)) refl where
      right : (wrong q (Register s) ≡ false) → IsWrongAt judged.ends f (Register s) (below at) → ⊥
      right clear bad =
          is_not (wrong q (Register s)) ((w.wrongs (Register s)).1 (wrong_above f judged.ends (Register s) at (below at) refl
          (λ defs. (let same = copy_defines i (Some k) rd s s row (subst (λ (z : Fetch). Defines z (Register s)) w.stands defs) in
          is_not (nat_eq (suc rd) s) (eq-eqb (suc rd) s (sym same)) e)) bad)) clear

      by_test : (b : Bool) → wrong q (Register s) ≡ b → Becomes dead_rule (c f subs dead sound judged wrong) at (item (Code i (Some k)) o d)
          (item_before (cond b (Phi None k) (Phi (Some (Register s)) k)) o ∷ [])
      by_test true bad = wrong_phi (wrong_below at i k rd s o d row w.stands dies ((w.wrongs (Register s)).0 bad))
      by_test false clear =
          salvaged (is_copy i rd s row) gone_copy refl
          (record { now = salvage_phi z o ∷ item (Code i None) o d ∷ []; phi = Some z.source }, w.has, s, some, refl)
          (λ why h. phi_unlost at i (Some k) o (record { now = salvage_phi z o ∷ item (Code i None) o d ∷ []; phi = Some z.source }) s w.has some
          (is_copy i rd s row) (right clear) (number_lost k why) (lost_here at (item (Code i (Some k)) o d) (number_lost k why) w.stands h))

  -- ---- causes

  is_wrong : (x : Place) (at : Pos) → IsWrongAt judged.ends f x at → IsWrong dead_rule (c f subs dead sound judged wrong) x at
  is_wrong x at w = removed (comes_wrong f subs dead sound judged wrong x w)

  pub cause_of : (at : Pos) (k : ItemKind) (o : Origin) (d : Loc) (loss : Loss) → StandsAt f at (item k o d) →
      Loses (c f subs dead sound judged wrong) at k o loss → HasCause dead_rule (c f subs dead sound judged wrong) at loss
  cause_of at k o d loss stands (number {i} {k = n} e j dies no_copy) =
      code_removed stands refl no_copy (removed_at f subs dead sound judged wrong at (item (Code i (Some n)) o d) stands
      (ap (λ (z : Ends). is_dead_at z f at) (sym (ends_are e j)) ∙ dies))
  cause_of at k o d loss stands (mark {r = r} e j w) =
      place_wrong stands refl refl (is_wrong (Register r) at (subst (λ (z : Ends). IsWrongAt z f (Register r) at) (ends_are e j) w))
  cause_of at k o d loss stands (phi {x = x} e j w) =
      place_wrong stands refl refl (is_wrong x at (subst (λ (z : Ends). IsWrongAt z f x at) (ends_are e j) w))
  cause_of at k o d loss stands (copy {i} {k = n} {s} l has some w) = by_line l has some w
      (place_line f subs dead sound judged wrong at (item (Code i (Some n)) o d) stands) where
        by_line : (l : Line) (has : HasLine (c f subs dead sound judged wrong) at l) → l.phi ≡ Some s →
            IsWrongAt has.judged.ends f (Register s) (below at) → PlaceLine f subs dead sound judged wrong at (item (Code i (Some n)) o d) → HasCause
            dead_rule (c f subs dead sound judged wrong) at (number_lost n WrongPlace)
        by_line l has some w p =
            let m = one_line f subs dead sound judged wrong at p.line l (record { dead = dead; judged = judged; stands = p.has }) has in
            salvage_wrong stands refl (by_is p.line p.is (ap (λ (z : Line). z.phi) m ∙ some)) (l, has, s, some, refl)
            (is_wrong (Register s) (below at) (subst (λ (z : Ends). IsWrongAt z f (Register s) (below at)) (ends_are has.dead has.judged) w)) where
              by_is : (m : Line) → LineIs (all_off f subs dead).subs (is_dead (Code i (Some n)) (needed_at p.us (judged.ends at.block)))
                  (item (Code i (Some n)) o d) m →
                  m.phi ≡ Some s → IsCopy (row_of i)
              by_is m (as_it_was q) e = cc
              by_is m (by_entry z goes is entry) e = cc
              by_is m (by_phi z goes is) e = let t = copy_of (Code i (Some n)) z is in
                  (let both : Code i (Some n) ≡ Code t.code (Some z.number) = t.is in let same : i ≡ t.code = cc in
                  subst (λ (j : Instruction). IsCopy (row_of j)) (sym same) (is_copy t.code t.target z.source t.row))

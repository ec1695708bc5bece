-- A turn of a block keeps the table.
use Rattle.std.proofs.Common.{◌≡◌, ℕ, zero, suc, ◌+◌, ◌<◌, ◌≤◌, List, [], ◌∷◌, ◌++◌, length, Some, Bool, true, false, cond, not, refl, sym, ap, ◌∙◌, subst}
use Rattle.std.proofs.Common.{inl, inr, arith, eqb, ltb-true, ltb-false}
use Rattle.std.specs.Prelude.{◌⊎◌, slice_index, slice_index_or, slice_get, slice_set, nat_eq, nat_lt, Contains}
use Rattle.std.specs.List.{list_all}
use Rattle.std.proofs.lemmas.Bool.{false≢true, eqb-true, eqb-false, eq-eqb, ne_eqb}
use Rattle.std.proofs.lemmas.Option.{get_or_from_slice_get}
use Rattle.std.proofs.lemmas.List.{get_or-set_same, get_or-set_other, get_or_past}
use Rattle.std.proofs.Math.ListN.{length-set}
use Rattle.dataflow.specs.Graph.{ways_at, ArePredecessors}
use Rattle.mir_func.specs.Graph.{Program}
use Rattle.value_solver.specs.declared.tracked.Tracked.{Tracked}
use Rattle.value_solver.specs.declared.entry.BlockEntry.{BlockEntry}
use Rattle.value_solver.specs.declared.flow.Source.{Source}
use Rattle.value_solver.specs.declared.flow.Source.TheVariants.{Was, New, Nameless}
use Rattle.value_solver.specs.declared.flow.Flow.{Flow}
use Rattle.value_solver.specs.Numbering.{IsNumbered}
use Rattle.value_solver.specs.Joining.{Hand, hand_bit, agree, IsJoin, IsKnown, source_at, class_past, bit_past}
use Rattle.value_solver.specs.Hands.{hand_by, hands_of, handed, first_hand, ways_of, AreSoundFlows, IsShaped, Visited}
use Rattle.value_solver.specs.Invariants.{IsProven, IsSettled, IsRefined, AreProven, Facts, IsTable, Turned, weight, weight_of, classes_from, count_off}
use Rattle.value_solver.proofs.Edges.{edge_flow}
use Rattle.value_solver.proofs.Passing.{finer_past, less_past, source_fit}
use Rattle.value_solver.proofs.Proven.{Handing, hand_from, who_fails, hand_passes, start_passes, some_hands, no_hands, shaped_known, join_proven}
use Rattle.value_solver.proofs.Weights.{IsFiner, heavier, heavy, heavier_table, numbered_below, numbered_few}

-- ---- a table with one entry changed

get_set_same : {A : Type 0} (xs : List A) (b : ℕ) (e : A) → b < length xs → slice_get (slice_set xs b e) b ≡ Some e
get_set_same [] b e less = absurd (omega arith)
get_set_same (x ∷ xs) zero e less = refl
get_set_same (x ∷ xs) (suc b) e less = get_set_same xs b e (omega arith)

get_set_other : {A : Type 0} (xs : List A) (b : ℕ) (e : A) (c : ℕ) → (c ≡ b → ⊥) → slice_get (slice_set xs b e) c ≡ slice_get xs c
get_set_other [] b e c other = refl
get_set_other (x ∷ xs) zero e zero other = absurd (other refl)
get_set_other (x ∷ xs) zero e (suc c) other = refl
get_set_other (x ∷ xs) (suc b) e zero other = refl
get_set_other (x ∷ xs) (suc b) e (suc c) other = get_set_other xs b e c (λ same. other (ap suc same))

pub here_set : {A : Type 0} (xs : List A) (b : ℕ) (e : A) (c : ℕ) → b < length xs → c ≡ b → slice_get (slice_set xs b e) c ≡ Some e
here_set xs b e c less same = ap (slice_get (slice_set xs b e)) same ∙ get_set_same xs b e less

pub set_here : {A : Type 0} (xs : List A) (b : ℕ) (e x : A) (c : ℕ) → b < length xs → c ≡ b → slice_get (slice_set xs b e) c ≡ Some x → e ≡ x
set_here xs b e x c less same at = let it : Some e ≡ Some x = sym (here_set xs b e c less same) ∙ at in cc

pub set_there : {A : Type 0} (xs : List A) (b : ℕ) (e x : A) (c : ℕ) → (c ≡ b → ⊥) → slice_get (slice_set xs b e) c ≡ Some x → slice_get xs c ≡ Some x
set_there xs b e x c other at = sym (get_set_other xs b e c other) ∙ at

pub there_set : {A : Type 0} (xs : List A) (b : ℕ) (e x : A) (c : ℕ) → (c ≡ b → ⊥) → slice_get xs c ≡ Some x → slice_get (slice_set xs b e) c ≡ Some x
there_set xs b e x c other at = get_set_other xs b e c other ∙ at

-- ---- what is handed on

-- a test that what a block hands on passes before, if it does after
abbrev pub Falls : (t : Hand → Bool) (flows : List Flow) (old : List BlockEntry) (b : ℕ) (e : BlockEntry) → Type 0
Falls t flows old b e = (o : BlockEntry) (f : Flow) → slice_get old b ≡ Some o → o.reached ≡ true → slice_get flows b ≡ Some f →
    t (record { entry = e; changes = f.changes }) ≡ true → t (record { entry = o; changes = f.changes }) ≡ true

pub all_fall : (t : Hand → Bool) (start : BlockEntry) (flows : List Flow) (old : List BlockEntry) (b : ℕ) (e : BlockEntry) (c : ℕ) (ps : List ℕ) →
    b < length old →
    e.reached ≡ true → Falls t flows old b e → list_all t (handed start flows (slice_set old b e) c ps) ≡ true → list_all t (handed start flows old c ps) ≡ true
all_fall t start flows old b e c ps less r falls all = by_case (list_all t (handed start flows old c ps)) refl where
  one : ((c ≡ 0) × (t (record { entry = start; changes = [] }) ≡ false)) ⊎ ((h : Handing flows old ps) × (t (hand_from h) ≡ false)) → ⊥
  one (inl (first, e')) = false≢true (sym e' ∙ start_passes t start flows (slice_set old b e) c ps first all)
  one (inr (h, f)) = by_block (eqb h.block b) refl where
    by_block : (z : Bool) → eqb h.block b ≡ z → ⊥
    by_block true same =
        let is = eqb-true h.block b same in
        let new = hand_passes t start flows (slice_set old b e) c ps h.block e h.flow h.among (here_set old b e h.block less is) h.here r all in
        false≢true (sym f ∙ falls h.entry h.flow (subst (λ (k : ℕ). slice_get old k ≡ Some h.entry) is h.known) h.reached (subst (λ (k : ℕ).
        slice_get flows k ≡ Some h.flow) is h.here) new)
    by_block false other =
        false≢true (sym f ∙ hand_passes t start flows (slice_set old b e) c ps h.block h.entry h.flow h.among (there_set old b e h.entry h.block
        (eqb-false h.block b other) h.known)
        h.here h.reached all)

  by_case : (z : Bool) → list_all t (handed start flows old c ps) ≡ z → list_all t (handed start flows old c ps) ≡ true
  by_case true g = g
  by_case false g = absurd (one (who_fails t start flows old c ps g))

-- what other blocks hand on stays
same_hands : (flows : List Flow) (old : List BlockEntry) (b : ℕ) (e : BlockEntry) (ps : List ℕ) → b < length old → (Contains ps b → ⊥) →
    hands_of flows (slice_set old b e) ps ≡ hands_of flows old ps
same_hands flows old b e [] less none = refl
same_hands flows old b e (p ∷ ps) less none =
    let other : slice_get (slice_set old b e) p ≡ slice_get old p =
    get_set_other old b e p (λ same. none (0, omega arith, same)) in
    (λ z. hand_by (other z) (slice_get flows p) ++ same_hands flows old b e ps less (λ (k, l, is). none (suc k, omega arith, is)) z)

pub same_handed : (start : BlockEntry) (flows : List Flow) (old : List BlockEntry) (b : ℕ) (e : BlockEntry) (c : ℕ) (ps : List ℕ) → b < length old →
    (Contains ps b → ⊥) →
    handed start flows (slice_set old b e) c ps ≡ handed start flows old c ps
same_handed start flows old b e c ps less none = ap (λ (z : List Hand). first_hand start c ++ z) (same_hands flows old b e ps less none)

-- ---- the join is known

off_past : (n : ℕ) (cs : List ℕ) (gs : List Bool) (s : Source) → ((i : ℕ) → slice_index cs i ≡ 0 → slice_index_or gs i false ≡ false) →
    class_past n cs s ≡ 0 → bit_past gs s ≡ false
off_past n cs gs (Was j) h e = h j e
off_past n cs gs (New k r) h e = absurd (omega (arith, e))
off_past n cs gs Nameless h e = refl

hand_off : (h : Hand) (i : ℕ) → ((j : ℕ) → slice_index h.entry.classes j ≡ 0 → slice_index_or h.entry.given j false ≡ false) → agree (suc i) 0 h ≡ true →
    hand_bit h i ≡ false
hand_off h i off e = off_past (length h.entry.classes) h.entry.classes h.entry.given (source_at h.changes (suc i)) off (eqb-true _ _ e)

pub join_known : (n : ℕ) (start : BlockEntry) (flows : List Flow) (entries : List BlockEntry) (b : ℕ) (ps : List ℕ) (e : BlockEntry) → IsKnown n start →
    ((c : ℕ) (x : BlockEntry) → slice_get entries c ≡ Some x → IsShaped n x) → IsJoin n (handed start flows entries b ps) e → e.reached ≡ true → IsKnown n e
join_known n start flows entries b ps e known shaped j r = record {
  classes = j.classes;
  bits = j.bits;
  few = λ i. let (m, p) = j.numbered in omega (arith, numbered_below 1 e.classes m p (omega arith) i, numbered_few 1 e.classes m p, j.classes);
  off = λ i none. by_index i (nat_lt i n) refl none;
} where
  some : ((b ≡ 0) × (false ≡ false)) ⊎ ((h : Handing flows entries ps) × (false ≡ false))
  some = who_fails (λ h. false) start flows entries b ps (no_hands _ (sym j.reached ∙ r))

  off_in : (i : ℕ) → slice_index e.classes i ≡ 0 → ((b ≡ 0) × (false ≡ false)) ⊎ ((h : Handing flows entries ps) × (false ≡ false)) →
      list_all (λ h. hand_bit h i) (handed start flows entries b ps) ≡ true → ⊥
  off_in i none (inl (first, x)) all =
      let agreed = start_passes (agree (suc i) 0) start flows entries b ps first (sym (j.one (suc i) 0) ∙ eq-eqb _ _ none) in
      false≢true (sym (hand_off (record { entry = start; changes = [] }) i known.off agreed)
      ∙ start_passes (λ h. hand_bit h i) start flows entries b ps first all)
  off_in i none (inr (h, x)) all =
      let agreed = hand_passes (agree (suc i) 0) start flows entries b ps h.block h.entry h.flow h.among h.known h.here h.reached (sym (j.one (suc i) 0)
      ∙ eq-eqb _ _ none) in
      let set = hand_passes (λ q. hand_bit q i) start flows entries b ps h.block h.entry h.flow h.among h.known h.here h.reached all in
      false≢true (sym (hand_off (hand_from h) i (shaped_known n h.entry (shaped h.block h.entry h.known) h.reached).off agreed) ∙ set)

  off_by : (i : ℕ) → i < n → slice_index e.classes i ≡ 0 → (z : Bool) → list_all (λ h. hand_bit h i) (handed start flows entries b ps) ≡ z →
      slice_index_or e.given i false ≡ false
  off_by i less none true all = absurd (off_in i none some all)
  off_by i less none false all = j.bit i less ∙ all

  by_index : (i : ℕ) (z : Bool) → nat_lt i n ≡ z → slice_index e.classes i ≡ 0 → slice_index_or e.given i false ≡ false
  by_index i true less none = off_by i (ltb-true i n less) none (list_all (λ h. hand_bit h i) (handed start flows entries b ps)) refl
  by_index i false less none = get_or_past e.given i false (omega (arith, ltb-false i n less, j.bits))

-- ---- the entry that a visit gives

module _ (n : ℕ) (start : BlockEntry) (flows : List Flow) (preds : List (List ℕ)) (old : List BlockEntry) (before : List Bool) (known : IsKnown n start)
    (sound : AreSoundFlows n flows) (are_preds : ArePredecessors (ways_of flows) preds) (t : IsTable n start flows preds old before)
    (b : ℕ) (e : BlockEntry) (less : b < length flows) (join : IsJoin n (handed start flows old b (ways_at preds b)) e) (r : e.reached ≡ true) where
  here : b < length old
  here = omega (arith, t.long, less)

  fit : IsKnown n e
  fit = join_known n start flows old b (ways_at preds b) e known t.shaped join r

  -- it is finer than the one before
  finer : (o : BlockEntry) → slice_get old b ≡ Some o → o.reached ≡ true → IsFiner n e o
  finer o at ro =
      let f = t.refined b o at ro in
      record {
        one = λ x y same. eqb-true _ _ (f.one x y (sym (join.one x y) ∙ eq-eqb _ _ same));
        bit = λ i h set. f.bit i h (sym (join.bit i h) ∙ set);
      }

  -- so what it hands on passes fewer tests
  agree_falls : (x y : ℕ) → Falls (agree x y) flows old b e
  agree_falls x y o f at ro is agreed =
      let w = (sound b f is).0 in
      let k = shaped_known n o (t.shaped b o at) ro in
      eq-eqb _ _ (finer_past (length e.classes) (length o.classes) e.classes o.classes (source_at f.changes x) (source_at f.changes y)
      (λ i. subst (λ (m : ℕ). slice_index e.classes i ≤ m) (sym fit.classes) (fit.few i)) (source_fit n f.changes x w) (source_fit n f.changes y w)
      ((finer o at ro).one) (eqb-true _ _ agreed))

  bit_falls : (i : ℕ) → Falls (λ h. hand_bit h i) flows old b e
  bit_falls i o f at ro is set = less_past e.given o.given (source_at f.changes (suc i)) (λ j on. by_index j (nat_lt j n) refl on) set where
    by_index : (j : ℕ) (z : Bool) → nat_lt j n ≡ z → slice_index_or e.given j false ≡ true → slice_index_or o.given j false ≡ true
    by_index j true h on = (finer o at ro).bit j (ltb-true j n h) on
    by_index j false h on = absurd (false≢true (sym (get_or_past e.given j false (omega (arith, ltb-false j n h, fit.bits))) ∙ on))

  never_falls : Falls (λ h. false) flows old b e
  never_falls o f at ro is absent = absent

  refined_by : (c : ℕ) (x : BlockEntry) → IsRefined n (handed start flows old c (ways_at preds c)) x →
      IsRefined n (handed start flows (slice_set old b e) c (ways_at preds c)) x
  refined_by c x f = record {
    reached = λ h. some_hands _ (not_all (list_all (λ q. false) (handed start flows (slice_set old b e) c (ways_at preds c))) refl (no_hands _ (f.reached h)));
    one = λ y z all. f.one y z (all_fall (agree y z) start flows old b e c (ways_at preds c) here r (agree_falls y z) all);
    bit = λ i h all. f.bit i h (all_fall (λ q. hand_bit q i) start flows old b e c (ways_at preds c) here r (bit_falls i) all);
  } where
    not_all : (z : Bool) → list_all (λ q. false) (handed start flows (slice_set old b e) c (ways_at preds c)) ≡ z →
        list_all (λ q. false) (handed start flows old c (ways_at preds c)) ≡ false → list_all (λ q. false)
        (handed start flows (slice_set old b e) c (ways_at preds c)) ≡ false
    not_all true all before = absurd (false≢true (sym before ∙ all_fall (λ q. false) start flows old b e c (ways_at preds c) here r never_falls all))
    not_all false all before = all

  join_refined : IsRefined n (handed start flows old b (ways_at preds b)) e
  join_refined = record { reached = λ h. sym join.reached ∙ h; one = λ x y all. join.one x y ∙ all; bit = λ i h all. join.bit i h ∙ all }

  join_settled : IsSettled n (handed start flows old b (ways_at preds b)) e
  join_settled = record { reached = λ h. r; one = λ x y same. sym (join.one x y) ∙ same; bit = λ i h set. sym (join.bit i h) ∙ set }

  -- a table with this entry
  pub changed_table : (after : List Bool) → length after ≡ length flows →
      ((c : ℕ) → slice_index_or after c true ≡ false → ((c ≡ b) ⊎ (slice_index_or before c true ≡ false)) × (Contains (ways_at preds c) b → ⊥)) →
      IsTable n start flows preds (slice_set old b e) after
  changed_table after long marks = record {
    long = length-set old b e ∙ t.long;
    marks = long;
    shaped = λ c x at. by (λ q. IsShaped n q) c x at (inl (r, fit)) (t.shaped c);
    numbered = λ c x at rx. by (λ q. q.reached ≡ true → (m : ℕ) × IsNumbered 1 q.classes m) c x at (λ z. join.numbered) (t.numbered c) rx;
    settled = λ c x at clean. settled c x at (marks c clean) (eqb c b) refl;
    refined = λ c x at rx. refined c x at rx (eqb c b) refl;
  } where
    by : (P : BlockEntry → Type 0) (c : ℕ) (x : BlockEntry) → slice_get (slice_set old b e) c ≡ Some x → P e → ((o : BlockEntry) →
        slice_get old c ≡ Some o → P o) → P x
    by P c x at new old_ones = by_case (eqb c b) refl where
      by_case : (z : Bool) → eqb c b ≡ z → P x
      by_case true same = subst P (set_here old b e x c here (eqb-true c b same) at) new
      by_case false other = old_ones x (set_there old b e x c (eqb-false c b other) at)

    settled : (c : ℕ) (x : BlockEntry) → slice_get (slice_set old b e) c ≡ Some x →
        ((c ≡ b) ⊎ (slice_index_or before c true ≡ false)) × (Contains (ways_at preds c) b → ⊥) → (z : Bool) → eqb c b ≡ z →
        IsSettled n (handed start flows (slice_set old b e) c (ways_at preds c)) x
    settled c x at (was, none) true same =
        let is = eqb-true c b same in
        subst (λ (hs : List Hand). IsSettled n hs x) (sym (same_handed start flows old b e c (ways_at preds c) here none))
        (subst (IsSettled n (handed start flows old c (ways_at preds c))) (set_here old b e x c here is at)
        (subst (λ (k : ℕ). IsSettled n (handed start flows old k (ways_at preds k)) e) (sym is) join_settled))
    settled c x at (inl is, none) false other = absurd (eqb-false c b other is)
    settled c x at (inr clean, none) false other =
        subst (λ (hs : List Hand). IsSettled n hs x) (sym (same_handed start flows old b e c (ways_at preds c) here none))
        (t.settled c x (set_there old b e x c (eqb-false c b other) at) clean)

    refined : (c : ℕ) (x : BlockEntry) → slice_get (slice_set old b e) c ≡ Some x → x.reached ≡ true → (z : Bool) → eqb c b ≡ z →
        IsRefined n (handed start flows (slice_set old b e) c (ways_at preds c)) x
    refined c x at rx true same =
        let is = eqb-true c b same in
        refined_by c x (subst (IsRefined n (handed start flows old c (ways_at preds c))) (set_here old b e x c here is at)
        (subst (λ (k : ℕ). IsRefined n (handed start flows old k (ways_at preds k)) e) (sym is) join_refined))
    refined c x at rx false other = refined_by c x (t.refined c x (set_there old b e x c (eqb-false c b other) at) rx)

  -- which is proven
  pub changed_proven : (g : Program) (xs : List Tracked) → length xs ≡ n → Facts g xs start flows preds → AreProven g xs old →
      AreProven g xs (slice_set old b e)
  changed_proven g xs is facts proven c x at rx = by_case (eqb c b) refl where
    shaped_xs : (c : ℕ) (x : BlockEntry) → slice_get old c ≡ Some x → IsShaped (length xs) x
    shaped_xs c x at = subst (λ (m : ℕ). IsShaped m x) (sym is) (t.shaped c x at)

    by_case : (z : Bool) → eqb c b ≡ z → IsProven g xs c x
    by_case true same =
        let here_now = eqb-true c b same in
        subst (IsProven g xs c) (set_here old b e x c here here_now at)
        (subst (λ (k : ℕ). IsProven g xs k e) (sym here_now)
        (join_proven g xs start flows preds facts old shaped_xs b e proven (subst (λ (m : ℕ). IsJoin m (handed start flows old b (ways_at preds b)) e)
        (sym is) join) r))
    by_case false other = proven c x (set_there old b e x c (eqb-false c b other) at) rx

  -- and heavier
  pub changed_heavier : 0 < n → (slice_index_or old b e ≡ e → ⊥) → weight_of old < weight_of (slice_set old b e)
  changed_heavier some differ = heavier_table old b e here (λ o at. by_case o at o.reached refl) where
    by_case : (o : BlockEntry) → slice_get old b ≡ Some o → (z : Bool) → o.reached ≡ z → weight o < weight e
    by_case o at true ro =
        let (m, p) = join.numbered in
        let (l, q) = t.numbered b o at ro in
        heavier n e o m l fit (shaped_known n o (t.shaped b o at) ro) r ro p q (finer o at ro) (λ same. differ (get_or_from_slice_get old b o e at ∙ same))
    by_case o at false ro =
        let (m, p) = join.numbered in
        omega (arith, heavy n e m some fit r p, ap (λ (z : Bool). cond z (classes_from 1 o.classes + count_off o.given) 0) ro)

-- ---- a turn

pub changed_turn : (n : ℕ) (start : BlockEntry) (flows : List Flow) (preds : List (List ℕ)) (old new : List BlockEntry) (before after : List Bool) (b : ℕ)
    (f : Flow) →
    IsKnown n start → length start.classes ≡ n → AreSoundFlows n flows → ArePredecessors (ways_of flows) preds → IsTable n start flows preds old before →
    b < length flows → 0 < n →
    Visited start flows preds old new b true → slice_get flows b ≡ Some f → length after ≡ length flows →
    ((c : ℕ) → slice_index_or after c true ≡ false → ((c ≡ b) ⊎ (slice_index_or before c true ≡ false)) × (Contains f.ways c → ⊥)) →
    Turned n start flows preds old new before after b true
changed_turn n start flows preds old new before after b f known is sound are_preds t less some (e, r, differ, set, join) at long marks =
    let j = subst (λ (m : ℕ). IsJoin m (handed start flows old b (ways_at preds b)) e) is join in
    let no_way : (c : ℕ) → (Contains f.ways c → ⊥) → Contains (ways_at preds c) b → ⊥ =
    λ c none among. let (f', at', way) = edge_flow flows b c ((are_preds.each c b).0 among) in
    none (subst (λ (q : Flow). Contains q.ways c) (same_flow f' f (sym at' ∙ at)) way) in
    subst (λ (q : List BlockEntry). Turned n start flows preds old q before after b true) (sym set) (record {
      table = changed_table n start flows preds old before known sound are_preds t b e less j r after long (λ c clean. (
        (marks c clean).0,
        no_way c (marks c clean).1,
      ));
      proven = changed_proven n start flows preds old before known sound are_preds t b e less j r;
      heavier = λ z. changed_heavier n start flows preds old before known sound are_preds t b e less j r some differ;
      same = λ z. absurd (false≢true (sym z));
      unmarked = λ z. absurd (false≢true (sym z));
      fewer = λ z. absurd (false≢true (sym z));
    }) where
      same_flow : (p q : Flow) → Some p ≡ Some q → p ≡ q
      same_flow p q e = cc

pub unchanged_turn : (n : ℕ) (start : BlockEntry) (flows : List Flow) (preds : List (List ℕ)) (old new : List BlockEntry) (before after : List Bool) (b : ℕ) →
    length start.classes ≡ n → IsTable n start flows preds old before → b < length flows → Visited start flows preds old new b false →
    after ≡ slice_set before b false →
    Turned n start flows preds old new before after b false
unchanged_turn n start flows preds old new before after b is t less (same, (e, join, how)) set =
    let j = subst (λ (m : ℕ). IsJoin m (handed start flows old b (ways_at preds b)) e) is join in
    let there : b < length before = omega (arith, t.marks, less) in
    subst (λ (q : List BlockEntry). Turned n start flows preds old q before after b false) (sym same)
    (subst (λ (d : List Bool). Turned n start flows preds old old before d b false) (sym set) (record {
      table = record {
        long = t.long;
        marks = length-set before b false ∙ t.marks;
        shaped = t.shaped;
        numbered = t.numbered;
        settled = λ c x at clean. settled j c x at clean (eqb c b) refl;
        refined = t.refined;
      };
      proven = λ g xs e facts proven. proven;
      heavier = λ z. absurd (false≢true z);
      same = λ z. refl;
      unmarked = λ z. get_or-set_same before b false true there;
      fewer = λ z c clean. fewer c clean (eqb c b) refl;
    })) where
      fewer : (c : ℕ) → slice_index_or before c true ≡ false → (z : Bool) → eqb c b ≡ z → slice_index_or (slice_set before b false) c true ≡ false
      fewer c clean true is_b =
          ap (λ (k : ℕ). slice_index_or (slice_set before b false) k true) (eqb-true c b is_b) ∙ get_or-set_same before b false true (omega (
            arith,
            t.marks,
            less,
          ))
      fewer c clean false other = get_or-set_other before b c false true (eqb-false c b other) ∙ clean

      settled_here : IsJoin n (handed start flows old b (ways_at preds b)) e → (e.reached ≡ false) ⊎ (slice_get old b ≡ Some e) → (x : BlockEntry) →
          slice_get old b ≡ Some x →
          IsSettled n (handed start flows old b (ways_at preds b)) x
      settled_here j (inl unknown) x at =
          let empty : not (nat_eq (length (handed start flows old b (ways_at preds b))) 0) ≡ false = sym j.reached ∙ unknown in
          record {
            reached = λ h. absurd (false≢true (sym empty ∙ h));
            one = λ y z same. no_hand (λ h. agree y z h) (handed start flows old b (ways_at preds b)) empty;
            bit = λ i h on. no_hand (λ q. hand_bit q i) (handed start flows old b (ways_at preds b)) empty;
          } where
            no_hand : (q : Hand → Bool) (hs : List Hand) → not (nat_eq (length hs) 0) ≡ false → list_all q hs ≡ true
            no_hand q [] z = refl
            no_hand q (h ∷ hs) z = absurd (false≢true (sym z ∙ ap not (ne_eqb (suc (length hs)) 0 (λ k. absurd (omega (arith, k))))))
      settled_here j (inr stays) x at =
          let is_e : e ≡ x = same_entry e x (sym stays ∙ at) in
          subst (IsSettled n (handed start flows old b (ways_at preds b))) is_e (record {
            reached = λ h. j.reached ∙ h;
            one = λ y z same. sym (j.one y z) ∙ same;
            bit = λ i h on. sym (j.bit i h) ∙ on;
          }) where
            same_entry : (p q : BlockEntry) → Some p ≡ Some q → p ≡ q
            same_entry p q z = cc

      settled : IsJoin n (handed start flows old b (ways_at preds b)) e → (c : ℕ) (x : BlockEntry) → slice_get old c ≡ Some x →
          slice_index_or (slice_set before b false) c true ≡ false → (z : Bool) → eqb c b ≡ z → IsSettled n (handed start flows old c (ways_at preds c)) x
      settled j c x at clean true is_b =
          let here_now = eqb-true c b is_b in
          subst (λ (k : ℕ). IsSettled n (handed start flows old k (ways_at preds k)) x) (sym here_now)
          (settled_here j how x (subst (λ (k : ℕ). slice_get old k ≡ Some x) here_now at))
      settled j c x at clean false other = t.settled c x at (sym (get_or-set_other before b c false true (eqb-false c b other)) ∙ clean)

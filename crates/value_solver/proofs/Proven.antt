-- What a visit tells apart a path tells apart, and in the end what is never split is one on every path.
use Rattle.std.proofs.Common.{◌≡◌, ℕ, zero, suc, ◌<◌, ◌≤◌, List, [], ◌∷◌, length, Option, Some, None, Bool, true, false, cond, not, refl, sym, ap, ◌∙◌}
use Rattle.std.proofs.Common.{subst, inl, inr, arith, ltb-true, ltb-false}
use Rattle.std.specs.Prelude.{◌⊎◌, slice_index, slice_index_or, slice_get, nat_eq, nat_lt, IsSome, is_some, Contains, ◌&&◌}
use Rattle.std.specs.List.{list_all}
use Rattle.std.proofs.lemmas.Bool.{eqb-true, eqb-false, eq-eqb, false≢true, and_parts, ne_eqb}
use Rattle.std.proofs.lemmas.List.Folds.{list_all-append}
use Rattle.std.proofs.lemmas.List.{get_or_past}
use Rattle.std.proofs.lemmas.Option.{slice_get_within, get_or_from_slice_get}
use Rattle.mir_func.specs.Graph.{Program}
use Rattle.sem_value_ids.specs.sem_mir.ValueId.{Token, Tokens, begin, entry_tokens}
use Rattle.value_solver.specs.declared.tracked.Tracked.{Tracked}
use Rattle.value_solver.specs.declared.entry.BlockEntry.{BlockEntry}
use Rattle.value_solver.specs.Entry.{PathTo, IsReached, AreClasses, IsEntry}
use Rattle.value_solver.specs.declared.flow.Flow.{Flow}
use Rattle.value_solver.specs.Numbering.{class_in}
use Rattle.value_solver.specs.Joining.{Hand, hand_class, hand_bit, agree, alike, IsJoin, IsKnown, AreWithin, source_at}
use Rattle.dataflow.specs.Graph.{ways_at}
use Rattle.value_solver.specs.Hands.{hand_by, hand_of, hands_of, handed, IsShaped}
use Rattle.value_solver.specs.Flows.{token_at, thing_token, told, AreFlows, Comes, Begins}
use Rattle.value_solver.specs.Invariants.{Differ, Lacks, IsProven, IsSettled, AreProven, Facts}
use Rattle.value_solver.proofs.Edges.{edge_flow, flow_edge}
use Rattle.value_solver.proofs.Passing.{Apart, Missing, apart_past, missing_past, one_past, given_past, source_fit}

-- ---- who hands on

-- a block that hands on to another
pub record Handing (flows : List Flow) (entries : List BlockEntry) (ps : List ℕ) : Type 0 where
  pub block : ℕ
  pub entry : BlockEntry
  pub flow : Flow
  pub among : Contains ps block
  pub known : slice_get entries block ≡ Some entry
  pub here : slice_get flows block ≡ Some flow
  pub reached : entry.reached ≡ true

abbrev pub hand_from : {flows : List Flow} {entries : List BlockEntry} {ps : List ℕ} → Handing flows entries ps → Hand
hand_from h = record { entry = h.entry; changes = h.flow.changes }

and_false : (a b : Bool) → (a && b) ≡ false → (a ≡ false) ⊎ (b ≡ false)
and_false true b e = inr e
and_false false b e = inl refl

contains_here : (p : ℕ) (ps : List ℕ) → Contains (p ∷ ps) p
contains_here p ps = (0, omega arith, refl)

contains_later : (q p : ℕ) (ps : List ℕ) → Contains ps q → Contains (p ∷ ps) q
contains_later q p ps (k, h, e) = (suc k, omega arith, e)

-- some hand fails a test
pub failing : (t : Hand → Bool) (flows : List Flow) (entries : List BlockEntry) (ps : List ℕ) → list_all t (hands_of flows entries ps) ≡ false →
    (h : Handing flows entries ps) × (t (hand_from h) ≡ false)
failing t flows entries [] e = absurd (false≢true (sym e))
failing t flows entries (p ∷ ps) e =
    split (and_false _ _ (sym (list_all-append t (hand_of flows entries p) (hands_of flows entries ps)) ∙ e)) (λ f. failing t flows entries ps f) where
      one : (x : Option BlockEntry) (f : Option Flow) → slice_get entries p ≡ x → slice_get flows p ≡ f → list_all t (hand_by x f) ≡ false →
          (h : Handing flows entries (p ∷ ps)) × (t (hand_from h) ≡ false)
      one None f a b k = absurd (false≢true (sym k))
      one (Some x) None a b k = absurd (false≢true (sym k))
      one (Some x) (Some f) a b k = by_reached x.reached refl k where
        by_reached : (z : Bool) → x.reached ≡ z → list_all t (cond z (record { entry = x; changes = f.changes } ∷ []) []) ≡ false →
            (h : Handing flows entries (p ∷ ps)) × (t (hand_from h) ≡ false)
        by_reached false r q = absurd (false≢true (sym q))
        by_reached true r q = (
          record { block = p; entry = x; flow = f; among = contains_here p ps; known = a; here = b; reached = r },
          fails (t (record {
            entry = x;
            changes = f.changes;
          })) q,
        ) where
          fails : (z : Bool) → (z && true) ≡ false → z ≡ false
          fails true q = q
          fails false q = refl

      split : (list_all t (hand_of flows entries p) ≡ false) ⊎ (list_all t (hands_of flows entries ps) ≡ false) →
          (list_all t (hands_of flows entries ps) ≡ false → (h : Handing flows entries ps) × (t (hand_from h) ≡ false)) →
          (h : Handing flows entries (p ∷ ps)) × (t (hand_from h) ≡ false)
      split (inl k) rest = one (slice_get entries p) (slice_get flows p) refl refl k
      split (inr k) rest =
          let (h, f) = rest k in (
            record {
              block = h.block;
              entry = h.entry;
              flow = h.flow;
              among = contains_later h.block p ps h.among;
              known = h.known;
              here = h.here;
              reached = h.reached;
            },
            f,
          )

-- all pass it
pub passing : (t : Hand → Bool) (flows : List Flow) (entries : List BlockEntry) (ps : List ℕ) (q : ℕ) (x : BlockEntry) (f : Flow) → Contains ps q →
    slice_get entries q ≡ Some x → slice_get flows q ≡ Some f → x.reached ≡ true → list_all t (hands_of flows entries ps) ≡ true →
    t (record { entry = x; changes = f.changes }) ≡ true
passing t flows entries [] q x f (k, less, e) a b r all = absurd (omega arith)
passing t flows entries (p ∷ ps) q x f (zero, less, e) a b r all =
    let parts = and_parts _ _ (sym (list_all-append t (hand_of flows entries p) (hands_of flows entries ps)) ∙ all) in
    let same : hand_of flows entries p ≡ record { entry = x; changes = f.changes } ∷ [] =
    (λ z. hand_by (slice_get entries (e z)) (slice_get flows (e z))) ∙ (λ z. hand_by (a z) (b z))
    ∙ ap (λ (z : Bool). cond z (record { entry = x; changes = f.changes } ∷ []) []) r in
    (and_parts _ _ (ap (list_all t) (sym same) ∙ parts.0)).0
passing t flows entries (p ∷ ps) q x f (suc k, less, e) a b r all =
    let parts = and_parts _ _ (sym (list_all-append t (hand_of flows entries p) (hands_of flows entries ps)) ∙ all) in
    passing t flows entries ps q x f (k, omega arith, e) a b r parts.1

-- what is handed on to a block: by the start, or by a predecessor
pub who_fails : (t : Hand → Bool) (start : BlockEntry) (flows : List Flow) (entries : List BlockEntry) (b : ℕ) (ps : List ℕ) →
    list_all t (handed start flows entries b ps) ≡ false →
    ((b ≡ 0) × (t (record { entry = start; changes = [] }) ≡ false)) ⊎ ((h : Handing flows entries ps) × (t (hand_from h) ≡ false))
who_fails t start flows entries zero ps e = split (and_false _ _ e) where
  split : (t (record { entry = start; changes = [] }) ≡ false) ⊎ (list_all t (hands_of flows entries ps) ≡ false) →
      ((length {A = ℕ} [] ≡ 0) × (t (record { entry = start; changes = [] }) ≡ false)) ⊎ ((h : Handing flows entries ps) × (t (hand_from h) ≡ false))
  split (inl k) = inl (refl, k)
  split (inr k) = inr (failing t flows entries ps k)
who_fails t start flows entries (suc b) ps e = inr (failing t flows entries ps e)

pub start_passes : (t : Hand → Bool) (start : BlockEntry) (flows : List Flow) (entries : List BlockEntry) (b : ℕ) (ps : List ℕ) → b ≡ 0 →
    list_all t (handed start flows entries b ps) ≡ true → t (record { entry = start; changes = [] }) ≡ true
start_passes t start flows entries zero ps z all = (and_parts _ _ all).0
start_passes t start flows entries (suc b) ps z all = absurd (omega arith)

pub hand_passes : (t : Hand → Bool) (start : BlockEntry) (flows : List Flow) (entries : List BlockEntry) (b : ℕ) (ps : List ℕ) (q : ℕ) (x : BlockEntry)
    (f : Flow) →
    Contains ps q → slice_get entries q ≡ Some x → slice_get flows q ≡ Some f → x.reached ≡ true →
    list_all t (handed start flows entries b ps) ≡ true → t (record { entry = x; changes = f.changes }) ≡ true
hand_passes t start flows entries zero ps q x f is a c r all = passing t flows entries ps q x f is a c r ((and_parts _ _ all).1)
hand_passes t start flows entries (suc b) ps q x f is a c r all = passing t flows entries ps q x f is a c r all

pub no_hands : (hs : List Hand) → not (nat_eq (length hs) 0) ≡ true → list_all (λ h. false) hs ≡ false
no_hands [] e = absurd (false≢true e)
no_hands (h ∷ hs) e = refl

pub some_hands : (hs : List Hand) → list_all (λ h. false) hs ≡ false → not (nat_eq (length hs) 0) ≡ true
some_hands [] e = absurd (false≢true (sym e))
some_hands (h ∷ hs) e = ap not (ne_eqb (suc (length hs)) 0 (λ z. absurd (omega (arith, z))))

-- ---- the start

pub start_class : (start : BlockEntry) (x : ℕ) → hand_class (record { entry = start; changes = [] }) x ≡ class_in start.classes x
start_class start zero = refl
start_class start (suc i) = refl

pub start_agrees : (start : BlockEntry) (x y : ℕ) → agree x y (record { entry = start; changes = [] }) ≡ alike start x y
start_agrees start x y = λ z. nat_eq (start_class start x z) (start_class start y z)

-- ---- what a visit tells apart

pub shaped_known : (n : ℕ) (e : BlockEntry) → IsShaped n e → e.reached ≡ true → IsKnown n e
shaped_known n e (inl (r, k)) h = k
shaped_known n e (inr (r, c, d)) h = absurd (false≢true (sym r ∙ h))

-- a path from a predecessor goes on
goes_apart : (g : Program) (xs : List Tracked) (flows : List Flow) (p b : ℕ) (f : Flow) (x y : ℕ) → AreFlows g xs flows → slice_get flows p ≡ Some f →
    Contains f.ways b →
    Apart g p (λ k u. told xs k u (source_at f.changes x)) (λ k u. told xs k u (source_at f.changes y)) → Differ g xs b x y
goes_apart g xs flows p b f x y a here way d =
    let r = a.onward p b d.steps d.tokens f d.path here way in
    (r.steps, r.tokens, r.path, λ e. d.differ (sym (r.told x) ∙ e ∙ r.told y))

goes_missing : (g : Program) (xs : List Tracked) (flows : List Flow) (p b : ℕ) (f : Flow) (x : ℕ) → AreFlows g xs flows → slice_get flows p ≡ Some f →
    Contains f.ways b →
    Missing g p (λ k u. told xs k u (source_at f.changes x)) → Lacks g xs b x
goes_missing g xs flows p b f x a here way d =
    let r = a.onward p b d.steps d.tokens f d.path here way in
    (r.steps, r.tokens, r.path, r.told x ∙ d.none)

no_token : {A : Type 0} (x : Option A) → (IsSome x → ⊥) → x ≡ None
no_token None h = refl
no_token (Some x) h = absurd (h refl)

beyond_none : (xs : List Tracked) (i : ℕ) (t : Tokens) → length xs ≤ i → token_at xs (suc i) t ≡ None
beyond_none [] i t h = refl
beyond_none (x ∷ xs) zero t h = absurd (omega arith)
beyond_none (x ∷ xs) (suc i) t h = beyond_none xs i t (omega arith)

some_here : (entries : List BlockEntry) (b : ℕ) → slice_get entries b ≡ None → b < length entries → ⊥
some_here [] b e less = absurd (omega arith)
some_here (x ∷ entries) zero e less = some_none e where
  some_none : {A : Type 0} {z : A} → Some z ≡ None → ⊥
  some_none e = cc
some_here (x ∷ entries) (suc b) e less = some_here entries b e (omega arith)

module _ (g : Program) (xs : List Tracked) (start : BlockEntry) (flows : List Flow) (preds : List (List ℕ)) (facts : Facts g xs start flows preds)
    (entries : List BlockEntry) (shaped : (b : ℕ) (e : BlockEntry) → slice_get entries b ≡ Some e → IsShaped (length xs) e) where
  known : {ps : List ℕ} (h : Handing flows entries ps) → IsKnown (length xs) h.entry
  known h = shaped_known (length xs) h.entry (shaped h.block h.entry h.known) h.reached

  way : (b : ℕ) (h : Handing flows entries (ways_at preds b)) → Contains h.flow.ways b
  way b h =
      let (f, at, way) = edge_flow flows h.block b ((facts.are_preds.each b h.block).0 h.among) in
      let same : Some f ≡ Some h.flow = sym at ∙ h.here in
      let flow : f ≡ h.flow = cc in
      subst (λ (z : Flow). Contains z.ways b) flow way

  within : {ps : List ℕ} (h : Handing flows entries ps) → AreWithin (length xs) h.flow.changes
  within h = (facts.are_sound h.block h.flow h.here).0

  by_apart : (b : ℕ) (x y : ℕ) → AreProven g xs entries →
      ((b ≡ 0) × (agree x y (record { entry = start; changes = [] }) ≡ false)) ⊎ ((h : Handing flows entries (ways_at preds b))
      × (agree x y (hand_from h) ≡ false)) →
      Differ g xs b x y
  by_apart b x y proven (inl (first, e)) =
      subst (λ (z : ℕ). Differ g xs z x y) (sym first) (
        0,
        entry_tokens,
        begin,
        λ same. absurd (eqb-false (class_in start.classes x) (class_in start.classes y) (sym (start_agrees start x y) ∙ e)
            ((facts.is_start.one x y).1 same)),
      )
  by_apart b x y proven (inr (h, e)) =
      let p = proven h.block h.entry h.known h.reached in
      let (n, t, path) = p.reached in
      goes_apart g xs flows h.block b h.flow x y facts.are_flows h.here (way b h)
      (apart_past (length h.entry.classes) n t g h.block h.entry.classes xs (source_at h.flow.changes x) (source_at h.flow.changes y) path
      (λ u v d. let (m, w, q, differ) = p.apart u v (ne_eqb _ _ d) in record { steps = m; tokens = w; path = q; differ = differ })
      (eqb-false _ _ e))

  by_missing : (b i : ℕ) → AreProven g xs entries →
      ((b ≡ 0) × (hand_bit (record { entry = start; changes = [] }) i ≡ false)) ⊎ ((h : Handing flows entries (ways_at preds b))
      × (hand_bit (hand_from h) i ≡ false)) →
      Lacks g xs b (suc i)
  by_missing b i proven (inl (first, e)) =
      subst (λ (z : ℕ). Lacks g xs z (suc i)) (sym first)
      (0, entry_tokens, begin, no_token _ (λ some. false≢true (sym e ∙ (facts.is_start.bit i).1 some)))
  by_missing b i proven (inr (h, e)) =
      let p = proven h.block h.entry h.known h.reached in
      let (n, t, path) = p.reached in
      goes_missing g xs flows h.block b h.flow (suc i) facts.are_flows h.here (way b h)
      (missing_past n t g h.block h.entry.given xs (source_at h.flow.changes (suc i)) path
      (λ j off. lacking p n t path j (nat_lt j (length xs)) refl off) e) where
        lacking : (p : IsProven g xs h.block h.entry) (n : ℕ) (t : Tokens) → PathTo g h.block n t → (j : ℕ) (z : Bool) → nat_lt j (length xs) ≡ z →
            slice_index_or h.entry.given j false ≡ false → Missing g h.block (λ k u. token_at xs (suc j) u)
        lacking p n t path j true less off = let (m, w, q, none) = p.off j (ltb-true j (length xs) less) off in record {
          steps = m;
          tokens = w;
          path = q;
          none = none;
        }
        lacking p n t path j false less off = record { steps = n; tokens = t; path = path; none = beyond_none xs j t (ltb-false j (length xs) less) }

  by_reached : (b : ℕ) → AreProven g xs entries → ((b ≡ 0) × (false ≡ false)) ⊎ ((h : Handing flows entries (ways_at preds b)) × (false ≡ false)) →
      IsReached g b
  by_reached b proven (inl (first, e)) = subst (IsReached g) (sym first) (0, entry_tokens, begin)
  by_reached b proven (inr (h, e)) =
      let (n, t, path) = (proven h.block h.entry h.known h.reached).reached in
      let r = facts.are_flows.onward h.block b n t h.flow path h.here (way b h) in
      (r.steps, r.tokens, r.path)

  -- the join of what is handed on is proven
  pub join_proven : (b : ℕ) (e : BlockEntry) → AreProven g xs entries → IsJoin (length xs) (handed start flows entries b (ways_at preds b)) e →
      e.reached ≡ true →
      IsProven g xs b e
  join_proven b e proven j r = record {
    reached = by_reached b proven (who_fails (λ h. false) start flows entries b (ways_at preds b) (no_hands _ (sym j.reached ∙ r)));
    apart = λ x y d. by_apart b x y proven (who_fails (agree x y) start flows entries b (ways_at preds b) (sym (j.one x y) ∙ d));
    off = λ i less d. by_missing b i proven (who_fails (λ h. hand_bit h i) start flows entries b (ways_at preds b) (sym (j.bit i less) ∙ d));
  }

  -- ---- what is never split is one on every path

  pub record Tells (e : BlockEntry) (t : Tokens) : Type 0 where
    pub known_here : e.reached ≡ true
    pub one : (x y : ℕ) → class_in e.classes x ≡ class_in e.classes y → token_at xs x t ≡ token_at xs y t
    pub bit : (i : ℕ) → i < length xs → slice_index_or e.given i false ≡ true → IsSome (token_at xs (suc i) t)

  abbrev AllSettled : Type 0
  AllSettled = (b : ℕ) (e : BlockEntry) → slice_get entries b ≡ Some e → IsSettled (length xs) (handed start flows entries b (ways_at preds b)) e

  at_start : (b : ℕ) (e : BlockEntry) (t : Tokens) → IsSettled (length xs) (handed start flows entries b (ways_at preds b)) e → Begins xs b t → Tells e t
  at_start b e t s (first, same) = record {
    known_here = s.reached (started b first);
    one = λ x y c.
        let agreed = start_passes (agree x y) start flows entries b (ways_at preds b) first (s.one x y (eq-eqb _ _ c)) in
        same x ∙ (facts.is_start.one x y).0 (eqb-true _ _ (sym (start_agrees start x y) ∙ agreed)) ∙ sym (same y);
    bit = λ i less g.
        let set = start_passes (λ h. hand_bit h i) start flows entries b (ways_at preds b) first (s.bit i less g) in
        subst IsSome (sym (same (suc i))) ((facts.is_start.bit i).0 set);
  } where
    started : (c : ℕ) → c ≡ 0 → not (nat_eq (length (handed start flows entries c (ways_at preds b))) 0) ≡ true
    started zero z = some_hands (handed start flows entries zero (ways_at preds b)) refl
    started (suc c) z = absurd (omega arith)

  given_or_beyond : (x : BlockEntry) (u : Tokens) → Tells x u → IsKnown (length xs) x → (j : ℕ) (z : Bool) → nat_lt j (length xs) ≡ z →
      slice_index_or x.given j false ≡ true → IsSome (token_at xs (suc j) u)
  given_or_beyond x u h k j true less e = h.bit j (ltb-true j (length xs) less) e
  given_or_beyond x u h k j false less e =
      absurd (false≢true (sym (get_or_past x.given j false (omega (arith, k.bits, ltb-false j (length xs) less))) ∙ e))

  at_way : (b m : ℕ) (e : BlockEntry) (t : Tokens) → IsSettled (length xs) (handed start flows entries b (ways_at preds b)) e → (c : Comes g xs flows b m t) →
      (x : BlockEntry) → slice_get entries c.block ≡ Some x → Tells x c.tokens → Tells e t
  at_way b m e t s c x at h =
      let k = shaped_known (length xs) x (shaped c.block x at) h.known_here in
      let w = (facts.are_sound c.block c.flow c.here).0 in
      let among = (facts.are_preds.each b c.block).1 (flow_edge flows c.block b c.flow c.here c.way) in
      record {
        known_here = s.reached (some_hands _ (nonempty (list_all (λ q. false) (handed start flows entries b (ways_at preds b))) refl among h.known_here));
        one = λ y z same.
            let agreed = hand_passes (agree y z) start flows entries b (ways_at preds b) c.block x c.flow among at c.here h.known_here (s.one y z
            (eq-eqb _ _ same)) in
            c.told y
            ∙ one_past (length x.classes) c.steps x.classes xs c.tokens (source_at c.flow.changes y) (source_at c.flow.changes z)
            (λ i. subst (λ (n : ℕ). slice_index x.classes i ≤ n) (sym k.classes) (k.few i)) (source_fit (length xs) c.flow.changes y w)
            (source_fit (length xs) c.flow.changes z w) h.one (eqb-true _ _ agreed)
            ∙ sym (c.told z);
        bit = λ i less g.
            let set = hand_passes (λ q. hand_bit q i) start flows entries b (ways_at preds b) c.block x c.flow among at c.here h.known_here (s.bit i less g) in
            subst IsSome (sym (c.told (suc i)))
            (given_past c.steps x.given xs c.tokens (source_at c.flow.changes (suc i)) (λ j. given_or_beyond x c.tokens h k j (nat_lt j (length xs)) refl) set);
      } where
        nonempty : (z : Bool) → list_all (λ q. false) (handed start flows entries b (ways_at preds b)) ≡ z → Contains (ways_at preds b) c.block →
            x.reached ≡ true →
            list_all (λ q. false) (handed start flows entries b (ways_at preds b)) ≡ false
        nonempty true e among r = absurd (false≢true (hand_passes (λ q. false) start flows entries b (ways_at preds b) c.block x c.flow among at c.here r e))
        nonempty false e among r = e

  there : length entries ≡ length flows → (b : ℕ) (f : Flow) → slice_get flows b ≡ Some f → (x : BlockEntry) × (slice_get entries b ≡ Some x)
  there long b f at = found (slice_get entries b) refl where
    found : (o : Option BlockEntry) → slice_get entries b ≡ o → (x : BlockEntry) × (slice_get entries b ≡ Some x)
    found (Some x) e = (x, e)
    found None e = absurd (some_here entries b e (omega (arith, long, slice_get_within flows b f at)))

  step : (b m : ℕ) (e : BlockEntry) (t : Tokens) → length entries ≡ length flows → IsSettled (length xs) (handed start flows entries b (ways_at preds b)) e →
      ((p k : ℕ) (u : Tokens) (x : BlockEntry) → PathTo g p k u → k < m → slice_get entries p ≡ Some x → Tells x u) →
      Begins xs b t ⊎ Comes g xs flows b m t → Tells e t
  step b m e t long s before (inl begins) = at_start b e t s begins
  step b m e t long s before (inr c) = let (
    x,
    at,
  ) = there long c.block c.flow c.here in at_way b m e t s c x at (before c.block c.steps c.tokens x c.path c.fewer at)

  tells_within : AllSettled → length entries ≡ length flows → (fuel b n : ℕ) (t : Tokens) (e : BlockEntry) → PathTo g b n t → n < fuel →
      slice_get entries b ≡ Some e →
      Tells e t
  tells_within s long zero b n t e path less at = absurd (omega arith)
  tells_within s long (suc fuel) b n t e path less at =
      step b n e t long (s b e at) (λ p k u x q fewer known. tells_within s long fuel p k u x q (omega arith) known) (facts.are_flows.back b n t path)

  pub tells : AllSettled → length entries ≡ length flows → (b n : ℕ) (t : Tokens) (e : BlockEntry) → PathTo g b n t → slice_get entries b ≡ Some e → Tells e t
  tells s long b n t e path at = tells_within s long (suc n) b n t e path (omega arith) at

  -- proven and settled entries are exact
  pub exact : AllSettled → AreProven g xs entries → length entries ≡ length flows → (b : ℕ) (e : BlockEntry) → slice_get entries b ≡ Some e → IsEntry g xs b e
  exact s proven long b e at = record {
    reached = (λ r. (proven b e at r).reached, λ (n, t, path). (tells s long b n t e path at).known_here);
    classes = classes;
    unreached = λ r. empty r (shaped b e at);
  } where
    empty : e.reached ≡ false → IsShaped (length xs) e → (e.classes ≡ []) × (e.given ≡ [])
    empty r (inl (h, k)) = absurd (false≢true (sym r ∙ h))
    empty r (inr (h, c, d)) = (c, d)

    split_or : (x y : ℕ) → e.reached ≡ true → (z : Bool) → alike e x y ≡ z → ((n : ℕ) (t : Tokens) → PathTo g b n t → token_at xs x t ≡ token_at xs y t) →
        class_in e.classes x ≡ class_in e.classes y
    split_or x y r true h all = eqb-true _ _ h
    split_or x y r false h all = let (n, t, path, differ) = (proven b e at r).apart x y h in absurd (differ (all n t path))

    set_or : (i : ℕ) → i < length xs → e.reached ≡ true → (z : Bool) → slice_index_or e.given i false ≡ z →
        ((n : ℕ) (t : Tokens) → PathTo g b n t → IsSome (token_at xs (suc i) t)) → z ≡ true
    set_or i less r true h all = refl
    set_or i less r false h all =
        let (n, t, path, none) = (proven b e at r).off i less h in absurd (false≢true (subst (λ (o : Option Token). is_some o ≡ true) none (all n t path)))

    classes : IsReached g b → AreClasses g xs b e.classes e.given
    classes (n, t, path) =
        let r = (tells s long b n t e path at).known_here in
        let k = shaped_known (length xs) e (shaped b e at) r in
        record {
          classes_for_all = k.classes;
          given_for_all = k.bits;
          one = λ i j c d x y hx hy hc hd.
              let ci : class_in e.classes (suc i) ≡ c = get_or_from_slice_get e.classes i c 0 hc in
              let dj : class_in e.classes (suc j) ≡ d = get_or_from_slice_get e.classes j d 0 hd in (
                λ same m u q. ap (λ (o : Option Tracked). thing_token o u) (sym hx)
                    ∙ (tells s long b m u e q at).one (suc i) (suc j) (ci ∙ same ∙ sym dj)
                    ∙ ap (λ (o : Option Tracked). thing_token o u) hy,
                λ all. sym ci ∙ split_or (suc i) (suc j) r (alike e (suc i) (suc j)) refl
                    (λ m u q. ap (λ (o : Option Tracked). thing_token o u) hx ∙ all m u q ∙ ap (λ (o : Option Tracked). thing_token o u) (sym hy)) ∙ dj,
              );
          bit = λ i x z hx hz.
              let less = slice_get_within xs i x hx in
              let zi : slice_index_or e.given i false ≡ z = get_or_from_slice_get e.given i z false hz in (
                λ set m u q. subst (λ (o : Option Tracked). IsSome (thing_token o u)) hx ((tells s long b m u e q at).bit i less (zi ∙ set)),
                λ all. set_or i less r z zi (λ m u q. subst (λ (o : Option Tracked). IsSome (thing_token o u)) (sym hx) (all m u q)),
              );
          nothing = λ i c x hx hc.
              let ci : class_in e.classes (suc i) ≡ c = get_or_from_slice_get e.classes i c 0 hc in (
                λ zero m u q. ap (λ (o : Option Tracked). thing_token o u) (sym hx) ∙ (tells s long b m u e q at).one (suc i) 0 (ci ∙ zero),
                λ all. sym ci ∙ split_or (suc i) 0 r (alike e (suc i) 0) refl (λ m u q. ap (λ (o : Option Tracked). thing_token o u) hx ∙ all m u q),
              );
        }

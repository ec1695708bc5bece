-- Added code: how the alignments of f and g come on, and f goes past what it has alone.
use Rattle.std.proofs.Common.{◌≡◌, ℕ, zero, suc, ◌≤◌, List, ◌∷◌, length, Option, false, refl, sym, ap, ◌∙◌, subst, inl, inr, ◌⊎◌, arith}
use Rattle.sem_mir.specs.mir_func.declared.position.Pos.{Pos}
use Rattle.sem_mir.specs.mir_func.declared.item.Item.{Item}
use Rattle.sem_mir.specs.State.{State, Core}
use Rattle.sem_mir.specs.Step.{Went, Falls, do_item, step}
use Rattle.sem_mir.specs.mir_func.Graph.{Program, below, block_start}
use Rattle.sem_mir.specs.mir_func.Positions.{position_of}
use Rattle.sem_mir.specs.Align.{is_code, SyncPoint, Count, sync_point_at, IsOrigin, Since, Start, Same, After, MatchesNext, AnyOrigin, MatchedUpTo}
use Rattle.sem_mir.specs.Align.{other}
use Rattle.sem_mir.specs.Align.{FailsBefore, RunsMatch}
use Rattle.sem_simulation.specs.MatchStates.{Sides, since_item, ShowsSame}
use Rattle.sem_simulation.specs.Added.{Standing, Opening, Level, Ahead, Owing, MayCome, IsPlain, MayStand, IsQuiet, View, ended, both, before, opening}
use Rattle.sem_simulation.specs.Added.{entering}
use Rattle.sem_simulation.specs.Added.{behind, passed, added, paired, Adds, AddedMatchStates, IsFree}
use Rattle.sem_mir.proofs.Alignment.{aligns_at, aligns_once, aligns_not_fails}
use Rattle.sem_mir.proofs.Edges.{step_edge}
use Rattle.sem_mir.proofs.Outcomes.{step_item}
use Rattle.sem_simulation.proofs.Stations.{debug_sync_point}
use Rattle.sem_simulation.proofs.Stops.{later_more, fails_later_more, arrives_free, fails_free, aligns_waiting, fails_waiting, aligns_below, fails_below}

-- an addition of code to what follows
pub record Addition : Type 1 where
  pub count : Count
  pub src : Program
  pub sides : Sides
  pub match_states : AddedMatchStates
  pub facts : Adds count src sides match_states
  pub follows : RunsMatch src sides.old.program (sync_point_at count sides.old.program)
      (AnyOrigin (sync_point_at count sides.old.program)) sides.old.start sides.old.start

module _ (addition : Addition) where
  open addition use {count, src, sides, match_states, facts, follows}
  open sides use {old.{program as f, rest as rest_f, start as s0}, new.{program as g, rest as rest_g, start as g0}}
  open match_states use {match_states.{Stage, entry, MatchItems, MatchCores}, standing, Stops, Extra, Reach}

  abbrev pub fs : Pos → Option SyncPoint
  fs p = sync_point_at count f p

  abbrev pub gs : Pos → Option SyncPoint
  gs p = sync_point_at count g p

  abbrev pub OriginOfF : Pos → Type 0
  OriginOfF p = IsOrigin fs p

  abbrev pub Seen : ℕ → Stage → List Item → List Item → Type 0
  Seen b k xs ys = View count src sides match_states b k xs ys

  abbrev pub Stands : Standing → Item → Type 0
  Stands st x = MayStand count src sides match_states st x

  abbrev pub AlongF : State → State → Since → Type 0
  AlongF v s m = MatchedUpTo src f fs (AnyOrigin fs) s0 s0 v s m

  -- what comes next for f, aligned at sf, comes next for g, aligned at s; and so do faults
  pub record JoinsAt (p : Pos) (mf : Since) (sf : State) (m : Since) (s : State) : Type 0 where
    pub next : (x : State) → MatchesNext src OriginOfF p mf sf x → MatchesNext src (Stops p) p m s x
    pub fails : FailsBefore src OriginOfF p mf sf → FailsBefore src (Stops p) p m s

  abbrev pub Joins : Standing → Since → State → Since → State → Type 0
  Joins st mf sf m s = (p : Pos) → MayCome st p → OriginOfF p → JoinsAt p mf sf m s

  -- after code that both have
  pub join_after : (s : State) → Reach s.pos → ((u : State) → step src s ≡ Went u → Extra u.pos → OriginOfF u.pos) → (m : Since) → (m ≡ Start → ⊥) →
      Joins Level m s m s
  join_after s r clear Start ns p may op = absurd (ns refl)
  join_after s r clear Same ns p may op = record {
    next = λ x a. elim a as (λ _. MatchesNext src (Stops p) p Same s x) [
      | inl e ↦ inl e
      | inr e ↦
          inr (e.0, later_more src fs gs Stops Extra Reach s0.pos facts.more p op s x r clear e.1)
    ];
    fails = λ z. (z.0, fails_later_more src fs gs Stops Extra Reach s0.pos facts.more p op s r clear z.1);
  }
  join_after s r clear After ns p may op = record {
    next = λ x a. later_more src fs gs Stops Extra Reach s0.pos facts.more p op s x r clear a;
    fails = λ z. fails_later_more src fs gs Stops Extra Reach s0.pos facts.more p op s r clear z;
  }

  pub join_code : (st : Standing) (x : Item) (m : Since) (s : State) → Reach s.pos → (m ≡ Start → ⊥) → since_item count x ≡ m → s.pos ≡ position_of x.origin →
      Stands st x → Joins st m s m s
  join_code Opening x m s r ns im at st p may op = absurd may
  join_code Level x m s r ns im at st p may op = join_after s r (λ u go h. st s u at go h) m ns p may op
  join_code (Ahead q) x Start s r ns im at st p may op = absurd (ns refl)
  join_code (Ahead q) x Same s r ns im at st p may op = record {
    next = λ y a. elim a as (λ _. MatchesNext src (Stops p) p Same s y) [ inl e ↦ inl e | inr e ↦ absurd (e.0 (at ∙ st.0 ∙ sym may)) ];
    fails = λ z. absurd (z.0 (at ∙ st.0 ∙ sym may));
  }
  join_code (Ahead q) x After s r ns im at st p may op = let bad : After ≡ Same = sym im ∙ st.1 in cc
  join_code (Owing q) x m s r ns im at st p may op = absurd may

  -- where g is ahead, at what f comes to next
  pub join_ahead : (p : Pos) (mf : Since) (sf s : State) → MatchesNext src OriginOfF p mf sf s → Joins (Ahead p) mf sf Same s
  join_ahead p mf sf s al q may op =
      let oq : OriginOfF p = subst OriginOfF may op in
      record {
        next = λ x a. inl (
          aligns_at src OriginOfF p mf sf s al ∙
              sym may,
          aligns_once src OriginOfF p oq mf sf s x al (subst (λ (z : Pos). MatchesNext src OriginOfF z mf sf x) may a),
        );
        fails = λ z. absurd (aligns_not_fails src OriginOfF p oq mf sf s al (subst (λ (y : Pos). FailsBefore src OriginOfF y mf sf) may z));
      }

  -- where g has stored what was owed
  pub join_behind : (sf s : State) → Reach sf.pos → step src sf ≡ Went s → Joins Level After sf Same s
  join_behind sf s r go p may op = record {
    next = λ x a. aligns_below src fs gs Stops Extra Reach s0.pos facts.more p op sf s x r go a;
    fails = λ z. fails_below src fs gs Stops Extra Reach s0.pos facts.more p op sf s r go z;
  }

  pub join_opened : Reach s0.pos → Joins Level Start s0 Same s0
  join_opened r p may op = record {
    next = λ x a. aligns_waiting src fs gs Stops Extra Reach s0.pos facts.more p op s0 x r a;
    fails = λ z. fails_waiting src fs gs Stops Extra Reach s0.pos facts.more p op s0 r z;
  }

  pub join_free : IsFree count src sides match_states → Reach s0.pos → Joins Level Start s0 Start s0
  join_free free r p may op = record {
    next = λ x a. arrives_free src fs gs Stops Extra Reach s0.pos facts.more p op s0 x r (free p op) a;
    fails = λ z. fails_free src fs gs Stops Extra Reach s0.pos facts.more p op s0 r (free p op) z;
  }

  abbrev pub FaultAt : Pos → Since → State → Type 0
  FaultAt p m s = FailsBefore src (Stops p) p m s

  -- what is known where g isn't level
  abbrev pub Owed : Standing → State → Since → State → Since → State → Type 0
  Owed Opening v mf sf m s = (v ≡ s0) × (mf ≡ Start) × (sf ≡ s0) × (s ≡ s0) × ((m ≡ Start) ⊎ (m ≡ Same))
  Owed (Owing p) v mf sf m s = (s.pos ≡ p) × (sf ≡ s) × (mf ≡ After) × (m ≡ After) × IsPlain src p × ShowsSame s.core v.core
  Owed _ v mf sf m s = Unit {0}

  owed_quiet : (st : Standing) (v w : State) (mf : Since) (sf : State) (m : Since) (s : State) → IsQuiet st → Owed st v mf sf m s → Owed st w mf sf m s
  owed_quiet Opening v w mf sf m s q o = absurd q
  owed_quiet Level v w mf sf m s q o = tt
  owed_quiet (Ahead p) v w mf sf m s q o = tt
  owed_quiet (Owing p) v w mf sf m s q o = absurd q

  -- the blocks where g and f are
  abbrev pub AtHome : Standing → ℕ → ℕ → Type 0
  AtHome Opening a b = a ≡ g0.pos.block
  AtHome _ a b = a ≡ g.enter b

  abbrev HasBegun : Standing → Type 0
  HasBegun Opening = ⊥
  HasBegun _ = Unit {0}

  home_of : (st : Standing) (a b : ℕ) → HasBegun st → AtHome st a b → a ≡ g.enter b
  home_of Opening a b k h = absurd k
  home_of Level a b k h = h
  home_of (Ahead p) a b k h = h
  home_of (Owing p) a b k h = h

  pub at_home : (st : Standing) (a b : ℕ) → HasBegun st → a ≡ g.enter b → AtHome st a b
  at_home Opening a b k h = absurd k
  at_home Level a b k h = h
  at_home (Ahead p) a b k h = h
  at_home (Owing p) a b k h = h

  pub may_begun : (st : Standing) (q : Pos) → MayCome st q → HasBegun st
  may_begun Opening q n = n
  may_begun Level q n = tt
  may_begun (Ahead p) q n = tt
  may_begun (Owing p) q n = tt

  pub stands_begun : (st : Standing) (x : Item) → Stands st x → HasBegun st
  stands_begun Opening x n = n
  stands_begun Level x n = tt
  stands_begun (Ahead p) x n = tt
  stands_begun (Owing p) x n = tt

  -- g is at t and the source aligned at s; f is beside it at v, the source aligned with it at sf
  pub record Now (t s : State) (m : Since) : Type 0 where
    pub v : State
    pub sf : State
    pub mf : Since
    pub k : Stage
    pub along : AlongF v sf mf
    pub home : AtHome (standing k) t.pos.block v.pos.block
    pub reach : Reach s.pos
    pub reach_f : Reach sf.pos
    pub static : MatchItems k v.pos.block (rest_f v.pos) (rest_g t.pos)
    pub dynamic : MatchCores k v.pos.block (rest_f v.pos) (rest_g t.pos) v.core t.core
    pub joins : Joins (standing k) mf sf m s
    pub owed : Owed (standing k) v mf sf m s

  pub dynamic_at : (t s : State) (m : Since) (r : Now t s m) (xs ys : List Item) → rest_f r.v.pos ≡ xs → rest_g t.pos ≡ ys →
      MatchCores r.k r.v.pos.block xs ys r.v.core t.core
  dynamic_at t s m r xs ys ef eg = rw (sym ef, sym eg) r.dynamic

  pub static_at : (t s : State) (m : Since) (r : Now t s m) (xs ys : List Item) → rest_f r.v.pos ≡ xs → rest_g t.pos ≡ ys → MatchItems r.k r.v.pos.block xs ys
  static_at t s m r xs ys ef eg = rw (sym ef, sym eg) r.static

  pub shown : (t s : State) (m : Since) (r : Now t s m) → ShowsSame r.v.core t.core
  shown t s m r = facts.shows r.k r.v.pos.block (rest_f r.v.pos) (rest_g t.pos) r.v.core t.core r.dynamic

  pub home_at : (t s : State) (m : Since) (r : Now t s m) (st : Standing) → standing r.k ≡ st → HasBegun st → t.pos.block ≡ g.enter r.v.pos.block
  home_at t s m r st e h = home_of st t.pos.block r.v.pos.block h (subst (λ (z : Standing). AtHome z t.pos.block r.v.pos.block) e r.home)

  -- g and f further on, the alignments as they were
  pub moves_to : (t s : State) (m : Since) (r : Now t s m) (k' : Stage) → IsQuiet (standing r.k) → standing k' ≡ standing r.k → (t' w : State) →
      AlongF w r.sf r.mf → AtHome (standing r.k) t'.pos.block w.pos.block → MatchItems k' w.pos.block (rest_f w.pos) (rest_g t'.pos) →
      MatchCores k' w.pos.block (rest_f w.pos) (rest_g t'.pos) w.core t'.core → Now t' s m
  moves_to t s m r k' q same t' w al home st dy = record {
    v = w;
    sf = r.sf;
    mf = r.mf;
    k = k';
    along = al;
    home = subst (λ (z : Standing). AtHome z t'.pos.block w.pos.block) (sym same) home;
    reach = r.reach;
    reach_f = r.reach_f;
    static = st;
    dynamic = dy;
    joins = subst (λ (z : Standing). Joins z r.mf r.sf m s) (sym same) r.joins;
    owed = subst (λ (z : Standing). Owed z w r.mf r.sf m s) (sym same) (owed_quiet (standing r.k) r.v w r.mf r.sf m s q r.owed);
  }

  -- g past an item of its own, with the source then aligned at s'
  pub past_g : (t s : State) (m : Since) (r : Now t s m) (k' : Stage) (y : Item) (xs ys : List Item) → rest_f r.v.pos ≡ xs → rest_g t.pos ≡ y ∷ ys →
      (e : Core) → MatchItems k' r.v.pos.block xs ys → MatchCores k' r.v.pos.block xs ys r.v.core e → (s' : State) (m' : Since) →
      AtHome (standing k') t.pos.block r.v.pos.block → Reach s'.pos → Joins (standing k') r.mf r.sf m' s' → Owed (standing k') r.v r.mf r.sf m' s' →
      Now (record { pos = below t.pos; core = e }) s' m'
  past_g t s m r k' y xs ys ef eg e st dy s' m' home reach joins owed =
      let tail = (facts.laid_g.cons t.pos y ys eg).1 in
      record {
        v = r.v;
        sf = r.sf;
        mf = r.mf;
        k = k';
        along = r.along;
        home = home;
        reach = reach;
        reach_f = r.reach_f;
        static = rw (ef, tail) st;
        dynamic = rw (ef, tail) dy;
        joins = joins;
        owed = owed;
      }

  -- level at the start of block n, to which f has gone from u
  pub in_block : (t1 s : State) (m : Since) (u : State) (n : ℕ) (c : Core) (sf : State) (mf : Since) →
      step f u ≡ Went (record { pos = block_start n; core = c }) → t1.pos ≡ block_start (g.enter n) → AlongF (record { pos = block_start n; core = c }) sf mf →
      Reach s.pos → Reach sf.pos → MatchCores (entry n) n (rest_f (block_start n)) (rest_g (block_start (g.enter n))) c t1.core →
      Joins Level mf sf m s → Now t1 s m
  in_block t1 s m u n c sf mf go at al reach reach_f q joins =
      let v : State = record { pos = block_start n; core = c } in
      let level = sym (facts.entry_level n) in
      record {
        v = v;
        sf = sf;
        mf = mf;
        k = entry n;
        along = al;
        home = subst (λ (z : Standing). AtHome z t1.pos.block n) level (ap (λ (z : Pos). z.block) at);
        reach = reach;
        reach_f = reach_f;
        static = subst (λ (z : Pos). MatchItems (entry n) n (rest_f (block_start n)) (rest_g z)) (sym at) (facts.starts u.pos n (step_edge f u v go));
        dynamic = subst (λ (z : Pos). MatchCores (entry n) n (rest_f (block_start n)) (rest_g z) c t1.core) (sym at) q;
        joins = subst (λ (z : Standing). Joins z mf sf m s) level joins;
        owed = subst (λ (z : Standing). Owed z v mf sf m s) level tt;
      }

  abbrev pub IsReady : {b : ℕ} {k : Stage} {xs ys : List Item} → Seen b k xs ys → Type 0
  IsReady (passed q same c s h) = ⊥
  IsReady _ = Unit {0}

  pub record Ready (t s : State) (m : Since) : Type 0 where
    pub at : Now t s m
    pub xs : List Item
    pub ys : List Item
    pub is_f : rest_f at.v.pos ≡ xs
    pub is_g : rest_g t.pos ≡ ys
    pub view : Seen at.v.pos.block at.k xs ys
    pub ready : IsReady view

  -- f passes a debug item alone
  passes : (t s : State) (m : Since) (r : Now t s m) (k' : Stage) (x : Item) (xs ys : List Item) → rest_f r.v.pos ≡ x ∷ xs → rest_g t.pos ≡ ys →
      IsQuiet (standing r.k) → standing k' ≡ standing r.k → is_code x.kind ≡ false → MatchItems k' r.v.pos.block xs ys → (e : Core) →
      do_item f x.kind r.v.core ≡ Falls e → MatchCores k' r.v.pos.block xs ys e t.core → Now t s m
  passes t s m r k' x xs ys ef eg q same c st e o dy =
      let fe = facts.laid_f.cons r.v.pos x xs ef in
      moves_to t s m r k' q same t (record { pos = below r.v.pos; core = e })
      (other r.along (debug_sync_point count f r.v.pos x fe.0 c) (step_item f r.v x (Falls e) fe.0 o)) r.home
      (rw fe.1 (subst (MatchItems k' r.v.pos.block xs) (sym eg) st)) (rw fe.1 (subst (λ (z : List Item). MatchCores k' r.v.pos.block xs z e t.core)
      (sym eg) dy))

  stands : (t s : State) (m : Since) (r : Now t s m) (xs ys : List Item) → rest_f r.v.pos ≡ xs → rest_g t.pos ≡ ys →
      (w : Seen r.v.pos.block r.k xs ys) → IsReady w → Ready t s m
  stands t s m r xs ys ef eg w rd = record { at = r; xs = xs; ys = ys; is_f = ef; is_g = eg; view = w; ready = rd }

  -- f goes past all that it may pass; n bounds how much that is
  catches : (n : ℕ) (t s : State) (m : Since) (r : Now t s m) (xs ys : List Item) → rest_f r.v.pos ≡ xs → rest_g t.pos ≡ ys →
      Seen r.v.pos.block r.k xs ys → length xs ≤ n → Ready t s m
  unfolding passes moves_to
  catches zero t s m r xs ys ef eg (passed q same c st h) le = absurd (omega (arith, le))
  catches (suc n) t s m r xs ys ef eg (passed {k' = k'} {x = x} {xs = rest} q same c st h) le =
      let d = h r.v.core t.core (dynamic_at t s m r xs ys ef eg) in
      catches n t s m (passes t s m r k' x rest ys ef eg q same c st d.0 d.1 d.2) rest ys (facts.laid_f.cons r.v.pos x rest ef).1 eg
      (facts.view k' r.v.pos.block rest ys st) (omega (arith, le))
  catches n t s m r xs ys ef eg (ended a) le = stands t s m r xs ys ef eg (ended a) tt
  catches n t s m r xs ys ef eg (both a b c d e h i j) le = stands t s m r xs ys ef eg (both a b c d e h i j) tt
  catches n t s m r xs ys ef eg (before a b c d e h i j) le = stands t s m r xs ys ef eg (before a b c d e h i j) tt
  catches n t s m r xs ys ef eg (opening a b c d e h i) le = stands t s m r xs ys ef eg (opening a b c d e h i) tt
  catches n t s m r xs ys ef eg (entering a b c d e h i) le = stands t s m r xs ys ef eg (entering a b c d e h i) tt
  catches n t s m r xs ys ef eg (behind a b c d e h i) le = stands t s m r xs ys ef eg (behind a b c d e h i) tt
  catches n t s m r xs ys ef eg (added a b c d e) le = stands t s m r xs ys ef eg (added a b c d e) tt
  catches n t s m r xs ys ef eg (paired a b c d e h) le = stands t s m r xs ys ef eg (paired a b c d e h) tt

  pub ready : (t s : State) (m : Since) → Now t s m → Ready t s m
  ready t s m r = catches (length (rest_f r.v.pos)) t s m r (rest_f r.v.pos) (rest_g t.pos) refl refl
      (facts.view r.k r.v.pos.block (rest_f r.v.pos) (rest_g t.pos) r.static) (omega arith)

-- What runs along over items, by the first arrival, runs along over words.
use Rattle.std.proofs.Common.{◌≡◌, ℕ, Option, Some, None, Bool, true, false, refl, sym, ap, ◌∙◌, subst, inl, inr, ◌⊎◌}
use Rattle.sem_mir.specs.mir_func.declared.position.Pos.{Pos}
use Rattle.sem_mir.specs.mir_func.declared.position.Origin.{Origin}
use Rattle.sem_mir.specs.mir_func.declared.position.Origin.TheVariants.{Kept, Before}
use Rattle.sem_mir.specs.mir_func.declared.item.Item.{Item}
use Rattle.sem_mir.specs.State.{State}
use Rattle.sem_mir.specs.Step.{Went, step}
use Rattle.sem_mir.specs.mir_func.Graph.{Program, Fetch, Here, EndOfBlock, Outside}
use Rattle.sem_mir.specs.mir_func.Positions.{position_of}
use Rattle.sem_mir.specs.Align.{is_code, is_jump, waits_at, SyncPoint, ByItems, ByWords, sync_point_of, item_sync_point, fetch_sync_point}
use Rattle.sem_mir.specs.Align.{sync_point_at}
use Rattle.sem_mir.specs.Align.{Since, Same, After, since_of, MatchesNext, First, MatchedUpTo, begin, other, met, FailsBefore, Agrees, RunsMatch}
use Rattle.sem_simulation.specs.Words.{SameCode, Shown, RunsByWords, IsAddedJump, HasPlainTurns, WordsFollow}
use Rattle.sem_mir.proofs.Alignment.{aligns_at, aligns_once, aligns_not_fails}
use Rattle.sem_simulation.proofs.Order.{cases_pos}
use Rattle.sem_simulation.proofs.Stations.{code_sync_point, IsSyncPointOf, of_item, of_end, sync_point_is_of}
use Rattle.sem_simulation.proofs.Turns.{same_code, code_trans, Passes, still, passes_on, passes_code, passes_to_one, jump_step, comes_back}

module _ (src g : Program) (s0 g0 : State) where
  abbrev items : Pos → Option SyncPoint
  items p = sync_point_at ByItems g p

  abbrev words : Pos → Option SyncPoint
  words p = sync_point_at ByWords g p

  abbrev AlongItems : State → State → Since → Type 0
  AlongItems t s m = MatchedUpTo src g items First s0 g0 t s m

  -- g was at an added jump, where it is aligned at s, and went on by it
  record Turn (s : State) : Type 0 where
    at : State
    from : State
    m : Since
    x : Item
    along : AlongItems at from m
    stands : items at.pos ≡ Some (sync_point_of ByItems x)
    aligns : MatchesNext src (First (position_of x.origin)) (position_of x.origin) m from s
    fetch : g.fetch at.pos ≡ Here x
    jumps : IsAddedJump x
    next : State
    goes : step g at ≡ Went next

  -- how the alignment of words, on the right, is with that of items: the same; after the turn of a jump, from where items
  -- count the step after; or round again by the same jump, with all places as they were
  data Pace : State → State → Since → Type 0 where
    even : {t s : State} {m : Since} → AlongItems t s m → Pace t s m
    turned : {t s : State} (j : Turn s) → Passes g j.next t → AlongItems t s After → Pace t s Same
    again : {t s : State} (j : Turn s) (u k k1 : State) (i : SyncPoint) → Passes g j.next u → items u.pos ≡ Some i → u.pos ≡ j.at.pos → k.pos ≡ j.at.pos →
        SameCode k.core j.at.core → step g k ≡ Went k1 → Passes g k1 t → Pace t s Same

  -- a word is an item; the two count alike after it, but for an added jump
  record Word (t : State) (i : SyncPoint) : Type 0 where
    x : Item
    fetch : g.fetch t.pos ≡ Here x
    stands : items t.pos ≡ Some (sync_point_of ByItems x)
    is : sync_point_of ByWords x ≡ i
    waits : (waits_at (is_jump x.kind) x.origin ≡ waits_at false x.origin) ⊎ (IsAddedJump x × (waits_at (is_jump x.kind) x.origin ≡ false))

  counts : (o : Origin) (b : Bool) → (waits_at b o ≡ waits_at false o) ⊎ (((b ≡ true) × (waits_at false o ≡ true)) × (waits_at b o ≡ false))
  counts (Kept p) b = inl refl
  counts (Before p) true = inr ((refl, refl), refl)
  counts (Before p) false = inl refl

  word_at : (t : State) (i : SyncPoint) → words t.pos ≡ Some i → Word t i
  word_at t i e = by_sync_point (sync_point_is_of ByWords g t.pos i e) where
    by_sync_point : IsSyncPointOf ByWords g t.pos i → Word t i
    by_sync_point (of_item x fx cx ix) = record {
      x = x;
      fetch = fx;
      stands = code_sync_point ByItems g t.pos x fx cx;
      is = ix;
      waits = counts x.origin (is_jump x.kind);
    }
    by_sync_point (of_end k n fe ce ie) = cc

  none_both : (x : Fetch) (b : ℕ) → fetch_sync_point ByWords b x ≡ None → fetch_sync_point ByItems b x ≡ None
  none_both (Here i) b e = by_code (is_code i.kind) e where
    by_code : (k : Bool) → item_sync_point ByWords k i ≡ None → item_sync_point ByItems k i ≡ None
    by_code true e = cc
    by_code false e = refl
  none_both (EndOfBlock k n) b e = refl
  none_both Outside b e = refl

  module _ (Inner : Pos → Type 0) (follows : RunsMatch src g items First s0 g0) (facts : HasPlainTurns g Inner) where
    abbrev Owed : State → State → Since → SyncPoint → Type 0
    Owed t s m i = ((s' : State) × MatchesNext src (First i.pos) i.pos m s s' × Shown src g s0 g0 t s') ⊎ FailsBefore src (First i.pos) i.pos m s

    -- where both count alike
    owed_even : (t s : State) (m : Since) (i : SyncPoint) → AlongItems t s m → items t.pos ≡ Some i → Owed t s m i
    owed_even t s m i a e =
        elim (follows t s m i a e) as (λ z. Owed t s m i) [
          | inl z ↦ inl (
            z.0,
            z.1,
            record {
              first = t;
              from = s;
              m = m;
              i = i;
              along = a;
              stands = e;
              aligns = z.1;
              pos = refl;
              code = same_code t.core;
              agrees = z.2;
            },
          )
          | inr z ↦ inr z
        ]

    -- at the jump again: aligned where it was at first
    shown_again : (t s : State) (j : Turn s) → t.pos ≡ j.at.pos → SameCode t.core j.at.core → Shown src g s0 g0 t s
    shown_again t s j at same =
        let p = position_of j.x.origin in
        elim (follows j.at j.from j.m (sync_point_of ByItems j.x) j.along j.stands) as (λ z. Shown src g s0 g0 t s) [
          | inl z ↦
              let e = aligns_once src (First p) p refl j.m j.from z.0 s z.1 j.aligns in
              record {
                first = j.at;
                from = j.from;
                m = j.m;
                i = sync_point_of ByItems j.x;
                along = j.along;
                stands = j.stands;
                aligns = j.aligns;
                pos = sym at;
                code = same;
                agrees = subst (Agrees src g j.at) e z.2;
              }
          | inr z ↦ absurd (aligns_not_fails src (First p) p refl j.m j.from s j.aligns z)
        ]

    stands_there : (s : State) (j : Turn s) → s.pos ≡ position_of j.x.origin
    stands_there s j = aligns_at src (First (position_of j.x.origin)) (position_of j.x.origin) j.m j.from s j.aligns

    -- the step of the jump from a state at its position
    turn_step : (s : State) (j : Turn s) (k k1 : State) → k.pos ≡ j.at.pos → step g k ≡ Went k1 → SameCode k1.core k.core × (k1.pos ≡ j.next.pos)
    turn_step s j k k1 e go = jump_step g j.x j.jumps.0 j.at j.next k k1 j.fetch j.goes e go

    same_item : (s : State) (j : Turn s) (t : State) (x : Item) → g.fetch t.pos ≡ Here x → t.pos ≡ j.at.pos → j.x ≡ x
    same_item s j t x f e = let h : Here j.x ≡ Here x = sym j.fetch ∙ ap g.fetch (sym e) ∙ f in cc

    -- after the turn, at the source's position again: it is the jump again
    back_turned : (t s : State) (j : Turn s) → Passes g j.next t → (x : Item) → items t.pos ≡ Some (sync_point_of ByItems x) → s.pos ≡ position_of x.origin →
        (t.pos ≡ j.at.pos) × SameCode t.core j.at.core
    back_turned t s j q x e at = (
      comes_back g Inner facts j.at j.next t j.x (sync_point_of ByItems x) j.fetch j.jumps j.goes q e (sym at ∙ stands_there s j),
      code_trans t.core j.next.core j.at.core (passes_code g q) (turn_step s j j.at j.next refl j.goes).0,
    )

    -- round again, at the next station: it is the jump once more
    back_again : (t s : State) (j : Turn s) (u k k1 : State) (i1 i : SyncPoint) → Passes g j.next u → items u.pos ≡ Some i1 → u.pos ≡ j.at.pos →
        k.pos ≡ j.at.pos → SameCode k.core j.at.core → step g k ≡ Went k1 → Passes g k1 t → items t.pos ≡ Some i →
        (t.pos ≡ j.at.pos) × SameCode t.core j.at.core
    back_again t s j u k k1 i1 i q su eu ek same go q2 e =
        let kc = turn_step s j k k1 ek go in (
          sym (passes_to_one g i1 i q q2 (sym kc.1) su e) ∙
              eu,
          code_trans t.core k1.core j.at.core (passes_code g q2) (code_trans k1.core k.core j.at.core kc.0 same),
        )

    stay_aligned : (t s : State) (j : Turn s) (x : Item) (i : SyncPoint) → g.fetch t.pos ≡ Here x → sync_point_of ByWords x ≡ i → t.pos ≡ j.at.pos →
        (s.pos ≡ i.pos) × (i.waits ≡ true)
    stay_aligned t s j x i f is back =
        let e = same_item s j t x f back in (
          stands_there s j ∙ ap (λ (z : Item). position_of z.origin) e ∙ ap (λ (z : SyncPoint). z.pos) is,
          ap (λ (z : SyncPoint). z.waits) (sym is) ∙ ap (λ (z : Item). waits_at false z.origin) (sym e) ∙ j.jumps.1,
        )

    owed_at : (t s : State) (m : Since) (i : SyncPoint) → Pace t s m → words t.pos ≡ Some i → Owed t s m i
    owed_at t s m i (even a) e = let w = word_at t i e in
        subst (λ (z : SyncPoint). Owed t s m z) w.is (at_words w.x (owed_even t s m (sync_point_of ByItems w.x) a w.stands)) where
          at_words : (x : Item) → Owed t s m (sync_point_of ByItems x) → Owed t s m (sync_point_of ByWords x)
          at_words x o = o
    owed_at t s m i (turned j q a) e =
        let w = word_at t i e in
        subst (λ (z : SyncPoint). Owed t s Same z) w.is (elim (cases_pos s.pos (position_of w.x.origin)) as (λ z. Owed t s Same (sync_point_of ByWords w.x)) [
          | inl at ↦
              let back = back_turned t s j q w.x w.stands at in
              inl (s, inl (at, refl), shown_again t s j back.0 back.1)
          | inr ne ↦
              elim (owed_even t s After (sync_point_of ByItems w.x) a w.stands)
              as (λ z. Owed t s Same (sync_point_of ByWords w.x)) [ inl z ↦ inl (z.0, inr (ne, z.1), z.2) | inr z ↦ inr (ne, z) ]
        ])
    owed_at t s m i (again j u k k1 i1 q su eu ek same go q2) e =
        let w = word_at t i e in
        let back = back_again t s j u k k1 i1 (sync_point_of ByItems w.x) q su eu ek same go q2 w.stands in
        inl (s, inl ((stay_aligned t s j w.x i w.fetch w.is back.0).0, refl), shown_again t s j back.0 back.1)

    -- the pace after a word where items are aligned at the same step
    after_item : (t s s' t' : State) (m : Since) (i : SyncPoint) → AlongItems t s m → Word t i → MatchesNext src (First i.pos) i.pos m s s' →
        step g t ≡ Went t' →
        Pace t' s' (since_of i.waits)
    after_item t s s' t' m i a w al go =
        let p = position_of w.x.origin in
        let al' = subst (λ (q : Pos). MatchesNext src (First q) q m s s') (ap (λ (z : SyncPoint). z.pos) (sym w.is)) al in
        let next = met (sync_point_of ByItems w.x) a w.stands al' go in
        subst (λ (z : SyncPoint). Pace t' s' (since_of z.waits)) w.is (elim w.waits as (λ z. Pace t' s' (since_of (waits_at false w.x.origin))) [
          | inl e ↦ even (subst (λ (z : Bool). AlongItems t' s' (since_of z)) e next)
          | inr e ↦
              let j : Turn s' = record {
                at = t;
                from = s;
                m = m;
                x = w.x;
                along = a;
                stands = w.stands;
                aligns = al';
                fetch = w.fetch;
                jumps = e.0;
                next = t';
                goes = go;
              } in
              subst (λ (z : Bool). Pace t' s' (since_of z)) (sym e.0.1) (turned j still (subst (λ (z : Bool). AlongItems t' s' (since_of z)) e.1 next))
        ])

    after_word : (t s s' t' : State) (m : Since) (i : SyncPoint) → Pace t s m → words t.pos ≡ Some i → MatchesNext src (First i.pos) i.pos m s s' →
        step g t ≡ Went t' → Pace t' s' (since_of i.waits)
    after_word t s s' t' m i (even a) e al go = after_item t s s' t' m i a (word_at t i e) al go
    after_word t s s' t' m i (turned j q a) e (inr al) go = after_item t s s' t' After i a (word_at t i e) al.1 go
    after_word t s s' t' m i (turned j q a) e (inl al) go =
        let w = word_at t i e in
        let back = back_turned t s j q w.x w.stands (al.0 ∙ ap (λ (z : SyncPoint). z.pos) (sym w.is)) in
        let st = stay_aligned t s j w.x i w.fetch w.is back.0 in
        subst (λ (z : State). Pace t' z (since_of i.waits)) al.1
        (subst (λ (z : Bool). Pace t' s (since_of z)) (sym st.1) (again j t t t' (sync_point_of ByItems w.x) q w.stands back.0 back.0 back.1 go still))
    after_word t s s' t' m i (again j u k k1 i1 q su eu ek same go1 q2) e al go =
        let w = word_at t i e in
        let back = back_again t s j u k k1 i1 (sync_point_of ByItems w.x) q su eu ek same go1 q2 w.stands in
        let st = stay_aligned t s j w.x i w.fetch w.is back.0 in
        let is : s ≡ s' = aligns_once src (First i.pos) i.pos refl Same s s s' (inl (st.0, refl)) al in
        subst (λ (z : State). Pace t' z (since_of i.waits)) is
        (subst (λ (z : Bool). Pace t' s (since_of z)) (sym st.1) (again j u t t' i1 q su eu back.0 back.1 go still))

    between_words : (t s t' : State) (m : Since) → Pace t s m → items t.pos ≡ None → step g t ≡ Went t' → Pace t' s m
    between_words t s t' m (even a) none go = even (other a none go)
    between_words t s t' m (turned j q a) none go = turned j (passes_on g q none go) (other a none go)
    between_words t s t' m (again j u k k1 i1 q su eu ek same go1 q2) none go = again j u k k1 i1 q su eu ek same go1 (passes_on g q2 none go)

    pace : {t s : State} {m : Since} → MatchedUpTo src g words First s0 g0 t s m → Pace t s m
    pace begin = even begin
    pace (other {t = t} {s = s} {t' = t'} {m = m} a none go) = between_words t s t' m (pace a) (none_both (g.fetch t.pos) t.pos.block none) go
    pace (met {t = t} {s = s} {s' = s'} {t' = t'} {m = m} i a e al go) = after_word t s s' t' m i (pace a) e al go

    pub runs_by_words : RunsByWords src g s0 g0
    runs_by_words t s m i a e = owed_at t s m i (pace a) e

pub words_follow : (Inner : Pos → Type 0) → WordsFollow Inner
words_follow Inner src g s0 g0 follows facts = runs_by_words src g s0 g0 Inner follows facts

-- How g goes on in a change in place: its steps between stations, and its next station.
use Rattle.std.proofs.Common.{◌≡◌, ℕ, zero, suc, ◌+◌, ◌*◌, ◌<◌, ◌≤◌, List, [], ◌∷◌, length, Option, Some, None, true, false, refl, sym, ap, ◌∙◌, subst, inl}
use Rattle.std.proofs.Common.{inr, arith}
use Rattle.std.proofs.lemmas.Bool.{cases_Bool}
use Rattle.sem_mir.specs.mir_func.declared.position.Pos.{Pos}
use Rattle.sem_mir.specs.mir_func.declared.position.Origin.{Origin}
use Rattle.sem_mir.specs.mir_func.declared.item.Item.{Item}
use Rattle.sem_mir.specs.State.{State}
use Rattle.sem_mir.specs.Step.{Went, Lost, Goes, moved, do_fetch, step}
use Rattle.sem_mir.specs.mir_func.Graph.{Program, Fetch, Here, EndOfBlock, Outside, below, block_start, FetchEdge}
use Rattle.sem_mir.specs.mir_func.Positions.{position_of}
use Rattle.sem_mir.specs.Align.{is_code, SyncPoint, Count, ByEnds, end_sync_point, sync_point_at}
use Rattle.sem_mir.specs.Follow.{rank, next_rank, InOrder}
use Rattle.sem_simulation.specs.MatchStates.{Sides, MatchStates, IsPastItems}
use Rattle.sem_simulation.specs.Refinement.{Passes, still, pass}
use Rattle.sem_simulation.specs.InPlace.{View, ended, both, bolder, taken, passed, added, paired, InPlace}
use Rattle.sem_mir.proofs.Edges.{step_edge, goes_to_start}
use Rattle.sem_simulation.proofs.Order.{rank_high, rank_low, rank_next, IsNoLater, no_later, IsFrom}
use Rattle.sem_simulation.proofs.Stations.{not_code, debug_below, end_is_sync_point, code_is_some, IsSyncPointOf, of_item, of_end, sync_point_is_of}
use Rattle.sem_simulation.proofs.Stations.{not_by_ends}
use Rattle.sem_simulation.proofs.Stations.{not_past_items}

-- the first code ahead in g's block is at a rank or after it
abbrev pub IsFirstFrom : ℕ → List Item → Type 0
IsFirstFrom n [] = Unit {0}
IsFirstFrom n (y ∷ ys) = (is_code y.kind ≡ true → n ≤ rank y.origin) × (is_code y.kind ≡ false → IsFirstFrom n ys)

first_less : (n m : ℕ) (ys : List Item) → n ≤ m → IsFirstFrom m ys → IsFirstFrom n ys
first_less n m [] le h = tt
first_less n m (y ∷ ys) le h = (λ c. (let k = h.0 c in omega (arith, le, k)), λ c. first_less n m ys le (h.1 c))

module _ (count : Count) (g : Program) (place : ℕ → ℕ) where
  -- no later than the ends of g's block that are stations
  abbrev pub IsBeforeEnd : ℕ → Pos → Type 0
  IsBeforeEnd b p = (q : Pos) (k n : ℕ) → count ≡ ByEnds → q.block ≡ b → g.fetch q ≡ EndOfBlock k n → (p.block ≡ b) × (p.item ≤ k)

  -- a position on the way: at a rank of block b or after it, and no later than what g has ahead
  abbrev pub ComesNext : (b n : ℕ) → List Item → Pos → Type 0
  ComesNext b n ys p = IsFrom place b n p × IsNoLater b p ys × IsBeforeEnd b p

-- a change in place
pub record Change : Type 1 where
  pub count : Count
  pub src : Program
  pub sides : Sides
  pub match_states : MatchStates
  pub place : ℕ → ℕ
  pub facts : InPlace count src sides match_states place

module _ (change : Change) where
  open change use {count, src, sides, match_states, place, facts}
  open sides use {old.{program as f, rest as rest_f, start as s0}, new.{program as g, rest as rest_g, start as g0}}
  open match_states use {Stage, entry, MatchItems, MatchCores}

  abbrev pub fs : Pos → Option SyncPoint
  fs p = sync_point_at count f p

  abbrev pub gs : Pos → Option SyncPoint
  gs p = sync_point_at count g p

  abbrev pub Seen : ℕ → Stage → List Item → List Item → Type 0
  Seen b k xs ys = View count src sides match_states b k xs ys

  abbrev pub IsNext : (b n : ℕ) → List Item → Pos → Type 0
  IsNext b n ys p = ComesNext count g place b n ys p

  -- since it is of an origin that f has ahead too
  pub first_from : (m b n : ℕ) (k : Stage) (xs ys : List Item) → Seen b k xs ys → InOrder b n xs → length xs + length ys ≤ m → IsFirstFrom n ys
  first_from m b n k xs ys ended ord le = tt
  first_from m b n k xs ys (both {x = x} {y = y} cx cy o j s h) ord le = (λ c. subst (λ (z : Origin). n ≤ rank z) o ord.1, λ c. not_code y c cy)
  first_from m b n k xs ys (bolder {x = x} {y = y} cx cy o j s h) ord le = (λ c. subst (λ (z : Origin). n ≤ rank z) o ord.1, λ c. not_code y c cy)
  first_from zero b n k xs ys (taken c j s h) ord le = absurd (omega (arith, le))
  first_from zero b n k xs ys (passed c s h) ord le = absurd (omega (arith, le))
  first_from zero b n k xs ys (added cy s h) ord le = absurd (omega (arith, le))
  first_from zero b n k xs ys (paired cx cy s h) ord le = absurd (omega (arith, le))
  first_from (suc m) b n k xs ys (taken {k' = k'} {x = x} {xs = rest} c j s h) ord le =
      first_less n (next_rank x.origin) ys (rank_next x.origin n ord.1)
      (first_from m b (next_rank x.origin) k' rest ys (facts.view k' b rest ys s) ord.2 (omega (arith, le)))
  first_from (suc m) b n k xs ys (passed {k' = k'} {x = x} {xs = rest} c s h) ord le =
      first_less n (next_rank x.origin) ys (rank_next x.origin n ord.1)
      (first_from m b (next_rank x.origin) k' rest ys (facts.view k' b rest ys s) ord.2 (omega (arith, le)))
  first_from (suc m) b n k xs ys (added {k' = k'} {y = y} {ys = ts} cy s h) ord le =
      (λ c. not_code y cy c, λ c. first_from m b n k' xs ts (facts.view k' b xs ts s) ord (omega (arith, le)))
  first_from (suc m) b n k xs ys (paired {k' = k'} {x = x} {y = y} {xs = rest} {ys = ts} cx cy s h) ord le = (
    λ c. not_code y cy c,
    λ c. first_less n (next_rank x.origin) ts (rank_next x.origin n ord.1)
        (first_from m b (next_rank x.origin) k' rest ts (facts.view k' b rest ts s) ord.2 (omega (arith, le))),
  )

  -- f's block has an end
  end_in_f : (xs : List Item) (p : Pos) → rest_f p ≡ xs → (q : Pos) × (q.block ≡ p.block) × (rest_f q ≡ [])
  end_in_f [] p e = (p, refl, e)
  end_in_f (x ∷ xs) p e = end_in_f xs (below p) (facts.laid_f.cons p x xs e).1

  -- g's steps between stations: past a debug item, or a block's end
  pub data IsBetween (t t' : State) : Type 0 where
    down : (y : Item) (ys : List Item) → rest_g t.pos ≡ y ∷ ys → is_code y.kind ≡ false → t'.pos ≡ below t.pos → IsBetween t t'
    over : (k n : ℕ) → rest_g t.pos ≡ [] → end_sync_point count (record { block = t.pos.block; item = k }) ≡ None → place t.pos.block < place n →
        t'.pos ≡ block_start n → IsBetween t t'

  pub steps_between : (t t' : State) → gs t.pos ≡ None → step g t ≡ Went t' → IsBetween t t'
  steps_between t t' none go = by_rest (rest_g t.pos) refl where
    by_fetch : (x : Fetch) → g.fetch t.pos ≡ x → rest_g t.pos ≡ [] → IsPastItems x → IsBetween t t'
    by_fetch (Here i) e eg h = absurd h
    by_fetch Outside e eg h = let bad : Lost ≡ Went t' = sym (ap (λ (z : Fetch). moved g.enter t.pos (do_fetch g z t.core)) e) ∙ go in cc
    by_fetch (EndOfBlock k n) e eg h =
        let at : moved g.enter t.pos (Goes n t.core) ≡ Went t' = sym (ap (λ (z : Fetch). moved g.enter t.pos (do_fetch g z t.core)) e) ∙ go in
        let q = end_in_f (rest_f (block_start t.pos.block)) (block_start t.pos.block) refl in
        let onward = facts.onward q.0 t.pos k n q.1 q.2 eg e in
        let lt : place t.pos.block < place n = subst (λ (z : ℕ). place z < place n) q.1 onward.1 in
        over k n eg (sym (end_is_sync_point count g t.pos k n e) ∙ none) lt (goes_to_start g.enter t.pos n t.core t' at ∙ ap block_start (facts.enter_g n))

    by_rest : (ys : List Item) → rest_g t.pos ≡ ys → IsBetween t t'
    by_rest [] eg = by_fetch (g.fetch t.pos) refl eg (facts.laid_g.nil t.pos eg).0
    by_rest (y ∷ ys) eg =
        let fy = (facts.laid_g.cons t.pos y ys eg).0 in
        elim (cases_Bool (is_code y.kind)) as (λ _. IsBetween t t') [
          | inl c ↦ absurd (code_is_some count g t.pos y none fy c)
          | inr c ↦ down y ys eg c (debug_below g y.kind c t.pos t'.pos (subst (λ (z : Fetch). FetchEdge g.enter z t.pos t'.pos) fy (step_edge g t t' go)))
        ]

  -- a station of g is no further up than where g goes on from
  pub later_sync_point : {t t1 : State} (i : SyncPoint) → Passes g gs t t1 → gs t1.pos ≡ Some i → place t.pos.block ≤ place i.pos.block
  later_sync_point i (still {t = t}) e = by_sync_point (sync_point_is_of count g t.pos i e) where
    by_sync_point : IsSyncPointOf count g t.pos i → place t.pos.block ≤ place i.pos.block
    by_sync_point (of_item y fy cy iy) =
        let k : place i.pos.block ≡ place t.pos.block = ap (λ (z : SyncPoint). place z.pos.block) (sym iy) ∙ ap place (facts.home t.pos y fy) in omega
        (arith, k)
    by_sync_point (of_end k n fe ce ie) = let l : place i.pos.block ≡ place t.pos.block = ap (λ (z : SyncPoint). place z.pos.block) ie in omega (arith, l)
  later_sync_point i (pass {t = t} {u = u} none go rest) e = by_step (steps_between t u none go) (later_sync_point i rest e) where
    by_step : IsBetween t u → place u.pos.block ≤ place i.pos.block → place t.pos.block ≤ place i.pos.block
    by_step (down y ys eg c at) le = let k : place u.pos.block ≡ place t.pos.block = ap (λ (z : Pos). place z.block) at in omega (arith, k, le)
    by_step (over k n eg ne lt at) le = let l : place u.pos.block ≡ place n = ap (λ (z : Pos). place z.block) at in omega (arith, l, lt, le)

  -- the next station of g is next after a rank
  pub next_sync_point : {t t1 : State} (i : SyncPoint) → Passes g gs t t1 → gs t1.pos ≡ Some i → (b n m : ℕ) (ys : List Item) → t.pos.block ≡ b →
      rest_g t.pos ≡ ys →
      IsFirstFrom n ys → InOrder b m ys → ((e : Pos) (k l : ℕ) → e.block ≡ b → g.fetch e ≡ EndOfBlock k l → n ≤ 2 * k) → IsNext b n ys i.pos
  next_sync_point i (still {t = t}) e b n m ys tb eg ff ord high = by_sync_point (sync_point_is_of count g t.pos i e) ys eg ff ord where
    at_item : (y : Item) (ts : List Item) → g.fetch t.pos ≡ Here y → is_code y.kind ≡ true → IsFirstFrom n (y ∷ ts) → InOrder b m (y ∷ ts) →
        IsNext b n (y ∷ ts) (position_of y.origin)
    at_item y ts fy cy ff ord =
        let low = rank_low y.origin in (
          inl (ord.0, (let h = rank_high y.origin in let k = ff.0 cy in omega (arith, h, k))),
          (
            (λ z. (ord.0, low)),
            no_later b (next_rank y.origin) (position_of y.origin) ts ord.0
                (rank_next y.origin (2 * (position_of y.origin).item) low) ord.2,
          ),
          λ q k l ce qb fq. (ord.0, facts.within t.pos q y k l fy fq (tb ∙ sym qb)),
        )

    by_sync_point : IsSyncPointOf count g t.pos i → (zs : List Item) → rest_g t.pos ≡ zs → IsFirstFrom n zs → InOrder b m zs → IsNext b n zs i.pos
    by_sync_point (of_item y fy cy iy) [] eg ff ord = absurd (not_past_items (g.fetch t.pos) y (facts.laid_g.nil t.pos eg).0 fy)
    by_sync_point (of_item y fy cy iy) (z ∷ ts) eg ff ord =
        let w : Here z ≡ Here y = sym (facts.laid_g.cons t.pos z ts eg).0 ∙ fy in
        let zy : z ≡ y = cc in
        let cz : is_code z.kind ≡ true = subst (λ (q : Item). is_code q.kind ≡ true) (sym zy) cy in
        subst (IsNext b n (z ∷ ts)) (ap (λ (q : Item). position_of q.origin) zy ∙ ap (λ (q : SyncPoint). q.pos) iy)
        (at_item z ts (facts.laid_g.cons t.pos z ts eg).0 cz ff ord)
    by_sync_point (of_end k l fe ce ie) [] eg ff ord =
        subst (IsNext b n []) (ap (λ (q : SyncPoint). q.pos) (sym ie)) (
          inl (tb, (let h = high t.pos k l tb fe in omega (arith, h))),
          tt,
          λ q k' l' ce' qb fq. (tb, (let h = facts.one_end t.pos q k l k' l' fe fq (tb ∙ sym qb) in omega (arith, h))),
        )
    by_sync_point (of_end k l fe ce ie) (z ∷ ts) eg ff ord = let bad : Here z ≡ EndOfBlock k l = sym (facts.laid_g.cons t.pos z ts eg).0 ∙ fe in cc
  next_sync_point i (pass {t = t} {u = u} none go rest) e b n m [] tb eg ff ord high = by_step (steps_between t u none go) where
    by_step : IsBetween t u → IsNext b n [] i.pos
    by_step (down y ys eg' c at) = let bad : [] ≡ y ∷ ys = sym eg ∙ eg' in cc
    by_step (over k l eg' ne lt at) =
        let le = later_sync_point i rest e in
        let pu : place u.pos.block ≡ place l = ap (λ (z : Pos). place z.block) at in
        let pb : place t.pos.block ≡ place b = ap place tb in
        (inr (omega (arith, le, pu, pb, lt)), tt, λ q k' l' ce qb fq. not_by_ends count _ ne ce)
  next_sync_point i (pass {t = t} {u = u} none go rest) e b n m (y ∷ ts) tb eg ff ord high =
      by_step (steps_between t u none go)
      (λ c at. next_sync_point i rest e b n (next_rank y.origin) ts (ap (λ (z : Pos). z.block) at ∙ tb) (ap rest_g at ∙ (facts.laid_g.cons t.pos y ts eg).1)
      (ff.1 c) ord.2 high) where
        by_step : IsBetween t u → (is_code y.kind ≡ false → u.pos ≡ below t.pos → IsNext b n ts i.pos) → IsNext b n (y ∷ ts) i.pos
        by_step (down z zs eg' c at) ih =
            let w : z ∷ zs ≡ y ∷ ts = sym eg' ∙ eg in
            let zy : z ≡ y = cc in
            let cy = subst (λ (q : Item). is_code q.kind ≡ false) zy c in
            let r = ih cy at in
            (r.0, ((λ h. not_code y cy h), r.1), r.2)
        by_step (over k l eg' ne lt at) ih = let bad : [] ≡ y ∷ ts = sym eg' ∙ eg in cc

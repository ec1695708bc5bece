-- A change in place, where the source stops at a position: as long as g lingers there it shows no more.
use Rattle.std.proofs.Common.{◌≡◌, ℕ, ◌+◌, ◌*◌, ◌<◌, ◌≤◌, List, [], ◌∷◌, All, Option, Some, Bool, false, refl, sym, ap, ◌∙◌, subst, inl, inr, ◌⊎◌, arith}
use Rattle.std.proofs.lemmas.Bool.{cases_lt}
use Rattle.sem_mir.specs.mir_func.declared.position.Pos.{Pos}
use Rattle.sem_mir.specs.mir_func.declared.position.Origin.{Origin}
use Rattle.sem_mir.specs.mir_func.declared.position.Origin.TheVariants.{Kept}
use Rattle.sem_mir.specs.mir_func.declared.item.Item.{Item}
use Rattle.sem_mir.specs.State.{State, Core, RunResult}
use Rattle.sem_mir.specs.Step.{Went, Returned, Faulted, Waits, Lost, Outcome, Falls, Goes, Gives, Traps, Asks, Breaks, moved, do_item, step}
use Rattle.sem_mir.specs.mir_func.Graph.{Program, Here, EndOfBlock, below, block_start}
use Rattle.sem_mir.specs.mir_func.Positions.{position_of}
use Rattle.sem_mir.specs.Align.{is_code, SyncPoint, moves_on, waits_at, Since, Same, After, since_of}
use Rattle.sem_mir.specs.Follow.{next_rank, InOrder}
use Rattle.sem_simulation.specs.MatchStates.{ShowsSame, since_item}
use Rattle.sem_simulation.specs.Refinement.{Passes, still, pass, Lingers, stays, goes_by, waits_by}
use Rattle.sem_simulation.specs.InPlace.{ShowsNoMore, IsNoReturn, IsIdleAt}
use Rattle.sem_mir.proofs.Alignment.{went_once}
use Rattle.sem_mir.proofs.Outcomes.{step_item, step_end}
use Rattle.sem_simulation.proofs.Order.{rank_high, rank_low, rank_next}
use Rattle.sem_simulation.proofs.Stations.{debug_falls, IsSyncPointOf, of_item, of_end, sync_point_is_of, not_past_items}
use Rattle.std.proofs.lemmas.List.Elements.{All-head, All-tail}
use Rattle.sem_simulation.proofs.Outcomes.{returns_gives}
use Rattle.sem_simulation.proofs.Between.{Change, gs, IsBetween, down, over, steps_between}

-- what passes no station lingers anywhere
pub lingers_past : (g : Program) (gs : Pos → Option SyncPoint) (p : Pos) {t u v : State} → Passes g gs t u → Lingers g gs p u v → Lingers g gs p t v
lingers_past g gs p still l = l
lingers_past g gs p (pass none go rest) l = goes_by none go (lingers_past g gs p rest l)

same_shown : (c : Core) → ShowsSame c c
same_shown c = record { events = refl; told = λ v x h. h }

then_shown : (c d e : Core) → ShowsSame c d → ShowsSame d e → ShowsSame c e
then_shown c d e a b = record { events = b.events ∙ a.events; told = λ v x h. a.told v x (b.told v x h) }

-- an item that shows no more and doesn't go elsewhere
goes_idle : (g : Program) (t u : State) (m : Since) (o : Outcome) → step g t ≡ moved g.enter t.pos o → ShowsNoMore m t.core o →
    ((n : ℕ) (e : Core) → o ≡ Goes n e → m ≡ After → ⊥) → step g t ≡ Went u → (u.pos ≡ below t.pos) × ShowsSame t.core u.core
goes_idle g t u m (Falls e) is h here go =
    let same = went_once g t (record { pos = below t.pos; core = e }) u is go in
    (ap (λ (z : State). z.pos) (sym same), subst (λ (z : State). ShowsSame t.core z.core) same h)
goes_idle g t u m (Goes n e) is h here go = absurd (here n e refl h)
goes_idle g t u m (Gives v) is h here go = absurd h
goes_idle g t u m Traps is h here go = let bad : Faulted ≡ Went u = sym is ∙ go in cc
goes_idle g t u m Asks is h here go = let bad : Waits ≡ Went u = sym is ∙ go in cc
goes_idle g t u m Breaks is h here go = let bad : Lost ≡ Went u = sym is ∙ go in cc

no_more_gives_not : (m : Since) (d : Core) (o : Outcome) (v : RunResult) → ShowsNoMore m d o → o ≡ Gives v → ⊥
no_more_gives_not m d (Gives w) v h e = h
no_more_gives_not m d (Falls c) v h e = cc
no_more_gives_not m d (Goes n c) v h e = cc
no_more_gives_not m d Traps v h e = cc
no_more_gives_not m d Asks v h e = cc
no_more_gives_not m d Breaks v h e = cc

module _ (change : Change) where
  open change use {count, src, sides, match_states, place, facts}
  open sides use {old.{program as f, rest as rest_f, start as s0}, new.{program as g, rest as rest_g, start as g0}}
  open match_states use {Stage, entry, MatchItems, MatchCores}

  -- a station comes from its own block
  sync_point_home : (q : Pos) (i : SyncPoint) → gs change q ≡ Some i → i.pos.block ≡ q.block
  sync_point_home q i e = by_sync_point (sync_point_is_of count g q i e) where
    by_sync_point : IsSyncPointOf count g q i → i.pos.block ≡ q.block
    by_sync_point (of_item y fy cy iy) = ap (λ (z : SyncPoint). z.pos.block) (sym iy) ∙ facts.home q y fy
    by_sync_point (of_end k n fe ce ie) = ap (λ (z : SyncPoint). z.pos.block) ie

  module _ (p : Pos) (b : ℕ) (pb : p.block ≡ b) where
    -- g, further down, doesn't come to p
    not_further : {t t2 : State} → Lingers g (gs change) p t t2 → place b < place t.pos.block → (i : SyncPoint) → gs change t2.pos ≡ Some i → i.pos ≡ p → ⊥
    not_further (stays {t = t}) lt i e at = let k : place t.pos.block ≡ place b = ap place (sym (sync_point_home t.pos i e) ∙ ap (λ
        (z : Pos). z.block) at ∙ pb) in
        omega (arith, lt, k)
    not_further (waits_by {t = t} j ej jp w go rest) lt i e at = let k : place t.pos.block ≡ place b =
        ap place (sym (sync_point_home t.pos j ej) ∙ ap (λ (z : Pos). z.block) jp ∙ pb) in omega (arith, lt, k)
    not_further (goes_by {t = t} {u = u} none go rest) lt i e at = not_further rest (by_step (steps_between change t u none go)) i e at where
      by_step : IsBetween change t u → place b < place u.pos.block
      by_step (down y ys eg c to) = let k : place u.pos.block ≡ place t.pos.block = ap (λ (z : Pos). place z.block) to in omega (arith, k, lt)
      by_step (over k n eg ne more to) = let l : place u.pos.block ≡ place n = ap (λ (z : Pos). place z.block) to in omega (arith, l, more, lt)

    -- nor where all that it has ahead in the block comes from later positions
    module _ (ends : (e : Pos) (k n : ℕ) → e.block ≡ p.block → g.fetch e ≡ EndOfBlock k n → p.item < k) where
      not_here : (q : Pos) (i : SyncPoint) → IsSyncPointOf count g q i → q.block ≡ b → (ys : List Item) → rest_g q ≡ ys → (m : ℕ) → InOrder b m ys →
          2 * p.item + 2 ≤ m → i.pos ≡ p → ⊥
      not_here q i (of_end k n fe ce ie) qb ys eg m ord le at =
          let lt = ends q k n (qb ∙ sym pb) fe in
          let e : k ≡ p.item = ap (λ (z : SyncPoint). z.pos.item) (sym ie) ∙ ap (λ (z : Pos). z.item) at in
          omega (arith, lt, e)
      not_here q i (of_item y fy cy iy) qb [] eg m ord le at = not_past_items (g.fetch q) y (facts.laid_g.nil q eg).0 fy
      not_here q i (of_item y fy cy iy) qb (z ∷ zs) eg m ord le at =
          let w : Here z ≡ Here y = sym (facts.laid_g.cons q z zs eg).0 ∙ fy in
          let zy : z ≡ y = cc in
          let e : (position_of z.origin).item ≡ p.item = ap (λ (k : Item). (position_of k.origin).item) zy ∙ ap (λ (k : SyncPoint). k.pos.item) iy ∙
          ap (λ (k : Pos). k.item) at in
          let low = ord.1 in
          let high = rank_high z.origin in
          omega (arith, le, low, high, e)

      not_later : {t t2 : State} → Lingers g (gs change) p t t2 → t.pos.block ≡ b → (ys : List Item) → rest_g t.pos ≡ ys → (m : ℕ) → InOrder b m ys →
          2 * p.item + 2 ≤ m → (i : SyncPoint) → gs change t2.pos ≡ Some i → i.pos ≡ p → ⊥
      not_later (stays {t = t}) tb ys eg m ord le i e at = not_here t.pos i (sync_point_is_of count g t.pos i e) tb ys eg m ord le at
      not_later (waits_by {t = t} j ej jp w go rest) tb ys eg m ord le i e at = not_here t.pos j (sync_point_is_of count g t.pos j ej) tb ys eg m ord le jp
      not_later (goes_by {t = t} {u = u} none go rest) tb [] eg m ord le i e at = by_step (steps_between change t u none go) where
        by_step : IsBetween change t u → ⊥
        by_step (down y ys eg' c to) = let bad : [] ≡ y ∷ ys = sym eg ∙ eg' in cc
        by_step (over k n eg' ne more to) = not_further rest
            (let l : place u.pos.block ≡ place n = ap (λ (z : Pos). place z.block) to in let k2 : place t.pos.block ≡ place b = ap place tb in
            omega (arith, l, more, k2)) i e at
      not_later (goes_by {t = t} {u = u} none go rest) tb (y ∷ ys) eg m ord le i e at =
          by_step (steps_between change t u none go)
          (λ to. not_later rest (ap (λ (z : Pos). z.block) to ∙ tb) ys (ap rest_g to ∙ (facts.laid_g.cons t.pos y ys eg).1) (next_rank y.origin) ord.2
          (let k = ord.1 in rank_next y.origin (2 * p.item + 2) (omega (arith, le, k))) i e at) where
            by_step : IsBetween change t u → (u.pos ≡ below t.pos → ⊥) → ⊥
            by_step (down z zs eg' c to) more = more to
            by_step (over k n eg' ne lt to) more = let bad : [] ≡ y ∷ ys = sym eg' ∙ eg in cc

    abbrev Idle : List Item → Type 0
    Idle ys = All (IsIdleAt count g p) ys

    -- what g shows at a station of p, and that it doesn't return there
    abbrev Shown : State → State → Type 0
    Shown t t2 = ShowsSame t.core t2.core × ((v : RunResult) → step g t2 ≡ Returned v → ⊥)

    idle_item : (y : Item) → IsIdleAt count g p y → position_of y.origin ≡ p → ((d : Core) → ShowsNoMore (since_item count y) d (do_item g y.kind d)) ⊎
        IsNoReturn g p y
    idle_item y h at = let k : (position_of y.origin).item ≡ p.item = ap (λ (z : Pos). z.item) at in h (omega (arith, k))

    no_return : (t : State) (i : SyncPoint) → IsSyncPointOf count g t.pos i → (ys : List Item) → rest_g t.pos ≡ ys → Idle ys → i.pos ≡ p → (v : RunResult) →
        step g t ≡ Returned v → ⊥
    no_return t i (of_end k n fe ce ie) ys eg idle at v h = let bad : Went (record { pos = block_start (g.enter n); core = t.core }) ≡ Returned v =
        sym (step_end g t k n fe) ∙ h in cc
    no_return t i (of_item y fy cy iy) [] eg idle at v h = not_past_items (g.fetch t.pos) y (facts.laid_g.nil t.pos eg).0 fy
    no_return t i (of_item y fy cy iy) (z ∷ zs) eg idle at v h =
        let fz = (facts.laid_g.cons t.pos z zs eg).0 in
        let w : Here z ≡ Here y = sym fz ∙ fy in
        let zy : z ≡ y = cc in
        let gives = returns_gives g.enter t.pos (do_item g z.kind t.core) v (sym (step_item g t z (do_item g z.kind t.core) fz refl) ∙ h) in
        elim (idle_item z (All-head (IsIdleAt count g p) z zs idle) (ap (λ (k : Item). position_of k.origin) zy ∙ ap (λ (k : SyncPoint). k.pos) iy ∙ at))
        as (λ _. ⊥) [
          | inl q ↦ no_more_gives_not (since_item count z) t.core (do_item g z.kind t.core) v (q t.core) gives
          | inr q ↦ q.stays t.core v gives
        ]

    -- past code of g at which the source waits
    past_code : (t u : State) (i : SyncPoint) → IsSyncPointOf count g t.pos i → (ys : List Item) → rest_g t.pos ≡ ys → Idle ys → i.pos ≡ p →
        since_of i.waits ≡ Same → step g t ≡ Went u → (y : Item) × (zs : List Item) × (ys ≡ y ∷ zs) × (u.pos ≡ below t.pos) × ShowsSame t.core u.core
    past_code t u i (of_end k n fe ce ie) ys eg idle at w go = let bad : After ≡ Same = ap (λ (z : SyncPoint). since_of z.waits) (sym ie) ∙ w in cc
    past_code t u i (of_item y fy cy iy) [] eg idle at w go = absurd (not_past_items (g.fetch t.pos) y (facts.laid_g.nil t.pos eg).0 fy)
    past_code t u i (of_item y fy cy iy) (z ∷ zs) eg idle at w go =
        let fz = (facts.laid_g.cons t.pos z zs eg).0 in
        let e : Here z ≡ Here y = sym fz ∙ fy in
        let zy : z ≡ y = cc in
        let same : since_item count z ≡ Same = ap (λ (k : Item). since_item count k) zy ∙ ap (λ (k : SyncPoint). since_of k.waits) iy ∙ w in
        elim (idle_item z (All-head (IsIdleAt count g p) z zs idle) (ap (λ (k : Item). position_of k.origin) zy ∙ ap (λ (k : SyncPoint). k.pos) iy ∙ at))
        as (λ _. (y : Item) × (ts : List Item) × (z ∷ zs ≡ y ∷ ts) × (u.pos ≡ below t.pos) × ShowsSame t.core u.core) [
          | inl q ↦
              let k = goes_idle g t u (since_item count z) (do_item g z.kind t.core) (step_item g t z (do_item g z.kind t.core) fz refl) (q t.core)
              (λ n d o af. let bad : Same ≡ After = sym same ∙ af in cc) go in
              (z, zs, refl, k.0, k.1)
          | inr q ↦ (let bad : After ≡ Same = kept_moves (moves_on count z.kind) ∙
              ap (λ (o : Origin). since_of (waits_at (moves_on count z.kind) o)) (sym q.kept) ∙ same in cc)
        ] where
          kept_moves : (m : Bool) → After ≡ since_of (waits_at m (Kept p))
          kept_moves m = refl

    -- past a debug item of g
    past_debug : (t u : State) (y : Item) (zs : List Item) → rest_g t.pos ≡ y ∷ zs → is_code y.kind ≡ false →
        ((d : Core) → ShowsNoMore (since_item count y) d (do_item g y.kind d)) → step g t ≡ Went u → ShowsSame t.core u.core
    past_debug t u y zs eg c q go =
        let d = debug_falls g y.kind t.core c in
        (goes_idle g t u (since_item count y) (do_item g y.kind t.core) (step_item g t y (do_item g y.kind t.core) (facts.laid_g.cons t.pos y zs eg).0 refl)
        (q t.core) (λ n e o af. let bad : Falls d.0 ≡ Goes n e = sym d.1 ∙ o in cc) go).1

    pub shows_idle : {t t2 : State} → Lingers g (gs change) p t t2 → t.pos.block ≡ b → (ys : List Item) → rest_g t.pos ≡ ys → (m : ℕ) → InOrder b m ys →
        Idle ys → (i : SyncPoint) → gs change t2.pos ≡ Some i → i.pos ≡ p → Shown t t2
    shows_idle (stays {t = t}) tb ys eg m ord idle i e at = (same_shown t.core, no_return t i (sync_point_is_of count g t.pos i e) ys eg idle at)
    shows_idle (waits_by {t = t} {u = u} {v = t2} j ej jp w go rest) tb ys eg m ord idle i e at =
        let k = past_code t u j (sync_point_is_of count g t.pos j ej) ys eg idle jp w go in
        let ord2 = subst (InOrder b m) k.2 ord in
        let idle2 = subst Idle k.2 idle in
        let r = shows_idle rest (ap (λ (z : Pos). z.block) k.3 ∙ tb) k.1 (ap rest_g k.3 ∙ (facts.laid_g.cons t.pos k.0 k.1 (eg ∙ k.2)).1)
        (next_rank k.0.origin) ord2.2 (All-tail (IsIdleAt count g p) k.0 k.1 idle2) i e at in
        (then_shown t.core u.core t2.core k.4 r.0, r.1)
    shows_idle (goes_by {t = t} {u = u} {v = t2} none go rest) tb ys eg m ord idle i e at =
        by_step (steps_between change t u none go) (λ ub zs eg2 m2 ord2 idle2. shows_idle rest ub zs eg2 m2 ord2 idle2 i e at) where
          by_step : IsBetween change t u →
              (u.pos.block ≡ b → (zs : List Item) → rest_g u.pos ≡ zs → (m2 : ℕ) → InOrder b m2 zs → Idle zs → Shown u t2) → Shown t t2
          by_step (over k n eg' ne more to) ih =
              absurd (not_further rest
              (let l : place u.pos.block ≡ place n = ap (λ (z : Pos). place z.block) to in let k2 : place t.pos.block ≡ place b = ap place tb in
              omega (arith, l, more, k2)) i e at)
          by_step (down y zs eg' c to) ih =
              elim (cases_lt p.item (position_of y.origin).item) as (λ _. Shown t t2) [
                | inl lt ↦ absurd (not_later
                    (λ q k n qb fq. let h = facts.within t.pos q y k n laid.0 fq (tb ∙ sym (qb ∙ pb)) in omega (arith, lt, h)) rest ub zs tail
                    (next_rank y.origin) ord2.2
                    (let low = rank_low y.origin in let h = rank_next y.origin (2 * (position_of y.origin).item) low in omega (arith, lt, h)) i e at)
                | inr ge ↦
                    elim (All-head (IsIdleAt count g p) y zs idle2 ge) as (λ _. Shown t t2) [
                      | inl q ↦ (let r = ih ub zs tail (next_rank y.origin) ord2.2 (All-tail (IsIdleAt count g p) y zs idle2) in
                          (then_shown t.core u.core t2.core (past_debug t u y zs eg' c q go) r.0, r.1))
                      | inr q ↦ absurd (not_later q.inner rest ub zs tail (next_rank y.origin) ord2.2
                          (let h : next_rank y.origin ≡ 2 * p.item + 2 = ap next_rank q.kept in omega (arith, h)) i e at)
                    ]
              ] where
                is : ys ≡ y ∷ zs
                is = sym eg ∙ eg'

                laid : (g.fetch t.pos ≡ Here y) × (rest_g (below t.pos) ≡ zs)
                laid = facts.laid_g.cons t.pos y zs eg'

                ub : u.pos.block ≡ b
                ub = ap (λ (z : Pos). z.block) to ∙ tb

                tail : rest_g u.pos ≡ zs
                tail = ap rest_g to ∙ laid.1

                ord2 : InOrder b m (y ∷ zs)
                ord2 = subst (InOrder b m) is ord

                idle2 : Idle (y ∷ zs)
                idle2 = subst Idle is idle

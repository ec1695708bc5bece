-- Where a run comes round on one position of the source, it does so by one jump.
use Rattle.std.proofs.Common.{◌≡◌, ℕ, ◌+◌, ◌<◌, ◌≤◌, List, ◌∷◌, Option, Some, None, Bool, true, false, refl, sym, ap, ◌∙◌, subst, inl, inr, ◌⊎◌, arith}
use Rattle.std.proofs.lemmas.Bool.{cases_Bool, cases_lt}
use Rattle.sem_mir.specs.rv64_instr.declared.operand.Operand.{Operand}
use Rattle.sem_mir.specs.rv64_instr.Row.{Row, StoresSlot, Jumps, row_of}
use Rattle.sem_mir.specs.mir_func.declared.position.Pos.{Pos}
use Rattle.sem_mir.specs.mir_func.declared.item.Item.{Item}
use Rattle.sem_mir.specs.mir_func.declared.item.ItemKind.{ItemKind}
use Rattle.sem_mir.specs.mir_func.declared.item.ItemKind.TheVariants.{Code, Mark, Phi}
use Rattle.sem_mir.specs.State.{State, Core, updated}
use Rattle.sem_mir.specs.Step.{part_of, Went, Outcome, Falls, Goes, moved, act, does, with_core, numbered, mark_value, place_value, do_item, do_fetch, step}
use Rattle.sem_mir.specs.rv64_instr.LocationEffects.{is_call, IsSlotStore}
use Rattle.sem_mir.specs.mir_func.Graph.{Program, Fetch, Here, EndOfBlock, Outside, below, block_start, Edge, FetchEdge, KindEdge, RowEdge, Leads, stay, go as by_edge}
use Rattle.sem_mir.specs.mir_func.Positions.{position_of}
use Rattle.sem_mir.specs.Align.{is_code, is_jump, is_jump_row, SyncPoint, ByItems, sync_point_of, item_sync_point, fetch_sync_point, sync_point_at}
use Rattle.sem_mir.specs.Follow.{OnRow}
use Rattle.sem_simulation.specs.Words.{SameCode, IsAddedJump, HasPlainTurns}
use Rattle.sem_mir.proofs.Edges.{falls_below, goes_to_start}
use Rattle.sem_simulation.proofs.Order.{same_pos}
use Rattle.sem_simulation.proofs.Stations.{code_sync_point, IsSyncPointOf, of_item, of_end, sync_point_is_of}

pub same_code : (c : Core) → SameCode c c
same_code c = record { entry = refl; area = refl; objects = refl; symbols = refl; regs = refl; slots = refl; memory = refl; script = refl; events = refl }

pub code_trans : (c d e : Core) → SameCode c d → SameCode d e → SameCode c e
code_trans c d e a b = record {
  entry = a.entry ∙ b.entry;
  area = a.area ∙ b.area;
  objects = a.objects ∙ b.objects;
  symbols = a.symbols ∙ b.symbols;
  regs = a.regs ∙ b.regs;
  slots = a.slots ∙ b.slots;
  memory = a.memory ∙ b.memory;
  script = a.script ∙ b.script;
  events = a.events ∙ b.events;
}

numbered_code : (sp call : Bool) (k : Option ℕ) (os : List Operand) (c : Core) → SameCode (numbered sp call k os c) c
numbered_code sp call None os c = same_code c
numbered_code sp call (Some k) os c = record {
  entry = refl;
  area = refl;
  objects = refl;
  symbols = refl;
  regs = refl;
  slots = refl;
  memory = refl;
  script = refl;
  events =
      refl;
}

module _ (g : Program) where
  abbrev gs : Pos → Option SyncPoint
  gs p = sync_point_at ByItems g p

  -- where control goes from what is no station
  abbrev pub next_from : Pos → Fetch → Pos
  next_from p (Here i) = below p
  next_from p (EndOfBlock k n) = block_start (g.enter n)
  next_from p Outside = p

  fall_code : (p : Pos) (c d : Core) (t : State) → SameCode d c → moved g.enter p (Falls d) ≡ Went t → SameCode t.core c × (t.pos ≡ below p)
  fall_code p c d t h e = (
    let made : State = record { pos = below p; core = d } in let w : made ≡ t = cc in
        subst (λ (z : State). SameCode z.core c) w h,
    falls_below g.enter p d t e,
  )

  kind_code : (k : ItemKind) (i : Item) → item_sync_point ByItems (is_code k) i ≡ None → (p : Pos) (c : Core) (t : State) →
      moved g.enter p (do_item g k c) ≡ Went t → SameCode t.core c × (t.pos ≡ below p)
  kind_code (Code j n) i e p c t go = cc
  kind_code (Mark v m) i e p c t go = fall_code p c (record c { marks = (v, part_of v (mark_value g m c)) ∷ c.marks }) t
      (record { entry = refl; area = refl; objects = refl; symbols = refl; regs = refl; slots = refl; memory = refl; script = refl; events = refl }) go
  kind_code (Phi q n) i e p c t go = fall_code p c (record c { pairs = updated n (updated 0 (place_value q c) (c.pairs n)) c.pairs }) t
      (record { entry = refl; area = refl; objects = refl; symbols = refl; regs = refl; slots = refl; memory = refl; script = refl; events = refl }) go

  fetch_code : (x : Fetch) (b : ℕ) → fetch_sync_point ByItems b x ≡ None → (p : Pos) (c : Core) (t : State) → moved g.enter p (do_fetch g x c) ≡ Went t →
      SameCode t.core c × (t.pos ≡ next_from p x)
  fetch_code (Here i) b e p c t go = kind_code i.kind i e p c t go
  fetch_code (EndOfBlock k n) b e p c t go = (
    let made : State = record { pos = block_start (g.enter n); core = c } in let w : made ≡ t = cc in
        subst (λ (z : State). SameCode z.core c) w (same_code c),
    goes_to_start g.enter p n c t go,
  )
  fetch_code Outside b e p c t go = cc

  -- what is no station changes no place, and leads to one position
  pub quiet_step : (t u : State) → gs t.pos ≡ None → step g t ≡ Went u → SameCode u.core t.core × (u.pos ≡ next_from t.pos (g.fetch t.pos))
  quiet_step t u none go = fetch_code (g.fetch t.pos) t.pos.block none t.pos t.core u go

  -- g goes on over what is no station
  pub data Passes : State → State → Type 0 where
    still : {t : State} → Passes t t
    on : {t u v : State} → gs t.pos ≡ None → step g t ≡ Went u → Passes u v → Passes t v

  pub passes_on : {t u v : State} → Passes t u → gs u.pos ≡ None → step g u ≡ Went v → Passes t v
  passes_on still none go = on none go still
  passes_on (on ne st q) none go = on ne st (passes_on q none go)

  pub passes_code : {t u : State} → Passes t u → SameCode u.core t.core
  passes_code (still {t = t}) = same_code t.core
  passes_code (on {t = t} {u = u} {v = v} ne st q) = code_trans v.core u.core t.core (passes_code q) (quiet_step t u ne st).0

  -- from one position it comes to one station
  pub passes_to_one : {t u t' u' : State} (i i' : SyncPoint) → Passes t u → Passes t' u' → t.pos ≡ t'.pos → gs u.pos ≡ Some i → gs u'.pos ≡ Some i' →
      u.pos ≡ u'.pos
  passes_to_one i i' still still e a a' = e
  passes_to_one i i' (still {t = t}) (on {t = t'} ne st q) e a a' = let bad : None ≡ Some i = sym ne ∙ ap gs (sym e) ∙ a in cc
  passes_to_one i i' (on {t = t} ne st q) (still {t = t'}) e a a' = let bad : None ≡ Some i' = sym ne ∙ ap gs e ∙ a' in cc
  passes_to_one i i' (on {t = t} {u = u} ne st q) (on {t = t'} {u = u'} ne' st' q') e a a' =
      passes_to_one i i' q q' ((quiet_step t u ne st).1 ∙ ap (λ (z : Pos). next_from z (g.fetch z)) e ∙ sym (quiet_step t' u' ne' st').1) a a'

  jump_act : (r : Row) → is_jump_row r ≡ true → (n : ℕ) × ((d : Core) → act r d ≡ Goes n d)
  unfolding act does
  jump_act (Jumps n) e = (n, λ d. refl)
  jump_act _ e = cc

  -- a jump changes no place, and always goes to the start of one block
  pub record JumpsTo (k : ItemKind) : Type 0 where
    pub target : ℕ
    pub lands : (p : Pos) (c : Core) (t : State) → moved g.enter p (do_item g k c) ≡ Went t → SameCode t.core c × (t.pos ≡ block_start (g.enter target))

  pub jumps_to : (k : ItemKind) → is_jump k ≡ true → JumpsTo k
  jumps_to (Mark v m) e = cc
  jumps_to (Phi q n) e = cc
  jumps_to (Code j n) e =
      let r = jump_act (row_of j) e in
      record {
        target = r.0;
        lands = λ p c t go. land r.0 p c t
            (sym (ap (λ (o : Outcome). moved g.enter p (with_core (numbered g.sees_pointer (is_call (row_of j)) n j.operands) o)) (r.1 c)) ∙ go);
      } where
        land : (m : ℕ) (p : Pos) (c : Core) (t : State) → moved g.enter p (Goes m (numbered g.sees_pointer (is_call (row_of j)) n j.operands c)) ≡ Went t →
            SameCode t.core c × (t.pos ≡ block_start (g.enter m))
        land m p c t go =
            let d = numbered g.sees_pointer (is_call (row_of j)) n j.operands c in (
              let made : State = record { pos = block_start (g.enter m); core = d } in let w : made ≡ t = cc in
                  subst (λ (z : State). SameCode z.core c) w (numbered_code g.sees_pointer (is_call (row_of j)) n j.operands c),
              goes_to_start g.enter p m d t go,
            )

  step_at : (t u : State) (x : Item) → g.fetch t.pos ≡ Here x → step g t ≡ Went u → moved g.enter t.pos (do_item g x.kind t.core) ≡ Went u
  step_at t u x f go = sym (ap (λ (z : Fetch). moved g.enter t.pos (do_fetch g z t.core)) f) ∙ go

  -- the step of a jump, from whatever state at its position
  pub jump_step : (x : Item) → is_jump x.kind ≡ true → (t u k v : State) → g.fetch t.pos ≡ Here x → step g t ≡ Went u → k.pos ≡ t.pos → step g k ≡ Went v →
      SameCode v.core k.core × (v.pos ≡ u.pos)
  jump_step x jx t u k v ft go e go' =
      let j = jumps_to x.kind jx in
      let a = j.lands t.pos t.core u (step_at t u x ft go) in
      let b = j.lands k.pos k.core v (step_at k v x (ap g.fetch e ∙ ft) go') in
      (b.0, b.1 ∙ sym a.1)

  -- a position that is passed
  abbrev IsOn : {u v : State} → Passes u v → Pos → Type 0
  IsOn (still {t = t}) p = p ≡ t.pos
  IsOn (on {t = t} ne st q) p = (p ≡ t.pos) ⊎ IsOn q p

  on_first : {u v : State} (q : Passes u v) → IsOn q u.pos
  on_first still = refl
  on_first (on ne st q) = inl refl

  one_edge : (x : Fetch) (b : ℕ) → fetch_sync_point ByItems b x ≡ None → (p q : Pos) → FetchEdge g.enter x p q → q ≡ next_from p x
  one_edge (Here i) b e p q k = by_kind i.kind e k where
    by_kind : (k : ItemKind) → item_sync_point ByItems (is_code k) i ≡ None → KindEdge g.enter k p q → q ≡ below p
    by_kind (Code c n) e k = cc
    by_kind (Mark v m) e k = k
    by_kind (Phi r n) e k = k
  one_edge (EndOfBlock j n) b e p q k = k
  one_edge Outside b e p q k = absurd k

  on_edge : {u v : State} (w : Passes u v) (p q : Pos) → IsOn w p → Edge g p q → IsOn w q ⊎ (p ≡ v.pos)
  on_edge still p q h k = inr h
  on_edge (on {t = u} {u = n} ne st w) p q (inl h) k =
      let a = one_edge (g.fetch u.pos) u.pos.block ne u.pos q (subst (λ (z : Pos). Edge g z q) h k) in
      inl (inr (subst (IsOn w) ((quiet_step u n ne st).1 ∙ sym a) (on_first w)))
  on_edge (on {v = v} ne st w) p q (inr h) k = elim (on_edge w p q h k) as (λ _. IsOn (on ne st w) q ⊎ (p ≡ v.pos)) [ inl z ↦ inl (inr z) | inr z ↦ inr z ]

  on_sync_point : {u v : State} (w : Passes u v) (p : Pos) (i : SyncPoint) → IsOn w p → gs p ≡ Some i → p ≡ v.pos
  on_sync_point still p i h e = h
  on_sync_point (on {t = t} ne st w) p i (inl h) e = let bad : None ≡ Some i = sym ne ∙ ap gs (sym h) ∙ e in cc
  on_sync_point (on ne st w) p i (inr h) e = on_sync_point w p i h e

  -- nothing above in the block is a station
  abbrev IsQuietAbove : Pos → Type 0
  IsQuietAbove p = (r : Pos) → r.block ≡ p.block → r.item < p.item → gs r ≡ None

  quiet_next : (p q : Pos) (x : Fetch) → gs p ≡ None → IsQuietAbove p → q ≡ next_from p x → IsQuietAbove q
  quiet_next p q (Here i) ne h e r rb lt =
      let eb : q.block ≡ p.block = ap (λ (z : Pos). z.block) e in
      let ei : q.item ≡ p.item + 1 = ap (λ (z : Pos). z.item) e in
      elim (cases_lt r.item p.item) as (λ _. gs r ≡ None) [
        | inl l ↦ h r (rb ∙ eb) l
        | inr ge ↦ ap gs (same_pos r p (rb ∙ eb) (omega (arith, lt, ei, ge))) ∙ ne
      ]
  quiet_next p q (EndOfBlock k n) ne h e r rb lt = let ei : q.item ≡ 0 = ap (λ (z : Pos). z.item) e in absurd (omega (arith, lt, ei))
  quiet_next p q Outside ne h e r rb lt = h r (rb ∙ ap (λ (z : Pos). z.block) e)
      (let ei : q.item ≡ p.item = ap (λ (z : Pos). z.item) e in omega (arith, ei, lt))

  quiet_passes : {a b : State} → Passes a b → IsQuietAbove a.pos → IsQuietAbove b.pos
  quiet_passes still h = h
  quiet_passes (on {t = a} {u = n} ne st q) h = quiet_passes q (quiet_next a.pos n.pos (g.fetch a.pos) ne h (quiet_step a n ne st).1)

  save_below : (k : ItemKind) → OnRow IsSlotStore k → (p q : Pos) → KindEdge g.enter k p q → q ≡ below p
  save_below (Mark v m) s p q e = absurd s
  save_below (Phi r n) s p q e = absurd s
  save_below (Code c n) s p q e = by_row (row_of c) s e where
    by_row : (r : Row) → IsSlotStore r → RowEdge g.enter r p q → q ≡ below p
    by_row (StoresSlot rs n) s e = e
    by_row _ s e = absurd s

  debug_below : (k : ItemKind) → is_code k ≡ false → (p q : Pos) → KindEdge g.enter k p q → q ≡ below p
  debug_below (Code c n) e p q k = cc
  debug_below (Mark v m) e p q k = k
  debug_below (Phi r n) e p q k = k

  jump_edge : (k : ItemKind) → is_jump k ≡ true → (p q : Pos) (c : Core) (u : State) → KindEdge g.enter k p q → moved g.enter p (do_item g k c) ≡ Went u →
      q ≡ u.pos
  jump_edge (Mark v m) e p q c u k st = cc
  jump_edge (Phi r n) e p q c u k st = cc
  jump_edge (Code i n) e p q c u k st = by_row (row_of i) e k st where
    by_row : (r : Row) → is_jump_row r ≡ true → RowEdge g.enter r p q →
        moved g.enter p (with_core (numbered g.sees_pointer (is_call (row_of i)) n i.operands) (act r c)) ≡ Went u → q ≡ u.pos
    by_row (Jumps t) e k st =
        let d = numbered g.sees_pointer (is_call (row_of i)) n i.operands c in
        let st1 : moved g.enter p (Goes t d) ≡ Went u = unfold act in unfold does in st in
        k ∙ sym (goes_to_start g.enter p t d u st1)
    by_row _ e k st = cc

  module _ (Inner : Pos → Type 0) (facts : HasPlainTurns g Inner) (t u v : State) (x : Item) (i : SyncPoint) (ft : g.fetch t.pos ≡ Here x) (jx : IsAddedJump x)
      (st : step g t ≡ Went u) (w : Passes u v) (sv : gs v.pos ≡ Some i) (at : i.pos ≡ position_of x.origin) where
    inner_all : {a b : State} → Inner a.pos → Passes a b → Inner b.pos
    inner_all h still = h
    inner_all h (on {t = a} {u = n} ne go q) = inner_all (facts.on a n h go) q

    inner_t : Inner t.pos
    inner_t = facts.jumps t.pos x ft jx.0

    lands : SameCode u.core t.core × (u.pos ≡ block_start (g.enter (jumps_to x.kind jx.0).target))
    lands = (jumps_to x.kind jx.0).lands t.pos t.core u (step_at t u x ft st)

    -- the way begins where every edge of the jump leads
    from_jump : (q : Pos) → Edge g t.pos q → q ≡ u.pos
    from_jump q k = jump_edge x.kind jx.0 t.pos q t.core u (subst (λ (z : Fetch). FetchEdge g.enter z t.pos q) ft k) (step_at t u x ft st)

    record AtEnd : Type 0 where
      y : Item
      fetch : g.fetch v.pos ≡ Here y
      code : is_code y.kind ≡ true
      pos : position_of y.origin ≡ position_of x.origin
      block : v.pos.block ≡ t.pos.block

    at_end : AtEnd
    at_end = by_sync_point (sync_point_is_of ByItems g v.pos i sv) where
      by_sync_point : IsSyncPointOf ByItems g v.pos i → AtEnd
      by_sync_point (of_end k n fe ce ie) = cc
      by_sync_point (of_item y fy cy iy) =
          let p : position_of y.origin ≡ position_of x.origin = ap (λ (z : SyncPoint). z.pos) iy ∙ at in
          record {
            y = y;
            fetch = fy;
            code = cy;
            pos = p;
            block = facts.home v.pos t.pos y x (inner_all (facts.on t u inner_t st) w) inner_t fy ft (ap (λ (z : Pos). z.block) p);
          }

    -- the circle: from the station down to the jump, and the way back
    abbrev Circle : Pos → Type 0
    Circle p = ((p.block ≡ t.pos.block) × (v.pos.item ≤ p.item) × (p.item ≤ t.pos.item)) ⊎ IsOn w p

    -- what stands between is at the jump's position
    between_at : (p : Pos) (j : Item) → g.fetch p ≡ Here j → p.block ≡ t.pos.block → v.pos.item ≤ p.item → p.item ≤ t.pos.item →
        position_of j.origin ≡ position_of x.origin
    between_at p j fj pb lo hi =
        let a = facts.order v.pos p at_end.y j at_end.fetch fj (at_end.block ∙ sym pb) lo in
        let b = facts.order p t.pos j x fj ft pb hi in
        let e : (position_of at_end.y.origin).item ≡ (position_of x.origin).item = ap (λ (z : Pos). z.item) at_end.pos in
        same_pos (position_of j.origin) (position_of x.origin) b.0 (let a1 = a.1 in let b1 = b.1 in omega (arith, a1, b1, e))

    from_between : (p q : Pos) → p.block ≡ t.pos.block → v.pos.item ≤ p.item → p.item ≤ t.pos.item → Edge g p q → Circle q
    from_between p q pb lo hi k =
        elim (cases_lt p.item t.pos.item) as (λ _. Circle q) [
          | inl less ↦
              let j = facts.filled t.pos p x ft pb less in
              let kj = subst (λ (z : Fetch). FetchEdge g.enter z p q) j.1 k in
              let down : q ≡ below p = elim (cases_Bool (is_code j.0.kind)) as (λ _. q ≡ below p) [
                | inl cj ↦
                    elim (facts.source_end t.pos p x j.0 pb ft jx j.1 cj (between_at p j.0 j.1 pb lo hi)) as (λ _. q ≡ below p) [
                      | inl s ↦ save_below j.0.kind s p q kj
                      | inr jj ↦ absurd (facts.last p t.pos j.0 x j.1 jj ft pb less)
                    ]
                | inr cj ↦ debug_below j.0.kind cj p q kj
              ] in
              let item : q.item ≡ p.item + 1 = ap (λ (z : Pos). z.item) down in
              inl (ap (λ (z : Pos). z.block) down ∙ pb, omega (arith, item, lo), omega (arith, item, less))
          | inr more ↦
              let pt : p ≡ t.pos = same_pos p t.pos pb (omega (arith, hi, more)) in
              inr (subst (IsOn w) (sym (from_jump q (subst (λ (z : Pos). Edge g z q) pt k))) (on_first w))
        ]

    -- no edge leaves it
    closed : v.pos.item < t.pos.item → (p q : Pos) → Circle p → Edge g p q → Circle q
    closed lt p q (inl h) k = from_between p q h.0 h.1 h.2 k
    closed lt p q (inr h) k =
        elim (on_edge w p q h k) as (λ _. Circle q) [
          | inl z ↦ inr z
          | inr e ↦ (let z : p.item ≡ v.pos.item = ap (λ (z : Pos). z.item) e in
              from_between p q (ap (λ (z : Pos). z.block) e ∙ at_end.block) (omega (arith, z)) (omega (arith, z, lt)) k)
        ]

    stays_in : v.pos.item < t.pos.item → {p r : Pos} → Leads g p r → Circle p → Circle r
    stays_in lt stay h = h
    stays_in lt (by_edge {p = p} {q = q} e rest) h = stays_in lt rest (closed lt p q h e)

    no_store : v.pos.item < t.pos.item → (r : Pos) (k : Item) → g.fetch r ≡ Here k → is_code k.kind ≡ true → (position_of k.origin ≡ position_of x.origin → ⊥) →
        ((r.block ≡ v.pos.block) × (r.item < v.pos.item)) ⊎ Leads g v.pos r → ⊥
    no_store lt r k fk ck ne (inl h) =
        let top : u.pos.item ≡ 0 = ap (λ (z : Pos). z.item) lands.1 in
        let bad : None ≡ Some (sync_point_of ByItems k) = sym (quiet_passes w (λ q qb lt2. absurd (omega (arith, lt2, top))) r h.0 h.1) ∙
        code_sync_point ByItems g r k fk ck in
        cc
    no_store lt r k fk ck ne (inr h) =
        elim (stays_in lt h (inl (at_end.block, omega arith, omega (arith, lt)))) as (λ _. ⊥) [
          | inl z ↦ ne (between_at r k fk z.0 z.1 z.2)
          | inr z ↦
              let e = on_sync_point w r (sync_point_of ByItems k) z (code_sync_point ByItems g r k fk ck) in
              let fy : Here k ≡ Here at_end.y = sym fk ∙ ap g.fetch e ∙ at_end.fetch in
              let ky : k ≡ at_end.y = cc in
              ne (ap (λ (q : Item). position_of q.origin) ky ∙ at_end.pos)
        ]

    -- so the next station at that position is the jump itself
    pub comes_back : v.pos ≡ t.pos
    comes_back =
        elim (cases_lt v.pos.item t.pos.item) as (λ _. v.pos ≡ t.pos) [
          | inl lt ↦ absurd (elim (facts.source_end t.pos v.pos x at_end.y at_end.block ft jx at_end.fetch at_end.code at_end.pos) as (λ _. ⊥) [
            | inl s ↦ (let z = facts.stores t.pos v.pos x at_end.y at_end.block ft jx at_end.fetch s at_end.pos in no_store lt z.0 z.1 z.2 z.3 z.4 z.5)
            | inr j ↦ facts.last v.pos t.pos at_end.y x at_end.fetch j ft at_end.block lt
          ])
          | inr ge ↦
              elim (cases_lt t.pos.item v.pos.item) as (λ _. v.pos ≡ t.pos) [
                | inl over ↦ absurd (facts.last t.pos v.pos x at_end.y ft jx.0 at_end.fetch (sym at_end.block) over)
                | inr le ↦ same_pos v.pos t.pos at_end.block (omega (arith, ge, le))
              ]
        ]

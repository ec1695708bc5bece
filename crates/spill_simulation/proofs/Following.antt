-- A function that follows a source follows it with registers in slots: its shape, its runs and its ends.
use Rattle.std.proofs.Common.{◌≡◌, ◌⊎◌, ℕ, zero, suc, ◌+◌, ◌<◌, List, [], ◌∷◌, map, length, All, Contains, Option, Some, IsSome, Bool}
use Rattle.std.proofs.Common.{true, false, cond, refl, sym, ap, ◌∙◌, subst, inl, inr, eq-eqb, slice_get, arith}
use Rattle.std.proofs.lemmas.List.{length-map}
use Rattle.std.proofs.lemmas.List.Elements.{All-append}
use Rattle.rv64_instr.specs.declared.place.Place.{Place}
use Rattle.mir_func.specs.declared.variable.VarId.{VarId}
use Rattle.mir_func.specs.declared.variable.MarkValue.{MarkValue}
use Rattle.rv64_instr.specs.Instruction.{Instruction}
use Rattle.rv64_instr.specs.Row.{Row, Branches, Jumps, Returns, Unfit, row_of}
use Rattle.mir_func.specs.declared.debug_substitution.OperandPair.{OperandPair}
use Rattle.mir_func.specs.declared.object.Object.{Object}
use Rattle.mir_func.specs.declared.position.Pos.{Pos}
use Rattle.mir_func.specs.declared.position.Origin.{Origin}
use Rattle.mir_func.specs.declared.position.Origin.TheVariants.{Kept}
use Rattle.mir_func.specs.declared.location.Loc.{Loc}
use Rattle.mir_func.specs.declared.block.Block.{Block}
use Rattle.mir_func.specs.declared.item.Item.{Item}
use Rattle.mir_func.specs.declared.item.ItemKind.{ItemKind}
use Rattle.mir_func.specs.declared.item.ItemKind.TheVariants.{Code, Mark, Phi}
use Rattle.mir_func.specs.Function.{Function}
use Rattle.mir_func.specs.Graph.{Program, Fetch, Here, EndOfBlock, Outside, below, block_start, index_of, program_of, Edge, FetchEdge, KindEdge, RowEdge, Leads}
use Rattle.mir_func.specs.Sound.{AreApart, ids_of, LastCloses, IsSound}
use Rattle.sem_mir.specs.Align.{is_jump, Count, ByItems, ByEnds, moves_on, sync_point_at, AnyOrigin, RunsMatch}
use Rattle.sem_mir.specs.InitialState.{first_of, IsInitialState}
use Rattle.sem_mir.specs.Follow.{KindFits, StaysVolatile, MarkFits, InOrder, OnRow, GoesTo, Shape, IsEnd, SameEnd, KindsEndAlike}
use Rattle.sem_mir.specs.Follow.{EndIsKept, EndComesFrom}
use Rattle.sem_mir.specs.State.{State, content}
use Rattle.sem_mir.proofs.Edges.{step_edge}
use Rattle.sem_simulation.specs.Added.{IsNeverBack}
use Rattle.sem_simulation.proofs.Laid.{falls_down}
use Rattle.spill_code.specs.declared.spilling.SlotAssignment.{SlotAssignment}
use Rattle.spill_code.specs.declared.spilling.Spilling.{Spilling}
use Rattle.spill_code.specs.Rewrite.{use_now, def_now, first_used, spilled_code, kind_items, spilled_items}
use Rattle.spill_code.specs.Rewrite.{spilled_place, spilled_block, entry_stores, spilled_blocks}
use Rattle.spill_simulation.specs.MaySpill.{AreHomes}
use Rattle.spill_simulation.specs.Follows.{MaySpill, SpilledFollows}
use Rattle.spill_simulation.proofs.Apart.{main_piece}
use Rattle.spill_simulation.proofs.Paths.{Lies, in_entry, in_item, lies_at, to_g}
use Rattle.spill_simulation.proofs.Rows.{renamed_row}
use Rattle.spill_simulation.proofs.Running.{spilled_runs}
use Rattle.spill_simulation.proofs.Shape.{goes_renamed, order_items, order_entry, each_block, each_item}
use Rattle.spill_simulation.proofs.Shape.{each_entry, volatile_item, kinds_item, marks_item, renames, spilled_among, first_same}
use Rattle.spill_simulation.proofs.ShapeOf.{stores_new, Part, is_load, is_main, is_store, part_of}
use Rattle.spill_simulation.proofs.Views.{IsGood}

-- what holds of all, one beside the other
both_all : {A : Type 0} (P Q : A → Type 0) (xs : List A) → All P xs → All Q xs → All (λ x. P x × Q x) xs
both_all P Q xs p q k d lt = (p k d lt, q k d lt)

ids_same : (s : Spilling) (entry : List SlotAssignment) (bs : List Block) → ids_of (spilled_blocks s entry bs) ≡ ids_of bs
ids_same s entry [] = refl
ids_same s entry (b ∷ bs) = ap (λ (ns : List ℕ). b.id ∷ ns) (others bs) where
  others : (cs : List Block) → ids_of (map (spilled_block s) cs) ≡ ids_of cs
  others [] = refl
  others (c ∷ cs) = ap (λ (ns : List ℕ). c.id ∷ ns) (others cs)

length_same : (s : Spilling) (entry : List SlotAssignment) (bs : List Block) → length (spilled_blocks s entry bs) ≡ length bs
length_same s entry [] = refl
length_same s entry (b ∷ bs) = let e = length-map bs (spilled_block s) in omega (arith, e)

same_end : (u d : ℕ → ℕ) (r q : Row) → SameEnd r q → SameEnd r (renamed_row u d q)
same_end u d (Branches op a b t) (Branches op' a' b' t') h = h
same_end u d (Jumps t) (Jumps t') h = h
same_end u d (Returns v) (Returns w) h = tt
same_end u d _ _ h = absurd h

end_renamed : (u d : ℕ → ℕ) (r : Row) → IsEnd (renamed_row u d r) → IsEnd r
end_renamed u d (Branches op a b t) h = tt
end_renamed u d (Jumps t) h = tt
end_renamed u d (Returns v) h = tt
end_renamed u d _ h = h

first_index : (bs : List Block) → LastCloses bs → index_of bs (first_of bs) ≡ 0
first_index [] h = absurd h
first_index (b ∷ bs) h = ap (λ (t : Bool). cond t 0 (suc (index_of bs b.id))) (eq-eqb b.id b.id refl)

module _ (objects : List Object) (src : List Block) (f : Function) (subs fsubs : OperandPair → Option OperandPair) (s : Spilling) (entry : List SlotAssignment)
    (sound : IsSound f)
    (may : MaySpill s entry f fsubs) (shape : Shape src f.blocks (program_of true src subs) (program_of false f.blocks fsubs)) where
  abbrev srcp : Program
  srcp = program_of true src subs

  abbrev fp : Program
  fp = program_of false f.blocks fsubs

  abbrev gp : Program
  gp = program_of false (spilled_blocks s entry f.blocks) fsubs

  abbrev new : List Block
  new = spilled_blocks s entry f.blocks

  abbrev homes : AreHomes s f.slots
  homes = may.homes

  goods : All (λ (b : Block). All (IsGood s f.slots homes entry f.blocks fsubs srcp b) b.items) f.blocks
  goods k d lt j e within = record {
    fits = may.fits k d lt j e within;
    held = sound.slots k d lt j e within;
    kind = shape.items k d lt j e within;
    inside = sound.origins k d lt j e within;
  }

  order_new : All (λ (b : Block). InOrder b.id 0 b.items) new
  order_new =
      each_block s f.slots homes entry f.blocks fsubs srcp
      (λ b. All (IsGood s f.slots homes entry f.blocks fsubs srcp b) b.items × InOrder b.id 0 b.items) (λ b. InOrder b.id 0 b.items)
      (λ b h. order_items s f.slots homes entry f.blocks fsubs srcp b b.id 0 b.items h.0 (0, refl) h.1)
      (λ b h. order_entry s f.slots homes entry f.blocks fsubs srcp b.id entry (spilled_items s b.items)
      (order_items s f.slots homes entry f.blocks fsubs srcp b b.id 0 b.items h.0 (0, refl) h.1)) f.blocks
      (both_all (λ (b : Block). All (IsGood s f.slots homes entry f.blocks fsubs srcp b) b.items) (λ (b : Block). InOrder b.id 0 b.items) f.blocks goods
      shape.order)

  kinds_new : All (λ (b : Block). All (λ (i : Item). KindFits srcp i.kind b.source_end i.origin) b.items) new
  kinds_new =
      each_block s f.slots homes entry f.blocks fsubs srcp (λ b. All (IsGood s f.slots homes entry f.blocks fsubs srcp b) b.items)
      (λ b. All (λ (i : Item). KindFits srcp i.kind b.source_end i.origin) b.items) (λ b h. items_of b h)
      (λ b h. All-append (λ (i : Item). KindFits srcp i.kind b.source_end i.origin) (entry_stores b.id entry) (spilled_items s b.items)
      (each_entry s f.slots homes entry f.blocks fsubs srcp (λ i. KindFits srcp i.kind b.source_end i.origin) b.id entry (λ h. tt)) (items_of b h)) f.blocks
      goods where
        items_of : (b : Block) → All (IsGood s f.slots homes entry f.blocks fsubs srcp b) b.items →
            All (λ (i : Item). KindFits srcp i.kind b.source_end i.origin) (spilled_items s b.items)
        items_of b h =
            each_item s f.slots homes entry f.blocks fsubs srcp (IsGood s f.slots homes entry f.blocks fsubs srcp b)
            (λ i. KindFits srcp i.kind b.source_end i.origin) (λ x good. kinds_item s f.slots homes entry f.blocks fsubs srcp b x good) b.items h

  marks_new : All (λ (b : Block). All (λ (i : Item). MarkFits i.kind i.origin) b.items) new
  marks_new =
      each_block s f.slots homes entry f.blocks fsubs srcp (λ b. All (λ (i : Item). MarkFits i.kind i.origin) b.items)
      (λ b. All (λ (i : Item). MarkFits i.kind i.origin) b.items) (λ b h. items_of b h)
      (λ b h. All-append (λ (i : Item). MarkFits i.kind i.origin) (entry_stores b.id entry) (spilled_items s b.items)
      (each_entry s f.slots homes entry f.blocks fsubs srcp (λ i. MarkFits i.kind i.origin) b.id entry (λ h. tt)) (items_of b h)) f.blocks shape.marks where
        items_of : (b : Block) → All (λ (i : Item). MarkFits i.kind i.origin) b.items → All (λ (i : Item). MarkFits i.kind i.origin) (spilled_items s b.items)
        items_of b h =
            each_item s f.slots homes entry f.blocks fsubs srcp (λ i. MarkFits i.kind i.origin) (λ i. MarkFits i.kind i.origin)
            (λ x h. marks_item s f.slots homes entry f.blocks fsubs srcp x h) b.items h

  volatile_new : All (λ (b : Block). All (λ (i : Item). StaysVolatile srcp i.kind i.origin) b.items) new
  volatile_new =
      each_block s f.slots homes entry f.blocks fsubs srcp (λ b. All (λ (i : Item). StaysVolatile srcp i.kind i.origin) b.items)
      (λ b. All (λ (i : Item). StaysVolatile srcp i.kind i.origin) b.items) (λ b h. items_of b h)
      (λ b h. All-append (λ (i : Item). StaysVolatile srcp i.kind i.origin) (entry_stores b.id entry) (spilled_items s b.items)
      (each_entry s f.slots homes entry f.blocks fsubs srcp (λ i. StaysVolatile srcp i.kind i.origin) b.id entry (λ h. tt)) (items_of b h)) f.blocks
      shape.volatile where
        items_of : (b : Block) → All (λ (i : Item). StaysVolatile srcp i.kind i.origin) b.items →
            All (λ (i : Item). StaysVolatile srcp i.kind i.origin) (spilled_items s b.items)
        items_of b h =
            each_item s f.slots homes entry f.blocks fsubs srcp (λ i. StaysVolatile srcp i.kind i.origin) (λ i. StaysVolatile srcp i.kind i.origin)
            (λ x h. volatile_item s f.slots homes entry f.blocks fsubs srcp x h) b.items h

  apart_new : AreApart (ids_of new)
  apart_new = subst AreApart (sym (ids_same s entry f.blocks)) sound.blocks_apart

  -- code of the function stands in the result, with its origin
  pub kept_main : (p : Pos) (i : Item) (ins : Instruction) (num : Option ℕ) → i.kind ≡ Code ins num → fp.fetch p ≡ Here i →
      (q : Pos) × (gp.fetch q ≡ Here (record { kind = Code (spilled_code s ins) num; origin = i.origin; loc = i.loc }))
  kept_main p i ins num is at =
      let at' = at ∙ ap (λ (k : ItemKind). Here (record { kind = k; origin = i.origin; loc = i.loc })) is in
      let w = to_g s entry f.blocks fsubs p (record { kind = Code ins num; origin = i.origin; loc = i.loc })
      (record { kind = Code (spilled_code s ins) num; origin = i.origin; loc = i.loc }) _ at' (main_piece s f.slots homes ins num i.origin i.loc) in
      (w.0, w.2)

  row_is : (ins : Instruction) → row_of (spilled_code s ins) ≡ renamed_row (use_now s (first_used s.homes ins.operands)) (def_now s) (row_of ins)
  row_is ins = renames s f.slots homes entry f.blocks fsubs srcp ins

  shape_new : Shape src new srcp gp
  shape_new = record {
    among = spilled_among s f.slots homes entry f.blocks fsubs srcp shape.among;
    first = first_same s f.slots homes entry f.blocks fsubs srcp f.blocks ∙ shape.first;
    back = λ q leads edge. (let w = shape.back q leads edge in by_kind w.0 w.1 w.1.kind refl w.2 w.3);
    order = order_new;
    items = kinds_new;
    volatile = volatile_new;
    stores = stores_new s f.slots homes entry f.blocks fsubs srcp goods sound.targets sound.blocks_apart apart_new order_new src shape may.stored may.lives;
    marks = marks_new;
  } where
    by_kind : (p : Pos) (i : Item) (k : ItemKind) → i.kind ≡ k → fp.fetch p ≡ Here i → OnRow (GoesTo (first_of src)) k →
        (q : Pos) × (j : Item) × (gp.fetch q ≡ Here j) × OnRow (GoesTo (first_of src)) j.kind
    by_kind p i (Code ins num) is at goes =
        let w = kept_main p i ins num is at in (
          w.0,
          record { kind = Code (spilled_code s ins) num; origin = i.origin; loc = i.loc },
          w.1,
          subst (GoesTo (first_of src)) (sym (row_is ins)) (goes_renamed (use_now s (first_used s.homes ins.operands)) (def_now s) (row_of ins) (first_of src)
              goes),
        )
    by_kind p i (Mark v m) is at goes = absurd goes
    by_kind p i (Phi a n) is at goes = absurd goes

  -- ---- runs

  goes_first : (r : Row) (p : Pos) (n : ℕ) → RowEdge (λ n. n) r p (block_start n) → GoesTo n r
  goes_first r p n = by_row r where
    same_block : (t : ℕ) → block_start n ≡ block_start t → t ≡ n
    same_block t e = sym (ap (λ (q : Pos). q.block) e)

    never : {P : Type 0} → block_start n ≡ below p → P
    never e = let k : 0 ≡ p.item + 1 = ap (λ (q : Pos). q.item) e in absurd (omega (arith, k))

    by_row : (r : Row) → RowEdge (λ n. n) r p (block_start n) → GoesTo n r
    by_row (Branches op a b t) (inl e) = same_block t e
    by_row (Branches op a b t) (inr e) = never e
    by_row (Jumps t) e = same_block t e
    by_row (Returns v) e = absurd e
    by_row Unfit e = absurd e
    by_row _ e = never e

  -- where a store stands at the start, nothing leads there
  none_leads : ((p : Pos) (i : Item) → fp.fetch p ≡ Here i → OnRow (GoesTo (first_of f.blocks)) i.kind → ⊥) → (p : Pos) →
      Edge fp p (block_start (first_of f.blocks)) → ⊥
  none_leads none p edge = by_fetch (fp.fetch p) refl edge where
    never : (k : ℕ) → k ≡ p.item + 1 → k ≡ 0 → ⊥
    never k a b = omega (arith, a, b)

    by_kind : (i : Item) (k : ItemKind) → i.kind ≡ k → fp.fetch p ≡ Here i → KindEdge (λ n. n) k p (block_start (first_of f.blocks)) → ⊥
    by_kind i (Code ins num) is at e =
        none p i at (subst (OnRow (GoesTo (first_of f.blocks))) (sym is) (goes_first (row_of ins) p (first_of f.blocks) e))
    by_kind i (Mark v m) is at e = never 0 (ap (λ (q : Pos). q.item) e) refl
    by_kind i (Phi a m) is at e = never 0 (ap (λ (q : Pos). q.item) e) refl

    by_fetch : (x : Fetch) → fp.fetch p ≡ x → FetchEdge (λ n. n) x p (block_start (first_of f.blocks)) → ⊥
    by_fetch (Here i) at e = by_kind i i.kind refl at e
    by_fetch (EndOfBlock k m) at e =
        let down = falls_down false f.blocks fsubs sound.blocks_apart p k m at in
        let same : m ≡ first_of f.blocks = sym (ap (λ (q : Pos). q.block) e) in
        let zero_index : index_of f.blocks m ≡ 0 = ap (index_of f.blocks) same ∙ first_index f.blocks sound.last in
        omega (arith, down, zero_index)
    by_fetch Outside at e = absurd e

  free : (entry ≡ []) ⊎ ((p : Pos) → Edge fp p (block_start (first_of f.blocks)) → ⊥)
  free = elim may.once as (λ _. (entry ≡ []) ⊎ ((p : Pos) → Edge fp p (block_start (first_of f.blocks)) → ⊥)) [
    | inl e ↦ inl e
    | inr none ↦ inr (none_leads none)
  ]

  never_back : (s0 : State) → s0.pos ≡ block_start (first_of src) → (entry ≡ []) ⊎ IsNeverBack srcp (λ p. Leads srcp s0.pos p) s0.pos
  never_back s0 start = elim may.once as (λ _. (entry ≡ []) ⊎ IsNeverBack srcp (λ p. Leads srcp s0.pos p) s0.pos) [
    | inl e ↦ inl e
    | inr none ↦ inr (λ st u reach went home.
        (let edge : Edge srcp st.pos (block_start (first_of src)) = subst (Edge srcp st.pos) (home ∙ start) (step_edge srcp st u went) in
        let w = shape.back st.pos (subst (λ (p : Pos). Leads srcp p st.pos) start reach) edge in
        none w.0 w.1 w.2 (subst (λ (n : ℕ). OnRow (GoesTo n) w.1.kind) (sym shape.first) w.3)))
  ]

  runs_new : (count : Count) → ((k : ItemKind) → moves_on count k ≡ is_jump k) →
      ((s0 : State) → IsInitialState objects (first_of src) s0 → RunsMatch srcp fp (sync_point_at count fp) (AnyOrigin (sync_point_at count fp)) s0 s0) →
      (s0 : State) → IsInitialState objects (first_of src) s0 → RunsMatch srcp gp (sync_point_at count gp) (AnyOrigin (sync_point_at count gp)) s0 s0
  runs_new count counts runs s0 start = by_blocks f.blocks refl sound.last where
    at : s0.pos ≡ block_start (first_of f.blocks)
    at = start.pos ∙ ap block_start (sym shape.first)

    written : (r : ℕ) → r < 32 → IsSome (content s0.core.regs r)
    written r lt = subst IsSome (sym (start.regs r lt).1) refl

    by_blocks : (bs : List Block) → f.blocks ≡ bs → LastCloses bs → RunsMatch srcp gp (sync_point_at count gp) (AnyOrigin (sync_point_at count gp)) s0 s0
    by_blocks [] e closes = absurd closes
    by_blocks (b ∷ more) e closes =
        spilled_runs s f.slots homes entry f.blocks fsubs count counts srcp s0 goods shape.order at (never_back s0 start.pos) free start.slots written
        start.virtual may.all may.stored may.real b more e (runs s0 start)

  -- ---- ends of blocks

  kept_new : ((p : Pos) (i : Item) → srcp.fetch p ≡ Here i → OnRow IsEnd i.kind → EndIsKept fp p i) → (p : Pos) (i : Item) → srcp.fetch p ≡ Here i →
      OnRow IsEnd i.kind → EndIsKept gp p i
  kept_new kept p i at end = let w = kept p i at end in by_kind w.0 w.1 w.1.kind refl w.2 w.3 w.4 where
    by_source : (k : ItemKind) (ins : Instruction) (num : Option ℕ) → KindsEndAlike k (Code ins num) → KindsEndAlike k (Code (spilled_code s ins) num)
    by_source (Code c m) ins num h =
        subst (SameEnd (row_of c)) (sym (row_is ins)) (same_end (use_now s (first_used s.homes ins.operands)) (def_now s) (row_of c) (row_of ins) h)
    by_source (Mark v m) ins num h = absurd h
    by_source (Phi a m) ins num h = absurd h

    not_mark : (k : ItemKind) (P : Type 0) → (v : VarId) (m : MarkValue) → KindsEndAlike k (Mark v m) → P
    not_mark (Code c n) P v m h = absurd h
    not_mark (Mark a n) P v m h = absurd h
    not_mark (Phi a n) P v m h = absurd h

    not_phi : (k : ItemKind) (P : Type 0) → (v : Option Place) (m : ℕ) → KindsEndAlike k (Phi v m) → P
    not_phi (Code c n) P v m h = absurd h
    not_phi (Mark a n) P v m h = absurd h
    not_phi (Phi a n) P v m h = absurd h

    by_kind : (q : Pos) (j : Item) (k : ItemKind) → j.kind ≡ k → fp.fetch q ≡ Here j → j.origin ≡ Kept p → KindsEndAlike i.kind j.kind → EndIsKept gp p i
    by_kind q j (Code ins num) is at' origin alike =
        let w = kept_main q j ins num is at' in (
          w.0,
          record { kind = Code (spilled_code s ins) num; origin = j.origin; loc = j.loc },
          w.1,
          origin,
          by_source i.kind ins num (subst (KindsEndAlike i.kind) is alike),
        )
    by_kind q j (Mark v m) is at' origin alike = not_mark i.kind (EndIsKept gp p i) v m (subst (KindsEndAlike i.kind) is alike)
    by_kind q j (Phi a n) is at' origin alike = not_phi i.kind (EndIsKept gp p i) a n (subst (KindsEndAlike i.kind) is alike)

  only_new : ((q : Pos) (j : Item) → fp.fetch q ≡ Here j → OnRow IsEnd j.kind → EndComesFrom srcp j) → (q : Pos) (j : Item) → gp.fetch q ≡ Here j →
      OnRow IsEnd j.kind → EndComesFrom srcp j
  only_new only q j at end = by_place (lies_at s entry f.blocks fsubs q j at) where
    store_ends : (n : ℕ) (hs : List SlotAssignment) (y : Item) → Contains (entry_stores n hs) y → OnRow IsEnd y.kind → ⊥
    store_ends n [] y (k, lt, e) h = omega (arith, lt)
    store_ends n (a ∷ hs) y (zero, lt, e) h = subst (λ (z : Item). OnRow IsEnd z.kind) (sym e) h
    store_ends n (a ∷ hs) y (suc k, lt, e) h = store_ends n hs y (k, omega (arith, lt), e) h

    by_source : (ins : Instruction) (num : Option ℕ) (o : Origin) (l : Loc) → EndComesFrom srcp (record { kind = Code ins num; origin = o; loc = l }) →
        EndComesFrom srcp (record { kind = Code (spilled_code s ins) num; origin = o; loc = l })
    by_source ins num o l (p, i, there_at, origin, alike) = (p, i, there_at, origin, by_kind i.kind alike) where
      by_kind : (k : ItemKind) → KindsEndAlike k (Code ins num) → KindsEndAlike k (Code (spilled_code s ins) num)
      by_kind (Code c m) h =
          subst (SameEnd (row_of c)) (sym (row_is ins)) (same_end (use_now s (first_used s.homes ins.operands)) (def_now s) (row_of c) (row_of ins) h)
      by_kind (Mark v m) h = absurd h
      by_kind (Phi a m) h = absurd h

    by_part : (w : Pos) (ins : Instruction) (num : Option ℕ) (o : Origin) (l : Loc) (k : ℕ) → fp.fetch w ≡ Here
        (record { kind = Code ins num; origin = o; loc = l }) →
        Part s f.slots homes entry f.blocks fsubs srcp goods sound.targets sound.blocks_apart apart_new order_new ins num o l k j → EndComesFrom srcp j
    by_part w ins num o l k e (is_load r n y) = absurd (subst (λ (z : Item). OnRow IsEnd z.kind) y end)
    by_part w ins num o l k e (is_store n some y) = absurd (subst (λ (z : Item). OnRow IsEnd z.kind) y end)
    by_part w ins num o l k e (is_main y first) =
        let ends : IsEnd (row_of ins) =
        end_renamed (use_now s (first_used s.homes ins.operands)) (def_now s) (row_of ins)
        (subst IsEnd (row_is ins) (subst (λ (z : Item). OnRow IsEnd z.kind) y end)) in
        subst (EndComesFrom srcp) (sym y) (by_source ins num o l (only w (record { kind = Code ins num; origin = o; loc = l }) e ends))

    by_kind : (w : Pos) (x : Item) (k : ℕ) (y : ItemKind) → x.kind ≡ y → fp.fetch w ≡ Here x → slice_get (kind_items s y x.origin x.loc) k ≡ Some j →
        EndComesFrom srcp j
    by_kind w x k (Code ins num) z e h =
        by_part w ins num x.origin x.loc k (e ∙ ap (λ (t : ItemKind). Here (record { kind = t; origin = x.origin; loc = x.loc })) z)
        (part_of s f.slots homes entry f.blocks fsubs srcp goods sound.targets sound.blocks_apart apart_new order_new ins num x.origin x.loc k j h)
    by_kind w x zero (Mark v m) z e h = let y : record { kind = Mark v m; origin = x.origin; loc = x.loc } ≡ j = cc in
        absurd (subst (λ (t : Item). OnRow IsEnd t.kind) (sym y) end)
    by_kind w x (suc k) (Mark v m) z e h = cc
    by_kind w x zero (Phi a m) z e h = let y : record { kind = Phi (spilled_place s.homes a) m; origin = x.origin; loc = x.loc } ≡ j = cc in
        absurd (subst (λ (t : Item). OnRow IsEnd t.kind) (sym y) end)
    by_kind w x (suc k) (Phi a m) z e h = cc

    by_place : Lies s entry f.blocks fsubs q j → EndComesFrom srcp j
    by_place (in_entry ys c rest at' first falls stands here) = absurd (store_ends q.block entry j stands end)
    by_place (in_item w x k same e h here) = by_kind w x k x.kind refl e h

pub spilled_follows : SpilledFollows
spilled_follows objects src f subs fsubs s entry sound may follows = (
  record {
    shape = shape_new objects src f subs fsubs s entry sound may follows.shape;
    runs = runs_new objects src f subs fsubs s entry sound may follows.shape ByItems (λ k. refl) follows.runs;
  },
  λ whole. record {
    blocks = length_same s entry f.blocks ∙ whole.blocks;
    kept = kept_new objects src f subs fsubs s entry sound may follows.shape whole.kept;
    only = only_new objects src f subs fsubs s entry sound may follows.shape whole.only;
    runs = runs_new objects src f subs fsubs s entry sound may follows.shape ByEnds (λ k. refl) whole.runs;
  },
)

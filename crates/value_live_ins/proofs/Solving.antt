-- From the flows of all blocks to what the solver asks of them.
use Rattle.std.proofs.Common.{◌≡◌, ℕ, zero, suc, ◌+◌, ◌<◌, ◌≤◌, List, [], ◌∷◌, ◌++◌, ◌⊎◌, drop, map, take, length, get_or, refl, sym, ap, ◌∙◌, subst, arith, inl, inr}
use Rattle.std.specs.Prelude.{Contains, All, IfOk, Result, Ok, Err, Option, Some, None, Bool, cond, nat_eq, slice_get}
use Rattle.std.specs.HashMap.{get}
use Rattle.std.specs.declared.alloc.AllocError.{AllocError}
use Rattle.std.proofs.lemmas.Bool.{eq-eqb, ne_eqb}
use Rattle.std.proofs.lemmas.Bool.Decides.{eqb_tells}
use Rattle.std.proofs.lemmas.List.{length-append, take_more}
use Rattle.std.proofs.lemmas.Option.{slice_get_within, slice_get-get_or, get_or_from_slice_get}
use Rattle.mir_func.specs.declared.block.Block.{Block}
use Rattle.mir_func.specs.declared.debug_substitution.DebugSubstitution.{DebugSubstitution}
use Rattle.mir_func.specs.declared.variable.VarId.{VarId}
use Rattle.mir_func.specs.declared.item.Item.{Item}
use Rattle.mir_func.specs.declared.debug_substitution.OperandPair.{OperandPair}
use Rattle.mir_func.specs.Graph.{Program, Fetch, Here, fetch_in, framed_program}
use Rattle.mir_func.specs.Resolve.{resolve}
use Rattle.mir_func.specs.Sound.{AllItems, EndsWell, HasForm}
use Rattle.mir_func.specs.SoundFrame.{body_of}
use Rattle.mir_func.specs.Successors.{ways}
use Rattle.sem_mir.proofs.Reading.{item_front}
use Rattle.sem_value_ids.specs.Pullback as path
use Rattle.value_proof.specs.Classes.{KnowsItem, pairs_of, known_past}
use Rattle.value_proof.specs.PreferredByClass.{AreEnoughFor, AreThingsOf, pairs_at, known_before}
use Rattle.value_proof.proofs.Pairs.{past_push}
use Rattle.value_solver.specs.declared.tracked.Tracked.{Tracked}
use Rattle.value_solver.specs.declared.entry.BlockEntry.{BlockEntry}
use Rattle.value_solver.specs.Entry.{thing, IsEntry}
use Rattle.value_solver.specs.declared.solve.Solved.{Solved}
use Rattle.value_solver.specs.declared.flow.Flow.{Flow}
use Rattle.value_solver.specs.Hands.{AreSoundFlows}
use Rattle.value_solver.specs.Flows.{AreFlows, IsStart}
use Rattle.value_tracker.specs.Things.{AreThings}
use Rattle.value_live_ins.specs.declared.changes.Tracking.{Tracking}
use Rattle.value_live_ins.specs.Gathering.{KnowsItems, KnowsBlocks}
use Rattle.value_live_ins.specs.steps.Flowing.{next_id, AreFlowsOf}
use Rattle.value_live_ins.specs.steps.Framing.{AreBlocks}
use Rattle.value_live_ins.specs.steps.Ways.{Indices, enter_by, FindsIds, IsFlowAt, FlowsBelow}
use Rattle.value_live_ins.proofs.Paths.{EndsQuietly}
use Rattle.value_live_ins.proofs.Quiet.{ends_quietly, onward_quietly}
use Rattle.value_live_ins.proofs.Blocks.{contains_map, fetched, past, flows_are}
use Rattle.value_live_ins.proofs.Framing.{all_at, enters, finds, ways_among, here_in}
use Rattle.value_live_ins.proofs.Gathering.{is_in, thing_in, push_cases}

map_same : (f h : ℕ → ℕ) (ns : List ℕ) → ((n : ℕ) → Contains ns n → f n ≡ h n) → map f ns ≡ map h ns
map_same f h [] same = refl
map_same f h (n ∷ ns) same =
    let rest = map_same f h ns (λ m (k, lt, e). same m (suc k, omega (arith, lt), e)) in
    let first = same n (zero, omega arith, refl) in
    λ i. first i ∷ rest i

some_item : (items : List Item) (k : ℕ) → k < length items → (item : Item) × (slice_get items k ≡ Some item)
some_item items k lt = by_get (slice_get items k) refl where
  by_get : (o : Option Item) → slice_get items k ≡ o → (item : Item) × (slice_get items k ≡ Some item)
  by_get (Some item) e = (item, e)
  by_get None e = absurd (let le = past items k e in omega (arith, le, lt))

-- what is known before an item is what is known past the items above it
known_in : (blocks : List Block) (resolve : OperandPair → Option OperandPair) (things : List path.Tracked) (b : ℕ) (block : Block) →
    slice_get blocks b ≡ Some block → (k : ℕ) → k ≤ length block.items →
    known_before (framed_program blocks resolve) things b k ≡ known_past things (take k block.items)
known_in blocks resolve things b block at zero le = refl
known_in blocks resolve things b block at (suc k) le =
    let lt : k < length block.items = omega (arith, le) in
    let item = some_item block.items k lt in
    let here : fetch_in (drop b blocks) k ≡ Here item.0 =
    fetched blocks b block at k ∙ item_front block.items k block.source_end (drop (suc b) blocks) item.0 item.1 in
    let next : suc k ≡ k + 1 = omega arith in
    let last : get_or block.items k item.0 ≡ item.0 = get_or_from_slice_get block.items k item.0 item.0 item.1 in
    let taken : take (suc k) block.items ≡ take k block.items ++ item.0 ∷ [] =
    ap (λ (n : ℕ). take n block.items) next ∙ (take_more block.items k item.0 lt ∙ ap (λ (z : Item). take k block.items ++ z ∷ []) last) in
    ap (λ (f : Fetch). pairs_at f ++ known_before (framed_program blocks resolve) things b k) here
    ∙ (ap (λ (zs : List path.Tracked). pairs_of item.0.kind ++ zs) (known_in blocks resolve things b block at k (omega (arith, le)))
    ∙ (sym (past_push things (take k block.items) item.0) ∙ sym (ap (known_past things) taken)))

-- the things are those of the program
pub things_are : (blocks : List Block) (subs : List DebugSubstitution) (variables : List VarId) (things : List Tracked) → AreThings variables things →
    AllItems (λ i. KnowsItem (map thing things) (resolve subs) i.kind) blocks →
    AreThingsOf (framed_program blocks (resolve subs)) (map thing things)
things_are blocks subs variables things are knows = record {
  zero = thing_in things _ (is_in things are.zero.0 _ are.zero.1);
  items = λ p item fetch.
      let (block, at, stands) = here_in blocks p.block p.item item fetch in
      all_at (λ (i : Item). KnowsItem (map thing things) (resolve subs) i.kind) block.items p.item item
      (all_at (λ (b : Block). All (λ (i : Item). KnowsItem (map thing things) (resolve subs) i.kind) b.items) blocks p.block block knows at)
      stands;
}

pub things_enough : (blocks : List Block) (subs : List DebugSubstitution) (variables : List VarId) (things : List Tracked) → AreThings variables things →
    KnowsBlocks (map thing things) (resolve subs) blocks →
    AreEnoughFor (framed_program blocks (resolve subs)) (map thing things)
things_enough blocks subs variables things are knows = record {
  zero = thing_in things _ (is_in things are.zero.0 _ are.zero.1);
  items = λ p item fetch.
      let (block, at, stands) = here_in blocks p.block p.item item fetch in
      let within = slice_get_within block.items p.item item stands in
      subst (λ (zs : List path.Tracked). KnowsItem zs (resolve subs) item.kind)
      (sym (known_in blocks (resolve subs) (map thing things) p.block block at p.item (omega (arith, within))))
      (all_at (λ (b : Block). KnowsItems (map thing things) (resolve subs) b.items) blocks p.block block knows at p.item item stands);
}

-- ---- what the code of calls tells

pub sound_same : (m n : ℕ) (new flows : List Flow) → m ≡ n → new ≡ flows → AreSoundFlows n flows → AreSoundFlows m new
sound_same m n new flows e f h =
    let a : AreSoundFlows m flows = subst (λ (k : ℕ). AreSoundFlows k flows) (sym e) h in
    subst (AreSoundFlows m) (sym f) a

pub entries_are : (result : Result Solved AllocError) (g : Program) (xs : List Tracked) (start : BlockEntry) (flows : List Flow) →
    IfOk result (λ s. (g : Program) (xs : List Tracked) → length xs ≡ length start.classes → AreFlows g xs flows → IsStart xs start →
    (b : ℕ) (e : BlockEntry) → slice_get s.entries b ≡ Some e → IsEntry g xs b e) →
    AreFlows g xs flows → IsStart xs start →
    IfOk result (λ s. (b : ℕ) (e : BlockEntry) → slice_get s.entries b ≡ Some e → IsEntry g xs b e)
entries_are (Ok s) g xs start flows exact of is = exact g xs (sym is.known.classes) of is
entries_are (Err e) g xs start flows exact of is = tt

pub flows_more : (t : Tracking) (indices : Indices) (blocks : List Block) (n : ℕ) (old new : List Flow) (f : Flow) → FlowsBelow t indices blocks n old →
    new ≡ old ++ f ∷ [] → IsFlowAt t indices blocks n f → FlowsBelow t indices blocks (n + 1) new
flows_more t indices blocks n old new f of is at = record {
  long = ap length is ∙ length-append old (f ∷ []) ∙ ap (λ (k : ℕ). k + 1) of.long;
  each = λ b h e. by_place b h (push_cases old f b h (ap (λ (z : List Flow). slice_get z b) (sym is) ∙ e));
} where
  by_place : (b : ℕ) (h : Flow) → ((slice_get old b ≡ Some h) ⊎ ((b ≡ length old) × (f ≡ h))) → IsFlowAt t indices blocks b h
  by_place b h (inl e) = of.each b h e
  by_place b h (inr e) =
      let place : n ≡ b = sym of.long ∙ sym e.0 in
      subst (λ (k : ℕ). IsFlowAt t indices blocks k h) place (subst (IsFlowAt t indices blocks n) e.1 at)

pub finds_more : (n : ℕ) (blocks : List Block) (old new : Indices) (item : Block) → FindsIds n blocks old → 1 ≤ n → n < length blocks →
    item ≡ get_or blocks n item →
    ((q : ℕ) → get nat_eq new q ≡ cond (nat_eq item.id q) (Some n) (get nat_eq old q)) → FindsIds (n + 1) blocks new
finds_more n blocks old new item of some less at updates = record { each = λ apart i b le lt e. by_place apart i b le lt e } where
  here : slice_get blocks n ≡ Some item
  here = slice_get-get_or blocks n item less ∙ ap (λ (w : Block). Some w) (sym at)

  by_place : ((i j : ℕ) (a b : Block) → 1 ≤ i → 1 ≤ j → slice_get blocks i ≡ Some a → slice_get blocks j ≡ Some b → a.id ≡ b.id → i ≡ j) →
      (i : ℕ) (b : Block) → 1 ≤ i → i < n + 1 → slice_get blocks i ≡ Some b → get nat_eq new b.id ≡ Some i
  by_place apart i b le lt e = elim (eqb_tells i n) [
    | inl k ↦
        let both : Some item ≡ Some b = sym here ∙ ap (slice_get blocks) (sym k.1) ∙ e in
        let same : item ≡ b = cc in
        updates b.id ∙ ap (λ (z : Bool). cond z (Some n) (get nat_eq old b.id)) (eq-eqb item.id b.id (ap (λ (z : Block). z.id) same))
        ∙ ap (λ (z : ℕ). Some z) (sym k.1)
    | inr k ↦
        let ne : item.id ≡ b.id → ⊥ = λ s. k.1 (sym (apart n i item b some le here e s)) in
        updates b.id ∙ ap (λ (z : Bool). cond z (Some n) (get nat_eq old b.id)) (ne_eqb item.id b.id ne)
        ∙ of.each apart i b le (let other = k.1 in omega (arith, lt, other)) e
  ]

module _ (blocks : List Block) (t : Tracking) (indices : Indices) (flows : List Flow) (are : AreBlocks blocks)
    (found : FindsIds (length blocks) blocks indices) (of : FlowsBelow t indices blocks (length blocks) flows) where
  abbrev g : Program
  g = framed_program blocks (resolve t.subs.now)

  ways_are : (b : ℕ) (block : Block) (f : Flow) → slice_get blocks b ≡ Some block → slice_get flows b ≡ Some f →
      f.ways ≡ map g.enter (ways block.items (next_id blocks b))
  ways_are b block f at here =
      (of.each b f here).ways block at
      ∙ map_same (enter_by indices) g.enter (ways block.items (next_id blocks b))
      (λ n h. finds blocks (resolve t.subs.now) are indices found n (ways_among blocks (resolve t.subs.now) are b block at n h))

  are_of : AreFlowsOf g blocks t.things.now flows
  are_of = record {
    long = of.long;
    each = λ b block f at here. record { tells = (of.each b f here).tells block at; ways = ways_are b block f at here };
  }

  block_at : (b : ℕ) (f : Flow) → slice_get flows b ≡ Some f → (block : Block) × (slice_get blocks b ≡ Some block)
  block_at b f here = by_block (slice_get blocks b) refl where
    by_block : (o : Option Block) → slice_get blocks b ≡ o → (block : Block) × (slice_get blocks b ≡ Some block)
    by_block (Some block) e = (block, e)
    by_block None e =
        let lt = slice_get_within flows b f here in
        let far = past blocks b e in
        absurd (omega (arith, lt, far, of.long))

  flow_at : (b : ℕ) (block : Block) → slice_get blocks b ≡ Some block → (f : Flow) × (slice_get flows b ≡ Some f)
  flow_at b block at = by_flow (slice_get flows b) refl where
    by_flow : (o : Option Flow) → slice_get flows b ≡ o → (f : Flow) × (slice_get flows b ≡ Some f)
    by_flow (Some f) e = (f, e)
    by_flow None e =
        let lt = slice_get_within blocks b block at in
        let far = past flows b e in
        absurd (omega (arith, lt, far, of.long))

  have_forms : (b : ℕ) (block : Block) → slice_get blocks b ≡ Some block → (k : ℕ) (i : Item) → slice_get block.items k ≡ Some i → HasForm i.kind
  have_forms b block at k i e =
      let (f, here) = flow_at b block at in
      all_at (λ (z : Item). HasForm z.kind) block.items k i ((of.each b f here).forms block at) e

  quiet : (b : ℕ) (block : Block) → slice_get blocks b ≡ Some block → EndsQuietly block.items
  quiet zero block at = onward_quietly block.items (are.prologue block at)
  quiet (suc b) block at = ends_quietly block.items (ends blocks are.ends at) (have_forms (suc b) block at) where
    ends : (bs : List Block) → All (λ z. EndsWell z.items) (body_of bs) → slice_get bs (suc b) ≡ Some block → EndsWell block.items
    ends [] h e = absurd cc
    ends (p ∷ bs) h e = all_at (λ (z : Block). EndsWell z.items) bs b block h e

  pub are_flows : AreEnoughFor g (map thing t.things.now) → AreFlows g t.things.now flows
  are_flows things = flows_are blocks (resolve t.subs.now) t.things.now flows things are_of quiet

  pub sound_flows : AreSoundFlows (length t.things.now) flows
  sound_flows b f here =
      let (block, at) = block_at b f here in (
        (of.each b f here).within,
        λ c h.
            let (n, among, is) = contains_map g.enter (ways block.items (next_id blocks b)) c
            (subst (λ (z : List ℕ). Contains z c) (ways_are b block f at here) h) in
            let less = enters blocks (resolve t.subs.now) are n (ways_among blocks (resolve t.subs.now) are b block at n among) in
            omega (arith, is, less, of.long),
      )

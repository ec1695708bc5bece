-- What followed a source loosely follows it loosely without its dead code.
use Rattle.std.proofs.Common.{◌≡◌, inl, inr, ℕ, zero, suc, ◌+◌, ◌*◌, List, [], ◌∷◌, map, drop, All, Contains, Option, Some, None, Bool, true, false}
use Rattle.std.proofs.Common.{cond, not, ◌&&◌, length, refl, sym, ap, ◌∙◌, subst, arith}
use Rattle.std.proofs.lemmas.Bool.{cases_eq}
use Rattle.std.proofs.lemmas.List.{length-map}
use Rattle.std.proofs.lemmas.List.Elements.{All-cons, All-nil, All-contains, All-head, All-tail, All-map, All-weaker}
use Rattle.std.proofs.lemmas.Option.{get_or_from_slice_get}
use Rattle.rv64_instr.specs.declared.place.Place.{Place}
use Rattle.rv64_instr.specs.Instruction.{is_volatile_load}
use Rattle.rv64_instr.specs.Row.{Row, Fixes, LoadsSlot, StoresSlot, Branches, Jumps, Returns, row_of}
use Rattle.mir_func.specs.declared.debug_substitution.OperandPair.{OperandPair}
use Rattle.mir_func.specs.declared.position.Pos.{Pos}
use Rattle.mir_func.specs.declared.position.Origin.{Origin}
use Rattle.mir_func.specs.declared.position.Origin.TheVariants.{Kept, Before}
use Rattle.mir_func.specs.declared.variable.VarId.{VarId}
use Rattle.mir_func.specs.declared.variable.MarkValue.TheVariants.{Nothing, At}
use Rattle.mir_func.specs.declared.block.Block.{Block}
use Rattle.mir_func.specs.declared.debug_substitution.DebugSubstitution.{DebugSubstitution}
use Rattle.mir_func.specs.declared.item.Item.{Item}
use Rattle.mir_func.specs.declared.item.ItemKind.{ItemKind}
use Rattle.mir_func.specs.declared.item.ItemKind.TheVariants.{Code, Mark, Phi}
use Rattle.mir_func.specs.Function.{Function}
use Rattle.mir_func.specs.Sound.{AllItems, IsSound, OriginIn, HasForm}
use Rattle.mir_func.specs.Graph.{Fetch, Here, EndOfBlock, Outside, Program, below, block_start, fetch_in, from_block, program_of, KindEdge, RowEdge, FetchEdge}
use Rattle.mir_func.specs.Graph.{rest_of}
use Rattle.mir_func.specs.Resolve.{resolve}
use Rattle.mir_func.specs.Successors.{pos_in}
use Rattle.sem_mir.specs.State.{State}
use Rattle.sem_mir.specs.Step.{Faulted, moved, do_fetch}
use Rattle.sem_mir.specs.Align.{is_jump, is_jump_row, waits_at, moves_on, Count, ByItems, ByEnds, sync_point_at, Arrives, here, onward, AnyOrigin, RunsMatch}
use Rattle.sem_mir.specs.Align.{After, since_of}
use Rattle.sem_mir.specs.Follow.{MayAdd, KindFits, StaysVolatile, MarkFits, InOrder, next_rank, Among, none}
use Rattle.sem_mir.specs.InitialState.{first_of, IsInitialState}
use Rattle.sem_mir.specs.Follow.{same, left, OnRow, GoesTo, SameEnd, ItemHasClass}
use Rattle.sem_mir.specs.Follow.{IsEnd, KindsEndAlike, EndIsKept, EndComesFrom, IsRead}
use Rattle.sem_mir.proofs.Edges.{step_edge}
use Rattle.sem_mir.proofs.Reading.{found, found_in, front_item, front_end, end_index, within_list}
use Rattle.sem_simulation.specs.Refinement.{FaultsAt}
use Rattle.sem_simulation.specs.MatchStates.{Laid}
use Rattle.sem_simulation.specs.InPlace.{IsIdleAt}
use Rattle.sem_simulation.proofs.Ahead.{idles_ahead, bare_return}
use Rattle.sem_simulation.proofs.Order.{rank_next}
use Rattle.sem_simulation.proofs.Written.{HasPhysicalResults, has_physical_results}
use Rattle.sem_simulation.proofs.Laid.{laid_out}
use Rattle.pass_edits.proofs.sem_agreement.Held.{held_itself}
use Rattle.pass_edits.proofs.sem_agreement.Told.{tells_itself}
use Rattle.pass_trait.specs.Change.{change}
use Rattle.pass_trait.specs.Simulation.{Source}
use Rattle.pass_trait.proofs.NopFollows.{order_less}
use Rattle.dce_rule.specs.Dead.{Places, Ends, is_dead_row, is_dead, needed_at}
use Rattle.dce_rule.specs.Wrong.{silenced, silenced_left, taken_out, IsWrongAt, IsClosed}
use Rattle.pass_edits.specs.WeakSimulation.{LooseShape, PreservesWeakSimulation}
use Rattle.dce_rule.proofs.Lists.{quiet, quiet_is, taken, rest_at, item_from, item_to, end_from}
use Rattle.dce_rule.proofs.Runs.{inside, all_at, Right, left_at, GoesAlong, dead_runs}

-- ---- lists

-- what holds of all items holds of what stands somewhere
pub at_item : (P : Item → Type 0) (sp : Bool) (blocks : List Block) (resolve : OperandPair → Option OperandPair) → AllItems P blocks →
    (p : Pos) (i : Item) → (program_of sp blocks resolve).fetch p ≡ Here i → P i
at_item P sp blocks resolve all p i e = by_blocks (from_block blocks p.block) refl e where
  by_blocks : (bs : List Block) → from_block blocks p.block ≡ bs → fetch_in bs p.item ≡ Here i → P i
  by_blocks [] h e = cc
  by_blocks (b ∷ bs) h e =
      let at = front_item b.items p.item b.source_end bs i e in
      subst P (get_or_from_slice_get b.items p.item i i at)
      (All-contains (λ (b : Block). All P b.items) blocks b all (found_in blocks p.block b bs h).0 p.item i (within_list b.items p.item i at))

order_drop : (b n k : ℕ) (xs : List Item) → InOrder b n xs → (m : ℕ) × InOrder b m (drop k xs)
order_drop b n zero [] o = (n, o)
order_drop b n (suc k) [] o = (n, o)
order_drop b n zero (x ∷ xs) o = (n, o)
order_drop b n (suc k) (x ∷ xs) o = order_drop b (next_rank x.origin) k xs o.2

module _ (wrong : ℕ → Places) (needed : Places) where
  -- what is left is in order still
  pub order_left : (b n k : ℕ) (xs : List Item) → InOrder b n xs → InOrder b n (silenced_left wrong k xs needed)
  order_left b n k [] o = tt
  order_left b n k (x ∷ xs) o = by_test (is_dead x.kind (needed_at xs needed)) (order_left b (next_rank x.origin) (suc k) xs o.2) where
    by_test : (z : Bool) → InOrder b (next_rank x.origin) (silenced_left wrong (suc k) xs needed) →
        InOrder b n (cond z (silenced_left wrong (suc k) xs needed) (quiet (wrong k) x ∷ silenced_left wrong (suc k) xs needed))
    by_test true h = order_less b n (next_rank x.origin) (silenced_left wrong (suc k) xs needed) (rank_next x.origin n o.1) h
    by_test false h = (o.0, o.1, h)

  -- what holds of each item, silenced perhaps, holds of what is left
  pub all_left : (P Q : Item → Type 0) → ((w : Places) (x : Item) → P x → Q (quiet w x)) → (k : ℕ) (xs : List Item) → All P xs →
      All Q (silenced_left wrong k xs needed)
  all_left P Q f k [] h = All-nil Q
  all_left P Q f k (x ∷ xs) h = by_test (is_dead x.kind (needed_at xs needed)) (all_left P Q f (suc k) xs (All-tail P x xs h)) where
    by_test : (z : Bool) → All Q (silenced_left wrong (suc k) xs needed) →
        All Q (cond z (silenced_left wrong (suc k) xs needed) (quiet (wrong k) x ∷ silenced_left wrong (suc k) xs needed))
    by_test true r = r
    by_test false r = All-cons Q (quiet (wrong k) x) (silenced_left wrong (suc k) xs needed) (f (wrong k) x (All-head P x xs h)) r

module _ (wrong : Pos → Places) (ends : Ends) where
  pub among_taken : {bs src : List Block} → Among bs src → Among (map (taken wrong ends) bs) src
  among_taken none = none
  among_taken (same e s rest) = same e s (among_taken rest)
  among_taken (left rest) = left (among_taken rest)

  pub first_taken : (bs : List Block) → first_of (map (taken wrong ends) bs) ≡ first_of bs
  first_taken [] = refl
  first_taken (b ∷ bs) = refl

  -- for each item of each block that is left
  pub each_left : (P Q : Block → Item → Type 0) → ((b : Block) (w : Places) (x : Item) → P b x → Q (taken wrong ends b) (quiet w x)) → (bs : List Block) →
      All (λ (b : Block). All (P b) b.items) bs → All (λ (b : Block). All (Q b) b.items) (map (taken wrong ends) bs)
  each_left P Q f bs h =
      All-map (λ (b : Block). All (Q b) b.items) (taken wrong ends) bs
      (All-weaker (λ (b : Block). All (P b) b.items)
      (λ (b : Block). All (Q (taken wrong ends b)) (silenced_left (λ n. wrong (pos_in b.id n)) 0 b.items (ends b.id)))
      (λ b k. all_left (λ n. wrong (pos_in b.id n)) (ends b.id) (P b) (Q (taken wrong ends b)) (f b) 0 b.items k) bs h)

-- ---- items that are silenced

fits_quiet : (srcp : Program) (w : Places) (k : ItemKind) (s : ℕ) (o : Origin) → KindFits srcp k s o → KindFits srcp (silenced w k) s o
fits_quiet srcp w k s o h = quiet_is (λ z. KindFits srcp z s o) w k h (λ v r e. tt) (λ x n e. tt)

volatile_quiet : (srcp : Program) (w : Places) (k : ItemKind) (o : Origin) → StaysVolatile srcp k o → StaysVolatile srcp (silenced w k) o
volatile_quiet srcp w k o h = quiet_is (λ z. StaysVolatile srcp z o) w k h (λ v r e. tt) (λ x n e. tt)

marks_quiet : (w : Places) (k : ItemKind) (o : Origin) → MarkFits k o → MarkFits (silenced w k) o
marks_quiet w k o h = quiet_is (λ z. MarkFits z o) w k h (λ v r e. tt) (λ x n e. tt)

row_quiet : (P : Row → Type 0) (w : Places) (k : ItemKind) → OnRow P k → OnRow P (silenced w k)
row_quiet P w k h = quiet_is (OnRow P) w k h (λ v r e. absurd (subst (OnRow P) e h)) (λ x n e. absurd (subst (OnRow P) e h))

row_loud : (P : Row → Type 0) (w : Places) (k : ItemKind) → OnRow P (silenced w k) → OnRow P k
row_loud P w k = quiet_is (λ z. OnRow P z → OnRow P k) w k (λ h. h) (λ v r e h. absurd h) (λ x n e h. absurd h)

end_quiet : (i : ItemKind) (w : Places) (k : ItemKind) → KindsEndAlike i k → KindsEndAlike i (silenced w k)
end_quiet i w k h = quiet_is (KindsEndAlike i) w k h (λ v r e. no_mark i v r (subst (KindsEndAlike i) e h)) (λ x n e. no_phi i x n (subst
    (KindsEndAlike i) e h)) where
      no_mark : (i : ItemKind) (v : VarId) (r : ℕ) → KindsEndAlike i (Mark v (At r)) → KindsEndAlike i (Mark v Nothing)
      no_mark (Code c n) v r h = absurd h
      no_mark (Mark w m) v r h = absurd h
      no_mark (Phi q n) v r h = absurd h

      no_phi : (i : ItemKind) (x : Place) (n : ℕ) → KindsEndAlike i (Phi (Some x) n) → KindsEndAlike i (Phi None n)
      no_phi (Code c m) x n h = absurd h
      no_phi (Mark w m) x n h = absurd h
      no_phi (Phi q m) x n h = absurd h

-- ---- what isn't dead

going_stays : (k : ItemKind) (n : ℕ) (needed : Places) → OnRow (GoesTo n) k → is_dead k needed ≡ false
going_stays (Code i m) n needed h = by_row (row_of i) h where
  by_row : (r : Row) → GoesTo n r → (is_dead_row r needed && not (is_volatile_load i)) ≡ false
  by_row (Branches op a b t) h = refl
  by_row (Jumps t) h = refl
  by_row _ h = absurd h
going_stays (Mark v m) n needed h = absurd h
going_stays (Phi p m) n needed h = absurd h

end_stays : (k l : ItemKind) (needed : Places) → KindsEndAlike k l → is_dead l needed ≡ false
end_stays (Code i n) (Code j m) needed h = by_rows (row_of i) (row_of j) h where
  by_rows : (r s : Row) → SameEnd r s → (is_dead_row s needed && not (is_volatile_load j)) ≡ false
  by_rows (Branches op a b t) (Branches op' a' b' t') h = refl
  by_rows (Jumps t) (Jumps t') h = refl
  by_rows (Returns v) (Returns w) h = refl
  by_rows _ _ h = absurd h
end_stays (Code i n) (Mark v m) needed h = absurd h
end_stays (Code i n) (Phi p m) needed h = absurd h
end_stays (Mark v m) l needed h = absurd h
end_stays (Phi p m) l needed h = absurd h

-- ---- where code goes elsewhere, and where the source stops

-- added code that goes to a block is a jump
added_goes : (r : Row) (item source_end : ℕ) (p : Pos) (n : ℕ) → MayAdd r item source_end → RowEdge (λ m. m) r p (block_start n) → is_jump_row r ≡ true
added_goes (Fixes rd m) item source_end p n may e = let z : 0 ≡ p.item + 1 = ap (λ (q : Pos). q.item) e in absurd (omega (arith, z))
added_goes (LoadsSlot rd m) item source_end p n may e = let z : 0 ≡ p.item + 1 = ap (λ (q : Pos). q.item) e in absurd (omega (arith, z))
added_goes (StoresSlot rs m) item source_end p n may e = let z : 0 ≡ p.item + 1 = ap (λ (q : Pos). q.item) e in absurd (omega (arith, z))
added_goes (Jumps t) item source_end p n may e = refl
added_goes _ item source_end p n may e = absurd may

-- so an item goes elsewhere only where the source moves on after it
moves_after : (ct : Count) (srcp : Program) (k : ItemKind) (o : Origin) (source_end : ℕ) (p : Pos) (n : ℕ) → moves_on ct k ≡ is_jump k →
    KindFits srcp k source_end o → KindEdge (λ m. m) k p (block_start n) → since_of (waits_at (moves_on ct k) o) ≡ After
moves_after ct srcp k (Kept q) source_end p n counts fits e = refl
moves_after ct srcp (Code i m) (Before q) source_end p n counts fits e =
    ap (λ (z : Bool). since_of (waits_at z (Before q))) (counts ∙ added_goes (row_of i) q.item source_end p n fits e)
moves_after ct srcp (Mark v m) (Before q) source_end p n counts fits e = let z : 0 ≡ p.item + 1 = ap (λ (r : Pos). r.item) e in absurd (omega (arith, z))
moves_after ct srcp (Phi l m) (Before q) source_end p n counts fits e = let z : 0 ≡ p.item + 1 = ap (λ (r : Pos). r.item) e in absurd (omega (arith, z))

arrives_at : (g : Program) (Stops : Pos → Type 0) (p : Pos) {s t : State} → Arrives g Stops p s t → t.pos ≡ p
arrives_at g Stops p (here e) = e
arrives_at g Stops p (onward free go rest) = arrives_at g Stops p rest

-- a run doesn't stop on a frame fault where no item stands
never_faults : (g : Program) (s0 : State) (p : Pos) → ((i : Item) → g.fetch p ≡ Here i → ⊥) → FaultsAt g s0 p → ⊥
never_faults g s0 p no_item (s, arrives, stops) = by_fetch (g.fetch p) refl
    (ap (λ (q : Pos). moved g.enter s.pos (do_fetch g (g.fetch q) s.core)) (sym (arrives_at g _ p arrives)) ∙ stops) where
      by_fetch : (x : Fetch) → g.fetch p ≡ x → moved g.enter s.pos (do_fetch g x s.core) ≡ Faulted → ⊥
      by_fetch (Here i) e h = no_item i e
      by_fetch (EndOfBlock k n) e h = cc
      by_fetch Outside e h = cc

-- a block of a function that follows is one of the source's
pub among_in : {bs src : List Block} → Among bs src → (b : Block) → Contains bs b → (a : Block) × Contains src a × (b.id ≡ a.id) × (b.source_end ≡ a.source_end)
among_in none b (k, lt, e) = absurd (omega (arith, lt))
among_in (same {b = c} id source_end more) b (zero, lt, e) =
    (c, (0, omega arith, refl), sym (ap (λ (z : Block). z.id) e) ∙ id, sym (ap (λ (z : Block). z.source_end) e) ∙ source_end)
among_in (same {b = c} id source_end more) b (suc k, lt, e) =
    let w = among_in more b (k, omega (arith, lt), e) in (w.0, (let m = w.1 in (suc m.0, (let l = m.1 in omega (arith, l)), m.2)), w.2, w.3)
among_in (left more) b h = let w = among_in more b h in (w.0, (let m = w.1 in (suc m.0, (let l = m.1 in omega (arith, l)), m.2)), w.2, w.3)

-- no item of a source stands at the silent index of a block
pub none_silent : (src : List Block) (sp : Bool) (resolve : OperandPair → Option OperandPair) → IsRead src → (a : Block) → Contains src a → (p : Pos) →
    p.block ≡ a.id → p.item ≡ a.source_end → (i : Item) → (program_of sp src resolve).fetch p ≡ Here i → ⊥
none_silent src sp resolve read a member p block item i e =
    let w = found src read.apart a member in
    let long : a.source_end ≡ length a.items = All-contains (λ (b : Block). b.source_end ≡ length b.items) src a read.source_end member in
    let at : fetch_in (a ∷ w.rest) p.item ≡ Here i = ap (λ (bs : List Block). fetch_in bs p.item) (sym (ap (from_block src) block ∙ w.at)) ∙ e in
    let lt = within_list a.items p.item i (front_item a.items p.item a.source_end w.rest i at) in
    omega (arith, lt, long, item)

module _ (f : Function) (subs : List DebugSubstitution) (sound : IsSound f) (forms : AllItems (λ i. HasForm i.kind) f.blocks)
    (ends : Ends) (closed : IsClosed ends f) (wrong : Pos → Places) (covers : (p : Pos) (x : Place) → IsWrongAt ends f x p → wrong p x ≡ true)
    (src : Source) where
  abbrev fp : Program
  fp = program_of false f.blocks (resolve subs)

  abbrev new : List Block
  new = map (taken wrong ends) f.blocks

  abbrev gp : Program
  gp = program_of false new (resolve subs)

  abbrev srcp : Program
  srcp = program_of true src.function.blocks (resolve src.subs)

  abbrev rf : Pos → List Item
  rf = rest_of f.blocks

  laid : Laid fp rf
  laid = laid_out false f.blocks (resolve subs)

  physical : (q : Pos) (i : Item) → srcp.fetch q ≡ Here i → ItemHasClass bare_return i.kind → OnRow HasPhysicalResults i.kind
  physical q i e class = by_kind i.kind (at_item (λ i. HasForm i.kind) true src.function.blocks (resolve src.subs) src.form q i e) class where
    by_kind : (k : ItemKind) → HasForm k → ItemHasClass bare_return k → OnRow HasPhysicalResults k
    by_kind (Code c n) form class = has_physical_results c form class
    by_kind (Mark v m) form class = absurd class
    by_kind (Phi l n) form class = absurd class

  origins_new : All (λ (b : Block). All (λ (i : Item). OriginIn b i.origin) b.items) new
  origins_new = each_left wrong ends (λ b i. OriginIn b i.origin) (λ b i. OriginIn b i.origin) (λ b w x h. by_origin b x.origin h) f.blocks sound.origins where
    by_origin : (b : Block) (o : Origin) → OriginIn b o → OriginIn (taken wrong ends b) o
    by_origin b (Kept p) h = h
    by_origin b (Before p) h = h

  module _ (shape : LooseShape src.function.blocks f.blocks srcp fp) where
    order_new : All (λ (b : Block). InOrder b.id 0 b.items) new
    order_new = All-map (λ (b : Block). InOrder b.id 0 b.items) (taken wrong ends) f.blocks
        (All-weaker (λ (b : Block). InOrder b.id 0 b.items) (λ (b : Block). InOrder b.id 0 (silenced_left (λ n. wrong (pos_in b.id n)) 0 b.items (ends b.id)))
        (λ b h. order_left (λ n. wrong (pos_in b.id n)) (ends b.id) b.id 0 0 b.items h) f.blocks shape.order)

    -- where dead code was added before a position, g may idle
    idles : (ct : Count) (s0 : State) → IsInitialState src.function.objects (first_of src.function.blocks) s0 → (p : Pos) (x : Item) (xs : List Item) →
        rf p ≡ x ∷ xs →
        (q : Pos) → x.origin ≡ Before q → FaultsAt srcp s0 q →
        All (IsIdleAt ct gp q) (left_at f (resolve subs) sound forms ends closed wrong covers ct srcp s0 (below p) xs)
    idles ct s0 start p x xs at q before faults =
        let w = inside f (resolve subs) sound forms ends closed wrong covers p x xs at in
        let home : OriginIn w.block (Before q) = subst (OriginIn w.block) before
        (All-head (λ (i : Item). OriginIn w.block i.origin) x xs
        (all_at f (resolve subs) sound forms ends closed wrong covers (λ b i. OriginIn b i.origin) sound.origins p x xs at)) in
        let fits = all_at f (resolve subs) sound forms ends closed wrong covers (λ b i. KindFits srcp i.kind b.source_end i.origin) shape.items p x xs at in
        let marks = all_at f (resolve subs) sound forms ends closed wrong covers (λ b i. MarkFits i.kind i.origin) shape.marks p x xs at in
        let order = order_drop w.block.id 0 p.item w.block.items (All-contains (λ (b : Block). InOrder b.id 0 b.items) f.blocks w.block shape.order w.member) in
        let order_here : InOrder w.block.id order.0 (x ∷ xs) = subst (InOrder w.block.id order.0) w.at order.1 in
        let order_xs : InOrder q.block (2 * q.item) xs = subst (λ (o : Origin). InOrder q.block (next_rank o) xs) before
        (subst (λ (n : ℕ). InOrder n (next_rank x.origin) xs) (sym home.0) order_here.2) in
        let le = home.1 in
        elim (cases_eq q.item w.block.source_end) [
          | inl same_item ↦ (let a = among_in shape.among w.block w.member in
              absurd (never_faults srcp s0 q (none_silent src.function.blocks true (resolve src.subs) src.read a.0 a.1 q (home.0 ∙ a.2)
              (same_item ∙ a.3)) faults))
          | inr ne ↦ idles_ahead ct srcp gp src.function.objects (first_of src.function.blocks) s0 start physical q w.block.source_end (omega (arith, le, ne))
              (λ e k n block fetch. one_end_of w.block w.member e k n (block ∙ home.0) fetch) _ (2 * q.item)
              (order_left (λ n. wrong (pos_in p.block n)) (ends p.block) q.block (2 * q.item) (p.item + 1) xs order_xs) (omega arith)
              (all_left (λ n. wrong (pos_in p.block n)) (ends p.block) (λ i. KindFits srcp i.kind w.block.source_end i.origin)
              (λ i. KindFits srcp i.kind w.block.source_end i.origin)
              (λ s i h. fits_quiet srcp s i.kind w.block.source_end i.origin h) (p.item + 1) xs
              (All-tail (λ (i : Item). KindFits srcp i.kind w.block.source_end i.origin) x xs fits))
              (all_left (λ n. wrong (pos_in p.block n)) (ends p.block) (λ i. MarkFits i.kind i.origin) (λ i. MarkFits i.kind i.origin)
              (λ s i h. marks_quiet s i.kind i.origin h) (p.item + 1) xs (All-tail (λ (i : Item). MarkFits i.kind i.origin) x xs marks))
              faults
        ] where
          one_end_of : (b : Block) → Contains f.blocks b → (e : Pos) (k n : ℕ) → e.block ≡ b.id → gp.fetch e ≡ EndOfBlock k n → k ≡ b.source_end
          one_end_of b member e k n block fetch =
              let v = end_from wrong ends false f.blocks (resolve subs) e k n fetch in
              let u = found f.blocks sound.blocks_apart b member in
              let there : fetch_in (b ∷ u.rest) v.0.item ≡ EndOfBlock k n =
              ap (λ (bs : List Block). fetch_in bs v.0.item) (sym (ap (from_block f.blocks) (v.1 ∙ block) ∙ u.at)) ∙ v.2 in
              sym (end_index b.source_end u.rest k n (front_end b.items v.0.item b.source_end u.rest k n there).1)

    along : (ct : Count) → ((k : ItemKind) → moves_on ct k ≡ is_jump k) → (s0 : State) → IsInitialState src.function.objects (first_of src.function.blocks) s0 →
        GoesAlong f (resolve subs) sound forms ends closed wrong covers ct srcp s0
    along ct counts s0 start = record {
      moves = λ p x xs at c e n go.
          (let w = inside f (resolve subs) sound forms ends closed wrong covers p x xs at in
          let fits = All-head (λ (i : Item). KindFits srcp i.kind w.block.source_end i.origin) x xs
          (all_at f (resolve subs) sound forms ends closed wrong covers (λ b i. KindFits srcp i.kind b.source_end i.origin) shape.items p x xs at) in
          let edge = step_edge fp (record { pos = p; core = c }) (record { pos = block_start n; core = e })
          (ap (λ (z : Fetch). moved (λ m. m) p (do_fetch fp z c)) (laid.cons p x xs at).0 ∙ ap (moved (λ m. m) p) go) in
          moves_after ct srcp x.kind x.origin w.block.source_end p n (counts x.kind) fits
          (subst (λ (z : Fetch). FetchEdge (λ m. m) z p (block_start n)) (laid.cons p x xs at).0 edge));
      idles = λ p x xs at dead q before faults. idles ct s0 start p x xs at q before faults;
    }

    runs_new : (ct : Count) → ((k : ItemKind) → moves_on ct k ≡ is_jump k) →
        ((s : State) → IsInitialState src.function.objects (first_of src.function.blocks) s →
        RunsMatch srcp fp (sync_point_at ct fp) (AnyOrigin (sync_point_at ct fp)) s s) →
        (s : State) → IsInitialState src.function.objects (first_of src.function.blocks) s →
        RunsMatch srcp gp (sync_point_at ct gp) (AnyOrigin (sync_point_at ct gp)) s s
    runs_new ct counts runs s start =
        dead_runs f (resolve subs) sound forms ends closed wrong covers ct srcp s (along ct counts s start) shape.order order_new origins_new
        (ap (λ (p : Pos). p.item) start.pos)
        (record {
          alike = record { held = held_itself (Right f (resolve subs) sound forms ends closed wrong covers s.pos) s.core; told = tells_itself (λ k. ⊥) s.core };
          none = λ k o gone. start.pairs k o;
        })
        (runs s start)

    -- an item of f that isn't dead
    kept_at : (P : Item → Type 0) (p : Pos) (i : Item) → fp.fetch p ≡ Here i → ((needed : Places) → is_dead i.kind needed ≡ false) →
        ((w : Places) → P (quiet w i)) → (q : Pos) × (j : Item) × (gp.fetch q ≡ Here j) × P j
    kept_at P p i at stays holds =
        let r = rest_at false f.blocks (resolve subs) p i at in
        let t = item_to wrong ends false f.blocks (resolve subs) p i r.0 r.1 (stays (needed_at r.0 (ends p.block))) in
        (t.pos, quiet t.source_end i, t.stands, holds t.source_end)

    pub shape_new : LooseShape src.function.blocks new srcp gp
    shape_new = record {
      among = among_taken wrong ends shape.among;
      first = first_taken wrong ends f.blocks ∙ shape.first;
      back = λ q leads edge. (let w = shape.back q leads edge in
          kept_at (λ j. OnRow (GoesTo (first_of src.function.blocks)) j.kind) w.0 w.1 w.2
          (λ needed. going_stays w.1.kind (first_of src.function.blocks) needed w.3) (λ s. row_quiet (GoesTo (first_of src.function.blocks)) s w.1.kind w.3));
      order = order_new;
      items = each_left wrong ends (λ b i. KindFits srcp i.kind b.source_end i.origin) (λ b i. KindFits srcp i.kind b.source_end i.origin)
          (λ b w x h. fits_quiet srcp w x.kind b.source_end x.origin h) f.blocks shape.items;
      volatile = each_left wrong ends (λ b i. StaysVolatile srcp i.kind i.origin) (λ b i. StaysVolatile srcp i.kind i.origin)
          (λ b w x h. volatile_quiet srcp w x.kind x.origin h) f.blocks shape.volatile;
      marks = each_left wrong ends (λ b i. MarkFits i.kind i.origin) (λ b i. MarkFits i.kind i.origin)
          (λ b w x h. marks_quiet w x.kind x.origin h) f.blocks shape.marks;
    }

    ends_kept : ((p : Pos) (i : Item) → srcp.fetch p ≡ Here i → OnRow IsEnd i.kind → EndIsKept fp p i) → (p : Pos) (i : Item) → srcp.fetch p ≡ Here i →
        OnRow IsEnd i.kind → EndIsKept gp p i
    ends_kept kept p i at end =
        let w = kept p i at end in
        let v = kept_at (λ j. (j.origin ≡ Kept p) × KindsEndAlike i.kind j.kind) w.0 w.1 w.2 (λ needed. end_stays i.kind w.1.kind needed w.4)
        (λ s. (w.3, end_quiet i.kind s w.1.kind w.4)) in
        (v.0, v.1, v.2, v.3.0, v.3.1)

    ends_only : ((q : Pos) (j : Item) → fp.fetch q ≡ Here j → OnRow IsEnd j.kind → EndComesFrom srcp j) → (q : Pos) (j : Item) → gp.fetch q ≡ Here j →
        OnRow IsEnd j.kind → EndComesFrom srcp j
    ends_only only q j at end =
        let w = item_from wrong ends false f.blocks (resolve subs) q j at in
        let k = only w.pos w.item w.stands (row_loud IsEnd w.source_end w.item.kind (subst (λ (i : Item). OnRow IsEnd i.kind) w.is end)) in
        subst (EndComesFrom srcp) (sym w.is) (k.0, k.1, k.2, k.3, end_quiet k.1.kind w.source_end w.item.kind k.4)

-- without its dead code, and with silence where places are wrong, a function follows what it followed
pub dead_follows : (f : Function) (subs : List DebugSubstitution) → IsSound f → AllItems (λ i. HasForm i.kind) f.blocks → (ends : Ends) → IsClosed ends f →
    (wrong : Pos → Places) → ((p : Pos) (x : Place) → IsWrongAt ends f x p → wrong p x ≡ true) →
    PreservesWeakSimulation (change f subs (taken_out wrong ends f) subs)
dead_follows f subs sound forms ends closed wrong covers = record {
  follows = λ src fol. record {
    objects = fol.objects;
    shape = shape_new f subs sound forms ends closed wrong covers src fol.shape;
    runs = runs_new f subs sound forms ends closed wrong covers src fol.shape ByItems (λ k. refl) fol.runs;
  };
  ends = λ src fol whole. record {
    blocks = length-map f.blocks (taken wrong ends) ∙ whole.blocks;
    kept = ends_kept f subs sound forms ends closed wrong covers src fol.shape whole.kept;
    only = ends_only f subs sound forms ends closed wrong covers src fol.shape whole.only;
    runs = runs_new f subs sound forms ends closed wrong covers src fol.shape ByEnds (λ k. refl) whole.runs;
  };
}

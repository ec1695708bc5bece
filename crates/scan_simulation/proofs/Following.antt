-- What followed a source follows it with physical registers.
use Rattle.std.proofs.Common.{◌≡◌, ℕ, zero, suc, ◌+◌, ◌<◌, List, [], ◌∷◌, All, Contains, Option, Bool, true, false, refl, sym}
use Rattle.std.proofs.Common.{ap, ◌∙◌, subst, inl, inr, ◌⊎◌, arith}
use Rattle.std.proofs.lemmas.List.{length-map}
use Rattle.std.proofs.lemmas.List.Elements.{All-nil, All-cons, All-head, All-tail}
use Rattle.rv64_instr.specs.Row.{row_of}
use Rattle.rv64_instr.specs.LocationEffects.{IsSlotStore}
use Rattle.mir_func.specs.declared.block.Block.{Block}
use Rattle.mir_func.specs.declared.debug_substitution.OperandPair.{OperandPair}
use Rattle.mir_func.specs.declared.item.Item.{Item}
use Rattle.mir_func.specs.declared.item.ItemKind.{ItemKind}
use Rattle.mir_func.specs.declared.item.ItemKind.TheVariants.{Code, Mark, Phi}
use Rattle.mir_func.specs.declared.object.Object.{Object}
use Rattle.mir_func.specs.declared.position.Origin.{Origin}
use Rattle.mir_func.specs.declared.position.Origin.TheVariants.{Kept, Before}
use Rattle.mir_func.specs.declared.position.Pos.{Pos}
use Rattle.mir_func.specs.Function.{Function}
use Rattle.mir_func.specs.Graph.{Program, Fetch, Here, EndOfBlock, Outside, Edge, FetchEdge, ExitEdge, Leads, stay, go, block_start, program_of}
use Rattle.mir_func.specs.declared.exit.Exit.{Exit}
use Rattle.mir_func.specs.Resolve.{resolve}
use Rattle.mir_func.specs.Sound.{AllItems, HasForm, IsSound, OriginIn}
use Rattle.sem_mir.specs.Align.{is_jump, moves_on, Count, ByItems, ByEnds, sync_point_at, AnyOrigin, RunsMatch, After}
use Rattle.sem_mir.specs.InitialState.{first_of, IsInitialState}
use Rattle.sem_mir.specs.Follow.{KindFits, StaysVolatile, MarkFits, InOrder, next_rank, Among, none, same, left, OnRow, GoesTo, Counts, IsMetApart, Shape}
use Rattle.sem_mir.specs.Follow.{IsEnd, KindsEndAlike, EndIsKept, EndComesFrom}
use Rattle.sem_mir.specs.State.{Core, State}
use Rattle.sem_mir.specs.Step.{Goes, do_item}
use Rattle.sem_simulation.specs.MatchStates.{since_item}
use Rattle.scan_rule.proofs.pass_trait.NopFollows.{moves_after}
use Rattle.scan_rule.proofs.spill_simulation.Places.{stands_at, holds_at}
use Rattle.scan_rule.specs.scan_allocation.Coloring.{now, IsColoring}
use Rattle.scan_rule.specs.Rewrite.{kind_now, item_now, items_now, block_now, blocks_now}
use Rattle.scan_simulation.specs.Follows.{SilencesWrong, AllottedFollows}
use Rattle.scan_simulation.proofs.Fetching.{fetch_now, fetched, item_from, item_to}
use Rattle.scan_simulation.proofs.Near.{near_start}
use Rattle.scan_simulation.proofs.Rows.{exit_now, on_row_now, on_row_from, kind_fits_now, mark_fits_now, ends_alike_now, ends_from, store_from, counts_renamed}
use Rattle.scan_simulation.proofs.Rows.{goes_renamed, volatile_now}
use Rattle.scan_simulation.proofs.Views.{allotted_runs}

-- ---- lists of items, each changed in its place

module _ (given : ℕ → Option ℕ) (silent : Pos → ℕ → Bool) where
  among_now : {bs src : List Block} → Among bs src → Among (blocks_now given silent bs) src
  among_now none = none
  among_now (same e s rest) = same e s (among_now rest)
  among_now (left rest) = left (among_now rest)

  first_now : (bs : List Block) → first_of (blocks_now given silent bs) ≡ first_of bs
  first_now [] = refl
  first_now (b ∷ bs) = refl

  order_now : (b least n : ℕ) (xs : List Item) → InOrder b least xs → InOrder b least (items_now given silent b n xs)
  order_now b least n [] o = tt
  order_now b least n (x ∷ xs) o = (o.0, o.1, order_now b (next_rank x.origin) (n + 1) xs o.2)

  -- what each item has, it has in its place
  each_in : (P Q : Item → Type 0) → ((p : Pos) (x : Item) → P x → Q (item_now given silent p x)) → (b n : ℕ) (xs : List Item) → All P xs →
      All Q (items_now given silent b n xs)
  each_in P Q h b n [] all = All-nil Q
  each_in P Q h b n (x ∷ xs) all =
      All-cons Q (item_now given silent (record { block = b; item = n }) x) (items_now given silent b (n + 1) xs)
      (h (record { block = b; item = n }) x (All-head P x xs all)) (each_in P Q h b (n + 1) xs (All-tail P x xs all))

  pub each_now : (P Q : Block → Item → Type 0) → ((b : Block) (p : Pos) (x : Item) → P b x → Q (block_now given silent b) (item_now given silent p x)) →
      (bs : List Block) → All (λ (b : Block). All (P b) b.items) bs → All (λ (b : Block). All (Q b) b.items) (blocks_now given silent bs)
  each_now P Q h [] all = All-nil (λ (b : Block). All (Q b) b.items)
  each_now P Q h (b ∷ bs) all =
      All-cons (λ (c : Block). All (Q c) c.items) (block_now given silent b) (blocks_now given silent bs)
      (each_in (P b) (Q (block_now given silent b)) (h b) b.id 0 b.items (All-head (λ (c : Block). All (P c) c.items) b bs all))
      (each_now P Q h bs (All-tail (λ (c : Block). All (P c) c.items) b bs all))

  blocks_order : (bs : List Block) → All (λ (b : Block). InOrder b.id 0 b.items) bs → All (λ (b : Block). InOrder b.id 0 b.items) (blocks_now given silent bs)
  blocks_order [] all = All-nil (λ (b : Block). InOrder b.id 0 b.items)
  blocks_order (b ∷ bs) all =
      All-cons (λ (c : Block). InOrder c.id 0 c.items) (block_now given silent b) (blocks_now given silent bs)
      (order_now b.id 0 0 b.items (All-head (λ (c : Block). InOrder c.id 0 c.items) b bs all))
      (blocks_order bs (All-tail (λ (c : Block). InOrder c.id 0 c.items) b bs all))

  -- a block of the new function was one of the old
  member_from : (bs : List Block) (c : Block) → Contains (blocks_now given silent bs) c → (b : Block) × Contains bs b × (b.id ≡ c.id) ×
      (b.source_end ≡ c.source_end)
  member_from [] c (k, lt, e) = absurd (omega (arith, lt))
  member_from (b ∷ bs) c (zero, lt, e) =
      (b, (0, omega arith, refl), ap (λ (x : Block). x.id) e, ap (λ (x : Block). x.source_end) e)
  member_from (b ∷ bs) c (suc k, lt, e) =
      let w = member_from bs c (k, omega (arith, lt), e) in
      (w.0, (suc w.1.0, (let within = w.1.1 in omega (arith, within)), w.1.2), w.2, w.3)

  origin_stays : (b : Block) (o : Origin) → OriginIn b o → OriginIn (block_now given silent b) o
  origin_stays b (Kept p) h = h
  origin_stays b (Before p) h = h

module _ (fn : Function) (subs : OperandPair → Option OperandPair) (given : ℕ → Option ℕ) (silent : Pos → ℕ → Bool) (sound : IsSound fn)
    (form : AllItems (λ i. HasForm i.kind) fn.blocks) (col : IsColoring (program_of false fn.blocks subs) given)
    (wrong : SilencesWrong (program_of false fn.blocks subs) (block_start (first_of fn.blocks)) given silent) where
  abbrev new : List Block
  new = blocks_now given silent fn.blocks

  abbrev fp : Program
  fp = program_of false fn.blocks subs

  abbrev gp : Program
  gp = program_of false new subs

  forms : (p : Pos) (i : Item) → fp.fetch p ≡ Here i → HasForm i.kind
  forms p i e = holds_at (λ b x. HasForm x.kind) fn.blocks form p i (stands_at false fn.blocks subs p i e)

  -- ---- paths

  edge_at : (p q : Pos) (x : Fetch) → FetchEdge (λ n. n) x p q → FetchEdge (λ n. n) (fetch_now given silent p x) p q
  edge_at p q (Here i) h = subst (λ (e : Exit). ExitEdge (λ n. n) e p q) (sym (exit_now fp given col (silent p) i.kind)) h
  edge_at p q (EndOfBlock k n) h = h
  edge_at p q Outside h = h

  edge_now : (p q : Pos) → Edge fp p q → Edge gp p q
  edge_now p q h =
      subst (λ (x : Fetch). FetchEdge (λ n. n) x p q) (sym (fetched given silent fn.blocks subs p)) (edge_at p q (fp.fetch p) h)

  leads_now : {p q : Pos} → Leads fp p q → Leads gp p q
  leads_now stay = stay
  leads_now (go {p = p} {q = q} e more) = go (edge_now p q e) (leads_now more)

  module _ (src : List Block) (srcp : Program) (shape : Shape src fn.blocks srcp fp) where
    order_new : All (λ (b : Block). InOrder b.id 0 b.items) new
    order_new = blocks_order given silent fn.blocks shape.order

    origins_new : All (λ (b : Block). All (λ (i : Item). OriginIn b i.origin) b.items) new
    origins_new = each_now given silent (λ b i. OriginIn b i.origin) (λ b i. OriginIn b i.origin) (λ b p i h. origin_stays given silent b i.origin h) fn.blocks
        sound.origins

    -- code that counts still does
    counts_now : (q : Pos) (j : Item) → fp.fetch q ≡ Here j → OnRow Counts j.kind → OnRow Counts (kind_now given (silent q) j.kind)
    counts_now q j at h = by_kind j.kind refl h where
      by_kind : (k : ItemKind) → j.kind ≡ k → OnRow Counts k → OnRow Counts (kind_now given (silent q) k)
      by_kind (Code i n) is k =
          on_row_now fp given col (silent q) (λ r. Counts r × (r ≡ row_of i)) Counts
          (λ r c. counts_renamed (now given) r (λ rd rs e ne. col.copies q j i n rd rs at is (sym c.1 ∙ e) ne) c.0) (Code i n) (k, refl)
      by_kind (Mark v m) is k = absurd k
      by_kind (Phi x n) is k = absurd k

    met_now : (p : Pos) (e : ℕ) (q : Pos) (j : Item) → IsMetApart fp p e q j → IsMetApart gp p e q (item_now given silent q j)
    met_now p e q j h = (
      item_to given silent fn.blocks subs q j h.0,
      counts_now q j h.0 h.1,
      h.2,
      elim h.3 as (λ _. ((q.block ≡ p.block) × (q.item < p.item)) ⊎ Leads gp p q) [ inl w ↦ inl w | inr w ↦ inr (leads_now w) ],
    )

    pub shape_new : Shape src new srcp gp
    shape_new = record {
      among = among_now given silent shape.among;
      first = first_now given silent fn.blocks ∙ shape.first;
      back = λ q leads edge. (let w = shape.back q leads edge in (
        w.0,
        item_now given silent w.0 w.1,
        item_to given silent fn.blocks subs w.0 w.1 w.2,
        on_row_now fp given col (silent w.0) (GoesTo (first_of src)) (GoesTo (first_of src)) (goes_renamed (now given) (first_of src)) w.1.kind w.3,
      ));
      order = order_new;
      items = each_now given silent (λ b i. KindFits srcp i.kind b.source_end i.origin) (λ b i. KindFits srcp i.kind b.source_end i.origin)
          (λ b p i h. kind_fits_now fp given col (silent p) srcp i.kind b.source_end i.origin h) fn.blocks shape.items;
      volatile = each_now given silent (λ b i. StaysVolatile srcp i.kind i.origin) (λ b i. StaysVolatile srcp i.kind i.origin)
          (λ b p i h. volatile_now given (silent p) srcp i.kind i.origin h) fn.blocks shape.volatile;
      stores = λ c member p y block at save o.
          (let w = member_from given silent fn.blocks c member in
          let x = item_from given silent fn.blocks subs p y at in
          let stored : OnRow IsSlotStore x.0.kind =
          on_row_from fp given col (silent p) IsSlotStore IsSlotStore (store_from (now given)) x.0.kind
          (subst (λ (i : Item). OnRow IsSlotStore i.kind) x.2 save) in
          let there : x.0.origin ≡ Before (record { block = w.0.id; item = w.0.source_end }) =
          sym (ap (λ (i : Item). i.origin) x.2) ∙ o ∙ (λ t. Before (record { block = sym w.2 t; item = sym w.3 t })) in
          let met = shape.stores w.0 w.1 p x.0 (block ∙ sym w.2) x.1 stored there in (
            met.0,
            item_now given silent met.0 met.1,
            subst (λ (e : ℕ). IsMetApart gp p e met.0 (item_now given silent met.0 met.1)) w.3 (met_now p w.0.source_end met.0 met.1 met.2),
          ));
      marks = each_now given silent (λ b i. MarkFits i.kind i.origin) (λ b i. MarkFits i.kind i.origin)
          (λ b p i h. mark_fits_now fp given col (silent p) i.kind i.origin h) fn.blocks shape.marks;
    }

    -- control goes elsewhere only where the source moves on
    moves : (ct : Count) → ((k : ItemKind) → moves_on ct k ≡ is_jump k) → (p : Pos) (x : Item) → fp.fetch p ≡ Here x → (c c' : Core) (n : ℕ) →
        do_item fp x.kind c ≡ Goes n c' → since_item ct x ≡ After
    moves ct counts p x at c c' n goes =
        let v = stands_at false fn.blocks subs p x at in
        moves_after ct srcp fp x.kind x.origin v.block.source_end counts
        (holds_at (λ b i. KindFits srcp i.kind b.source_end i.origin) fn.blocks shape.items p x v) c c' n goes

    pub runs_new : (ct : Count) (objects : List Object) → ((k : ItemKind) → moves_on ct k ≡ is_jump k) →
        ((s : State) → IsInitialState objects (first_of src) s → RunsMatch srcp fp (sync_point_at ct fp) (AnyOrigin (sync_point_at ct fp)) s s) →
        (s : State) → IsInitialState objects (first_of src) s → RunsMatch srcp gp (sync_point_at ct gp) (AnyOrigin (sync_point_at ct gp)) s s
    runs_new ct objects counts runs s starts =
        allotted_runs fn.blocks subs given silent col (block_start (first_of fn.blocks)) wrong forms ct srcp s (moves ct counts) sound.blocks_apart
        shape.order order_new sound.origins origins_new (ap (λ (p : Pos). p.item) starts.pos)
        (near_start fp given col (block_start (first_of fn.blocks)) objects (first_of src) s starts
        (ap block_start shape.first ∙ sym starts.pos)) (runs s starts)

    ends_kept : ((p : Pos) (i : Item) → srcp.fetch p ≡ Here i → OnRow IsEnd i.kind → EndIsKept fp p i) → (p : Pos) (i : Item) → srcp.fetch p ≡ Here i →
        OnRow IsEnd i.kind → EndIsKept gp p i
    ends_kept kept p i at end =
        let w = kept p i at end in (
          w.0,
          item_now given silent w.0 w.1,
          item_to given silent fn.blocks subs w.0 w.1 w.2,
          w.3,
          ends_alike_now fp given col (silent w.0) i.kind w.1.kind w.4,
        )

    ends_only : ((q : Pos) (j : Item) → fp.fetch q ≡ Here j → OnRow IsEnd j.kind → EndComesFrom srcp j) → (q : Pos) (j : Item) → gp.fetch q ≡ Here j →
        OnRow IsEnd j.kind → EndComesFrom srcp j
    ends_only only q j at end =
        let x = item_from given silent fn.blocks subs q j at in
        let old_end : OnRow IsEnd x.0.kind = on_row_from fp given col (silent q) IsEnd IsEnd (ends_from (now given)) x.0.kind
        (subst (λ (i : Item). OnRow IsEnd i.kind) x.2 end) in
        let w = only q x.0 x.1 old_end in (
          w.0,
          w.1,
          w.2,
          ap (λ (i : Item). i.origin) x.2 ∙ w.3,
          subst (λ (i : Item). KindsEndAlike w.1.kind i.kind) (sym x.2) (ends_alike_now fp given col (silent q) w.1.kind x.0.kind w.4),
        )

pub allotted_follows : AllottedFollows
allotted_follows fn subs given silent sound form col wrong = record {
  follows = λ src fol ends.
      let srcp : Program = program_of true src.function.blocks (resolve src.subs) in
      record {
        objects = fol.objects;
        follows = record {
          shape = shape_new fn (resolve subs) given silent sound form col wrong src.function.blocks srcp fol.follows.shape;
          runs = runs_new fn (resolve subs) given silent sound form col wrong src.function.blocks srcp fol.follows.shape ByItems src.function.objects
              (λ k. refl) fol.follows.runs;
        };
      };
  ends = λ keeps src fol whole.
      let srcp : Program = program_of true src.function.blocks (resolve src.subs) in
      record {
        blocks = length-map fn.blocks (block_now given silent) ∙ whole.blocks;
        kept = ends_kept fn (resolve subs) given silent sound form col wrong src.function.blocks srcp fol.follows.shape whole.kept;
        only = ends_only fn (resolve subs) given silent sound form col wrong src.function.blocks srcp fol.follows.shape whole.only;
        runs = runs_new fn (resolve subs) given silent sound form col wrong src.function.blocks srcp fol.follows.shape ByEnds src.function.objects
            (λ k. refl) whole.runs;
      };
}

-- What the walk down a block says is stale, and what paths say.
use Rattle.std.proofs.Common.{◌≡◌, ◌⊎◌, ℕ, zero, suc, ◌+◌, ◌<◌, ◌≤◌, Bool, true, false}
use Rattle.std.proofs.Common.{◌&&◌, ◌||◌, not, List, [], ◌∷◌, length, drop, Option, Some, None}
use Rattle.std.proofs.Common.{refl, sym, ap, ◌∙◌, inl, inr, arith, subst}
use Rattle.std.specs.Prelude.{slice_get}
use Rattle.rv64_instr.specs.declared.place.Place.{Place}
use Rattle.rv64_instr.specs.Row.{row_of}
use Rattle.rv64_instr.specs.LocationEffects.{defines_of}
use Rattle.mir_func.specs.declared.block.Block.{Block}
use Rattle.mir_func.specs.declared.debug_substitution.OperandPair.{OperandPair}
use Rattle.mir_func.specs.declared.exit.Exit.{Exit}
use Rattle.mir_func.specs.declared.exit.Exit.TheVariants.{Onward, Perhaps, Always, Final}
use Rattle.mir_func.specs.declared.item.Item.{Item}
use Rattle.mir_func.specs.declared.item.ItemKind.{ItemKind}
use Rattle.mir_func.specs.declared.item.ItemKind.TheVariants.{Code, Mark, Phi}
use Rattle.mir_func.specs.declared.position.Pos.{Pos}
use Rattle.mir_func.specs.Exits.{exit_of}
use Rattle.mir_func.specs.Function.{Function}
use Rattle.mir_func.specs.Graph.{Program, Fetch, Here, EndOfBlock, Edge, FetchEdge, KindEdge, below, block_start, from_block, front, fetch_in, end_of}
use Rattle.mir_func.specs.Graph.{program_of}
use Rattle.mir_func.specs.Successors.{pos_in}
use Rattle.mir_func.proofs.Ways.{IsDown}
use Rattle.sem_mir.specs.InitialState.{first_of}
use Rattle.sem_mir.specs.Live.{Defines, KindDefines}
use Rattle.dce_stale.specs.pass_trait.Causes.{Comes, begins, goes_on as comes_on}
use Rattle.pass_liveness.proofs.Edges.{Stays, down_edge, out_edge}
use Rattle.pass_liveness.proofs.Paths.{next_of}
use Rattle.dce_stale.proofs.Exact.{and_true, drop_at}
use Rattle.scan_stale.specs.Flow.{Places, sets_other, sets_place, stale_past, stale_over, stale_at, goes_on, IsHanded, IsHandedDown, takes_at, IsStale}

and_both : (a b : Bool) → (a && b) ≡ true → (a ≡ true) × (b ≡ true)
and_both true true e = (refl, refl)
and_both true false e = absurd cc
and_both false b e = absurd cc

or_cases : (a b : Bool) → (a || b) ≡ true → (a ≡ true) ⊎ (b ≡ true)
or_cases true b e = inl refl
or_cases false b e = inr e

or_left : (a b : Bool) → a ≡ true → (a || b) ≡ true
or_left true b e = refl
or_left false b e = absurd cc

or_right : (a b : Bool) → b ≡ true → (a || b) ≡ true
or_right true b e = refl
or_right false b e = e

not_true : (b : Bool) → (not b) ≡ true → b ≡ true → ⊥
not_true true e h = cc
not_true false e h = cc

true_not : (b : Bool) → (b ≡ true → ⊥) → (not b) ≡ true
true_not true h = absurd (h refl)
true_not false h = refl

drop_all : (items : List Item) → drop (length items) items ≡ []
drop_all [] = refl
drop_all (i ∷ is) = drop_all is

get_less : (items : List Item) (k : ℕ) (i : Item) → slice_get items k ≡ Some i → k < length items
get_less [] k i e = absurd cc
get_less (c ∷ cs) zero i e = omega arith
get_less (c ∷ cs) (suc k) i e = let l : k < length cs = get_less cs k i e in omega arith

-- nothing is said past a block's end
pub at_within : (given : ℕ → Option ℕ) (items : List Item) (k : ℕ) (start : Places) (x : Place) → stale_at given items k start x ≡ true → k ≤ length items
at_within given items zero start x e = omega arith
at_within given items (suc k) start x e = by_item (slice_get items k) refl e where
  by_item : (o : Option Item) → slice_get items k ≡ o → stale_over given o (stale_at given items k start) x ≡ true → suc k ≤ length items
  by_item None h f = absurd cc
  by_item (Some i) h f = let l : k < length items = get_less items k i h in omega arith

goes_down : (e : Exit) → goes_on e ≡ true → IsDown e
goes_down Onward h = tt
goes_down (Perhaps n) h = tt
goes_down (Always n) h = absurd cc
goes_down Final h = absurd cc

pub down_goes : (e : Exit) → IsDown e → goes_on e ≡ true
down_goes Onward h = refl
down_goes (Perhaps n) h = refl
down_goes (Always n) h = absurd h
down_goes Final h = absurd h

-- the end of a block, before a block of a number
end_next : (source_end : ℕ) (bs : List Block) (n : ℕ) → next_of bs ≡ Some n → end_of source_end bs ≡ EndOfBlock source_end n
end_next source_end [] n e = absurd cc
end_next source_end (b ∷ bs) n e = let same : b.id ≡ n = cc in ap (EndOfBlock source_end) same

-- what sets the place, as paths say
kind_defines : (c : ItemKind) (x : Place) → sets_place c x ≡ true → KindDefines c x
kind_defines (Code i n) x e = e
kind_defines (Mark v m) x e = cc
kind_defines (Phi p n) x e = cc

defines_kind : (c : ItemKind) (x : Place) → KindDefines c x → sets_place c x ≡ true
defines_kind (Code i n) x d = d
defines_kind (Mark v m) x d = absurd d
defines_kind (Phi p n) x d = absurd d

module _ (given : ℕ → Option ℕ) (f : Function) (resolve : OperandPair → Option OperandPair) where
  abbrev pub graph : Program
  graph = program_of false f.blocks resolve

  abbrev pub StaleHere : Place → Pos → Type 0
  StaleHere x p = IsStale (program_of false f.blocks resolve) (block_start (first_of f.blocks)) given x p

  -- one block, with the blocks from it on
  module _ (block : Block) (rest : List Block) (at_block : from_block f.blocks block.id ≡ block ∷ rest) where
    pub fetched : (k : ℕ) (i : Item) → slice_get block.items k ≡ Some i → (program_of false f.blocks resolve).fetch (pos_in block.id k) ≡ Here i
    fetched k i at =
        ap (λ (bs : List Block). fetch_in bs k) at_block ∙ ap (λ (is : List Item). front is block.source_end rest) (drop_at block.items k i at)

    -- past an item paths say so too
    pub past_stale : (k : ℕ) (i : Item) (w : Places) (x : Place) → slice_get block.items k ≡ Some i →
        (w x ≡ true → StaleHere x (pos_in block.id k)) → stale_past given i.kind w x ≡ true →
        (q : Pos) → Edge (program_of false f.blocks resolve) (pos_in block.id k) q → StaleHere x q
    past_stale k i w x at so_far e q edge = elim (or_cases (sets_other given i.kind x) (w x && not (sets_place i.kind x)) e) as (λ _. StaleHere x q) [
      | inl takes ↦
          begins (inr (pos_in block.id k, subst (λ (z : Fetch). takes_at given z x ≡ true) (sym (fetched k i at)) takes, edge))
      | inr stays ↦
          let both = and_both (w x) (not (sets_place i.kind x)) stays in
          comes_on (so_far both.0)
          (λ d. not_true (sets_place i.kind x) both.1 (defines_kind i.kind x (subst (λ (z : Fetch). Defines z x) (fetched k i at) d))) edge
    ]

    edge_by : (k : ℕ) (i : Item) (q : Pos) → slice_get block.items k ≡ Some i → KindEdge Stays i.kind (pos_in block.id k) q →
        Edge (program_of false f.blocks resolve) (pos_in block.id k) q
    edge_by k i q at e = subst (λ (z : Fetch). FetchEdge Stays z (pos_in block.id k) q) (sym (fetched k i at)) e

    -- down the block
    pub at_stale : (start : Places) → ((x : Place) → start x ≡ true → StaleHere x (block_start block.id)) → (k : ℕ) (x : Place) →
        stale_at given block.items k start x ≡ true → StaleHere x (pos_in block.id k)
    at_stale start begun zero x e = begun x e
    at_stale start begun (suc k) x e = by_item (at_stale start begun k x) (slice_get block.items k) refl e where
      by_item : (stale_at given block.items k start x ≡ true → StaleHere x (pos_in block.id k)) → (o : Option Item) →
          slice_get block.items k ≡ o → stale_over given o (stale_at given block.items k start) x ≡ true → StaleHere x (pos_in block.id (suc k))
      by_item above None h g = absurd cc
      by_item above (Some i) h g =
          let both = and_both (goes_on (exit_of i.kind)) (stale_past given i.kind (stale_at given block.items k start) x) g in
          let one : k + 1 ≡ suc k = omega arith in
          subst (λ (n : ℕ). StaleHere x (pos_in block.id n)) one
          (past_stale k i (stale_at given block.items k start) x h above both.1 (below (pos_in block.id k))
          (edge_by k i (below (pos_in block.id k)) h (down_edge i.kind (pos_in block.id k) (goes_down (exit_of i.kind) both.0))))

    -- what is handed on is stale
    pub handed_stale : (start : Places) → ((x : Place) → start x ≡ true → StaleHere x (block_start block.id)) → (count n : ℕ) (x : Place) →
        IsHanded given block.items start count n x → StaleHere x (block_start n)
    handed_stale start begun count n x h =
        past_stale h.index h.item (stale_at given block.items h.index start) x h.stands (at_stale start begun h.index x) h.stale
        (block_start n) (edge_by h.index h.item (block_start n) h.stands (out_edge h.item.kind (pos_in block.id h.index) n h.out))

    end_is : (n : ℕ) → next_of rest ≡ Some n →
        (program_of false f.blocks resolve).fetch (pos_in block.id (length block.items)) ≡ EndOfBlock block.source_end n
    end_is n e = ap (λ (bs : List Block). fetch_in bs (length block.items)) at_block ∙
        (ap (λ (is : List Item). front is block.source_end rest) (drop_all block.items) ∙ end_next block.source_end rest n e)

    pub handed_down_stale : (start : Places) → ((x : Place) → start x ≡ true → StaleHere x (block_start block.id)) → (next : Option ℕ) →
        next ≡ next_of rest → (n : ℕ) (x : Place) → IsHandedDown given block.items start next n x → StaleHere x (block_start n)
    handed_down_stale start begun next is n x (to, w) =
        let last = end_is n (sym is ∙ to) in
        comes_on (at_stale start begun (length block.items) x w) (λ d. subst (λ (z : Fetch). Defines z x) last d)
        (subst (λ (z : Fetch). FetchEdge Stays z (pos_in block.id (length block.items)) (block_start n)) (sym last) refl)

    -- what paths say of an item's edges is past the item
    pub stale_made : (k : ℕ) (i : Item) (w : Places) (x : Place) → slice_get block.items k ≡ Some i →
        takes_at given ((program_of false f.blocks resolve).fetch (pos_in block.id k)) x ≡ true → stale_past given i.kind w x ≡ true
    stale_made k i w x at takes =
        or_left (sets_other given i.kind x) (w x && not (sets_place i.kind x)) (subst (λ (z : Fetch). takes_at given z x ≡ true) (fetched k i at) takes)

    pub stale_on : (k : ℕ) (i : Item) (w : Places) (x : Place) → slice_get block.items k ≡ Some i → w x ≡ true →
        (Defines ((program_of false f.blocks resolve).fetch (pos_in block.id k)) x → ⊥) → stale_past given i.kind w x ≡ true
    stale_on k i w x at h keeps =
        or_right (sets_other given i.kind x) (w x && not (sets_place i.kind x))
        (and_true (w x) (not (sets_place i.kind x)) h
        (true_not (sets_place i.kind x) (λ s. keeps (subst (λ (z : Fetch). Defines z x) (sym (fetched k i at)) (kind_defines i.kind x s)))))

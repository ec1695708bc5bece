-- What the walk down a block says is wrong, and what paths say.
use Rattle.std.proofs.Common.{◌≡◌, ◌⊎◌, ℕ, zero, suc, ◌+◌, ◌<◌, ◌≤◌, Bool, true, false}
use Rattle.std.proofs.Common.{◌&&◌, ◌||◌, not, List, [], ◌∷◌, length, drop, get_or, Option, Some, None}
use Rattle.std.proofs.Common.{refl, sym, ap, ◌∙◌, inl, inr, arith, subst}
use Rattle.std.specs.Prelude.{slice_get}
use Rattle.rv64_instr.specs.declared.place.Place.{Place}
use Rattle.rv64_instr.specs.Row.{row_of}
use Rattle.rv64_instr.specs.LocationEffects.{defines_of}
use Rattle.mir_func.specs.declared.block.Block.{Block}
use Rattle.mir_func.specs.declared.exit.Exit.{Exit}
use Rattle.mir_func.specs.declared.exit.Exit.TheVariants.{Onward, Perhaps, Always, Final}
use Rattle.mir_func.specs.declared.item.Item.{Item}
use Rattle.mir_func.specs.declared.item.ItemKind.{ItemKind}
use Rattle.mir_func.specs.declared.item.ItemKind.TheVariants.{Code, Mark, Phi}
use Rattle.mir_func.specs.declared.position.Pos.{Pos}
use Rattle.mir_func.specs.Exits.{exit_of}
use Rattle.mir_func.specs.Function.{Function}
use Rattle.mir_func.specs.Graph.{Fetch, Here, EndOfBlock, Edge, FetchEdge, KindEdge, below, block_start, from_block, front, fetch_in, end_of, rest_in}
use Rattle.mir_func.specs.Successors.{pos_in}
use Rattle.mir_func.proofs.Ways.{IsDown}
use Rattle.pass_liveness.specs.sem_mir.Live.{Defines, KindDefines}
use Rattle.pass_liveness.proofs.Edges.{Stays, down_edge, out_edge}
use Rattle.pass_liveness.proofs.Paths.{next_of}
use Rattle.dce_analysis.specs.dce_rule.Dead.{Places, Ends, paths_of}
use Rattle.dce_analysis.specs.dce_rule.Wrong.{begins_dead, is_dead_at, IsWrongAt, made, on}
use Rattle.dce_analysis.specs.Judge.{verdicts}
use Rattle.dce_stale.specs.Flow.{wrong_past, wrong_over, wrong_at, goes_on, IsHanded, IsHandedDown}

and_both : (a b : Bool) → (a && b) ≡ true → (a ≡ true) × (b ≡ true)
and_both true true e = (refl, refl)
and_both true false e = absurd cc
and_both false b e = absurd cc

pub and_true : (a b : Bool) → a ≡ true → b ≡ true → (a && b) ≡ true
and_true true true e f = refl
and_true true false e f = f
and_true false b e f = e

or_cases : (a b : Bool) → (a || b) ≡ true → (a ≡ true) ⊎ (b ≡ true)
or_cases true b e = inl refl
or_cases false b e = inr e

or_left : (a b : Bool) → a ≡ true → (a || b) ≡ true
or_left true b e = refl
or_left false b e = absurd cc

or_right : (a b : Bool) → b ≡ true → (a || b) ≡ true
or_right true b e = refl
or_right false b e = e

not_true : (b : Bool) → (not b) ≡ true → b ≡ true → ⊥
not_true true e h = cc
not_true false e h = cc

true_not : (b : Bool) → (b ≡ true → ⊥) → (not b) ≡ true
true_not true h = absurd (h refl)
true_not false h = refl

is_false : (b : Bool) → b ≡ true → b ≡ false → ⊥
is_false b h e = let bad : true ≡ false = sym h ∙ e in cc

-- the verdict on an item is whether dead code stands first from there on
pub begins_at : (items : List Item) (needed : Places) (k : ℕ) → begins_dead (drop k items) needed ≡ get_or (verdicts items needed) k false
begins_at [] needed zero = refl
begins_at [] needed (suc k) = refl
begins_at (i ∷ is) needed zero = refl
begins_at (i ∷ is) needed (suc k) = begins_at is needed k

pub drop_at : (items : List Item) (k : ℕ) (i : Item) → slice_get items k ≡ Some i → drop k items ≡ i ∷ drop (suc k) items
drop_at [] k i e = absurd cc
drop_at (c ∷ cs) zero i e = let same : c ≡ i = cc in ap (λ (x : Item). x ∷ cs) same
drop_at (c ∷ cs) (suc k) i e = drop_at cs k i e

drop_all : (items : List Item) → drop (length items) items ≡ []
drop_all [] = refl
drop_all (i ∷ is) = drop_all is

pub drop_past : (items : List Item) (k : ℕ) → drop k items ≡ [] → length items ≤ k
drop_past [] k e = omega arith
drop_past (i ∷ is) zero e = absurd cc
drop_past (i ∷ is) (suc k) e = let l : length is ≤ k = drop_past is k e in omega arith

pub get_drop : (items : List Item) (k : ℕ) (i : Item) (rest : List Item) → drop k items ≡ i ∷ rest → slice_get items k ≡ Some i
get_drop [] zero i rest e = absurd cc
get_drop [] (suc k) i rest e = absurd cc
get_drop (c ∷ cs) zero i rest e = let same : c ≡ i = cc in ap (λ (x : Item). Some x) same
get_drop (c ∷ cs) (suc k) i rest e = get_drop cs k i rest e

get_none : (items : List Item) (k : ℕ) → slice_get items k ≡ None → length items ≤ k
get_none [] k e = omega arith
get_none (i ∷ is) zero e = absurd cc
get_none (i ∷ is) (suc k) e = let l : length is ≤ k = get_none is k e in omega arith

get_less : (items : List Item) (k : ℕ) (i : Item) → slice_get items k ≡ Some i → k < length items
get_less [] k i e = absurd cc
get_less (c ∷ cs) zero i e = omega arith
get_less (c ∷ cs) (suc k) i e = let l : k < length cs = get_less cs k i e in omega arith

-- nothing is said past a block's end
pub at_within : (items : List Item) (dead : List Bool) (k : ℕ) (start : Places) (x : Place) → wrong_at items dead k start x ≡ true → k ≤ length items
at_within items dead zero start x e = omega arith
at_within items dead (suc k) start x e = by_item (slice_get items k) refl e where
  by_item : (o : Option Item) → slice_get items k ≡ o → wrong_over o (get_or dead k false) (wrong_at items dead k start) x ≡ true → suc k ≤ length items
  by_item None h f = absurd cc
  by_item (Some i) h f = let l : k < length items = get_less items k i h in omega arith

pub goes_down : (e : Exit) → goes_on e ≡ true → IsDown e
goes_down Onward h = tt
goes_down (Perhaps n) h = tt
goes_down (Always n) h = absurd cc
goes_down Final h = absurd cc

pub down_goes : (e : Exit) → IsDown e → goes_on e ≡ true
down_goes Onward h = refl
down_goes (Perhaps n) h = refl
down_goes (Always n) h = absurd h
down_goes Final h = absurd h

-- the end of a block, before a block of a number
end_next : (source_end : ℕ) (bs : List Block) (n : ℕ) → next_of bs ≡ Some n → end_of source_end bs ≡ EndOfBlock source_end n
end_next source_end [] n e = absurd cc
end_next source_end (b ∷ bs) n e = let same : b.id ≡ n = cc in ap (EndOfBlock source_end) same

module _ (ends : Ends) (f : Function) where
  abbrev fp : Pos → Fetch
  fp = (paths_of f).fetch

  -- one block, with the blocks from it on
  module _ (block : Block) (rest : List Block) (begins : from_block f.blocks block.id ≡ block ∷ rest) where
    abbrev dead : List Bool
    dead = verdicts block.items (ends block.id)

    pub dead_is : (k : ℕ) → is_dead_at ends f (pos_in block.id k) ≡ get_or (verdicts block.items (ends block.id)) k false
    dead_is k = ap (λ (bs : List Block). begins_dead (rest_in bs k) (ends block.id)) begins ∙ begins_at block.items (ends block.id) k

    pub fetched : (k : ℕ) (i : Item) → slice_get block.items k ≡ Some i → (paths_of f).fetch (pos_in block.id k) ≡ Here i
    fetched k i at = ap (λ (bs : List Block). fetch_in bs k) begins ∙ ap (λ (is : List Item). front is block.source_end rest) (drop_at block.items k i at)

    -- past an item paths say so too
    pub past_wrong : (k : ℕ) (i : Item) (w : Places) (x : Place) → slice_get block.items k ≡ Some i →
        (w x ≡ true → IsWrongAt ends f x (pos_in block.id k)) → wrong_past i.kind (get_or (verdicts block.items (ends block.id)) k false) w x ≡ true →
        (q : Pos) → Edge (paths_of f) (pos_in block.id k) q → IsWrongAt ends f x q
    past_wrong k i w x at so_far e q edge = by_kind i.kind refl (get_or dead k false) refl e where
      defined : (c : ItemKind) → i.kind ≡ c → KindDefines c x → Defines (fp (pos_in block.id k)) x
      defined c is d = subst (λ (z : Fetch). Defines z x) (sym (fetched k i at)) (subst (λ (z : ItemKind). KindDefines z x) (sym is) d)

      undefined : (c : ItemKind) → i.kind ≡ c → Defines (fp (pos_in block.id k)) x → KindDefines c x
      undefined c is d = subst (λ (z : ItemKind). KindDefines z x) is (subst (λ (z : Fetch). Defines z x) (fetched k i at) d)

      by_kind : (c : ItemKind) → i.kind ≡ c → (z : Bool) → get_or dead k false ≡ z → wrong_past c z w x ≡ true → IsWrongAt ends f x q
      by_kind (Code c n) is true goes h = elim (or_cases (defines_of (row_of c) x) (w x) h) [
        | inl d ↦ made (pos_in block.id k) (dead_is k ∙ goes) (defined (Code c n) is d) edge
        | inr v ↦ on (pos_in block.id k) (so_far v) (λ stays. absurd (is_false (is_dead_at ends f (pos_in block.id k)) (dead_is k ∙ goes) stays)) edge
      ]
      by_kind (Code c n) is false stays h =
          let both = and_both (w x) (not (defines_of (row_of c) x)) h in
          on (pos_in block.id k) (so_far both.0) (λ s d. not_true (defines_of (row_of c) x) both.1 (undefined (Code c n) is d)) edge
      by_kind (Mark v m) is z goes h = on (pos_in block.id k) (so_far h) (λ s d. undefined (Mark v m) is d) edge
      by_kind (Phi p n) is z goes h = on (pos_in block.id k) (so_far h) (λ s d. undefined (Phi p n) is d) edge

    edge_by : (k : ℕ) (i : Item) (q : Pos) → slice_get block.items k ≡ Some i → KindEdge Stays i.kind (pos_in block.id k) q →
        Edge (paths_of f) (pos_in block.id k) q
    edge_by k i q at e = subst (λ (z : Fetch). FetchEdge Stays z (pos_in block.id k) q) (sym (fetched k i at)) e

    -- down the block
    pub at_wrong : (start : Places) → ((x : Place) → start x ≡ true → IsWrongAt ends f x (block_start block.id)) → (k : ℕ) (x : Place) →
        wrong_at block.items (verdicts block.items (ends block.id)) k start x ≡ true → IsWrongAt ends f x (pos_in block.id k)
    at_wrong start begun zero x e = begun x e
    at_wrong start begun (suc k) x e = by_item (at_wrong start begun k x) (slice_get block.items k) refl e where
      by_item : (wrong_at block.items (verdicts block.items (ends block.id)) k start x ≡ true → IsWrongAt ends f x (pos_in block.id k)) → (o : Option Item) →
          slice_get block.items k ≡ o →
          wrong_over o (get_or (verdicts block.items (ends block.id)) k false) (wrong_at block.items (verdicts block.items (ends block.id)) k start) x ≡ true →
          IsWrongAt ends f x (pos_in block.id (suc k))
      by_item above None h g = absurd cc
      by_item above (Some i) h g =
          let both = and_both (goes_on (exit_of i.kind))
          (wrong_past i.kind (get_or dead k false) (wrong_at block.items (verdicts block.items (ends block.id)) k start) x) g in
          let one : k + 1 ≡ suc k = omega arith in
          subst (λ (n : ℕ). IsWrongAt ends f x (pos_in block.id n)) one
          (past_wrong k i (wrong_at block.items (verdicts block.items (ends block.id)) k start) x h above both.1 (below (pos_in block.id k))
          (edge_by k i (below (pos_in block.id k)) h (down_edge i.kind (pos_in block.id k) (goes_down (exit_of i.kind) both.0))))

    -- what is handed on is wrong
    pub handed_wrong : (start : Places) → ((x : Place) → start x ≡ true → IsWrongAt ends f x (block_start block.id)) → (count n : ℕ) (x : Place) →
        IsHanded block.items (verdicts block.items (ends block.id)) start count n x → IsWrongAt ends f x (block_start n)
    handed_wrong start begun count n x h =
        past_wrong h.index h.item (wrong_at block.items (verdicts block.items (ends block.id)) h.index start) x h.stands
        (at_wrong start begun h.index x) h.wrong
        (block_start n) (edge_by h.index h.item (block_start n) h.stands (out_edge h.item.kind (pos_in block.id h.index) n h.out))

    end_is : (n : ℕ) → next_of rest ≡ Some n → (paths_of f).fetch (pos_in block.id (length block.items)) ≡ EndOfBlock block.source_end n
    end_is n e = ap (λ (bs : List Block). fetch_in bs (length block.items)) begins ∙
        (ap (λ (is : List Item). front is block.source_end rest) (drop_all block.items) ∙ end_next block.source_end rest n e)

    pub handed_down_wrong : (start : Places) → ((x : Place) → start x ≡ true → IsWrongAt ends f x (block_start block.id)) → (next : Option ℕ) →
        next ≡ next_of rest →
        (n : ℕ) (x : Place) → IsHandedDown block.items (verdicts block.items (ends block.id)) start next n x → IsWrongAt ends f x (block_start n)
    handed_down_wrong start begun next is n x (to, w) =
        let last = end_is n (sym is ∙ to) in
        on (pos_in block.id (length block.items)) (at_wrong start begun (length block.items) x w)
        (λ s d. subst (λ (z : Fetch). Defines z x) last d)
        (subst (λ (z : Fetch). FetchEdge Stays z (pos_in block.id (length block.items)) (block_start n)) (sym last) refl)

    -- what paths say of an item's edges is past the item
    pub wrong_made : (k : ℕ) (i : Item) (w : Places) (x : Place) → slice_get block.items k ≡ Some i → is_dead_at ends f (pos_in block.id k) ≡ true →
        Defines ((paths_of f).fetch (pos_in block.id k)) x → wrong_past i.kind (get_or (verdicts block.items (ends block.id)) k false) w x ≡ true
    wrong_made k i w x at goes d =
        let sure : get_or (verdicts block.items (ends block.id)) k false ≡ true = sym (dead_is k) ∙ goes in
        ap (λ (z : Bool). wrong_past i.kind z w x) sure ∙ by_kind i.kind (subst (λ (z : Fetch). Defines z x) (fetched k i at) d) where
          by_kind : (c : ItemKind) → KindDefines c x → wrong_past c true w x ≡ true
          by_kind (Code c n) h = or_left (defines_of (row_of c) x) (w x) h
          by_kind (Mark v m) h = absurd h
          by_kind (Phi p n) h = absurd h

    pub wrong_on : (k : ℕ) (i : Item) (w : Places) (x : Place) → slice_get block.items k ≡ Some i → w x ≡ true →
        (is_dead_at ends f (pos_in block.id k) ≡ false → Defines ((paths_of f).fetch (pos_in block.id k)) x → ⊥) →
        wrong_past i.kind (get_or (verdicts block.items (ends block.id)) k false) w x ≡ true
    wrong_on k i w x at h keeps = by_kind i.kind refl (get_or dead k false) refl where
      defined : (c : ItemKind) → i.kind ≡ c → KindDefines c x → Defines (fp (pos_in block.id k)) x
      defined c is d = subst (λ (z : Fetch). Defines z x) (sym (fetched k i at)) (subst (λ (z : ItemKind). KindDefines z x) (sym is) d)

      by_kind : (c : ItemKind) → i.kind ≡ c → (z : Bool) → get_or dead k false ≡ z → wrong_past c z w x ≡ true
      by_kind (Code c n) is true goes = or_right (defines_of (row_of c) x) (w x) h
      by_kind (Code c n) is false stays = and_true (w x) (not (defines_of (row_of c) x)) h
          (true_not (defines_of (row_of c) x) (λ d. keeps (dead_is k ∙ stays) (defined (Code c n) is d)))
      by_kind (Mark v m) is z goes = h
      by_kind (Phi p n) is z goes = h

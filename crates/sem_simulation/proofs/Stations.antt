-- Which station what stands at a position is.
use Rattle.std.proofs.Common.{◌≡◌, ℕ, Some, None, Bool, true, false, refl, sym, ap, ◌∙◌}
use Rattle.sem_mir.specs.rv64_instr.Row.{Row, Jumps, row_of}
use Rattle.sem_mir.specs.mir_func.declared.position.Pos.{Pos}
use Rattle.sem_mir.specs.mir_func.declared.item.Item.{Item}
use Rattle.sem_mir.specs.mir_func.declared.item.ItemKind.{ItemKind}
use Rattle.sem_mir.specs.mir_func.declared.item.ItemKind.TheVariants.{Code, Mark, Phi}
use Rattle.sem_mir.specs.State.{Core}
use Rattle.sem_mir.specs.Step.{Falls, does, act, with_core, numbered, do_item}
use Rattle.sem_mir.specs.rv64_instr.LocationEffects.{is_call}
use Rattle.sem_mir.specs.mir_func.Graph.{Program, Fetch, Here, EndOfBlock, Outside, below, KindEdge}
use Rattle.sem_mir.specs.Align.{is_code, is_jump, is_jump_row, SyncPoint, Count, ByItems, ByEnds, ByWords, moves_on, sync_point_of, item_sync_point}
use Rattle.sem_mir.specs.Align.{end_sync_point}
use Rattle.sem_mir.specs.Align.{fetch_sync_point, sync_point_at}
use Rattle.sem_simulation.specs.MatchStates.{IsPastItems}

module _ (count : Count) (h : Program) (p : Pos) where
  pub code_sync_point : (x : Item) → h.fetch p ≡ Here x → is_code x.kind ≡ true → sync_point_at count h p ≡ Some (sync_point_of count x)
  code_sync_point x e k = ap (fetch_sync_point count p.block) e ∙ ap (λ (b : Bool). item_sync_point count b x) k

  pub debug_sync_point : (x : Item) → h.fetch p ≡ Here x → is_code x.kind ≡ false → sync_point_at count h p ≡ None
  debug_sync_point x e k = ap (fetch_sync_point count p.block) e ∙ ap (λ (b : Bool). item_sync_point count b x) k

  pub end_is_sync_point : (k n : ℕ) → h.fetch p ≡ EndOfBlock k n → sync_point_at count h p ≡ end_sync_point count (record { block = p.block; item = k })
  end_is_sync_point k n e = ap (fetch_sync_point count p.block) e

  -- so code is a station, and this one; a debug item is none
  pub code_is_some : (x : Item) → sync_point_at count h p ≡ None → h.fetch p ≡ Here x → is_code x.kind ≡ true → ⊥
  code_is_some x none e k = let bad : None ≡ Some (sync_point_of count x) = sym none ∙ code_sync_point x e k in cc

  pub code_is : (x : Item) (i : SyncPoint) → sync_point_at count h p ≡ Some i → h.fetch p ≡ Here x → is_code x.kind ≡ true → sync_point_of count x ≡ i
  code_is x i s e k = let w : Some (sync_point_of count x) ≡ Some i = sym (code_sync_point x e k) ∙ s in cc

  pub debug_is_none : (x : Item) (i : SyncPoint) → sync_point_at count h p ≡ Some i → h.fetch p ≡ Here x → is_code x.kind ≡ false → ⊥
  debug_is_none x i s e k = let bad : None ≡ Some i = sym (debug_sync_point x e k) ∙ s in cc

  -- a station is a code item's or a block's end's
  pub data IsSyncPointOf (i : SyncPoint) : Type 0 where
    of_item : (x : Item) → h.fetch p ≡ Here x → is_code x.kind ≡ true → sync_point_of count x ≡ i → IsSyncPointOf i
    of_end : (k n : ℕ) → h.fetch p ≡ EndOfBlock k n → count ≡ ByEnds → i ≡ record { pos = record { block = p.block; item = k }; waits = false } →
        IsSyncPointOf i

  pub sync_point_is_of : (i : SyncPoint) → sync_point_at count h p ≡ Some i → IsSyncPointOf i
  sync_point_is_of i e = by_fetch (h.fetch p) refl e where
    by_code : (b : Bool) (x : Item) → is_code x.kind ≡ b → h.fetch p ≡ Here x → item_sync_point count b x ≡ Some i → IsSyncPointOf i
    by_code true x k f q = of_item x f k cc
    by_code false x k f q = cc

    by_end : (d : Count) (k n : ℕ) → count ≡ d → h.fetch p ≡ EndOfBlock k n → end_sync_point d (record { block = p.block; item = k }) ≡ Some i → IsSyncPointOf i
    by_end ByEnds k n cd f q = of_end k n f cd cc
    by_end ByItems k n cd f q = cc
    by_end ByWords k n cd f q = cc

    by_fetch : (x : Fetch) → h.fetch p ≡ x → fetch_sync_point count p.block x ≡ Some i → IsSyncPointOf i
    by_fetch (Here x) f q = by_code (is_code x.kind) x refl f q
    by_fetch (EndOfBlock k n) f q = by_end count k n refl f q
    by_fetch Outside f q = cc

-- ends are stations everywhere or nowhere
pub no_end_sync_points : (count : Count) (p q : Pos) → end_sync_point count p ≡ None → end_sync_point count q ≡ None
no_end_sync_points ByEnds p q e = cc
no_end_sync_points ByItems p q e = refl
no_end_sync_points ByWords p q e = refl

pub not_by_ends : {P : Type 0} (count : Count) (q : Pos) → end_sync_point count q ≡ None → count ≡ ByEnds → P
not_by_ends count q none e = let made : SyncPoint = record { pos = q; waits = false } in
    let bad : Some made ≡ None = ap (λ (z : Count). end_sync_point z q) (sym e) ∙ none in cc

-- an item stands past no items
pub not_past_items : (x : Fetch) (i : Item) → IsPastItems x → x ≡ Here i → ⊥
not_past_items (Here j) i h e = h
not_past_items (EndOfBlock k n) i h e = cc
not_past_items Outside i h e = cc

-- what falls through is no jump
pub falls_no_jump : (g : Program) (k : ItemKind) (c d : Core) → do_item g k c ≡ Falls d → is_jump k ≡ false
falls_no_jump g (Code i n) c d e = by_row (row_of i) e where
  by_row : (r : Row) → with_core (numbered g.sees_pointer (is_call (row_of i)) n i.operands) (act r c) ≡ Falls d → is_jump_row r ≡ false
  by_row (Jumps t) h = unfold act in unfold does in cc
  by_row _ h = refl
falls_no_jump g (Mark v m) c d e = refl
falls_no_jump g (Phi p m) c d e = refl

pub moves_on_less : (count : Count) (k : ItemKind) → is_jump k ≡ false → moves_on count k ≡ false
moves_on_less ByItems k e = e
moves_on_less ByEnds k e = e
moves_on_less ByWords k e = refl

pub falls_stays : (count : Count) (g : Program) (k : ItemKind) (c d : Core) → do_item g k c ≡ Falls d → moves_on count k ≡ false
falls_stays count g k c d e = moves_on_less count k (falls_no_jump g k c d e)

-- a debug item is no code, and goes below
pub not_code : {P : Type 0} (y : Item) → is_code y.kind ≡ false → is_code y.kind ≡ true → P
not_code y e h = let bad : true ≡ false = sym h ∙ e in cc

pub debug_below : (g : Program) (k : ItemKind) → is_code k ≡ false → (p q : Pos) → KindEdge g.enter k p q → q ≡ below p
debug_below g (Code c n) e p q k = cc
debug_below g (Mark v m) e p q k = k
debug_below g (Phi r n) e p q k = k

-- a debug item falls through
pub debug_falls : (g : Program) (k : ItemKind) (c : Core) → is_code k ≡ false → (e : Core) × (do_item g k c ≡ Falls e)
debug_falls g (Code i n) c e = cc
debug_falls g (Mark v m) c e = (_, refl)
debug_falls g (Phi p n) c e = (_, refl)

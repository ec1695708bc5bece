-- At which positions a place may hold another value after dead code is removed, and what debug values and DBG_PHIs
-- become there.
use Rattle.std.specs.Prelude.{◌≡◌, ℕ, suc, List, [], ◌∷◌, map, Some, None, Bool, true, false, cond}
use Rattle.rv64_instr.specs.declared.place.Place.{Place}
use Rattle.rv64_instr.specs.declared.place.Place.TheVariants.{Register}
use Rattle.mir_func.specs.declared.position.Pos.{Pos}
use Rattle.mir_func.specs.declared.variable.MarkValue.TheVariants.{Nothing, Constant, At, Pair}
use Rattle.mir_func.specs.declared.block.Block.{Block}
use Rattle.mir_func.specs.declared.item.Item.{Item}
use Rattle.mir_func.specs.declared.item.ItemKind.{ItemKind}
use Rattle.mir_func.specs.declared.item.ItemKind.TheVariants.{Code, Mark, Phi}
use Rattle.mir_func.specs.Function.{Function}
use Rattle.mir_func.specs.Graph.{block_start, Edge, rest_of}
use Rattle.mir_func.specs.Successors.{GoesTo}
use Rattle.sem_mir.specs.Live.{Defines}
use Rattle.dce_rule.specs.Dead.{Places, Ends, is_dead, needed_at, paths_of}

-- the first of these items is dead code
abbrev pub begins_dead : List Item → (needed : Places) → Bool
begins_dead [] needed = false
begins_dead (i ∷ is) needed = is_dead i.kind (needed_at is needed)

-- a debug value or DBG_PHI of a wrong place becomes undef
abbrev pub silenced : (wrong : Places) → ItemKind → ItemKind
silenced wrong (Code i k) = Code i k
silenced wrong (Mark v (At r)) = cond (wrong (Register r)) (Mark v Nothing) (Mark v (At r))
silenced wrong (Mark v Nothing) = Mark v Nothing
silenced wrong (Mark v (Constant n)) = Mark v (Constant n)
silenced wrong (Mark v (Pair q)) = Mark v (Pair q)
silenced wrong (Phi (Some x) k) = cond (wrong x) (Phi None k) (Phi (Some x) k)
silenced wrong (Phi None k) = Phi None k

-- the items from an index on, without dead code; debug values and DBG_PHIs of the places that are wrong at their index
-- are undef
abbrev pub silenced_left : (wrong : ℕ → Places) → (index : ℕ) → List Item → (needed : Places) → List Item
silenced_left wrong n [] needed = []
silenced_left wrong n (i ∷ is) needed = cond (is_dead i.kind (needed_at is needed)) (silenced_left wrong (suc n) is needed)
    (record i { kind = silenced (wrong n) i.kind } ∷ silenced_left wrong (suc n) is needed)

-- a block without its dead code, in which debug values and DBG_PHIs of wrong places are undef
abbrev pub silenced_block : (wrong : Pos → Places) → Ends → Block → Block
silenced_block wrong ends b = record {
  id = b.id;
  items = silenced_left (λ n. wrong (record { block = b.id; item = n })) 0 b.items (ends b.id);
  source_end = b.source_end;
}

-- the function without its dead code, if these places are wrong at each position
abbrev pub taken_out : (wrong : Pos → Places) → Ends → Function → Function
taken_out wrong ends f = record f { blocks = map (silenced_block wrong ends) f.blocks }

module _ (ends : Ends) (f : Function) where
  -- the item at a position is dead code
  abbrev pub is_dead_at : Pos → Bool
  is_dead_at p = begins_dead (rest_of f.blocks p) (ends p.block)

  -- some path leads here from dead code that defines the place, and passes no code that is kept and defines it
  pub data IsWrongAt (x : Place) : Pos → Type 0 where
    made : (p : Pos) {q : Pos} → is_dead_at p ≡ true → Defines ((paths_of f).fetch p) x → Edge (paths_of f) p q → IsWrongAt x q
    on : (p : Pos) {q : Pos} → IsWrongAt x p → (is_dead_at p ≡ false → Defines ((paths_of f).fetch p) x → ⊥) → Edge (paths_of f) p q → IsWrongAt x q

  -- what a block needs at its start, except x0, is needed at the end of each predecessor
  abbrev pub IsClosed : Type 0
  IsClosed = (b n : ℕ) (x : Place) → (x ≡ Register 0 → ⊥) → GoesTo (paths_of f) b n →
      needed_at (rest_of f.blocks (block_start n)) (ends n) x ≡ true → ends b x ≡ true

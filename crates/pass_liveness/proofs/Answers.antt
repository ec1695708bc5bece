-- What the sets at the starts of blocks tell of other positions.
use Rattle.std.proofs.Common.{◌≡◌, ◌↔◌, ◌⊎◌, ℕ, suc, ◌+◌, Bool, true, false, ◌||◌, List, [], ◌∷◌, drop, Option, Some}
use Rattle.std.proofs.Common.{refl, sym, ap, ◌∙◌, inl, inr, arith, subst}
use Rattle.std.specs.Prelude.{slice_get, Contains}
use Rattle.rv64_instr.specs.declared.place.Place.{Place}
use Rattle.mir_func.specs.declared.block.Block.{Block}
use Rattle.mir_func.specs.declared.debug_substitution.OperandPair.{OperandPair}
use Rattle.mir_func.specs.declared.exit.Exit.{Exit}
use Rattle.mir_func.specs.declared.exit.Exit.TheVariants.{Onward, Perhaps, Always, Final}
use Rattle.mir_func.specs.declared.item.Item.{Item}
use Rattle.mir_func.specs.declared.position.Pos.{Pos}
use Rattle.mir_func.specs.Exits.{exit_of}
use Rattle.mir_func.specs.Function.{Function}
use Rattle.mir_func.specs.Graph.{Fetch, Here, FetchEdge, program_of, below, block_start, from_block, front, fetch_in}
use Rattle.mir_func.specs.Sound.{AreApart, ids_of}
use Rattle.mir_func.specs.Successors.{pos_in, GoesTo}
use Rattle.mir_func.proofs.Ways.{IsDown, IsOut}
use Rattle.sem_mir.specs.Live.{Live}
use Rattle.pass_liveness.specs.Walk.{live_from, live_across}
use Rattle.pass_liveness.specs.Liveness.{LiveSets, AreLiveSets, DecidesIn, LivePast, LiveOut, has_at_start}
use Rattle.pass_liveness.specs.Solving.{AreFound}
use Rattle.pass_liveness.proofs.Edges.{Stays, kind_edge, down_edge, out_edge}
use Rattle.pass_liveness.proofs.Paths.{LiveFrom, WalkedIn, walk_is_live, live_is_walked}
use Rattle.pass_liveness.proofs.Facts.{walk_facts}
use Rattle.pass_liveness.proofs.Blocks.{from_block-at, next_of-drop}
use Rattle.pass_liveness.proofs.Visits.{walked_is_live}

module _ (f : Function) (l : LiveSets) (sets : AreLiveSets f l) (apart : AreApart (ids_of f.blocks)) (b : ℕ) (block : Block)
    (at : slice_get f.blocks b ≡ Some block) where
  abbrev Starts : ℕ → Place → Bool
  Starts n x = has_at_start l.slots l.blocks l.starts n x

  found : AreFound l.slots l.blocks f.blocks l.starts
  found sp resolve n x e = (sets.starts n x sp resolve).0 e

  closed : (sp : Bool) (resolve : OperandPair → Option OperandPair) (x : Place) (n : ℕ) →
      WalkedIn sp f.blocks resolve x (λ m. has_at_start l.slots l.blocks l.starts m x ≡ true) (from_block f.blocks n) 0 →
      has_at_start l.slots l.blocks l.starts n x ≡ true
  closed sp resolve x n w = (sets.starts n x sp resolve).1 (by_blocks (from_block f.blocks n) refl w) where
    by_blocks : (fbs : List Block) → from_block f.blocks n ≡ fbs →
        WalkedIn sp f.blocks resolve x (λ m. has_at_start l.slots l.blocks l.starts m x ≡ true) fbs 0 → Live (program_of sp f.blocks resolve) x (block_start n)
    by_blocks [] e w = absurd w
    by_blocks (c ∷ cs) e w =
        walk_is_live sp f.blocks resolve x (λ m. has_at_start l.slots l.blocks l.starts m x ≡ true) (λ m s. (sets.starts m x sp resolve).0 s) n 0 c.items
        c.source_end cs
        (λ j. let z : 0 + j ≡ j = omega arith in ap (fetch_in (from_block f.blocks n)) z ∙ ap (λ (bs : List Block). fetch_in bs j) e) w

  -- at a position
  pub live_at_position : (x : Place) (k : ℕ) → DecidesIn f (λ g. Live g x (pos_in block.id k))
      (live_from (has_at_start l.slots l.blocks l.starts) (drop k block.items) (slice_get (ids_of f.blocks) (suc b)) x)
  live_at_position x k sp resolve = (
    walked_is_live l.slots l.blocks f.blocks l.starts b block apart at found sp resolve k x,
    λ live.
        let begins = from_block-at f.blocks b block apart at in
        let walk = live_is_walked sp f.blocks resolve x (λ m. has_at_start l.slots l.blocks l.starts m x ≡ true) (closed sp resolve x) live in
        let here = subst (λ (bs : List Block). WalkedIn sp f.blocks resolve x (λ m. has_at_start l.slots l.blocks l.starts m x ≡ true) bs k) begins walk in
        (walk_facts x (has_at_start l.slots l.blocks l.starts) (drop k block.items) (slice_get (ids_of f.blocks) (suc b))).1
        (subst (λ (o : Option ℕ). LiveFrom x (λ m. has_at_start l.slots l.blocks l.starts m x ≡ true) (drop k block.items) o) (next_of-drop f.blocks (suc b))
        here),
  )

  or_cases : (p q : Bool) → (p || q) ≡ true → (p ≡ true) ⊎ (q ≡ true)
  or_cases true q e = inl refl
  or_cases false q e = inr e

  across_cases : (x : Place) (e : Exit) (t : Bool) → live_across (has_at_start l.slots l.blocks l.starts) e t x ≡ true →
      (IsDown e × (t ≡ true)) ⊎ ((n : ℕ) × IsOut e n × (has_at_start l.slots l.blocks l.starts n x ≡ true))
  across_cases x Onward t h = inl (tt, h)
  across_cases x (Perhaps n) t h = elim (or_cases t (has_at_start l.slots l.blocks l.starts n x) h) [ inl u ↦ inl (tt, u) | inr v ↦ inr (n, refl, v) ]
  across_cases x (Always n) t h = inr (n, refl, h)
  across_cases x Final t h = absurd cc

  across_down : (x : Place) (e : Exit) (t : Bool) → IsDown e → t ≡ true → live_across (has_at_start l.slots l.blocks l.starts) e t x ≡ true
  across_down x Onward t d h = h
  across_down x (Perhaps n) t d h = ap (λ (c : Bool). c || has_at_start l.slots l.blocks l.starts n x) h
  across_down x (Always n) t d h = absurd d
  across_down x Final t d h = absurd d

  or_right : (p q : Bool) → q ≡ true → (p || q) ≡ true
  or_right true q e = refl
  or_right false q e = e

  across_out : (x : Place) (e : Exit) (t : Bool) (n : ℕ) → IsOut e n → has_at_start l.slots l.blocks l.starts n x ≡ true →
      live_across (has_at_start l.slots l.blocks l.starts) e t x ≡ true
  across_out x Onward t n o h = absurd o
  across_out x (Perhaps m) t n o h = or_right t (has_at_start l.slots l.blocks l.starts m x)
      (subst (λ (k : ℕ). has_at_start l.slots l.blocks l.starts k x ≡ true) (sym o) h)
  across_out x (Always m) t n o h = subst (λ (k : ℕ). has_at_start l.slots l.blocks l.starts k x ≡ true) (sym o) h
  across_out x Final t n o h = absurd o

  -- past the item at a position
  pub live_past_position : (x : Place) (k : ℕ) (i : Item) → drop k block.items ≡ i ∷ drop (suc k) block.items →
      DecidesIn f (λ g. LivePast g x (pos_in block.id k))
      (live_across (has_at_start l.slots l.blocks l.starts) (exit_of i.kind)
      (live_from (has_at_start l.slots l.blocks l.starts) (drop (suc k) block.items) (slice_get (ids_of f.blocks) (suc b)) x) x)
  live_past_position x k i here sp resolve =
      let begins = from_block-at f.blocks b block apart at in
      let fetched : fetch_in (from_block f.blocks block.id) k ≡ Here i =
      ap (λ (bs : List Block). fetch_in bs k) begins ∙ ap (λ (is : List Item). front is block.source_end (drop (suc b) f.blocks)) here in
      let p = pos_in block.id k in
      let one : k + 1 ≡ suc k = omega arith in
      let under : below p ≡ pos_in block.id (suc k) = ap (pos_in block.id) one in
      let rest = live_from (has_at_start l.slots l.blocks l.starts) (drop (suc k) block.items) (slice_get (ids_of f.blocks) (suc b)) x in (
        λ h. elim (across_cases x (exit_of i.kind) rest h) [
          | inl (d, r) ↦ (
            pos_in block.id (suc k),
            subst (λ (q : Pos). FetchEdge Stays (fetch_in (from_block f.blocks block.id) k) p q) under
                (subst (λ (e : Fetch). FetchEdge Stays e p (below p)) (sym fetched) (down_edge i.kind p d)),
            (live_at_position x (suc k) sp resolve).0 r,
          )
          | inr (n, o, s) ↦ (
            block_start n,
            subst (λ (e : Fetch). FetchEdge Stays e p (block_start n)) (sym fetched) (out_edge i.kind p n o),
            (sets.starts n x sp resolve).0 s,
          )
        ],
        λ (q, e, live). elim (kind_edge i.kind p q (subst (λ (t : Fetch). FetchEdge Stays t p q) fetched e)) [
          | inl (d, o) ↦ across_down x (exit_of i.kind) rest o ((live_at_position x (suc k) sp resolve).1
              (subst (λ (r : Pos). Live (program_of sp f.blocks resolve) x r) (d ∙ under) live))
          | inr (n, s, o) ↦ across_out x (exit_of i.kind) rest n o ((sets.starts n x sp resolve).1
              (subst (λ (r : Pos). Live (program_of sp f.blocks resolve) x r) s live))
        ],
      )

-- past a block, by the numbers of the blocks to which control may go
pub live_out_by : (f : Function) (l : LiveSets) → AreLiveSets f l → (b : ℕ) (x : Place) (ns : List ℕ) →
    ((sp : Bool) (resolve : OperandPair → Option OperandPair) (n : ℕ) → Contains ns n ↔ GoesTo (program_of sp f.blocks resolve) b n) → (t : Bool) →
    (t ≡ true) ↔ ((n : ℕ) × Contains ns n × (has_at_start l.slots l.blocks l.starts n x ≡ true)) → DecidesIn f (λ g. LiveOut g x b) t
live_out_by f l sets b x ns goes t test sp resolve = (
  λ e. let h = test.0 e in (h.0, (goes sp resolve h.0).0 h.1, (sets.starts h.0 x sp resolve).0 h.2),
  λ (n, g, live). test.1 (n, (goes sp resolve n).1 g, (sets.starts n x sp resolve).1 live),
)

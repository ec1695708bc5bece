-- A register that is live past a position is live after the point of its code.
use Rattle.std.proofs.Common.{◌≡◌, ◌↔◌, ℕ, zero, suc, ◌+◌, List, [], ◌∷◌, drop, Option, None, Bool, true, false, ◌||◌}
use Rattle.std.proofs.Common.{refl, sym, ap, ◌∙◌, subst, inl, inr, arith}
use Rattle.rv64_instr.specs.declared.place.Place.{Place}
use Rattle.rv64_instr.specs.declared.place.Place.TheVariants.{Register}
use Rattle.mir_func.specs.declared.block.Block.{Block}
use Rattle.mir_func.specs.declared.debug_substitution.OperandPair.{OperandPair}
use Rattle.mir_func.specs.declared.exit.Exit.{Exit}
use Rattle.mir_func.specs.declared.exit.Exit.TheVariants.{Onward, Perhaps, Always, Final}
use Rattle.mir_func.specs.declared.item.Item.{Item}
use Rattle.mir_func.specs.declared.position.Pos.{Pos}
use Rattle.mir_func.specs.Exits.{exit_of}
use Rattle.mir_func.specs.Function.{Function}
use Rattle.mir_func.specs.Graph.{Fetch, Here, FetchEdge, Program, block_start, front, fetch_in, from_block, program_of}
use Rattle.mir_func.proofs.Ways.{IsDown, IsOut}
use Rattle.pass_liveness.specs.sem_mir.Live.{Live}
use Rattle.pass_liveness.specs.Walk.{live_across, live_from}
use Rattle.pass_liveness.specs.Liveness.{LivePast}
use Rattle.pass_liveness.proofs.Edges.{Stays, kind_edge}
use Rattle.pass_liveness.proofs.Facts.{walk_facts}
use Rattle.pass_liveness.proofs.Paths.{LiveFrom, WalkedIn, next_of as next_below, walk_is_live, live_is_walked}
use Rattle.pass_liveness.proofs.Stripped.{live_stripped}
use Rattle.scan_intervals.specs.Liveness.{Decides, at_starts}
use Rattle.scan_intervals.specs.Points.{next_of, is_live_after}

same_next : (bs : List Block) → next_below bs ≡ next_of bs
same_next [] = refl
same_next (b ∷ bs) = refl

drop_more : (xs : List Item) (k : ℕ) (i : Item) (rest : List Item) → drop k xs ≡ i ∷ rest → drop (suc k) xs ≡ rest
drop_more [] zero i rest e = cc
drop_more [] (suc k) i rest e = cc
drop_more (x ∷ xs) zero i rest e = let others : xs ≡ rest = cc in drop_none xs ∙ others where
  drop_none : (ys : List Item) → drop 0 ys ≡ ys
  drop_none [] = refl
  drop_none (y ∷ ys) = refl
drop_more (x ∷ xs) (suc k) i rest e = drop_more xs k i rest e

or_right : (a b : Bool) → b ≡ true → (a || b) ≡ true
or_right true b e = refl
or_right false b e = e

module _ (starts : ℕ → Place → Bool) (x : Place) where
  across_down : (e : Exit) (t : Bool) → IsDown e → t ≡ true → live_across starts e t x ≡ true
  across_down Onward t d h = h
  across_down (Perhaps n) t d h = ap (λ (c : Bool). c || starts n x) h
  across_down (Always n) t d h = absurd d
  across_down Final t d h = absurd d

  across_out : (e : Exit) (t : Bool) (n : ℕ) → IsOut e n → starts n x ≡ true → live_across starts e t x ≡ true
  across_out Onward t n o h = absurd o
  across_out (Perhaps m) t n o h = or_right t (starts m x) (subst (λ (k : ℕ). starts k x ≡ true) (sym o) h)
  across_out (Always m) t n o h = subst (λ (k : ℕ). starts k x ≡ true) (sym o) h
  across_out Final t n o h = absurd o

-- the test is right whatever pairs resolve to
pub decided_starts : (f : Function) (live : ℕ → ℕ → Bool) (resolve : OperandPair → Option OperandPair) → Decides f live → (n r : ℕ) →
    (live n r ≡ true) ↔ Live (program_of false f.blocks resolve) (Register r) (block_start n)
decided_starts f live resolve decides n r =
    let first = live_stripped false false f.blocks (λ q. None) (λ q. None) (Register r) n in
    let second = live_stripped false false f.blocks resolve (λ q. None) (Register r) n in (
      λ t. second.1 (first.0 ((decides n r).0 t)),
      λ l. (decides n r).1 (first.1 (second.0 l)),
    )

module _ (blocks : List Block) (resolve : OperandPair → Option OperandPair) (live : ℕ → ℕ → Bool)
    (decided : (n r : ℕ) → (live n r ≡ true) ↔ Live (program_of false blocks resolve) (Register r) (block_start n)) (r : ℕ) where
  abbrev g : Program
  g = program_of false blocks resolve

  abbrev x : Place
  x = Register r

  abbrev IsStart : ℕ → Type 0
  IsStart n = at_starts live n x ≡ true

  zero_on : (j : ℕ) → 0 + j ≡ j
  zero_on j = omega arith

  closed : (n : ℕ) → WalkedIn false blocks resolve x IsStart (from_block blocks n) 0 → IsStart n
  closed n w = (decided n r).1 (by_blocks (from_block blocks n) refl w) where
    by_blocks : (fbs : List Block) → from_block blocks n ≡ fbs → WalkedIn false blocks resolve x IsStart fbs 0 → Live g x (block_start n)
    by_blocks [] e w = absurd w
    by_blocks (c ∷ cs) e w =
        walk_is_live false blocks resolve x IsStart (λ m s. (decided m r).0 s) n 0 c.items c.source_end cs
        (λ j. ap (fetch_in (from_block blocks n)) (zero_on j) ∙ ap (λ (bs : List Block). fetch_in bs j) e) w

  pub after_live : (p : Pos) (b : Block) (cs : List Block) (i : Item) (rest : List Item) → from_block blocks p.block ≡ b ∷ cs →
      drop p.item b.items ≡ i ∷ rest → LivePast g x p → is_live_after (at_starts live) i.kind rest (next_of cs) r ≡ true
  after_live p b cs i rest found at (q, edge, alive) =
      let fetched : fetch_in (from_block blocks p.block) p.item ≡ Here i =
      ap (λ (bs : List Block). fetch_in bs p.item) found ∙ ap (λ (is : List Item). front is b.source_end cs) at in
      let under : Bool = live_from (at_starts live) rest (next_of cs) x in
      elim (kind_edge i.kind p q (subst (λ (t : Fetch). FetchEdge Stays t p q) fetched edge)) [
        | inl (down, d) ↦
            let next : p.item + 1 ≡ suc p.item = omega arith in
            let more : drop (p.item + 1) b.items ≡ rest = ap (λ (k : ℕ). drop k b.items) next ∙ drop_more b.items p.item i rest at in
            let walked : WalkedIn false blocks resolve x IsStart (from_block blocks p.block) (p.item + 1) =
            subst (λ (t : Pos). WalkedIn false blocks resolve x IsStart (from_block blocks t.block) t.item) down
            (live_is_walked false blocks resolve x IsStart closed alive) in
            let here : LiveFrom x IsStart (drop (p.item + 1) b.items) (next_below cs) =
            subst (λ (bs : List Block). WalkedIn false blocks resolve x IsStart bs (p.item + 1)) found walked in
            let there : LiveFrom x IsStart rest (next_of cs) =
            subst (λ (o : Option ℕ). LiveFrom x IsStart rest o) (same_next cs) (subst (λ (is : List Item). LiveFrom x IsStart is (next_below cs)) more here) in
            across_down (at_starts live) x (exit_of i.kind) under d ((walk_facts x (at_starts live) rest (next_of cs)).1 there)
        | inr (n, is_start, o) ↦
            across_out (at_starts live) x (exit_of i.kind) under n o
            ((decided n r).1 (subst (λ (t : Pos). Live g x t) is_start alive))
      ]

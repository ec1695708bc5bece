-- The runs of the function and of the one with physical registers, item by item: a change in place.
use Rattle.std.proofs.Common.{◌≡◌, ◌⊎◌, inl, inr, ℕ, ◌+◌, List, [], ◌∷◌, drop, All, Option, Some, Bool, true, false, refl, sym, ap, ◌∙◌, subst}
use Rattle.rv64_instr.specs.declared.place.Place.TheVariants.{Register}
use Rattle.rv64_instr.specs.Instruction.{Instruction}
use Rattle.mir_func.specs.declared.block.Block.{Block}
use Rattle.mir_func.specs.declared.debug_substitution.OperandPair.{OperandPair}
use Rattle.mir_func.specs.declared.item.Item.{Item}
use Rattle.mir_func.specs.declared.item.ItemKind.{ItemKind}
use Rattle.mir_func.specs.declared.item.ItemKind.TheVariants.{Code, Mark, Phi}
use Rattle.mir_func.specs.declared.position.Origin.{Origin}
use Rattle.mir_func.specs.declared.position.Origin.TheVariants.{Kept, Before}
use Rattle.mir_func.specs.declared.position.Pos.{Pos}
use Rattle.mir_func.specs.Graph.{Program, Fetch, Here, EndOfBlock, Edge, FetchEdge, below, block_start, front, fetch_in, from_block, index_of}
use Rattle.mir_func.specs.Graph.{rest_of, rest_in}
use Rattle.mir_func.specs.Positions.{position_of}
use Rattle.mir_func.specs.Sound.{AreApart, ids_of, HasForm, OriginIn}
use Rattle.sem_mir.specs.Align.{is_code, Count, moves_on, waits_at, end_sync_point, sync_point_at, sync_point_of, IsOrigin, Since, After, since_of, AnyOrigin}
use Rattle.sem_mir.specs.Align.{RunsMatch}
use Rattle.sem_mir.specs.Effects.{EndAlike}
use Rattle.sem_mir.specs.Follow.{InOrder}
use Rattle.sem_mir.specs.Live.{Defines}
use Rattle.sem_mir.specs.State.{Core, State}
use Rattle.sem_mir.specs.Step.{Outcome, Falls, Goes, Gives, Traps, Asks, Breaks, do_item}
use Rattle.sem_mir.proofs.Edges.{step_edge}
use Rattle.sem_mir.proofs.Outcomes.{step_item}
use Rattle.sem_simulation.specs.MatchStates.{Sides, MatchStates, since_item}
use Rattle.sem_simulation.specs.InPlace.{TrapsAlone, DoAlike, View, ended, bolder, paired, InPlace}
use Rattle.sem_simulation.proofs.InPlace.{in_place_follows}
use Rattle.sem_simulation.proofs.Laid.{laid_out, in_order_at, one_end, from_home, from_within, from_before_end, falls_down}
use Rattle.sem_simulation.proofs.Stations.{code_sync_point, end_is_sync_point, IsSyncPointOf, of_item, of_end, sync_point_is_of}
use Rattle.scan_rule.proofs.pass_trait.Thinning.{none_of_front}
use Rattle.scan_rule.specs.scan_allocation.Coloring.{IsColoring}
use Rattle.scan_rule.specs.Rewrite.{kind_now, items_now, blocks_now}
use Rattle.scan_simulation.specs.Follows.{SilencesWrong}
use Rattle.scan_simulation.proofs.Debug.{near_move, debug_does}
use Rattle.scan_simulation.proofs.Fetching.{at_place, f as before, g as after, item_from, end_from, rest_now}
use Rattle.scan_simulation.proofs.Near.{Near}
use Rattle.scan_simulation.proofs.Next.{Next, GivesNothing, code_does}
use Rattle.scan_simulation.proofs.Rows.{code_now, moves_now}

after_kept : (o : Origin) (z : Bool) → ((q : Pos) → o ≡ Before q → ⊥) → since_of (waits_at z o) ≡ After
after_kept (Kept p) z h = refl
after_kept (Before p) z h = absurd (h p refl)

alone_by : (m : Since) (y : Outcome) → GivesNothing y → m ≡ After → TrapsAlone m Traps y
alone_by m (Falls c) h e = e
alone_by m (Goes n c) h e = e
alone_by m (Gives v) h e = h
alone_by m Traps h e = e
alone_by m Asks h e = e
alone_by m Breaks h e = e

traps_alone : (m : Since) (x y : Outcome) → x ≡ Traps → GivesNothing y → m ≡ After → TrapsAlone m x y
traps_alone m x y stops h e = subst (λ (z : Outcome). TrapsAlone m z y) (sym stops) (alone_by m y h e)

module _ (blocks : List Block) (resolve : OperandPair → Option OperandPair) (given : ℕ → Option ℕ) (silent : Pos → ℕ → Bool)
    (col : IsColoring (before given silent blocks resolve) given) (start : Pos) (wrong : SilencesWrong (before given silent blocks resolve) start given silent)
    (forms : (p : Pos) (i : Item) → (before given silent blocks resolve).fetch p ≡ Here i → HasForm i.kind) where
  abbrev f : Program
  f = before given silent blocks resolve

  abbrev g : Program
  g = after given silent blocks resolve

  abbrev new : List Block
  new = blocks_now given silent blocks

  abbrev N : Pos → Core → Core → Type 0
  N = Near f given col start

  -- past the last item of a block each position is the block's end
  same_end : (p q : Pos) (j n : ℕ) → p.block ≡ q.block → rest_of blocks q ≡ [] → f.fetch p ≡ EndOfBlock j n → f.fetch q ≡ EndOfBlock j n
  same_end p q j n same none e = by_blocks (from_block blocks p.block) refl e where
    by_blocks : (bs : List Block) → from_block blocks p.block ≡ bs → fetch_in bs p.item ≡ EndOfBlock j n → f.fetch q ≡ EndOfBlock j n
    by_blocks [] h e = cc
    by_blocks (b ∷ bs) h e =
        let t = none_of_front (drop p.item b.items) b.source_end bs j n e in
        let at : from_block blocks q.block ≡ b ∷ bs = ap (from_block blocks) (sym same) ∙ h in
        let rest : drop q.item b.items ≡ [] = ap (λ (x : List Block). rest_in x q.item) (sym at) ∙ none in
        ap (λ (x : List Block). fetch_in x q.item) at ∙ ap (λ (x : List Item). front x b.source_end bs) rest ∙ t.1

  near_end : (q : Pos) (j n : ℕ) (c d : Core) → f.fetch q ≡ EndOfBlock j n → N q c d → N (block_start n) c d
  near_end q j n c d at near =
      near_move blocks new resolve given col start q (block_start n) c d near
      (λ r df. subst (λ (x : Fetch). Defines x (Register r)) at df)
      (subst (λ (x : Fetch). FetchEdge (λ m. m) x q (block_start n)) (sym at) refl)

  module _ (ct : Count) (src : Program) (s0 : State)
      (moves : (p : Pos) (x : Item) → f.fetch p ≡ Here x → (c c' : Core) (n : ℕ) → do_item f x.kind c ≡ Goes n c' → since_item ct x ≡ After) where
    abbrev rf : Pos → List Item
    rf = rest_of blocks

    abbrev rg : Pos → List Item
    rg = rest_of new

    abbrev sides : Sides
    sides = record { old = record { program = f; rest = rf; start = s0 }; new = record { program = g; rest = rg; start = s0 } }

    abbrev match_states : MatchStates
    match_states = record {
      Stage = ℕ;
      entry = λ n. 0;
      MatchItems = λ k b xs ys. (xs ≡ rf (record { block = b; item = k })) × (ys ≡ items_now given silent b k xs);
      MatchCores = λ k b xs ys c d. N (record { block = b; item = k }) c d;
    }

    module _ (p : Pos) (x : Item) (at : f.fetch p ≡ Here x) where
      edge_falls : (c e : Core) → do_item f x.kind c ≡ Falls e → Edge f p (below p)
      edge_falls c e does =
          step_edge f (record { pos = p; core = c }) (record { pos = below p; core = e }) (step_item f (record { pos = p; core = c }) x (Falls e) at does)

      edge_goes : (c e : Core) (n : ℕ) → do_item f x.kind c ≡ Goes n e → Edge f p (block_start n)
      edge_goes c e n does =
          step_edge f (record { pos = p; core = c }) (record { pos = block_start n; core = e })
          (step_item f (record { pos = p; core = c }) x (Goes n e) at does)

      alike_do : (i : Instruction) (n : Option ℕ) (kind : x.kind ≡ Code i n) (form : HasForm (Code i n)) (xs ys : List Item) (c : Core) (o o' : Outcome) →
          do_item f x.kind c ≡ o → EndAlike (Next f given col start p x i n at kind form) o o' →
          DoAlike ct src sides match_states p.block xs ys (since_item ct x) (p.item + 1) o o'
      alike_do i n kind form xs ys c (Falls e) (Falls e') does h = h (below p) (edge_falls c e does)
      alike_do i n kind form xs ys c (Goes m e) (Goes m' e') does h = (h.0, (moves p x at c e m does, h.1 (block_start m) (edge_goes c e m does)))
      alike_do i n kind form xs ys c (Gives v) (Gives w) does h = h
      alike_do i n kind form xs ys c Traps Traps does h = tt
      alike_do i n kind form xs ys c Asks Asks does h = tt
      alike_do i n kind form xs ys c Breaks Breaks does h = tt
      alike_do i n kind form xs ys c _ _ does h = absurd h

      -- code of each
      code_view : (xs ys : List Item) → is_code x.kind ≡ true → (c d : Core) → N p c d →
          DoAlike ct src sides match_states p.block xs ys (since_item ct x) (p.item + 1) (do_item f x.kind c) (do_item g (at_place given silent p x).kind d) ⊎
          TrapsAlone (since_item ct x) (do_item f x.kind c) (do_item g (at_place given silent p x).kind d)
      code_view xs ys code c d near = by_kind x.kind refl code where
        Goal : ItemKind → Type 0
        Goal k = DoAlike ct src sides match_states p.block xs ys (since_item ct x) (p.item + 1) (do_item f k c) (do_item g (kind_now given (silent p) k) d) ⊎
            TrapsAlone (since_item ct x) (do_item f k c) (do_item g (kind_now given (silent p) k) d)

        by_code : (i : Instruction) (n : Option ℕ) → x.kind ≡ Code i n → Goal (Code i n)
        by_code i n kind =
            let form : HasForm (Code i n) = subst HasForm kind (forms p x at) in
            elim (code_does f given col start p x i n at kind form c d near) as (λ _. Goal (Code i n)) [
              | inl alike ↦ inl (alike_do i n kind form xs ys c (do_item f (Code i n) c) (do_item g (kind_now given (silent p) (Code i n)) d)
                  (ap (λ (k : ItemKind). do_item f k c) kind) alike)
              | inr (stops, nothing, kept) ↦ inr (traps_alone (since_item ct x) (do_item f (Code i n) c) (do_item g (kind_now given (silent p) (Code i n)) d)
                  stops nothing (after_kept x.origin (moves_on ct x.kind) kept))
            ]

        by_kind : (k : ItemKind) → x.kind ≡ k → is_code k ≡ true → Goal x.kind
        by_kind (Code i n) kind e = subst Goal (sym kind) (by_code i n kind)
        by_kind (Mark v m) kind e = cc
        by_kind (Phi q n) kind e = cc

    view_at : (b k : ℕ) (x : Item) (xs : List Item) → x ∷ xs ≡ rf (record { block = b; item = k }) →
        View ct src sides match_states b k (x ∷ xs) (items_now given silent b k (x ∷ xs))
    view_at b k x xs e = by_code (is_code x.kind) refl where
      p : Pos
      p = record { block = b; item = k }

      stands : (f.fetch p ≡ Here x) × (rf (below p) ≡ xs)
      stands = (laid_out false blocks resolve).cons p x xs (sym e)

      by_code : (z : Bool) → is_code x.kind ≡ z → View ct src sides match_states b k (x ∷ xs) (items_now given silent b k (x ∷ xs))
      by_code true code =
          bolder {k' = k + 1} code (code_now f given col (silent p) x.kind ∙ code) refl (moves_now f given col (silent p) ct x.kind) (sym stands.1, refl)
          (λ c d near. code_view p x stands.0 xs (items_now given silent b (k + 1) xs) code c d near)
      by_code false plain =
          paired {k' = k + 1} plain (code_now f given col (silent p) x.kind ∙ plain) (sym stands.1, refl)
          (λ c d near. debug_does blocks new resolve given col start silent wrong p x stands.0 plain c d near)

    view : (k b : ℕ) (xs ys : List Item) → match_states.MatchItems k b xs ys → View ct src sides match_states b k xs ys
    view k b [] ys (e, e') = subst (View ct src sides match_states b k []) (sym e') ended
    view k b (x ∷ xs) ys (e, e') = subst (View ct src sides match_states b k (x ∷ xs)) (sym e') (view_at b k x xs e)

    origin_from : (p : Pos) → IsOrigin (sync_point_at ct g) p → IsOrigin (sync_point_at ct f) p
    origin_from p o = by_sync_point (sync_point_is_of ct g o.place o.sync_point o.stands) where
      by_sync_point : IsSyncPointOf ct g o.place o.sync_point → IsOrigin (sync_point_at ct f) p
      by_sync_point (of_item y at code st) =
          let w = item_from given silent blocks resolve o.place y at in
          let x = w.0 in
          let old_code : is_code x.kind ≡ true = sym (code_now f given col (silent o.place) x.kind) ∙ ap (λ (z : Item). is_code z.kind) (sym w.2) ∙ code in
          let same : sync_point_of ct x ≡ sync_point_of ct y =
          (λ t. record { pos = position_of x.origin; waits = waits_at (moves_now f given col (silent o.place) ct x.kind t) x.origin }) ∙
          ap (sync_point_of ct) (sym w.2) in
          record { place = o.place; sync_point = o.sync_point; stands = code_sync_point ct f o.place x w.1 old_code ∙ ap Some same ∙ ap Some st; from = o.from }
      by_sync_point (of_end k n at ends st) =
          let w = end_from given silent blocks resolve o.place k n at in
          record {
            place = o.place;
            sync_point = o.sync_point;
            stands = end_is_sync_point ct f o.place k n w ∙
                ap (λ (z : Count). end_sync_point z (record { block = o.place.block; item = k })) ends ∙ ap Some (sym st);
            from = o.from;
          }

    -- the function with physical registers runs along where the other did
    pub allotted_runs : AreApart (ids_of blocks) → All (λ (b : Block). InOrder b.id 0 b.items) blocks →
        All (λ (b : Block). InOrder b.id 0 b.items) new →
        All (λ (b : Block). All (λ (i : Item). OriginIn b i.origin) b.items) blocks →
        All (λ (b : Block). All (λ (i : Item). OriginIn b i.origin) b.items) new →
        s0.pos.item ≡ 0 → N s0.pos s0.core s0.core →
        RunsMatch src f (sync_point_at ct f) (AnyOrigin (sync_point_at ct f)) s0 s0 →
        RunsMatch src g (sync_point_at ct g) (AnyOrigin (sync_point_at ct g)) s0 s0
    allotted_runs apart ordered ordered' origins origins' first near runs =
        in_place_follows match_states ct src sides (index_of blocks) in_place first refl
        (subst (λ (k : ℕ). N (record { block = s0.pos.block; item = k }) s0.core s0.core) first near) runs where
          in_place : InPlace ct src sides match_states (index_of blocks)
          in_place = record {
            laid_f = laid_out false blocks resolve;
            laid_g = laid_out false new resolve;
            enter_f = λ n. refl;
            enter_g = λ n. refl;
            view = view;
            starts = λ n. (refl, rest_now given silent blocks resolve n);
            order_f = in_order_at false blocks resolve ordered;
            order_g = in_order_at false new resolve ordered';
            home = from_home false new resolve origins';
            within = from_within false new resolve origins';
            within_f = λ q e x k n at ends same. from_before_end false blocks resolve origins q e x k n at (end_from given silent blocks resolve e k n ends) same;
            one_end = one_end false new resolve;
            origins = origin_from;
            onward = λ p q k n same none none' ends.
                (let there = same_end q p k n (sym same) none (end_from given silent blocks resolve q k n ends) in
                (there, falls_down false blocks resolve apart p k n there));
            ends = λ k p j n c d rest at items near.
                near_end (record { block = p.block; item = k }) j n c d (same_end p (record { block = p.block; item = k }) j n refl (sym items.0) at) near;
            shows = λ k b xs ys c d near. record { events = sym near.world.events; told = near.marks };
          }

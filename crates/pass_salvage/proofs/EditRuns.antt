-- What followed a source follows it after its blocks are edited item by item.
use Rattle.std.proofs.Common.{◌≡◌, inl, ℕ, List, [], ◌∷◌, drop, All, Option, Some, Bool, true, false}
use Rattle.std.proofs.Common.{refl, sym, ap, ◌∙◌, subst, arith}
use Rattle.std.proofs.lemmas.List.Elements.{All-head, All-tail, All-contains}
use Rattle.mir_func.specs.declared.debug_substitution.OperandPair.{OperandPair}
use Rattle.mir_func.specs.declared.position.Pos.{Pos}
use Rattle.mir_func.specs.declared.block.Block.{Block}
use Rattle.mir_func.specs.declared.item.Item.{Item}
use Rattle.mir_func.specs.declared.item.ItemKind.{ItemKind}
use Rattle.mir_func.specs.Sound.{AreApart, ids_of, OriginIn}
use Rattle.mir_func.specs.Graph.{Program, block_start, from_block, index_of, program_of, rest_in, rest_of}
use Rattle.mir_func.specs.Positions.{position_of}
use Rattle.sem_agreement.specs.sem_mir.State.{Core, State}
use Rattle.sem_agreement.specs.sem_mir.Step.{Outcome, Falls, Goes, Gives, Traps, Asks, Breaks, do_item}
use Rattle.sem_agreement.specs.sem_mir.Effects.{EndAlike, FallsInto}
use Rattle.sem_agreement.specs.sem_mir.Align.{is_code, is_jump, Count, moves_on, end_sync_point, sync_point_of, sync_point_at, IsOrigin, AnyOrigin}
use Rattle.sem_agreement.specs.sem_mir.Align.{RunsMatch, SyncPoint, After}
use Rattle.sem_agreement.specs.sem_mir.Follow.{InOrder}
use Rattle.sem_agreement.specs.sem_simulation.MatchStates.{Sides, MatchStates, ShowsSame, OutcomesAlike, since_item}
use Rattle.sem_agreement.specs.sem_simulation.InPlace.{FallsOrTraps, View, ended, both, taken, added, paired, InPlace}
use Rattle.sem_simulation.proofs.Stations.{code_sync_point, end_is_sync_point, IsSyncPointOf, of_item, of_end, sync_point_is_of}
use Rattle.sem_simulation.proofs.Laid.{laid_out, in_order_at, one_end, from_home, from_within, from_before_end, falls_down}
use Rattle.sem_simulation.proofs.InPlace.{in_place_follows}
use Rattle.sem_mir.proofs.Reading.{found_in}
use Rattle.sem_agreement.proofs.Views.{does_both, does_one}
use Rattle.pass_salvage.proofs.Kin.{Kin, kin_code, kin_jump}
use Rattle.pass_salvage.proofs.Edits.{Edits, Edited, over, pair, out, put, BlocksEdited, item_back, end_back, end_there, starts_edited}

-- where one goes elsewhere, something more is known
goes_more : (P : Core → Core → Type 0) (J : ℕ → Core → Core → Type 0) (A : Type 0) (x y : Outcome) → ((i : ℕ) (c : Core) → x ≡ Goes i c → A) →
    OutcomesAlike P J x y → OutcomesAlike P (λ i c d. A × J i c d) x y
goes_more P J A (Falls c) (Falls d) h k = k
goes_more P J A (Goes i c) (Goes j d) h k = (k.0, (h i c refl, k.1))
goes_more P J A (Gives v) (Gives w) h k = k
goes_more P J A Traps Traps h k = tt
goes_more P J A Asks Asks h k = tt
goes_more P J A Breaks Breaks h k = tt
goes_more P J A _ _ h k = absurd k

may_weaker : (A B : Type 0) (P : Core → Type 0) (x : Outcome) → (A → B) → FallsOrTraps A P x → FallsOrTraps B P x
may_weaker A B P (Falls c) f h = h
may_weaker A B P (Goes n c) f h = absurd h
may_weaker A B P (Gives v) f h = absurd h
may_weaker A B P Traps f h = f h
may_weaker A B P Asks f h = absurd h
may_weaker A B P Breaks f h = absurd h

module _ (E : Edits) (Q : E.Stage → Core → Core → Type 0) where
  -- what each edit does to two runs whose cores are so related at each stage
  pub record Keeps (f g : Program) : Type 0 where
    pub code : (k k' : E.Stage) (x y : Item) → E.Pair k k' x y → is_code x.kind ≡ true → is_code y.kind ≡ true → (c d : Core) → Q k c d →
        OutcomesAlike (Q k') (λ i. Q (E.entry i)) (do_item f x.kind c) (do_item g y.kind d)
    pub debug : (k k' : E.Stage) (x y : Item) → E.Pair k k' x y → is_code x.kind ≡ false → is_code y.kind ≡ false → (c d : Core) → Q k c d →
        EndAlike (Q k') (do_item f x.kind c) (do_item g y.kind d)
    pub out_code : (k k' : E.Stage) (x : Item) → E.Out k k' x → is_code x.kind ≡ true
    pub out_stays : (k k' : E.Stage) (x : Item) → E.Out k k' x → is_jump x.kind ≡ false
    pub outs : (k k' : E.Stage) (x : Item) → E.Out k k' x → (c d : Core) → Q k c d → FallsOrTraps (Unit {0}) (λ e. Q k' e d) (do_item f x.kind c)
    pub puts : (k k' : E.Stage) (y : Item) → E.Put k k' y → (c d : Core) → Q k c d → FallsInto (λ e. Q k' c e) (do_item g y.kind d)
    pub ends : (k : E.Stage) (n : ℕ) (c d : Core) → E.IsOver k → Q k c d → Q (E.entry n) c d
    pub shows : (k : E.Stage) (c d : Core) → Q k c d → ShowsSame c d

  module _ (fs gs : List Block) (edited : BlocksEdited E fs gs) (resolve resolve' : OperandPair → Option OperandPair) where
    abbrev f : Program
    f = program_of false fs resolve

    abbrev g : Program
    g = program_of false gs resolve'

    -- f's code goes elsewhere, and is taken out, only where the source moves on after it
    pub record IsSteady (ct : Count) (x : Item) : Type 0 where
      pub moves : (c c' : Core) (n : ℕ) → do_item f x.kind c ≡ Goes n c' → since_item ct x ≡ After
      pub gone : (k k' : E.Stage) → E.Out k k' x → since_item ct x ≡ After

    module _ (ct : Count) (counts : (k : ItemKind) → moves_on ct k ≡ is_jump k) (src : Program) (s0 : State) (keeps : Keeps f g)
        (empty : (n : ℕ) → E.IsOver (E.entry n)) where
      abbrev rf : Pos → List Item
      rf = rest_of fs

      abbrev rg : Pos → List Item
      rg = rest_of gs

      abbrev sides : Sides
      sides = record { old = record { program = f; rest = rf; start = s0 }; new = record { program = g; rest = rg; start = s0 } }

      abbrev match_states : MatchStates
      match_states = record {
        Stage = E.Stage;
        entry = E.entry;
        MatchItems = λ k b xs ys. Edited E k xs ys × All (IsSteady ct) xs;
        MatchCores = λ k b xs ys c d. Q k c d;
      }

      view_pair : (b : ℕ) (k k' : E.Stage) (x y : Item) (xs ys : List Item) → x.origin ≡ y.origin → Kin x.kind y.kind → E.Pair k k' x y → Edited E k' xs ys →
          IsSteady ct x → All (IsSteady ct) xs → (z : Bool) → is_code x.kind ≡ z → View ct src sides match_states b k (x ∷ xs) (y ∷ ys)
      view_pair b k k' x y xs ys origin kin how rest s more true is =
          let is' : is_code y.kind ≡ true = sym (kin_code x.kind y.kind kin) ∙ is in
          both {k' = k'} is is' origin (counts x.kind ∙ kin_jump x.kind y.kind kin ∙ sym (counts y.kind)) (rest, more)
          (λ c d q. goes_more (Q k') (λ i. Q (E.entry i)) (since_item ct x ≡ After) (do_item f x.kind c) (do_item g y.kind d) (λ i e go. s.moves c e i go)
          (keeps.code k k' x y how is is' c d q))
      view_pair b k k' x y xs ys origin kin how rest s more false is =
          let is' : is_code y.kind ≡ false = sym (kin_code x.kind y.kind kin) ∙ is in
          paired {k' = k'} is is' (rest, more) (λ c d q. does_both (Q k') f g x y c d is is' (keeps.debug k k' x y how is is' c d q))

      view : (k : E.Stage) (b : ℕ) (xs ys : List Item) → Edited E k xs ys × All (IsSteady ct) xs → View ct src sides match_states b k xs ys
      view k b xs ys (over done, steady) = ended
      view k b (x ∷ xs) (y ∷ ys) (pair {k' = l} origin kin how rest, steady) =
          view_pair b k l x y xs ys origin kin how rest (All-head (IsSteady ct) x xs steady) (All-tail (IsSteady ct) x xs steady) (is_code x.kind) refl
      view k b (x ∷ xs) ys (out {k' = l} how rest, steady) =
          let s = All-head (IsSteady ct) x xs steady in
          taken {k' = l} (keeps.out_code k l x how) (counts x.kind ∙ keeps.out_stays k l x how) (rest, All-tail (IsSteady ct) x xs steady)
          (λ c d q. may_weaker (Unit {0}) _ (λ e. Q l e d) (do_item f x.kind c) (λ u. inl (s.gone k l how)) (keeps.outs k l x how c d q))
      view k b (x ∷ xs) (y ∷ ys) (put {k' = l} none origin how rest, steady) =
          added {k' = l} none (rest, steady) (λ c d q. does_one (λ e. Q l c e) g y d none (keeps.puts k l y how c d q))

      rest_steady : All (λ (b : Block). All (IsSteady ct) b.items) fs → (n : ℕ) → All (IsSteady ct) (rf (block_start n))
      rest_steady h n = by_blocks (from_block fs n) refl where
        by_blocks : (bs : List Block) → from_block fs n ≡ bs → All (IsSteady ct) (rest_in bs 0)
        by_blocks [] e = none_in where
          none_in : All (IsSteady ct) []
          none_in k d lt = absurd (omega (arith, lt))
        by_blocks (b ∷ bs) e = subst (All (IsSteady ct)) (sym (zero_of b.items))
            (All-contains (λ (b : Block). All (IsSteady ct) b.items) fs b h (found_in fs n b bs e).0) where
              zero_of : (xs : List Item) → drop 0 xs ≡ xs
              zero_of [] = refl
              zero_of (x ∷ xs) = refl

      origin_from : (p : Pos) → IsOrigin (sync_point_at ct g) p → IsOrigin (sync_point_at ct f) p
      origin_from p o = by_sync_point (sync_point_is_of ct g o.place o.sync_point o.stands) where
        by_sync_point : IsSyncPointOf ct g o.place o.sync_point → IsOrigin (sync_point_at ct f) p
        by_sync_point (of_item y at code st) =
            let w = item_back E fs gs edited false resolve resolve' o.place y at code in
            let code' : is_code w.1.kind ≡ true = kin_code w.1.kind y.kind w.5 ∙ code in
            record {
              place = w.0;
              sync_point = sync_point_of ct w.1;
              stands = code_sync_point ct f w.0 w.1 w.3 code';
              from = ap position_of w.4 ∙ ap (λ (z : SyncPoint). z.pos) st ∙ o.from;
            }
        by_sync_point (of_end k n at ends st) =
            let w = end_back E fs gs edited false resolve resolve' o.place k n at in
            record {
              place = w.0;
              sync_point = o.sync_point;
              stands = end_is_sync_point ct f w.0 k n w.2 ∙ ap (λ (z : ℕ). end_sync_point ct (record { block = z; item = k })) w.1 ∙
                  ap (λ (z : Count). end_sync_point z (record { block = o.place.block; item = k })) ends ∙ ap Some (sym st);
              from = o.from;
            }

      pub runs_edited : All (λ (b : Block). All (IsSteady ct) b.items) fs → AreApart (ids_of fs) → All (λ (b : Block). InOrder b.id 0 b.items) fs →
          All (λ (b : Block). InOrder b.id 0 b.items) gs → All (λ (b : Block). All (λ (i : Item). OriginIn b i.origin) b.items) fs →
          All (λ (b : Block). All (λ (i : Item). OriginIn b i.origin) b.items) gs → s0.pos.item ≡ 0 → Q (E.entry s0.pos.block) s0.core s0.core →
          RunsMatch src f (sync_point_at ct f) (AnyOrigin (sync_point_at ct f)) s0 s0 →
          RunsMatch src g (sync_point_at ct g) (AnyOrigin (sync_point_at ct g)) s0 s0
      runs_edited steady apart ordered ordered' origins origins' first kin runs = in_place_follows match_states ct src sides
          (index_of fs) in_place first refl kin
          runs where
            in_place : InPlace ct src sides match_states (index_of fs)
            in_place = record {
              laid_f = laid_out false fs resolve;
              laid_g = laid_out false gs resolve';
              enter_f = λ n. refl;
              enter_g = λ n. refl;
              view = view;
              starts = λ n. (starts_edited E fs gs edited false resolve resolve' empty n, rest_steady steady n);
              order_f = in_order_at false fs resolve ordered;
              order_g = in_order_at false gs resolve' ordered';
              home = from_home false gs resolve' origins';
              within = from_within false gs resolve' origins';
              within_f = λ q e x k n at ends same. (let w = end_back E fs gs edited false resolve resolve' e k n ends in
                  from_before_end false fs resolve origins q w.0 x k n at w.2 (same ∙ sym w.1));
              one_end = one_end false gs resolve';
              origins = origin_from;
              onward = λ p q k n same none last ends. (let there = end_there E fs gs edited false resolve resolve' p q k n same none ends in
                  (there, falls_down false fs resolve apart p k n there));
              ends = λ k p j n c d at fetch s q. keeps.ends k n c d (is_over k s.0) q;
              shows = λ k b xs ys c d q. keeps.shows k c d q;
            } where
              is_over : (k : E.Stage) → Edited E k [] [] → E.IsOver k
              is_over k (over done) = done

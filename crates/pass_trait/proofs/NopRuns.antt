-- The run of a function without its no-operations.
use Rattle.std.proofs.Common.{◌≡◌, ℕ, zero, List, [], ◌∷◌, filter, All, Contains, Option, Some, None, Bool, true, false, cond, not, ◌&&◌, refl, sym, ap, ◌∙◌}
use Rattle.std.proofs.Common.{subst, inl, inr, ◌⊎◌, slice_get, arith}
use Rattle.std.proofs.lemmas.Bool.{cases_eq}
use Rattle.std.proofs.lemmas.List.Elements.{All-head, All-tail, All-contains}
use Rattle.sem_simulation.specs.rv64_instr.declared.operand.Operand.{Operand}
use Rattle.sem_simulation.specs.rv64_instr.Row.{Row, Fixes, Jumps, row_of}
use Rattle.sem_simulation.specs.mir_func.declared.debug_substitution.OperandPair.{OperandPair}
use Rattle.sem_simulation.specs.mir_func.declared.position.Pos.{Pos}
use Rattle.sem_simulation.specs.mir_func.declared.block.Block.{Block}
use Rattle.sem_simulation.specs.mir_func.declared.item.Item.{Item}
use Rattle.sem_simulation.specs.mir_func.declared.item.ItemKind.{ItemKind}
use Rattle.sem_simulation.specs.mir_func.declared.item.ItemKind.TheVariants.{Code, Mark, Phi}
use Rattle.sem_simulation.specs.mir_func.Sound.{AreApart, ids_of, items_of, number_of, code_number, OriginIn}
use Rattle.sem_simulation.specs.sem_mir.State.{Core, State, updated}
use Rattle.sem_simulation.specs.sem_mir.Step.{Outcome, Falls, Goes, Gives, Traps, Asks, Breaks, act, does, with_core, numbered, given, defined, place_value, do_item}
use Rattle.sem_simulation.specs.rv64_instr.LocationEffects.{is_call}
use Rattle.sem_simulation.specs.mir_func.Graph.{Program, block_start, from_block, index_of, program_of, rest_in, rest_of}
use Rattle.sem_simulation.specs.sem_mir.Align.{is_code, is_jump, is_jump_row, Count, end_sync_point, sync_point_at, IsOrigin, Since, After, AnyOrigin, RunsMatch}
use Rattle.sem_simulation.specs.sem_mir.Follow.{InOrder}
use Rattle.sem_simulation.specs.MatchStates.{Sides, MatchStates, since_item}
use Rattle.sem_simulation.specs.InPlace.{FallsOrTraps, DoAlike, View, ended, both, taken, paired, InPlace}
use Rattle.sem_simulation.proofs.sem_mir.Effects.{told_by, act_apart}
use Rattle.sem_simulation.specs.sem_mir.Effects.{EndAlike, OnCore}
use Rattle.sem_simulation.proofs.sem_mir.Places.{updated_other}
use Rattle.sem_simulation.proofs.sem_mir.Told.{TellsLess, SeesLess, item_less}
use Rattle.sem_simulation.proofs.Stations.{moves_on_less, code_sync_point, end_is_sync_point, IsSyncPointOf, of_item, of_end, sync_point_is_of}
use Rattle.sem_simulation.proofs.Laid.{laid_out, in_order_at, one_end, from_home, from_within, from_before_end, falls_down}
use Rattle.sem_simulation.proofs.sem_mir.Reading.{found_in}
use Rattle.sem_simulation.proofs.InPlace.{in_place_follows}
use Rattle.pass_trait.specs.Nops.{is_nop_row, is_nop, stays, thinned_blocks}
use Rattle.pass_trait.proofs.Thinning.{drop_zero, item_from, end_from, end_there, rest_thin}

-- what is taken out is a no-operation: code that falls through
pub out_is : (busy nop : Bool) → not (not busy && nop) ≡ false → nop ≡ true
out_is true nop e = cc
out_is false true e = refl
out_is false false e = cc

pub nop_is_code : (k : ItemKind) → is_nop k ≡ true → is_code k ≡ true
nop_is_code (Code i n) e = refl
nop_is_code (Mark v m) e = cc
nop_is_code (Phi p n) e = cc

no_jump_row : (r : Row) → is_nop_row r ≡ true → is_jump_row r ≡ false
no_jump_row (Jumps t) e = cc
no_jump_row _ e = refl

no_jump : (k : ItemKind) → is_nop k ≡ true → is_jump k ≡ false
no_jump (Code i n) e = no_jump_row (row_of i) e
no_jump (Mark v m) e = cc
no_jump (Phi p n) e = cc

alike_and : (R : Core → Core → Type 0) (P : Core → Type 0) (x y : Outcome) → EndAlike R x y → OnCore P y → EndAlike (λ c d. R c d × P d) x y
alike_and R P (Falls c) (Falls d) h k = (h, k)
alike_and R P (Goes m c) (Goes n d) h k = (h.0, (h.1, k))
alike_and R P (Gives v) (Gives w) h k = h
alike_and R P Traps Traps h k = tt
alike_and R P Asks Asks h k = tt
alike_and R P Breaks Breaks h k = tt
alike_and R P _ _ h k = absurd h

module _ (busy : Bool) (blocks : List Block) (resolve : OperandPair → Option OperandPair) where
  abbrev f : Program
  f = program_of false blocks resolve

  abbrev g : Program
  g = program_of false (thinned_blocks busy blocks) resolve

  -- the number of something that is taken out
  pub record IsGone (k : ℕ) : Type 0 where
    pub item : Item
    pub member : Contains (items_of blocks) item
    pub out : stays busy item ≡ false
    pub number : code_number item.kind ≡ Some k

  -- g tells no more, and knows nothing of numbers that are gone
  abbrev pub MatchCores : Core → Core → Type 0
  MatchCores c d = TellsLess c d × ((k o : ℕ) → IsGone k → d.pairs k o ≡ None)

  sees_same : SeesLess f g
  sees_same = record { sees = λ r c v e. e; resolve = λ q. refl }

  abbrev HasNone : Core → Type 0
  HasNone d = (k o : ℕ) → IsGone k → d.pairs k o ≡ None

  none_after : (n : ℕ) (v : ℕ → Option ℕ) (d : Core) → HasNone d → (IsGone n → ⊥) → (k o : ℕ) → IsGone k → updated n v d.pairs k o ≡ None
  none_after n v d h far k o gone = ap (λ (z : ℕ → Option ℕ). z o) (updated_other n k v d.pairs (λ e. far (subst IsGone e gone))) ∙ h k o gone

  none_numbered : (call : Bool) (n : Option ℕ) (os : List Operand) (d : Core) → HasNone d → ((k : ℕ) → n ≡ Some k → IsGone k → ⊥) →
      HasNone (numbered false call n os d)
  none_numbered call None os d h far = h
  none_numbered call (Some n) os d h far = none_after n _ d h (far n refl)

  none_kept : (x : ItemKind) (d : Core) → HasNone d → ((k : ℕ) → number_of x ≡ Some k → IsGone k → ⊥) → OnCore HasNone (do_item g x d)
  none_kept (Code i n) d h far = by_outcome (act (row_of i) d) (act_apart d.pairs d.marks (row_of i) d) where
    by_core : (e : Core) → e ≡ told_by d.pairs d.marks e → HasNone e
    by_core e k n o gone = ap (λ (z : Core). z.pairs n o) k ∙ h n o gone

    by_outcome : (x : Outcome) → x ≡ with_core (told_by d.pairs d.marks) x → OnCore HasNone (with_core (numbered false (is_call (row_of i)) n i.operands) x)
    by_outcome (Falls e) k = let w : e ≡ told_by d.pairs d.marks e = cc in none_numbered (is_call (row_of i)) n i.operands e (by_core e w) far
    by_outcome (Goes t e) k = let w : e ≡ told_by d.pairs d.marks e = cc in none_numbered (is_call (row_of i)) n i.operands e (by_core e w) far
    by_outcome (Gives v) k = tt
    by_outcome Traps k = tt
    by_outcome Asks k = tt
    by_outcome Breaks k = tt
  none_kept (Mark v m) d h far = h
  none_kept (Phi p n) d h far = none_after n (updated 0 (place_value p d) (d.pairs n)) d h (far n refl)

  pub item_kin : (x : ItemKind) (c d : Core) → MatchCores c d → ((k : ℕ) → number_of x ≡ Some k → IsGone k → ⊥) →
      EndAlike MatchCores (do_item f x c) (do_item g x d)
  item_kin x c d h far = alike_and TellsLess HasNone (do_item f x c) (do_item g x d) (item_less f g sees_same x c d h.0) (none_kept x d h.1 far)

  -- a no-operation leaves all but the pairs of its number
  pub nop_kin : (may : Type 0) (x : ItemKind) (c d : Core) → is_nop x ≡ true → MatchCores c d → ((k : ℕ) → code_number x ≡ Some k → IsGone k) →
      FallsOrTraps may (λ e. MatchCores e d) (do_item f x c)
  nop_kin may (Mark v m) c d e h gone = cc
  nop_kin may (Phi p n) c d e h gone = cc
  nop_kin may (Code i n) c d e h gone = by_row (row_of i) e where
    by_pair : (k : ℕ) (v : ℕ → Option ℕ) (q o w : ℕ) → IsGone k → d.pairs q o ≡ Some w → (q ≡ k) ⊎ (q ≡ k → ⊥) → updated k v c.pairs q o ≡ Some w
    by_pair k v q o w gone e (inl same) = let bad : None ≡ Some w = sym (h.1 k o gone) ∙ ap (λ (z : ℕ). d.pairs z o) (sym same) ∙ e in cc
    by_pair k v q o w gone e (inr ne) = ap (λ (z : ℕ → Option ℕ). z o) (updated_other k q v c.pairs ne) ∙ h.0.pairs q o w e

    with_number : (call : Bool) (n : Option ℕ) → ((k : ℕ) → n ≡ Some k → IsGone k) → MatchCores (numbered false call n i.operands c) d
    with_number call None gone = h
    with_number call (Some k) gone =
        let v : ℕ → Option ℕ = λ o. given false (defined call (slice_get i.operands o)) (c.pairs k o) c in
        (record { same = h.0.same; pairs = λ q o w e. by_pair k v q o w (gone k refl) e (cases_eq q k); marks = h.0.marks }, h.1)

    by_row : (r : Row) → is_nop_row r ≡ true → FallsOrTraps may (λ e. MatchCores e d) (with_core (numbered false (is_call r) n i.operands) (act r c))
    by_row (Fixes zero m) e = unfold act in unfold does in with_number false n gone
    by_row _ e = cc

  -- what an item that stays needs: it goes elsewhere only where the source moves on after it, and its number isn't gone
  pub record IsSteady (ct : Count) (x : Item) : Type 0 where
    pub moves : (c c' : Core) (n : ℕ) → do_item f x.kind c ≡ Goes n c' → since_item ct x ≡ After
    pub own : stays busy x ≡ true → (k : ℕ) → number_of x.kind ≡ Some k → IsGone k → ⊥
    pub gone : stays busy x ≡ false → (k : ℕ) → code_number x.kind ≡ Some k → IsGone k

  module _ (ct : Count) (src : Program) (s0 : State) where
    abbrev rf : Pos → List Item
    rf = rest_of blocks

    abbrev rg : Pos → List Item
    rg = rest_of (thinned_blocks busy blocks)

    abbrev sides : Sides
    sides = record { old = record { program = f; rest = rf; start = s0 }; new = record { program = g; rest = rg; start = s0 } }

    abbrev match_states : MatchStates
    match_states = record {
      Stage = Unit {0};
      entry = λ n. tt;
      MatchItems = λ k b xs ys. (ys ≡ filter (stays busy) xs) × All (IsSteady ct) xs;
      MatchCores = λ k b xs ys c d. MatchCores c d;
    }

    alike_do : (b : ℕ) (xs ys : List Item) (m : Since) (o p : Outcome) → ((c' : Core) (n : ℕ) → o ≡ Goes n c' → m ≡ After) → EndAlike MatchCores o p →
        DoAlike ct src sides match_states b xs ys m tt o p
    alike_do b xs ys m (Falls c) (Falls d) go h = h
    alike_do b xs ys m (Goes j c) (Goes k d) go h = (h.0, (go c j refl, h.1))
    alike_do b xs ys m (Gives v) (Gives w) go h = h
    alike_do b xs ys m Traps Traps go h = tt
    alike_do b xs ys m Asks Asks go h = tt
    alike_do b xs ys m Breaks Breaks go h = tt
    alike_do b xs ys m _ _ go h = absurd h

    debug_falls : (x : ItemKind) → is_code x ≡ false → (c d : Core) → EndAlike MatchCores (do_item f x c) (do_item g x d) →
        (e e' : Core) × (do_item f x c ≡ Falls e) × (do_item g x d ≡ Falls e') × MatchCores e e'
    debug_falls (Code i n) e c d h = cc
    debug_falls (Mark v m) e c d h = (_, _, refl, refl, h)
    debug_falls (Phi p n) e c d h = (_, _, refl, refl, h)

    view_at : (b : ℕ) (x : Item) (xs : List Item) → IsSteady ct x → All (IsSteady ct) xs → (z : Bool) → stays busy x ≡ z →
        View ct src sides match_states b tt (x ∷ xs) (cond z (x ∷ filter (stays busy) xs) (filter (stays busy) xs))
    view_at b x xs s rest true k = by_code (is_code x.kind) refl where
      by_code : (z : Bool) → is_code x.kind ≡ z → View ct src sides match_states b tt (x ∷ xs) (x ∷ filter (stays busy) xs)
      by_code true code = both {k' = tt} code code refl refl (refl, rest)
          (λ c d h. alike_do b xs (filter (stays busy) xs) (since_item ct x) (do_item f x.kind c) (do_item g x.kind d) (λ c' n e. s.moves c c' n e)
          (item_kin x.kind c d h (s.own k)))
      by_code false code = paired {k' = tt} code code (refl, rest) (λ c d h. debug_falls x.kind code c d (item_kin x.kind c d h (s.own k)))
    view_at b x xs s rest false k =
        let nop : is_nop x.kind ≡ true = out_is busy (is_nop x.kind) k in
        taken {k' = tt} (nop_is_code x.kind nop) (moves_on_less ct x.kind (no_jump x.kind nop)) (refl, rest) (λ c d h. nop_kin _ x.kind c d nop h (s.gone k))

    view : (k : Unit {0}) (b : ℕ) (xs ys : List Item) → match_states.MatchItems k b xs ys → View ct src sides match_states b tt xs ys
    view k b [] ys (e, steady) = subst (View ct src sides match_states b tt []) (sym e) ended
    view k b (x ∷ xs) ys (e, steady) =
        subst (View ct src sides match_states b tt (x ∷ xs)) (sym e)
        (view_at b x xs (All-head (IsSteady ct) x xs steady) (All-tail (IsSteady ct) x xs steady) (stays busy x) refl)

    rest_steady : All (λ (b : Block). All (IsSteady ct) b.items) blocks → (n : ℕ) → All (IsSteady ct) (rf (block_start n))
    rest_steady h n = by_blocks (from_block blocks n) refl where
      by_blocks : (bs : List Block) → from_block blocks n ≡ bs → All (IsSteady ct) (rest_in bs 0)
      by_blocks [] e = none where
        none : All (IsSteady ct) []
        none k d lt = absurd (omega (arith, lt))
      by_blocks (b ∷ bs) e = subst (All (IsSteady ct)) (sym (drop_zero b.items))
          (All-contains (λ (b : Block). All (IsSteady ct) b.items) blocks b h (found_in blocks n b bs e).0)

    origin_from : (p : Pos) → IsOrigin (sync_point_at ct g) p → IsOrigin (sync_point_at ct f) p
    origin_from p o = by_sync_point (sync_point_is_of ct g o.place o.sync_point o.stands) where
      by_sync_point : IsSyncPointOf ct g o.place o.sync_point → IsOrigin (sync_point_at ct f) p
      by_sync_point (of_item x at code st) =
          let w = item_from (stays busy) false blocks resolve o.place x at in
          record { place = w.0; sync_point = o.sync_point; stands = code_sync_point ct f w.0 x w.2 code ∙ ap Some st; from = o.from }
      by_sync_point (of_end k n at ends st) =
          let w = end_from (stays busy) false blocks resolve o.place k n at in
          record {
            place = w.0;
            sync_point = o.sync_point;
            stands = end_is_sync_point ct f w.0 k n w.2 ∙ ap (λ (z : ℕ). end_sync_point ct (record { block = z; item = k })) w.1 ∙
                ap (λ (z : Count). end_sync_point z (record { block = o.place.block; item = k })) ends ∙ ap Some (sym st);
            from = o.from;
          }

    -- the function without its no-operations runs along where it did
    pub nops_run : All (λ (b : Block). All (IsSteady ct) b.items) blocks → AreApart (ids_of blocks) → All (λ (b : Block). InOrder b.id 0 b.items) blocks →
        All (λ (b : Block). InOrder b.id 0 b.items) (thinned_blocks busy blocks) →
        All (λ (b : Block). All (λ (i : Item). OriginIn b i.origin) b.items) blocks →
        All (λ (b : Block). All (λ (i : Item). OriginIn b i.origin) b.items) (thinned_blocks busy blocks) →
        s0.pos.item ≡ 0 → MatchCores s0.core s0.core →
        RunsMatch src f (sync_point_at ct f) (AnyOrigin (sync_point_at ct f)) s0 s0 →
        RunsMatch src g (sync_point_at ct g) (AnyOrigin (sync_point_at ct g)) s0 s0
    nops_run steady apart ordered ordered' origins origins' first kin runs =
        in_place_follows match_states ct src sides (index_of blocks) in_place first refl kin runs where
          in_place : InPlace ct src sides match_states (index_of blocks)
          in_place = record {
            laid_f = laid_out false blocks resolve;
            laid_g = laid_out false (thinned_blocks busy blocks) resolve;
            enter_f = λ n. refl;
            enter_g = λ n. refl;
            view = view;
            starts = λ n. (rest_thin (stays busy) false blocks resolve n, rest_steady steady n);
            order_f = in_order_at false blocks resolve ordered;
            order_g = in_order_at false (thinned_blocks busy blocks) resolve ordered';
            home = from_home false (thinned_blocks busy blocks) resolve origins';
            within = from_within false (thinned_blocks busy blocks) resolve origins';
            within_f = λ q e x k n at ends same. (let w = end_from (stays busy) false blocks resolve e k n ends in
                from_before_end false blocks resolve origins q w.0 x k n at w.2 (same ∙ sym w.1));
            one_end = one_end false (thinned_blocks busy blocks) resolve;
            origins = origin_from;
            onward = λ p q k n same none none' ends.
                (let there = end_there (stays busy) false blocks resolve p q k n same none ends in (there, falls_down false blocks resolve apart p k n there));
            ends = λ k p j n c d at fetch s h. h;
            shows = λ k b xs ys c d h. record { events = ap (λ (z : Core). z.events) (sym h.0.same); told = h.0.marks };
          }

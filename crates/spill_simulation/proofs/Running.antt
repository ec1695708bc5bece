-- The function with spilled registers runs along where the function does: the record of added code, of the views.
use Rattle.std.proofs.Common.{◌≡◌, ◌⊎◌, ℕ, zero, suc, ◌+◌, ◌<◌, ◌≤◌, List, [], ◌∷◌, ◌++◌, length, All, Contains, Option, Some, None, IsSome, true, false}
use Rattle.std.proofs.Common.{refl}
use Rattle.std.proofs.lemmas.Bool.{cases_lt}
use Rattle.std.proofs.Common.{sym, ap, ◌∙◌, subst, inl, inr, arith}
use Rattle.std.proofs.lemmas.List.Elements.{Contains-append_cases}
use Rattle.rv64_instr.specs.declared.place.Place.TheVariants.{Register}
use Rattle.rv64_instr.specs.Instruction.{Instruction}
use Rattle.mir_func.specs.declared.debug_substitution.OperandPair.{OperandPair}
use Rattle.mir_func.specs.declared.position.Pos.{Pos}
use Rattle.mir_func.specs.declared.position.Origin.{Origin}
use Rattle.mir_func.specs.declared.position.Origin.TheVariants.{Kept, Before}
use Rattle.mir_func.specs.declared.location.Loc.{Loc}
use Rattle.mir_func.specs.declared.block.Block.{Block}
use Rattle.mir_func.specs.declared.item.Item.{Item}
use Rattle.mir_func.specs.declared.item.ItemKind.{ItemKind}
use Rattle.mir_func.specs.declared.item.ItemKind.TheVariants.{Code, Mark, Phi}
use Rattle.mir_func.specs.Graph.{Program, Fetch, Here, EndOfBlock, below, block_start, end_of, from_block, Edge, FetchEdge, Leads, stay, rest_in, rest_of}
use Rattle.mir_func.specs.Sound.{OriginIn}
use Rattle.mir_func.specs.Positions.{position_of}
use Rattle.sem_mir.specs.Align.{is_code, is_jump, Count, ByEnds, SyncPoint}
use Rattle.sem_mir.specs.Align.{sync_point_of, end_sync_point, moves_on, sync_point_at, IsOrigin, AnyOrigin, RunsMatch}
use Rattle.sem_mir.specs.InitialState.{first_of}
use Rattle.sem_mir.specs.Follow.{InOrder}
use Rattle.sem_mir.specs.Live.{Live, later, Defines}
use Rattle.sem_mir.specs.State.{Core, State, content}
use Rattle.sem_mir.specs.Step.{Went, step}
use Rattle.sem_mir.proofs.Edges.{step_edge, step_from_before, leads_on}
use Rattle.sem_simulation.specs.Added.{AddedMatchStates, Level, IsNeverBack, Adds, Begins, opens, level}
use Rattle.sem_simulation.specs.MatchStates.{Sides, ShowsSame}
use Rattle.sem_simulation.proofs.Added.{added_follows}
use Rattle.sem_simulation.proofs.Laid.{laid_out}
use Rattle.sem_simulation.proofs.Stations.{code_sync_point, end_is_sync_point, IsSyncPointOf, of_item, of_end, sync_point_is_of}
use Rattle.spill_code.specs.declared.spilling.SlotAssignment.{SlotAssignment}
use Rattle.spill_code.specs.declared.spilling.Spilling.{Spilling}
use Rattle.spill_code.specs.Rewrite.{slot_of, loads, two_loads, stores, first_used, other_used, first_defined, spilled_code, code_items, spilled_item}
use Rattle.spill_code.specs.Rewrite.{spilled_items, entry_stores, spilled_blocks}
use Rattle.spill_simulation.specs.MaySpill.{FitsCode, AreHomes}
use Rattle.spill_simulation.proofs.Explicit.{first_from, defined_is}
use Rattle.spill_simulation.proofs.Items.{near_on}
use Rattle.spill_simulation.proofs.Near.{Near}
use Rattle.spill_simulation.proofs.Places.{stands_at, holds_at, ComesFrom, from_item, from_entry, comes_from, end_in_f, end_past, end_at, past_items}
use Rattle.spill_simulation.proofs.Places.{start_in_g}
use Rattle.spill_simulation.proofs.Places.{first_start}
use Rattle.spill_simulation.proofs.Views.{Stage, Opened, Evenly, Early, Half, Ready, Owes, stands, f as old_program, g as new_program, rf as old_rest}
use Rattle.spill_simulation.proofs.Views.{rg as new_rest}
use Rattle.spill_simulation.proofs.Views.{at, Alive, SpillsDef, Extra, MatchItems, MatchCores, IsGood, sides as both_sides, match_states as framed, view}

module _ (s : Spilling) (slots : List ℕ) (homes : AreHomes s slots) (entry : List SlotAssignment) (blocks : List Block)
    (resolve : OperandPair → Option OperandPair) (count : Count) (counts : (k : ItemKind) → moves_on count k ≡ is_jump k) (src : Program) (s0 : State)
    (goods : All (λ (b : Block). All (IsGood s slots homes entry blocks resolve src b) b.items) blocks)
    (order : All (λ (b : Block). InOrder b.id 0 b.items) blocks) (start : s0.pos ≡ block_start (first_of blocks)) where
  abbrev f : Program
  f = old_program s slots homes entry blocks resolve

  abbrev g : Program
  g = new_program s slots homes entry blocks resolve

  abbrev rf : Pos → List Item
  rf = old_rest s slots homes entry blocks resolve

  abbrev rg : Pos → List Item
  rg = new_rest s slots homes entry blocks resolve

  abbrev match_states : AddedMatchStates
  match_states = framed s slots homes entry blocks resolve count counts src s0 goods order

  abbrev sides : Sides
  sides = both_sides s slots homes entry blocks resolve count counts src s0 goods order

  abbrev fs : Pos → Option SyncPoint
  fs = sync_point_at count f

  abbrev gs : Pos → Option SyncPoint
  gs = sync_point_at count g

  abbrev IsExtra : Pos → Type 0
  IsExtra = Extra s slots homes entry blocks resolve

  -- what code becomes comes from its position, but for the store behind a spilled definition
  load_from : (p : Pos) (r : ℕ) (z : Option ℕ) (y : Item) → Contains (loads p r z) y → position_of y.origin ≡ p
  load_from p r None y (k, lt, e) = absurd (omega (arith, lt))
  load_from p r (Some n) y (zero, lt, e) = sym (ap (λ (i : Item). position_of i.origin) e)
  load_from p r (Some n) y (suc k, lt, e) = absurd (omega (arith, lt))

  loads_from : (p : Pos) (os : _) (z : Option ℕ) (y : Item) → Contains (two_loads s p os z) y → position_of y.origin ≡ p
  loads_from p os None y (k, lt, e) = absurd (omega (arith, lt))
  loads_from p os (Some n) y (zero, lt, e) = sym (ap (λ (i : Item). position_of i.origin) e)
  loads_from p os (Some n) y (suc k, lt, e) = load_from p s.second (other_used s.homes n os) y (k, omega (arith, lt), e)

  store_from : (p : Pos) (z : Option ℕ) (y : Item) → Contains (stores p s.first z) y → (n : ℕ) × (z ≡ Some n) × (position_of y.origin ≡ p)
  store_from p None y (k, lt, e) = absurd (omega (arith, lt))
  store_from p (Some n) y (zero, lt, e) = (n, refl, sym (ap (λ (i : Item). position_of i.origin) e))
  store_from p (Some n) y (suc k, lt, e) = absurd (omega (arith, lt))

  piece_from : (ins : Instruction) (num : Option ℕ) (o : Origin) (l : Loc) (y : Item) → Contains (code_items s ins num o l) y →
      (position_of y.origin ≡ position_of o) ⊎
      ((n : ℕ) × (first_defined s.homes ins.operands ≡ Some n) × (position_of y.origin ≡ below (position_of o)))
  piece_from ins num o l y h =
      by_case (Contains-append_cases (two_loads s (position_of o) ins.operands (first_used s.homes ins.operands)) behind y h) where
        behind : List Item
        behind = record { kind = Code (spilled_code s ins) num; origin = o; loc = l } ∷
            stores (below (position_of o)) s.first (first_defined s.homes ins.operands)

        by_case : Contains (two_loads s (position_of o) ins.operands (first_used s.homes ins.operands)) y ⊎ Contains behind y →
            (position_of y.origin ≡ position_of o) ⊎
            ((n : ℕ) × (first_defined s.homes ins.operands ≡ Some n) × (position_of y.origin ≡ below (position_of o)))
        by_case (inl k) = inl (loads_from (position_of o) ins.operands (first_used s.homes ins.operands) y k)
        by_case (inr (zero, lt, e)) = inl (sym (ap (λ (i : Item). position_of i.origin) e))
        by_case (inr (suc k, lt, e)) =
            inr (store_from (below (position_of o)) (first_defined s.homes ins.operands) y (k, omega (arith, lt), e))

  -- an origin of an item of the first
  origin_of : (w : Pos) (x : Item) → f.fetch w ≡ Here x → is_code x.kind ≡ true → (q : Pos) → position_of x.origin ≡ q → IsOrigin fs q
  origin_of w x e code q is = record { place = w; sync_point = sync_point_of count x; stands = code_sync_point count f w x e code; from = is }

  -- a kept item with a spilled definition
  kept_of : (w : Pos) (ins : Instruction) (num : Option ℕ) (o : Origin) (l : Loc) (n : ℕ) → f.fetch w ≡ Here
      (record { kind = Code ins num; origin = o; loc = l }) →
      first_defined s.homes ins.operands ≡ Some n → (q : Pos) × (o ≡ Kept q)
  kept_of w ins num o l n e some = by_origin o refl where
    good : FitsCode s ins o
    good =
        let x : Item = record { kind = Code ins num; origin = o; loc = l } in
        (holds_at (IsGood s slots homes entry blocks resolve src) blocks goods w x (stands_at false blocks resolve w x e)).fits

    by_origin : (z : Origin) → o ≡ z → (q : Pos) × (o ≡ Kept q)
    by_origin (Kept q) k = (q, k)
    by_origin (Before q) k =
        let d = first_from s.homes _ n (sym (defined_is s.homes ins.operands) ∙ some) in
        let none = good.kept q k d.0 (inr d.1) in
        let bad : None ≡ Some n = sym none ∙ d.2 in
        cc

  entry_from : (b : ℕ) (hs : List SlotAssignment) (y : Item) → Contains (entry_stores b hs) y → (position_of y.origin ≡ block_start b) × (hs ≡ [] → ⊥)
  entry_from b [] y (k, lt, e) = absurd (omega (arith, lt))
  entry_from b (h ∷ hs) y (zero, lt, e) = (sym (ap (λ (i : Item). position_of i.origin) e), λ z. cc)
  entry_from b (h ∷ hs) y (suc k, lt, e) = ((entry_from b hs y (k, omega (arith, lt), e)).0, λ z. cc)

  -- a place of the second: one of the first, right below a spilled definition, or the start with its stores
  where_from : (q : Pos) → IsOrigin gs q → IsOrigin fs q ⊎ IsExtra q ⊎ ((q ≡ s0.pos) × (entry ≡ [] → ⊥))
  where_from q o = by_sync_point (sync_point_is_of count g o.place o.sync_point o.stands) where
    by_kind : (w : Pos) (x : Item) (k : ItemKind) → x.kind ≡ k → f.fetch w ≡ Here x → (y : Item) → is_code y.kind ≡ true → position_of y.origin ≡ q →
        Contains (spilled_item s x) y → IsOrigin fs q ⊎ IsExtra q ⊎ ((q ≡ s0.pos) × (entry ≡ [] → ⊥))
    by_kind w x (Code ins num) is e y code from h =
        let xo : x ≡ record { kind = Code ins num; origin = x.origin; loc = x.loc } =
        ap (λ (k : ItemKind). record { kind = k; origin = x.origin; loc = x.loc }) is in
        let e' = e ∙ ap Here xo in
        elim (piece_from ins num x.origin x.loc y (subst (λ (i : Item). Contains (spilled_item s i) y) xo h))
        as (λ _. IsOrigin fs q ⊎ IsExtra q ⊎ ((q ≡ s0.pos) × (entry ≡ [] → ⊥))) [
          | inl same ↦ inl (origin_of w x e (ap is_code is) q (sym same ∙ from))
          | inr k ↦
              (let kept = kept_of w ins num x.origin x.loc k.0 e' k.1 in
              inr (inl (record {
                place = w;
                item = record { kind = Code ins num; origin = x.origin; loc = x.loc };
                pos = kept.0;
                at = e';
                kept = kept.1;
                defines = (k.0, k.1);
                under = sym from ∙ k.2 ∙ ap (λ (z : Origin). below (position_of z)) kept.1;
              })))
        ]
    by_kind w x (Mark v m) is e y code from h =
        let xo : x ≡ record { kind = Mark v m; origin = x.origin; loc = x.loc } =
        ap (λ (k : ItemKind). record { kind = k; origin = x.origin; loc = x.loc }) is in
        only_one (subst (λ (i : Item). Contains (spilled_item s i) y) xo h) where
          only_one : Contains (record { kind = Mark v m; origin = x.origin; loc = x.loc } ∷ []) y →
              IsOrigin fs q ⊎ IsExtra q ⊎ ((q ≡ s0.pos) × (entry ≡ [] → ⊥))
          only_one (zero, lt, z) = let bad : false ≡ true = ap (λ (i : Item). is_code i.kind) z ∙ code in cc
          only_one (suc j, lt, z) = absurd (omega (arith, lt))
    by_kind w x (Phi p n) is e y code from h =
        let xo : x ≡ record { kind = Phi p n; origin = x.origin; loc = x.loc } =
        ap (λ (k : ItemKind). record { kind = k; origin = x.origin; loc = x.loc }) is in
        only_one (subst (λ (i : Item). Contains (spilled_item s i) y) xo h) where
          only_one : Contains (spilled_item s (record { kind = Phi p n; origin = x.origin; loc = x.loc })) y →
              IsOrigin fs q ⊎ IsExtra q ⊎ ((q ≡ s0.pos) × (entry ≡ [] → ⊥))
          only_one (zero, lt, z) = let bad : false ≡ true = ap (λ (i : Item). is_code i.kind) z ∙ code in cc
          only_one (suc j, lt, z) = absurd (omega (arith, lt))

    by_piece : (y : Item) → is_code y.kind ≡ true → position_of y.origin ≡ q → ComesFrom s entry blocks resolve o.place y →
        IsOrigin fs q ⊎ IsExtra q ⊎ ((q ≡ s0.pos) × (entry ≡ [] → ⊥))
    by_piece y code from (from_item w x same e h) = by_kind w x x.kind refl e y code from h
    by_piece y code from (from_entry first h) =
        let k = entry_from o.place.block entry y h in
        inr (inr (sym from ∙ k.0 ∙ ap block_start first ∙ sym start, k.1))

    by_end : (k n : ℕ) → g.fetch o.place ≡ EndOfBlock k n → count ≡ ByEnds →
        o.sync_point ≡ record { pos = record { block = o.place.block; item = k }; waits = false } → IsOrigin fs q
    by_end k n at ends st =
        let w = end_in_f s entry blocks resolve o.place k n at in
        let b = w.0 in
        let p : Pos = record { block = o.place.block; item = length b.items } in
        let none : rf p ≡ [] = ap (λ (bs : List Block). rest_in bs (length b.items)) w.2 ∙ past_items s entry b in
        let there : f.fetch p ≡ EndOfBlock k n = end_past s entry blocks resolve p b w.1 k n w.2 none w.3 in
        record {
          place = p;
          sync_point = o.sync_point;
          stands = end_is_sync_point count f p k n there ∙ ap (λ (z : Count). end_sync_point z (record { block = o.place.block; item = k })) ends ∙ ap Some
              (sym st);
          from = o.from;
        }

    by_sync_point : IsSyncPointOf count g o.place o.sync_point → IsOrigin fs q ⊎ IsExtra q ⊎ ((q ≡ s0.pos) × (entry ≡ [] → ⊥))
    by_sync_point (of_item y at code st) =
        by_piece y code (ap (λ (z : SyncPoint). z.pos) st ∙ o.from) (comes_from s entry blocks resolve o.place y at)
    by_sync_point (of_end k n at ends st) = inl (by_end k n at ends st)

  -- what stops the source
  never_back : (entry ≡ []) ⊎ IsNeverBack src (λ p. Leads src s0.pos p) s0.pos → (entry ≡ [] → ⊥) → IsNeverBack src (λ p. Leads src s0.pos p) s0.pos
  never_back (inl e) some = absurd (some e)
  never_back (inr h) some = h

  module _ (back : (entry ≡ []) ⊎ IsNeverBack src (λ p. Leads src s0.pos p) s0.pos)
      (free : (entry ≡ []) ⊎ ((p : Pos) → Edge f p (block_start (first_of blocks)) → ⊥)) where
    stops : (p q : Pos) → IsOrigin fs p → IsOrigin gs q → IsOrigin fs q ⊎ IsExtra q ⊎ ((q ≡ s0.pos) × IsNeverBack src (λ p. Leads src s0.pos p) s0.pos)
    stops p q o h =
        elim (where_from q h) as (λ _. IsOrigin fs q ⊎ IsExtra q ⊎ ((q ≡ s0.pos) × IsNeverBack src (λ p. Leads src s0.pos p) s0.pos)) [
          | inl k ↦ inl k
          | inr m ↦ elim m as (λ _. IsOrigin fs q ⊎ IsExtra q ⊎ ((q ≡ s0.pos) × IsNeverBack src (λ p. Leads src s0.pos p) s0.pos)) [
            | inl k ↦ inr (inl k)
            | inr k ↦ inr (inr (k.0, never_back back k.1))
          ]
        ]

    spills_code : (k : ItemKind) → SpillsDef s slots homes entry blocks resolve k → is_code k ≡ true
    spills_code (Code i n) h = refl
    spills_code (Mark v m) h = absurd h
    spills_code (Phi p n) h = absurd h

    under : (p : Pos) → IsExtra p → (n : ℕ) × (p.item ≡ n + 1) × IsOrigin fs (record { block = p.block; item = n })
    under p e = (
      e.pos.item,
      ap (λ (q : Pos). q.item) e.under,
      origin_of e.place e.item e.at (spills_code e.item.kind e.defines)
          (record { block = p.block; item = e.pos.item })
          (ap position_of e.kept ∙ ap (λ (b : ℕ). record { block = b; item = e.pos.item }) (sym (ap (λ (q : Pos). q.block) e.under))),
    )

    starts : (p : Pos) (n : ℕ) → Edge f p (block_start n) → MatchItems s slots homes entry blocks resolve (Evenly 0) n (rf (block_start n)) (rg (block_start n))
    starts p n edge = (refl, start_in_g s entry blocks n (λ e. none e free)) where
      none : n ≡ first_of blocks → (entry ≡ []) ⊎ ((p : Pos) → Edge f p (block_start (first_of blocks)) → ⊥) → entry ≡ []
      none e (inl k) = k
      none e (inr out) = absurd (out p (subst (λ (m : ℕ). Edge f p (block_start m)) e edge))

    onward : (p q : Pos) (k n : ℕ) → q.block ≡ p.block → rf p ≡ [] → rg q ≡ [] → g.fetch q ≡ EndOfBlock k n → f.fetch p ≡ EndOfBlock k n
    onward p q k n same none none' at =
        let w = end_in_f s entry blocks resolve q k n at in
        end_past s entry blocks resolve p w.0 w.1 k n (ap (from_block blocks) (sym same) ∙ w.2) none w.3

    end_stands : (p : Pos) (k n : ℕ) → count ≡ ByEnds → f.fetch p ≡ EndOfBlock k n → (st u : State) → st.pos ≡ record { block = p.block; item = k } →
        step src st ≡ Went u → IsExtra u.pos → IsOrigin fs u.pos
    end_stands p k n ends at st u from went e =
        let before : st.pos ≡ e.pos = step_from_before src st u e.pos.block e.pos.item went e.under in
        let here : e.pos ≡ record { block = p.block; item = k } = sym before ∙ from in
        let w = end_at blocks resolve p k n at in
        let v = stands_at false blocks resolve e.place e.item e.at in
        let inside : OriginIn v.block (Kept e.pos) =
        subst (OriginIn v.block) e.kept (holds_at (IsGood s slots homes entry blocks resolve src) blocks goods e.place e.item v).inside in
        let id : e.place.block ≡ p.block = sym v.id ∙ sym inside.0 ∙ ap (λ (q : Pos). q.block) here in
        let same : w.0 ∷ w.1 ≡ v.block ∷ v.rest = sym w.2 ∙ ap (from_block blocks) (sym id) ∙ v.found in
        let one : w.0 ≡ v.block = cc in
        let source_end : v.block.source_end ≡ k = ap (λ (b : Block). b.source_end) (sym one) ∙ end_silent w.0.source_end w.1 k n w.3 in
        let lt = inside.1 in
        let item : e.pos.item ≡ k = ap (λ (q : Pos). q.item) here in
        absurd (omega (arith, lt, item, source_end)) where
          end_silent : (j : ℕ) (bs : List Block) (k n : ℕ) → end_of j bs ≡ EndOfBlock k n → j ≡ k
          end_silent j [] k n e = cc
          end_silent j (b ∷ bs) k n e = cc

    ends : (k : Stage) (p : Pos) (j n : ℕ) (c d : Core) → stands k ≡ Level → rf p ≡ [] → f.fetch p ≡ EndOfBlock j n →
        MatchItems s slots homes entry blocks resolve k p.block [] [] → MatchCores s slots homes entry blocks resolve k p.block [] [] c d →
        MatchCores s slots homes entry blocks resolve (Evenly 0) n (rf (block_start n)) (rg (block_start n)) c d
    ends (Evenly i) p j n c d even none at rests near =
        let w = end_at blocks resolve p j n at in
        let here : Pos = record { block = p.block; item = i } in
        let there : f.fetch here ≡ EndOfBlock j n = end_past s entry blocks resolve here w.0 w.1 j n w.2 rests.0 w.3 in
        near_on s slots homes resolve (Alive s slots homes entry blocks resolve p.block i) (λ _. ⊥) (Alive s slots homes entry blocks resolve n 0) (λ _. ⊥) c
        d near
        (λ r m e out. (
          λ z. z,
          λ live. later (λ k. subst (λ (x : Fetch). Defines x (Register r)) there k)
              (subst (λ (x : Fetch). FetchEdge f.enter x here (block_start n)) (sym there) refl) live,
        ))
    ends (Opened h hs) p j n c d even none at rests near = cc
    ends (Early i q) p j n c d even none at rests near = cc
    ends (Half i q m) p j n c d even none at rests near = cc
    ends (Ready i q) p j n c d even none at rests near = cc
    ends (Owes i q r m) p j n c d even none at rests near = cc

    shows_near : (A O : ℕ → Type 0) (c d : Core) → Near s slots A O c d → ShowsSame c d
    shows_near A O c d near = record { events = sym near.world.events; told = λ v x e. near.marks v x e }

    shows : (k : Stage) (b : ℕ) (xs ys : List Item) (c d : Core) → MatchCores s slots homes entry blocks resolve k b xs ys c d → ShowsSame c d
    shows (Opened h hs) b xs ys c d k = shows_near _ _ c d k.near
    shows (Evenly i) b xs ys c d k = shows_near _ _ c d k
    shows (Early i q) b xs ys c d k = shows_near _ _ c d k
    shows (Half i q n) b xs ys c d k = shows_near _ _ c d k.0
    shows (Ready i q) b xs ys c d k = shows_near _ _ c d k.0
    shows (Owes i q r n) b xs ys c d k = shows_near _ _ c d k.0

    adds : Adds count src sides match_states
    adds = record {
      more = record {
        stops = stops;
        own = λ p o. o;
        below = under;
        on = λ st u reach went. leads_on src reach (step_edge src st u went);
      };
      laid_f = laid_out false blocks resolve;
      laid_g = laid_out false (spilled_blocks s entry blocks) resolve;
      enter_f = λ n. refl;
      view = view s slots homes entry blocks resolve count counts src s0 goods order start;
      entry_level = λ n. refl;
      starts = starts;
      onward = onward;
      same_blocks = λ e n. refl;
      end_stands = end_stands;
      ends = ends;
      shows = shows;
    }

    -- no spilled register is live at the start but those that are stored, and the slots are unwritten
    module _ (cold : (n : ℕ) → s0.core.slots n ≡ None) (warm : (r : ℕ) → r < 32 → IsSome (content s0.core.regs r))
        (virtual : (r : ℕ) → 32 ≤ r → content s0.core.regs r ≡ None)
        (lives : (r n : ℕ) → slot_of s.homes r ≡ Some n → r < 32 → Live f (Register r) (block_start (first_of blocks)) →
        (h : SlotAssignment) × Contains entry h × (h.register ≡ r)) (stored : (h : SlotAssignment) → Contains entry h →
        slot_of s.homes h.register ≡ Some h.slot) (real : (h : SlotAssignment) → Contains entry h → h.register < 32) where
      near_start : (hs : List SlotAssignment) → ((h : SlotAssignment) → Contains entry h → Contains hs h) →
          Near s slots (Alive s slots homes entry blocks resolve s0.pos.block 0) (λ q. (h : SlotAssignment) × Contains hs h × (h.register ≡ q)) s0.core s0.core
      near_start hs all = record {
        world = record { entry = refl; area = refl; objects = refl; symbols = refl; memory = refl; script = refl; events = refl };
        regs = λ r h. refl;
        slots_alike = λ n k. refl;
        under = λ r n e out v k. (let bad : None ≡ Some v = sym (cold n) ∙ k in cc);
        alive = λ r n e out live. by_kind r n e out live (cases_lt r 32);
        pairs = λ k o v e. e;
        marks = λ v x e. e;
      } where
        -- a virtual register has no value, nor has its slot
        by_kind : (r n : ℕ) → slot_of s.homes r ≡ Some n → ((h : SlotAssignment) × Contains hs h × (h.register ≡ r) → ⊥) →
            Alive s slots homes entry blocks resolve s0.pos.block 0 r → (r < 32) ⊎ (32 ≤ r) → s0.core.slots n ≡ content s0.core.regs r
        by_kind r n e out live (inl lt) =
            let first : s0.pos.block ≡ first_of blocks = ap (λ (p : Pos). p.block) start in
            let w = lives r n e lt (subst (λ (b : ℕ). Live f (Register r) (block_start b)) first live) in
            absurd (out (w.0, all w.0 w.1, w.2))
        by_kind r n e out live (inr ge) = cold n ∙ sym (virtual r ge)

      at_start : rf s0.pos ≡ rf (block_start s0.pos.block)
      at_start = ap rf (start ∙ ap block_start (sym (ap (λ (p : Pos). p.block) start)))

      at_block : s0.pos.block ≡ first_of blocks
      at_block = ap (λ (p : Pos). p.block) start

      -- of a function with a block
      module _ (b0 : Block) (more : List Block) (are : blocks ≡ b0 ∷ more) where
        first_rest : rg (block_start (first_of blocks)) ≡ entry_stores (first_of blocks) entry ++ spilled_items s (rf (block_start (first_of blocks)))
        first_rest = subst (λ (bs : List Block). rest_of (spilled_blocks s entry bs) (block_start (first_of bs)) ≡
            entry_stores (first_of bs) entry ++ spilled_items s (rest_of bs (block_start (first_of bs)))) (sym are) (first_start s entry b0 more)

        rest_at : rg s0.pos ≡ entry_stores s0.pos.block entry ++ spilled_items s (rf s0.pos)
        rest_at =
            ap rg start ∙ first_rest ∙
            (λ i. entry_stores (sym at_block i) entry ++ spilled_items s (rf (sym start i)))

        all_stops : entry ≡ [] → (p : Pos) → IsOrigin fs p → IsOrigin gs s0.pos → IsOrigin fs s0.pos
        all_stops none p o h =
            elim (where_from s0.pos h) as (λ _. IsOrigin fs s0.pos) [
              | inl k ↦ k
              | inr m ↦ elim m as (λ _. IsOrigin fs s0.pos) [
                | inl e ↦
                    (let item : 0 ≡ e.pos.item + 1 = sym (ap (λ (q : Pos). q.item) start) ∙ ap (λ (q : Pos). q.item) e.under in
                    absurd (omega (arith, item)))
                | inr k ↦ absurd (k.1 none)
              ]
            ]

        begins : Begins count src sides match_states
        begins = by_entry entry refl where
          by_entry : (hs : List SlotAssignment) → entry ≡ hs → Begins count src sides match_states
          by_entry [] e =
              level (Evenly 0) refl refl (
                sym at_start,
                rest_at ∙ ap (λ (hs : List SlotAssignment). entry_stores s0.pos.block hs ++ spilled_items s
                    (rf s0.pos)) e,
              )
              (near_on s slots homes resolve (Alive s slots homes entry blocks resolve s0.pos.block 0) (λ q. (h : SlotAssignment) × Contains entry h ×
              (h.register ≡ q))
              (Alive s slots homes entry blocks resolve s0.pos.block 0) (λ _. ⊥) s0.core s0.core (near_start entry (λ h k. k))
              (λ r n z out. (λ owed. (let k = subst (λ (hs : List SlotAssignment). Contains hs owed.0) e owed.1 in let lt = k.1 in omega (arith, lt)), λ z. z)))
              (all_stops e)
          by_entry (h ∷ hs) e =
              opens (Opened h hs) refl (
                at_block,
                sym at_start,
                rest_at ∙ ap (λ (js : List SlotAssignment). entry_stores s0.pos.block js ++ spilled_items s (rf s0.pos)) e,
                λ j k. (let among = subst (λ (js : List SlotAssignment). Contains js j) (sym e) k in (stored j among, real j among)),
              )
              (record {
                near = near_start (h ∷ hs) (λ j k. subst (λ (js : List SlotAssignment). Contains js j) e k);
                regs = λ r. refl;
                written = warm;
              })

        -- it runs along where the function does
        pub spilled_runs : RunsMatch src f fs (AnyOrigin fs) s0 s0 → RunsMatch src g gs (AnyOrigin gs) s0 s0
        spilled_runs runs = added_follows match_states count src sides adds stay begins runs

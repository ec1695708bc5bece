-- The function with spilled registers has the shape of one that follows the source.
use Rattle.std.proofs.Common.{◌≡◌, ◌⊎◌, ℕ, zero, suc, ◌+◌, ◌*◌, ◌<◌, ◌≤◌, List, [], ◌∷◌, ◌++◌, map, drop, All, Contains, Option, Some, None, Bool}
use Rattle.std.proofs.Common.{true, false, cond, nat_eq, refl, sym, ap, ◌∙◌, subst, inl, inr, eq-eqb, slice_get, arith}
use Rattle.std.proofs.lemmas.Bool.{cases_eq, cases_lt}
use Rattle.std.proofs.lemmas.List.Concat.{flat_map-cons}
use Rattle.std.proofs.lemmas.List.Elements.{All-contains}
use Rattle.rv64_instr.specs.declared.place.Place.TheVariants.{Register}
use Rattle.rv64_instr.specs.Instruction.{Instruction}
use Rattle.rv64_instr.specs.LocationEffects.{IsSlotStore}
use Rattle.rv64_instr.specs.Row.{Row, StoresSlot, Branches, Jumps, Returns, Unfit, row_of}
use Rattle.mir_func.specs.declared.debug_substitution.OperandPair.{OperandPair}
use Rattle.mir_func.specs.declared.position.Pos.{Pos}
use Rattle.mir_func.specs.declared.position.Origin.{Origin}
use Rattle.mir_func.specs.declared.position.Origin.TheVariants.{Kept, Before}
use Rattle.mir_func.specs.declared.location.Loc.{Loc}
use Rattle.mir_func.specs.declared.location.Loc.TheVariants.{Absent}
use Rattle.mir_func.specs.declared.block.Block.{Block}
use Rattle.mir_func.specs.declared.item.Item.{Item}
use Rattle.mir_func.specs.declared.item.ItemKind.{ItemKind}
use Rattle.mir_func.specs.declared.item.ItemKind.TheVariants.{Code, Mark, Phi}
use Rattle.mir_func.specs.Graph.{Program, Fetch, Here, EndOfBlock, Outside, below, block_start, from_block, program_of, FetchEdge, RowEdge, Leads, stay}
use Rattle.mir_func.specs.Graph.{rest_of}
use Rattle.mir_func.specs.Sound.{AreApart, OriginIn, ids_of, TargetsIn, TargetIn}
use Rattle.mir_func.specs.Positions.{position_of}
use Rattle.sem_mir.specs.InitialState.{first_of}
use Rattle.sem_mir.specs.Follow.{rank, next_rank, InOrder, OnRow, Counts, IsMetApart, Shape}
use Rattle.sem_mir.specs.Live.{Live, Uses, KindUses}
use Rattle.sem_mir.proofs.Edges.{leads_trans}
use Rattle.sem_mir.proofs.Reading.{found, next_block}
use Rattle.sem_simulation.proofs.Laid.{laid_out}
use Rattle.sem_simulation.proofs.Order.{rank_high, same_pos}
use Rattle.spill_code.specs.declared.spilling.SlotAssignment.{SlotAssignment}
use Rattle.spill_code.specs.declared.spilling.Spilling.{Spilling}
use Rattle.spill_code.specs.Rewrite.{slot_of, use_now, def_now, first_used, other_used, first_defined}
use Rattle.spill_code.specs.Rewrite.{spilled_code, load, store, added, loads, two_loads, stores}
use Rattle.spill_code.specs.Rewrite.{code_items, kind_items, spilled_place, spilled_item, spilled_items, spilled_block, entry_stores, spilled_blocks}
use Rattle.spill_simulation.specs.MaySpill.{FitsCode, AreHomes}
use Rattle.spill_simulation.proofs.Apart.{used_loads, live_use, counts_now, piece_of}
use Rattle.spill_simulation.proofs.Paths.{Chunk, Lies, in_entry, in_item, lies_at, to_g, path_in_g, main_at, chunk_code, walk, FallThrough, rest_from, AreThere}
use Rattle.spill_simulation.proofs.Paths.{next_of_end}
use Rattle.spill_simulation.proofs.Places.{Stands, stands_at, holds_at, same_stands, order_apart, contains_at, end_at, in_g}
use Rattle.spill_simulation.proofs.Rows.{renamed_row}
use Rattle.spill_simulation.proofs.Shape.{kept_use, renames}
use Rattle.spill_simulation.proofs.Views.{IsGood}

-- a block of a number that stands in the list is found
found_id : (bs : List Block) (n : ℕ) → Contains (ids_of bs) n → (b : Block) × (rest : List Block) × (from_block bs n ≡ b ∷ rest)
found_id [] n (k, lt, e) = absurd (omega (arith, lt))
found_id (b ∷ bs) n h = by_test (nat_eq b.id n) refl h (λ k. found_id bs n k) where
  by_test : (z : Bool) → nat_eq b.id n ≡ z → Contains (b.id ∷ ids_of bs) n → (Contains (ids_of bs) n → (c : Block) × (rest : List Block) ×
      (from_block bs n ≡ c ∷ rest)) → (c : Block) × (rest : List Block) × (cond (nat_eq b.id n) (b ∷ bs) (from_block bs n) ≡ c ∷ rest)
  by_test true z h more = (b, bs, ap (λ (t : Bool). cond t (b ∷ bs) (from_block bs n)) z)
  by_test false z (zero, lt, e) more = let bad : false ≡ true = sym z ∙ eq-eqb b.id n e in cc
  by_test false z (suc k, lt, e) more =
      let w = more (k, omega (arith, lt), e) in
      (w.0, w.1, ap (λ (t : Bool). cond t (b ∷ bs) (from_block bs n)) z ∙ w.2)

drop_none : (xs : List Item) → drop 0 xs ≡ xs
drop_none [] = refl
drop_none (x ∷ xs) = refl

module _ (s : Spilling) (slots : List ℕ) (homes : AreHomes s slots) (entry : List SlotAssignment) (blocks : List Block)
    (resolve : OperandPair → Option OperandPair) (srcp : Program)
    (goods : All (λ (b : Block). All (IsGood s slots homes entry blocks resolve srcp b) b.items) blocks)
    (targets : All (λ (b : Block). All (λ (i : Item). TargetsIn (ids_of blocks) i.kind) b.items) blocks) where
  abbrev f : Program
  f = program_of false blocks resolve

  abbrev g : Program
  g = program_of false (spilled_blocks s entry blocks) resolve

  abbrev new : List Block
  new = spilled_blocks s entry blocks

  abbrev rf : Pos → List Item
  rf = rest_of blocks

  abbrev rg : Pos → List Item
  rg = rest_of new

  target_is : (r : Row) (p : Pos) (n : ℕ) → TargetIn (ids_of blocks) r → RowEdge (λ n. n) r p (block_start n) → Contains (ids_of blocks) n
  target_is r p n = by_row r where
    same_start : (t : ℕ) → block_start n ≡ block_start t → Contains (ids_of blocks) t → Contains (ids_of blocks) n
    same_start t e h = subst (λ (m : ℕ). Contains (ids_of blocks) m) (sym (ap (λ (q : Pos). q.block) e)) h

    never : {P : Type 0} → block_start n ≡ below p → P
    never e = let k : 0 ≡ p.item + 1 = ap (λ (q : Pos). q.item) e in absurd (omega (arith, k))

    by_row : (r : Row) → TargetIn (ids_of blocks) r → RowEdge (λ n. n) r p (block_start n) → Contains (ids_of blocks) n
    by_row (Branches op a b t) h (inl e) = same_start t e h
    by_row (Branches op a b t) h (inr e) = never e
    by_row (Jumps t) h e = same_start t e h
    by_row (Returns v) h e = absurd e
    by_row Unfit h e = absurd e
    by_row _ h e = never e

  pub there : AreThere s entry blocks resolve
  there p n edge = found_id blocks n (by_fetch (f.fetch p) refl edge) where
    by_kind : (k : ItemKind) → TargetsIn (ids_of blocks) k → FetchEdge (λ n. n) (Here (record { kind = k; origin = Kept p; loc = Absent })) p (block_start n) →
        Contains (ids_of blocks) n
    by_kind (Code i m) h e = target_is (row_of i) p n h e
    by_kind (Mark v m) h e = let k : 0 ≡ p.item + 1 = ap (λ (q : Pos). q.item) e in absurd (omega (arith, k))
    by_kind (Phi a m) h e = let k : 0 ≡ p.item + 1 = ap (λ (q : Pos). q.item) e in absurd (omega (arith, k))

    by_fetch : (x : Fetch) → f.fetch p ≡ x → FetchEdge (λ n. n) x p (block_start n) → Contains (ids_of blocks) n
    by_fetch (Here i) at e = by_kind i.kind
        (holds_at (λ b i. TargetsIn (ids_of blocks) i.kind) blocks targets p i (stands_at false blocks resolve p i at)) e
    by_fetch (EndOfBlock k m) at e =
        let w = end_at blocks resolve p k m at in
        let c = next_of_end s entry blocks resolve w.0.source_end w.1 k m w.3 in
        let i = next_block blocks p.block w.0 c.0 c.1 (w.2 ∙ ap (λ (z : List Block). w.0 ∷ z) c.2) in
        let same : c.0.id ≡ n = c.3 ∙ sym (ap (λ (q : Pos). q.block) e) in
        subst (λ (z : ℕ). Contains (ids_of blocks) z) same (contains_at (ids_of blocks) (suc i.0) c.0.id i.1)
    by_fetch Outside at e = absurd e

  good_at : (q : Pos) (x : Item) (w : Stands blocks q x) → IsGood s slots homes entry blocks resolve srcp w.block x
  good_at q x w = holds_at (IsGood s slots homes entry blocks resolve srcp) blocks goods q x w

  fits_at : (w : Pos) (ins : Instruction) (num : Option ℕ) (o : Origin) (l : Loc) → f.fetch w ≡ Here (record { kind = Code ins num; origin = o; loc = l }) →
      FitsCode s ins o
  fits_at w ins num o l e =
      (good_at w (record { kind = Code ins num; origin = o; loc = l })
      (stands_at false blocks resolve w (record { kind = Code ins num; origin = o; loc = l }) e)).fits

  home_at : (w : Pos) (x : Item) → f.fetch w ≡ Here x → (position_of x.origin).block ≡ w.block
  home_at w x e = let v = stands_at false blocks resolve w x e in by_origin v.block x.origin (good_at w x v).inside ∙ v.id where
    by_origin : (b : Block) (o : Origin) → OriginIn b o → (position_of o).block ≡ b.id
    by_origin b (Kept p) h = h.0
    by_origin b (Before p) h = h.0

  -- each block of the one has the silent index of the other's
  silent_of : AreApart (ids_of new) → (b : Block) → Contains new b → (c : Block) (rest : List Block) → from_block blocks b.id ≡ c ∷ rest →
      c.source_end ≡ b.source_end
  silent_of apart b member c rest e =
      let w = found new apart b member in
      let i = in_g s entry blocks b.id c rest e in
      let same : b ∷ w.rest ≡ record { id = c.id; items = i.first ++ spilled_items s c.items; source_end = c.source_end } ∷ map
      (spilled_block s) rest = sym w.at ∙
      i.at in
      let one : b ≡ record { id = c.id; items = i.first ++ spilled_items s c.items; source_end = c.source_end } = cc in
      sym (ap (λ (z : Block). z.source_end) one)

  -- ---- code that counts is met

  pub record Met (w q : Pos) (p : Pos) : Type 0 where
    pub place : Pos
    pub item : Item
    pub at : g.fetch place ≡ Here item
    pub counts : OnRow Counts item.kind
    pub pos : position_of item.origin ≡ p
    pub way : Leads g q place

  met_code : (w q : Pos) (ins : Instruction) (num : Option ℕ) (o : Origin) (l : Loc) → f.fetch w ≡ Here (record { kind = Code ins num; origin = o; loc = l }) →
      Chunk s entry blocks resolve w q → Counts (row_of ins) ⊎ ((n : ℕ) × (first_used s.homes ins.operands ≡ Some n)) → Met w q (position_of o)
  met_code w q ins num o l e c h = by_first (first_used s.homes ins.operands) refl h where
    by_first : (z : Option ℕ) → first_used s.homes ins.operands ≡ z → Counts (row_of ins) ⊎ ((n : ℕ) × (first_used s.homes ins.operands ≡ Some n)) →
        Met w q (position_of o)
    by_first (Some n) z h =
        let here = chunk_code s entry blocks resolve ins num o l w q e c ∙
        ap (λ (t : Option ℕ). two_loads s (position_of o) ins.operands t ++ (record { kind = Code (spilled_code s ins) num; origin = o; loc = l } ∷
        (stores (below (position_of o)) s.first (first_defined s.homes ins.operands) ++ spilled_items s (rf (below w))))) z in
        let k = (laid_out false new resolve).cons q (added (position_of o) (load s.first n)) _ here in
        record { place = q; item = added (position_of o) (load s.first n); at = k.0; counts = tt; pos = refl; way = stay }
    by_first None z (inr (n, some)) = let bad : None ≡ Some n = sym z ∙ some in cc
    by_first None z (inl counts) =
        let m = main_at s entry blocks resolve ins num o l w q e c in
        record {
          place = m.place;
          item = record { kind = Code (spilled_code s ins) num; origin = o; loc = l };
          at = m.at;
          counts = counts_now s slots homes ins o (fits_at w ins num o l e) z (inl counts);
          pos = refl;
          way = m.way;
        }

  -- ---- slot stores at a block's end

  module _ (apart : AreApart (ids_of blocks)) (apart' : AreApart (ids_of new)) (order' : All (λ (b : Block). InOrder b.id 0 b.items) new) where
    -- in a block of the result what comes from an earlier position stands earlier
    earlier : (p q : Pos) (i j : Item) (n : ℕ) → g.fetch p ≡ Here i → g.fetch q ≡ Here j → q.block ≡ p.block →
        i.origin ≡ Before (record { block = p.block; item = n }) → (position_of j.origin).item < n → q.item < p.item
    earlier p q i j n at at' same is lt =
        by_place (stands_at false new resolve p i at) (stands_at false new resolve q j at') where
          high : rank j.origin < 2 * n
          high = let k = rank_high j.origin in omega (arith, k, lt)

          by_place : Stands new p i → Stands new q j → q.item < p.item
          by_place v v' =
              let b = same_stands new p q i j v v' (sym same) in
              let there : slice_get v.block.items q.item ≡ Some j = ap (λ (z : Block). slice_get z.items q.item) b ∙ v'.at in
              elim (cases_lt q.item p.item) as (λ _. q.item < p.item) [
                | inl k ↦ k
                | inr ge ↦ absurd (elim (cases_eq q.item p.item) as (λ _. ⊥) [
                  | inl e ↦
                      (let z : Some j ≡ Some i = sym there ∙ ap (slice_get v.block.items) e ∙ v.at in
                      let ji : j ≡ i = cc in
                      let r : rank j.origin ≡ 2 * n = ap (λ (z : Item). rank z.origin) ji ∙ ap rank is in
                      omega (arith, r, high))
                  | inr ne ↦
                      (let h = order_apart v.block.id 0 v.block.items p.item q.item i j
                      (All-contains (λ (b : Block). InOrder b.id 0 b.items) new v.block order' v.member) v.at there (omega (arith, ge, ne)) in
                      let a : 2 * n ≤ rank j.origin = subst (λ (z : Origin). next_rank z ≤ rank j.origin) is h in
                      omega (arith, a, high))
                ])
              ]

    -- what code becomes, by its place: a load, the code, or the store behind it
    pub data Part (ins : Instruction) (num : Option ℕ) (o : Origin) (l : Loc) (k : ℕ) (y : Item) : Type 0 where
      is_load : (r n : ℕ) → y ≡ added (position_of o) (load r n) → Part ins num o l k y
      is_main : y ≡ record { kind = Code (spilled_code s ins) num; origin = o; loc = l } →
          (first_used s.homes ins.operands ≡ None → k ≡ 0) → Part ins num o l k y
      is_store : (n : ℕ) → first_defined s.homes ins.operands ≡ Some n → y ≡ added (below (position_of o)) (store s.first n) → Part ins num o l k y

    pub part_of : (ins : Instruction) (num : Option ℕ) (o : Origin) (l : Loc) (k : ℕ) (y : Item) → slice_get (code_items s ins num o l) k ≡ Some y →
        Part ins num o l k y
    part_of ins num o l k y h = by_first (first_used s.homes ins.operands) refl h where
      main : Item
      main = record { kind = Code (spilled_code s ins) num; origin = o; loc = l }

      by_store : (z : Option ℕ) → first_defined s.homes ins.operands ≡ z → (j : ℕ) → slice_get (stores (below (position_of o)) s.first z) j ≡ Some y →
          Part ins num o l k y
      by_store None e j h = cc
      by_store (Some n) e zero h = is_store n e cc
      by_store (Some n) e (suc j) h = cc

      by_main : (j : ℕ) → (first_used s.homes ins.operands ≡ None → k ≡ j) →
          slice_get (main ∷ stores (below (position_of o)) s.first (first_defined s.homes ins.operands)) j ≡ Some y → Part ins num o l k y
      by_main zero e h = is_main (cc) e
      by_main (suc j) e h = by_store (first_defined s.homes ins.operands) refl j h

      never : {P : Type 0} (n : ℕ) → first_used s.homes ins.operands ≡ Some n → first_used s.homes ins.operands ≡ None → P
      never n e e' = let bad : Some n ≡ None = sym e ∙ e' in cc

      by_other : (n : ℕ) → first_used s.homes ins.operands ≡ Some n → (z : Option ℕ) → (j : ℕ) →
          slice_get (loads (position_of o) s.second z ++ (main ∷ stores (below (position_of o)) s.first (first_defined s.homes ins.operands))) j ≡ Some y →
          Part ins num o l k y
      by_other n e None j h = by_main j (λ e'. never n e e') h
      by_other n e (Some m) zero h = is_load s.second m cc
      by_other n e (Some m) (suc j) h = by_main j (λ e'. never n e e') h

      by_some : (n : ℕ) → first_used s.homes ins.operands ≡ Some n → (j : ℕ) →
          slice_get (two_loads s (position_of o) ins.operands (Some n) ++
          (main ∷ stores (below (position_of o)) s.first (first_defined s.homes ins.operands))) j ≡ Some y → Part ins num o l k y
      by_some n e zero h = is_load s.first n cc
      by_some n e (suc j) h = by_other n e (other_used s.homes n ins.operands) j h

      by_first : (z : Option ℕ) → first_used s.homes ins.operands ≡ z →
          slice_get (two_loads s (position_of o) ins.operands z ++
          (main ∷ stores (below (position_of o)) s.first (first_defined s.homes ins.operands))) k ≡ Some y → Part ins num o l k y
      by_first None e h = by_main k (λ _. refl) h
      by_first (Some n) e h = by_some n e k h

    spilled_stores : (ins : Instruction) → IsSlotStore (row_of (spilled_code s ins)) → IsSlotStore (row_of ins)
    spilled_stores ins h = by_row (row_of ins) (subst IsSlotStore (renames s slots homes entry blocks resolve srcp ins) h) where
      by_row : (r : Row) → IsSlotStore (renamed_row (use_now s (first_used s.homes ins.operands)) (def_now s) r) → IsSlotStore r
      by_row (StoresSlot rs n) h = tt
      by_row _ h = h

    module _ (src : List Block) (shape : Shape src blocks srcp f)
        (stored : (h : SlotAssignment) → Contains entry h → slot_of s.homes h.register ≡ Some h.slot)
        (lives : (h : SlotAssignment) → Contains entry h → Live f (Register h.register) (block_start (first_of blocks))) where
      -- the position of an item isn't past its block's end; that of kept code isn't at it
      inside_of : (w : Pos) (x : Item) (b : Block) → f.fetch w ≡ Here x → Contains new b → w.block ≡ b.id →
          ((position_of x.origin).item ≤ b.source_end) × ((q : Pos) → x.origin ≡ Kept q → q.item < b.source_end) × ((position_of x.origin).block ≡ b.id)
      inside_of w x b e member same =
          let v = stands_at false blocks resolve w x e in
          let source_end : v.block.source_end ≡ b.source_end = silent_of apart' b member v.block v.rest (ap (from_block blocks) (sym same) ∙ v.found) in
          let id : v.block.id ≡ b.id = v.id ∙ same in
          by_origin x.origin refl v.block (good_at w x v).inside source_end id where
            by_origin : (o : Origin) → x.origin ≡ o → (c : Block) → OriginIn c o → c.source_end ≡ b.source_end → c.id ≡ b.id →
                ((position_of o).item ≤ b.source_end) × ((q : Pos) → o ≡ Kept q → q.item < b.source_end) × ((position_of o).block ≡ b.id)
            by_origin (Kept p) k c h source_end id =
                let lt = h.1 in (
                  omega (arith, lt, source_end),
                  λ q z. (let pq : p ≡ q = cc in subst (λ (y : Pos). y.item < b.source_end) pq (omega
                      (arith, lt, source_end))),
                  h.0 ∙ id,
                )
            by_origin (Before p) k c h source_end id = let le = h.1 in (omega (arith, le, source_end), λ q z. cc, h.0 ∙ id)

      abbrev MetFor : Block → Pos → Type 0
      MetFor b p = (q : Pos) × (j : Item) × IsMetApart g p b.source_end q j

      entry_member : (n : ℕ) (hs : List SlotAssignment) (y : Item) → Contains (entry_stores n hs) y → (h : SlotAssignment) × Contains hs h
      entry_member n [] y (k, lt, e) = absurd (omega (arith, lt))
      entry_member n (h ∷ hs) y k = (h, (0, omega arith, refl))

      -- a store at the start: a use of its register loads it
      met_entry : (b : Block) (p : Pos) (i : Item) (ys : List Item) (c : Block) (rest : List Block) → Contains new b → p.block ≡ b.id →
          from_block blocks p.block ≡ c ∷ rest → p.block ≡ first_of blocks → FallThrough ys → Contains (entry_stores p.block entry) i →
          rg p ≡ ys ++ spilled_items s (rf (block_start p.block)) → MetFor b p
      met_entry b p i ys c rest member same found first falls stands here = by_home (entry_member p.block entry i stands) where
        by_use : (h : SlotAssignment) → Contains entry h → (w : Pos) × Leads f (block_start (first_of blocks)) w × Uses (f.fetch w) (Register h.register) →
            MetFor b p
        by_use h k (w, way, uses) = by_fetch (f.fetch w) refl uses where
          to_start : (q0 : Pos) × Chunk s entry blocks resolve (block_start p.block) q0 × Leads g p q0
          to_start =
              let v = walk s entry blocks resolve ys (spilled_items s (rf (block_start p.block))) p falls here in
              (v.0, record { block = v.1; rest = v.2 }, v.3)

          by_code : (x : Item) (k' : ItemKind) → x.kind ≡ k' → f.fetch w ≡ Here x → KindUses k' (Register h.register) → MetFor b p
          by_code x (Code ins num) is e u =
              let e' : f.fetch w ≡ Here (record { kind = Code ins num; origin = x.origin; loc = x.loc }) =
              e ∙ ap (λ (z : ItemKind). Here (record { kind = z; origin = x.origin; loc = x.loc })) is in
              let fits = fits_at w ins num x.origin x.loc e' in
              let some = used_loads s slots homes ins x.origin fits h.register h.slot (stored h k) u in
              let kept = kept_use s slots homes ins x.origin fits some.0 some.1 in
              let start = to_start in
              let path = path_in_g s entry blocks resolve there (renames s slots homes entry blocks resolve srcp)
              (subst (λ (n : ℕ). Leads f (block_start n) w) (sym first) way) start.0 start.1 in
              let m = met_code w path.0 ins num x.origin x.loc e' path.1 (inr some) in (
                m.place,
                m.item,
                (
                  m.at,
                  m.counts,
                  λ z. (let at_end : kept.0 ≡ record { block = p.block; item = b.source_end } = sym (ap position_of kept.1) ∙ sym m.pos ∙ z in
                      let home : w.block ≡ b.id = sym (home_at w x e) ∙ ap (λ (q : Pos). q.block) (ap position_of kept.1) ∙ ap (λ (q : Pos). q.block) at_end ∙
                      same in
                      let lt = (inside_of w x b e member home).1 kept.0 kept.1 in
                      let item : kept.0.item ≡ b.source_end = ap (λ (q : Pos). q.item) at_end in
                      omega (arith, lt, item)),
                  inr (leads_trans g start.2 (leads_trans g path.2 m.way)),
                ),
              )
          by_code x (Mark v a) is e u = absurd u
          by_code x (Phi a n) is e u = absurd u

          by_fetch : (z : Fetch) → f.fetch w ≡ z → Uses z (Register h.register) → MetFor b p
          by_fetch (Here x) e u = by_code x x.kind refl e u
          by_fetch _ e u = absurd u

        by_home : (h : SlotAssignment) × Contains entry h → MetFor b p
        by_home (h, k) = by_use h k (live_use (lives h k))

      -- a store behind a definition: the definition, or its load
      met_store : (b : Block) (p : Pos) (i : Item) (w : Pos) (ins : Instruction) (num : Option ℕ) (o : Origin) (l : Loc) (n : ℕ) → Contains new b →
          p.block ≡ b.id → w.block ≡ p.block → g.fetch p ≡ Here i → f.fetch w ≡ Here (record { kind = Code ins num; origin = o; loc = l }) →
          first_defined s.homes ins.operands ≡ Some n → i.origin ≡ Before (record { block = b.id; item = b.source_end }) →
          below (position_of o) ≡ record { block = b.id; item = b.source_end } → MetFor b p
      met_store b p i w ins num o l n member home same at e some is end =
          let x : Item = record { kind = Code ins num; origin = o; loc = l } in
          let piece = piece_of s slots homes ins num o l (fits_at w ins num o l e) (inr (n, some)) in
          let q = to_g s entry blocks resolve w x piece.item piece.index e piece.at in
          let next : (position_of o).item + 1 ≡ b.source_end = ap (λ (z : Pos). z.item) end in
          let item : (position_of piece.item.origin).item + 1 ≡ b.source_end = ap (λ (z : Pos). z.item + 1) piece.pos ∙ next in
          let lt : (position_of piece.item.origin).item < b.source_end = omega (arith, item) in
          let is' : i.origin ≡ Before (record { block = p.block; item = b.source_end }) =
          is ∙ ap (λ (m : ℕ). Before (record { block = m; item = b.source_end })) (sym home) in (
            q.0,
            piece.item,
            (
              q.2,
              piece.counts,
              λ z. (let k : (position_of piece.item.origin).item ≡ b.source_end = ap (λ (y : Pos). y.item) z in omega (arith, k, lt)),
              inl (q.1 ∙ same, earlier p q.0 i piece.item b.source_end at q.2 (q.1 ∙ same) is' lt),
            ),
          )

      -- a slot store of the function: what is met there
      met_main : (b : Block) (p : Pos) (i : Item) (w : Pos) (ins : Instruction) (num : Option ℕ) (o : Origin) (l : Loc) → Contains new b →
          p.block ≡ b.id → w.block ≡ p.block → g.fetch p ≡ Here i → f.fetch w ≡ Here (record { kind = Code ins num; origin = o; loc = l }) →
          Chunk s entry blocks resolve w p → IsSlotStore (row_of ins) → i.origin ≡ o → i.origin ≡ Before (record { block = b.id; item = b.source_end }) →
          MetFor b p
      met_main b p i w ins num o l member home same at e chunk slot origin is =
          by_met (shape.stores v.block v.member w x (sym v.id) e slot there_is) where
            x : Item
            x = record { kind = Code ins num; origin = o; loc = l }

            v : Stands blocks w x
            v = stands_at false blocks resolve w x e

            id : v.block.id ≡ b.id
            id = v.id ∙ same ∙ home

            source_end : v.block.source_end ≡ b.source_end
            source_end = silent_of apart' b member v.block v.rest (ap (from_block blocks) (sym home ∙ sym same) ∙ v.found)

            there_is : o ≡ Before (record { block = v.block.id; item = v.block.source_end })
            there_is = sym origin ∙ is ∙ (λ i. Before (record { block = sym id i; item = sym source_end i }))

            is' : i.origin ≡ Before (record { block = p.block; item = b.source_end })
            is' = is ∙ ap (λ (m : ℕ). Before (record { block = m; item = b.source_end })) (sym home)

            by_kind : (q : Pos) (j : Item) (k : ItemKind) → j.kind ≡ k → f.fetch q ≡ Here j → OnRow Counts k →
                (position_of j.origin ≡ record { block = w.block; item = v.block.source_end } → ⊥) →
                ((q.block ≡ w.block) × (q.item < w.item)) ⊎ Leads f w q → MetFor b p
            by_kind q j (Mark a m) z at' counts far way = absurd counts
            by_kind q j (Phi a m) z at' counts far way = absurd counts
            by_kind q j (Code ins' num') z at' counts far (inl (block, lt)) =
                let at'' = at' ∙ ap (λ (y : ItemKind). Here (record { kind = y; origin = j.origin; loc = j.loc })) z in
                let piece = piece_of s slots homes ins' num' j.origin j.loc (fits_at q ins' num' j.origin j.loc at'') (inl counts) in
                let t = to_g s entry blocks resolve q (record { kind = Code ins' num'; origin = j.origin; loc = j.loc }) piece.item piece.index at'' piece.at in
                let within = inside_of q j b at' member (block ∙ same ∙ home) in
                let le = within.0 in
                let ne : (position_of j.origin).item ≡ b.source_end → ⊥ =
                λ k. far (same_pos (position_of j.origin) (record { block = w.block; item = v.block.source_end }) (within.2 ∙ sym (same ∙ home))
                (k ∙ sym source_end)) in
                let lower : (position_of j.origin).item < b.source_end = omega (arith, le, ne) in
                let lt' : (position_of piece.item.origin).item < b.source_end = subst (λ (z : Pos). z.item < b.source_end) (sym piece.pos) lower in (
                  t.0,
                  piece.item,
                  (
                    t.2,
                    piece.counts,
                    λ k. (let k' : (position_of piece.item.origin).item ≡ b.source_end = ap (λ (y : Pos). y.item) k in omega (arith, k', lt')),
                    inl (t.1 ∙ block ∙ same, earlier p t.0 i piece.item b.source_end at t.2 (t.1 ∙ block ∙ same) is' lt'),
                  ),
                )
            by_kind q j (Code ins' num') z at' counts far (inr way) =
                let at'' = at' ∙ ap (λ (y : ItemKind). Here (record { kind = y; origin = j.origin; loc = j.loc })) z in
                let path = path_in_g s entry blocks resolve there (renames s slots homes entry blocks resolve srcp) way p chunk in
                let m = met_code q path.0 ins' num' j.origin j.loc at'' path.1 (inl counts) in (
                  m.place,
                  m.item,
                  (
                    m.at,
                    m.counts,
                    λ k. far (sym m.pos ∙ k ∙ (λ i. record { block = sym same i; item = sym source_end i })),
                    inr (leads_trans g path.2 m.way),
                  ),
                )

            by_met : (q : Pos) × (j : Item) × IsMetApart f w v.block.source_end q j → MetFor b p
            by_met (q, j, (at', counts, far, way)) = by_kind q j j.kind refl at' counts far way

      pub stores_new : (b : Block) → Contains new b → (p : Pos) (i : Item) → p.block ≡ b.id → g.fetch p ≡ Here i → OnRow IsSlotStore i.kind →
          i.origin ≡ Before (record { block = b.id; item = b.source_end }) → MetFor b p
      stores_new b member p i home at slot is = by_place (lies_at s entry blocks resolve p i at) where
        by_part : (w : Pos) (ins : Instruction) (num : Option ℕ) (o : Origin) (l : Loc) (k : ℕ) → w.block ≡ p.block →
            f.fetch w ≡ Here (record { kind = Code ins num; origin = o; loc = l }) →
            rg p ≡ drop k (code_items s ins num o l) ++ spilled_items s (rf (below w)) → Part ins num o l k i → MetFor b p
        by_part w ins num o l k same e here (is_load r n y) = absurd (subst (λ (z : Item). OnRow IsSlotStore z.kind) y slot)
        by_part w ins num o l k same e here (is_store n some y) =
            let end : below (position_of o) ≡ record { block = b.id; item = b.source_end } =
            sym (ap (λ (z : Item). position_of z.origin) y) ∙ ap position_of is in
            met_store b p i w ins num o l n member home same at e some is end
        by_part w ins num o l k same e here (is_main y first) =
            let origin : i.origin ≡ o = ap (λ (z : Item). z.origin) y in
            let slot' : IsSlotStore (row_of ins) = spilled_stores ins (subst (λ (z : Item). OnRow IsSlotStore z.kind) y slot) in
            met_main b p i w ins num o l member home same at e (chunk (sym origin ∙ is)) slot' origin is where
              no_use : o ≡ Before (record { block = b.id; item = b.source_end }) → first_used s.homes ins.operands ≡ None
              no_use k = by_slot (first_used s.homes ins.operands) refl where
                by_slot : (z : Option ℕ) → first_used s.homes ins.operands ≡ z → z ≡ None
                by_slot None z = refl
                by_slot (Some n) z =
                    let q = kept_use s slots homes ins o (fits_at w ins num o l e) n z in
                    let bad : Kept q.0 ≡ Before (record { block = b.id; item = b.source_end }) = sym q.1 ∙ k in
                    cc

              chunk : o ≡ Before (record { block = b.id; item = b.source_end }) → Chunk s entry blocks resolve w p
              chunk z =
                  let zero_k = first (no_use z) in
                  let x : Item = record { kind = Code ins num; origin = o; loc = l } in
                  record {
                    block = sym same;
                    rest = here ∙ ap (λ (m : ℕ). drop m (code_items s ins num o l) ++ spilled_items s (rf (below w))) zero_k ∙
                        ap (λ (z : List Item). z ++ spilled_items s (rf (below w))) (drop_none (code_items s ins num o l)) ∙
                        sym (flat_map-cons (spilled_item s) x (rf (below w))) ∙ ap (spilled_items s) (sym (rest_from s entry blocks resolve w x e));
                  }

        by_kind : (w : Pos) (x : Item) (k : ℕ) (y : ItemKind) → x.kind ≡ y → w.block ≡ p.block → f.fetch w ≡ Here x →
            slice_get (kind_items s y x.origin x.loc) k ≡ Some i → rg p ≡ drop k (kind_items s y x.origin x.loc) ++ spilled_items s (rf (below w)) → MetFor b p
        by_kind w x k (Code ins num) z same e h here =
            by_part w ins num x.origin x.loc k same (e ∙ ap (λ (t : ItemKind). Here (record { kind = t; origin = x.origin; loc = x.loc })) z) here
            (part_of ins num x.origin x.loc k i h)
        by_kind w x zero (Mark v m) z same e h here = let y : record { kind = Mark v m; origin = x.origin; loc = x.loc } ≡ i = cc in
            absurd (subst (λ (t : Item). OnRow IsSlotStore t.kind) (sym y) slot)
        by_kind w x (suc k) (Mark v m) z same e h here = cc
        by_kind w x zero (Phi a m) z same e h here = let y : record { kind = Phi (spilled_place s.homes a) m; origin = x.origin; loc = x.loc } ≡ i = cc in
            absurd (subst (λ (t : Item). OnRow IsSlotStore t.kind) (sym y) slot)
        by_kind w x (suc k) (Phi a m) z same e h here = cc

        by_place : Lies s entry blocks resolve p i → MetFor b p
        by_place (in_entry ys c rest found first falls stands here) = met_entry b p i ys c rest member home found first falls stands here
        by_place (in_item w x k same e h here) = by_kind w x k x.kind refl same e h here

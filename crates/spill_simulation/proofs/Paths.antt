-- Paths: where control goes in the function, it goes in the function with spilled registers, from what stands for an item to what stands
-- for the other.
use Rattle.std.proofs.Common.{◌≡◌, ◌⊎◌, ℕ, zero, suc, ◌+◌, List, [], ◌∷◌, ◌++◌, drop, Contains, Option, Some, None, false, refl}
use Rattle.std.proofs.Common.{sym, ap, ◌∙◌, subst, inl, inr, append_assoc, slice_get, arith}
use Rattle.std.proofs.lemmas.List.Concat.{flat_map-cons}
use Rattle.rv64_instr.specs.declared.operand.Operand.{Operand}
use Rattle.rv64_instr.specs.Instruction.{Instruction}
use Rattle.rv64_instr.specs.Row.{Row, Branches, Jumps, Returns, Unfit, row_of}
use Rattle.mir_func.specs.declared.debug_substitution.OperandPair.{OperandPair}
use Rattle.mir_func.specs.declared.position.Pos.{Pos}
use Rattle.mir_func.specs.declared.position.Origin.{Origin}
use Rattle.mir_func.specs.declared.location.Loc.{Loc}
use Rattle.mir_func.specs.declared.block.Block.{Block}
use Rattle.mir_func.specs.declared.item.Item.{Item}
use Rattle.mir_func.specs.declared.item.ItemKind.{ItemKind}
use Rattle.mir_func.specs.declared.item.ItemKind.TheVariants.{Code, Mark, Phi}
use Rattle.mir_func.specs.Graph.{Program, Fetch, Here, EndOfBlock, Outside, below, block_start}
use Rattle.mir_func.specs.Graph.{end_of, front, fetch_in, from_block, program_of, Edge, FetchEdge, KindEdge}
use Rattle.mir_func.specs.Graph.{RowEdge, Leads, stay, go, rest_in, rest_of}
use Rattle.mir_func.specs.Positions.{position_of}
use Rattle.sem_mir.specs.InitialState.{first_of}
use Rattle.sem_mir.proofs.Edges.{leads_trans}
use Rattle.sem_mir.proofs.Reading.{found_in, front_item}
use Rattle.sem_simulation.proofs.Laid.{laid_out}
use Rattle.sem_simulation.proofs.Stations.{not_past_items}
use Rattle.spill_code.specs.declared.spilling.SlotAssignment.{SlotAssignment}
use Rattle.spill_code.specs.declared.spilling.Spilling.{Spilling}
use Rattle.spill_code.specs.Rewrite.{use_now, def_now, first_used, other_used, first_defined, spilled_code, loads, two_loads}
use Rattle.spill_code.specs.Rewrite.{stores, kind_items, spilled_place, spilled_item, spilled_items, entry_stores, spilled_blocks}
use Rattle.spill_simulation.proofs.Places.{with_first, others, end_others, in_g, none_in_g, contains_at, fetched, end_at, Stands, stands_at}
use Rattle.spill_simulation.proofs.Rows.{renamed_row}

-- the way out of a row and of the row with other registers is the same
abbrev pub WayOut : (u d : ℕ → ℕ) → Row → Pos → Pos → Type 0
WayOut u d r p p' = ((p' ≡ below p) × ((q : Pos) → RowEdge (λ n. n) (renamed_row u d r) q (below q))) ⊎
    ((t : ℕ) × (p' ≡ block_start t) × ((q : Pos) → RowEdge (λ n. n) (renamed_row u d r) q (block_start t)))

pub way_out : (u d : ℕ → ℕ) (r : Row) (p p' : Pos) → RowEdge (λ n. n) r p p' → WayOut u d r p p'
way_out u d (Branches op a b t) p p' (inl e) = inr (t, e, λ q. inl refl)
way_out u d (Branches op a b t) p p' (inr e) = inl (e, λ q. inr refl)
way_out u d (Jumps t) p p' e = inr (t, e, λ q. refl)
way_out u d (Returns v) p p' e = absurd e
way_out u d Unfit p p' e = absurd e
way_out u d _ p p' e = inl (e, λ q. refl)

-- items that control falls through
abbrev pub FallThrough : List Item → Type 0
FallThrough [] = Unit {0}
FallThrough (y ∷ ys) = ((q : Pos) → KindEdge (λ n. n) y.kind q (below q)) × FallThrough ys

module _ (s : Spilling) (entry : List SlotAssignment) (blocks : List Block) (resolve : OperandPair → Option OperandPair) where
  abbrev f : Program
  f = program_of false blocks resolve

  abbrev g : Program
  g = program_of false (spilled_blocks s entry blocks) resolve

  abbrev rf : Pos → List Item
  rf = rest_of blocks

  abbrev rg : Pos → List Item
  rg = rest_of (spilled_blocks s entry blocks)

  edge_of : (q q' : Pos) (y : Item) → g.fetch q ≡ Here y → KindEdge (λ n. n) y.kind q q' → Edge g q q'
  edge_of q q' y at e = subst (λ (z : Fetch). FetchEdge (λ n. n) z q q') (sym at) e

  -- past items that control falls through
  pub walk : (ys zs : List Item) (q : Pos) → FallThrough ys → rg q ≡ ys ++ zs → (q' : Pos) × (q'.block ≡ q.block) × (rg q' ≡ zs) × Leads g q q'
  walk [] zs q h e = (q, refl, e, stay)
  walk (y ∷ ys) zs q h e =
      let w = (laid_out false (spilled_blocks s entry blocks) resolve).cons q y (ys ++ zs) e in
      let more = walk ys zs (below q) h.1 w.1 in
      (more.0, more.1, more.2, go (edge_of q (below q) y w.0 (h.0 q)) more.3)

  loads_fall : (p : Pos) (r : ℕ) (z : Option ℕ) → FallThrough (loads p r z)
  loads_fall p r None = tt
  loads_fall p r (Some n) = (λ q. refl, tt)

  two_fall : (p : Pos) (os : List Operand) (z : Option ℕ) → FallThrough (two_loads s p os z)
  two_fall p os None = tt
  two_fall p os (Some n) = (λ q. refl, loads_fall p s.second (other_used s.homes n os))

  stores_fall : (p : Pos) (r : ℕ) (z : Option ℕ) → FallThrough (stores p r z)
  stores_fall p r None = tt
  stores_fall p r (Some n) = (λ q. refl, tt)

  pub entry_falls : (b : ℕ) (hs : List SlotAssignment) → FallThrough (entry_stores b hs)
  entry_falls b [] = tt
  entry_falls b (h ∷ hs) = (λ q. refl, entry_falls b hs)

  -- what stands for the items from p on stands from q on
  pub record Chunk (p q : Pos) : Type 0 where
    pub block : q.block ≡ p.block
    pub rest : rg q ≡ spilled_items s (rf p)

  drop_none : (xs : List Item) → drop 0 xs ≡ xs
  drop_none [] = refl
  drop_none (x ∷ xs) = refl

  -- from a block's start: past the stores there
  pub from_start : (n : ℕ) (b : Block) (rest : List Block) → from_block blocks n ≡ b ∷ rest → (q : Pos) × Chunk (block_start n) q × Leads g (block_start n) q
  from_start n b rest found = by_first (in_g s entry blocks n b rest found).first (in_g s entry blocks n b rest found).at
      (in_g s entry blocks n b rest found).which where
        abbrev_rest : rf (block_start n) ≡ b.items
        abbrev_rest = ap (λ (bs : List Block). rest_in bs 0) found ∙ drop_none b.items

        by_first : (first : List Item) → from_block (spilled_blocks s entry blocks) n ≡ with_first s entry first b ∷ others s entry rest →
            (first ≡ []) ⊎ ((first ≡ entry_stores b.id entry) × (n ≡ first_of blocks)) → (q : Pos) × Chunk (block_start n) q × Leads g (block_start n) q
        by_first first at which =
            let here : rg (block_start n) ≡ first ++ spilled_items s b.items =
            ap (λ (bs : List Block). rest_in bs 0) at ∙ drop_none (first ++ spilled_items s b.items) in
            let falls : FallThrough first = elim which as (λ _. FallThrough first) [
              | inl e ↦ subst FallThrough (sym e) tt
              | inr e ↦ subst FallThrough (sym e.0) (entry_falls b.id entry)
            ] in
            let w = walk first (spilled_items s b.items) (block_start n) falls here in
            (w.0, record { block = w.1; rest = w.2 ∙ ap (spilled_items s) (sym abbrev_rest) }, w.3)

  -- the items from where one stands
  pub rest_from : (p : Pos) (x : Item) → f.fetch p ≡ Here x → rf p ≡ x ∷ rf (below p)
  rest_from p x e = by_rest (rf p) refl where
    by_rest : (xs : List Item) → rf p ≡ xs → xs ≡ x ∷ rf (below p)
    by_rest [] k = absurd (not_past_items (f.fetch p) x ((laid_out false blocks resolve).nil p k).0 e)
    by_rest (y ∷ ys) k =
        let w = (laid_out false blocks resolve).cons p y ys k in
        let same : Here y ≡ Here x = sym w.0 ∙ e in
        let yx : y ≡ x = cc in
        λ i. yx i ∷ sym w.1 i

  -- the code that stands for code, and what comes behind it
  pub record MainAt (ins : Instruction) (num : Option ℕ) (o : Origin) (l : Loc) (p q : Pos) : Type 0 where
    pub place : Pos
    pub block : place.block ≡ p.block
    pub at : g.fetch place ≡ Here (record { kind = Code (spilled_code s ins) num; origin = o; loc = l })
    pub rest : rg (below place) ≡ stores (below (position_of o)) s.first (first_defined s.homes ins.operands) ++ spilled_items s (rf (below p))
    pub way : Leads g q place

  pub chunk_code : (ins : Instruction) (num : Option ℕ) (o : Origin) (l : Loc) (p q : Pos) →
      f.fetch p ≡ Here (record { kind = Code ins num; origin = o; loc = l }) → Chunk p q →
      rg q ≡ two_loads s (position_of o) ins.operands (first_used s.homes ins.operands) ++
      (record { kind = Code (spilled_code s ins) num; origin = o; loc = l } ∷
      (stores (below (position_of o)) s.first (first_defined s.homes ins.operands) ++ spilled_items s (rf (below p))))
  chunk_code ins num o l p q e c =
      let x : Item = record { kind = Code ins num; origin = o; loc = l } in
      c.rest ∙ ap (spilled_items s) (rest_from p x e) ∙ flat_map-cons (spilled_item s) x (rf (below p)) ∙
      append_assoc (two_loads s (position_of o) ins.operands (first_used s.homes ins.operands)) _ (spilled_items s (rf (below p)))

  pub main_at : (ins : Instruction) (num : Option ℕ) (o : Origin) (l : Loc) (p q : Pos) →
      f.fetch p ≡ Here (record { kind = Code ins num; origin = o; loc = l }) → Chunk p q → MainAt ins num o l p q
  main_at ins num o l p q e c =
      let w = walk (two_loads s (position_of o) ins.operands (first_used s.homes ins.operands)) _ q
      (two_fall (position_of o) ins.operands (first_used s.homes ins.operands)) (chunk_code ins num o l p q e c) in
      let k = (laid_out false (spilled_blocks s entry blocks) resolve).cons w.0 _ _ w.2 in
      record { place = w.0; block = w.1 ∙ c.block; at = k.0; rest = k.1; way = w.3 }

  -- an end of a block
  end_to_g : (p q : Pos) (k n : ℕ) → q.block ≡ p.block → rg q ≡ [] → f.fetch p ≡ EndOfBlock k n → g.fetch q ≡ EndOfBlock k n
  end_to_g p q k n same none e =
      let w = end_at blocks resolve p k n e in
      let i = in_g s entry blocks q.block w.0 w.1 (ap (from_block blocks) same ∙ w.2) in
      let none' : drop q.item (i.first ++ spilled_items s w.0.items) ≡ [] = sym (ap (λ (bs : List Block). rest_in bs q.item) i.at) ∙ none in
      ap (λ (bs : List Block). fetch_in bs q.item) i.at ∙ ap (λ (z : List Item). front z w.0.source_end (others s entry w.1)) none' ∙
      end_others s entry w.0.source_end w.1 ∙ w.3

  -- what is past all items has no items
  rest_end : (p : Pos) (k n : ℕ) → f.fetch p ≡ EndOfBlock k n → rf p ≡ []
  rest_end p k n e = by_rest (rf p) refl where
    by_rest : (xs : List Item) → rf p ≡ xs → xs ≡ []
    by_rest [] h = refl
    by_rest (y ∷ ys) h = let bad : Here y ≡ EndOfBlock k n = sym ((laid_out false blocks resolve).cons p y ys h).0 ∙ e in cc

  pub next_of_end : (j : ℕ) (bs : List Block) (k n : ℕ) → end_of j bs ≡ EndOfBlock k n → (c : Block) × (rest : List Block) × (bs ≡ c ∷ rest) × (c.id ≡ n)
  next_of_end j [] k n e = cc
  next_of_end j (c ∷ rest) k n e = (c, rest, refl, cc)

  -- each block to which control goes is there
  abbrev pub AreThere : Type 0
  AreThere = (p : Pos) (n : ℕ) → Edge f p (block_start n) → (b : Block) × (rest : List Block) × (from_block blocks n ≡ b ∷ rest)

  module _ (there : AreThere) (renames : (ins : Instruction) →
      row_of (spilled_code s ins) ≡ renamed_row (use_now s (first_used s.homes ins.operands)) (def_now s) (row_of ins)) where
    step_in_g : (p p' q : Pos) → Edge f p p' → Chunk p q → (q' : Pos) × Chunk p' q' × Leads g q q'
    step_in_g p p' q edge c = by_fetch (f.fetch p) refl edge where
      to_start : (n : ℕ) (q1 : Pos) → p' ≡ block_start n → Leads g q q1 → Edge g q1 (block_start n) → (q' : Pos) × Chunk p' q' × Leads g q q'
      to_start n q1 e way edge' =
          let t = there p n (subst (λ (z : Pos). Edge f p z) e edge) in
          let w = from_start n t.0 t.1 t.2 in
          (w.0, subst (λ (z : Pos). Chunk z w.0) (sym e) w.1, leads_trans g way (go edge' w.2))

      by_code : (ins : Instruction) (num : Option ℕ) (o : Origin) (l : Loc) → f.fetch p ≡ Here (record { kind = Code ins num; origin = o; loc = l }) →
          RowEdge (λ n. n) (row_of ins) p p' → (q' : Pos) × Chunk p' q' × Leads g q q'
      by_code ins num o l e edge' =
          let m = main_at ins num o l p q e c in
          by_way m (way_out (use_now s (first_used s.homes ins.operands)) (def_now s) (row_of ins) p p' edge') where
            row_is : row_of (spilled_code s ins) ≡ renamed_row (use_now s (first_used s.homes ins.operands)) (def_now s) (row_of ins)
            row_is = renames ins

            by_way : MainAt ins num o l p q → WayOut (use_now s (first_used s.homes ins.operands)) (def_now s) (row_of ins) p p' →
                (q' : Pos) × Chunk p' q' × Leads g q q'
            by_way m (inl (e', falls)) =
                let down : Edge g m.place (below m.place) =
                edge_of m.place (below m.place) _ m.at (subst (λ (r : Row). RowEdge (λ n. n) r m.place (below m.place)) (sym row_is) (falls m.place)) in
                let w = walk (stores (below (position_of o)) s.first (first_defined s.homes ins.operands)) (spilled_items s (rf (below p))) (below m.place)
                (stores_fall (below (position_of o)) s.first (first_defined s.homes ins.operands)) m.rest in
                (w.0, subst (λ (z : Pos). Chunk z w.0) (sym e') (record { block = w.1 ∙ m.block; rest = w.2 }), leads_trans g m.way (go down w.3))
            by_way m (inr (t, e', goes)) =
                to_start t m.place e' m.way
                (edge_of m.place (block_start t) _ m.at (subst (λ (r : Row). RowEdge (λ n. n) r m.place (block_start t)) (sym row_is) (goes m.place)))

      by_debug : (x y : Item) → f.fetch p ≡ Here x → spilled_item s x ≡ y ∷ [] → p' ≡ below p → ((q : Pos) → KindEdge (λ n. n) y.kind q (below q)) →
          (q' : Pos) × Chunk p' q' × Leads g q q'
      by_debug x y e one e' falls =
          let here : rg q ≡ y ∷ spilled_items s (rf (below p)) =
          c.rest ∙ ap (spilled_items s) (rest_from p x e) ∙ flat_map-cons (spilled_item s) x (rf (below p)) ∙
          ap (λ (z : List Item). z ++ spilled_items s (rf (below p))) one in
          let w = walk (y ∷ []) (spilled_items s (rf (below p))) q (falls, tt) here in
          (w.0, subst (λ (z : Pos). Chunk z w.0) (sym e') (record { block = w.1 ∙ c.block; rest = w.2 }), w.3)

      by_item : (x : Item) (k : ItemKind) → x.kind ≡ k → f.fetch p ≡ Here x → KindEdge (λ n. n) k p p' → (q' : Pos) × Chunk p' q' × Leads g q q'
      by_item x (Code ins num) is e edge' =
          by_code ins num x.origin x.loc (e ∙ ap (λ (k : ItemKind). Here (record { kind = k; origin = x.origin; loc = x.loc })) is) edge'
      by_item x (Mark v m) is e edge' =
          by_debug x (record { kind = Mark v m; origin = x.origin; loc = x.loc }) e (ap (λ (k : ItemKind). kind_items s k x.origin x.loc) is) edge' (λ q. refl)
      by_item x (Phi a n) is e edge' =
          by_debug x (record { kind = Phi (spilled_place s.homes a) n; origin = x.origin; loc = x.loc }) e
          (ap (λ (k : ItemKind). kind_items s k x.origin x.loc) is) edge' (λ q. refl)

      by_fetch : (z : Fetch) → f.fetch p ≡ z → FetchEdge (λ n. n) z p p' → (q' : Pos) × Chunk p' q' × Leads g q q'
      by_fetch (Here x) e edge' = by_item x x.kind refl e edge'
      by_fetch (EndOfBlock k n) e edge' =
          let none : rg q ≡ [] = c.rest ∙ ap (spilled_items s) (rest_end p k n e) in
          let at = end_to_g p q k n c.block none e in
          to_start n q edge' stay (subst (λ (z : Fetch). FetchEdge (λ n. n) z q (block_start n)) (sym at) refl)
      by_fetch Outside e edge' = absurd edge'

    -- paths
    pub path_in_g : {p p' : Pos} → Leads f p p' → (q : Pos) → Chunk p q → (q' : Pos) × Chunk p' q' × Leads g q q'
    path_in_g stay q c = (q, c, stay)
    path_in_g {p = p} (go {q = p1} edge more) q c =
        let w = step_in_g p p1 q edge c in
        let v = path_in_g more w.0 w.1 in
        (v.0, v.1, leads_trans g w.2 v.2)

  -- ---- where an item stands

  -- from an index of a list that stands for items on
  pub record Located (xs ys : List Item) (y : Item) : Type 0 where
    pub index : ℕ
    pub x : Item
    pub at : slice_get xs index ≡ Some x
    pub inner : ℕ
    pub of_x : slice_get (spilled_item s x) inner ≡ Some y
    pub rest : ys ≡ drop inner (spilled_item s x) ++ spilled_items s (drop (suc index) xs)

  split_at : (us bs : List Item) (m : ℕ) (y : Item) → slice_get (us ++ bs) m ≡ Some y →
      ((slice_get us m ≡ Some y) × (drop m (us ++ bs) ≡ drop m us ++ bs)) ⊎
      ((k : ℕ) × (slice_get bs k ≡ Some y) × (drop m (us ++ bs) ≡ drop k bs))
  split_at [] bs m y e = inr (m, e, refl)
  split_at (a ∷ us) bs zero y e = inl (e, refl)
  split_at (a ∷ us) bs (suc m) y e = elim (split_at us bs m y e) as (λ _.
      ((slice_get (a ∷ us) (suc m) ≡ Some y) × (drop (suc m) ((a ∷ us) ++ bs) ≡ drop (suc m) (a ∷ us) ++ bs)) ⊎
      ((k : ℕ) × (slice_get bs k ≡ Some y) × (drop (suc m) ((a ∷ us) ++ bs) ≡ drop k bs))) [ inl h ↦ inl (h.0, h.1) | inr h ↦ inr (h.0, h.1, h.2) ]

  locate : (xs : List Item) (m : ℕ) (y : Item) → slice_get (spilled_items s xs) m ≡ Some y → Located xs (drop m (spilled_items s xs)) y
  locate [] m y e = cc
  locate (x ∷ xs) m y e =
      by_split (split_at (spilled_item s x) (spilled_items s xs) m y (ap (λ (z : List Item). slice_get z m) (sym (flat_map-cons (spilled_item s) x xs)) ∙ e))
      (λ k h. locate xs k y h) where
        by_split : ((slice_get (spilled_item s x) m ≡ Some y) ×
            (drop m (spilled_item s x ++ spilled_items s xs) ≡ drop m (spilled_item s x) ++ spilled_items s xs)) ⊎
            ((k : ℕ) × (slice_get (spilled_items s xs) k ≡ Some y) × (drop m (spilled_item s x ++ spilled_items s xs) ≡ drop k (spilled_items s xs))) →
            ((k : ℕ) → slice_get (spilled_items s xs) k ≡ Some y → Located xs (drop k (spilled_items s xs)) y) →
            Located (x ∷ xs) (drop m (spilled_items s (x ∷ xs))) y
        by_split (inl (h, d)) more = record {
          index = 0;
          x = x;
          at = refl;
          inner = m;
          of_x = h;
          rest = ap (drop m) (flat_map-cons (spilled_item s) x xs) ∙ d ∙
              ap (λ (z : List Item). drop m (spilled_item s x) ++ spilled_items s z) (sym (drop_none xs));
        }
        by_split (inr (k, h, d)) more =
            let w = more k h in
            record {
              index = suc w.index;
              x = w.x;
              at = w.at;
              inner = w.inner;
              of_x = w.of_x;
              rest = ap (drop m) (flat_map-cons (spilled_item s) x xs) ∙ d ∙ w.rest;
            }

  -- an item stands in the stores at the start, or in what stands for an item of the function
  pub data Lies (q : Pos) (y : Item) : Type 0 where
    in_entry : (ys : List Item) (b : Block) (rest : List Block) → from_block blocks q.block ≡ b ∷ rest → q.block ≡ first_of blocks → FallThrough ys →
        Contains (entry_stores q.block entry) y → rg q ≡ ys ++ spilled_items s (rf (block_start q.block)) → Lies q y
    in_item : (w : Pos) (x : Item) (k : ℕ) → w.block ≡ q.block → f.fetch w ≡ Here x → slice_get (spilled_item s x) k ≡ Some y →
        rg q ≡ drop k (spilled_item s x) ++ spilled_items s (rf (below w)) → Lies q y

  falls_drop : (ys : List Item) (m : ℕ) → FallThrough ys → FallThrough (drop m ys)
  falls_drop [] zero h = tt
  falls_drop [] (suc m) h = tt
  falls_drop (y ∷ ys) zero h = h
  falls_drop (y ∷ ys) (suc m) h = falls_drop ys m h.1

  pub lies_at : (q : Pos) (y : Item) → g.fetch q ≡ Here y → Lies q y
  lies_at q y e = by_blocks (from_block blocks q.block) refl where
    by_split : (b : Block) (rest : List Block) → from_block blocks q.block ≡ b ∷ rest → b.id ≡ q.block → (first : List Item) →
        from_block (spilled_blocks s entry blocks) q.block ≡ with_first s entry first b ∷ others s entry rest →
        (first ≡ []) ⊎ ((first ≡ entry_stores b.id entry) × (q.block ≡ first_of blocks)) →
        ((slice_get first q.item ≡ Some y) × (drop q.item (first ++ spilled_items s b.items) ≡ drop q.item first ++ spilled_items s b.items)) ⊎
        ((k : ℕ) × (slice_get (spilled_items s b.items) k ≡ Some y) ×
        (drop q.item (first ++ spilled_items s b.items) ≡ drop k (spilled_items s b.items))) → Lies q y
    by_split b rest found id first at (inl none) (inl h) = let bad : slice_get [] q.item ≡ Some y = ap (λ (z : List Item). slice_get z q.item) (sym none) ∙
        h.0 in cc
    by_split b rest found id first at (inr is) (inl h) =
        in_entry (drop q.item first) b rest found is.1
        (falls_drop first q.item (subst FallThrough (sym is.0) (entry_falls b.id entry)))
        (subst (λ (n : ℕ). Contains (entry_stores n entry) y) id (subst (λ (z : List Item). Contains z y) is.0 (contains_at first q.item y h.0)))
        (ap (λ (bs : List Block). rest_in bs q.item) at ∙ h.1 ∙
        ap (λ (z : List Item). drop q.item first ++ spilled_items s z) (sym (ap (λ (bs : List Block). rest_in bs 0) found ∙ drop_none b.items)))
    by_split b rest found id first at which (inr (k, h, d)) =
        let l = locate b.items k y h in
        let w : Pos = record { block = q.block; item = l.index } in
        let next : l.index + 1 ≡ suc l.index = omega arith in
        in_item w l.x l.inner refl (fetched false blocks resolve w b rest l.x found l.at) l.of_x
        (ap (λ (bs : List Block). rest_in bs q.item) at ∙ d ∙ l.rest ∙
        ap (λ (z : List Item). drop l.inner (spilled_item s l.x) ++ spilled_items s z)
        (ap (λ (j : ℕ). drop j b.items) (sym next) ∙ sym (ap (λ (bs : List Block). rest_in bs (l.index + 1)) found)))

    by_blocks : (x : List Block) → from_block blocks q.block ≡ x → Lies q y
    by_blocks [] found =
        let bad : fetch_in [] q.item ≡ Here y = sym (ap (λ (x : List Block). fetch_in x q.item) (none_in_g s entry blocks q.block found)) ∙ e in cc
    by_blocks (b ∷ rest) found =
        let i = in_g s entry blocks q.block b rest found in
        let here : front (drop q.item (i.first ++ spilled_items s b.items)) b.source_end (others s entry rest) ≡ Here y =
        sym (ap (λ (x : List Block). fetch_in x q.item) i.at) ∙ e in
        by_split b rest found (found_in blocks q.block b rest found).1 i.first i.at i.which
        (split_at i.first (spilled_items s b.items) q.item y
        (front_item (i.first ++ spilled_items s b.items) q.item b.source_end (others s entry rest) y here))

  -- and each of what stands for an item is somewhere in the item's block
  pub to_g : (p : Pos) (x y : Item) (k : ℕ) → f.fetch p ≡ Here x → slice_get (spilled_item s x) k ≡ Some y →
      (q : Pos) × (q.block ≡ p.block) × (g.fetch q ≡ Here y)
  to_g p x y k e h = by_stands (stands_at false blocks resolve p x e) where
    get_left : (us bs : List Item) (m : ℕ) (z : Item) → slice_get us m ≡ Some z → slice_get (us ++ bs) m ≡ Some z
    get_left [] bs m z e = cc
    get_left (u ∷ us) bs zero z e = e
    get_left (u ∷ us) bs (suc m) z e = get_left us bs m z e

    get_right : (us bs : List Item) (m : ℕ) (z : Item) → slice_get bs m ≡ Some z → (j : ℕ) × (slice_get (us ++ bs) j ≡ Some z)
    get_right [] bs m z e = (m, e)
    get_right (u ∷ us) bs m z e = let w = get_right us bs m z e in (suc w.0, w.1)

    in_flat : (xs : List Item) (j : ℕ) → slice_get xs j ≡ Some x → (m : ℕ) × (slice_get (spilled_items s xs) m ≡ Some y)
    in_flat [] j e = cc
    in_flat (z ∷ xs) zero e =
        let zx : z ≡ x = cc in (
          k,
          ap (λ (l : List Item). slice_get l k) (flat_map-cons (spilled_item s) z xs) ∙
              get_left (spilled_item s z) (spilled_items s xs) k y (ap (λ (i : Item). slice_get (spilled_item s i) k) zx ∙ h),
        )
    in_flat (z ∷ xs) (suc j) e =
        let w = in_flat xs j e in
        let v = get_right (spilled_item s z) (spilled_items s xs) w.0 y w.1 in
        (v.0, ap (λ (l : List Item). slice_get l v.0) (flat_map-cons (spilled_item s) z xs) ∙ v.1)

    by_stands : Stands blocks p x → (q : Pos) × (q.block ≡ p.block) × (g.fetch q ≡ Here y)
    by_stands v =
        let i = in_g s entry blocks p.block v.block v.rest v.found in
        let m = in_flat v.block.items p.item v.at in
        let j = get_right i.first (spilled_items s v.block.items) m.0 y m.1 in (
          record { block = p.block; item = j.0 },
          refl,
          fetched false (spilled_blocks s entry blocks) resolve (record { block = p.block; item = j.0 }) (with_first s entry i.first v.block)
              (others s entry v.rest) y i.at j.1,
        )

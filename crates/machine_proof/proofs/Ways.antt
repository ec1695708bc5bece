-- A path of a function is one of the function with its frame.
use Rattle.std.proofs.Common.{◌≡◌, ℕ, zero, suc, ◌+◌, ◌≤◌, List, [], ◌∷◌, ◌++◌, drop, take, map, length, length-append, slice_get}
use Rattle.std.proofs.Common.{Option, Some}
use Rattle.std.proofs.Common.{Bool, true, false, cond, nat_eq, refl, sym, ap, ◌∙◌, subst, inl, inr, arith}
use Rattle.rv64_instr.specs.Instruction.{Instruction}
use Rattle.rv64_instr.specs.Row.{Row, Branches, Jumps, Returns, Unfit, row_of}
use Rattle.mir_func.specs.declared.block.Block.{Block}
use Rattle.mir_func.specs.declared.debug_substitution.OperandPair.{OperandPair}
use Rattle.mir_func.specs.declared.item.Item.{Item}
use Rattle.mir_func.specs.declared.item.ItemKind.{ItemKind}
use Rattle.mir_func.specs.declared.item.ItemKind.TheVariants.{Code, Mark, Phi}
use Rattle.mir_func.specs.declared.position.Pos.{Pos}
use Rattle.mir_func.specs.Exits.{row_leads_back, leads_back}
use Rattle.mir_func.specs.Function.{Function}
use Rattle.mir_func.specs.Graph.{Fetch, Here, EndOfBlock, Program, below, block_start, end_of, front, fetch_in, from_block, index_of, program_of}
use Rattle.mir_func.specs.Graph.{framed_program, Edge, FetchEdge, KindEdge, RowEdge, Leads, stay, go}
use Rattle.mir_func.specs.SoundFrame.{body_of}
use Rattle.mir_func.specs.Positions.{position_of}
use Rattle.sem_mir.specs.Align.{is_code}
use Rattle.sem_mir.proofs.Reading.{front_item}
use Rattle.frame_rule.specs.Rule.{size_of, saved_of, epilogue, framed_item, framed_items, framed_block, framed_blocks, framed_of, renamed}
use Rattle.frame_rule.specs.Rule.{renamed_kind, added_all}
use Rattle.frame_rule.proofs.Rows.{renamed_row, row_renamed}
use Rattle.machine_proof.proofs.Framed.{drop_map, index_in}

abbrev pub items_in : List Block → List Item
items_in [] = []
items_in (b ∷ bs) = b.items

-- where a position of f lies in the function with its frame
abbrev pub image_of : Function → Pos → Pos
image_of f p = record { block = suc (index_of f.blocks p.block); item = index_in f (items_in (from_block f.blocks p.block)) p.item }

drop_none : (k : ℕ) (bs : List Block) → bs ≡ [] → drop k bs ≡ []
drop_none zero [] e = refl
drop_none (suc k) [] e = refl
drop_none zero (b ∷ bs) e = e
drop_none (suc k) (b ∷ bs) e = cc

drop_index : (bs : List Block) (n : ℕ) → drop (index_of bs n) bs ≡ from_block bs n
drop_index [] n = drop_none (index_of [] n) [] refl
drop_index (b ∷ bs) n = by_test (nat_eq b.id n) (drop_index bs n) where
  by_test : (z : Bool) → drop (index_of bs n) bs ≡ from_block bs n → drop (cond z 0 (suc (index_of bs n))) (b ∷ bs) ≡ cond z (b ∷ bs) (from_block bs n)
  by_test true h = refl
  by_test false h = h

same_index : (f : Function) (bs : List Block) (n : ℕ) → index_of (map (framed_block f) bs) n ≡ index_of bs n
same_index f [] n = refl
same_index f (b ∷ bs) n = ap (λ (k : ℕ). cond (nat_eq b.id n) 0 (suc k)) (same_index f bs n)

body_is : (f : Function) → body_of (framed_of f).blocks ≡ map (framed_block f) f.blocks
body_is f = by_blocks f.blocks where
  by_blocks : (bs : List Block) → body_of (framed_blocks f bs) ≡ map (framed_block f) bs
  by_blocks [] = refl
  by_blocks (b ∷ bs) = refl

later : (f : Function) (n : ℕ) → drop (suc n) (framed_of f).blocks ≡ map (framed_block f) (drop n f.blocks)
later f n = by_blocks f.blocks where
  by_blocks : (bs : List Block) → drop (suc n) (framed_blocks f bs) ≡ map (framed_block f) (drop n bs)
  by_blocks [] = sym (ap (map (framed_block f)) (drop_none n [] refl))
  by_blocks (b ∷ bs) = drop_map (framed_block f) (b ∷ bs) n

take_more : (xs : List Item) (n : ℕ) (x : Item) → slice_get xs n ≡ Some x → take (suc n) xs ≡ take n xs ++ x ∷ []
take_more [] n x e = cc
take_more (y ∷ ys) zero x e = let same : y ≡ x = cc in ap (λ (z : Item). z ∷ []) same
take_more (y ∷ ys) (suc n) x e = ap (λ (zs : List Item). y ∷ zs) (take_more ys n x e)

framed_append : (f : Function) (xs ys : List Item) → framed_items f (xs ++ ys) ≡ framed_items f xs ++ framed_items f ys
framed_append f [] ys = refl
framed_append f (x ∷ xs) ys = ap (λ (zs : List Item). framed_item f x ++ zs) (framed_append f xs ys)
    ∙ sym (Rattle.std.proofs.Common.append_assoc (framed_item f x) (framed_items f xs) (framed_items f ys))

take_drop : (xs : List Item) (n : ℕ) → take n xs ++ drop n xs ≡ xs
take_drop [] zero = refl
take_drop [] (suc n) = refl
take_drop (x ∷ xs) zero = refl
take_drop (x ∷ xs) (suc n) = ap (λ (zs : List Item). x ∷ zs) (take_drop xs n)

drop_past : (xs ys : List Item) → drop (length xs) (xs ++ ys) ≡ ys
drop_past [] [] = refl
drop_past [] (y ∷ ys) = refl
drop_past (x ∷ xs) ys = drop_past xs ys

drop_at : (xs : List Item) (n : ℕ) (x : Item) → slice_get xs n ≡ Some x → (rest : List Item) × (drop n xs ≡ x ∷ rest)
drop_at [] n x e = cc
drop_at (y ∷ ys) zero x e = let same : y ≡ x = cc in (ys, ap (λ (z : Item). z ∷ ys) same)
drop_at (y ∷ ys) (suc n) x e = drop_at ys n x e

drop_end : (xs : List Item) (n : ℕ) → length xs ≤ n → drop n xs ≡ []
drop_end [] zero le = refl
drop_end [] (suc n) le = refl
drop_end (x ∷ xs) zero le = absurd (omega (arith, le))
drop_end (x ∷ xs) (suc n) le = drop_end xs n (omega (arith, le))

-- what an item becomes begins with something of its position
pub record IsHead (f : Function) (x y : Item) : Type 0 where
  pub position : position_of y.origin ≡ position_of x.origin
  pub code : is_code x.kind ≡ true → is_code y.kind ≡ true

framed_head : (f : Function) (x : Item) → (y : Item) × (rest : List Item) × (framed_item f x ≡ y ∷ rest) × IsHead f x y
framed_head f x = by_exit (leads_back x.kind) where
  own_head : IsHead f x (renamed f.slots x)
  own_head = record { position = refl; code = by_kind x.kind } where
    by_kind : (k : ItemKind) → is_code k ≡ true → is_code (renamed_kind f.slots k) ≡ true
    by_kind (Code c n) e = refl
    by_kind (Mark v m) e = cc
    by_kind (Phi p n) e = cc

  by_code : (o : Rattle.mir_func.specs.declared.position.Origin.Origin) → position_of o ≡ position_of x.origin → (code : List Instruction) →
      (y : Item) × (rest : List Item) ×
      (map (Rattle.frame_rule.specs.Rule.added o) code ++ renamed f.slots x ∷ [] ≡ y ∷ rest) × IsHead f x y
  by_code o e [] = (renamed f.slots x, [], refl, own_head)
  by_code o e (c ∷ code) = (
    Rattle.frame_rule.specs.Rule.added o c,
    map (Rattle.frame_rule.specs.Rule.added o) code ++ renamed f.slots x ∷ [],
    refl,
    record { position = e; code = λ h. refl },
  )

  by_size : (n : ℕ) → (y : Item) × (rest : List Item) ×
      (added_all n (Rattle.mir_func.specs.declared.position.Origin.TheVariants.Before (position_of x.origin)) (Rattle.mir_func.specs.SoundFrame.epilogue_code
      (size_of f) (saved_of f))
      ++ renamed f.slots x ∷ [] ≡ y ∷ rest) × IsHead f x y
  by_size zero = (renamed f.slots x, [], refl, own_head)
  by_size (suc n) = by_code (Rattle.mir_func.specs.declared.position.Origin.TheVariants.Before (position_of x.origin)) refl
      (Rattle.mir_func.specs.SoundFrame.epilogue_code (size_of f) (saved_of f))

  by_exit : (b : Bool) → (y : Item) × (rest : List Item) × (cond b (epilogue f x.origin) [] ++ renamed f.slots x ∷ [] ≡ y ∷ rest) × IsHead f x y
  by_exit true = by_size (size_of f)
  by_exit false = (renamed f.slots x, [], refl, own_head)

module _ (f : Function) (fresolve : OperandPair → Option OperandPair) where
  abbrev G : Program
  G = framed_program (framed_of f).blocks fresolve

  abbrev fp : Program
  fp = program_of false f.blocks fresolve

  -- the items from the image of a position on
  items_from : (b : Block) (n : ℕ) → drop (index_in f b.items n) (framed_items f b.items) ≡ framed_items f (drop n b.items)
  items_from b n = ap (λ (zs : List Item). drop (index_in f b.items n) (framed_items f zs)) (sym (take_drop b.items n))
      ∙ ap (drop (index_in f b.items n)) (framed_append f (take n b.items) (drop n b.items))
      ∙ drop_past (framed_items f (take n b.items)) (framed_items f (drop n b.items))

  fetch_image : (p : Pos) (b : Block) (rest : List Block) → from_block f.blocks p.block ≡ b ∷ rest →
      G.fetch (image_of f p) ≡ front (framed_items f (drop p.item b.items)) b.source_end (map (framed_block f) rest)
  fetch_image p b rest e =
      ap (λ (bs : List Block). fetch_in bs (image_of f p).item) (later f (index_of f.blocks p.block)
      ∙ ap (map (framed_block f)) (drop_index f.blocks p.block ∙ e))
      ∙ ap (λ (bs : List Block). front (drop (index_in f (items_in bs) p.item) (framed_items f b.items)) b.source_end (map (framed_block f) rest)) e
      ∙ ap (λ (is : List Item). front is b.source_end (map (framed_block f) rest)) (items_from b p.item)

  -- at the image of an item stands something of its position
  pub head_at : (p : Pos) (x : Item) → fp.fetch p ≡ Here x → (y : Item) × (G.fetch (image_of f p) ≡ Here y) × IsHead f x y
  head_at p x e = by_blocks (from_block f.blocks p.block) refl e where
    by_blocks : (bs : List Block) → from_block f.blocks p.block ≡ bs → fetch_in bs p.item ≡ Here x →
        (y : Item) × (G.fetch (image_of f p) ≡ Here y) × IsHead f x y
    by_blocks [] d h = cc
    by_blocks (b ∷ rest) d h =
        let at = drop_at b.items p.item x (front_item b.items p.item b.source_end rest x h) in
        let hd = framed_head f x in (
          hd.0,
          fetch_image p b rest d ∙ ap (λ (is : List Item). front (framed_items f is) b.source_end (map (framed_block f) rest)) at.1
              ∙ ap (λ (is : List Item). front (is ++ framed_items f at.0) b.source_end (map (framed_block f) rest)) hd.2,
          hd.3,
        )

  start_image : (n : ℕ) → block_start (G.enter n) ≡ image_of f (block_start n)
  start_image n =
      let a : index_of (body_of (framed_of f).blocks) n ≡ index_of f.blocks n = ap (λ (bs : List Block). index_of bs n) (body_is f) ∙ same_index f f.blocks n in
      ap (λ (k : ℕ). block_start (suc k)) a ∙ no_items (items_in (from_block f.blocks n)) where
        no_items : (xs : List Item) → block_start (suc (index_of f.blocks n)) ≡ record { block = suc (index_of f.blocks n); item = index_in f xs 0 }
        no_items [] = refl
        no_items (x ∷ xs) = refl

  below_image : (p : Pos) (b : Block) (rest : List Block) (x : Item) → from_block f.blocks p.block ≡ b ∷ rest → slice_get b.items p.item ≡ Some x →
      leads_back x.kind ≡ false → below (image_of f p) ≡ image_of f (below p)
  below_image p b rest x d at no_return =
      let one : p.item + 1 ≡ suc p.item = omega arith in
      let item : index_in f b.items (suc p.item) ≡ index_in f b.items p.item + 1 =
      ap (λ (zs : List Item). length (framed_items f zs)) (take_more b.items p.item x at)
      ∙ ap length (framed_append f (take p.item b.items) (x ∷ []))
      ∙ length-append (framed_items f (take p.item b.items)) (framed_items f (x ∷ []))
      ∙ ap (λ (z : ℕ). index_in f b.items p.item + z) single in
      ap (λ (z : ℕ). record { block = suc (index_of f.blocks p.block); item = z })
      (ap (λ (bs : List Block). index_in f (items_in bs) p.item + 1) d ∙ sym item
      ∙ ap (λ (n : ℕ). index_in f b.items n) (sym one) ∙ ap (λ (bs : List Block). index_in f (items_in bs) (p.item + 1)) (sym d)) where
        single : length (framed_items f (x ∷ [])) ≡ 1
        single = ap (λ (z : Bool). length ((cond z (epilogue f x.origin) [] ++ renamed f.slots x ∷ []) ++ [])) no_return

  -- one edge
  row_way : (r : Row) (p q : Pos) (x y : Item) → RowEdge (λ n. n) r p q → (below (image_of f p) ≡ image_of f (below p)) →
      RowEdge G.enter (renamed_row f.slots r) (image_of f p) (image_of f q)
  row_way (Branches op a b t) p q x y (inl e) bi = inl (ap (image_of f) e ∙ sym (start_image t))
  row_way (Branches op a b t) p q x y (inr e) bi = inr (ap (image_of f) e ∙ sym bi)
  row_way (Jumps t) p q x y e bi = ap (image_of f) e ∙ sym (start_image t)
  row_way (Returns v) p q x y e bi = absurd e
  row_way Unfit p q x y e bi = absurd e
  row_way _ p q x y e bi = ap (image_of f) e ∙ sym bi

  row_not_final : (r : Row) (p q : Pos) → RowEdge (λ n. n) r p q → row_leads_back r ≡ false
  row_not_final (Returns v) p q e = absurd e
  row_not_final Unfit p q e = absurd e
  row_not_final _ p q e = refl

  kind_not_final : (k : ItemKind) (p q : Pos) → KindEdge (λ n. n) k p q → leads_back k ≡ false
  kind_not_final (Code c n) p q e = row_not_final (row_of c) p q e
  kind_not_final (Mark v m) p q e = refl
  kind_not_final (Phi r n) p q e = refl

  kind_way : (k : ItemKind) (p q : Pos) (x : Item) → KindEdge (λ n. n) k p q → (below (image_of f p) ≡ image_of f (below p)) →
      KindEdge G.enter (renamed_kind f.slots k) (image_of f p) (image_of f q)
  kind_way (Code c n) p q x e bi = subst (λ (r : Row). RowEdge G.enter r (image_of f p) (image_of f q)) (sym (row_renamed f.slots c)) (row_way (row_of c) p q
      x x e bi)
  kind_way (Mark v m) p q x e bi = ap (image_of f) e ∙ sym bi
  kind_way (Phi r n) p q x e bi = ap (image_of f) e ∙ sym bi

  edge_image : (p q : Pos) → Edge fp p q → Edge G (image_of f p) (image_of f q)
  edge_image p q e = by_blocks (from_block f.blocks p.block) refl e where
    by_end : (b : Block) (rest : List Block) → from_block f.blocks p.block ≡ b ∷ rest → (rs : List Block) → rest ≡ rs → drop p.item b.items ≡ [] →
        FetchEdge (λ n. n) (end_of b.source_end rs) p q → Edge G (image_of f p) (image_of f q)
    by_end b rest d [] er none h = absurd h
    by_end b rest d (c ∷ cs) er none h =
        let at : G.fetch (image_of f p) ≡ EndOfBlock b.source_end c.id = fetch_image p b rest d
        ∙ ap (λ (is : List Item). front (framed_items f is) b.source_end (map (framed_block f) rest)) none
        ∙ ap (λ (bs : List Block). end_of b.source_end (map (framed_block f) bs)) er in
        subst (λ (z : Fetch). FetchEdge G.enter z (image_of f p) (image_of f q)) (sym at) (ap (image_of f) h ∙ sym (start_image c.id))

    by_items : (b : Block) (rest : List Block) → from_block f.blocks p.block ≡ b ∷ rest → (is : List Item) → drop p.item b.items ≡ is →
        FetchEdge (λ n. n) (front is b.source_end rest) p q → Edge G (image_of f p) (image_of f q)
    by_items b rest d [] di h = by_end b rest d rest refl di h
    by_items b rest d (x ∷ xs) di h =
        let at_x = Rattle.machine_steps_proof.proofs.Points.dropped b.items p.item x xs di in
        let no_return = kind_not_final x.kind p q h in
        let at : G.fetch (image_of f p) ≡ Here (renamed f.slots x) = fetch_image p b rest d
        ∙ ap (λ (is : List Item). front (framed_items f is) b.source_end (map (framed_block f) rest)) di
        ∙ ap (λ (z : Bool). front ((cond z (epilogue f x.origin) [] ++ renamed f.slots x ∷ []) ++ framed_items f xs) b.source_end (map (framed_block f) rest))
        no_return in
        subst (λ (z : Fetch). FetchEdge G.enter z (image_of f p) (image_of f q)) (sym at)
        (kind_way x.kind p q x h (below_image p b rest x d at_x no_return))

    by_blocks : (bs : List Block) → from_block f.blocks p.block ≡ bs → FetchEdge (λ n. n) (fetch_in bs p.item) p q → Edge G (image_of f p) (image_of f q)
    by_blocks [] d h = absurd h
    by_blocks (b ∷ rest) d h = by_items b rest d (drop p.item b.items) refl h

  -- a path
  pub leads_image : {p q : Pos} → Leads fp p q → Leads G (image_of f p) (image_of f q)
  leads_image stay = stay
  leads_image (go {p = p} {q = q} e rest) = go (edge_image p q e) (leads_image rest)

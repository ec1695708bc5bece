-- What a function with its frame keeps tells what is needed of its blocks: the prologue is code that goes on, branches lead to
-- blocks that are there, each found by its number, and slots are doublewords of the frame.
use Rattle.std.proofs.Common.{◌≡◌, ◌⊎◌, ℕ, zero, suc, ◌%◌, ◌<◌, ◌≤◌, List, [], ◌∷◌, drop, map, length, refl, sym, ap, ◌∙◌, subst}
use Rattle.std.proofs.Common.{arith, inl, inr, get_or}
use Rattle.std.specs.Prelude.{ℤ, pos, ◌-ℤ◌, Contains, All, Option, Some, None, Bool, cond, option_map, slice_get, unwrap_or}
use Rattle.std.proofs.lemmas.Bool.{eq-eqb, ne_eqb}
use Rattle.std.proofs.lemmas.Option.{slice_get_within, get_or_from_slice_get, slice_get-map}
use Rattle.rv64_instr.specs.Arithmetic.{word}
use Rattle.rv64_instr.specs.Instruction.{Instruction}
use Rattle.rv64_instr.specs.Row.{Row, LoadsSlot, StoresSlot, Branches, Jumps}
use Rattle.rv64_instr.specs.Row.{row_of, add_row}
use Rattle.rv64_instr.specs.declared.place.Place.{Place}
use Rattle.rv64_instr.specs.declared.place.Place.TheVariants.{Register, Slot, Const}
use Rattle.mir_func.specs.declared.block.Block.{Block}
use Rattle.mir_func.specs.declared.debug_substitution.OperandPair.{OperandPair}
use Rattle.mir_func.specs.declared.exit.Exit.TheVariants.{Onward}
use Rattle.mir_func.specs.declared.framed.SavedRegister.{SavedRegister}
use Rattle.mir_func.specs.declared.item.Item.{Item}
use Rattle.mir_func.specs.declared.item.ItemKind.{ItemKind}
use Rattle.mir_func.specs.declared.item.ItemKind.TheVariants.{Code, Mark, Phi}
use Rattle.mir_func.specs.Exits.{row_exit, exit_of}
use Rattle.mir_func.specs.Function.{FramedFunction}
use Rattle.mir_func.specs.Graph.{Program, Here, front, fetch_in, framed_program, index_of}
use Rattle.mir_func.specs.Limits.{MAX_FRAME}
use Rattle.mir_func.specs.Sound.{AreApart, ids_of, AllItems, TargetIn, TargetsIn, SlotIn, PlaceIn, SlotsIn}
use Rattle.mir_func.specs.SoundFrame.{
  IsFramed,
  HasFrame,
  AreCode,
  IsSlotOffset,
  adds_to_pointer,
  saves,
  prologue_code,
  slot_offsets,
  own_size,
  body_of,
}
use Rattle.mir_func.specs.Successors.{ways}
use Rattle.mir_func.proofs.Ways.{IsOut, way_back, contains_cases, contains_none}
use Rattle.value_tracker.specs.Things.{IsOffset}
use Rattle.value_live_ins.specs.steps.Flowing.{next_id}
use Rattle.value_live_ins.specs.steps.Framing.{AreBlocks}
use Rattle.value_live_ins.specs.Gathering.{RowHasOffset, PlaceHasOffset, HasOffsets}
use Rattle.value_live_ins.specs.steps.Ways.{Indices, enter_by, FindsIds}

-- ---- lists

pub all_at : {A : Type 0} (P : A → Type 0) (xs : List A) (i : ℕ) (x : A) → All P xs → slice_get xs i ≡ Some x → P x
all_at P xs i x h at = subst P (get_or_from_slice_get xs i x x at) (h i x (slice_get_within xs i x at))

-- ---- the prologue

add_goes : (rd a n : ℕ) → row_exit (add_row rd a n) ≡ Onward
add_goes rd zero n = refl
add_goes rd (suc r) zero = refl
add_goes rd (suc r) (suc n) = refl

adds_go : (n : ℤ) → row_exit (row_of (adds_to_pointer n)) ≡ Onward
adds_go n = add_goes 2 2 (word n)

saves_go : (saved : List SavedRegister) (k : ℕ) (c : Instruction) → slice_get (map saves saved) k ≡ Some c → row_exit (row_of c) ≡ Onward
saves_go [] k c e = absurd cc
saves_go (s ∷ rest) zero c e = let is : saves s ≡ c = cc in ap (λ (z : Instruction). row_exit (row_of z)) (sym is)
saves_go (s ∷ rest) (suc k) c e = saves_go rest k c e

prologue_goes : (size : ℕ) (saved : List SavedRegister) (k : ℕ) (c : Instruction) → slice_get (prologue_code size saved) k ≡ Some c →
    row_exit (row_of c) ≡ Onward
prologue_goes size saved zero c e =
    let is : adds_to_pointer (pos 0 -ℤ pos size) ≡ c = cc in
    ap (λ (z : Instruction). row_exit (row_of z)) (sym is) ∙ adds_go (pos 0 -ℤ pos size)
prologue_goes size saved (suc k) c e = saves_go saved k c e

code_goes : (items : List Item) (code : List Instruction) → AreCode items code → ((k : ℕ) (c : Instruction) → slice_get code k ≡ Some c →
    row_exit (row_of c) ≡ Onward) →
    (k : ℕ) (i : Item) → slice_get items k ≡ Some i → exit_of i.kind ≡ Onward
code_goes items code are goes k i at = by_code (slice_get code k) refl where
  kinds : option_map (λ (c : Instruction). Code c None) (slice_get code k) ≡ Some i.kind
  kinds =
      sym (slice_get-map (λ (c : Instruction). Code c None) code k) ∙ ap (λ (z : List ItemKind). slice_get z k) (sym are)
      ∙ slice_get-map (λ (z : Item). z.kind) items k ∙ ap (option_map (λ (z : Item). z.kind)) at

  by_code : (o : Option Instruction) → slice_get code k ≡ o → exit_of i.kind ≡ Onward
  by_code (Some c) e =
      let same : Some (Code c None) ≡ Some i.kind = ap (option_map (λ (z : Instruction). Code z None)) (sym e) ∙ kinds in
      let is : Code c None ≡ i.kind = cc in
      ap exit_of (sym is) ∙ goes k c e
  by_code None e = absurd (let no : None ≡ Some i.kind = ap (option_map (λ (z : Instruction). Code z None)) (sym e) ∙ kinds in cc)

prologue_onward : (size : ℕ) (saved : List SavedRegister) (blocks : List Block) → HasFrame size saved blocks → (block : Block) →
    slice_get blocks 0 ≡ Some block → (k : ℕ) (i : Item) → slice_get block.items k ≡ Some i → exit_of i.kind ≡ Onward
prologue_onward size saved [] h block at k i e = absurd h
prologue_onward zero saved (p ∷ rest) h block at k i e =
    let is : p ≡ block = cc in
    let none : slice_get [] k ≡ Some i = ap (λ (z : List Item). slice_get z k) (sym h.0) ∙ ap (λ (z : Block). slice_get z.items k) is ∙ e in
    absurd cc
prologue_onward (suc n) saved (p ∷ rest) h block at k i e =
    let is : p ≡ block = cc in
    code_goes p.items (prologue_code (suc n) saved) h.0 (prologue_goes (suc n) saved) k i (ap (λ (z : Block). slice_get z.items k) is ∙ e)

pub are_blocks : (f : FramedFunction) → IsFramed f → AreBlocks f.blocks
are_blocks f is = record {
  prologue = prologue_onward f.size f.saved f.blocks is.frame;
  ends = is.ends;
  apart = is.blocks_apart;
  targets = is.targets;
}

-- ---- slots

offset_of : (f : FramedFunction) → IsFramed f → (o : ℕ) → IsSlotOffset f o → IsOffset o
offset_of f is o h =
    let small : f.size ≤ MAX_FRAME = is.small in
    let less : o < own_size f = h.1 in
    (h.0, below_frame o (own_size f) h.0 less (omega (arith, small))) where
      below_frame : (o n : ℕ) → o % 8 ≡ 0 → o < n → n ≤ 2032 → o ≤ 2024
      below_frame o n e lt le = omega (arith, e, lt, le)

module _ (f : FramedFunction) (is : IsFramed f) where
  slot_offset : (n : ℕ) → Contains (slot_offsets f) n → IsOffset n
  slot_offset n (k, lt, e) = offset_of f is n (subst (IsSlotOffset f) e (is.offsets k n lt))

  row_offset : (r : Row) → SlotIn (slot_offsets f) r → RowHasOffset r
  row_offset (LoadsSlot rd n) h = slot_offset n h
  row_offset (StoresSlot rs n) h = slot_offset n h
  row_offset _ h = tt

  place_offset : (p : Option Place) → PlaceIn (slot_offsets f) p → PlaceHasOffset p
  place_offset None h = tt
  place_offset (Some (Register r)) h = tt
  place_offset (Some (Slot n)) h = slot_offset n h
  place_offset (Some (Const c)) h = tt

  kind_offset : (k : ItemKind) → SlotsIn (slot_offsets f) k → HasOffsets k
  kind_offset (Code i k) h = row_offset (row_of i) h.0
  kind_offset (Mark v m) h = tt
  kind_offset (Phi p k) h = place_offset p h

  pub have_offsets : AllItems (λ i. HasOffsets i.kind) f.blocks
  have_offsets b block lt k item less = kind_offset (get_or (get_or f.blocks b block).items k item).kind (is.slots b block lt k item less)

-- ---- blocks by their numbers

apart_tail : (n : ℕ) (ns : List ℕ) → AreApart (n ∷ ns) → AreApart ns
apart_tail n ns h i j m e f = let k : suc i ≡ suc j = h (suc i) (suc j) m e f in omega (arith, k)

id_among : (blocks : List Block) (i : ℕ) (b : Block) → slice_get blocks i ≡ Some b → slice_get (ids_of blocks) i ≡ Some b.id
id_among blocks i b e = slice_get-map (λ (z : Block). z.id) blocks i ∙ ap (option_map (λ (z : Block). z.id)) e

index_at : (blocks : List Block) (i : ℕ) (b : Block) → AreApart (ids_of blocks) → slice_get blocks i ≡ Some b → index_of blocks b.id ≡ i
index_at [] i b h e = absurd cc
index_at (c ∷ cs) zero b h e =
    let same : c ≡ b = cc in
    ap (λ (z : Bool). cond z 0 (suc (index_of cs b.id))) (eq-eqb c.id b.id (ap (λ (z : Block). z.id) same))
index_at (c ∷ cs) (suc i) b h e =
    let other : c.id ≡ b.id → ⊥ = λ s. let k : suc i ≡ zero = h (suc i) zero b.id (id_among cs i b e) (ap (λ (n : ℕ). Some n) s) in omega (arith, k) in
    ap (λ (z : Bool). cond z 0 (suc (index_of cs b.id))) (ne_eqb c.id b.id other) ∙ ap suc (index_at cs i b (apart_tail c.id (ids_of cs) h) e)

-- a number that is there is a block's
block_with : (blocks : List Block) (n : ℕ) → Contains (ids_of blocks) n → (i : ℕ) × (b : Block) × (slice_get blocks i ≡ Some b) × (b.id ≡ n)
block_with [] n (k, lt, e) = absurd (let no : k < 0 = lt in omega (arith, no))
block_with (b ∷ bs) n (zero, lt, e) = (0, b, refl, e)
block_with (b ∷ bs) n (suc k, lt, e) =
    let less : suc k < suc (length (ids_of bs)) = lt in
    let (i, c, at, is) = block_with bs n (k, omega (arith, less), e) in
    (suc i, c, at, is)

body_at : (blocks : List Block) (i : ℕ) (b : Block) → slice_get (body_of blocks) i ≡ Some b → slice_get blocks (suc i) ≡ Some b
body_at [] i b e = absurd cc
body_at (p ∷ bs) i b e = e

at_body : (blocks : List Block) (i : ℕ) (b : Block) → 1 ≤ i → slice_get blocks i ≡ Some b → (j : ℕ) × (i ≡ suc j) × (slice_get (body_of blocks) j ≡ Some b)
at_body [] i b le e = absurd cc
at_body (p ∷ bs) zero b le e = absurd (omega (arith, le))
at_body (p ∷ bs) (suc i) b le e = (i, refl, e)

body_length : (blocks : List Block) (i : ℕ) → i < length (body_of blocks) → suc i < length blocks
body_length [] i lt = absurd (let no : i < 0 = lt in omega (arith, no))
body_length (p ∷ bs) i lt = let less : i < length bs = lt in omega (arith, less)

module _ (blocks : List Block) (resolve : OperandPair → Option OperandPair) (are : AreBlocks blocks) where
  abbrev g : Program
  g = framed_program blocks resolve

  abbrev ids : List ℕ
  ids = ids_of (body_of blocks)

  numbers_apart : (i j : ℕ) (a b : Block) → 1 ≤ i → 1 ≤ j → slice_get blocks i ≡ Some a → slice_get blocks j ≡ Some b → a.id ≡ b.id → i ≡ j
  numbers_apart i j a b li lj ea eb same =
      let (k, ik, ka) = at_body blocks i a li ea in
      let (m, jm, mb) = at_body blocks j b lj eb in
      let one : k ≡ m = are.apart k m b.id (id_among (body_of blocks) k a ka ∙ ap (λ (z : ℕ). Some z) same) (id_among (body_of blocks) m b mb) in
      ik ∙ ap suc one ∙ sym jm

  -- where a branch to a number goes
  pub enters : (n : ℕ) → Contains ids n → g.enter n < length blocks
  enters n h =
      let (i, b, at, is) = block_with (body_of blocks) n h in
      let found : index_of (body_of blocks) n ≡ i = ap (index_of (body_of blocks)) (sym is) ∙ index_at (body_of blocks) i b are.apart at in
      let less = body_length blocks i (slice_get_within (body_of blocks) i b at) in
      omega (arith, found, less)

  pub finds : (t : Indices) → FindsIds (length blocks) blocks t → (n : ℕ) → Contains ids n → enter_by t n ≡ g.enter n
  finds t f n h =
      let (i, b, at, is) = block_with (body_of blocks) n h in
      let found : index_of (body_of blocks) n ≡ i = ap (index_of (body_of blocks)) (sym is) ∙ index_at (body_of blocks) i b are.apart at in
      let less = body_length blocks i (slice_get_within (body_of blocks) i b at) in
      let got = f.each numbers_apart (suc i) b (omega arith) less (body_at blocks i b at) in
      ap (enter_by t) (sym is) ∙ ap (λ (o : Option ℕ). unwrap_or o 0) got ∙ ap suc (sym found)

  row_target : (r : Row) (n : ℕ) → TargetIn ids r → IsOut (row_exit r) n → Contains ids n
  row_target (Branches op a b target) n h e = subst (Contains ids) e h
  row_target (Jumps target) n h e = subst (Contains ids) e h
  row_target _ n h e = absurd e

  kind_target : (k : ItemKind) (n : ℕ) → TargetsIn ids k → IsOut (exit_of k) n → Contains ids n
  kind_target (Code i k) n h e = row_target (row_of i) n h e
  kind_target (Mark v m) n h e = absurd e
  kind_target (Phi p k) n h e = absurd e

  -- items lead to blocks that are there
  ways_in : (items : List Item) (next : Option ℕ) → ((k : ℕ) (i : Item) → slice_get items k ≡ Some i → TargetsIn ids i.kind) →
      ((n : ℕ) → next ≡ Some n → Contains ids n) → (n : ℕ) → Contains (ways items next) n → Contains ids n
  ways_in [] None targets after n h = absurd (contains_none n h)
  ways_in [] (Some m) targets after n h = elim (contains_cases m n [] h) [ inl e ↦ subst (Contains ids) e (after m refl) | inr c ↦ absurd (contains_none n c) ]
  ways_in (i ∷ rest) next targets after n h =
      by_way (way_back (exit_of i.kind) n (ways rest next) h) (λ c. ways_in rest next (λ k j e. targets (suc k) j e) after n c) where
        by_way : {A : Type 0} → (IsOut (exit_of i.kind) n ⊎ (A × Contains (ways rest next) n)) → (Contains (ways rest next) n → Contains ids n) → Contains ids n
        by_way (inl e) more = kind_target i.kind n (targets 0 i refl) e
        by_way (inr (d, c)) more = more c

  next_in : (b n : ℕ) → next_id blocks b ≡ Some n → Contains ids n
  next_in b n e = in_body blocks e where
    in_body : (bs : List Block) → slice_get (ids_of bs) (suc b) ≡ Some n → Contains (ids_of (body_of bs)) n
    in_body [] h = absurd cc
    in_body (p ∷ bs) h = (b, slice_get_within (ids_of bs) b n h, get_or_from_slice_get (ids_of bs) b n n h)

  pub ways_among : (b : ℕ) (block : Block) → slice_get blocks b ≡ Some block → (n : ℕ) → Contains (ways block.items (next_id blocks b)) n → Contains ids n
  ways_among b block at = ways_in block.items (next_id blocks b)
      (λ k i e. all_at (λ (z : Item). TargetsIn ids z.kind) block.items k i
      (all_at (λ (z : Block). All (λ (y : Item). TargetsIn ids y.kind) z.items) blocks b block are.targets at) e)
      (next_in b)

-- ---- what stands at a position

front_here : (items : List Item) (k source_end : ℕ) (bs : List Block) (item : Item) → front (drop k items) source_end bs ≡ Here item →
    slice_get items k ≡ Some item
front_here [] zero source_end [] item e = absurd cc
front_here [] zero source_end (b ∷ bs) item e = absurd cc
front_here [] (suc k) source_end [] item e = absurd cc
front_here [] (suc k) source_end (b ∷ bs) item e = absurd cc
front_here (x ∷ xs) zero source_end bs item e = let is : x ≡ item = cc in ap (λ (z : Item). Some z) is
front_here (x ∷ xs) (suc k) source_end bs item e = front_here xs k source_end bs item e

pub here_in : (blocks : List Block) (b k : ℕ) (item : Item) → fetch_in (drop b blocks) k ≡ Here item →
    (block : Block) × (slice_get blocks b ≡ Some block) × (slice_get block.items k ≡ Some item)
here_in [] zero k item e = absurd cc
here_in [] (suc b) k item e = absurd cc
here_in (x ∷ xs) zero k item e = (x, refl, front_here x.items k x.source_end xs item e)
here_in (x ∷ xs) (suc b) k item e = here_in xs b k item e

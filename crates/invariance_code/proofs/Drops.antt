-- What is left of items without their debug items, and which of them is which.
use Rattle.std.proofs.Common.{◌≡◌, ℕ, zero, suc, List, [], ◌∷◌, map, Option, Some, None, cond, nat_eq, refl, ap}
use Rattle.rv64_instr.specs.declared.place.Place.{Place}
use Rattle.rv64_instr.specs.Instruction.{Instruction}
use Rattle.mir_func.specs.declared.block.Block.{Block}
use Rattle.mir_func.specs.declared.exit.Exit.{Exit}
use Rattle.mir_func.specs.declared.exit.Exit.TheVariants.{Perhaps}
use Rattle.mir_func.specs.declared.item.Item.{Item}
use Rattle.mir_func.specs.declared.item.ItemKind.{ItemKind}
use Rattle.mir_func.specs.declared.item.ItemKind.TheVariants.{Code, Mark, Phi}
use Rattle.mir_func.specs.declared.location.Loc.{Loc}
use Rattle.mir_func.specs.declared.location.Loc.TheVariants.{Absent}
use Rattle.mir_func.specs.declared.position.Origin.{Origin}
use Rattle.mir_func.specs.declared.position.Pos.{Pos}
use Rattle.mir_func.specs.declared.variable.MarkValue.{MarkValue}
use Rattle.mir_func.specs.declared.variable.VarId.{VarId}
use Rattle.mir_func.specs.Exits.{exit_of}
use Rattle.mir_func.specs.Graph.{index_of}
use Rattle.mir_func.specs.SoundFrame.{body_of}
use Rattle.mir_func.specs.Strip.{stripped_items, stripped_blocks}
use Rattle.mir_func.specs.Successors.{pos_in}
use Rattle.emit_code.specs.Rule.{items_at}
use Rattle.pass_trait.specs.Code.{originless_origin, originless_item, originless_block}

-- the code of items in order, whatever its numbers and locations, with what is left of its origins
pub data Drops (w : Origin → Origin) : List Item → List Item → Type 0 where
  none : Drops w [] []
  code : (c : Instruction) (k k' : Option ℕ) (o : Origin) (l l' : Loc) {xs ys : List Item} → Drops w xs ys →
      Drops w (record { kind = Code c k; origin = o; loc = l } ∷ xs) (record { kind = Code c k'; origin = w o; loc = l' } ∷ ys)
  mark : (v : VarId) (m : MarkValue) (o : Origin) (l : Loc) {xs ys : List Item} → Drops w xs ys →
      Drops w (record { kind = Mark v m; origin = o; loc = l } ∷ xs) ys
  phi : (p : Option Place) (k : ℕ) (o : Origin) (l : Loc) {xs ys : List Item} → Drops w xs ys →
      Drops w (record { kind = Phi p k; origin = o; loc = l } ∷ xs) ys

-- the same of each block, whatever its silent index
pub data DropsEach (w : Origin → Origin) : List Block → List Block → Type 0 where
  no_more : DropsEach w [] []
  more : (id s s' : ℕ) {xs ys : List Item} {bs cs : List Block} → Drops w xs ys → DropsEach w bs cs →
      DropsEach w (record { id = id; items = xs; source_end = s } ∷ bs) (record { id = id; items = ys; source_end = s' } ∷ cs)

-- ---- which is which

-- how control leaves the item at an index
abbrev pub exit_at : List Item → ℕ → Option Exit
exit_at [] n = None
exit_at (i ∷ items) zero = Some (exit_of i.kind)
exit_at (i ∷ items) (suc n) = exit_at items n

-- how much code stands before an index
abbrev pub down : {w : Origin → Origin} {xs ys : List Item} → Drops w xs ys → ℕ → ℕ
down none n = n
down (code c k k' o l l' d) zero = zero
down (code c k k' o l l' d) (suc n) = suc (down d n)
down (mark v m o l d) zero = zero
down (mark v m o l d) (suc n) = down d n
down (phi p k o l d) zero = zero
down (phi p k o l d) (suc n) = down d n

-- the index of code of this rank
abbrev pub up : {w : Origin → Origin} {xs ys : List Item} → Drops w xs ys → ℕ → ℕ
up none n = n
up (code c k k' o l l' d) zero = zero
up (code c k k' o l l' d) (suc n) = suc (up d n)
up (mark v m o l d) n = suc (up d n)
up (phi p k o l d) n = suc (up d n)

module _ {w : Origin → Origin} where
  pub down_up : {xs ys : List Item} (d : Drops w xs ys) (n : ℕ) → down d (up d n) ≡ n
  down_up none n = refl
  down_up (code c k k' o l l' d) zero = refl
  down_up (code c k k' o l l' d) (suc n) = ap (λ (x : ℕ). suc x) (down_up d n)
  down_up (mark v m o l d) n = down_up d n
  down_up (phi p k o l d) n = down_up d n

  pub down_zero : {xs ys : List Item} (d : Drops w xs ys) → down d zero ≡ zero
  down_zero none = refl
  down_zero (code c k k' o l l' d) = refl
  down_zero (mark v m o l d) = refl
  down_zero (phi p k o l d) = refl

  abbrev pub items_drop : {bs cs : List Block} → DropsEach w bs cs → (b : ℕ) → Drops w (items_at bs b) (items_at cs b)
  items_drop no_more b = none
  items_drop (more id s s' d ds) zero = d
  items_drop (more id s s' d ds) (suc b) = items_drop ds b

  -- the point of the code at a point of the code alone, and back
  abbrev pub up_in : {bs cs : List Block} → DropsEach w bs cs → Pos → Pos
  up_in ds p = pos_in p.block (up (items_drop ds p.block) p.item)

  abbrev pub down_in : {bs cs : List Block} → DropsEach w bs cs → Pos → Pos
  down_in ds p = pos_in p.block (down (items_drop ds p.block) p.item)

  pub down_up_in : {bs cs : List Block} (ds : DropsEach w bs cs) (p : Pos) → down_in ds (up_in ds p) ≡ p
  down_up_in ds p = let e = down_up (items_drop ds p.block) p.item in λ i. pos_in p.block (e i)

  -- ---- blocks

  pub bodies_drop : {bs cs : List Block} → DropsEach w bs cs → DropsEach w (body_of bs) (body_of cs)
  bodies_drop no_more = no_more
  bodies_drop (more id s s' d ds) = ds

  pub index_same : {bs cs : List Block} → DropsEach w bs cs → (n : ℕ) → index_of bs n ≡ index_of cs n
  index_same no_more n = refl
  index_same (more id s s' d ds) n = ap (λ (j : ℕ). cond (nat_eq id n) 0 (suc j)) (index_same ds n)

  -- ---- how control leaves

  pub exit_up : {xs ys : List Item} (d : Drops w xs ys) (n : ℕ) → exit_at xs (up d n) ≡ exit_at ys n
  exit_up none n = refl
  exit_up (code c k k' o l l' d) zero = refl
  exit_up (code c k k' o l l' d) (suc n) = exit_up d n
  exit_up (mark v m o l d) n = exit_up d n
  exit_up (phi p k o l d) n = exit_up d n

  -- what control leaves by a branch is code
  pub up_down : {xs ys : List Item} (d : Drops w xs ys) (n t : ℕ) → exit_at xs n ≡ Some (Perhaps t) → up d (down d n) ≡ n
  up_down none n t e = refl
  up_down (code c k k' o l l' d) zero t e = refl
  up_down (code c k k' o l l' d) (suc n) t e = ap (λ (x : ℕ). suc x) (up_down d n t e)
  up_down (mark v m o l d) zero t e = absurd cc
  up_down (mark v m o l d) (suc n) t e = ap (λ (x : ℕ). suc x) (up_down d n t e)
  up_down (phi p k o l d) zero t e = absurd cc
  up_down (phi p k o l d) (suc n) t e = ap (λ (x : ℕ). suc x) (up_down d n t e)

-- ---- functions

stripped_first : (k : ItemKind) (o : Origin) (l : Loc) (xs : List Item) → Drops (λ o. o) xs (stripped_items xs) →
    Drops (λ o. o) (record { kind = k; origin = o; loc = l } ∷ xs) (stripped_items (record { kind = k; origin = o; loc = l } ∷ xs))
stripped_first (Code c k) o l xs d = code c k None o l l d
stripped_first (Mark v m) o l xs d = mark v m o l d
stripped_first (Phi p k) o l xs d = phi p k o l d

pub stripped_drops : (xs : List Item) → Drops (λ o. o) xs (stripped_items xs)
stripped_drops [] = none
stripped_drops (x ∷ xs) = stripped_first x.kind x.origin x.loc xs (stripped_drops xs)

pub stripped_each : (bs : List Block) → DropsEach (λ o. o) bs (stripped_blocks bs)
stripped_each [] = no_more
stripped_each (b ∷ bs) = more b.id b.source_end b.source_end (stripped_drops b.items) (stripped_each bs)

originless_first : (k : ItemKind) (o : Origin) (l : Loc) (xs : List Item) → Drops originless_origin xs (map originless_item (stripped_items xs)) →
    Drops originless_origin (record { kind = k; origin = o; loc = l } ∷ xs)
    (map originless_item (stripped_items (record { kind = k; origin = o; loc = l } ∷ xs)))
originless_first (Code c k) o l xs d = code c k None o l Absent d
originless_first (Mark v m) o l xs d = mark v m o l d
originless_first (Phi p k) o l xs d = phi p k o l d

pub originless_drops : (xs : List Item) → Drops originless_origin xs (map originless_item (stripped_items xs))
originless_drops [] = none
originless_drops (x ∷ xs) = originless_first x.kind x.origin x.loc xs (originless_drops xs)

pub originless_each : (bs : List Block) → DropsEach originless_origin bs (map originless_block (stripped_blocks bs))
originless_each [] = no_more
originless_each (b ∷ bs) = more b.id b.source_end 0 (originless_drops b.items) (originless_each bs)

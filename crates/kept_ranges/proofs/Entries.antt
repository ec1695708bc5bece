-- Where entries stand, and what is at their points.
use Rattle.std.proofs.Common.{◌≡◌, ℕ, zero, suc, ◌+◌, ◌<◌, ◌≤◌, List, [], ◌∷◌, length, drop, arith, refl, ◌∙◌, ap, subst, inl, inr}
use Rattle.std.specs.Prelude.{Some, None, Bool, true, false, cond, Contains, slice_get, All}
use Rattle.std.proofs.lemmas.Bool.{cases_lt}
use Rattle.std.proofs.lemmas.List.Elements.{All-nil, All-cons}
use Rattle.mir_func.specs.declared.block.Block.{Block}
use Rattle.mir_func.specs.declared.item.Item.{Item}
use Rattle.mir_func.specs.Graph.{Here, end_of, front, fetch_in}
use Rattle.emit_code.specs.declared.code.EncodedInstruction.{EncodedInstruction}
use Rattle.emit_code.specs.Laid.{StandFrom}
use Rattle.location_ranges.specs.Lists.{HasByte}
use Rattle.kept_ranges.specs.Calls.{passed_at}

-- ---- addresses

size_some : (b : Bool) → 0 < cond b 8 4
size_some true = omega arith
size_some false = omega arith

-- entries stand behind the address of the first one
pub behind : (a end : ℕ) (es : List EncodedInstruction) (i : ℕ) (e : EncodedInstruction) → StandFrom a es end → slice_get es i ≡ Some e → a ≤ e.address
behind a end [] i e stand at = absurd (let no : None ≡ Some e = at in cc)
behind a end (x ∷ es) zero e stand at =
    let same : x ≡ e = cc in
    subst (λ (z : EncodedInstruction). a ≤ z.address) same (let is = stand.0 in omega (arith, is))
behind a end (x ∷ es) (suc i) e stand at = let h = behind (a + x.size) end es i e stand.2 at in omega (arith, h)

-- an address has a byte of one entry
pub one_entry : (a end : ℕ) (es : List EncodedInstruction) → StandFrom a es end → (i j : ℕ) (e f : EncodedInstruction) → slice_get es i ≡ Some e →
    slice_get es j ≡ Some f → (x : ℕ) → HasByte e x → HasByte f x → e ≡ f
one_entry a end [] stand i j e f at other x has same = absurd (let no : None ≡ Some e = at in cc)
one_entry a end (y ∷ es) stand zero zero e f at other x has same = cc
one_entry a end (y ∷ es) stand zero (suc j) e f at other x has same =
    let first : y ≡ e = cc in
    let ends : e.address + e.size ≡ a + y.size = subst (λ (z : EncodedInstruction). z.address + z.size ≡ a + y.size) first
    (ap (λ (n : ℕ). n + y.size) stand.0) in
    let later = behind (a + y.size) end es j f stand.2 other in
    let low = same.0 in
    let high = has.1 in
    absurd (omega (arith, ends, later, low, high))
one_entry a end (y ∷ es) stand (suc i) zero e f at other x has same =
    let first : y ≡ f = cc in
    let ends : f.address + f.size ≡ a + y.size = subst (λ (z : EncodedInstruction). z.address + z.size ≡ a + y.size) first
    (ap (λ (n : ℕ). n + y.size) stand.0) in
    let later = behind (a + y.size) end es i e stand.2 at in
    let low = has.0 in
    let high = same.1 in
    absurd (omega (arith, ends, later, low, high))
one_entry a end (y ∷ es) stand (suc i) (suc j) e f at other x has same = one_entry (a + y.size) end es stand.2 i j e f at other x has same

-- each address between the first entry and the end of the last one has one
pub entry_at : (a end : ℕ) (es : List EncodedInstruction) → StandFrom a es end → (x : ℕ) → a ≤ x → x < end →
    (e : EncodedInstruction) × Contains es e × HasByte e x
entry_at a end [] stand x le lt = absurd (omega (arith, le, lt, stand))
entry_at a end (y ∷ es) stand x le lt = elim (cases_lt x (a + y.size)) [
  | inl inside ↦
      let is = stand.0 in
      (y, (0, omega arith, refl), (omega (arith, is, le), omega (arith, is, inside)))
  | inr past ↦
      let h = entry_at (a + y.size) end es stand.2 x past lt in
      let c = h.1 in
      let k = c.0 in
      let within = c.1 in
      (h.0, (suc k, omega (arith, within), c.2), h.2)
]

ends_later : (a end : ℕ) (es : List EncodedInstruction) → StandFrom a es end → a ≤ end
ends_later a end [] stand = omega (arith, stand)
ends_later a end (y ∷ es) stand = let h = ends_later (a + y.size) end es stand.2 in omega (arith, h)

-- an entry ends by the end
pub ends_within : (a end : ℕ) (es : List EncodedInstruction) (i : ℕ) (e : EncodedInstruction) → StandFrom a es end → slice_get es i ≡ Some e →
    e.address + e.size ≤ end
ends_within a end [] i e stand at = absurd (let no : None ≡ Some e = at in cc)
ends_within a end (x ∷ es) zero e stand at =
    let same : x ≡ e = cc in
    let is = stand.0 in
    let later = ends_later (a + x.size) end es stand.2 in
    subst (λ (z : EncodedInstruction). z.address + z.size ≤ end) same (omega (arith, is, later))
ends_within a end (x ∷ es) (suc i) e stand at = ends_within (a + x.size) end es i e stand.2 at

-- each entry stands by the end
pub low : (a end most : ℕ) (es : List EncodedInstruction) → StandFrom a es end → end < most → All (λ e. e.address < most) es
low a end most [] stand lt = All-nil (λ (e : EncodedInstruction). e.address < most)
low a end most (y ∷ es) stand lt =
    let is = stand.0 in
    let later = ends_later (a + y.size) end es stand.2 in
    All-cons (λ (e : EncodedInstruction). e.address < most) y es (omega (arith, is, later, lt)) (low (a + y.size) end most es stand.2 lt)

-- ---- items

front_at : (items : List Item) (k source_end : ℕ) (bs : List Block) (i : Item) → slice_get items k ≡ Some i → front (drop k items) source_end bs ≡ Here i
front_at [] k source_end bs i e = absurd (let no : None ≡ Some i = e in cc)
front_at (x ∷ xs) zero source_end bs i e = let same : x ≡ i = cc in ap Here same
front_at (x ∷ xs) (suc k) source_end bs i e = front_at xs k source_end bs i e

-- what is at a point is the item there
pub item_there : (blocks : List Block) (b k : ℕ) (block : Block) (i : Item) → slice_get blocks b ≡ Some block → slice_get block.items k ≡ Some i →
    fetch_in (drop b blocks) k ≡ Here i
item_there [] b k block i at item = absurd (let no : None ≡ Some block = at in cc)
item_there (x ∷ xs) zero k block i at item =
    let same : x ≡ block = cc in
    front_at x.items k x.source_end xs i (ap (λ (z : Block). slice_get z.items k) same ∙ item)
item_there (x ∷ xs) (suc b) k block i at item = item_there xs b k block i at item

ends_without : (source_end : ℕ) (bs : List Block) → passed_at (end_of source_end bs) ≡ None
ends_without source_end [] = refl
ends_without source_end (b ∷ bs) = refl

front_without : (items : List Item) (k source_end : ℕ) (bs : List Block) → slice_get items k ≡ None → passed_at (front (drop k items) source_end bs) ≡ None
front_without [] zero source_end bs e = ends_without source_end bs
front_without [] (suc k) source_end bs e = ends_without source_end bs
front_without (x ∷ xs) zero source_end bs e = absurd (let no : Some x ≡ None = e in cc)
front_without (x ∷ xs) (suc k) source_end bs e = front_without xs k source_end bs e

-- behind the items of a block nothing is passed
pub none_there : (blocks : List Block) (b k : ℕ) (block : Block) → slice_get blocks b ≡ Some block → slice_get block.items k ≡ None →
    passed_at (fetch_in (drop b blocks) k) ≡ None
none_there [] b k block at none = absurd (let no : None ≡ Some block = at in cc)
none_there (x ∷ xs) zero k block at none =
    let same : x ≡ block = cc in
    front_without x.items k x.source_end xs (ap (λ (z : Block). slice_get z.items k) same ∙ none)
none_there (x ∷ xs) (suc b) k block at none = none_there xs b k block at none

-- without entries the end is the beginning
pub none_stand : (a end : ℕ) (es : List EncodedInstruction) → length es ≡ 0 → StandFrom a es end → a ≡ end
none_stand a end [] none stand = stand
none_stand a end (x ∷ es) none stand = absurd (omega (arith, none))

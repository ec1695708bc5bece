-- What taking out no-operations does with debug items.
use Rattle.std.proofs.Common.{◌≡◌, ℕ, zero, suc, ◌+◌, ◌<◌, ◌↔◌, List, [], ◌∷◌, ◌++◌, filter, count_by, All, Contains, Option, Some, None, Bool, true, false}
use Rattle.std.proofs.Common.{cond, not, ◌&&◌, slice_get, eq-eqb, append-nil, refl, sym, ap, ◌∙◌, subst, inl, inr, ◌⊎◌, arith}
use Rattle.std.specs.List.{flat_map, cons_option}
use Rattle.std.proofs.lemmas.List.Sums.{sum_by-cons}
use Rattle.std.proofs.lemmas.List.Elements.{All-weaker, All-contains, All-contains_itself, Contains-append_left, Contains-append_right}
use Rattle.std.proofs.lemmas.Option.{get_or_from_slice_get}
use Rattle.sem_simulation.specs.rv64_instr.declared.place.Place.{Place}
use Rattle.sem_simulation.specs.rv64_instr.declared.place.Place.TheVariants.{Register, Slot, Const}
use Rattle.sem_simulation.specs.rv64_instr.Row.{Row, Moves, row_of}
use Rattle.sem_simulation.specs.mir_func.declared.position.Pos.{Pos}
use Rattle.sem_simulation.specs.mir_func.declared.position.Origin.{Origin}
use Rattle.sem_simulation.specs.mir_func.declared.position.Origin.TheVariants.{Kept, Before}
use Rattle.sem_simulation.specs.mir_func.declared.location.Loc.{Loc}
use Rattle.sem_simulation.specs.mir_func.declared.variable.MarkValue.{MarkValue}
use Rattle.sem_simulation.specs.mir_func.declared.variable.MarkValue.TheVariants.{Nothing, Constant, At, Pair}
use Rattle.sem_simulation.specs.mir_func.declared.block.Block.{Block}
use Rattle.sem_simulation.specs.mir_func.declared.debug_substitution.DebugSubstitution.{DebugSubstitution}
use Rattle.sem_simulation.specs.mir_func.declared.item.Item.{Item}
use Rattle.sem_simulation.specs.mir_func.declared.item.ItemKind.{ItemKind}
use Rattle.sem_simulation.specs.mir_func.declared.item.ItemKind.TheVariants.{Code, Mark, Phi}
use Rattle.sem_simulation.specs.mir_func.Function.{Function}
use Rattle.sem_simulation.specs.mir_func.Sound.{ids_of, items_of, code_number, OriginIn, IsSound}
use Rattle.sem_simulation.specs.mir_func.Graph.{Here, fetch_in, from_block}
use Rattle.sem_simulation.specs.mir_func.Positions.{position_of, is_same_position}
use Rattle.sem_simulation.specs.sem_mir.Align.{is_code}
use Rattle.sem_simulation.proofs.sem_mir.Reading.{found, found_in, front_item, item_front, within_list}
use Rattle.pass_trait.specs.declared.loss.Reason.TheVariants.{Removed}
use Rattle.pass_trait.specs.declared.loss.Lost.TheVariants as lost
use Rattle.pass_trait.specs.declared.loss.Loss.{Loss}
use Rattle.pass_trait.specs.Change.{Change}
use Rattle.pass_trait.specs.Order.{IsInOrder}
use Rattle.pass_trait.specs.Rule.{IsCopy, number_lost, item, StandsAt}
use Rattle.pass_trait.specs.Causes.{is_origin, IsRemoved, HasCause, code_removed}
use Rattle.pass_trait.specs.Debug.{RegisterStays, ValueStays, PlaceStays, IsKillAt, Becomes, mark_stays, phi_stays, code_stays, code_unnumbered, code_goes}
use Rattle.pass_trait.specs.Debug.{number_goes, BecomeAll, over, next, BlocksBecome, none, stays as block_stays, IsLoss, IsFor, KeepsItems}
use Rattle.pass_trait.specs.Steps.{KeepsSteps}
use Rattle.pass_trait.specs.Nops.{is_nop_row, is_nop, has_added_saves, stays, thinned_blocks, thinned, IsTaken, nop_rule, nop_step, nop_number}
use Rattle.pass_trait.specs.Nops.{numbers_in_items, nop_numbers, lost_in}
use Rattle.pass_trait.proofs.NopRuns.{out_is}
use Rattle.pass_trait.proofs.NopCode.{stripped_thinned}
use Rattle.pass_trait.proofs.NopSound.{items_thin, ids_thin, sound_thin}
use Rattle.pass_trait.proofs.NopSizes.{count_thin}

-- where an element of a list that is put together comes from
pub in_first : {A : Type 0} (x : A) (xs : List A) (y : A) → Contains (x ∷ xs) y → (x ≡ y) ⊎ Contains xs y
in_first x xs y (zero, lt, at) = inl at
in_first x xs y (suc k, lt, at) = inr (k, omega (arith, lt), at)

pub at_first : {A : Type 0} (x : A) (xs : List A) → Contains (x ∷ xs) x
at_first x xs = (zero, omega arith, refl)

pub at_later : {A : Type 0} (x : A) (xs : List A) (y : A) → Contains xs y → Contains (x ∷ xs) y
at_later x xs y (k, lt, at) = (suc k, omega (arith, lt), at)

pub of_get : {A : Type 0} (xs : List A) (n : ℕ) (x : A) → slice_get xs n ≡ Some x → Contains xs x
of_get xs n x at = (n, within_list xs n x at, get_or_from_slice_get xs n x x at)

pub in_append : {A : Type 0} (xs ys : List A) (y : A) → Contains (xs ++ ys) y → Contains xs y ⊎ Contains ys y
in_append [] ys y h = inr h
in_append (x ∷ xs) ys y h = elim (in_first x (xs ++ ys) y h) [
  | inl e ↦ inl (subst (Contains (x ∷ xs)) e (at_first x xs))
  | inr k ↦ elim (in_append xs ys y k) [ inl l ↦ inl (at_later x xs y l) | inr l ↦ inr l ]
]

pub none_in : {A P : Type 0} (y : A) → Contains [] y → P
none_in y h = absurd (omega (arith, h.1))

pub in_flat : {A B : Type 0} (h : A → List B) (xs : List A) (y : B) → Contains (flat_map h xs) y → (x : A) × Contains xs x × Contains (h x) y
in_flat h [] y k = none_in y k
in_flat h (x ∷ xs) y k = elim (in_append (h x) (flat_map h xs) y k) [
  | inl l ↦ (x, at_first x xs, l)
  | inr l ↦ (let w = in_flat h xs y l in (w.0, at_later x xs w.0 w.1, w.2))
]

pub of_flat : {A B : Type 0} (h : A → List B) (xs : List A) (x : A) (y : B) → Contains xs x → Contains (h x) y → Contains (flat_map h xs) y
of_flat h [] x y k l = none_in x k
of_flat {A} h (z ∷ zs) x y k l = elim (in_first z zs x k) [
  | inl e ↦ Contains-append_left (h z) (flat_map h zs) y (subst (λ (w : A). Contains (h w) y) (sym e) l)
  | inr m ↦ Contains-append_right (h z) (flat_map h zs) y (of_flat h zs x y m l)
]

of_ids : (bs : List Block) (b : Block) → Contains bs b → Contains (ids_of bs) b.id
of_ids [] b h = none_in b h
of_ids (a ∷ bs) b h = elim (in_first a bs b h) [
  | inl e ↦ subst (Contains (ids_of (a ∷ bs))) (ap (λ (c : Block). c.id) e) (at_first a.id (ids_of bs))
  | inr k ↦ at_later a.id (ids_of bs) b.id (of_ids bs b k)
]

-- an origin lies in its block
origin_block : (b : Block) (o : Origin) → OriginIn b o → (position_of o).block ≡ b.id
origin_block b (Kept p) h = h.0
origin_block b (Before p) h = h.0

-- a no-operation with a number among items
record IsAmong (xs : List Item) (k : ℕ) : Type 0 where
  index : ℕ
  found : Item
  at : slice_get xs index ≡ Some found
  number : nop_number found.kind ≡ Some k

later_among : (x : Item) (xs : List Item) (k : ℕ) → IsAmong xs k → IsAmong (x ∷ xs) k
later_among x xs k h = record { index = suc h.index; found = h.found; at = h.at; number = h.number }

in_items : (xs : List Item) (k : ℕ) → Contains (numbers_in_items xs) k → IsAmong xs k
in_items [] k h = none_in k h
in_items (x ∷ xs) k h = by_number (nop_number x.kind) refl (in_items xs k) h where
  by_number : (o : Option ℕ) → nop_number x.kind ≡ o → (Contains (numbers_in_items xs) k → IsAmong xs k) → Contains (cons_option o (numbers_in_items xs)) k →
      IsAmong (x ∷ xs) k
  by_number None e rec h = later_among x xs k (rec h)
  by_number (Some n) e rec h = elim (in_first n (numbers_in_items xs) k h) [
    | inl same ↦ record { index = 0; found = x; at = refl; number = e ∙ ap Some same }
    | inr l ↦ later_among x xs k (rec l)
  ]

more_option : (o : Option ℕ) (ns : List ℕ) (k : ℕ) → Contains ns k → Contains (cons_option o ns) k
more_option None ns k h = h
more_option (Some n) ns k h = at_later n ns k h

of_items : (xs : List Item) (n : ℕ) (x : Item) (k : ℕ) → slice_get xs n ≡ Some x → nop_number x.kind ≡ Some k → Contains (numbers_in_items xs) k
of_items [] n x k at e = cc
of_items (y ∷ ys) zero x k at e =
    let w : y ≡ x = cc in
    let o : nop_number y.kind ≡ Some k = ap (λ (z : Item). nop_number z.kind) w ∙ e in
    subst (λ (z : Option ℕ). Contains (cons_option z (numbers_in_items ys)) k) (sym o) (at_first k (numbers_in_items ys))
of_items (y ∷ ys) (suc n) x k at e = more_option (nop_number y.kind) (numbers_in_items ys) k (of_items ys n x k at e)

-- what is taken out is a no-operation with this number
out_idle : (busy nop : Bool) → not (not busy && nop) ≡ false → busy ≡ false
out_idle true nop e = cc
out_idle false nop e = refl

nop_with : (busy : Bool) (x : ItemKind) (k : ℕ) → not (not busy && is_nop x) ≡ false → code_number x ≡ Some k → nop_number x ≡ Some k
nop_with busy (Code i None) k out e = cc
nop_with busy (Code i (Some m)) k out e = ap (λ (z : Bool). cond z (Some m) None) (out_is busy (is_nop_row (row_of i)) out) ∙ e
nop_with busy (Mark v m) k out e = cc
nop_with busy (Phi p m) k out e = cc

with_nop : (x : ItemKind) (k : ℕ) → nop_number x ≡ Some k → (is_nop x ≡ true) × (code_number x ≡ Some k)
with_nop (Code i None) k e = cc
with_nop (Code i (Some m)) k e = by_test (is_nop_row (row_of i)) refl e where
  by_test : (z : Bool) → is_nop_row (row_of i) ≡ z → cond z (Some m) None ≡ Some k → (is_nop_row (row_of i) ≡ true) × (Some m ≡ Some k)
  by_test true h e = (h, e)
  by_test false h e = cc
with_nop (Mark v m) k e = cc
with_nop (Phi p m) k e = cc

no_copy : (r : Row) → is_nop_row r ≡ true → IsCopy r → ⊥
no_copy (Moves rd rs) e h = cc
no_copy _ e h = absurd h

pub same_position : (p : Pos) → is_same_position p p ≡ true
same_position p = let a = eq-eqb p.block p.block refl in let b = eq-eqb p.item p.item refl in λ i. a i && b i

pub same_origin : (o : Origin) → is_origin o o ≡ true
same_origin (Kept p) = same_position p
same_origin (Before p) = same_position p

abbrev weight : Bool → ℕ
weight z = cond z 1 0

-- where one that passes a test is left out, fewer pass
fewer_left : (p keep : Item → Bool) (xs : List Item) (x : Item) → Contains xs x → p x ≡ true → keep x ≡ false → count_by p (filter keep xs) < count_by p xs
fewer_left p keep [] x h passes out = none_in x h
fewer_left p keep (y ∷ ys) x h passes out =
    let e : count_by p (y ∷ ys) ≡ weight (p y) + count_by p ys = sum_by-cons (λ z. weight (p z)) y ys in
    let d : count_by p (filter keep (y ∷ ys)) < weight (p y) + count_by p ys = elim (in_first y ys x h) [
      | inl same ↦ here same
      | inr later ↦ there (keep y) (fewer_left p keep ys x later passes out)
    ] in
    subst (λ (n : ℕ). count_by p (filter keep (y ∷ ys)) < n) (sym e) d where
      here : y ≡ x → count_by p (filter keep (y ∷ ys)) < weight (p y) + count_by p ys
      here same =
          let left : filter keep (y ∷ ys) ≡ filter keep ys = ap (λ (z : Bool). cond z (y ∷ filter keep ys) (filter keep ys)) (ap keep same ∙ out) in
          let one : weight (p y) ≡ 1 = ap weight (ap p same ∙ passes) in
          let less = count_thin p keep ys in
          let n : count_by p (filter keep (y ∷ ys)) ≡ count_by p (filter keep ys) = ap (count_by p) left in
          omega (arith, one, less, n)

      there : (z : Bool) → count_by p (filter keep ys) < count_by p ys →
          count_by p (cond z (y ∷ filter keep ys) (filter keep ys)) < weight (p y) + count_by p ys
      there true k = let e : count_by p (y ∷ filter keep ys) ≡ weight (p y) + count_by p (filter keep ys) =
          sum_by-cons (λ z. weight (p z)) y (filter keep ys) in omega (arith, e, k)
      there false k = omega (arith, k)

-- nothing is spilled or renamed
register_stays : (c : Change) (r : ℕ) → RegisterStays nop_rule c r
register_stays c r = (λ slot h. h, λ now h. h)

value_stays : (c : Change) (m : MarkValue) → ValueStays nop_rule c m
value_stays c Nothing = tt
value_stays c (Constant z) = tt
value_stays c (At r) = register_stays c r
value_stays c (Pair q) = tt

place_stays : (c : Change) (p : Option Place) → PlaceStays nop_rule c p
place_stays c None = tt
place_stays c (Some (Register r)) = register_stays c r
place_stays c (Some (Slot n)) = tt
place_stays c (Some (Const z)) = tt

module _ (f : Function) (sound : IsSound f) (subs : List DebugSubstitution) where
  abbrev busy : Bool
  busy = has_added_saves f.blocks

  abbrev change : Change
  change = record { old = f; old_subs = subs; new = thinned f; new_subs = subs }

  stands_in : (b : Block) → Contains f.blocks b → (n : ℕ) (x : Item) → slice_get b.items n ≡ Some x → StandsAt f (record { block = b.id; item = n }) x
  stands_in b member n x at = let w = found f.blocks sound.blocks_apart b member in
      ap (λ (bs : List Block). fetch_in bs n) w.at ∙ item_front b.items n b.source_end w.rest x at

  -- the block of what stands somewhere
  block_of : (at : Pos) (x : Item) → StandsAt f at x → (b : Block) × Contains f.blocks b × (slice_get b.items at.item ≡ Some x)
  block_of at x stands = by_blocks (from_block f.blocks at.block) refl stands where
    by_blocks : (bs : List Block) → from_block f.blocks at.block ≡ bs → fetch_in bs at.item ≡ Here x →
        (b : Block) × Contains f.blocks b × (slice_get b.items at.item ≡ Some x)
    by_blocks [] e h = cc
    by_blocks (b ∷ bs) e h = (b, (found_in f.blocks at.block b bs e).0, front_item b.items at.item b.source_end bs x h)

  among_all : (at : Pos) (x : Item) → StandsAt f at x → Contains (items_of f.blocks) x
  among_all at x stands = let w = block_of at x stands in of_flat (λ (b : Block). b.items) f.blocks w.0 x w.1 (of_get w.0.items at.item x w.2)

  -- the numbers that are lost are those of what is taken out
  taken_of : (k : ℕ) → Contains (lost_in f) k → (place : Pos) × IsTaken f place k
  taken_of k h = by_busy busy refl h where
    by_busy : (z : Bool) → busy ≡ z → Contains (cond z [] (nop_numbers f.blocks)) k → (place : Pos) × IsTaken f place k
    by_busy true e h = none_in k h
    by_busy false e h =
        let b = in_flat (λ (c : Block). numbers_in_items c.items) f.blocks k h in
        let w = in_items b.0.items k b.2 in
        let nop = with_nop w.found.kind k w.number in (
          record { block = b.0.id; item = w.index },
          record { item = w.found; stands = stands_in b.0 b.1 w.index w.found w.at; out = (λ i. not (not (e i) && nop.0 i)); number = nop.1 },
        )

  lost_of_taken : (place : Pos) (k : ℕ) → IsTaken f place k → Contains (lost_in f) k
  lost_of_taken place k t =
      let w = block_of place t.item t.stands in
      let idle : busy ≡ false = out_idle busy (is_nop t.item.kind) t.out in
      let number : nop_number t.item.kind ≡ Some k = nop_with busy t.item.kind k t.out t.number in
      subst (λ (z : Bool). Contains (cond z [] (nop_numbers f.blocks)) k) (sym idle)
      (of_flat (λ (c : Block). numbers_in_items c.items) f.blocks w.0 k w.1 (of_items w.0.items place.item t.item k w.2 number))

  -- what is taken out at a place is what stands there
  taken_is : (at : Pos) (k : ℕ) (x : Item) → StandsAt f at x → (t : IsTaken f at k) → t.item ≡ x
  taken_is at k x stands t = let w : Here t.item ≡ Here x = sym t.stands ∙ stands in cc

  -- its block stays
  block_left : (at : Pos) (x : Item) → StandsAt f at x → Contains (ids_of change.new.blocks) (position_of x.origin).block
  block_left at x stands =
      let w = block_of at x stands in
      let each = All-contains (λ (b : Block). All (λ (i : Item). OriginIn b i.origin) b.items) f.blocks w.0 sound.origins w.1 in
      let inside : OriginIn w.0 x.origin = All-contains (λ (i : Item). OriginIn w.0 i.origin) w.0.items x each (of_get w.0.items at.item x w.2) in
      subst (λ (ns : List ℕ). Contains ns (position_of x.origin).block) (sym (ids_thin (stays busy) f.blocks))
      (subst (Contains (ids_of f.blocks)) (sym (origin_block w.0 x.origin inside)) (of_ids f.blocks w.0 w.1))

  -- and it is code that was removed, and no copy
  removed_at : (at : Pos) (x : Item) → StandsAt f at x → is_code x.kind ≡ true → stays busy x ≡ false → IsRemoved change x.origin
  removed_at at x stands code out =
      let test : Item → Bool = λ i. is_code i.kind && is_origin i.origin x.origin in
      let same = same_origin x.origin in
      let fewer = fewer_left test (stays busy) (items_of f.blocks) x (among_all at x stands) (λ i. code i && same i) out in (
        subst (λ (xs : List Item). count_by test xs < count_by test (items_of f.blocks)) (sym (items_thin (stays busy) f.blocks)) fewer,
        block_left at x stands,
      )

  cause_of : (at : Pos) (k : ℕ) (x : ItemKind) (o : Origin) (l : Loc) → StandsAt f at (item x o l) → stays busy (item x o l) ≡ false →
      code_number x ≡ Some k → HasCause nop_rule change at (number_lost k Removed)
  cause_of at k (Code i None) o l stands out number = cc
  cause_of at k (Code i (Some m)) o l stands out number =
      let w : m ≡ k = cc in
      code_removed stands w (no_copy (row_of i) (out_is busy (is_nop_row (row_of i)) out)) (removed_at at _ stands refl out)
  cause_of at k (Mark v m) o l stands out number = cc
  cause_of at k (Phi p m) o l stands out number = cc

  becomes : (at : Pos) (k : ItemKind) (o : Origin) (l : Loc) → StandsAt f at (item k o l) → (z : Bool) → stays busy (item k o l) ≡ z →
      Becomes nop_rule change at (item k o l) (cond z (item k o l ∷ []) [])
  becomes at (Mark v m) o l stands true stay =
      mark_stays (λ why h. (let e : lost.Mark _ ≡ lost.Number h.0 = ap (λ (x : Loss). x.what) h.2 in cc)) (value_stays change m)
  becomes at (Mark v m) o l stands false out = let bad : false ≡ true = out_is busy false out in cc
  becomes at (Phi p k) o l stands true stay =
      phi_stays (λ why h. (let e : None ≡ Some h.0 = sym (ap (λ (x : Item). code_number x.kind) (taken_is at h.0 _ stands h.1)) ∙ h.1.number in cc))
      (place_stays change p)
  becomes at (Phi p k) o l stands false out = let bad : false ≡ true = out_is busy false out in cc
  becomes at (Code i None) o l stands true stay = code_unnumbered (λ k h. h)
  becomes at (Code i (Some k)) o l stands true stay =
      code_stays (λ why h. (let e : false ≡ true = sym h.1.out ∙ ap (stays busy) (taken_is at h.0 _ stands h.1) ∙ stay in cc))
  becomes at (Code i None) o l stands false out = code_goes (λ k h. h) (inl (removed_at at _ stands refl out).0)
  becomes at (Code i (Some k)) o l stands false out = number_goes k Removed refl refl (k, record { item = _; stands = stands; out = out; number = refl }, refl)

  module _ (b : Block) (member : Contains f.blocks b) where
    become_all : (n : ℕ) (xs : List Item) → ((k : ℕ) (x : Item) → slice_get xs k ≡ Some x → slice_get b.items (n + k) ≡ Some x) →
        BecomeAll nop_rule change b.id n xs (filter (stays busy) xs)
    become_all n [] at = over
    become_all n (x ∷ xs) at = by_test (stays busy x) refl (become_all (suc n) xs later) where
      here : StandsAt f (record { block = b.id; item = n }) x
      here = let z : n + 0 ≡ n = omega arith in stands_in b member n x (sym (ap (slice_get b.items) z) ∙ at 0 x refl)

      later : (k : ℕ) (y : Item) → slice_get xs k ≡ Some y → slice_get b.items (suc n + k) ≡ Some y
      later k y e = let z : n + suc k ≡ suc n + k = omega arith in sym (ap (slice_get b.items) z) ∙ at (suc k) y e

      by_test : (z : Bool) → stays busy x ≡ z → BecomeAll nop_rule change b.id (suc n) xs (filter (stays busy) xs) →
          BecomeAll nop_rule change b.id n (x ∷ xs) (cond z (x ∷ filter (stays busy) xs) (filter (stays busy) xs))
      by_test true e rest = next (becomes _ x.kind x.origin x.loc here true e) rest
      by_test false e rest = next (becomes _ x.kind x.origin x.loc here false e) rest

  none_killed : (b : ℕ) → All (IsKillAt nop_rule change b) []
  none_killed b k d lt = absurd (omega (arith, lt))

  none_added : (losses : List Loss) → All (IsFor change losses) []
  none_added losses k d lt = absurd (omega (arith, lt))

  blocks_become : (bs : List Block) → ((b : Block) → Contains bs b → Contains f.blocks b) → BlocksBecome nop_rule change bs (thinned_blocks busy bs)
  blocks_become [] members = none
  blocks_become (b ∷ bs) members =
      block_stays [] (filter (stays busy) b.items) refl refl refl refl (none_killed b.id)
      (become_all b (members b (at_first b bs)) 0 b.items (λ k x e. (let z : k ≡ 0 + k = omega arith in sym (ap (slice_get b.items) z) ∙ e)))
      (blocks_become bs (λ c h. members c (at_later b bs c h)))

  pub nops_step : (losses : List Loss) → IsInOrder losses →
      ((l : Loss) → Contains losses l ↔ ((k : ℕ) × Contains (lost_in f) k × (l ≡ number_lost k Removed))) → KeepsSteps (nop_step ∷ []) change losses
  nops_step losses ordered each =
      let kept : KeepsItems nop_rule change losses = record {
        blocks = blocks_become f.blocks (λ b h. h);
        subs = ([], sym (append-nil subs), refl, none_added losses);
        said = All-weaker (Contains losses) (IsLoss nop_rule change)
            (λ l h. (let w = (each l).0 h in let t = taken_of w.0 w.1 in inl (t.0, (w.0, t.1, w.2)))) losses (All-contains_itself losses);
        told = λ l h. elim h [ inl w ↦ (each l).1 (w.1.0, lost_of_taken w.0 w.1.0 w.1.1, w.1.2) | inr w ↦ absurd w.3 ];
        ordered = ordered;
        caused = λ at l h. subst (HasCause nop_rule change at) (sym h.2)
            (cause_of at h.0 h.1.item.kind h.1.item.origin h.1.item.loc h.1.stands h.1.out h.1.number);
        left = λ r why h. absurd h;
        spilled = λ r slot h. absurd h;
        renamed = λ r now h. absurd h;
      } in (
        thinned f,
        subs,
        losses,
        [],
        record { sound = sound_thin busy f sound; code = stripped_thinned f; items = kept },
        (refl, refl, refl),
        sym
            (append-nil losses),
      )

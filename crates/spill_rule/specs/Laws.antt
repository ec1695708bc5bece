-- Proofs that a spill step needs for its own trait items. They are here and not in proofs/ since an implementation of a trait names
-- them. Nothing here must be believed.
use Rattle.std.proofs.Common.{◌≡◌, ◌↔◌, ℕ, zero, suc, ◌+◌, List, [], ◌∷◌, ◌++◌}
use Rattle.std.proofs.Common.{map, filter, take, drop, length, Contains, Option, Some, None, Bool, true, false}
use Rattle.std.proofs.Common.{cond, not, ◌&&◌, ◌||◌, nat_eq, nat_lt, refl, sym, ap, ◌∙◌, subst, arith}
use Rattle.std.specs.List.{list_any}
use Rattle.std.proofs.lemmas.List.{map-append}
use Rattle.std.proofs.lemmas.List.Concat.{flat_map-cons}
use Rattle.std.proofs.lemmas.List.Folds.{list_any-append}
use Rattle.rv64_instr.specs.declared.place.Place.{Place}
use Rattle.rv64_instr.specs.declared.place.Place.TheVariants.{Register}
use Rattle.rv64_instr.specs.declared.operand.Operand.{Operand}
use Rattle.rv64_instr.specs.Instruction.{Instruction}
use Rattle.mir_func.specs.declared.debug_substitution.OperandPair.{OperandPair}
use Rattle.mir_func.specs.declared.position.Pos.{Pos}
use Rattle.mir_func.specs.declared.position.Origin.{Origin}
use Rattle.mir_func.specs.declared.position.Origin.TheVariants.{Kept, Before}
use Rattle.mir_func.specs.declared.location.Loc.{Loc}
use Rattle.mir_func.specs.declared.location.Loc.TheVariants.{Absent}
use Rattle.mir_func.specs.declared.block.Block.{Block}
use Rattle.mir_func.specs.declared.item.Item.{Item}
use Rattle.mir_func.specs.declared.item.ItemKind.{ItemKind}
use Rattle.mir_func.specs.declared.item.ItemKind.TheVariants.{Code, Mark, Phi}
use Rattle.mir_func.specs.Function.{Function}
use Rattle.mir_func.specs.Graph.{Program, Fetch, Here, EndOfBlock, Outside, below, block_start, end_of, front, fetch_in, from_block, program_of, FetchEdge}
use Rattle.mir_func.specs.Sound.{items_of}
use Rattle.mir_func.specs.Positions.{position_of}
use Rattle.pass_trait.specs.sem_mir.InitialState.{first_of}
use Rattle.pass_trait.specs.sem_mir.Live.{Live, used, later, Uses, Defines}
use Rattle.pass_trait.specs.declared.loss.Reason.TheVariants.{NoScratch, CallNamed, EntryLoop}
use Rattle.pass_trait.specs.Causes.{names, names_implicitly, is_named, scratch_of}
use Rattle.pass_trait.specs.Code.{HasOneResult, SeesCodeAlone, originless_origin, originless_item, originless_block, originless}
use Rattle.spill_simulation.specs.spill_code.declared.spilling.SlotAssignment.{SlotAssignment}
use Rattle.spill_simulation.specs.spill_code.declared.spilling.Spilling.{Spilling}
use Rattle.spill_simulation.specs.spill_code.Rewrite.{added, load, loads, two_loads, stores, first_used, other_used, first_defined, spilled_code, code_items, kind_items}
use Rattle.spill_simulation.specs.spill_code.Rewrite.{spilled_place, spilled_item, spilled_items, spilled_block, entry_stores, spilled_blocks}
use Rattle.spill_rule.specs.Choice.{is_added, binds, is_bound, goes, is_looped, lacks_scratch}
use Rattle.spill_rule.specs.Choice.{reason_of, is_free, candidates, room, chosen, next_slot, homes_from}
use Rattle.spill_rule.specs.Choice.{homes_of, first_scratch, second_scratch, spilling_of, entry_of, spilled}
use Rattle.spill_rule.specs.Rule.{IsLiveIn, IsSpilled}

-- ---- one result

-- two tests that agree on a list's members filter it to the same list
pub filter_same : (p q : ℕ → Bool) (xs : List ℕ) → ((x : ℕ) → Contains xs x → p x ≡ q x) → filter p xs ≡ filter q xs
filter_same p q [] h = refl
filter_same p q (x ∷ xs) h =
    let here = h x (0, omega arith, refl) in
    let rest = filter_same p q xs (λ y k. h y (suc k.0, (let lt = k.1 in omega (arith, lt)), k.2)) in
    λ i. cond (here i) (x ∷ rest i) (rest i)

filter_homes : (p q : ℕ → Bool) (xs : List SlotAssignment) → ((h : SlotAssignment) → Contains xs h → p h.register ≡ q h.register) →
    filter (λ (h : SlotAssignment). p h.register) xs ≡ filter (λ (h : SlotAssignment). q h.register) xs
filter_homes p q [] h = refl
filter_homes p q (x ∷ xs) h =
    let here = h x (0, omega arith, refl) in
    let rest = filter_homes p q xs (λ y k. h y (suc k.0, (let lt = k.1 in omega (arith, lt)), k.2)) in
    λ i. cond (here i) (x ∷ rest i) (rest i)

from_filter : (p : ℕ → Bool) (xs : List ℕ) (x : ℕ) → Contains (filter p xs) x → Contains xs x
from_filter p [] x k = k
from_filter p (y ∷ ys) x k = by_test (p y) k (λ j. from_filter p ys x j) where
  later : Contains ys x → Contains (y ∷ ys) x
  later (k, lt, e) = (suc k, omega (arith, lt), e)

  by_test : (z : Bool) → Contains (cond z (y ∷ filter p ys) (filter p ys)) x → (Contains (filter p ys) x → Contains ys x) → Contains (y ∷ ys) x
  by_test true (zero, lt, e) more = (0, omega arith, e)
  by_test true (suc k, lt, e) more = later (more (k, omega (arith, lt), e))
  by_test false k more = later (more k)

pub from_take : (n : ℕ) (xs : List ℕ) (x : ℕ) → Contains (take n xs) x → Contains xs x
from_take zero [] x k = k
from_take zero (y ∷ ys) x (k, lt, e) = absurd (omega (arith, lt))
from_take (suc n) [] x k = k
from_take (suc n) (y ∷ ys) x (zero, lt, e) = (0, omega arith, e)
from_take (suc n) (y ∷ ys) x (suc k, lt, e) = let w = from_take n ys x (k, omega (arith, lt), e) in let lt' = w.1 in (suc w.0, omega (arith, lt'), w.2)

from_homes : (n : ℕ) (rs : List ℕ) (h : SlotAssignment) → Contains (homes_from n rs) h → Contains rs h.register
from_homes n [] h (k, lt, e) = absurd (omega (arith, lt))
from_homes n (r ∷ rs) h (zero, lt, e) = (0, omega arith, ap (λ (z : SlotAssignment). z.register) e)
from_homes n (r ∷ rs) h (suc k, lt, e) =
    let w = from_homes (n + 1) rs h (k, omega (arith, lt), e) in let lt' = w.1 in (suc w.0, omega (arith, lt'), w.2)

module _ (reserve : List ℕ) (f : Function) (live live' : ℕ → Bool) (agree : (r : ℕ) → Contains reserve r → live r ≡ live' r) where
  candidates_same : candidates reserve live f ≡ candidates reserve live' f
  candidates_same =
      filter_same (λ r. is_named f r && is_free (reason_of f live r)) (λ r. is_named f r && is_free (reason_of f live' r)) reserve
      (λ r k. (let e = agree r k in
      λ i. is_named f r && is_free (cond (lacks_scratch f) (Some NoScratch) (cond (is_bound f r) (Some CallNamed)
      (cond (e i && is_looped f) (Some EntryLoop) None)))))

  homes_same : homes_of reserve live f ≡ homes_of reserve live' f
  homes_same = ap (λ (rs : List ℕ). homes_from (next_slot f.slots) (take (room f) rs)) candidates_same

  entry_same : entry_of live (homes_of reserve live f) ≡ entry_of live' (homes_of reserve live' f)
  entry_same =
      ap (entry_of live) homes_same ∙
      filter_homes live live' (homes_of reserve live' f) (λ h k. agree h.register
      (from_filter (λ r. is_named f r && is_free (reason_of f live' r)) reserve h.register
      (from_take (room f) (candidates reserve live' f) h.register (from_homes (next_slot f.slots) (chosen reserve live' f) h k))))

  pub spilled_same : spilled reserve live f ≡ spilled reserve live' f
  spilled_same =
      let hs = homes_same in
      let es = entry_same in
      λ i. record f {
        slots = f.slots ++ map (λ (h : SlotAssignment). h.slot) (hs i);
        blocks = spilled_blocks (record { first = first_scratch (scratch_of f); second = second_scratch (scratch_of f); homes = hs i }) (es i) f.blocks;
      }

-- two tests of one property agree
pub agreeing : (P : Type 0) (a b : Bool) → (a ≡ true) ↔ P → (b ≡ true) ↔ P → a ≡ b
agreeing P true true h k = refl
agreeing P true false h k = sym (k.1 (h.0 refl))
agreeing P false true h k = h.1 (k.0 refl)
agreeing P false false h k = refl

-- spilling is functional: two tests of liveness agree on the reserve, so the same registers are chosen
pub one_spilled : (reserve : List ℕ) → HasOneResult (IsSpilled reserve)
one_spilled reserve f g h (live, decides, e) (live', decides', e') =
    e ∙ spilled_same reserve f live live' (λ r k. agreeing (IsLiveIn f r) (live r) (live' r) (decides r k) (decides' r k)) ∙ sym e'

-- ---- liveness doesn't depend on positions

abbrev originless_fetch : Fetch → Fetch
originless_fetch (Here i) = Here (originless_item i)
originless_fetch (EndOfBlock k n) = EndOfBlock 0 n
originless_fetch Outside = Outside

end_originless : (k : ℕ) (bs : List Block) → end_of 0 (map originless_block bs) ≡ originless_fetch (end_of k bs)
end_originless k [] = refl
end_originless k (b ∷ bs) = refl

front_originless : (xs : List Item) (n k : ℕ) (bs : List Block) →
    front (drop n (map originless_item xs)) 0 (map originless_block bs) ≡ originless_fetch (front (drop n xs) k bs)
front_originless [] zero k bs = end_originless k bs
front_originless [] (suc n) k bs = end_originless k bs
front_originless (x ∷ xs) zero k bs = refl
front_originless (x ∷ xs) (suc n) k bs = front_originless xs n k bs

from_originless : (bs : List Block) (n : ℕ) → from_block (map originless_block bs) n ≡ map originless_block (from_block bs n)
from_originless [] n = refl
from_originless (b ∷ bs) n = by_test (nat_eq b.id n) (from_originless bs n) where
  by_test : (z : Bool) → from_block (map originless_block bs) n ≡ map originless_block (from_block bs n) →
      cond z (originless_block b ∷ map originless_block bs) (from_block (map originless_block bs) n) ≡ map originless_block (cond z (b ∷ bs) (from_block bs n))
  by_test true more = refl
  by_test false more = more

fetch_originless : (bs : List Block) (n : ℕ) → fetch_in (map originless_block bs) n ≡ originless_fetch (fetch_in bs n)
fetch_originless [] n = refl
fetch_originless (b ∷ bs) n = front_originless b.items n b.source_end bs

module _ (blocks : List Block) (resolve : OperandPair → Option OperandPair) where
  abbrev with_places : Program
  with_places = program_of false blocks resolve

  abbrev without : Program
  without = program_of false (map originless_block blocks) resolve

  at : (p : Pos) → without.fetch p ≡ originless_fetch (with_places.fetch p)
  at p = ap (λ (bs : List Block). fetch_in bs p.item) (from_originless blocks p.block) ∙ fetch_originless (from_block blocks p.block) p.item

  uses_to : (x : Fetch) (y : Place) → Uses x y → Uses (originless_fetch x) y
  uses_to (Here i) y h = h
  uses_to (EndOfBlock k n) y h = h
  uses_to Outside y h = h

  uses_from : (x : Fetch) (y : Place) → Uses (originless_fetch x) y → Uses x y
  uses_from (Here i) y h = h
  uses_from (EndOfBlock k n) y h = h
  uses_from Outside y h = h

  defines_to : (x : Fetch) (y : Place) → Defines x y → Defines (originless_fetch x) y
  defines_to (Here i) y h = h
  defines_to (EndOfBlock k n) y h = h
  defines_to Outside y h = h

  defines_from : (x : Fetch) (y : Place) → Defines (originless_fetch x) y → Defines x y
  defines_from (Here i) y h = h
  defines_from (EndOfBlock k n) y h = h
  defines_from Outside y h = h

  edge_to : (x : Fetch) (p q : Pos) → FetchEdge (λ n. n) x p q → FetchEdge (λ n. n) (originless_fetch x) p q
  edge_to (Here i) p q h = h
  edge_to (EndOfBlock k n) p q h = h
  edge_to Outside p q h = h

  edge_from : (x : Fetch) (p q : Pos) → FetchEdge (λ n. n) (originless_fetch x) p q → FetchEdge (λ n. n) x p q
  edge_from (Here i) p q h = h
  edge_from (EndOfBlock k n) p q h = h
  edge_from Outside p q h = h

  pub live_to : (x : Place) {p : Pos} → Live with_places x p → Live without x p
  live_to x {p = p} (used h) = used (subst (λ (z : Fetch). Uses z x) (sym (at p)) (uses_to (with_places.fetch p) x h))
  live_to x {p = p} (later {q = q} none edge more) = later
      (λ d. none (defines_from (with_places.fetch p) x (subst (λ (z : Fetch). Defines z x) (at p) d)))
      (subst (λ (z : Fetch). FetchEdge (λ n. n) z p q) (sym (at p)) (edge_to (with_places.fetch p) p q edge)) (live_to x more)

  pub live_from : (x : Place) {p : Pos} → Live without x p → Live with_places x p
  live_from x {p = p} (used h) = used (uses_from (with_places.fetch p) x (subst (λ (z : Fetch). Uses z x) (at p) h))
  live_from x {p = p} (later {q = q} none edge more) = later
      (λ d. none (subst (λ (z : Fetch). Defines z x) (sym (at p)) (defines_to (with_places.fetch p) x d)))
      (edge_from (with_places.fetch p) p q (subst (λ (z : Fetch). FetchEdge (λ n. n) z p q) (at p) edge)) (live_from x more)

first_originless : (bs : List Block) → first_of (map originless_block bs) ≡ first_of bs
first_originless [] = refl
first_originless (b ∷ bs) = refl

live_in_to : (f : Function) (r : ℕ) → IsLiveIn f r → IsLiveIn (originless f) r
live_in_to f r h =
    subst (λ (n : ℕ). Live (program_of false (originless f).blocks (λ q. None)) (Register r) (block_start n)) (sym (first_originless f.blocks))
    (live_to f.blocks (λ q. None) (Register r) h)

live_in_from : (f : Function) (r : ℕ) → IsLiveIn (originless f) r → IsLiveIn f r
live_in_from f r h =
    live_from f.blocks (λ q. None) (Register r)
    (subst (λ (n : ℕ). Live (program_of false (originless f).blocks (λ q. None)) (Register r) (block_start n)) (first_originless f.blocks) h)

-- ---- nor does the choice

any_originless_in : (test : Item → Bool) → ((i : Item) → test (originless_item i) ≡ test i) → (xs : List Item) →
    list_any test (map originless_item xs) ≡ list_any test xs
any_originless_in test same [] = refl
any_originless_in test same (x ∷ xs) = let e = same x in let es = any_originless_in test same xs in λ i. e i || es i

pub any_originless : (test : Item → Bool) → ((i : Item) → test (originless_item i) ≡ test i) → (bs : List Block) →
    list_any test (items_of (map originless_block bs)) ≡ list_any test (items_of bs)
any_originless test same [] = refl
any_originless test same (b ∷ bs) =
    let e = any_originless_in test same b.items in
    let es = any_originless test same bs in
    ap (list_any test) (flat_map-cons (λ (c : Block). c.items) (originless_block b) (map originless_block bs)) ∙
    list_any-append test (map originless_item b.items) (items_of (map originless_block bs)) ∙ (λ i. e i || es i) ∙
    sym (list_any-append test b.items (items_of bs)) ∙ ap (list_any test) (sym (flat_map-cons (λ (c : Block). c.items) b bs))

pub added_originless : (o : Origin) → is_added (originless_origin o) ≡ is_added o
added_originless (Kept p) = refl
added_originless (Before p) = refl

module _ (f : Function) where
  pub named_same : (r : ℕ) → is_named (originless f) r ≡ is_named f r
  named_same r = any_originless (λ i. names r i.kind) (λ i. refl) f.blocks

  bound_same : (r : ℕ) → is_bound (originless f) r ≡ is_bound f r
  bound_same r = any_originless (binds r) (λ i. (let e = added_originless i.origin in λ j. names_implicitly r i.kind || (names r i.kind && e j))) f.blocks

  looped_same : is_looped (originless f) ≡ is_looped f
  looped_same =
      ap (λ (n : ℕ). list_any (λ (i : Item). goes n i.kind) (items_of (originless f).blocks)) (first_originless f.blocks) ∙
      any_originless (λ i. goes (first_of f.blocks) i.kind) (λ i. refl) f.blocks

  pub scratch_same : scratch_of (originless f) ≡ scratch_of f
  scratch_same i = take 2 (filter (λ (r : ℕ). not (named_same r i)) (5 ∷ 6 ∷ 7 ∷ 28 ∷ 29 ∷ 30 ∷ 31 ∷ []))

  module _ (reserve : List ℕ) (live : ℕ → Bool) where
    candidates_originless : candidates reserve live (originless f) ≡ candidates reserve live f
    candidates_originless i =
        filter (λ (r : ℕ). named_same r i && is_free (cond (nat_lt (length (scratch_same i)) 2) (Some NoScratch) (cond (bound_same r i) (Some CallNamed)
        (cond (live r && looped_same i) (Some EntryLoop) None)))) reserve

    homes_originless : homes_of reserve live (originless f) ≡ homes_of reserve live f
    homes_originless i = homes_from (next_slot f.slots) (take (room f) (candidates_originless i))

    spilling_originless : spilling_of reserve live (originless f) ≡ spilling_of reserve live f
    spilling_originless i = record {
      first = first_scratch (scratch_same i);
      second = second_scratch (scratch_same i);
      homes = homes_originless i;
    }

-- ---- nor does the spilled code

module _ (s : Spilling) where
  loads_originless : (p q : Pos) (r : ℕ) (z : Option ℕ) → map originless_item (loads p r z) ≡ map originless_item (loads q r z)
  loads_originless p q r None = refl
  loads_originless p q r (Some n) = refl

  two_originless : (p q : Pos) (os : List Operand) (z : Option ℕ) → map originless_item (two_loads s p os z) ≡ map originless_item (two_loads s q os z)
  two_originless p q os None = refl
  two_originless p q os (Some n) =
      ap (λ (xs : List Item). originless_item (added p (load s.first n)) ∷ xs) (loads_originless p q s.second (other_used s.homes n os))

  stores_originless : (p q : Pos) (r : ℕ) (z : Option ℕ) → map originless_item (stores p r z) ≡ map originless_item (stores q r z)
  stores_originless p q r None = refl
  stores_originless p q r (Some n) = refl

  twice_originless : (o : Origin) → originless_origin (originless_origin o) ≡ originless_origin o
  twice_originless (Kept p) = refl
  twice_originless (Before p) = refl

  code_originless : (i : Instruction) (k : Option ℕ) (o o' : Origin) (l l' : Loc) → originless_origin o ≡ originless_origin o' →
      map originless_item (code_items s i k o l) ≡ map originless_item (code_items s i k o' l')
  code_originless i k o o' l l' e =
      map-append originless_item (two_loads s (position_of o) i.operands (first_used s.homes i.operands)) _ ∙
      (λ j. two_originless (position_of o) (position_of o') i.operands (first_used s.homes i.operands) j ++
      (record { kind = Code (spilled_code s i) k; origin = e j; loc = Absent } ∷
      stores_originless (below (position_of o)) (below (position_of o')) s.first (first_defined s.homes i.operands) j)) ∙
      sym (map-append originless_item (two_loads s (position_of o') i.operands (first_used s.homes i.operands)) _)

  item_originless : (x : Item) → map originless_item (spilled_item s (originless_item x)) ≡ map originless_item (spilled_item s x)
  item_originless x = by_kind x.kind where
    by_kind : (k : ItemKind) → map originless_item (kind_items s k (originless_origin x.origin) Absent) ≡ map originless_item (kind_items s k x.origin x.loc)
    by_kind (Code i n) = code_originless i n (originless_origin x.origin) x.origin Absent x.loc (twice_originless x.origin)
    by_kind (Mark v m) = ap (λ (o : Origin). record { kind = Mark v m; origin = o; loc = Absent } ∷ []) (twice_originless x.origin)
    by_kind (Phi p n) = ap (λ (o : Origin). record { kind = Phi (spilled_place s.homes p) n; origin = o; loc = Absent } ∷ []) (twice_originless x.origin)

  items_originless : (xs : List Item) → map originless_item (spilled_items s (map originless_item xs)) ≡ map originless_item (spilled_items s xs)
  items_originless [] = refl
  items_originless (x ∷ xs) =
      let e = item_originless x in
      let es = items_originless xs in
      ap (map originless_item) (flat_map-cons (spilled_item s) (originless_item x) (map originless_item xs)) ∙
      map-append originless_item (spilled_item s (originless_item x)) (spilled_items s (map originless_item xs)) ∙ (λ i. e i ++ es i) ∙
      sym (map-append originless_item (spilled_item s x) (spilled_items s xs)) ∙ ap (map originless_item) (sym (flat_map-cons (spilled_item s) x xs))

  others_originless : (bs : List Block) →
      map originless_block (map (spilled_block s) (map originless_block bs)) ≡ map originless_block (map (spilled_block s) bs)
  others_originless [] = refl
  others_originless (b ∷ bs) =
      let e = items_originless b.items in
      let es = others_originless bs in
      λ i. record { id = b.id; items = e i; source_end = 0 } ∷ es i

  pub blocks_originless : (entry : List SlotAssignment) (bs : List Block) →
      map originless_block (spilled_blocks s entry (map originless_block bs)) ≡ map originless_block (spilled_blocks s entry bs)
  blocks_originless entry [] = refl
  blocks_originless entry (b ∷ bs) =
      let e = items_originless b.items in
      let es = others_originless bs in
      let is : map originless_item (entry_stores b.id entry ++ spilled_items s (map originless_item b.items)) ≡
      map originless_item (entry_stores b.id entry ++ spilled_items s b.items) =
      map-append originless_item (entry_stores b.id entry) (spilled_items s (map originless_item b.items)) ∙
      ap (λ (xs : List Item). map originless_item (entry_stores b.id entry) ++ xs) e ∙
      sym (map-append originless_item (entry_stores b.id entry) (spilled_items s b.items)) in
      λ i. record { id = b.id; items = is i; source_end = 0 } ∷ es i

spilled_originless : (reserve : List ℕ) (live : ℕ → Bool) (f : Function) →
    originless (spilled reserve live (originless f)) ≡ originless (spilled reserve live f)
spilled_originless reserve live f =
    let hs = homes_originless f reserve live in
    let ss = spilling_originless f reserve live in
    let first : originless (spilled reserve live (originless f)) ≡ originless (record f {
      slots = f.slots ++ map (λ (h : SlotAssignment). h.slot) (homes_of reserve live f);
      blocks = spilled_blocks (spilling_of reserve live f) (entry_of live (homes_of reserve live f)) (map originless_block f.blocks);
    }) = λ i. record f {
      slots = f.slots ++ map (λ (h : SlotAssignment). h.slot) (hs i);
      blocks = map originless_block (spilled_blocks (ss i) (entry_of live (hs i)) (map originless_block f.blocks));
    } in
    first ∙ (λ i. record f {
      slots = f.slots ++ map (λ (h : SlotAssignment). h.slot) (homes_of reserve live f);
      blocks = blocks_originless (spilling_of reserve live f) (entry_of live (homes_of reserve live f)) f.blocks i;
    })

-- the rule doesn't depend on positions
pub same_spilled : (reserve : List ℕ) → SeesCodeAlone (IsSpilled reserve)
same_spilled reserve f f' g g' alike (live, decides, e) (live', decides', e') =
    ap originless e ∙ sym (spilled_originless reserve live f) ∙ ap originless (spilled_same reserve (originless f) live live' agree) ∙
    ap (λ (h : Function). originless (spilled reserve live' h)) alike ∙ spilled_originless reserve live' f' ∙ sym (ap originless e') where
      to : (r : ℕ) → IsLiveIn f r → IsLiveIn f' r
      to r h = live_in_from f' r (subst (λ (z : Function). IsLiveIn z r) alike (live_in_to f r h))

      back : (r : ℕ) → IsLiveIn f' r → IsLiveIn f r
      back r h = live_in_from f r (subst (λ (z : Function). IsLiveIn z r) (sym alike) (live_in_to f' r h))

      agree : (r : ℕ) → Contains reserve r → live r ≡ live' r
      agree r k = agreeing (IsLiveIn f r) (live r) (live' r) (decides r k)
          (λ t. back r ((decides' r k).0 t), λ h. (decides' r k).1 (to r h))

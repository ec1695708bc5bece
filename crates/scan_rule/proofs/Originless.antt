-- The rule doesn't depend on positions.
use Rattle.std.proofs.Common.{◌≡◌, ℕ, ◌+◌, List, [], ◌∷◌, ◌++◌, map, length, Option, None, Bool, false, ◌&&◌, ◌||◌, nat_lt, refl, sym, ap}
use Rattle.std.proofs.Common.{◌∙◌, subst}
use Rattle.rv64_instr.specs.declared.place.Place.{Place}
use Rattle.rv64_instr.specs.declared.place.Place.TheVariants.{Register}
use Rattle.rv64_instr.specs.Instruction.{Instruction}
use Rattle.mir_func.specs.declared.block.Block.{Block}
use Rattle.mir_func.specs.declared.item.Item.{Item}
use Rattle.mir_func.specs.declared.location.Loc.TheVariants.{Absent}
use Rattle.mir_func.specs.Exits.{exit_of}
use Rattle.mir_func.specs.Function.{Function}
use Rattle.scan_allocation.specs.pass_liveness.Walk.{live_before, live_across, live_from}
use Rattle.scan_allocation.specs.pass_trait.Code.{originless_origin, originless_item, originless_block, originless}
use Rattle.scan_allocation.specs.spill_rule.Choice.{is_added}
use Rattle.scan_allocation.specs.spill_rule.Laws.{any_originless, added_originless, live_to, live_from as live_back, scratch_same}
use Rattle.scan_allocation.specs.scan_intervals.Liveness.{Decides, at_starts}
use Rattle.scan_allocation.specs.scan_intervals.Points.{CodePoint, next_of, with_point, points_in, points_of}
use Rattle.scan_allocation.specs.scan_intervals.Intervals.{AreIntervals, is_clear}
use Rattle.scan_allocation.specs.declared.assignment.RegisterAssignment.{RegisterAssignment}
use Rattle.scan_allocation.specs.Walk.{order_without, walk}
use Rattle.scan_allocation.specs.Allocation.{names_virtual, adds_virtual, is_crowded, stays, assignments_of, given_unless, IsAllocation}
use Rattle.scan_rule.specs.Laws.{AllotmentSeesCodeAlone}
use Rattle.scan_rule.specs.Rewrite.{kind_now, items_now, blocks_now, allotted}
use Rattle.scan_rule.specs.Rule.{nowhere}
use Rattle.scan_rule.proofs.Same.{one_allocation}

-- ---- points

live_originless : (starts : ℕ → Place → Bool) (xs : List Item) (next : Option ℕ) (x : Place) →
    live_from starts (map originless_item xs) next x ≡ live_from starts xs next x
live_originless starts [] next x = refl
live_originless starts (i ∷ is) next x =
    ap (λ (z : Bool). live_before i.kind (live_across starts (exit_of i.kind) z x) x) (live_originless starts is next x)

points_originless_in : (starts : ℕ → Place → Bool) (xs : List Item) (next : Option ℕ) → points_in starts (map originless_item xs) next ≡ points_in starts xs next
points_originless_in starts [] next = refl
points_originless_in starts (i ∷ is) next =
    let rest = points_originless_in starts is next in
    λ t. with_point i.kind (λ (code : Instruction). record {
      code = code;
      before = λ r. live_before i.kind (live_across starts (exit_of i.kind) (live_originless starts is next (Register r) t) (Register r)) (Register r);
      after = λ r. live_across starts (exit_of i.kind) (live_originless starts is next (Register r) t) (Register r);
    }) (rest t)

next_originless : (bs : List Block) → next_of (map originless_block bs) ≡ next_of bs
next_originless [] = refl
next_originless (b ∷ bs) = refl

pub points_originless : (starts : ℕ → Place → Bool) (bs : List Block) → points_of starts (map originless_block bs) ≡ points_of starts bs
points_originless starts [] = refl
points_originless starts (b ∷ bs) =
    let here : points_in starts (map originless_item b.items) (next_of (map originless_block bs)) ≡ points_in starts b.items (next_of bs) =
    ap (points_in starts (map originless_item b.items)) (next_originless bs) ∙ points_originless_in starts b.items (next_of bs) in
    let rest = points_originless starts bs in
    λ t. here t ++ rest t

-- ---- the allocation

pub decides_originless : (f : Function) (live : ℕ → ℕ → Bool) → Decides f live → Decides (originless f) live
decides_originless f live decides n r = (
  λ t. live_to f.blocks (λ q. None) (Register r) ((decides n r).0 t),
  λ l. (decides n r).1 (live_back f.blocks (λ q. None) (Register r) l),
)

pub adds_same : (f : Function) → adds_virtual (originless f) ≡ adds_virtual f
adds_same f = any_originless (λ i. is_added i.origin && names_virtual i.kind)
    (λ i. (let e = added_originless i.origin in λ t. e t && names_virtual i.kind)) f.blocks

pub allocation_originless : (reserve : List ℕ) (f : Function) (given : ℕ → Option ℕ) → IsAllocation reserve f given → IsAllocation reserve (originless f) given
allocation_originless reserve f given a = record {
  live = a.live;
  decides = decides_originless f a.live a.decides;
  intervals = a.intervals;
  are = subst (λ (ps : List CodePoint). AreIntervals ps a.intervals) (sym points) a.are;
  is = a.is ∙ sym given_same;
} where
  points : points_of (at_starts a.live) (map originless_block f.blocks) ≡ points_of (at_starts a.live) f.blocks
  points = points_originless (at_starts a.live) f.blocks

  assigned : assignments_of reserve (points_of (at_starts a.live) (map originless_block f.blocks)) a.intervals (originless f) ≡
      assignments_of reserve (points_of (at_starts a.live) f.blocks) a.intervals f
  assigned t = walk (is_clear (points t)) (order_without reserve (scratch_same f t)) (λ r. 0) a.intervals

  staying : (xs : List RegisterAssignment) → stays (originless f) xs ≡ stays f xs
  staying xs t = nat_lt (length (scratch_same f t)) 2 || (adds_same f t || is_crowded f xs)

  given_same : given_unless (stays (originless f) (assignments_of reserve (points_of (at_starts a.live) (map originless_block f.blocks)) a.intervals (originless f)))
      (assignments_of reserve (points_of (at_starts a.live) (map originless_block f.blocks)) a.intervals (originless f)) ≡
      given_unless (stays f (assignments_of reserve (points_of (at_starts a.live) f.blocks) a.intervals f))
      (assignments_of reserve (points_of (at_starts a.live) f.blocks) a.intervals f)
  given_same =
      ap (λ (xs : List RegisterAssignment). given_unless (stays (originless f) xs) xs) assigned ∙
      ap (λ (z : Bool). given_unless z (assignments_of reserve (points_of (at_starts a.live) f.blocks) a.intervals f))
      (staying (assignments_of reserve (points_of (at_starts a.live) f.blocks) a.intervals f))

-- ---- the rewritten code

items_originless : (given : ℕ → Option ℕ) (b n : ℕ) (xs : List Item) →
    map originless_item (items_now given nowhere b n xs) ≡ items_now given nowhere b n (map originless_item xs)
items_originless given b n [] = refl
items_originless given b n (x ∷ xs) =
    ap (λ (ys : List Item). record { kind = kind_now given (λ r. false) x.kind; origin = originless_origin x.origin; loc = Absent } ∷ ys)
    (items_originless given b (n + 1) xs)

blocks_originless : (given : ℕ → Option ℕ) (bs : List Block) →
    map originless_block (blocks_now given nowhere bs) ≡ blocks_now given nowhere (map originless_block bs)
blocks_originless given [] = refl
blocks_originless given (b ∷ bs) =
    let e = items_originless given b.id 0 b.items in
    let es = blocks_originless given bs in
    λ t. record { id = b.id; items = e t; source_end = 0 } ∷ es t

allotted_originless : (given : ℕ → Option ℕ) (f : Function) → originless (allotted given nowhere f) ≡ allotted given nowhere (originless f)
allotted_originless given f = let e = blocks_originless given f.blocks in λ t. record f { blocks = e t }

pub allotment_sees_code_alone : AllotmentSeesCodeAlone
allotment_sees_code_alone reserve f f' g g' alike (given, a, e) (given', b, e') =
    let there : IsAllocation reserve (originless f') given = subst (λ (h : Function). IsAllocation reserve h given) alike (allocation_originless reserve f given a) in
    let same : given ≡ given' = one_allocation reserve (originless f') given given' there (allocation_originless reserve f' given' b) in
    ap originless e ∙ allotted_originless given f ∙ (λ t. allotted (same t) nowhere (alike t)) ∙ sym (allotted_originless given' f') ∙ sym (ap originless e')

-- Stripping debug items commutes with the rule.
use Rattle.std.proofs.Common.{◌≡◌, ℕ, ◌+◌, List, [], ◌∷◌, ◌++◌, length, Option, None, Bool, false, ◌&&◌, ◌||◌, nat_lt, refl}
use Rattle.std.proofs.Common.{sym, ap, ◌∙◌, subst}
use Rattle.std.specs.List.{cons_option}
use Rattle.rv64_instr.specs.declared.place.Place.{Place}
use Rattle.rv64_instr.specs.declared.place.Place.TheVariants.{Register}
use Rattle.mir_func.specs.declared.block.Block.{Block}
use Rattle.mir_func.specs.declared.item.Item.{Item}
use Rattle.mir_func.specs.declared.item.ItemKind.{ItemKind}
use Rattle.mir_func.specs.declared.item.ItemKind.TheVariants.{Code, Mark, Phi}
use Rattle.mir_func.specs.declared.location.Loc.{Loc}
use Rattle.mir_func.specs.declared.position.Origin.{Origin}
use Rattle.mir_func.specs.declared.position.Pos.{Pos}
use Rattle.mir_func.specs.Exits.{exit_of}
use Rattle.mir_func.specs.Function.{Function}
use Rattle.mir_func.specs.Strip.{bare, stripped_items, stripped_blocks, stripped}
use Rattle.scan_allocation.specs.pass_liveness.Walk.{live_before, live_across, live_from}
use Rattle.scan_allocation.proofs.pass_liveness.Places.{and_false}
use Rattle.scan_allocation.proofs.pass_liveness.Stripped.{live_stripped}
use Rattle.scan_allocation.specs.pass_trait.Rule.{item}
use Rattle.scan_allocation.specs.spill_rule.Choice.{is_added}
use Rattle.spill_proof.proofs.Bare.{IsDebug, any_blocks, scratch_bare}
use Rattle.scan_allocation.specs.scan_intervals.Liveness.{Decides, at_starts}
use Rattle.scan_allocation.specs.scan_intervals.Points.{CodePoint, next_of, points_in, points_of}
use Rattle.scan_allocation.specs.scan_intervals.Intervals.{AreIntervals, is_clear}
use Rattle.scan_allocation.specs.declared.assignment.RegisterAssignment.{RegisterAssignment}
use Rattle.scan_allocation.specs.Walk.{order_without, walk}
use Rattle.scan_allocation.specs.Allocation.{names_virtual, adds_virtual, is_crowded, stays, assignments_of, given_unless, IsAllocation}
use Rattle.scan_rule.specs.Laws.{AllottedIsStripped}
use Rattle.scan_rule.specs.Rewrite.{kind_now, items_now, blocks_now}
use Rattle.scan_rule.specs.Rule.{nowhere}

-- ---- points

module _ (starts : ℕ → Place → Bool) (next : Option ℕ) where
  live_kind : (k : ItemKind) (o : Origin) (l : Loc) (xs : List Item) (x : Place) → live_from starts (stripped_items xs) next x ≡ live_from starts xs next x →
      live_from starts (cons_option (bare k o l) (stripped_items xs)) next x ≡ live_before k (live_across starts (exit_of k) (live_from starts xs next x) x) x
  live_kind (Code i n) o l xs x e = ap (λ (z : Bool). live_before (Code i n) (live_across starts (exit_of (Code i n)) z x) x) e
  live_kind (Mark v m) o l xs x e = e
  live_kind (Phi q n) o l xs x e = e

  live_bare : (xs : List Item) (x : Place) → live_from starts (stripped_items xs) next x ≡ live_from starts xs next x
  live_bare [] x = refl
  live_bare (i ∷ is) x = live_kind i.kind i.origin i.loc is x (live_bare is x)

  points_kind : (k : ItemKind) (o : Origin) (l : Loc) (xs : List Item) → points_in starts (stripped_items xs) next ≡ points_in starts xs next →
      points_in starts (cons_option (bare k o l) (stripped_items xs)) next ≡ points_in starts (item k o l ∷ xs) next
  points_kind (Code i n) o l xs e = λ t. record {
    code = i;
    before = λ r. live_before (Code i n) (live_across starts (exit_of (Code i n)) (live_bare xs (Register r) t) (Register r)) (Register r);
    after = λ r. live_across starts (exit_of (Code i n)) (live_bare xs (Register r) t) (Register r);
  } ∷ e t
  points_kind (Mark v m) o l xs e = e
  points_kind (Phi q n) o l xs e = e

  points_bare_in : (xs : List Item) → points_in starts (stripped_items xs) next ≡ points_in starts xs next
  points_bare_in [] = refl
  points_bare_in (i ∷ is) = points_kind i.kind i.origin i.loc is (points_bare_in is)

next_bare : (bs : List Block) → next_of (stripped_blocks bs) ≡ next_of bs
next_bare [] = refl
next_bare (b ∷ bs) = refl

pub points_bare : (starts : ℕ → Place → Bool) (bs : List Block) → points_of starts (stripped_blocks bs) ≡ points_of starts bs
points_bare starts [] = refl
points_bare starts (b ∷ bs) =
    let here : points_in starts (stripped_items b.items) (next_of (stripped_blocks bs)) ≡ points_in starts b.items (next_of bs) =
    ap (points_in starts (stripped_items b.items)) (next_bare bs) ∙ points_bare_in starts (next_of bs) b.items in
    let rest = points_bare starts bs in
    λ t. here t ++ rest t

-- ---- the allocation

pub decides_bare : (f : Function) (live : ℕ → ℕ → Bool) → Decides f live → Decides (stripped f) live
decides_bare f live decides n r =
    let h = live_stripped false false f.blocks (λ q. None) (λ q. None) (Register r) n in
    (λ t. h.0 ((decides n r).0 t), λ l. (decides n r).1 (h.1 l))

no_names : (k : ItemKind) (o : Origin) → IsDebug k → (is_added o && names_virtual k) ≡ false
no_names (Code i n) o h = absurd h
no_names (Mark v m) o h = and_false (is_added o)
no_names (Phi q n) o h = and_false (is_added o)

pub adds_bare : (f : Function) → adds_virtual (stripped f) ≡ adds_virtual f
adds_bare f = any_blocks (λ k o. is_added o && names_virtual k) (record { code = λ i k o. refl; debug = no_names }) f.blocks

pub allocation_bare : (reserve : List ℕ) (f : Function) (given : ℕ → Option ℕ) → IsAllocation reserve f given → IsAllocation reserve (stripped f) given
allocation_bare reserve f given a = record {
  live = a.live;
  decides = decides_bare f a.live a.decides;
  intervals = a.intervals;
  are = subst (λ (ps : List CodePoint). AreIntervals ps a.intervals) (sym points) a.are;
  is = a.is ∙ sym given_same;
} where
  points : points_of (at_starts a.live) (stripped_blocks f.blocks) ≡ points_of (at_starts a.live) f.blocks
  points = points_bare (at_starts a.live) f.blocks

  assigned : assignments_of reserve (points_of (at_starts a.live) (stripped_blocks f.blocks)) a.intervals (stripped f) ≡
      assignments_of reserve (points_of (at_starts a.live) f.blocks) a.intervals f
  assigned t = walk (is_clear (points t)) (order_without reserve (scratch_bare f t)) (λ r. 0) a.intervals

  staying : (xs : List RegisterAssignment) → stays (stripped f) xs ≡ stays f xs
  staying xs t = nat_lt (length (scratch_bare f t)) 2 || (adds_bare f t || is_crowded f xs)

  given_same : given_unless (stays (stripped f) (assignments_of reserve (points_of (at_starts a.live) (stripped_blocks f.blocks)) a.intervals (stripped f)))
      (assignments_of reserve (points_of (at_starts a.live) (stripped_blocks f.blocks)) a.intervals (stripped f)) ≡
      given_unless (stays f (assignments_of reserve (points_of (at_starts a.live) f.blocks) a.intervals f))
      (assignments_of reserve (points_of (at_starts a.live) f.blocks) a.intervals f)
  given_same =
      ap (λ (xs : List RegisterAssignment). given_unless (stays (stripped f) xs) xs) assigned ∙
      ap (λ (z : Bool). given_unless z (assignments_of reserve (points_of (at_starts a.live) f.blocks) a.intervals f))
      (staying (assignments_of reserve (points_of (at_starts a.live) f.blocks) a.intervals f))

-- ---- the rewritten code

module _ (given : ℕ → Option ℕ) (silent : Pos → ℕ → Bool) where
  -- positions don't matter to code alone
  items_kind : (k : ItemKind) (o : Origin) (l : Loc) (b n m : ℕ) (xs : List Item) →
      stripped_items (items_now given silent b (n + 1) xs) ≡ items_now given nowhere b (m + 1) (stripped_items xs) →
      ((j : ℕ) → stripped_items (items_now given silent b (n + 1) xs) ≡ items_now given nowhere b j (stripped_items xs)) →
      cons_option (bare (kind_now given (silent (record { block = b; item = n })) k) o l) (stripped_items (items_now given silent b (n + 1) xs)) ≡
      items_now given nowhere b m (cons_option (bare k o l) (stripped_items xs))
  items_kind (Code i c) o l b n m xs e any =
      ap (λ (ys : List Item). record { kind = kind_now given (λ r. false) (Code i None); origin = o; loc = l } ∷ ys) e
  items_kind (Mark v w) o l b n m xs e any = any m
  items_kind (Phi q c) o l b n m xs e any = any m

  items_bare : (b n m : ℕ) (xs : List Item) → stripped_items (items_now given silent b n xs) ≡ items_now given nowhere b m (stripped_items xs)
  items_bare b n m [] = refl
  items_bare b n m (x ∷ xs) =
      items_kind x.kind x.origin x.loc b n m xs (items_bare b (n + 1) (m + 1) xs) (λ j. items_bare b (n + 1) j xs)

  blocks_bare : (bs : List Block) → stripped_blocks (blocks_now given silent bs) ≡ blocks_now given nowhere (stripped_blocks bs)
  blocks_bare [] = refl
  blocks_bare (b ∷ bs) =
      let e = items_bare b.id 0 0 b.items in
      let es = blocks_bare bs in
      λ t. record { id = b.id; items = e t; source_end = b.source_end } ∷ es t

pub allotted_is_stripped : AllottedIsStripped
allotted_is_stripped reserve f given silent a =
    (given, allocation_bare reserve f given a, (let e = blocks_bare given silent f.blocks in λ t. record (stripped f) { blocks = e t }))

-- The walk goes on past an item: what it knows before the item tells what holds below it.
use Rattle.std.proofs.Common.{◌≡◌, ℕ, zero, suc, ◌+◌, ◌<◌, List, [], ◌∷◌, ◌++◌, map, length, drop, arith, refl, sym, ◌∙◌, ap, subst, inr, true, false}
use Rattle.std.specs.Prelude.{ℤ, Option, Some, None, IsSome, slice_get, slice_index, slice_index_or}
use Rattle.rv64_instr.specs.Row.{Row, Branches, Jumps, Returns, Unfit, row_of}
use Rattle.mir_func.specs.declared.block.Block.{Block}
use Rattle.mir_func.specs.declared.debug_substitution.OperandPair.{OperandPair}
use Rattle.mir_func.specs.declared.item.Item.{Item}
use Rattle.mir_func.specs.declared.item.ItemKind.{ItemKind}
use Rattle.mir_func.specs.declared.item.ItemKind.TheVariants.{Code, Mark, Phi}
use Rattle.mir_func.specs.declared.position.Pos.{Pos}
use Rattle.mir_func.specs.Exits.{exit_of, row_exit}
use Rattle.mir_func.specs.Graph.{Program, Fetch, Here, below, block_start, front, fetch_in, FetchEdge, KindEdge, RowEdge}
use Rattle.mir_func.specs.Resolve.{resolve}
use Rattle.mir_func.specs.Successors.{pos_in}
use Rattle.value_tracker.specs.sem_value_ids.Pullback.{Tracked, OfNumber, Was, back}
use Rattle.value_tracker.specs.value_solver.declared.tracked.Tracked.{Tracked as Thing}
use Rattle.rv64_instr.specs.Arithmetic.{word}
use Rattle.value_tracker.specs.value_solver.declared.entry.BlockEntry.{BlockEntry}
use Rattle.value_tracker.specs.value_solver.Entry.{thing, IsEntry}
use Rattle.value_tracker.specs.value_proof.Classes.{Classes, IsReached, AreClasses, AreFresh, class_back, pairs_of}
use Rattle.value_tracker.specs.value_proof.PreferredByClass.{pairs_at, known_before}
use Rattle.value_tracker.proofs.value_proof.Pairs.{adds_before}
use Rattle.value_tracker.proofs.value_proof.Passing.{classes_fewer, classes_pass_items, paths_come_from_above}
use Rattle.value_tracker.specs.declared.index.TrackedIndex.{TrackedIndex}
use Rattle.value_tracker.specs.Things.{Settle, settled_at}
use Rattle.value_tracker.specs.LocationTracker.{Holds, Passes}
use Rattle.value_tracker.specs.Start.{ConstantsNow}
use Rattle.value_tracker.proofs.Entering.{entries_give_classes}
use Rattle.value_tracker.proofs.Items.{held_fewer}
use Rattle.location_ranges.specs.declared.values.Values.{Values}
use Rattle.location_ranges.specs.declared.transfer_tracker.TransferTracker.{TransferTracker}
use Rattle.location_ranges.specs.Stands.{program, AreValuesOf, Stands, Falls, IsBlockAt}

-- ---- what stands at a position

front_at : (items : List Item) (k source_end : ℕ) (bs : List Block) (i : Item) → slice_get items k ≡ Some i → front (drop k items) source_end bs ≡ Here i
front_at [] k source_end bs i e = cc
front_at (x ∷ xs) zero source_end bs i e = let is : x ≡ i = cc in ap Here is
front_at (x ∷ xs) (suc k) source_end bs i e = front_at xs k source_end bs i e

pub fetch_at : (blocks : List Block) (b k : ℕ) (block : Block) (i : Item) → slice_get blocks b ≡ Some block → slice_get block.items k ≡ Some i →
    fetch_in (drop b blocks) k ≡ Here i
fetch_at [] b k block i e f = cc
fetch_at (x ∷ xs) zero k block i e f =
    let is : x ≡ block = cc in
    front_at x.items k x.source_end xs i (ap (λ (z : Block). slice_get z.items k) is ∙ f)
fetch_at (x ∷ xs) (suc b) k block i e f = fetch_at xs b k block i e f

pub fetch_block : (blocks : List Block) (b k : ℕ) (items : List Item) (i : Item) → IsBlockAt blocks b items → slice_get items k ≡ Some i →
    fetch_in (drop b blocks) k ≡ Here i
fetch_block blocks b k items i at e = fetch_at blocks b k at.0 i at.1 (ap (λ (z : List Item). slice_get z k) at.2 ∙ e)

-- ---- whether control goes below

module _ (enter : ℕ → ℕ) (p : Pos) where
  no_start : (n : ℕ) → below p ≡ block_start n → ⊥
  no_start n e = let item : p.item + 1 ≡ 0 = ap (λ (z : Pos). z.item) e in omega (arith, item)

  row_falls : (r : Row) → RowEdge enter r p (below p) → Falls (row_exit r)
  row_falls (Jumps target) e = no_start (enter target) e
  row_falls (Returns ending) e = e
  row_falls Unfit e = e
  row_falls _ e = tt

  falls_row : (r : Row) → Falls (row_exit r) → RowEdge enter r p (below p)
  falls_row (Branches op a b target) e = inr refl
  falls_row (Jumps target) e = absurd e
  falls_row (Returns ending) e = absurd e
  falls_row Unfit e = absurd e
  falls_row _ e = refl

  kind_falls : (k : ItemKind) → KindEdge enter k p (below p) → Falls (exit_of k)
  kind_falls (Code i k) e = row_falls (row_of i) e
  kind_falls (Mark v m) e = tt
  kind_falls (Phi r k) e = tt

  falls_kind : (k : ItemKind) → Falls (exit_of k) → KindEdge enter k p (below p)
  falls_kind (Code i k) e = falls_row (row_of i) e
  falls_kind (Mark v m) e = refl
  falls_kind (Phi r k) e = refl

-- a number keeps its class
number_stays : (resolve : OperandPair → Option OperandPair) (k : ItemKind) (n : ℕ) → back resolve 0 k (OfNumber n) ≡ Was (OfNumber n)
number_stays resolve (Code i None) n = refl
number_stays resolve (Code i (Some j)) n = refl
number_stays resolve (Mark v m) n = refl
number_stays resolve (Phi p j) n = refl

constants_stay : (things : List Thing) (class after : Classes) (constants : List (Option ℤ)) → ((n : ℕ) → after (OfNumber n) ≡ class (OfNumber n)) →
    ConstantsNow things class constants → ConstantsNow things after constants
constants_stay things class after constants same now = record {
  each = λ n c. subst (λ (z : ℕ). IsSome (slice_index_or constants z None)) (sym (same n)) (now.each n c);
  only = λ k c e. let o = now.only k c e in (o.0, o.1, same (word c) ∙ o.2);
}

-- ---- steps of the walk

module _ (blocks : List Block) (v : Values) (index : TrackedIndex) (are : AreValuesOf blocks v) (s : TransferTracker) (item : Item) where
  abbrev g : Program
  g = program blocks v.subs.now

  abbrev here : Pos
  here = pos_in s.block s.item

  not_first : block_start 0 ≡ below here → ⊥
  not_first e = let i : 0 ≡ s.item + 1 = ap (λ (z : Pos). z.item) e in omega (arith, i)

  -- no path leads below what no path leads to
  pub stays_unreached : (after : TransferTracker) → Stands blocks v index s → s.reached ≡ false → after.reached ≡ false → after.block ≡ s.block →
      after.item ≡ s.item + 1 →
      Stands blocks v index after
  stays_unreached after stands off off_after block next = record {
    reached = λ on. absurd (let both : true ≡ false = sym on ∙ off_after in cc);
    unreached = λ e path. stands.unreached off (paths_come_from_above g (block_start 0) here not_first (at_below after block next path)).0;
  } where
    at_below : (after : TransferTracker) → after.block ≡ s.block → after.item ≡ s.item + 1 → IsReached g (block_start 0) (pos_in after.block after.item) →
        IsReached g (block_start 0) (below here)
    at_below after block next path = subst (λ (z : Pos). IsReached g (block_start 0) z) (λ i. record { block = block i; item = next i }) path

  -- nor below an item that control doesn't go below from
  pub leaves_unreached : (after : TransferTracker) → g.fetch here ≡ Here item → (Falls (exit_of item.kind) → ⊥) → after.reached ≡ false →
      after.block ≡ s.block →
      after.item ≡ s.item + 1 → Stands blocks v index after
  leaves_unreached after fetch stops off_after block next = record {
    reached = λ on. absurd (let both : true ≡ false = sym on ∙ off_after in cc);
    unreached = λ e path.
        let below_is : IsReached g (block_start 0) (below here) = subst (λ (z : Pos). IsReached g (block_start 0) z)
        (λ i. record { block = block i; item = next i }) path in
        let edge = (paths_come_from_above g (block_start 0) here not_first below_is).1 in
        stops (kind_falls g.enter here item.kind (subst (λ (f : Fetch). FetchEdge g.enter f here (below here)) fetch edge));
  }

  -- what is known before an item of the walk
  abbrev things : List Tracked
  things = map thing v.things.now

  abbrev known_at : TransferTracker → List Tracked
  known_at t = known_before g things t.block t.item

  abbrev known : List Tracked
  known = known_at s

  known_next : (after : TransferTracker) → g.fetch here ≡ Here item → after.block ≡ s.block → after.item ≡ s.item + 1 →
      pairs_of item.kind ++ known ≡ known_at after
  known_next after fetch block next =
      let up : suc s.item ≡ s.item + 1 = omega arith in
      ap (λ (f : Fetch). pairs_at f ++ known) (sym fetch)
      ∙ (ap (known_before g things s.block) (up ∙ sym next) ∙ ap (λ (b : ℕ). known_before g things b after.item) (sym block))

  classes_next : (after : TransferTracker) → g.fetch here ≡ Here item → after.block ≡ s.block → after.item ≡ s.item + 1 → (class : Classes) →
      AreClasses g (block_start 0) (below here) (pairs_of item.kind ++ known) class →
      AreClasses g (block_start 0) (pos_in after.block after.item) (known_at after) class
  classes_next after fetch block next class classes =
      subst (λ (zs : List Tracked). AreClasses g (block_start 0) (pos_in after.block after.item) zs class) (known_next after fetch block next)
      (subst (λ (z : Pos). AreClasses g (block_start 0) z (pairs_of item.kind ++ known) class) (sym (λ i. record { block = block i; item = next i })) classes)

  held_next : (after : TransferTracker) → g.fetch here ≡ Here item → after.block ≡ s.block → after.item ≡ s.item + 1 → after.settled ≡ s.settled →
      (class : Classes) → Holds v.variables.now (pairs_of item.kind ++ known) index s.settled.items after.held class →
      Holds v.variables.now (known_at after) index after.settled.items after.held class
  held_next after fetch block next settled class held =
      subst (λ (zs : List Tracked). Holds v.variables.now zs index after.settled.items after.held class) (known_next after fetch block next)
      (subst (λ z. Holds v.variables.now (pairs_of item.kind ++ known) index z.items after.held class) (sym settled) held)

  pub passes_on : (after : TransferTracker) → Stands blocks v index s → s.reached ≡ true → g.fetch here ≡ Here item → Falls (exit_of item.kind) →
      Passes v.variables.now index s.settled.items (resolve v.subs.now) s.held after.held item.kind → after.reached ≡ true →
      after.block ≡ s.block → after.item ≡ s.item + 1 → after.settled ≡ s.settled → after.constants ≡ s.constants → Stands blocks v index after
  passes_on after stands on fetch falls passes on_after block next settled constants =
      let r = stands.reached on in
      let knows = are.of.items here item fetch in
      let fresh = λ (q : ℕ). s.held.next + q in
      let class = λ (x : Tracked). class_back r.class fresh (back (resolve v.subs.now) 0 item.kind x) in
      let edge = subst (λ (f : Fetch). FetchEdge g.enter f here (below here)) (sym fetch) (falls_kind g.enter here item.kind falls) in
      let new : AreFresh known r.class fresh = record {
        apart = λ q w e. omega (arith, e);
        new = λ x q k e. let b = r.held_above.below x k in omega (arith, b, e);
        some = λ q e. let b = r.held.below (OfNumber 0) are.of.zero in omega (arith, b, e);
      } in
      let classes = classes_next after fetch block next class
      (classes_pass_items g (block_start 0) here known r.class fresh item not_first r.classes_above fetch edge knows new) in
      let held = held_next after fetch block next settled class (passes known r.class r.held_above knows) in
      let now = constants_stay v.things.now r.class class s.constants.items (λ n. ap (class_back r.class fresh) (number_stays
      (resolve v.subs.now) item.kind n)) r.constants in
      record {
        reached = λ e. record {
          class = class;
          held = held_fewer v.variables.now things (known_at after) index after.settled.items after.held class (adds_before g things after.block after.item) held;
          classes = classes_fewer g (block_start 0) (pos_in after.block after.item) things (known_at after) class (adds_before g things after.block after.item)
              classes;
          constants = subst (λ z. ConstantsNow v.things.now class z.items) (sym constants) now;
          held_above = held;
          classes_above = classes;
        };
        unreached = λ off. absurd (let both : true ≡ false = sym on_after ∙ off in cc);
      }

-- ---- the start of a block

pub enters : (blocks : List Block) (v : Values) (index : TrackedIndex) → AreValuesOf blocks v → (s : TransferTracker) (e : BlockEntry) →
    slice_get v.entries.now s.block ≡ Some e →
    s.item ≡ 0 → s.reached ≡ e.reached → length s.settled.items ≡ length v.things.now →
    ((i : ℕ) → i < length v.things.now → slice_index s.settled.items i ≡ settled_at e.classes e.given i) →
    ((class : Classes) → Settle v.things.now s.settled.items class → Holds v.variables.now (map thing v.things.now) index s.settled.items s.held class) →
    ((class : Classes) → Settle v.things.now s.settled.items class → ConstantsNow v.things.now class s.constants.items) → Stands blocks v index s
enters blocks v index are s e at first same count each held constants = record {
  reached = λ on.
      let reached = sym same ∙ on in
      let all = (is.classes (is.reached.0 reached)).classes_for_all in
      let c = entries_give_classes g v.variables.now v.things.now s.block e s.settled.items are.things are.of is reached (count ∙ sym all)
      (λ i lt. each i (omega (arith, lt, all))) in
      record {
        class = c.0;
        held = held c.0 c.2;
        classes = subst (λ (k : ℕ). AreClasses g (block_start 0) (pos_in s.block k) (map thing v.things.now) c.0) (sym first) c.1;
        constants = constants c.0 c.2;
        held_above = subst (λ (k : ℕ). Holds v.variables.now (known_before g (map thing v.things.now) s.block k) index s.settled.items s.held c.0) (sym first)
            (held c.0 c.2);
        classes_above = subst (λ (k : ℕ). AreClasses g (block_start 0) (pos_in s.block k) (known_before g (map thing v.things.now) s.block k) c.0) (sym first)
            c.1;
      };
  unreached = λ off path.
      let on : e.reached ≡ true = is.reached.1 (subst (λ (k : ℕ). IsReached g (block_start 0) (pos_in s.block k)) first path) in
      let both : true ≡ false = sym on ∙ (sym same ∙ off) in
      cc;
} where
  g : Program
  g = program blocks v.subs.now

  is : IsEntry g v.things.now s.block e
  is = are.entries s.block e at

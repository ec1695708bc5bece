-- The rounds end at the least set of long branches.
--
-- What a round makes long is what doesn't reach in the layout so far (`rounded`). It is in every closed set that has what is long
-- so far: a branch that doesn't reach doesn't either where more is long, since the more stands between two points the further apart
-- they are (`apart`). At the end a round changes nothing, so each short branch reaches, and the set is closed itself.
use Rattle.std.proofs.Common.{◌≡◌, ℕ, zero, suc, ◌+◌, ◌<◌, Bool, true, false, cond, not, ◌||◌, List, [], ◌∷◌, ◌++◌, length, map, take, drop, Some, refl, sym}
use Rattle.std.proofs.Common.{ap, subst, inl, inr, ◌∙◌, arith}
use Rattle.std.specs.Prelude.{◌⊎◌, slice_get, slice_index}
use Rattle.std.proofs.lemmas.List.Sums.{sum_by-cons, sum_by-take-le}
use Rattle.rv64_instr.specs.Row.{Row, Branches, Calls, Returns, row_of}
use Rattle.rv64_instr.specs.LocationEffects.{has_site}
use Rattle.mir_func.specs.declared.block.Block.{Block}
use Rattle.mir_func.specs.declared.item.Item.{Item}
use Rattle.mir_func.specs.declared.item.ItemKind.{ItemKind}
use Rattle.mir_func.specs.declared.item.ItemKind.TheVariants.{Code, Mark, Phi}
use Rattle.mir_func.specs.declared.position.Pos.{Pos}
use Rattle.mir_func.specs.Graph.{Fetch, Here, EndOfBlock, Outside, fetch_in, front, index_of, block_start}
use Rattle.mir_func.specs.SoundFrame.{body_of}
use Rattle.mir_func.specs.Successors.{pos_in}
use Rattle.emit_code.specs.declared.span.Span.TheVariants.{OneWord, CallSite, Short, Long}
use Rattle.emit_code.specs.Rule.{Site, items_at, bytes_before, sites_in, sites_from}
use Rattle.emit_code.specs.steps.Places.{items_count, first_of}
use Rattle.emit_code.specs.steps.Spans.{row_span, span_of, site_span, spans_of, sums_from, reaches, grown, grown_from, round}
use Rattle.emit_code.proofs.Sites.{sum_before, length_in}

-- ---- what stands at a point

front_at : (items : List Item) (n k : ℕ) (blocks : List Block) (i : Item) → slice_get items n ≡ Some i → front (drop n items) k blocks ≡ Here i
front_at [] n k blocks i e = absurd cc
front_at (x ∷ items) zero k blocks i e = let same : x ≡ i = cc in ap Here same
front_at (x ∷ items) (suc n) k blocks i e = front_at items n k blocks i e

pub fetched : (blocks : List Block) (b n : ℕ) (i : Item) → slice_get (items_at blocks b) n ≡ Some i → fetch_in (drop b blocks) n ≡ Here i
fetched [] b n i e = absurd cc
fetched (x ∷ blocks) zero n i e = front_at x.items n x.source_end blocks i e
fetched (x ∷ blocks) (suc b) n i e = fetched blocks b n i e

end_apart : (k : ℕ) (blocks : List Block) (i : Item) → front [] k blocks ≡ Here i → ⊥
end_apart k [] i e = cc
end_apart k (x ∷ blocks) i e = cc

at_front : (items : List Item) (n k : ℕ) (blocks : List Block) (i : Item) → front (drop n items) k blocks ≡ Here i → slice_get items n ≡ Some i
at_front [] zero k blocks i e = absurd (end_apart k blocks i e)
at_front [] (suc n) k blocks i e = absurd (end_apart k blocks i e)
at_front (x ∷ items) zero k blocks i e = let same : x ≡ i = cc in ap (λ (y : Item). Some y) same
at_front (x ∷ items) (suc n) k blocks i e = at_front items n k blocks i e

pub item_at : (blocks : List Block) (b n : ℕ) (i : Item) → fetch_in (drop b blocks) n ≡ Here i → slice_get (items_at blocks b) n ≡ Some i
item_at [] zero n i e = absurd cc
item_at [] (suc b) n i e = absurd cc
item_at (x ∷ blocks) zero n i e = at_front x.items n x.source_end blocks i e
item_at (x ∷ blocks) (suc b) n i e = item_at blocks b n i e

-- ---- where a site is

either_part : (xs ys : List Site) (k : ℕ) (s : Site) → slice_get (xs ++ ys) k ≡ Some s →
    (slice_get xs k ≡ Some s) ⊎ ((j : ℕ) × (k ≡ length xs + j) × (slice_get ys j ≡ Some s))
either_part [] ys k s e = inr (k, omega arith, e)
either_part (x ∷ xs) ys zero s e = inl e
either_part (x ∷ xs) ys (suc k) s e = elim (either_part xs ys k s e) as (λ z. (slice_get (x ∷ xs) (suc k) ≡ Some s) ⊎ ((j : ℕ) ×
    (suc k ≡ length (x ∷ xs) + j) × (slice_get ys j ≡ Some s)))
    [ inl h ↦ inl h | inr h ↦ inr (h.0, omega (arith, h.1), h.2) ]

in_block : (b n k : ℕ) (items : List Item) (s : Site) → slice_get (sites_in b n items) k ≡ Some s →
    (m : ℕ) × (m ≡ n + k) × (s.point ≡ pos_in b m) × (slice_get items k ≡ Some s.item)
in_block b n k [] s e = absurd cc
in_block b n zero (i ∷ items) s e =
    let same : record { point = pos_in b n; item = i } ≡ s = cc in
    (n, omega arith, sym (ap (λ (x : Site). x.point) same), ap (λ (x : Site). Some x.item) same)
in_block b n (suc k) (i ∷ items) s e = let h = in_block b (suc n) k items s e in (h.0, omega (arith, h.1), h.2, h.3)

pub record IsPlaced (m : ℕ) (blocks : List Block) (k : ℕ) (s : Site) : Type 0 where
  pub block : ℕ
  pub index : ℕ
  pub counted : ℕ
  pub is : counted ≡ m + block
  pub point : s.point ≡ pos_in counted index
  pub item : slice_get (items_at blocks block) index ≡ Some s.item
  pub rank : k ≡ items_count (take block blocks) + index

pub placed : (m : ℕ) (blocks : List Block) (k : ℕ) (s : Site) → slice_get (sites_from m blocks) k ≡ Some s → IsPlaced m blocks k s
placed m [] k s e = absurd cc
placed m (x ∷ blocks) k s e = elim (either_part (sites_in m 0 x.items) (sites_from (suc m) blocks) k s e) as (λ z. IsPlaced m (x ∷ blocks) k s) [
  | inl h ↦
      let here = in_block m 0 k x.items s h in
      record {
        block = 0;
        index = here.0;
        counted = m;
        is = omega arith;
        point = here.2;
        item = subst (λ (j : ℕ). slice_get x.items j ≡ Some s.item) (let e : k
            ≡ here.0 = omega (arith, here.1) in e) here.3;
        rank = omega (arith, here.1);
      }
  | inr h ↦
      let below = placed (suc m) blocks h.0 s h.2 in
      record {
        block = suc below.block;
        index = below.index;
        counted = below.counted;
        is = omega (arith, below.is);
        point = below.point;
        item = below.item;
        rank = omega (arith, h.1, below.rank, length_in m 0 x.items, sum_by-cons (λ (y : Block). length y.items) x (take below.block blocks));
      }
]

pub in_range : (items : List Item) (n : ℕ) (i : Item) → slice_get items n ≡ Some i → n < length items
in_range [] n i e = absurd cc
in_range (x ∷ items) zero i e = omega arith
in_range (x ∷ items) (suc n) i e = omega (arith, in_range items n i e)

count_within : (blocks : List Block) (b n : ℕ) (i : Item) → slice_get (items_at blocks b) n ≡ Some i → items_count (take b blocks) + n < items_count blocks
count_within [] b n i e = absurd cc
count_within (x ∷ blocks) zero n i e = omega (arith, in_range x.items n i e, sum_by-cons (λ (y : Block). length y.items) x blocks)
count_within (x ∷ blocks) (suc b) n i e =
    omega (
      arith,
      count_within blocks b n i e,
      sum_by-cons (λ (y : Block). length y.items) x blocks,
      sum_by-cons (λ (y : Block). length y.items) x (take b
          blocks),
    )

-- the sum at an item, and the one at a target
pub sum_here : (long : Pos → Bool) (blocks : List Block) (b n : ℕ) (i : Item) → slice_get (items_at blocks b) n ≡ Some i →
    slice_index (sums_from 0 (spans_of blocks long)) (items_count (take b blocks) + n) ≡ bytes_before long blocks (pos_in b n)
sum_here long blocks b n i e =
    let within = in_range (items_at blocks b) n i e in
    sum_before long blocks b n (items_count (take b blocks) + n) (omega (arith, within)) refl (omega (arith, count_within blocks b n i e))

abbrev pub target_point : List Block → ℕ → Pos
target_point blocks n = block_start (suc (index_of (body_of blocks) n))

pub sum_there : (long : Pos → Bool) (blocks : List Block) (n : ℕ) → slice_index (sums_from 0 (spans_of blocks long)) (first_of blocks n) ≡ bytes_before long
    blocks (target_point blocks n)
sum_there long blocks n =
    sum_before long blocks (suc (index_of (body_of blocks) n)) 0 (first_of blocks n) (omega arith) (omega arith) (sum_by-take-le (λ (x : Block). length
    x.items) blocks (suc (index_of (body_of blocks) n)))

-- ---- what a round makes

abbrev pub row_far : List Block → (long : Pos → Bool) → Pos → Row → Bool
row_far blocks long p (Branches op a b n) = not (reaches (bytes_before long blocks p) (bytes_before long blocks (target_point blocks n)))
row_far blocks long p _ = false

abbrev pub kind_far : List Block → (Pos → Bool) → Pos → ItemKind → Bool
kind_far blocks long p (Code i k) = row_far blocks long p (row_of i)
kind_far blocks long p (Mark v m) = false
kind_far blocks long p (Phi r k) = false

abbrev pub fetch_far : List Block → (Pos → Bool) → Pos → Fetch → Bool
fetch_far blocks long p (Here i) = kind_far blocks long p i.kind
fetch_far blocks long p (EndOfBlock k n) = false
fetch_far blocks long p Outside = false

abbrev pub next_long : List Block → (Pos → Bool) → Pos → Bool
next_long blocks long p = long p || fetch_far blocks long p (fetch_in (drop p.block blocks) p.item)

module _ (blocks : List Block) (long : Pos → Bool) where
  branch_grown : (far : Bool) (was : Bool) (t : ℕ) (sums : List ℕ) (k : ℕ) → reaches (slice_index sums k) (slice_index sums t) ≡ not far →
      grown sums k (cond was (Long t) (Short t)) ≡ cond (was || far) (Long t) (Short t)
  branch_grown far true t sums k e = refl
  branch_grown true false t sums k e = ap (λ (z : Bool). cond z (Short t) (Long t)) e
  branch_grown false false t sums k e = ap (λ (z : Bool). cond z (Short t) (Long t)) e

  twice : (b : Bool) → b ≡ not (not b)
  twice true = refl
  twice false = refl

  -- only branches grow
  site_stays : (site : Bool) (sums : List ℕ) (k : ℕ) → grown sums k (cond site CallSite OneWord) ≡ cond site CallSite OneWord
  site_stays true sums k = refl
  site_stays false sums k = refl

  row_grown : (row : Row) (p : Pos) (k : ℕ) (sums : List ℕ) → slice_index sums k ≡ bytes_before long blocks p →
      ((n : ℕ) → slice_index sums (first_of blocks n) ≡ bytes_before long blocks (target_point blocks n)) →
      grown sums k (row_span blocks (long p) row) ≡ row_span blocks (long p || row_far blocks long p row) row
  row_grown (Branches op a b n) p k sums here there =
      branch_grown (row_far blocks long p (Branches op a b n)) (long p) (first_of blocks n) sums k
      ((λ i. reaches (here i) (there n i)) ∙ twice (reaches (bytes_before long blocks p) (bytes_before long blocks (target_point blocks n))))
  row_grown (Calls call) p k sums here there = site_stays (has_site (Calls call)) sums k
  row_grown (Returns ending) p k sums here there = site_stays (has_site (Returns ending)) sums k
  row_grown _ p k sums here there = refl

  kind_grown : (kind : ItemKind) (p : Pos) (k : ℕ) (sums : List ℕ) → slice_index sums k ≡ bytes_before long blocks p →
      ((n : ℕ) → slice_index sums (first_of blocks n) ≡ bytes_before long blocks (target_point blocks n)) →
      grown sums k (span_of blocks (long p) kind) ≡ span_of blocks (long p || kind_far blocks long p kind) kind
  kind_grown (Code i c) p k sums here there = row_grown (row_of i) p k sums here there
  kind_grown (Mark v m) p k sums here there = refl
  kind_grown (Phi r c) p k sums here there = refl

  next_at : (s : Site) (k : ℕ) → IsPlaced 0 blocks k s → next_long blocks long s.point ≡ (long s.point || kind_far blocks long s.point s.item.kind)
  next_at s k at =
      let b : s.point.block ≡ at.block = ap (λ (p : Pos). p.block) at.point ∙ (let e : at.counted ≡ at.block = omega (arith, at.is) in e) in
      let n : s.point.item ≡ at.index = ap (λ (p : Pos). p.item) at.point in
      ap (λ (f : Fetch). long s.point || fetch_far blocks long s.point f) ((λ i. fetch_in (drop (b i) blocks) (n i)) ∙
      fetched blocks at.block at.index s.item at.item)

  bytes_of : (s : Site) (k : ℕ) (at : IsPlaced 0 blocks k s) → slice_index (sums_from 0 (spans_of blocks long)) k ≡ bytes_before long blocks s.point
  bytes_of s k at =
      let same : at.block ≡ at.counted = omega (arith, at.is) in
      ap (slice_index (sums_from 0 (spans_of blocks long))) at.rank ∙ sum_here long blocks at.block at.index s.item at.item
      ∙ ap (λ (b : ℕ). bytes_before long blocks (pos_in b at.index)) same ∙ ap (bytes_before long blocks) (sym at.point)

  site_grown : (s : Site) (k : ℕ) → IsPlaced 0 blocks k s →
      grown (sums_from 0 (spans_of blocks long)) k (site_span blocks long s) ≡ site_span blocks (next_long blocks long) s
  site_grown s k at =
      kind_grown s.item.kind s.point k (sums_from 0 (spans_of blocks long)) (bytes_of s k at) (sum_there long blocks)
      ∙ ap (λ (z : Bool). span_of blocks z s.item.kind) (sym (next_at s k at))

  sites_grown : (sites : List Site) (k : ℕ) → ((j m : ℕ) (s : Site) → m ≡ k + j → slice_get sites j ≡ Some s → IsPlaced 0 blocks m s) →
      grown_from (sums_from 0 (spans_of blocks long)) k (map (site_span blocks long) sites) ≡ map (site_span blocks (next_long blocks long)) sites
  sites_grown [] k at = refl
  sites_grown (s ∷ sites) k at =
      let first = site_grown s k (at 0 k s (omega arith) refl) in
      let rest = sites_grown sites (suc k) (λ j m x e is. at (suc j) m x (omega arith) is) in
      λ i. first i ∷ rest i

  pub rounded : round (spans_of blocks long) ≡ spans_of blocks (next_long blocks long)
  rounded = sites_grown (sites_from 0 blocks) 0 (λ j m s e is. let same : m ≡ j = omega arith in rw same (placed 0 blocks j s is))

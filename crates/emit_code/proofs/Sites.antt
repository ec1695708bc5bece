-- Where items stand among all items, and the bytes before a point.
--
-- The items of a function are those of its blocks, one after the other, so the item at a point is the one at an index: how many
-- items stand before its block, and its index there. The bytes before a point are the sum of the sizes before that index.
use Rattle.std.proofs.Common.{◌≡◌, ℕ, zero, suc, ◌+◌, ◌<◌, ◌≤◌, Bool, true, false, List, [], ◌∷◌, ◌++◌, length, map, take, get_or, Some, refl, sym, ap, ◌∙◌}
use Rattle.std.proofs.Common.{arith}
use Rattle.std.specs.Prelude.{sum_by, slice_get, slice_index}
use Rattle.std.proofs.lemmas.List.{take-append-le, length-append, length-map, take-map, append-nil, append_assoc}
use Rattle.std.proofs.lemmas.List.Sums.{sum_by-cons, sum_by-append}
use Rattle.rv64_instr.specs.Row.{Row, row_of}
use Rattle.rv64_instr.specs.LocationEffects.{has_site}
use Rattle.mir_func.specs.declared.block.Block.{Block}
use Rattle.mir_func.specs.declared.item.Item.{Item}
use Rattle.mir_func.specs.declared.item.ItemKind.{ItemKind}
use Rattle.mir_func.specs.declared.item.ItemKind.TheVariants.{Code, Mark, Phi}
use Rattle.mir_func.specs.declared.position.Pos.{Pos}
use Rattle.mir_func.specs.Successors.{pos_in}
use Rattle.mir_func.specs.declared.exit.Exit.{Exit}
use Rattle.mir_func.specs.declared.exit.Exit.TheVariants.{Onward, Perhaps, Always, Final}
use Rattle.mir_func.specs.Exits.{row_exit}
use Rattle.emit_code.specs.declared.span.Span.{Span}
use Rattle.emit_code.specs.Rule.{Site, form_of, row_form, form_size, size_of, items_size, blocks_size, items_at, bytes_before, sites_in, sites_from, exit_form}
use Rattle.emit_code.specs.steps.Places.{items_count, firsts_from}
use Rattle.emit_code.specs.steps.Spans.{span_size, row_span, span_of, site_span, spans_of, sums_from, exit_span}

-- ---- sizes

abbrev pub site_size : (Pos → Bool) → Site → ℕ
site_size long s = size_of (long s.point) s.item

exit_sized : (blocks : List Block) (long : Bool) (e : Exit) (site : Bool) → span_size (exit_span blocks long e site) ≡ form_size (exit_form long e site)
exit_sized blocks true (Perhaps n) site = refl
exit_sized blocks false (Perhaps n) site = refl
exit_sized blocks long (Always n) site = refl
exit_sized blocks long Onward true = refl
exit_sized blocks long Onward false = refl
exit_sized blocks long Final true = refl
exit_sized blocks long Final false = refl

row_sized : (blocks : List Block) (long : Bool) (row : Row) → span_size (row_span blocks long row) ≡ form_size (row_form long row)
row_sized blocks long row = exit_sized blocks long (row_exit row) (has_site row)

kind_sized : (blocks : List Block) (long : Bool) (kind : ItemKind) → span_size (span_of blocks long kind) ≡ form_size (form_of long kind)
kind_sized blocks long (Code i k) = row_sized blocks long (row_of i)
kind_sized blocks long (Mark v m) = refl
kind_sized blocks long (Phi p k) = refl

pub sized : (blocks : List Block) (long : Pos → Bool) (s : Site) → span_size (site_span blocks long s) ≡ site_size long s
sized blocks long s = kind_sized blocks (long s.point) s.item.kind

pub spans_sum : (blocks : List Block) (long : Pos → Bool) (sites : List Site) → sum_by span_size (map (site_span blocks long) sites) ≡ sum_by (site_size long)
    sites
spans_sum blocks long [] = refl
spans_sum blocks long (s ∷ sites) =
    omega (
      arith,
      sum_by-cons span_size (site_span blocks long s) (map (site_span blocks long) sites),
      sum_by-cons (site_size long) s sites,
      spans_sum blocks
          long sites,
      sized blocks long s,
    )

pub items_sum : (long : Pos → Bool) (b n : ℕ) (items : List Item) → items_size long b n items ≡ sum_by (site_size long) (sites_in b n items)
items_sum long b n [] = refl
items_sum long b n (i ∷ items) =
    omega (arith, sum_by-cons (site_size long) (record { point = pos_in b n; item = i }) (sites_in b (suc n) items), items_sum long b (suc n) items)

pub blocks_sum : (long : Pos → Bool) (b : ℕ) (blocks : List Block) → blocks_size long b blocks ≡ sum_by (site_size long) (sites_from b blocks)
blocks_sum long b [] = refl
blocks_sum long b (block ∷ blocks) =
    omega (
      arith,
      sum_by-append (site_size long) (sites_in b 0 block.items) (sites_from (suc b) blocks),
      items_sum long b 0 block.items,
      blocks_sum long (suc
          b) blocks,
    )

-- ---- places

pub length_in : (b n : ℕ) (items : List Item) → length (sites_in b n items) ≡ length items
length_in b n [] = refl
length_in b n (i ∷ items) = omega (arith, length_in b (suc n) items)

pub length_from : (b : ℕ) (blocks : List Block) → length (sites_from b blocks) ≡ items_count blocks
length_from b [] = refl
length_from b (block ∷ blocks) =
    omega (
      arith,
      length-append (sites_in b 0 block.items) (sites_from (suc b) blocks),
      length_in b 0 block.items,
      length_from (suc b) blocks,
      sum_by-cons (λ
          (x : Block). length x.items) block blocks,
    )

take_in : (b n k : ℕ) (items : List Item) → take k (sites_in b n items) ≡ sites_in b n (take k items)
take_in b n zero items = refl
take_in b n (suc k) [] = refl
take_in b n (suc k) (i ∷ items) = ap (λ (t : List Site). record { point = pos_in b n; item = i } ∷ t) (take_in b (suc n) k items)

take_past : (xs ys : List Site) (k n : ℕ) → k ≡ length xs + n → take k (xs ++ ys) ≡ xs ++ take n ys
take_past [] ys k n e = let same : k ≡ n = omega arith in rw same refl
take_past (x ∷ xs) ys zero n e = absurd (omega arith)
take_past (x ∷ xs) ys (suc k) n e = ap (λ (t : List Site). x ∷ t) (take_past xs ys k n (omega arith))

-- the items before a point
pub take_from : (m : ℕ) (blocks : List Block) (b n k c : ℕ) → n ≤ length (items_at blocks b) → k ≡ items_count (take b blocks) + n → c ≡ m + b →
    take k (sites_from m blocks) ≡ sites_from m (take b blocks) ++ sites_in c 0 (take n (items_at blocks b))
take_from m [] zero n k c few e is = let none : n ≡ 0 = omega arith in let zero_k : k ≡ 0 = omega arith in rw (none, zero_k) refl
take_from m [] (suc b) n k c few e is = let none : n ≡ 0 = omega arith in let zero_k : k ≡ 0 = omega arith in rw (none, zero_k) refl
take_from m (block ∷ blocks) zero n k c few e is =
    let same : k ≡ n = omega arith in
    let here : c ≡ m = omega arith in
    let within : n ≤ length (sites_in m 0 block.items) = omega (arith, length_in m 0 block.items) in
    rw (same, here) (take-append-le n (sites_in m 0 block.items) (sites_from (suc m) blocks) within ∙ take_in m 0 n block.items)
take_from m (block ∷ blocks) (suc b) n k c few e is =
    let counted = sum_by-cons (λ (x : Block). length x.items) block (take b blocks) in
    let inner = take_from (suc m) blocks b n (items_count (take b blocks) + n) c few refl (omega arith) in
    take_past (sites_in m 0 block.items) (sites_from (suc m) blocks) k (items_count (take b blocks) + n) (omega (arith, counted, length_in m 0 block.items))
    ∙ ap (λ (t : List Site). sites_in m 0 block.items ++ t) inner
    ∙ assoc (sites_in m 0 block.items) (sites_from (suc m) (take b blocks)) (sites_in c 0 (take n (items_at blocks b)))
  where
    assoc : (x y z : List Site) → x ++ (y ++ z) ≡ (x ++ y) ++ z
    assoc [] y z = refl
    assoc (s ∷ x) y z = ap (λ (t : List Site). s ∷ t) (assoc x y z)

-- the bytes before a point, by the index among all items
pub bytes_at : (long : Pos → Bool) (blocks : List Block) (b n : ℕ) → n ≤ length (items_at blocks b) →
    bytes_before long blocks (pos_in b n) ≡ sum_by (site_size long) (take (items_count (take b blocks) + n) (sites_from 0 blocks))
bytes_at long blocks b n few =
    let parts = take_from 0 blocks b n (items_count (take b blocks) + n) b few refl (omega arith) in
    omega (
      arith,
      ap (sum_by (site_size long)) parts,
      sum_by-append (site_size long) (sites_from 0 (take b blocks)) (sites_in b 0 (take n (items_at blocks b))),
      blocks_sum long 0 (take b blocks),
      items_sum long b 0 (take n (items_at blocks b)),
    )

-- the item at a point
pub site_in : (b n m k : ℕ) (items : List Item) (i : Item) → slice_get items k ≡ Some i → m ≡ n + k →
    slice_get (sites_in b n items) k ≡ Some (record { point = pos_in b m; item = i })
site_in b n m k [] i e is = absurd cc
site_in b n m zero (x ∷ items) i e is =
    let same : m ≡ n = omega arith in let item : x ≡ i = cc in rw same (ap (λ (y : Item). Some (record { point = pos_in b n; item = y })) item)
site_in b n m (suc k) (x ∷ items) i e is = site_in b (suc n) m k items i e (omega arith)

get_past : (xs ys : List Site) (k n : ℕ) → k ≡ length xs + n → slice_get (xs ++ ys) k ≡ slice_get ys n
get_past [] ys k n e = let same : k ≡ n = omega arith in rw same refl
get_past (x ∷ xs) ys zero n e = absurd (omega arith)
get_past (x ∷ xs) ys (suc k) n e = get_past xs ys k n (omega arith)

get_within : (xs ys : List Site) (k : ℕ) (s : Site) → slice_get xs k ≡ Some s → slice_get (xs ++ ys) k ≡ Some s
get_within [] ys k s e = absurd cc
get_within (x ∷ xs) ys zero s e = e
get_within (x ∷ xs) ys (suc k) s e = get_within xs ys k s e

pub site_from : (m : ℕ) (blocks : List Block) (b n k c : ℕ) (i : Item) → slice_get (items_at blocks b) n ≡ Some i →
    k ≡ items_count (take b blocks) + n → c ≡ m + b → slice_get (sites_from m blocks) k ≡ Some (record { point = pos_in c n; item = i })
site_from m [] zero n k c i at e is = absurd cc
site_from m [] (suc b) n k c i at e is = absurd cc
site_from m (block ∷ blocks) zero n k c i at e is =
    let same : k ≡ n = omega arith in
    let here : c ≡ m = omega arith in
    rw (same, here) (get_within (sites_in m 0 block.items) (sites_from (suc m) blocks) n _ (site_in m 0 n n block.items i at (omega arith)))
site_from m (block ∷ blocks) (suc b) n k c i at e is =
    let counted = sum_by-cons (λ (x : Block). length x.items) block (take b blocks) in
    get_past (sites_in m 0 block.items) (sites_from (suc m) blocks) k (items_count (take b blocks) + n) (omega (arith, counted, length_in m 0 block.items))
    ∙ site_from (suc m) blocks b n (items_count (take b blocks) + n) c i at refl (omega arith)

-- ---- sums

pub sum_at : (n k : ℕ) (spans : List Span) → k ≤ length spans → slice_index (sums_from n spans) k ≡ n + sum_by span_size (take k spans)
sum_at n zero [] few = omega arith
sum_at n (suc k) [] few = absurd (omega arith)
sum_at n zero (s ∷ spans) few = omega arith
sum_at n (suc k) (s ∷ spans) few =
    omega (arith, sum_at (n + span_size s) k spans (omega arith), sum_by-cons span_size s (take k spans))

pub first_at : (n b : ℕ) (blocks : List Block) → b ≤ length blocks → slice_index (firsts_from n blocks) b ≡ n + items_count (take b blocks)
first_at n zero [] few = omega arith
first_at n (suc b) [] few = absurd (omega arith)
first_at n zero (x ∷ blocks) few = omega arith
first_at n (suc b) (x ∷ blocks) few =
    omega (arith, first_at (n + length x.items) b blocks (omega arith), sum_by-cons (λ (y : Block). length y.items) x (take b blocks))

-- the sum before the index of a point is the bytes before the point
pub sum_before : (long : Pos → Bool) (blocks : List Block) (b n k : ℕ) → n ≤ length (items_at blocks b) → k ≡ items_count (take b blocks) + n →
    k ≤ items_count blocks → slice_index (sums_from 0 (spans_of blocks long)) k ≡ bytes_before long blocks (pos_in b n)
sum_before long blocks b n k few e within =
    let spans = map (site_span blocks long) (sites_from 0 blocks) in
    let long_enough : k ≤ length spans = omega (arith, length-map (sites_from 0 blocks) (site_span blocks long), length_from 0 blocks) in
    let taken : take k spans ≡ map (site_span blocks long) (take k (sites_from 0 blocks)) = take-map (site_span blocks long) k (sites_from 0 blocks) in
    let bytes = bytes_at long blocks b n few in
    omega (
      arith,
      sum_at 0 k spans long_enough,
      ap (sum_by span_size) taken,
      spans_sum blocks long (take k (sites_from 0 blocks)),
      bytes,
      ap (λ (j : ℕ). sum_by (site_size long) (take j (sites_from 0 blocks))) e,
    )

-- ---- the loop over blocks

front_more : (x : Block) (blocks : List Block) (k : ℕ) → take (suc k + 1) (x ∷ blocks) ≡ x ∷ take (k + 1) blocks
front_more x blocks k = let e : suc k + 1 ≡ suc (k + 1) = omega arith in rw e refl

pub sites_more : (m : ℕ) (blocks : List Block) (k j : ℕ) (b : Block) → k < length blocks → b ≡ get_or blocks k b → j ≡ m + k →
    sites_from m (take (k + 1) blocks) ≡ sites_from m (take k blocks) ++ sites_in j 0 b.items
sites_more m [] k j b lt is e = absurd (omega arith)
sites_more m (x ∷ blocks) zero j b lt is e =
    let same : j ≡ m = omega arith in rw same (ap (λ (y : Block). sites_in m 0 y.items ++ []) (sym is) ∙ append-nil (sites_in m 0 b.items))
sites_more m (x ∷ blocks) (suc k) j b lt is e =
    rw (front_more x blocks k) (ap (λ (t : List Site). sites_in m 0 x.items ++ t) (sites_more (suc m) blocks k j b (omega arith) is (omega arith))
    ∙ sym (append_assoc (sites_in m 0 x.items) (sites_from (suc m) (take k blocks)) (sites_in j 0 b.items)))

pub short_in : (blocks : List Block) (b n : ℕ) (items : List Item) →
    map (λ i. span_of blocks false i.kind) items ≡ map (site_span blocks (λ p. false)) (sites_in b n items)
short_in blocks b n [] = refl
short_in blocks b n (i ∷ items) = ap (λ (t : List Span). span_of blocks false i.kind ∷ t) (short_in blocks b (suc n) items)

-- What the rounds make long is the least closed set.
use Rattle.std.proofs.Common.{◌≡◌, ℕ, zero, suc, ◌+◌, ◌<◌, ◌≤◌, Bool, true, false, cond, not, ◌&&◌, ◌||◌, List, [], ◌∷◌, length, take, drop, nat_eq, Some, refl}
use Rattle.std.proofs.Common.{sym, ap, inl, inr, ◌∙◌, arith}
use Rattle.std.specs.Prelude.{◌⊎◌, sum_by, slice_get, option_map, pos, negsuc, ◌-ℤ◌, nat_le, int_le}
use Rattle.std.proofs.lemmas.Bool.{eqb-true}
use Rattle.std.proofs.lemmas.Bool.Decides.{nat_tests}
use Rattle.std.proofs.lemmas.Int.{ints}
use Rattle.std.proofs.lemmas.Option.{slice_get-map}
use Rattle.std.proofs.lemmas.List.Sums.{sum_by-cons}
use Rattle.rv64_instr.specs.declared.op.BranchOp.{BranchOp}
use Rattle.rv64_instr.specs.Form.{is_within}
use Rattle.rv64_instr.specs.Row.{Row, Branches, row_of}
use Rattle.rv64_instr.specs.LocationEffects.{has_site}
use Rattle.mir_func.specs.declared.block.Block.{Block}
use Rattle.mir_func.specs.declared.exit.Exit.TheVariants.{Perhaps, Onward, Always, Final}
use Rattle.mir_func.specs.declared.item.Item.{Item}
use Rattle.mir_func.specs.declared.item.ItemKind.{ItemKind}
use Rattle.mir_func.specs.declared.item.ItemKind.TheVariants.{Code, Mark, Phi}
use Rattle.mir_func.specs.declared.position.Pos.{Pos}
use Rattle.mir_func.specs.Exits.{row_exit, exit_of}
use Rattle.mir_func.specs.Function.{FramedFunction}
use Rattle.mir_func.specs.Graph.{Fetch, Here, EndOfBlock, Outside, fetch_in, index_of}
use Rattle.mir_func.specs.SoundFrame.{body_of}
use Rattle.mir_func.specs.Successors.{pos_in}
use Rattle.mir_func.specs.Positions.{is_same_position}
use Rattle.mir_func.specs.declared.exit.Exit.{Exit}
use Rattle.emit_code.specs.declared.span.Span.{Span}
use Rattle.emit_code.specs.declared.span.Span.TheVariants.{Short, Long}
use Rattle.emit_code.specs.Rule.{Site, form_of, row_form, form_size, size_of, items_size, blocks_size, items_at, bytes_before, sites_from, exit_form}
use Rattle.emit_code.specs.BranchRelaxation.{IsClosed, IsSettled}
use Rattle.emit_code.specs.steps.Places.{items_count, first_of}
use Rattle.emit_code.specs.steps.Spans.{row_span, span_of, site_span, spans_of, reaches, round, Rounds, begun, further, Settles}
use Rattle.emit_code.proofs.Sites.{site_size, bytes_at, site_from}
use Rattle.emit_code.proofs.Settled.{rounded, next_long, row_far, kind_far, fetch_far, target_point, item_at, in_range}

-- ---- more long branches put points further apart

exit_grows : (was is : Bool) (e : Exit) (site : Bool) → (was ≡ true → is ≡ true) → form_size (exit_form was e site) ≤ form_size (exit_form is e site)
exit_grows true true (Perhaps n) site more = omega arith
exit_grows true false (Perhaps n) site more = let e : false ≡ true = more refl in absurd cc
exit_grows false true (Perhaps n) site more = omega arith
exit_grows false false (Perhaps n) site more = omega arith
exit_grows was is (Always n) site more = omega arith
exit_grows was is Onward true more = omega arith
exit_grows was is Onward false more = omega arith
exit_grows was is Final true more = omega arith
exit_grows was is Final false more = omega arith

row_grows : (was is : Bool) (row : Row) → (was ≡ true → is ≡ true) → form_size (row_form was row) ≤ form_size (row_form is row)
row_grows was is row more = exit_grows was is (row_exit row) (has_site row) more

kind_grows : (was is : Bool) (kind : ItemKind) → (was ≡ true → is ≡ true) → form_size (form_of was kind) ≤ form_size (form_of is kind)
kind_grows was is (Code i k) more = row_grows was is (row_of i) more
kind_grows was is (Mark v m) more = omega arith
kind_grows was is (Phi p k) more = omega arith

module _ (long other : Pos → Bool) (more : (q : Pos) → long q ≡ true → other q ≡ true) where
  site_grows : (s : Site) → site_size long s ≤ site_size other s
  site_grows s = kind_grows (long s.point) (other s.point) s.item.kind (more s.point)

  sum_grows : (sites : List Site) (j : ℕ) → sum_by (site_size long) (take j sites) ≤ sum_by (site_size other) (take j sites)
  sum_grows sites zero = omega arith
  sum_grows [] (suc j) = omega arith
  sum_grows (s ∷ sites) (suc j) =
      omega (arith, sum_by-cons (site_size long) s (take j sites), sum_by-cons (site_size other) s (take j sites), site_grows s, sum_grows sites j)

  further_apart : (sites : List Site) (i j : ℕ) → i ≤ j →
      sum_by (site_size long) (take j sites) + sum_by (site_size other) (take i sites) ≤ sum_by (site_size other) (take j sites) + sum_by (site_size long)
      (take i sites)
  further_apart sites zero j le = omega (arith, sum_grows sites j)
  further_apart [] (suc i) zero le = absurd (omega arith)
  further_apart [] (suc i) (suc j) le = omega arith
  further_apart (s ∷ sites) (suc i) zero le = absurd (omega arith)
  further_apart (s ∷ sites) (suc i) (suc j) le =
      omega (
        arith,
        sum_by-cons (site_size long) s (take j sites),
        sum_by-cons (site_size other) s (take j sites),
        sum_by-cons (site_size long) s (take i sites),
        sum_by-cons (site_size other) s (take i sites),
        further_apart sites i j (omega arith),
      )

-- ---- reach

pub far_up : (a t : ℕ) → a ≤ t → reaches a t ≡ false → a + 4094 < t
far_up a t le not_reached = grind (arith, nat_tests)

far_down : (a t : ℕ) → t ≤ a → reaches a t ≡ false → t + 4096 < a
far_down a t le not_reached = grind (arith, nat_tests)

is_far_up : (b u : ℕ) → b + 4094 < u → reaches b u ≡ false
is_far_up b u lt = grind (arith, nat_tests)

is_far_down : (b u : ℕ) → u + 4096 < b → reaches b u ≡ false
is_far_down b u lt = grind (arith, nat_tests)

le_same : (base x y : ℕ) → int_le (negsuc 4095) (pos (base + x) -ℤ pos (base + y)) ≡ nat_le y (x + 4096)
le_same base x y = grind (arith, nat_tests, ints)

ge_same : (base x y : ℕ) → int_le (pos (base + x) -ℤ pos (base + y)) (pos 4094) ≡ nat_le x (y + 4094)
ge_same base x y = grind (arith, nat_tests, ints)

pub reach_same : (base a t : ℕ) → is_within (negsuc 4095) (pos 4094) (pos (base + t) -ℤ pos (base + a)) ≡ reaches a t
reach_same base a t = (λ i. le_same base t a i && ge_same base t a i) ∙ swap (nat_le a (t + 4096)) (nat_le t (a + 4094))
  where
    swap : (x y : Bool) → (x && y) ≡ (y && x)
    swap true true = refl
    swap true false = refl
    swap false true = refl
    swap false false = refl

prefix : (long : Pos → Bool) (sites : List Site) (i j : ℕ) → i ≤ j → sum_by (site_size long) (take i sites) ≤ sum_by (site_size long) (take j sites)
prefix long sites zero j le = omega arith
prefix long [] (suc i) zero le = absurd (omega arith)
prefix long [] (suc i) (suc j) le = omega arith
prefix long (s ∷ sites) (suc i) zero le = absurd (omega arith)
prefix long (s ∷ sites) (suc i) (suc j) le =
    omega (arith, sum_by-cons (site_size long) s (take j sites), sum_by-cons (site_size long) s (take i sites), prefix long sites i j (omega arith))

-- a branch that doesn't reach doesn't either where more is long
module _ (blocks : List Block) (long other : Pos → Bool) (more : (q : Pos) → long q ≡ true → other q ≡ true) where
  apart_by : (i j a t b u : ℕ) → a ≡ sum_by (site_size long) (take i (sites_from 0 blocks)) → t ≡ sum_by (site_size long) (take j (sites_from 0 blocks)) →
      b ≡ sum_by (site_size other) (take i (sites_from 0 blocks)) → u ≡ sum_by (site_size other) (take j (sites_from 0 blocks)) →
      (i ≤ j) ⊎ (j < i) → reaches a t ≡ false → reaches b u ≡ false
  apart_by i j a t b u ea et eb eu (inl le) far =
      let up : a ≤ t = omega (arith, ea, et, prefix long (sites_from 0 blocks) i j le) in
      is_far_up b u (omega (arith, far_up a t up far, ea, et, eb, eu, further_apart long other more (sites_from 0 blocks) i j le))
  apart_by i j a t b u ea et eb eu (inr lt) far =
      let le : j ≤ i = omega arith in
      let down : t ≤ a = omega (arith, ea, et, prefix long (sites_from 0 blocks) j i le) in
      is_far_down b u (omega (arith, far_down a t down far, ea, et, eb, eu, further_apart long other more (sites_from 0 blocks) j i le))

  order : (i j : ℕ) → (i ≤ j) ⊎ (j < i)
  order zero j = inl (omega arith)
  order (suc i) zero = inr (omega arith)
  order (suc i) (suc j) = elim (order i j) as (λ z. (suc i ≤ suc j) ⊎ (suc j < suc i)) [ inl h ↦ inl (omega arith) | inr h ↦ inr (omega arith) ]

  pub still_far : (b n m : ℕ) (i : Item) → slice_get (items_at blocks b) n ≡ Some i →
      reaches (bytes_before long blocks (pos_in b n)) (bytes_before long blocks (target_point blocks m)) ≡ false →
      reaches (bytes_before other blocks (pos_in b n)) (bytes_before other blocks (target_point blocks m)) ≡ false
  still_far b n m i at far =
      let few : n ≤ length (items_at blocks b) = omega (arith, in_range (items_at blocks b) n i at) in
      let t = suc (index_of (body_of blocks) m) in
      apart_by (items_count (take b blocks) + n) (items_count (take t blocks) + 0)
      (bytes_before long blocks (pos_in b n)) (bytes_before long blocks (target_point blocks m)) (bytes_before other blocks (pos_in b n)) (bytes_before other
      blocks (target_point blocks m))
      (bytes_at long blocks b n few) (bytes_at long blocks t 0 (omega arith)) (bytes_at other blocks b n few) (bytes_at other blocks t 0 (omega arith))
      (order (items_count (take b blocks) + n) (items_count (take t blocks) + 0)) far

-- ---- the same sizes

items_same : (long other : Pos → Bool) → ((q : Pos) → long q ≡ other q) → (b n : ℕ) (items : List Item) → items_size long b n items ≡ items_size other b n items
items_same long other same b n [] = refl
items_same long other same b n (i ∷ items) = λ k. size_of (same (pos_in b n) k) i + items_same long other same b (suc n) items k

blocks_same : (long other : Pos → Bool) → ((q : Pos) → long q ≡ other q) → (b : ℕ) (blocks : List Block) →
    blocks_size long b blocks ≡ blocks_size other b blocks
blocks_same long other same b [] = refl
blocks_same long other same b (x ∷ blocks) = λ k. items_same long other same b 0 x.items k + blocks_same long other same (suc b) blocks k

pub bytes_same : (long other : Pos → Bool) → ((q : Pos) → long q ≡ other q) → (blocks : List Block) (p : Pos) →
    bytes_before long blocks p ≡ bytes_before other blocks p
bytes_same long other same blocks p =
    λ k. blocks_same long other same 0 (take p.block blocks) k + items_same long other same p.block 0 (take p.item (items_at blocks p.block)) k

-- ---- a branch short

same_true : (p q : Pos) → is_same_position p q ≡ true → p ≡ q
same_true p q e =
    let both = parts (nat_eq p.block q.block) (nat_eq p.item q.item) e in
    let b : p.block ≡ q.block = eqb-true p.block q.block both.0 in
    let n : p.item ≡ q.item = eqb-true p.item q.item both.1 in
    λ i. record { block = b i; item = n i }
  where
    parts : (x y : Bool) → (x && y) ≡ true → (x ≡ true) × (y ≡ true)
    parts true true e = (refl, refl)
    parts true false e = absurd cc
    parts false y e = absurd cc

abbrev pub short_at : Pos → (Pos → Bool) → Pos → Bool
short_at p long q = cond (is_same_position p q) false (long q)

short_by : (t : Bool) (was is : Bool) → (t ≡ true → was ≡ false) → (was ≡ true → is ≡ true) → was ≡ true → cond t false is ≡ true
short_by true was is none more holds = let e : was ≡ false = none refl in absurd cc
short_by false was is none more holds = more holds

-- what is long so far is long too where a branch is short that was short
more_short : (long other : Pos → Bool) (p : Pos) → long p ≡ false → ((q : Pos) → long q ≡ true → other q ≡ true) → (q : Pos) → long q ≡ true →
    short_at p other q ≡ true
more_short long other p short more q holds =
    short_by (is_same_position p q) (long q) (other q) (λ e. sym (ap long (same_true p q e)) ∙ short) (more q) holds

pub short_already : (long : Pos → Bool) (p : Pos) → long p ≡ false → (q : Pos) → short_at p long q ≡ long q
short_already long p short q = by_test (is_same_position p q) refl
  where
    by_test : (t : Bool) → is_same_position p q ≡ t → cond t false (long q) ≡ long q
    by_test true e = sym (sym (ap long (same_true p q e)) ∙ short)
    by_test false e = refl

-- ---- the rounds

row_branch : (blocks : List Block) (long : Pos → Bool) (p : Pos) (row : Row) → row_far blocks long p row ≡ true →
    (m : ℕ) × (row_exit row ≡ Perhaps m) × (reaches (bytes_before long blocks p) (bytes_before long blocks (target_point blocks m)) ≡ false)
row_branch blocks long p (Branches op a b n) e = (n, refl, negated (reaches (bytes_before long blocks p) (bytes_before long blocks (target_point blocks n))) e)
  where
    negated : (x : Bool) → not x ≡ true → x ≡ false
    negated true h = sym h
    negated false h = refl
row_branch blocks long p _ e = absurd cc

pub record IsFar (blocks : List Block) (long : Pos → Bool) (p : Pos) : Type 0 where
  pub item : Item
  pub stands : fetch_in (drop p.block blocks) p.item ≡ Here item
  pub target : ℕ
  pub goes : exit_of item.kind ≡ Perhaps target
  pub unreached : reaches (bytes_before long blocks p) (bytes_before long blocks (target_point blocks target)) ≡ false

fetch_is_far : (blocks : List Block) (long : Pos → Bool) (p : Pos) (f : Fetch) → fetch_in (drop p.block blocks) p.item ≡ f → fetch_far blocks long p f ≡ true →
    IsFar blocks long p
fetch_is_far blocks long p (Here i) at e = kind_is_far i i.kind refl at e
  where
    kind_is_far : (x : Item) (kind : ItemKind) → x.kind ≡ kind → fetch_in (drop p.block blocks) p.item ≡ Here x → kind_far blocks long p kind ≡ true →
        IsFar blocks long p
    kind_is_far x (Code c k) is here holds =
        let found = row_branch blocks long p (row_of c) holds in
        record { item = x; stands = here; target = found.0; goes = ap exit_of is ∙ found.1; unreached = found.2 }
    kind_is_far x (Mark v m) is here holds = absurd cc
    kind_is_far x (Phi r k) is here holds = absurd cc
fetch_is_far blocks long p (EndOfBlock k n) at e = absurd cc
fetch_is_far blocks long p Outside at e = absurd cc

-- spans with all that the rounds made long so far
pub record Stage (f : FramedFunction) (base : ℕ) (spans : List Span) : Type 0 where
  pub long : Pos → Bool
  pub is : spans ≡ spans_of f.blocks long
  pub least : (other : Pos → Bool) → IsClosed (record { framed = f; base = base; long = other }) → (p : Pos) → long p ≡ true → other p ≡ true

either_true : (x y : Bool) → (x || y) ≡ true → (x ≡ true) ⊎ ((x ≡ false) × (y ≡ true))
either_true true y e = inl refl
either_true false y e = inr (refl, e)

next_least : (f : FramedFunction) (base : ℕ) (long other : Pos → Bool) → ((p : Pos) → long p ≡ true → other p ≡ true) →
    IsClosed (record { framed = f; base = base; long = other }) → (p : Pos) → next_long f.blocks long p ≡ true → other p ≡ true
next_least f base long other least closed p e =
    elim (either_true (long p) (fetch_far f.blocks long p (fetch_in (drop p.block f.blocks) p.item)) e) as (λ z. other p ≡ true) [
      | inl holds ↦ least p holds
      | inr far ↦
          let found = fetch_is_far f.blocks long p (fetch_in (drop p.block f.blocks) p.item) refl far.1 in
          let there = still_far f.blocks long (short_at p other) (more_short long other p far.0 least) p.block p.item found.target found.item
          (item_at f.blocks p.block p.item found.item found.stands) found.unreached in
          closed p found.target (record { item = found.item; stands = found.stands; goes = found.goes })
          (reach_same base (bytes_before (short_at p other) f.blocks p) (bytes_before (short_at p other) f.blocks (target_point f.blocks found.target)) ∙ there)
    ]

pub staged : (f : FramedFunction) (base : ℕ) (spans others : List Span) → Stage f base spans → Rounds spans others → Stage f base others
staged f base spans others s begun = s
staged f base spans others s (further {others = before} rounds) =
    let was = staged f base spans before s rounds in
    record {
      long = next_long f.blocks was.long;
      is = ap round was.is ∙ rounded f.blocks was.long;
      least = λ other closed. next_least f base was.long other (was.least other closed) closed;
    }

-- ---- the end of the rounds

pub record IsBranch (row : Row) (m : ℕ) : Type 0 where
  pub op : BranchOp
  pub first : ℕ
  pub second : ℕ
  pub is : row ≡ Branches op first second m

pub row_is_branch : (row : Row) (m : ℕ) → row_exit row ≡ Perhaps m → IsBranch row m
row_is_branch (Branches op a b n) m e =
    let same : n ≡ m = cc in record { op = op; first = a; second = b; is = ap (λ (k : ℕ). Branches op a b k) same }
row_is_branch _ m e = absurd cc

-- the span and the reach of a conditional branch
pub record IsBranchKind (blocks : List Block) (kind : ItemKind) (m : ℕ) : Type 0 where
  pub span : (long : Bool) → span_of blocks long kind ≡ cond long (Long (first_of blocks m)) (Short (first_of blocks m))
  pub far : (long : Pos → Bool) (p : Pos) → kind_far blocks long p kind ≡ not (reaches (bytes_before long blocks p) (bytes_before long blocks (target_point
      blocks m)))

pub kind_is_branch : (blocks : List Block) (kind : ItemKind) (m : ℕ) → exit_of kind ≡ Perhaps m → IsBranchKind blocks kind m
kind_is_branch blocks (Code c k) m e =
    let b = row_is_branch (row_of c) m e in
    record { span = λ long. ap (row_span blocks long) b.is; far = λ long p. ap (row_far blocks long p) b.is }
kind_is_branch blocks (Mark v x) m e = absurd cc
kind_is_branch blocks (Phi p k) m e = absurd cc

steady_far : (blocks : List Block) (long : Pos → Bool) (p : Pos) (m : ℕ) (i : Item) → spans_of blocks (next_long blocks long) ≡ spans_of blocks long →
    fetch_in (drop p.block blocks) p.item ≡ Here i → exit_of i.kind ≡ Perhaps m → long p ≡ false →
    reaches (bytes_before long blocks p) (bytes_before long blocks (target_point blocks m)) ≡ false → ⊥
steady_far blocks long p m i steady stands goes short far =
    let kind = kind_is_branch blocks i.kind m goes in
    let next : next_long blocks long p ≡ true =
    (λ k. short k || fetch_far blocks long p (stands k)) ∙ kind.far long p ∙ ap not far in
    let site : Site = record { point = p; item = i } in
    let at : slice_get (sites_from 0 blocks) (items_count (take p.block blocks) + p.item) ≡ Some site =
    site_from 0 blocks p.block p.item (items_count (take p.block blocks) + p.item) p.block i (item_at blocks p.block p.item i stands) refl (omega arith) in
    let found = λ (z : Pos → Bool). slice_get-map (site_span blocks z) (sites_from 0 blocks) (items_count (take p.block blocks) + p.item) ∙
    ap (option_map (site_span blocks z)) at in
    let both : Some (site_span blocks (next_long blocks long) site) ≡ Some (site_span blocks long site) =
    sym (found (next_long blocks long)) ∙ ap (λ (t : List Span). slice_get t (items_count (take p.block blocks) + p.item)) steady ∙ found long in
    let same : site_span blocks (next_long blocks long) site ≡ site_span blocks long site = cc in
    differ (first_of blocks m) (sym ((kind.span (next_long blocks long p)) ∙ ap (λ (z : Bool). cond z (Long (first_of blocks m)) (Short (first_of blocks m)))
    next) ∙ same
    ∙ (kind.span (long p) ∙ ap (λ (z : Bool). cond z (Long (first_of blocks m)) (Short (first_of blocks m))) short))
  where
    differ : (n : ℕ) → Long n ≡ Short n → ⊥
    differ n same = cc

steady_closed : (f : FramedFunction) (base : ℕ) (long : Pos → Bool) → spans_of f.blocks (next_long f.blocks long) ≡ spans_of f.blocks long →
    IsClosed (record { framed = f; base = base; long = long })
steady_closed f base long steady p m branch far = by_test (long p) refl
  where
    by_test : (t : Bool) → long p ≡ t → t ≡ true
    by_test true e = refl
    by_test false e =
        let near = sym (reach_same base (bytes_before (short_at p long) f.blocks p) (bytes_before (short_at p long) f.blocks (target_point f.blocks m))) ∙
        far in
        let same = bytes_same (short_at p long) long (short_already long p e) f.blocks in
        absurd (steady_far f.blocks long p m branch.item steady branch.stands branch.goes e
        ((λ i. reaches (sym (same p) i) (sym (same (target_point f.blocks m)) i)) ∙ near))

-- where rounds from all short ones end, the layout is settled
pub record Ended (f : FramedFunction) (base : ℕ) (spans : List Span) : Type 0 where
  pub long : Pos → Bool
  pub is : spans ≡ spans_of f.blocks long
  pub settled : IsSettled (record { framed = f; base = base; long = long })

pub ended : (f : FramedFunction) (base : ℕ) (spans others : List Span) → spans ≡ spans_of f.blocks (λ p. false) → Settles spans others → Ended f base others
ended f base spans others begun_short settles =
    let first : Stage f base spans = record { long = λ p. false; is = begun_short; least = λ other closed p e. absurd cc } in
    let last = staged f base spans others first settles.rounds in
    let steady : spans_of f.blocks (next_long f.blocks last.long) ≡ spans_of f.blocks last.long =
    sym (rounded f.blocks last.long) ∙ sym (ap round last.is) ∙ settles.steady ∙ last.is in
    record {
      long = last.long;
      is = last.is;
      settled = record { closed = steady_closed f base last.long steady; least = last.least };
    }

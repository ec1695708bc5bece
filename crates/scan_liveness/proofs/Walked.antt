-- The walk upwards over the points of items and of blocks.
use Rattle.std.proofs.Common.{◌≡◌, ℕ, ◌+◌, ◌<◌, List, [], ◌∷◌, ◌++◌, map, reverse, length, slice_index_or, Option, None, Some, Bool}
use Rattle.std.proofs.Common.{◌-◌, is_some, true, false, not, ◌||◌, refl, sym, ap, ◌∙◌, append_assoc, subst, arith}
use Rattle.std.specs.Prelude.{All}
use Rattle.std.proofs.lemmas.Bool.{or_left, or_right}
use Rattle.std.proofs.lemmas.List.{reverse-append}
use Rattle.std.proofs.lemmas.List.Elements.{All-head, All-tail}
use Rattle.rv64_instr.specs.declared.place.Place.{Place}
use Rattle.rv64_instr.specs.declared.place.Place.TheVariants.{Register}
use Rattle.rv64_instr.specs.Instruction.{Instruction}
use Rattle.mir_func.specs.declared.block.Block.{Block}
use Rattle.mir_func.specs.declared.exit.Exit.{Exit}
use Rattle.mir_func.specs.declared.exit.Exit.TheVariants.{Onward}
use Rattle.mir_func.specs.declared.item.Item.{Item}
use Rattle.mir_func.specs.declared.item.ItemKind.{ItemKind}
use Rattle.mir_func.specs.declared.item.ItemKind.TheVariants.{Code, Mark, Phi}
use Rattle.mir_func.specs.Exits.{exit_of}
use Rattle.pass_trait.specs.Causes.{names}
use Rattle.pass_liveness.specs.Sets.{has, has_bit}
use Rattle.pass_liveness.specs.Walk.{live_before, live_across, live_from, live_past}
use Rattle.scan_intervals.specs.Points.{CodePoint, next_of, with_point, is_live_before, is_live_after, points_in, points_of}
use Rattle.scan_intervals.specs.Intervals.{touches, is_blocked}
use Rattle.scan_intervals.specs.Blocked.{has_register}
use Rattle.scan_liveness.specs.declared.extents.Extent.{Extent}
use Rattle.scan_liveness.specs.Extents.{widened, stepped, extent_in}
use Rattle.scan_liveness.specs.Described.{Describes, DescribesPending, is_in, point_of, stepped_at}
use Rattle.pass_liveness.proofs.Places.{has_united}
use Rattle.scan_liveness.proofs.Stepped.{or_same, step_right, step_begun}

-- ---- one point more

pub pushed_length : (masks : List ℕ) (mask : ℕ) → length (masks ++ mask ∷ []) ≡ length masks + 1
pushed_length [] mask = refl
pushed_length (m ∷ ms) mask = let more = pushed_length ms mask in omega (arith, more)

-- code touches what is live before it
live_touches : (p : CodePoint) (r : ℕ) → p.before r ≡ true → touches r p ≡ true
live_touches p r e = or_right (names r (Code p.code None)) (p.before r || p.after r) (or_left (p.before r) (p.after r) e)

pub point_described : (p : CodePoint) (points : List CodePoint) (masks masks' : List ℕ) (mask : ℕ) (pending : ℕ → Bool)
    (extents extents' : List (Option Extent)) → masks' ≡ masks ++ mask ∷ [] → ((r : ℕ) → r < 32 → has_register r mask ≡ is_blocked r p) →
    length extents' ≡ length extents →
    ((k : ℕ) → k < length extents → slice_index_or extents' k None ≡ stepped_at pending p (length masks) (k + 32) (slice_index_or extents k None)) →
    DescribesPending points masks pending extents → DescribesPending (p ∷ points) masks' p.before extents'
point_described p points masks masks' mask pending extents extents' e blocked long each d = record {
  count = (let pushed : length masks' ≡ length masks + 1 = ap length e ∙ pushed_length masks mask in
      let before = d.count in
      omega (arith, pushed, before));
  masked = λ r lt. ap (λ (ms : List ℕ). map (has_register r) (reverse ms)) e ∙
      ap (map (has_register r)) (reverse-append masks (mask ∷ [])) ∙ (λ i. blocked r lt i ∷ d.masked r lt i);
  begun = λ k lt is. (let less : k < length extents = omega (arith, lt, long) in
      ap is_some (each k less) ∙
      step_begun (pending (k + 32)) (p.before (k + 32)) (touches (k + 32) p) (length masks) (slice_index_or extents k None) (live_touches p (k + 32))
      (d.begun k less) is);
  wide = λ k lt. (let less : k < length extents = omega (arith, lt, long) in
      let count = d.count in
      let last : length points - 1 ≡ length masks - 1 = omega (arith, count) in
      let front : length (p ∷ points) - 1 ≡ length masks = omega (arith, count) in
      ap (λ (n : ℕ). widened (p.before (k + 32)) n (slice_index_or extents' k None)) front ∙ ap (widened (p.before (k + 32)) (length masks)) (each k less) ∙
      step_right (pending (k + 32)) (p.before (k + 32)) (touches (k + 32) p) (length masks) (length points - 1) (slice_index_or extents k None)
      (extent_in (touches (k + 32)) points) (live_touches p (k + 32)) (d.begun k less) last (d.wide k less) ∙
      ap (λ (n : ℕ). widened (touches (k + 32) p) n (extent_in (touches (k + 32)) points)) count);
}

-- nothing is pending at first
pub pending_begins : (masks : List ℕ) (extents : List (Option Extent)) (pending : ℕ → Bool) → ((r : ℕ) → pending r ≡ false) → Describes [] masks extents →
    DescribesPending [] masks pending extents
pending_begins masks extents pending none d = record {
  count = d.count;
  masked = d.masked;
  begun = λ k lt is. (let bad : false ≡ true = sym (none (k + 32)) ∙ is in cc);
  wide = λ k lt. ap (λ (z : Bool). widened z 0 (slice_index_or extents k None)) (none (k + 32)) ∙ d.wide k lt;
}

-- and in the end what is pending is widened
pub pending_ends : (points : List CodePoint) (masks : List ℕ) (pending : ℕ → Bool) (extents extents' : List (Option Extent)) (count : ℕ) →
    count ≡ length masks → length extents' ≡ length extents →
    ((k : ℕ) → k < length extents → slice_index_or extents' k None ≡ widened (pending (k + 32)) (count - 1) (slice_index_or extents k None)) →
    DescribesPending points masks pending extents → Describes points masks extents'
pending_ends points masks pending extents extents' count len long each d = record {
  count = d.count;
  masked = d.masked;
  wide = λ k lt. (let less : k < length extents = omega (arith, lt, long) in
      let same = d.count in
      let last : count - 1 ≡ length points - 1 = omega (arith, len, same) in
      each k less ∙ ap (λ (n : ℕ). widened (pending (k + 32)) n (slice_index_or extents k None)) last ∙ d.wide k less);
}

-- ---- items

-- the set is that of the items below those that are left, and their points are described; if it is quiet, the pending registers are those of the set
pub record WalkedItems (S : ℕ → Place → Bool) (slots : List ℕ) (next : Option ℕ) (items above : List Item) (set : List ℕ) (quiet : Bool)
    (old_masks old_pending : List ℕ) (old_extents : List (Option Extent)) (masks pending : List ℕ) (extents : List (Option Extent)) : Type 0 where
  pub below : List Item
  pub all : items ≡ above ++ below
  pub live : (x : Place) → has slots set x ≡ live_from S below next x
  pub settled : quiet ≡ true → (r : ℕ) → is_in slots pending r ≡ is_in slots set r
  pub long : length extents ≡ length old_extents
  pub described : (points : List CodePoint) → DescribesPending points old_masks (is_in slots old_pending) old_extents →
      DescribesPending (points_in S below next ++ points) masks (is_in slots pending) extents

nothing_behind : {A : Type 0} (xs : List A) → xs ≡ xs ++ []
nothing_behind {A} [] = refl
nothing_behind {A} (x ∷ xs) = ap (λ (r : List A). x ∷ r) (nothing_behind xs)

pub items_begin : (S : ℕ → Place → Bool) (slots : List ℕ) (next : Option ℕ) (items : List Item) (set masks pending : List ℕ)
    (extents : List (Option Extent)) → ((x : Place) → has slots set x ≡ live_past S next x) →
    WalkedItems S slots next items items set false masks pending extents masks pending extents
items_begin S slots next items set masks pending extents h = record {
  below = [];
  all = nothing_behind items;
  live = h;
  settled = λ e. cc;
  long = refl;
  described = λ points d. d;
}

with_more : (kind : ItemKind) (make : Instruction → CodePoint) (ps qs : List CodePoint) → with_point kind make (ps ++ qs) ≡ with_point kind make ps ++ qs
with_more (Code i k) make ps qs = refl
with_more (Mark v m) make ps qs = refl
with_more (Phi p k) make ps qs = refl

pub items_go_on : {S : ℕ → Place → Bool} {slots : List ℕ} {next : Option ℕ} {items above : List Item} {set : List ℕ} {quiet : Bool}
    {old_masks old_pending : List ℕ} {old_extents : List (Option Extent)} {masks pending : List ℕ} {extents : List (Option Extent)} →
    WalkedItems S slots next items above set quiet old_masks old_pending old_extents masks pending extents → (rest : List Item) (item : Item) →
    above ≡ rest ++ item ∷ [] → (across up masks' pending' : List ℕ) (extents' : List (Option Extent)) (quiet' : Bool) →
    ((x : Place) → has slots across x ≡ live_across S (exit_of item.kind) (has slots set x) x) →
    ((x : Place) → has slots up x ≡ live_before item.kind (has slots across x) x) →
    (quiet' ≡ true → (r : ℕ) → is_in slots pending' r ≡ is_in slots up r) → length extents' ≡ length extents →
    ((points : List CodePoint) → DescribesPending points masks (is_in slots pending) extents →
    DescribesPending (with_point item.kind (point_of slots up across) points) masks' (is_in slots pending') extents') →
    WalkedItems S slots next items rest up quiet' old_masks old_pending old_extents masks' pending' extents'
items_go_on {S} {slots} {next} {items} {above} {set} {quiet} {old_masks} {old_pending} {old_extents} {masks} {pending} {extents} w rest item e across up
    masks' pending' extents' quiet' over before settled long d =
    let after_is : (x : Place) → has slots across x ≡ live_across S (exit_of item.kind) (live_from S w.below next x) x =
    λ x. over x ∙ ap (λ (b : Bool). live_across S (exit_of item.kind) b x) (w.live x) in
    let before_is : (x : Place) → has slots up x ≡ live_from S (item ∷ w.below) next x =
    λ x. before x ∙ ap (λ (b : Bool). live_before item.kind b x) (after_is x) in
    record {
      below = item ∷ w.below;
      all = w.all ∙ (ap (λ (xs : List Item). xs ++ w.below) e ∙ append_assoc rest (item ∷ []) w.below);
      live = before_is;
      settled = settled;
      long = long ∙ w.long;
      described = λ points h.
          subst (λ (ps : List CodePoint). DescribesPending ps masks' (is_in slots pending') extents')
          ((λ j. with_point item.kind (λ code. record {
            code = code;
            before = λ r. before_is (Register r) j;
            after = λ r. after_is (Register r) j;
          }) (points_in S w.below next ++ points)) ∙
          with_more item.kind (λ code. record {
            code = code;
            before = is_live_before S (item ∷ w.below) next;
            after = is_live_after S item.kind w.below next;
          }) (points_in S w.below next) points)
          (d (points_in S w.below next ++ points) (w.described points h));
    }

pub items_end : {S : ℕ → Place → Bool} {slots : List ℕ} {next : Option ℕ} {items above : List Item} {set : List ℕ} {quiet : Bool}
    {old_masks old_pending : List ℕ} {old_extents : List (Option Extent)} {masks pending : List ℕ} {extents : List (Option Extent)} →
    WalkedItems S slots next items above set quiet old_masks old_pending old_extents masks pending extents → above ≡ [] → (points : List CodePoint) →
    DescribesPending points old_masks (is_in slots old_pending) old_extents →
    DescribesPending (points_in S items next ++ points) masks (is_in slots pending) extents
items_end {S} {slots} {next} {items} {above} {set} {quiet} {old_masks} {old_pending} {old_extents} {masks} {pending} {extents} w e points h =
    subst (λ (is : List Item). DescribesPending (points_in S is next ++ points) masks (is_in slots pending) extents)
    (sym (w.all ∙ ap (λ (xs : List Item). xs ++ w.below) e)) (w.described points h)

-- sets with the same bits have the same places
pub same_places : (slots one other : List ℕ) → ((i : ℕ) → has_bit one i ≡ has_bit other i) → (x : Place) → has slots one x ≡ has slots other x
same_places slots one other h x =
    has_united slots other other one (λ i. h i ∙ sym (or_same (has_bit other i))) x ∙ or_same (has slots other x)

pub not_true : (b : Bool) → not b ≡ true → b ≡ false
not_true true e = cc
not_true false e = refl

pub both_parts : (a b : Bool) → b ≡ (b || a) → a ≡ (a || b) → a ≡ b
both_parts true true e f = refl
both_parts true false e f = sym e
both_parts false true e f = f
both_parts false false e f = refl

-- the pending registers are those that are live after an item from which control goes on, if they were those that are live before the next one
pub still_settled : (S : ℕ → Place → Bool) (slots set across pending : List ℕ) (exit : Exit) → exit ≡ Onward →
    ((x : Place) → has slots across x ≡ live_across S exit (has slots set x) x) → ((r : ℕ) → is_in slots pending r ≡ is_in slots set r) →
    (r : ℕ) → is_in slots pending r ≡ is_in slots across r
still_settled S slots set across pending exit e over settled r =
    settled r ∙ sym (over (Register r) ∙ ap (λ (x : Exit). live_across S x (has slots set (Register r)) (Register r)) e)

-- ---- blocks

of_middle : {A : Type 0} (P : A → Type 0) (rest : List A) (x : A) (below : List A) → All P ((rest ++ x ∷ []) ++ below) → P x
of_middle P [] x below all = All-head P x below all
of_middle P (y ∷ ys) x below all = of_middle P ys x below (All-tail P y ((ys ++ x ∷ []) ++ below) all)

-- the last of the blocks that are left is one of all
pub block_among : (P : Block → Type 0) (blocks rest above : List Block) (b : Block) (below : List Block) → above ≡ rest ++ b ∷ [] →
    blocks ≡ above ++ below → All P blocks → P b
block_among P blocks rest above b below e f all =
    of_middle P rest b below (subst (λ (bs : List Block). All P bs) (f ∙ ap (λ (bs : List Block). bs ++ below) e) all)

-- the blocks below those that are left are described
pub record WalkedBlocks (S : ℕ → Place → Bool) (slots : List ℕ) (blocks above : List Block) (next : Option ℕ) (old_masks old_pending : List ℕ)
    (old_extents : List (Option Extent)) (masks pending : List ℕ) (extents : List (Option Extent)) : Type 0 where
  pub below : List Block
  pub all : blocks ≡ above ++ below
  pub first : next ≡ next_of below
  pub long : length extents ≡ length old_extents
  pub described : DescribesPending [] old_masks (is_in slots old_pending) old_extents →
      DescribesPending (points_of S below) masks (is_in slots pending) extents

pub blocks_begin : (S : ℕ → Place → Bool) (slots : List ℕ) (blocks : List Block) (masks pending : List ℕ) (extents : List (Option Extent)) →
    WalkedBlocks S slots blocks blocks None masks pending extents masks pending extents
blocks_begin S slots blocks masks pending extents =
    record { below = []; all = nothing_behind blocks; first = refl; long = refl; described = λ d. d }

pub blocks_go_on : {S : ℕ → Place → Bool} {slots : List ℕ} {blocks above : List Block} {next : Option ℕ} {old_masks old_pending : List ℕ}
    {old_extents : List (Option Extent)} {masks pending : List ℕ} {extents : List (Option Extent)} →
    WalkedBlocks S slots blocks above next old_masks old_pending old_extents masks pending extents →
    (rest : List Block) (b : Block) → above ≡ rest ++ b ∷ [] → (masks' pending' : List ℕ) (extents' : List (Option Extent)) →
    length extents' ≡ length extents →
    ((points : List CodePoint) → DescribesPending points masks (is_in slots pending) extents →
    DescribesPending (points_in S b.items next ++ points) masks' (is_in slots pending') extents') →
    WalkedBlocks S slots blocks rest (Some b.id) old_masks old_pending old_extents masks' pending' extents'
blocks_go_on {S} {slots} {blocks} {above} {next} {old_masks} {old_pending} {old_extents} {masks} {pending} {extents} w rest b e masks' pending' extents' long
    d = record {
      below = b ∷ w.below;
      all = w.all ∙ (ap (λ (xs : List Block). xs ++ w.below) e ∙ append_assoc rest (b ∷ []) w.below);
      first = refl;
      long = long ∙ w.long;
      described = λ h.
          subst (λ (o : Option ℕ). DescribesPending (points_in S b.items o ++ points_of S w.below) masks' (is_in slots pending') extents') w.first
          (d (points_of S w.below) (w.described h));
    }

pub blocks_end : {S : ℕ → Place → Bool} {slots : List ℕ} {blocks above : List Block} {next : Option ℕ} {old_masks old_pending : List ℕ}
    {old_extents : List (Option Extent)} {masks pending : List ℕ} {extents : List (Option Extent)} →
    WalkedBlocks S slots blocks above next old_masks old_pending old_extents masks pending extents → above ≡ [] →
    DescribesPending [] old_masks (is_in slots old_pending) old_extents → DescribesPending (points_of S blocks) masks (is_in slots pending) extents
blocks_end {S} {slots} {blocks} {above} {next} {old_masks} {old_pending} {old_extents} {masks} {pending} {extents} w e h =
    subst (λ (bs : List Block). DescribesPending (points_of S bs) masks (is_in slots pending) extents)
    (sym (w.all ∙ ap (λ (xs : List Block). xs ++ w.below) e)) (w.described h)

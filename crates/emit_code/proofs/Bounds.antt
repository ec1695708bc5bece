-- Addresses are multiples of 4, and all of a function's are near each other.
use Rattle.std.proofs.Common.{◌≡◌, ℕ, zero, suc, ◌+◌, ◌*◌, ◌%◌, ◌≤◌, Bool, true, false, List, [], ◌∷◌, take, refl, arith}
use Rattle.std.specs.Prelude.{sum_by}
use Rattle.std.proofs.lemmas.List.Sums.{sum_by-cons, sum_by-take-le}
use Rattle.rv64_instr.specs.Row.{Row, row_of}
use Rattle.rv64_instr.specs.LocationEffects.{has_site}
use Rattle.mir_func.specs.declared.block.Block.{Block}
use Rattle.mir_func.specs.declared.item.Item.{Item}
use Rattle.mir_func.specs.declared.item.ItemKind.{ItemKind}
use Rattle.mir_func.specs.declared.item.ItemKind.TheVariants.{Code, Mark, Phi}
use Rattle.mir_func.specs.declared.position.Pos.{Pos}
use Rattle.mir_func.specs.Successors.{pos_in}
use Rattle.mir_func.specs.declared.exit.Exit.{Exit}
use Rattle.mir_func.specs.declared.exit.Exit.TheVariants.{Onward, Perhaps, Always, Final}
use Rattle.mir_func.specs.Exits.{row_exit}
use Rattle.emit_code.specs.Counts.{row_words, kind_count, item_count, count_of, exit_words}
use Rattle.emit_code.specs.Rule as rule
use Rattle.emit_code.specs.Rule.{Form, form_size, row_form, form_of, items_size, blocks_size, items_at, bytes_before, exit_form}

-- ---- multiples of 4

form_aligned : (f : Form) → form_size f % 4 ≡ 0
form_aligned rule.Nothing = refl
form_aligned rule.OneWord = refl
form_aligned rule.CallSite = refl
form_aligned (rule.LongBranch n) = refl

items_aligned : (long : Pos → Bool) (b n : ℕ) (items : List Item) → items_size long b n items % 4 ≡ 0
items_aligned long b n [] = refl
items_aligned long b n (i ∷ items) = omega (arith, form_aligned (form_of (long (pos_in b n)) i.kind), items_aligned long b (suc n) items)

blocks_aligned : (long : Pos → Bool) (b : ℕ) (blocks : List Block) → blocks_size long b blocks % 4 ≡ 0
blocks_aligned long b [] = refl
blocks_aligned long b (x ∷ blocks) = omega (arith, items_aligned long b 0 x.items, blocks_aligned long (suc b) blocks)

pub bytes_aligned : (long : Pos → Bool) (blocks : List Block) (p : Pos) → bytes_before long blocks p % 4 ≡ 0
bytes_aligned long blocks p =
    omega (arith, blocks_aligned long 0 (take p.block blocks), items_aligned long p.block 0 (take p.item (items_at blocks p.block)))

-- ---- few of them

exit_small : (long : Bool) (e : Exit) (site : Bool) → form_size (exit_form long e site) ≤ 4 * exit_words e site
exit_small true (Perhaps n) site = omega arith
exit_small false (Perhaps n) site = omega arith
exit_small long (Always n) site = omega arith
exit_small long Onward true = omega arith
exit_small long Onward false = omega arith
exit_small long Final true = omega arith
exit_small long Final false = omega arith

row_small : (long : Bool) (row : Row) → form_size (row_form long row) ≤ 4 * row_words row
row_small long row = exit_small long (row_exit row) (has_site row)

kind_small : (long : Bool) (kind : ItemKind) → form_size (form_of long kind) ≤ 4 * kind_count kind
kind_small long (Code i k) = row_small long (row_of i)
kind_small long (Mark v m) = omega arith
kind_small long (Phi p k) = omega arith

items_small : (long : Pos → Bool) (b n : ℕ) (items : List Item) → items_size long b n items ≤ 4 * sum_by item_count items
items_small long b n [] = omega arith
items_small long b n (i ∷ items) = omega (arith, kind_small (long (pos_in b n)) i.kind, sum_by-cons item_count i items, items_small long b (suc n) items)

pub before_small : (long : Pos → Bool) (m : ℕ) (blocks : List Block) (b c n : ℕ) →
    blocks_size long m (take b blocks) + items_size long c 0 (take n (items_at blocks b)) ≤ 4 * count_of blocks
before_small long m [] zero c zero = omega arith
before_small long m [] zero c (suc n) = omega arith
before_small long m [] (suc b) c zero = omega arith
before_small long m [] (suc b) c (suc n) = omega arith
before_small long m (x ∷ blocks) zero c n =
    omega (arith, items_small long c 0 (take n x.items), sum_by-take-le item_count x.items n, sum_by-cons (λ (y : Block). sum_by item_count y.items) x blocks)
before_small long m (x ∷ blocks) (suc b) c n =
    omega (arith, items_small long m 0 x.items, before_small long (suc m) blocks b c n, sum_by-cons (λ (y : Block). sum_by item_count y.items) x blocks)

pub bytes_small : (long : Pos → Bool) (blocks : List Block) (p : Pos) → bytes_before long blocks p ≤ 4 * count_of blocks
bytes_small long blocks p = before_small long 0 blocks p.block p.block p.item

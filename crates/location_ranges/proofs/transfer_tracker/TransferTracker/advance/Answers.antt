use Rattle.std.proofs.Common.{◌≡◌, ◌<◌, ◌+◌, ℕ, List, length, drop, get_or, refl, sym, ◌∙◌, ap, arith, subst}
use Rattle.std.proofs.lemmas.Option.{slice_get_read}
use Rattle.mir_func.specs.declared.block.Block.{Block}
use Rattle.mir_func.specs.declared.item.Item.{Item}
use Rattle.mir_func.specs.Graph.{Here, fetch_in}
use Rattle.location_ranges.specs.Stands.{IsBlockAt}
use Rattle.location_ranges.proofs.Resting.{stays_here, stays_on}
use Rattle.location_ranges.proofs.Standing.{fetch_block}
use Rattle.location_ranges.proofs.transfer_tracker.TransferTracker.advance.Goals as goal

fetched : (blocks : List Block) (b k a j : ℕ) (items : List Item) (i : Item) → IsBlockAt blocks b items → k < length items → i ≡ get_or items k i → a ≡ b →
    j ≡ k →
    fetch_in (drop a blocks) j ≡ Here i
fetched blocks b k a j items i at within is block item =
    subst (λ (z : ℕ). fetch_in (drop z blocks) j ≡ Here i) (sym block)
    (subst (λ (z : ℕ). fetch_in (drop b blocks) z ≡ Here i) (sym item)
    (fetch_block blocks b k items i at (slice_get_read items _ k i refl within is)))

pub loop-k-init : goal.loop-k-init
loop-k-init c = record {
  item = refl;
  block = refl;
  fits = c.requires.fits;
  stays = stays_here c.args.self.now;
  stands = λ blocks are at stands. stands;
}

pub loop-k-preserved : goal.loop-k-preserved
loop-k-preserved c =
    let inv = c.loop-k.invariant in
    let pass = c.in_ok-pass.ensures in
    record {
      item = pass.item ∙ ap (λ (n : ℕ). n + 1) inv.item;
      block = pass.block ∙ inv.block;
      fits = pass.fits;
      stays = stays_on c.args.self.now c.loop-k.self c.pass.new.self inv.stays pass.stays;
      stands = λ blocks are at stands. pass.stands blocks are
          (fetched blocks c.args.self.now.block c.loop-k.k c.loop-k.self.block c.loop-k.self.item c.args.items.now c.index-items-k.result at (omega arith)
          c.index-items-k.is inv.block inv.item) (inv.stands blocks are at stands);
    }

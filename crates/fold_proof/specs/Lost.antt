-- The losses of folding.
use Rattle.std.specs.Prelude.{ℕ, List, [], Option, Some, None, Bool, true, false, cond, not, ◌&&◌, nat_eq}
use Rattle.std.specs.Option.{is_some}
use Rattle.std.specs.List.{filter_map, flat_map}
use Rattle.mir_func.specs.declared.block.Block.{Block}
use Rattle.mir_func.specs.declared.item.Item.{Item}
use Rattle.mir_func.specs.declared.item.ItemKind.{ItemKind}
use Rattle.mir_func.specs.declared.item.ItemKind.TheVariants.{Code, Mark, Phi}
use Rattle.mir_func.specs.declared.position.Origin.{Origin}
use Rattle.pass_trait.specs.declared.loss.Reason.{Reason}
use Rattle.pass_trait.specs.declared.loss.Reason.TheVariants.{Bypassed, Unreachable}
use Rattle.pass_trait.specs.declared.loss.Loss.{Loss}
use Rattle.pass_trait.specs.Rule.{number_lost, mark_lost}

-- the only reason for which numbers of code are lost too
abbrev pub is_unreachable : Reason → Bool
is_unreachable Unreachable = true
is_unreachable _ = false

-- the loss of an item for a reason: a debug value, the number of a DBG_PHI, and the number of code of an unreachable block
abbrev pub loss_of : Reason → ItemKind → Origin → Option Loss
loss_of why (Mark v m) o = Some (mark_lost o why)
loss_of why (Phi p k) o = Some (number_lost k why)
loss_of why (Code i (Some k)) o = cond (is_unreachable why) (Some (number_lost k why)) None
loss_of why (Code i None) o = None

-- the losses of a block's items for a reason
abbrev pub lost_in : Reason → List Item → List Loss
lost_in why items = filter_map (λ i. loss_of why i.kind i.origin) items

-- the losses if there is a reason; without one the items are kept
abbrev pub lost_for : Option Reason → List Item → List Loss
lost_for (Some why) items = lost_in why items
lost_for None items = []

-- `end n` is the end of block n's chain, `was n` whether block n is reachable, and `lead n` where it forwards control
module _ (end : ℕ → ℕ) (was : ℕ → Bool) (lead : ℕ → Option ℕ) where
  -- why the items of a block are lost: it is unreachable, or it is bypassed, since it is jump-only and isn't its own end
  abbrev pub reason_for : ℕ → Option Reason
  reason_for n = cond (was n) (cond (is_some (lead n) && not (nat_eq n (end n))) (Some Bypassed) None) (Some Unreachable)

  -- the losses of blocks, in the order of the text
  abbrev pub all_lost : List Block → List Loss
  all_lost blocks = flat_map (λ b. lost_for (reason_for b.id) b.items) blocks

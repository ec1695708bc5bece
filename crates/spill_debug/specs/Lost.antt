-- The losses of debug values and DBG_PHIs of scratch registers.
use Rattle.std.specs.Prelude.{◌≡◌, ◌↔◌, ℕ, List, Option, Some, None, Bool, true, false, cond, Contains}
use Rattle.std.specs.List.{filter_map, flat_map}
use Rattle.rv64_instr.specs.declared.place.Place.TheVariants.{Register}
use Rattle.mir_func.specs.declared.position.Pos.{Pos}
use Rattle.mir_func.specs.declared.position.Origin.{Origin}
use Rattle.mir_func.specs.declared.variable.MarkValue.TheVariants.{At}
use Rattle.mir_func.specs.declared.block.Block.{Block}
use Rattle.mir_func.specs.declared.item.Item.{Item}
use Rattle.mir_func.specs.declared.item.ItemKind.{ItemKind}
use Rattle.mir_func.specs.declared.item.ItemKind.TheVariants.{Mark, Phi}
use Rattle.mir_func.specs.Sound.{items_of}
use Rattle.mir_func.specs.Positions.{position_of}
use Rattle.pass_trait.specs.declared.loss.Loss.{Loss}
use Rattle.pass_trait.specs.declared.loss.Lost.TheVariants as lost
use Rattle.pass_trait.specs.declared.loss.Reason.{Reason}
use Rattle.pass_trait.specs.declared.loss.Reason.TheVariants.{Scratch}
use Rattle.pass_trait.specs.Rule.{number_lost}
use Rattle.spill_code.specs.declared.spilling.Spilling.{Spilling}
use Rattle.spill_code.specs.Rewrite.{slot_of}
use Rattle.spill_debug.specs.RewrittenDebugItems.{is_scratch}

-- the loss of the debug value whose origin has this position
abbrev pub mark_from : Pos → Reason → Loss
mark_from p why = record { what = lost.Mark p; reason = why }

-- the list's members are exactly the losses of the debug values from these positions, for this reason
abbrev pub AreMarksLost : List Pos → Reason → List Loss → Type 0
AreMarksLost marks why losses = (l : Loss) → Contains losses l ↔ ((p : Pos) × Contains marks p × (l ≡ mark_from p why))

-- a scratch register that isn't spilled
abbrev pub is_silent : Spilling → ℕ → (home : Option ℕ) → Bool
is_silent s r None = is_scratch s r
is_silent s r (Some n) = false

-- what is lost of an item: a debug value of a scratch register, or the number of a DBG_PHI of one
abbrev pub LosesScratch : Spilling → ItemKind → Origin → Loss → Type 0
LosesScratch s (Mark v (At r)) o loss = (is_silent s r (slot_of s.homes r) ≡ true) × (loss ≡ mark_from (position_of o) Scratch)
LosesScratch s (Phi (Some (Register r)) k) o loss = (is_scratch s r ≡ true) × (loss ≡ number_lost k Scratch)
LosesScratch s _ o loss = ⊥

-- the list's members are exactly the losses of the items of these blocks
abbrev pub AreScratchLosses : Spilling → List Block → List Loss → Type 0
AreScratchLosses s blocks losses = (l : Loss) → Contains losses l ↔ ((i : Item) × Contains (items_of blocks) i × LosesScratch s i.kind i.origin l)

-- ---- the losses as the code collects them

-- the number of a DBG_PHI of a scratch register
abbrev pub number_silenced : Spilling → ItemKind → Option ℕ
number_silenced s (Phi (Some (Register r)) k) = cond (is_scratch s r) (Some k) None
number_silenced s _ = None

-- the position of the origin of a debug value of a scratch register
abbrev pub mark_silenced : Spilling → ItemKind → Origin → Option Pos
mark_silenced s (Mark v (At r)) o = cond (is_silent s r (slot_of s.homes r)) (Some (position_of o)) None
mark_silenced s _ o = None

-- the numbers of the DBG_PHIs of scratch registers among items
abbrev pub numbers_silenced : Spilling → List Item → List ℕ
numbers_silenced s items = filter_map (λ i. number_silenced s i.kind) items

-- the positions of the debug values of scratch registers among items
abbrev pub marks_silenced : Spilling → List Item → List Pos
marks_silenced s items = filter_map (λ i. mark_silenced s i.kind i.origin) items

-- the numbers of the DBG_PHIs of scratch registers in blocks
abbrev pub all_numbers_silenced : Spilling → List Block → List ℕ
all_numbers_silenced s blocks = flat_map (λ b. numbers_silenced s b.items) blocks

-- the positions of the debug values of scratch registers in blocks
abbrev pub all_marks_silenced : Spilling → List Block → List Pos
all_marks_silenced s blocks = flat_map (λ b. marks_silenced s b.items) blocks
